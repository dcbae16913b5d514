use Rattle.std.proofs.Common.{◌≡◌, length, subst, refl, vec_len, arith, rules}
use Rattle.std.proofs.lemmas.List.{length-reverse}
use Rattle.mq_ledger.specs.Records.{Ledger, IsNextEnd}
use Rattle.mq_ledger.specs.Tables.{ledger_of}
use Rattle.mq_ledger.proofs.RecordsNexts.{ends_length, next_ends, more_of}
use Rattle.mq_ledger.proofs.records.Ledger.next_end.Goals as goal

pub index-requires : goal.index-requires
index-requires c =
    let size : c.len.result ≡ length c.self.inside.history.items = search rules in
    let ends : vec_len c.self.inside.ends ≡ length c.self.inside.ends.items = search rules in
    let same = ends_length (ledger_of c.self.inside) c.self.inside.newest.items c.self.inside.settled.items c.self.inside.queue_rows.items c.self.inside.ends.items c.self.invariant in
    let long = length-reverse c.self.inside.history.items in
    let few = c.if-at-len.false in
    omega arith

pub returns-clause-is : goal.returns-clause-is
returns-clause-is c =
    let Next : Ledger → Type 0 = λ v. IsNextEnd v (record { queue = c.index-tx.result.now.queue; count = c.index.result.now }) in
    let size : c.len.result ≡ length c.self.inside.history.items = search rules in
    subst Next c.self.view_is (next_ends (ledger_of c.self.inside) c.self.inside.newest.items c.self.inside.settled.items c.self.inside.queue_rows.items c.self.inside.ends.items c.self.invariant (more_of c.self.inside c.len.result size c.self.invariant.front_low c.if-at-len.false) c.self.inside.history.items c.index-tx.result.now refl c.index-tx.ensures c.index-tx.result.now.queue c.index.result.now refl c.index.ensures)
