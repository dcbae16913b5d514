use Rattle.std.proofs.Common.{◌<◌, ◌+◌, length, sym, subst, refl}
use Rattle.mq_ledger.specs.Records.{Ledger}
use Rattle.mq_ledger.specs.Tables.{ledger_of}
use Rattle.mq_ledger.proofs.TablesLedgers.{settling_fits, settling_tables}
use Rattle.mq_ledger.proofs.records.Ledger.advance_front.Goals as goal

pub mark-requires-clause-freed : goal.mark-requires-clause-freed
mark-requires-clause-freed c = let Less : Ledger → Type 0 = λ v. v.front < v.base + length v.history in (settling_fits (ledger_of c.self.inside) c.self.inside.newest.items c.self.inside.settled.items c.self.inside.queue_rows.items c.self.inside.ends.items c.self.invariant (subst Less (sym c.self.view_is) c.requires) c.self.inside.history.items c.index.result.now refl c.index.ensures).freed

pub mark-requires-clause-logged : goal.mark-requires-clause-logged
mark-requires-clause-logged c = let Less : Ledger → Type 0 = λ v. v.front < v.base + length v.history in (settling_fits (ledger_of c.self.inside) c.self.inside.newest.items c.self.inside.settled.items c.self.inside.queue_rows.items c.self.inside.ends.items c.self.invariant (subst Less (sym c.self.view_is) c.requires) c.self.inside.history.items c.index.result.now refl c.index.ensures).logged

pub mark-requires-clause-direct : goal.mark-requires-clause-direct
mark-requires-clause-direct c = let Less : Ledger → Type 0 = λ v. v.front < v.base + length v.history in (settling_fits (ledger_of c.self.inside) c.self.inside.newest.items c.self.inside.settled.items c.self.inside.queue_rows.items c.self.inside.ends.items c.self.invariant (subst Less (sym c.self.view_is) c.requires) c.self.inside.history.items c.index.result.now refl c.index.ensures).direct

pub mark-requires-clause-few : goal.mark-requires-clause-few
mark-requires-clause-few c = let Less : Ledger → Type 0 = λ v. v.front < v.base + length v.history in (settling_fits (ledger_of c.self.inside) c.self.inside.newest.items c.self.inside.settled.items c.self.inside.queue_rows.items c.self.inside.ends.items c.self.invariant (subst Less (sym c.self.view_is) c.requires) c.self.inside.history.items c.index.result.now refl c.index.ensures).few

pub invariant_of-self : goal.invariant_of-self
invariant_of-self c = let Less : Ledger → Type 0 = λ v. v.front < v.base + length v.history in settling_tables (ledger_of c.self.inside) c.self.inside.newest.items c.self.inside.settled.items c.self.inside.queue_rows.items c.self.inside.ends.items c.self.invariant (subst Less (sym c.self.view_is) c.requires) c.self.inside.history.items c.index.result.now refl c.index.ensures c.mark.new.table.items c.mark.ensures
