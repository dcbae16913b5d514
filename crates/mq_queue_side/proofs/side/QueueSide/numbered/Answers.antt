use Rattle.std.proofs.Common.{◌≡◌, ◌+◌, ◌∷◌, length, ap, ◌∙◌, arith}
use Rattle.mq_queue_side.specs.Commits.{descriptor_size}
use Rattle.mq_queue_side.specs.Stored.{rows_of, next_in}
use Rattle.mq_queue_side.proofs.Stored.{rows_more}
use Rattle.mq_queue_side.proofs.side.QueueSide.numbered.Goals as goal

pub returns-clause-rows : goal.returns-clause-rows
returns-clause-rows g c =
    let stored = c.args.self.now.stored.items in
    let first : next_in (rows_of c.deref.result.now) ≡ next_in (rows_of stored) = ap (λ xs. next_in (rows_of xs)) c.deref.ensures.value in
    let place = c.next_place-first.ensures in
    let size = c.copies.ensures in
    let more = c.further.ensures.is in
    let next : c.next_place-first.result + (c.copies.result + (c.further.result + 1)) ≡ next_in (rows_of stored) + (length c.args.prepared.logged + descriptor_size (length c.args.prepared.logged) (length c.args.prepared.revoked)) = omega (arith, first, place, size, more) in
    ap rows_of c.store.ensures ∙ rows_more stored _ ∙ (λ i. record { number = c.args.tx; next = next i } ∷ rows_of stored)
