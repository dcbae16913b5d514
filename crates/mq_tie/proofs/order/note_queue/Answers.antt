use Rattle.std.proofs.Common.{◌≡◌, ◌-◌, ◌<◌, ◌≤◌, ℕ, suc, length, Some, ap, sym, subst, ◌∙◌, arith}
use Rattle.std.proofs.lemmas.List.{length-set}
use Rattle.std.specs.Prelude.{vec_len}
use Rattle.mq_tie.specs.Stored.{drawn_at, stored_by}
use Rattle.mq_tie.proofs.StoredEntryPlaces.{HasPlace, has-place, note-kept, note-next}
use Rattle.mq_tie.proofs.Stored.{at-end, at-entry_place}
use Rattle.mq_tie.proofs.order.note_queue.Goals as goal

found : (g : _) (c : goal.After-struct_known-1 g) → drawn_at (stored_by c.args.sides.now) (record { queue = c.args.queue; place = c.loop-place.place }) ≡ Some c.index-stored-place.result
found g c = at-entry_place c.args.sides.now c.args.queue c.index-sides-queue.result c.requires.queue c.index-sides-queue.is c.stored-stored.result.now c.stored-stored.ensures c.loop-place.place c.index-stored-place.result c.loop-place-test.true c.index-stored-place.is

number_is : (g : _) (c : goal.After-struct_known-1 g) → c.number.inside.0 ≡ c.index-stored-place.result.number
number_is g c = c.number.view_is ∙ ap (λ d. d.number) (sym c.index-stored-place.is)

placed : (g : _) (c : goal.After-struct_known-1 g) → HasPlace c.args.base c.index-stored-place.result.number (vec_len c.loop-place.order) (length c.loop-place.order.items)
placed g c =
    let w = c.requires.within _ c.index-stored-place.result (found g c) in
    has-place c.args.base c.index-stored-place.result.number (vec_len c.loop-place.order) (vec_len c.args.order.now) (length c.loop-place.order.items) (length c.args.order.now.items) w.0 w.1 c.args.order.now.ok.0 c.loop-place.invariant.long c.loop-place.order.ok.0

pub overflow_sub-number-inside : goal.overflow_sub-number-inside
overflow_sub-number-inside g c = subst (λ (n : ℕ). c.args.base ≤ n) (sym (number_is g c)) (placed g c).above

pub overflow_sub-number-inside-in-loop-place : goal.overflow_sub-number-inside-in-loop-place
overflow_sub-number-inside-in-loop-place g c = subst (λ (n : ℕ). 1 ≤ n - c.args.base) (sym (number_is g c)) (placed g c).next

pub index_mut-requires : goal.index_mut-requires
index_mut-requires g c = subst (λ (n : ℕ). n - c.args.base - 1 < vec_len c.loop-place.order) (sym (number_is g c)) (placed g c).short

pub loop-place-preserved : goal.loop-place-preserved
loop-place-preserved g c =
    let stands = at-entry_place c.args.sides.now c.args.queue c.index-sides-queue.result c.requires.queue c.index-sides-queue.is c.stored-stored.result.now c.stored-stored.ensures c.loop-place.place c.index-stored-place.result c.loop-place-test.true c.index-stored-place.is in
    let w = c.requires.within _ c.index-stored-place.result stands in
    let place = has-place c.args.base c.index-stored-place.result.number (vec_len c.loop-place.order) (vec_len c.args.order.now) (length c.loop-place.order.items) (length c.args.order.now.items) w.0 w.1 c.args.order.now.ok.0 c.loop-place.invariant.long c.loop-place.order.ok.0 in
    let same : c.number.inside.0 ≡ c.index-stored-place.result.number = c.number.view_is ∙ ap (λ d. d.number) (sym c.index-stored-place.is) in
    let at : c.number.inside.0 - c.args.base - 1 ≡ c.index-stored-place.result.number - suc c.args.base = ap (λ (n : ℕ). n - c.args.base - 1) same ∙ place.at in
    record {
      long = length-set c.loop-place.order.items (c.number.inside.0 - c.args.base - 1) (record { queue = c.args.queue; place = c.loop-place.place }) ∙ c.loop-place.invariant.long;
      kept = λ n h. note-kept (stored_by c.args.sides.now) c.args.base c.loop-place.order.items c.args.queue c.loop-place.place c.index-stored-place.result stands w.0 place.low (c.number.inside.0 - c.args.base - 1) at n (c.loop-place.invariant.kept n h);
      noted = note-next (stored_by c.args.sides.now) c.args.base c.loop-place.order.items c.args.queue c.loop-place.place c.index-stored-place.result stands w.0 place.low (c.number.inside.0 - c.args.base - 1) at c.loop-place.invariant.noted;
    }

pub returns-clause-noted : goal.returns-clause-noted
returns-clause-noted g c = λ place d e.
    let short = at-end c.args.sides.now c.args.queue c.index-sides-queue.result c.requires.queue c.index-sides-queue.is c.stored-stored.result.now c.stored-stored.ensures place d e in
    c.loop-place.invariant.noted place d (let last = c.loop-place-test.false in omega arith) e
