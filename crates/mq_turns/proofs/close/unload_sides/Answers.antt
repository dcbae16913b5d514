use Rattle.std.proofs.Common.{rules, arith, ◌≡◌, ◌+◌, length, false, get_or, set, ap, sym, ◌∙◌, subst, Some, ⊎_elim, get_or-set_other, get_or-set_same, vec_len}
use Rattle.std.specs.Slots.{slots_items, slots_filled, slots_counts}
use Rattle.std.specs.Prelude.{slice_get}
use mathlib.Core.Option.{some}
use mathlib.Core.Logic.{dite}
use native.Mathlib.Decide.{ℕ_discrete}
use lib.ListN.{get_elem?}
use Rattle.mq_turns.specs.declared.turn.Item.TheVariants.{Side}
use Rattle.mq_turns.proofs.DeskLaying.{get_snoc}
use Rattle.mq_turns.proofs.DeskEnding.{not_none, found}
use Rattle.mq_turns.proofs.close.unload_sides.Goals as goal

pub unreachable-requires : goal.unreachable-requires
unreachable-requires g c = let h = c.requires.home c.loop-k.k (search rules) in
    not_none (slots_items c.loop-k.closed.slots) (c.args.pages + c.loop-k.k) (Side h.0) c.take-slot.result (ap (λ l. get_elem? l (c.args.pages + c.loop-k.k)) c.loop-k.invariant.same.0 ∙ h.1) c.take-slot.ensures.value c.in_default.is

pub unreachable-requires-in_default-item : goal.unreachable-requires-in_default-item
unreachable-requires-in_default-item g c = let h = c.requires.home c.loop-k.k (search rules) in
    c.in_default-item.not-Side h.0 (found (slots_items c.loop-k.closed.slots) (c.args.pages + c.loop-k.k) (Side h.0) c.take-slot.result c.in-Some.item (ap (λ l. get_elem? l (c.args.pages + c.loop-k.k)) c.loop-k.invariant.same.0 ∙ h.1) c.take-slot.ensures.value c.in-Some.is)

pub loop-k-preserved : goal.loop-k-preserved
loop-k-preserved g c =
    let i = c.loop-k.invariant in
    let t = c.take-slot.ensures in
    let deep = slots_counts c.loop-k.closed.slots in
    let lt = c.loop-k-test.true in
    let room = c.requires.room in
    record {
      same = (t.others.0 ∙ i.same.0, t.others.2 ∙ i.same.1, t.others.3 ∙ i.same.2);
      left = λ j lo hi. ap (λ l. get_or l j false) t.others.1 ∙ (get_or-set_other _ (c.args.pages + c.loop-k.k) j false false (λ e. omega arith) ∙ i.left j (omega arith) hi);
      gone = λ j lt'. dite (ℕ_discrete j (c.args.pages + c.loop-k.k))
          (λ e. ap (λ l. get_or l j false) t.others.1 ∙ subst (λ n. get_or (set (slots_filled c.loop-k.closed.slots) (c.args.pages + c.loop-k.k) false) n false ≡ false) (sym e)
          (get_or-set_same _ (c.args.pages + c.loop-k.k) false false (let z = deep.1 in let y = i.same.1 in omega arith)))
          (λ ne. ap (λ l. get_or l j false) t.others.1 ∙ (get_or-set_other _ (c.args.pages + c.loop-k.k) j false false ne ∙ i.gone j (omega arith)));
      room = (search rules, search rules);
      sides = λ j x e. ⊎_elim (λ f. i.sides j x f)
          (λ f.
          let n : length c.loop-k.sides.items ≡ vec_len c.loop-k.sides = search rules in
          let at : j ≡ c.loop-k.k = f.0 ∙ (n ∙ i.room.0) in
          let is : c.take-slot.result ≡ Some (Side c.in-Side.side) = search rules in
          ap (λ m. get_elem? (slots_items c.args.closed.now.slots) (c.args.pages + m)) at ∙ (ap (λ l. get_elem? l (c.args.pages + c.loop-k.k)) (sym i.same.0) ∙ (t.value ∙ ap some (is ∙ ap (λ p. Some (Side p)) f.1))))
          (get_snoc c.loop-k.sides.items c.in-Side.side x j (ap (λ l. slice_get l j) (sym c.push_reserved.ensures.items) ∙ e));
    }
