use Rattle.std.proofs.Common.{◌≡◌, ◌∙◌, ◌++◌, ◌∷◌, [], List, ℕ, sym, ap, arith}
use Rattle.mq_image.specs.Old.{moved_slots}
use Rattle.mq_image.proofs.OldMoves.{moved-more, moved-none}
use Rattle.mq_image.proofs.old.slots_of.Goals as goal

pub loop-slot-init : goal.loop-slot-init
loop-slot-init c = c.in_ok-slots.ensures.items ∙ sym (moved-none _ _ _)

pub loop-slot-preserved : goal.loop-slot-preserved
loop-slot-preserved c =
    let p = c.args.port.now in
    let s = moved_slots p.head p.doorbell p.slots c.loop-slot.slot in
    c.in_ok-push.ensures.items ∙ ap (λ (es : List (List ℕ)). es ++ c.entry_in.result ∷ []) c.loop-slot.invariant ∙ ap (λ (e : List ℕ). s ++ e ∷ []) c.entry_in.ensures ∙ sym (moved-more p.head p.doorbell p.slots c.loop-slot.slot)

pub returns : goal.returns
returns c =
    let p = c.args.port.now in
    let n : c.loop-slot.slot ≡ 4096 = omega arith in
    c.loop-slot.invariant ∙ ap (λ (k : ℕ). moved_slots p.head p.doorbell p.slots k) n
