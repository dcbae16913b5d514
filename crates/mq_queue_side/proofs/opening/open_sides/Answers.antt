use Rattle.std.proofs.Common.{◌≡◌, ◌+◌, ◌++◌, ◌∷◌, [], ℕ, length, sym, ap, subst, ◌∙◌, arith, rules}
use Rattle.std.specs.Prelude.{reverse, slice_get}
use Rattle.std.proofs.lemmas.List.{length_push}
use Rattle.mq_queue_side.specs.Opening.{IsIdle, IsNewSide}
use Rattle.mq_queue_side.proofs.ReversedLists.{moved-all, moved-more, moved-next}
use Rattle.mq_queue_side.proofs.opening.open_sides.Goals as goal

pub open_side-requires : goal.open_side-requires
open_side-requires g c =
    let last : c.loop-port.queues.items ≡ c.pop.new.self.items ++ c.in-Some.port ∷ [] = c.in-Some.ensures.items in
    let at : c.len-in-Some.result ≡ length c.pop.new.self.items = search rules in
    let next = moved-next (λ s. s.pmr.port) (IsNewSide g.P.Port.state c.args.geometry) c.args.queues.items c.loop-port.queues.items c.pop.new.self.items c.loop-port.sides.items c.in-Some.port c.loop-port.invariant.opened last in
    subst (λ (q : ℕ). IsIdle c.args.geometry q (g.P.Port.state c.in-Some.port)) (sym at) (c.requires.idle (length c.pop.new.self.items) c.in-Some.port next)

pub loop-port-preserved : goal.loop-port-preserved
loop-port-preserved g c =
    let last : c.loop-port.queues.items ≡ c.pop.new.self.items ++ c.in-Some.port ∷ [] = c.in-Some.ensures.items in
    let at : c.len-in-Some.result ≡ length c.pop.new.self.items = search rules in
    let fewer : length c.loop-port.queues.items ≡ length c.pop.new.self.items + 1 = ap length last ∙ length_push c.pop.new.self.items c.in-Some.port in
    let more : length c.push_reserved.new.self.items ≡ length c.loop-port.sides.items + 1 = ap length c.push_reserved.ensures.items ∙ length_push c.loop-port.sides.items _ in
    let room = c.loop-port.invariant.room in
    let spare = c.loop-port.invariant.spare in
    let few = c.loop-port.invariant.few in
    let same = c.push_reserved.ensures.capacity in
    let kept = c.pop.ensures.capacity in
    record {
      opened = moved-more (λ s. s.pmr.port) (IsNewSide g.P.Port.state c.args.geometry) c.args.queues.items c.loop-port.queues.items c.pop.new.self.items c.loop-port.sides.items c.push_reserved.new.self.items c.len-in-Some.result c.in-Some.port _ c.loop-port.invariant.opened last at c.in-Ok-open_side.ensures.port c.in-Ok-open_side.ensures.side c.push_reserved.ensures.items;
      room = omega arith;
      spare = omega arith;
      few = omega arith;
    }

pub returns-clause-sides : goal.returns-clause-sides
returns-clause-sides g c = λ q s e.
    let none : c.loop-port.queues.items ≡ [] = search rules in
    let all = moved-all (λ s. s.pmr.port) (IsNewSide g.P.Port.state c.args.geometry) c.args.queues.items c.loop-port.queues.items c.loop-port.sides.items c.loop-port.invariant.opened none in
    let turned : c.reverse.new.self.items ≡ reverse c.loop-port.sides.items = c.reverse.ensures.items in
    all.1 q s (sym (ap (λ ss. slice_get ss q) turned) ∙ e)
