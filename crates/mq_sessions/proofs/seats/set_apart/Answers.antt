use Rattle.std.proofs.Common.{◌≡◌, ◌+◌, ◌++◌, ◌∷◌, [], length, refl, ap, ◌∙◌, arith}
use Rattle.std.proofs.lemmas.List.{length_push}
use Rattle.mq_queue_side.proofs.ReversedLists.{moved-more}
use Rattle.mq_sessions.proofs.seats.set_apart.Goals as goal

pub loop-chairs-preserved : goal.loop-chairs-preserved
loop-chairs-preserved g c =
    let i = c.loop-chairs.invariant in
    let last : c.loop-chairs.chairs.items ≡ c.pop.new.self.items ++ c.in-Some.chair ∷ [] = c.in-Some.ensures.items in
    let fewer : length c.loop-chairs.chairs.items ≡ length c.pop.new.self.items + 1 = ap length last ∙ length_push c.pop.new.self.items c.in-Some.chair in
    let more : length c.push_reserved.new.self.items ≡ length c.loop-chairs.helpers.items + 1 = ap length c.push_reserved.ensures.items ∙ length_push c.loop-chairs.helpers.items _ in
    let same = c.push_reserved.ensures.capacity in
    record {
      moved = moved-more (λ h. h.chair) (λ i h. Unit {0}) c.args.chairs.items c.loop-chairs.chairs.items c.pop.new.self.items c.loop-chairs.helpers.items c.push_reserved.new.self.items (length c.pop.new.self.items) c.in-Some.chair _ i.moved last refl refl tt c.push_reserved.ensures.items;
      some = let k = i.some in omega arith;
      room = let k = i.room in omega arith;
    }
