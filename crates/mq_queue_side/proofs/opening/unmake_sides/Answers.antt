use Rattle.std.proofs.Common.{◌≡◌, ◌+◌, ◌++◌, ◌∷◌, [], length, vec_len, ap, ◌∙◌, arith, rules}
use Rattle.std.proofs.lemmas.List.{length_push}
use Rattle.mq_queue_side.proofs.ReversedLists.{back-more}
use Rattle.mq_queue_side.proofs.opening.unmake_sides.Goals as goal

pub push_reserved-requires : goal.push_reserved-requires
push_reserved-requires g c =
    let fewer : length c.loop-side.sides.items ≡ length c.pop.new.self.items + 1 = ap length c.in-Some.ensures.items ∙ length_push c.pop.new.self.items c.in-Some.side in
    let count : vec_len c.loop-side.ports ≡ length c.loop-side.ports.items = search rules in
    let room = c.loop-side.invariant.room in
    omega arith

pub loop-side-preserved : goal.loop-side-preserved
loop-side-preserved g c =
    let last : c.loop-side.sides.items ≡ c.pop.new.self.items ++ c.in-Some.side ∷ [] = c.in-Some.ensures.items in
    let port = c.into_port.ensures.port ∙ ap (λ q. q.port) c.into_pmr.ensures in
    let pushed : c.push_reserved.new.self.items ≡ c.loop-side.ports.items ++ c.in-Some.side.pmr.port ∷ [] = c.push_reserved.ensures.items ∙ ap (λ p. c.loop-side.ports.items ++ p ∷ []) port in
    let fewer : length c.loop-side.sides.items ≡ length c.pop.new.self.items + 1 = ap length last ∙ length_push c.pop.new.self.items c.in-Some.side in
    let more : length c.push_reserved.new.self.items ≡ length c.loop-side.ports.items + 1 = ap length pushed ∙ length_push c.loop-side.ports.items c.in-Some.side.pmr.port in
    let room = c.loop-side.invariant.room in
    let same = c.push_reserved.ensures.capacity in
    record {
      back = back-more (λ s. s.pmr.port) c.loop-side.ports.items c.push_reserved.new.self.items c.loop-side.sides.items c.pop.new.self.items c.in-Some.side last pushed ∙ c.loop-side.invariant.back;
      room = omega arith;
    }
