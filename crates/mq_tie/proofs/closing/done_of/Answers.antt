use Rattle.std.proofs.Common.{◌≡◌, ◌+◌, ◌++◌, ◌∷◌, [], map, take, length, ap, sym, ◌∙◌, arith}
use Rattle.std.proofs.lemmas.List.{length_push, map_more, take_all}
use Rattle.mq_tie.proofs.closing.done_of.Goals as goal

pub push_reserved-requires : goal.push_reserved-requires
push_reserved-requires g c = omega (arith, c.loop-side.done.ok.0, c.loop-side.invariant.long, c.loop-side.invariant.room)

pub loop-side-preserved : goal.loop-side-preserved
loop-side-preserved g c =
    let pushed : c.push_reserved.new.self.items ≡ c.loop-side.done.items ++ c.side-item.result.done ∷ [] = c.push_reserved.ensures.items ∙ ap (λ n. c.loop-side.done.items ++ n ∷ []) c.done.ensures in
    let item = ap (λ s. s.done) c.side-item.is in
    let more = map_more (λ s. s.done) c.args.sides.now c.loop-side.side-index c.side-item.result c.loop-side-test.true in
    let longer : length c.push_reserved.new.self.items ≡ length c.loop-side.done.items + 1 = ap length pushed ∙ length_push c.loop-side.done.items c.side-item.result.done in
    let same = c.push_reserved.ensures.capacity in
    let long = c.loop-side.invariant.long in
    let room = c.loop-side.invariant.room in
    record {
      made = pushed ∙ (ap (λ l. l ++ c.side-item.result.done ∷ []) c.loop-side.invariant.made ∙ (ap (λ n. map (λ s. s.done) (take c.loop-side.side-index c.args.sides.now) ++ n ∷ []) item ∙ sym more));
      long = omega arith;
      room = omega arith;
    }

pub returns : goal.returns
returns g c = c.loop-side.invariant.made ∙ ap (map (λ s. s.done)) (take_all c.loop-side.side-index c.args.sides.now c.loop-side-test.false)
