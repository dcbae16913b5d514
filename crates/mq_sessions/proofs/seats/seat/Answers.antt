use Rattle.std.proofs.Common.{◌≡◌, ◌+◌, ◌++◌, ◌∷◌, [], length, refl, sym, ap, ◌∙◌, arith, rules}
use Rattle.std.specs.Prelude.{slice_get}
use Rattle.std.proofs.lemmas.List.{length_push}
use Rattle.mq_sessions.specs.Seats.{IsUncalled}
use Rattle.mq_queue_side.proofs.ReversedLists.{moved-all, moved-more}
use Rattle.mq_sessions.proofs.seats.seat.Goals as goal

pub loop-chair-preserved : goal.loop-chair-preserved
loop-chair-preserved g c =
    let i = c.loop-chair.invariant in
    let last : c.loop-chair.chairs.items ≡ c.pop.new.self.items ++ c.in-Some.chair ∷ [] = c.in-Some.ensures.items in
    let kit : c.loop-chair.kits.items ≡ c.pop-in-Some.new.self.items ++ (c.in-Some-pop.held, c.in-Some-pop.plan) ∷ [] = c.in-Some-pop.ensures.items in
    let at : c.len.result ≡ length c.pop.new.self.items = search rules in
    let fewer : length c.loop-chair.chairs.items ≡ length c.pop.new.self.items + 1 = ap length last ∙ length_push c.pop.new.self.items c.in-Some.chair in
    let less : length c.loop-chair.kits.items ≡ length c.pop-in-Some.new.self.items + 1 = ap length kit ∙ length_push c.pop-in-Some.new.self.items _ in
    let more : length c.push_reserved.new.self.items ≡ length c.loop-chair.sessions.items + 1 = ap length c.push_reserved.ensures.items ∙ length_push c.loop-chair.sessions.items _ in
    let same = c.push_reserved.ensures.capacity in
    record {
      seated = moved-more (λ s. s.chair) (λ i s. IsUncalled i s.queue s.calls s.wanted.items) c.args.chairs.items c.loop-chair.chairs.items c.pop.new.self.items c.loop-chair.sessions.items c.push_reserved.new.self.items c.len.result c.in-Some.chair _ i.seated last at refl (record { queue_is = refl; calls_are = refl; wanted_are = c.new.ensures.items }) c.push_reserved.ensures.items;
      equipped = moved-more (λ s. (s.held, s.plan)) (λ i s. Unit {0}) c.args.kits.items c.loop-chair.kits.items c.pop-in-Some.new.self.items c.loop-chair.sessions.items c.push_reserved.new.self.items (length c.pop-in-Some.new.self.items) _ _ i.equipped kit refl refl tt c.push_reserved.ensures.items;
      kits = let k = i.kits in omega arith;
      room = let k = i.room in omega arith;
      few = let k = i.few in omega arith;
    }

pub returns-clause-each : goal.returns-clause-each
returns-clause-each g c = λ i s e.
    let none : c.loop-chair.chairs.items ≡ [] = search rules in
    let all = moved-all (λ s. s.chair) (λ i s. IsUncalled i s.queue s.calls s.wanted.items) c.args.chairs.items c.loop-chair.chairs.items c.loop-chair.sessions.items c.loop-chair.invariant.seated none in
    all.1 i s (ap (λ xs. slice_get xs i) (sym c.reverse.ensures.items) ∙ e)
