use Rattle.std.proofs.Common.{◌≡◌, ◌+◌, ◌++◌, length, map, sym, ap, ◌∙◌, arith}
use Rattle.std.proofs.lemmas.List.{length_push, nil_from_length}
use Rattle.mq_sessions.proofs.SeatsLeaving.{left-first, left-last, left-more}
use Rattle.mq_sessions.proofs.seats.leave.Goals as goal

pub loop-session-preserved : goal.loop-session-preserved
loop-session-preserved g c =
    let i = c.loop-session.invariant in
    let last = c.in-Some-pop.ensures.items in
    let pushed = c.push_reserved-in-Some-pop.ensures.items in
    let fewer : length c.loop-session.sessions.items ≡ length c.pop-in-loop-session.new.self.items + 1 = ap length last ∙ length_push c.pop-in-loop-session.new.self.items _ in
    let more : length c.push_reserved-in-Some-pop.new.self.items ≡ length c.loop-session.chairs.items + 1 = ap length pushed ∙ length_push c.loop-session.chairs.items _ in
    let same = c.push_reserved-in-Some-pop.ensures.capacity in
    record {
      left = left-more (λ s. s.chair) c.loop-session.sessions.items c.pop-in-loop-session.new.self.items c.in-Some-pop.session c.loop-session.chairs.items c.push_reserved-in-Some-pop.new.self.items _ last pushed i.left;
      room = let k = i.room in omega arith;
    }

pub loop-helper-init : goal.loop-helper-init
loop-helper-init g c = record {
  left = left-first (λ h. h.chair) c.args.helpers.items c.args.chairs.items c.requires.0;
  room = let few = c.requires.1 in let none = ap length c.requires.0 in let left = c.args.sessions.ok.0 in let more = c.args.helpers.ok.0 in omega arith;
}

pub loop-helper-preserved : goal.loop-helper-preserved
loop-helper-preserved g c =
    let i = c.loop-helper.invariant in
    let last = c.in-Some.ensures.items in
    let pushed = c.push_reserved.ensures.items in
    let fewer : length c.loop-helper.helpers.items ≡ length c.pop.new.self.items + 1 = ap length last ∙ length_push c.pop.new.self.items _ in
    let more : length c.push_reserved.new.self.items ≡ length c.loop-helper.chairs.items + 1 = ap length pushed ∙ length_push c.loop-helper.chairs.items _ in
    let same = c.push_reserved.ensures.capacity in
    record {
      left = left-more (λ h. h.chair) c.loop-helper.helpers.items c.pop.new.self.items c.in-Some.helper c.loop-helper.chairs.items c.push_reserved.new.self.items _ last pushed i.left;
      room = let k = i.room in omega arith;
    }

pub loop-session-init : goal.loop-session-init
loop-session-init g c =
    let i = c.loop-helper.invariant in
    let none = nil_from_length c.loop-helper.helpers.items (sym c.loop-helper.helpers.ok.0 ∙ c.in_default.ensures.cases.0) in
    record {
      left = ap (λ chairs. map (λ s. s.chair) c.args.sessions.items ++ chairs) (left-last (λ h. h.chair) c.loop-helper.helpers.items c.loop-helper.chairs.items _ none i.left);
      room = let k = i.room in omega arith;
    }

pub returns : goal.returns
returns g c =
    let none = nil_from_length c.loop-session.sessions.items (sym c.loop-session.sessions.ok.0 ∙ c.in_default-pop.ensures.cases.0) in
    c.reverse.ensures.items ∙ left-last (λ s. s.chair) c.loop-session.sessions.items c.loop-session.chairs.items _ none c.loop-session.invariant.left
