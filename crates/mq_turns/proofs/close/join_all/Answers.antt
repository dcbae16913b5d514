use Rattle.std.proofs.Common.{rules, arith, ap, ◌∙◌, ◌≡◌, ◌≤◌, ◌++◌, map, []}
use Rattle.mq_turns.specs.Desk.{drawn_of, read_of, charged_of, joined, IsInOrder}
use Rattle.mq_turns.proofs.DeskSeats.{glues}
use Rattle.mq_turns.proofs.DeskOrder.{order_before}
use Rattle.mq_turns.proofs.DeskEnding.{all_last, parts_last, drawn_moves, read_moves, charged_moves, each_last}
use Rattle.mq_turns.proofs.close.join_all.Goals as goal

pub count-requires : goal.count-requires
count-requires g c = let t = all_last (λ (ch : _). (ch.place.table_id ≡ c.args.top.now.table_id) × (ch.place.me.0.held ≡ [])) _ _ _ c.in-Some.ensures.items c.loop-other.invariant.theirs in
    record { table = (t.0.0, c.requires.counter.0, c.requires.counter.1, let live = c.in-Some.field-0.live in omega arith) }

pub join_seat-requires : goal.join_seat-requires
join_seat-requires g c =
    let i = c.loop-other.invariant in
    let t = all_last (λ (ch : _). (ch.place.table_id ≡ c.args.top.now.table_id) × (ch.place.me.0.held ≡ [])) _ _ _ c.in-Some.ensures.items i.theirs in
    let now = c.count.ensures.counted in (
      search rules,
      c.count.ensures.seat.0 ∙ t.0.0,
      ap (λ m. m.1) now ∙ c.in-Some.field-0.bare,
      search rules,
      glues g.M.Machine.meaning _ _ _ _ _ _ i.table.4 (ap (λ m. m.0.parts) now ∙ c.in-Some.field-0.live) (ap (λ m. m.0.held) now ∙ t.0.1) (ap (λ m. m.0.hand) now ∙ c.in-Some.field-0.quiet),
    )

pub loop-other-preserved : goal.loop-other-preserved
loop-other-preserved g c =
    let i = c.loop-other.invariant in
    let t = all_last (λ (ch : _). (ch.place.table_id ≡ c.args.top.now.table_id) × (ch.place.me.0.held ≡ [])) _ _ _ c.in-Some.ensures.items i.theirs in
    let p = parts_last (λ (ch : _). ch.place.me.0) _ _ _ c.in-Some.ensures.items in
    let counted = c.count.ensures.counted in
    let now = c.join_seat.ensures.2 ∙ ap (λ m. (joined c.loop-other.place.me.0 m.0, c.loop-other.place.me.1)) counted in
    let parts_now = ap (λ m. m.0.parts) now in
    let parts_was = i.parts in
    let live = i.table.4 in
    let mine = order_before g.M.Machine.meaning c.count.result c.in-Some.field-0.place.me.0 _ (ap (λ m. m.0) counted) (c.count.ensures.order c.in-Some.field-0.live) in
    record {
      table = (search rules, search rules, search rules, search rules, omega (arith, parts_now, live));
      theirs = t.1;
      order = λ all. i.order (each_last (λ (ch : _). ch.place.me.0) (IsInOrder g.M.Machine.meaning) _ _ _ c.in-Some.ensures.items mine all);
      parts = omega (arith, p, parts_now, parts_was);
      drawn = ap (λ m. m.0.drawn ++ drawn_of (map (λ ch. ch.place.me.0) c.pop.new.self.items)) now ∙ (drawn_moves (λ ch. ch.place.me.0) _ _ _ _ c.in-Some.ensures.items ∙ i.drawn);
      charged = ap (λ m. m.0.reading.charged ++ charged_of (map (λ ch. ch.place.me.0) c.pop.new.self.items)) now ∙ (charged_moves (λ ch. ch.place.me.0) _ _ _ _ c.in-Some.ensures.items ∙ i.charged);
      done = λ n le all. let both = ap (λ m. m.0.reading.done) now in i.done n (omega arith) (each_last (λ (ch : _). ch.place.me.0) (λ v. v.reading.done ≤ n) _ _ _ c.in-Some.ensures.items (omega arith) all);
      based = λ n le all. let both = ap (λ m. m.0.reading.base) now in i.based n (omega arith) (each_last (λ (ch : _). ch.place.me.0) (λ v. v.reading.base ≤ n) _ _ _ c.in-Some.ensures.items (omega arith) all);
      seen = λ n le all. let both = ap (λ m. m.0.seen) now in let low = c.count.ensures.below.0 in i.seen n (omega arith) (each_last (λ (ch : _). ch.place.me.0) (λ v. v.seen ≤ n) _ _ _ c.in-Some.ensures.items (omega arith) all);
      read = ap (λ m. m.0.read ++ read_of (map (λ ch. ch.place.me.0) c.pop.new.self.items)) now ∙ (read_moves (λ ch. ch.place.me.0) _ _ _ _ c.in-Some.ensures.items ∙ i.read);
    }
