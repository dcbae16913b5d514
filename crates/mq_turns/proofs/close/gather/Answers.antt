use Rattle.std.proofs.Common.{arith, ap, ◌∙◌, ◌≡◌, ◌≤◌, ◌++◌, map, []}
use Rattle.mq_turns.specs.Desk.{drawn_of, read_of, charged_of, IsInOrder}
use Rattle.mq_turns.proofs.DeskOrder.{order_before}
use Rattle.mq_turns.proofs.DeskEnding.{all_last, parts_last, parts_of, drawn_moves, read_moves, charged_moves, each_last}
use Rattle.mq_turns.proofs.close.gather.Goals as goal

pub count-requires : goal.count-requires
count-requires g c = let t = all_last (λ (ch : _). (ch.place.table_id ≡ c.args.top.now.table_id) × (ch.place.me.0.held ≡ [])) _ _ _ c.in-Some.ensures.items c.requires.theirs in
    record { table = (t.0.0, c.requires.counter.0, c.requires.counter.1, let live = c.in-Some.field-0.live in omega arith) }

pub join_all-requires-clause-table : goal.join_all-requires-clause-table
join_all-requires-clause-table g c = let t = all_last (λ (ch : _). (ch.place.table_id ≡ c.args.top.now.table_id) × (ch.place.me.0.held ≡ [])) _ _ _ c.in-Some.ensures.items c.requires.theirs in
    let now = c.count.ensures.counted in
    (c.count.ensures.seat.0 ∙ t.0.0, ap (λ m. m.1) now ∙ c.in-Some.field-0.bare, ap (λ m. m.0.held) now ∙ t.0.1, let parts = ap (λ m. m.0.parts) now in let live = c.in-Some.field-0.live in omega arith)

pub returns : goal.returns
returns g c =
    let t = all_last (λ (ch : _). (ch.place.table_id ≡ c.args.top.now.table_id) × (ch.place.me.0.held ≡ [])) _ _ _ c.in-Some.ensures.items c.requires.theirs in
    let now = c.count.ensures.counted in
    let p = parts_last (λ (ch : _). ch.place.me.0) _ _ _ c.in-Some.ensures.items in
    let parts = ap (λ m. m.0.parts) now in
    let q = c.join_all.ensures.parts in
    let n = parts_of (λ (ch : _). ch.place.me.0) (λ ch. ch.live) c.args.chairs.items in
    let mine = order_before g.M.Machine.meaning c.count.result c.in-Some.field-0.place.me.0 _ (ap (λ m. m.0) now) (c.count.ensures.order c.in-Some.field-0.live) in
    record {
      seat = (c.join_all.ensures.seat.0 ∙ (c.count.ensures.seat.0 ∙ t.0.0), c.join_all.ensures.seat.2, c.join_all.ensures.seat.3);
      parts = omega (arith, p, parts, q, n);
      all = (
        c.join_all.ensures.all.0 ∙ (ap (λ m. m.0.drawn ++ drawn_of (map (λ ch. ch.place.me.0) c.pop.new.self.items)) now ∙ drawn_moves (λ ch. ch.place.me.0) _ _ _ [] c.in-Some.ensures.items),
        c.join_all.ensures.all.1 ∙ (ap (λ m. m.0.read ++ read_of (map (λ ch. ch.place.me.0) c.pop.new.self.items)) now ∙ read_moves (λ ch. ch.place.me.0) _ _ _ [] c.in-Some.ensures.items),
      );
      charged = c.join_all.ensures.charged ∙ (ap (λ m. m.0.reading.charged ++ charged_of (map (λ ch. ch.place.me.0) c.pop.new.self.items)) now ∙ charged_moves (λ ch. ch.place.me.0) _ _ _ [] c.in-Some.ensures.items);
      done = let same = ap (λ m. m.0.reading.done) now in let le = c.join_all.ensures.done.0 in each_last (λ (ch : _). ch.place.me.0) (λ v. v.reading.done ≤ c.join_all.new.place.me.0.reading.done) _ _ _ c.in-Some.ensures.items (omega arith) c.join_all.ensures.done.1;
      based = let same = ap (λ m. m.0.reading.base) now in let le = c.join_all.ensures.based.0 in each_last (λ (ch : _). ch.place.me.0) (λ v. v.reading.base ≤ c.join_all.new.place.me.0.reading.base) _ _ _ c.in-Some.ensures.items (omega arith) c.join_all.ensures.based.1;
      seen = let same = ap (λ m. m.0.seen) now in let low = c.count.ensures.below.0 in let le = c.join_all.ensures.seen.0 in each_last (λ (ch : _). ch.place.me.0) (λ v. v.seen ≤ c.join_all.new.place.me.0.seen) _ _ _ c.in-Some.ensures.items (omega arith) c.join_all.ensures.seen.1;
      order = each_last (λ (ch : _). ch.place.me.0) (IsInOrder g.M.Machine.meaning) _ _ _ c.in-Some.ensures.items mine c.join_all.ensures.order;
    }
