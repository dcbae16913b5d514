use Rattle.std.proofs.Common.{rules, arith, ◌≡◌, ◌+◌, ◌-◌, ◌∙◌, suc, ap, sym}
use Rattle.mq_turns.specs.Desk.{fresh, laying, opening_of, sessions_from}
use Rattle.mq_turns.proofs.DeskSeats.{seats}
use Rattle.mq_turns.proofs.DeskLaying.{each_snoc, is_seated, set_apart}
use Rattle.mq_turns.proofs.open.seat_all.Goals as goal

pub split_seat-requires : goal.split_seat-requires
split_seat-requires g c = let e = ap (λ m. m.0) c.loop.invariant.rest in let p = ap (λ v. v.parts) e in let lt = c.loop-test.true in
    (search rules, search rules, seats g.M.Machine.meaning _ _ _ _ (omega arith) (ap (λ v. v.held) e) (ap (λ v. v.drawn) e) (ap (λ v. v.read) e) (ap (λ v. v.reading.charged) e) (ap (λ v. v.sessions) e ∙ (λ i. sessions_from (sym e i).session (sym e i).parts)))

pub loop-preserved : goal.loop-preserved
loop-preserved g c =
    let i = c.loop.invariant in
    let o = opening_of c.args.top.now.key in
    let n = c.loop.counter - 1 in
    let k = c.args.chairs - n in
    let e = ap (λ m. m.0) i.rest in
    let range = i.range in
    let lt = c.loop-test.true in
    let here : c.loop.counter ≡ c.loop.counter + 1 - 1 = omega arith in
    let apart = set_apart _ o k n c.loop.place.me.0 e ∙ (let a : k - 1 ≡ c.args.chairs - (c.loop.counter + 1 - 1) = omega arith in let b : suc n ≡ c.loop.counter + 1 - 1 = omega arith in λ j. laying o (a j) (b j) 0) in
    record {
      table = c.split_seat.ensures.0 ∙ i.table;
      rest = c.split_seat.ensures.2 ∙ (λ j. (apart j, (ap (λ m. m.1) i.rest) j));
      range = (omega arith, omega arith);
      list = (let a = c.push_reserved.ensures.len in let b = i.list.0 in omega arith, let a = c.push_reserved.ensures.capacity in let b = i.list.1 in omega arith);
      each = each_snoc (λ m ch. (ch.place.table_id ≡ c.args.top.now.table_id) × (ch.place.me.0 ≡ fresh o m)) c.push_reserved.new.self.items c.loop.list.items _ n c.push_reserved.ensures.items (let b = i.list.0 in omega arith) i.each
          (c.split_seat.ensures.3 ∙ i.table, ap (λ m. m.0) c.split_seat.ensures.4 ∙ is_seated _ o k n c.loop.place.me.0 e);
    }

pub returns-clause-each : goal.returns-clause-each
returns-clause-each g c =
    let i = c.loop.invariant in
    let o = opening_of c.args.top.now.key in
    let n = c.loop.counter - 1 in
    let k = c.args.chairs - n in
    let range = i.range in
    let past = c.loop-test.false in
    let one : k ≡ 1 = omega arith in
    each_snoc (λ m ch. (ch.place.table_id ≡ c.args.top.now.table_id) × (ch.place.me.0 ≡ fresh o m)) c.push_reserved-2.new.self.items c.loop.list.items _ n c.push_reserved-2.ensures.items (let b = i.list.0 in omega arith) i.each
    (i.table, ap (λ m. m.0) i.rest ∙ (λ j. laying o (one j) n 0))
