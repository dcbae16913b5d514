use Rattle.std.proofs.Common.{rules, arith, ◌≡◌, ℕ, suc, ◌+◌, ◌-◌, min, length, sym, ap, ◌∙◌, subst}
use Rattle.mq_turns.specs.Marks.{mark_of}
use Rattle.mq_turns.specs.Swept.{Sweeping}
use Rattle.mq_turns.specs.Words.{after_peek}
use Rattle.mq_turns.specs.AtDesk.{view, start_of}
use Rattle.mq_turns.proofs.Swept.{sweep_begins, sweep_next}
use Rattle.mq_turns.proofs.desk.Desk.read_marks.Goals as goal

pub loop-queue-init : goal.loop-queue-init
loop-queue-init g c =
    let t = c.count-low.ensures.counted in record {
      table = c.count-low.ensures.seat.0;
      fits = search rules;
      bare = ap (λ m. m.1) t ∙ c.args.chair.now.bare;
      sweep = sweep_begins g.M.Machine.meaning _ _ (view c.args.chair.now) _ (ap (λ m. m.0) t) c.count-low.ensures.known c.count-low.ensures.below;
    }

pub loop-queue-preserved : goal.loop-queue-preserved
loop-queue-preserved g c =
    let i = c.loop-queue.invariant in
    let t = c.peek-mark.ensures.peeked in
    let v = view c.args.chair.now in
    let w = c.loop-queue.chair.place.me.0 in
    let mark = c.peek-mark.result in
    let slots : c.slot_count-counter.result ≡ c.args.self.now.table.shared.table_id.slots = c.slot_count-counter.ensures in
    let sides : c.args.self.now.sides ≡ length (start_of c.args.self.now).sides = c.args.self.now.all_sides in
    let q : c.slot_count-counter.result + 1 + c.loop-queue.queue - suc c.args.self.now.table.shared.table_id.slots ≡ c.loop-queue.queue = omega arith in
    let next : suc c.loop-queue.queue ≡ c.loop-queue.queue + 1 = omega arith in
    let low : min c.loop-queue.low (mark - 1) ≡ c.min-low.result = search rules in
    let sweep = sweep_next g.M.Machine.meaning (start_of c.args.self.now) c.loop-queue.queue c.loop-queue.low mark t.0 v w c.peek-mark.new.place.me.0 c.requires.at.1
    (ap (λ m. m.0) t.1 ∙ ap (λ n. after_peek n mark t.0 w) q) (ap (λ n. mark_of n t.0.claims) (sym q) ∙ t.2) t.3
    (subst (λ n. Sweeping g.M.Machine.meaning n c.loop-queue.queue c.loop-queue.low v w) sides i.sweep) in record {
      table = c.peek-mark.ensures.seat.0 ∙ i.table;
      fits = search rules;
      bare = ap (λ m. m.1) t.1 ∙ i.bare;
      sweep = subst (λ (z : ℕ × ℕ × ℕ). Sweeping g.M.Machine.meaning z.0 z.1 z.2 v c.peek-mark.new.place.me.0) (λ j. (sym sides j, next j, low j)) sweep;
    }
