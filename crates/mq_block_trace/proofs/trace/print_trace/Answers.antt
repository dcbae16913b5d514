use Rattle.std.proofs.Common.{◌≡◌, ◌≤◌, ◌+◌, ◌-◌, ◌*◌, ℕ, length, ◌∙◌, ap, arith}
use Rattle.mq_block_trace.specs.Lines.{map_after}
use Rattle.mq_block_trace.specs.Prefixes.{events_of}
use Rattle.mq_block_trace.proofs.Fronts.{Lines}
use Rattle.mq_block_trace.proofs.MarksLines.{marks_more}
use Rattle.mq_block_trace.proofs.WriterLines.{all_written, count_more, left_more, stopped, there, went_on}
use Rattle.mq_block_trace.proofs.trace.print_trace.Goals as goal

pub overflow_add-tx-in-loop-line : goal.overflow_add-tx-in-loop-line
overflow_add-tx-in-loop-line c =
    let line = there c.deref-line-items.result.now c.args.text.now c.loop-line.line-index c.line-item.result c.requires.good (c.deref-line-items.ensures.value ∙ c.text.view_is) c.loop-line-test.true c.line-item.is in
    omega (arith, line.few, c.loop-line.invariant.count)

pub overflow_add-tx-in-loop-line-2 : goal.overflow_add-tx-in-loop-line-2
overflow_add-tx-in-loop-line-2 c =
    let line = there c.deref-line-items.result.now c.args.text.now c.loop-line.line-index c.line-item.result c.requires.good (c.deref-line-items.ensures.value ∙ c.text.view_is) c.loop-line-test.true c.line-item.is in
    omega (arith, line.few, c.sets.ensures)

pub push_line-requires-clause-good : goal.push_line-requires-clause-good
push_line-requires-clause-good c =
    (there c.deref-line-items.result.now c.args.text.now c.loop-line.line-index c.line-item.result c.requires.good (c.deref-line-items.ensures.value ∙ c.text.view_is) c.loop-line-test.true c.line-item.is).good

pub push_line-requires-clause-few : goal.push_line-requires-clause-few
push_line-requires-clause-few c =
    let line = there c.deref-line-items.result.now c.args.text.now c.loop-line.line-index c.line-item.result c.requires.good (c.deref-line-items.ensures.value ∙ c.text.view_is) c.loop-line-test.true c.line-item.is in
    omega (arith, line.few, c.sets.ensures)

pub push_line-requires-clause-low : goal.push_line-requires-clause-low
push_line-requires-clause-low c =
    let line = there c.deref-line-items.result.now c.args.text.now c.loop-line.line-index c.line-item.result c.requires.good (c.deref-line-items.ensures.value ∙ c.text.view_is) c.loop-line-test.true c.line-item.is in
    omega (arith, line.few, c.loop-line.invariant.count)

pub events-requires : goal.events-requires
events-requires c =
    let line = there c.deref-line-items.result.now c.args.text.now c.loop-line.line-index c.line-item.result c.requires.good (c.deref-line-items.ensures.value ∙ c.text.view_is) c.loop-line-test.true c.line-item.is in
    omega (arith, line.few, c.sets.ensures)

pub events-requires-in-loop-line : goal.events-requires-in-loop-line
events-requires-in-loop-line c =
    let line = there c.deref-line-items.result.now c.args.text.now c.loop-line.line-index c.line-item.result c.requires.good (c.deref-line-items.ensures.value ∙ c.text.view_is) c.loop-line-test.true c.line-item.is in
    omega (arith, line.few, c.sets.ensures)

pub returns-then-left-events : goal.returns-then-left-events
returns-then-left-events c =
    let lines : Lines = c.args.text.now in
    let k : ℕ = c.loop-line.line-index in
    let inv = c.loop-line.invariant in
    let line = there c.deref-line-items.result.now lines k c.line-item.result c.requires.good (c.deref-line-items.ensures.value ∙ c.text.view_is) c.loop-line-test.true c.line-item.is in
    let short = c.if-left-events.true in
    let events : c.events.result ≡ 2 * (c.sets.result + 1) + 4 = c.events.ensures in
    stopped c.args.geometry lines c.args.cut k c.loop-line.left line.less inv.left c.line-item.result line.is (c.loop-line.tx.number + 1) (c.loop-line.tx.count + c.loop-line.tx.entries) (c.sets.result + 1)
    (ap (λ (n : ℕ). n + 1) inv.number) inv.count (ap (λ (n : ℕ). n + 1) c.sets.ensures) c.loop-line.out.items c.push_line.new.out.items inv.written (c.in_ok-push_line.ensures.written (map_after lines k) inv.marks) (omega (arith, short, events))

pub loop-line-preserved : goal.loop-line-preserved
loop-line-preserved c =
    let lines : Lines = c.args.text.now in
    let k : ℕ = c.loop-line.line-index in
    let inv = c.loop-line.invariant in
    let line = there c.deref-line-items.result.now lines k c.line-item.result c.requires.good (c.deref-line-items.ensures.value ∙ c.text.view_is) c.loop-line-test.true c.line-item.is in
    let enough = c.if-left-events.false in
    let tested : c.events.result ≡ 2 * (c.sets.result + 1) + 4 = c.events.ensures in
    let events : c.events-in-loop-line.result ≡ 2 * (c.sets.result + 1) + 4 = c.events-in-loop-line.ensures in
    let many : 2 * (c.sets.result + 1) + 4 ≤ c.loop-line.left = omega (arith, enough, tested) in
    let adds = c.in_ok-push_line.ensures.written (map_after lines k) inv.marks in
    record {
      number = ap (λ (n : ℕ). n + 1) inv.number;
      count = count_more c.args.geometry lines c.args.cut k c.loop-line.left line.less inv.left c.line-item.result line.is (c.loop-line.tx.number + 1) (c.loop-line.tx.count + c.loop-line.tx.entries) (c.sets.result + 1)
          (ap (λ (n : ℕ). n + 1) inv.number) inv.count (ap (λ (n : ℕ). n + 1) c.sets.ensures) c.loop-line.out.items c.push_line.new.out.items inv.written adds;
      left = ap (λ (n : ℕ). (c.loop-line.left - n) + events_of lines (k + 1)) events ∙ left_more c.args.geometry lines c.args.cut k c.loop-line.left line.less inv.left c.line-item.result line.is (c.loop-line.tx.number + 1) (c.loop-line.tx.count + c.loop-line.tx.entries) (c.sets.result + 1)
          (ap (λ (n : ℕ). n + 1) inv.number) inv.count (ap (λ (n : ℕ). n + 1) c.sets.ensures) c.loop-line.out.items c.push_line.new.out.items inv.written adds many;
      whole = c.in_ok-push_line.ensures.whole;
      marks = marks_more lines k c.line-item.result c.loop-line.marks.items c.push_line.new.marks.items line.is line.good inv.marks c.in_ok-push_line.ensures.marked;
      written = went_on c.args.geometry lines c.args.cut k c.loop-line.left line.less inv.left c.line-item.result line.is (c.loop-line.tx.number + 1) (c.loop-line.tx.count + c.loop-line.tx.entries) (c.sets.result + 1)
          (ap (λ (n : ℕ). n + 1) inv.number) inv.count (ap (λ (n : ℕ). n + 1) c.sets.ensures) c.loop-line.out.items c.push_line.new.out.items inv.written adds many;
    }

pub returns : goal.returns
returns c =
    let lines : Lines = c.args.text.now in
    let inv = c.loop-line.invariant in
    let over = c.loop-line-test.false in
    let end = c.loop-line.auto.line-index-end in
    let same : length c.deref-line-items.result.now ≡ length lines = ap length (c.deref-line-items.ensures.value ∙ c.text.view_is) in
    all_written c.args.geometry lines c.args.cut c.loop-line.line-index c.loop-line.left c.loop-line.out.items (omega (arith, over, end, same)) inv.left inv.written
