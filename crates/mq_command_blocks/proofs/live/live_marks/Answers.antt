use Rattle.std.proofs.Common.{◌≡◌, ◌<◌, ℕ, List, [], length, get_or, take, subst, sym, ◌∙◌, ap, arith}
use Rattle.std.proofs.lemmas.List.{get_or_default, get_or-take, length-take-le}
use Rattle.mq_block_trace.specs.Lines.{map_after}
use Rattle.mq_block_trace.specs.Marks.{AreMarks}
use Rattle.mq_block_text.specs.Text.{AreGoodItems}
use Rattle.mq_block_text.specs.declared.item.BlockItem.{BlockItem}
use Rattle.mq_block_trace.proofs.LinesFills.{good_line_at}
use Rattle.mq_block_trace.proofs.MarksLines.{marks_more}
use Rattle.mq_command_blocks.proofs.live.live_marks.Goals as goal

-- a line among the first ones is that line of the text
line_of : (xs lines : List (List BlockItem)) (n k : ℕ) (x : List BlockItem) → xs ≡ lines → k < length (take n xs) → k < n → x ≡ get_or (take n xs) k x → x ≡ get_or lines k []
line_of xs lines n k x same inside less is =
    is ∙ get_or_default (take n xs) k x [] inside ∙ get_or-take n xs k [] less ∙ ap (λ (l : List (List BlockItem)). get_or l k []) same

pub mark_line-requires-clause-good : goal.mark_line-requires-clause-good
mark_line-requires-clause-good c =
    let xs : List (List BlockItem) = c.deref.result.now in
    let lines : List (List BlockItem) = c.args.text.now in
    let same : xs ≡ lines = c.deref.ensures.value ∙ c.text.view_is in
    let all : length xs ≡ length lines = ap length same in
    let most = c.requires.count in
    let size : length (take c.args.count xs) ≡ c.args.count = length-take-le c.args.count xs (omega arith) in
    let test = c.loop-line-test.true in
    let is = line_of xs lines c.args.count c.loop-line.line-index c.line-item.result same test (omega arith) c.line-item.is in
    subst AreGoodItems (sym is) (good_line_at lines c.loop-line.line-index (omega arith) c.requires.good.0)

pub loop-line-preserved : goal.loop-line-preserved
loop-line-preserved c =
    let xs : List (List BlockItem) = c.deref.result.now in
    let lines : List (List BlockItem) = c.args.text.now in
    let same : xs ≡ lines = c.deref.ensures.value ∙ c.text.view_is in
    let all : length xs ≡ length lines = ap length same in
    let most = c.requires.count in
    let size : length (take c.args.count xs) ≡ c.args.count = length-take-le c.args.count xs (omega arith) in
    let test = c.loop-line-test.true in
    let is = line_of xs lines c.args.count c.loop-line.line-index c.line-item.result same test (omega arith) c.line-item.is in
    record {
      whole = c.mark_line.ensures.whole;
      marks = marks_more lines c.loop-line.line-index c.line-item.result c.loop-line.marks.items c.mark_line.new.marks.items is
          (subst AreGoodItems (sym is) (good_line_at lines c.loop-line.line-index (omega arith) c.requires.good.0)) c.loop-line.invariant.marks c.mark_line.ensures.marks;
    }

pub returns : goal.returns
returns c =
    let xs : List (List BlockItem) = c.deref.result.now in
    let lines : List (List BlockItem) = c.args.text.now in
    let same : xs ≡ lines = c.deref.ensures.value ∙ c.text.view_is in
    let all : length xs ≡ length lines = ap length same in
    let most = c.requires.count in
    let size : length (take c.args.count xs) ≡ c.args.count = length-take-le c.args.count xs (omega arith) in
    let over = c.loop-line-test.false in
    let end = c.loop-line.auto.line-index-end in
    let here : c.loop-line.line-index ≡ c.args.count = omega arith in
    (c.loop-line.invariant.whole, subst (λ (n : ℕ). AreMarks (map_after lines n) c.loop-line.marks.items) here c.loop-line.invariant.marks)
