use Rattle.std.proofs.Common.{◌≡◌, ◌≤◌, ◌+◌, [], ◌∷◌, ◌++◌, List, ℕ, Bor, map, drop, get_or, length, ap, ◌∙◌, arith, rules}
use Rattle.std.proofs.lemmas.Result.{err_from_is_err_and}
use Rattle.mq_block_text.specs.Refusals.{RefusesLine, RefusesLines}
use Rattle.mq_block_text.specs.Text.{line_text, IsGoodText}
use Rattle.mq_block_text.specs.declared.item.BlockItem.{BlockItem}
use Rattle.mq_block_text.proofs.TextLines.{told_parts, told_push}
use Rattle.mq_block_text.proofs.Refusals.{refused_more}
use Rattle.mq_block_text.proofs.TextWhole.{good_lines_push, lines_few, places_push, no_room}
use Rattle.mq_block_text.proofs.whole.read_lines.Goals as goal

pub returns-in_err-line-clause-refused : goal.returns-in_err-line-clause-refused
returns-in_err-line-clause-refused c =
    let inv = c.loop-text.invariant in
    let d : Bor (List ℕ) = record { ref_ptr = (0, 0); now = [] } in
    let count : c.len.result ≡ length c.loop-text.lines.items = search rules in
    let room = inv.room in
    let good : IsGoodText c.loop-text.lines.items = (inv.good, omega arith) in
    let text = (get_or c.args.texts.now c.loop-text.text-index d).now in
    let p = err_from_is_err_and c.from_residual.result c.from_residual.ensures.1 in
    rw (p.1, p.2)
    (refused_more (λ l cause. (l ≡ c.len.result + 1) × ((before : List (List BlockItem)) → RefusesLine before text cause)) (RefusesLines (map (λ x. x.now) c.args.texts.now))
    (λ l cause q. record {
      before = c.loop-text.lines.items;
      text = text;
      rest = map (λ x. x.now) (drop (c.loop-text.text-index + 1) c.args.texts.now);
      are = told_parts (λ x. x.now) line_text c.args.texts.now c.loop-text.text-index d c.loop-text.lines.items c.loop-text-test.true inv.told;
      good = good;
      counted = q.0 ∙ ap (λ (n : ℕ). n + 1) count;
      refused = q.1 c.loop-text.lines.items;
    })
    c.in_err-line.field-0.0 c.in_err-line.ensures.refused)

pub returns-then-sets-room-clause-refused : goal.returns-then-sets-room-clause-refused
returns-then-sets-room-clause-refused c =
    let inv = c.loop-text.invariant in
    let d : Bor (List ℕ) = record { ref_ptr = (0, 0); now = [] } in
    let count : c.len.result ≡ length c.loop-text.lines.items = search rules in
    let room = inv.room in
    let good : IsGoodText c.loop-text.lines.items = (inv.good, omega arith) in
    record {
      before = c.loop-text.lines.items;
      text = (get_or c.args.texts.now c.loop-text.text-index d).now;
      rest = map (λ x. x.now) (drop (c.loop-text.text-index + 1) c.args.texts.now);
      are = told_parts (λ x. x.now) line_text c.args.texts.now c.loop-text.text-index d c.loop-text.lines.items c.loop-text-test.true inv.told;
      good = good;
      counted = ap (λ (n : ℕ). n + 1) count;
      refused = record {
        line = c.in_ok-line.line;
        spelled = c.in_ok-line.ensures.ok.0;
        good = c.in_ok-line.ensures.ok.1;
        places = no_room c.loop-text.lines.items c.in_ok-line.line c.loop-text.room c.sets-sets.result inv.room c.sets-sets.ensures c.if-sets-room.true;
      };
    }

pub loop-text-preserved : goal.loop-text-preserved
loop-text-preserved c =
    let inv = c.loop-text.invariant in
    let d : Bor (List ℕ) = record { ref_ptr = (0, 0); now = [] } in
    let lines = c.loop-text.lines.items ++ c.in_ok-line.line ∷ [] in
    let places = places_push c.loop-text.lines.items c.in_ok-line.line c.loop-text.room c.sets-sets.result inv.room c.sets-sets.ensures c.if-sets-room.false in
    let few : length lines ≤ 1024 = omega (arith, lines_few lines, places) in
    rw c.in_ok-push.ensures.items (record {
      told = told_push (λ x. x.now) line_text c.args.texts.now c.loop-text.text-index d c.loop-text.lines.items c.in_ok-line.line c.loop-text-test.true inv.told c.in_ok-line.ensures.ok.0;
      good = good_lines_push c.loop-text.lines.items c.in_ok-line.line inv.good c.in_ok-line.ensures.ok.1;
      room = places;
      few = few;
    })
