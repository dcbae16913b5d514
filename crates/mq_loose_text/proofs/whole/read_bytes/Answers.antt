use Rattle.std.proofs.Common.{List, ℕ, sym, ◌∙◌, ap, map, subst}
use Rattle.std.proofs.lemmas.Result.{err_from_is_err_and}
use Rattle.mq_block_text.proofs.TextWhole.{some_byte}
use Rattle.mq_loose_text.specs.Text.{RefusesLines, RefusesText}
use Rattle.mq_loose_text.proofs.LooseTexts.{refused_more, refused_of_lines, text_of_lines}
use Rattle.mq_loose_text.proofs.whole.read_bytes.Goals as goal

pub returns-in_err-read_lines-clause-refused : goal.returns-in_err-read_lines-clause-refused
returns-in_err-read_lines-clause-refused c =
    let some = some_byte c.args.bytes.now c.is_empty.result c.is_empty.ensures c.if-is_empty.false in
    let texts = ap (map (λ x. x.now)) c.deref.ensures.value ∙ c.in_ok-texts.ensures in
    let p = err_from_is_err_and c.from_residual-in_err-read_lines.result c.from_residual-in_err-read_lines.ensures.1 in
    rw (p.1, p.2)
    (refused_more (RefusesLines (map (λ x. x.now) c.deref.result.now)) (RefusesText c.args.bytes.now)
    (λ l q. refused_of_lines c.args.bytes.now c.without_last_line_feed.result.now l c.without_last_line_feed.ensures some (subst (λ (ts : List (List ℕ)). RefusesLines ts l) texts q))
    c.in_err-read_lines.field-0.0 c.in_err-read_lines.ensures.refused)

pub returns-clause-ok : goal.returns-clause-ok
returns-clause-ok c =
    let lines = c.in_ok-read_lines.field-0.items in
    let ok = c.in_ok-read_lines.ensures.ok in
    let told = sym c.in_ok-texts.ensures ∙ ap (map (λ x. x.now)) (sym c.deref.ensures.value) ∙ ok.0 in
    record {
      spelled = text_of_lines c.args.bytes.now c.without_last_line_feed.result.now lines c.without_last_line_feed.ensures told;
      good = ok.1;
    }
