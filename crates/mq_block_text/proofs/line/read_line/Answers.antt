use Rattle.std.proofs.Common.{◌≡◌, [], List, ℕ, ap, sym, ◌∙◌, map, subst, length, arith}
use Rattle.std.proofs.lemmas.Result.{err_from_is_err_and}
use Rattle.mq_block_text.specs.Refusals.{RefusesWords, RefusesLine}
use Rattle.mq_block_text.specs.declared.item.BlockItem.{BlockItem}
use Rattle.mq_block_text.proofs.TextParts.{line_of_words, line_is_good}
use Rattle.mq_block_text.proofs.Refusals.{refused_more, refused_of_words}
use Rattle.mq_block_text.proofs.TextWhole.{some_byte}
use Rattle.mq_block_text.proofs.line.read_line.Goals as goal

pub returns-in_err-read_items-clause-refused : goal.returns-in_err-read_items-clause-refused
returns-in_err-read_items-clause-refused c =
    let text = c.args.text.now in
    let words = ap (map (λ x. x.now)) c.deref.ensures.value ∙ c.in_ok-words.ensures in
    let some : text ≡ [] → ⊥ = λ e. (let none : length text ≡ 0 = ap length e in let low = some_byte text c.is_empty.result c.is_empty.ensures c.if-is_empty.false in omega arith) in
    let p = err_from_is_err_and c.from_residual-in_err-read_items.result c.from_residual-in_err-read_items.ensures.1 in
    rw (p.1, p.2)
    (refused_more (λ l cause. (l ≡ c.args.line) × RefusesWords (map (λ x. x.now) c.deref.result.now) cause)
    (λ l cause. (l ≡ c.args.line) × ((before : List (List BlockItem)) → RefusesLine before text cause))
    (λ l cause q. (q.0, λ before. refused_of_words before text cause some (subst (λ (ws : List (List ℕ)). RefusesWords ws cause) words q.1)))
    c.in_err-read_items.field-0.0 c.in_err-read_items.ensures.refused)

pub returns-clause-ok : goal.returns-clause-ok
returns-clause-ok c =
    let items = c.in_ok-read_items.field-0.items in
    let words = sym c.in_ok-words.ensures ∙ ap (map (λ x. x.now)) (sym c.deref.ensures.value) ∙ c.in_ok-read_items.ensures.ok.0 in (
      line_of_words c.args.text.now items words,
      line_is_good c.args.text.now items words c.in_ok-read_items.ensures.ok.1,
    )
