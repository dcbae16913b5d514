use Rattle.std.proofs.Common.{◌∙◌, ap, sym, subst}
use Rattle.mq_script.specs.Answers.{Agrees}
use Rattle.mq_script.specs.Lines.{verb_line}
use Rattle.mq_script.specs.Words.{words_after}
use Rattle.mq_script.proofs.Lines.{line_plain}
use Rattle.mq_script.proofs.line.read_line.Goals as goal

pub returns-in-Some : goal.returns-in-Some
returns-in-Some c =
    let words = words_after c.cut_word.result.1 in
    subst (λ answer. Agrees answer c.read_arguments.result)
    (sym
    (line_plain c.args.text.now c.cut_word.result.0.now words (sym c.are_plain.ensures ∙ c.if-not-are_plain.false) c.cut_word.ensures
    ∙ ap (λ v. verb_line v words) (sym c.in-Some.ensures)))
    c.read_arguments.ensures

pub returns-in-None : goal.returns-in-None
returns-in-None c =
    let words = words_after c.cut_word.result.1 in
    line_plain c.args.text.now c.cut_word.result.0.now words (sym c.are_plain.ensures ∙ c.if-not-are_plain.false) c.cut_word.ensures
    ∙ ap (λ v. verb_line v words) (sym c.in-None.ensures)
