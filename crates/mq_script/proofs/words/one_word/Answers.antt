use Rattle.std.proofs.Common.{◌∷◌, ◌∙◌, ap, sym}
use Rattle.mq_block_text.specs.Words.{one_of}
use Rattle.mq_script.specs.Words.{words_after}
use Rattle.mq_script.proofs.WordsCutting.{one_of_more}
use Rattle.mq_script.proofs.words.one_word.Goals as goal

pub returns-in-Some : goal.returns-in-Some
returns-in-Some c =
    sym
    (ap (λ t. one_of (words_after t)) c.in_ok-text.was
    ∙ one_of_more c.in_ok-text.field-0.now c.cut_word.result.0.now c.in-Some.field-0.now (c.cut_word.ensures ∙ ap (λ t. c.cut_word.result.0.now ∷ words_after t) c.in-Some.is))
