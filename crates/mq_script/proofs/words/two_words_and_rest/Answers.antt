use Rattle.std.proofs.Common.{◌∷◌, ◌∙◌, ap, sym}
use Rattle.mq_script.specs.Words.{words_after, rest_of}
use Rattle.mq_script.proofs.WordsCutting.{rest_of_three}
use Rattle.mq_script.proofs.words.two_words_and_rest.Goals as goal

pub returns : goal.returns
returns c =
    sym
    (ap (λ t. rest_of (words_after t)) c.in_ok-text.was
    ∙ rest_of_three c.in_ok-text.field-0.now c.cut_word.result.0.now c.in_ok-rest.field-0.now c.cut_word-2.result.0.now c.in_ok-rest-2.field-0.now
    (c.cut_word.ensures ∙ ap (λ t. c.cut_word.result.0.now ∷ words_after t) c.in_ok-rest.was)
    (c.cut_word-2.ensures ∙ ap (λ t. c.cut_word-2.result.0.now ∷ words_after t) c.in_ok-rest-2.was))
