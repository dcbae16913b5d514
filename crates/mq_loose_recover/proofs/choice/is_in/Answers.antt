use Rattle.std.proofs.Common.{◌∙◌, rules}
use Rattle.std.proofs.lemmas.List.Sorted.{answers_always}
use Rattle.mq_loose_recover.proofs.Searching.{among-searched}
use Rattle.mq_loose_recover.proofs.choice.is_in.Goals as goal

-- each number is its own key
pub returns : goal.returns
returns c =
    let ends = c.binary_search_by_key.ensures.position (λ other. other) (answers_always _ _ _ (λ f a r g called. search rules)) in
    c.is_ok.ensures.value ∙ among-searched c.args.set.now c.args.number c.binary_search_by_key.result c.requires.rising ends
