use Rattle.std.proofs.Common.{ℕ, subst, ◌∙◌, rules}
use Rattle.std.specs.List.Sorted.{IsBinarySearchResult}
use Rattle.std.specs.Ordering.{nat_cmp}
use Rattle.std.proofs.lemmas.List.Sorted.{answers_always}
use Rattle.mq_sessions.proofs.JournalSearching.{searched}
use Rattle.mq_sessions.proofs.drawn.is_in.Goals as goal

pub returns : goal.returns
returns c =
    let by_key = c.binary_search_by_key.ensures.position (λ b. b) (answers_always _ _ _ (λ f a r t called. search rules)) in
    let P : ℕ → Type 0 = λ x. IsBinarySearchResult (λ y. nat_cmp y x) c.args.blocks.now c.binary_search_by_key.result in
    c.is_ok.ensures.value ∙ searched 0 c.requires.0 c.args.blocks.now c.args.block c.requires.1 c.binary_search_by_key.result c.binary_search_by_key.ensures.bound (subst P c.block.view_is by_key)
