use Rattle.std.proofs.Common.{ℕ, subst, rules}
use Rattle.std.specs.List.Sorted.{IsBinarySearchResult}
use Rattle.std.specs.Ordering.{nat_cmp}
use Rattle.std.proofs.lemmas.List.Sorted.{answers_always}
use Rattle.mq_ledger.proofs.RecordsLists.{found-is}
use Rattle.mq_ledger.proofs.form.has_block.Goals as goal

-- the keys are the blocks
pub returns : goal.returns
returns g c =
    let by_key = c.binary_search_by_key.ensures.position g.T.OfBlock.block_of (answers_always _ _ _ (λ f a r t called. search rules)) in
    let P : ℕ → Type 0 = λ x. IsBinarySearchResult (λ y. nat_cmp (g.T.OfBlock.block_of y) x) c.args.list.now c.binary_search_by_key.result in
    found-is g.T.OfBlock.block_of c.args.list.now c.args.block c.binary_search_by_key.result c.is_ok.result c.requires c.binary_search_by_key.ensures.bound (subst P c.block.view_is by_key) c.is_ok.ensures.value
