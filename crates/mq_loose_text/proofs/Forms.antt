-- Lines by their bytes: a commit begins with the digit of its queue and a space, a drain ends with the digit of its
-- queue.
use Rattle.std.proofs.Common.{◌≡◌, ℕ, Option, Some, None, ◌+◌, ◌<◌, List, [], ◌∷◌, ◌++◌, get_or, drop, sym, ◌∙◌, ap, arith}
use Rattle.std.specs.Prelude.{codes}
use Rattle.mq_block_text.specs.Text as items
use Rattle.mq_block_text.specs.declared.item.BlockItem.{BlockItem}
use Rattle.mq_block_text.proofs.TextItems.{none-some}
use Rattle.mq_loose_text.specs.Text.{IsGoodLine, line_text, queue_count}
use Rattle.mq_loose_text.specs.declared.line.LooseLine.{LooseLine}
use Rattle.mq_loose_text.specs.declared.line.LooseLine.TheVariants.{Commit, Done}
use Rattle.mq_loose_text.proofs.LooseLines.{commit_text, done_text}

-- no text is of both forms
two_forms : (d f : ℕ) (rest : List ℕ) → ◌≡◌ {A = List ℕ} (d ∷ 32 ∷ rest) (codes "done " ++ f ∷ []) → ⊥
two_forms d f rest e = let second : ◌≡◌ {A = ℕ} 32 111 = ap (λ (t : List ℕ). get_or t 1 0) e in omega arith

-- what is read of a digit: no queue
abbrev pub HasNoQueue : ℕ → Type 0
HasNoQueue digit = (q : ℕ) → q < queue_count → digit ≡ 48 + q → ⊥

pub no_queue : (digit : ℕ) (r : Option ℕ) → r ≡ None → ((q : ℕ) → q < queue_count → digit ≡ 48 + q → r ≡ Some q) → HasNoQueue digit
no_queue digit r none only q low e = none-some q (sym none ∙ only q low e)

pub commit_read :
    (digit : ℕ) (text : List ℕ) (q : ℕ) (is : List BlockItem) → q < queue_count → digit ≡ 48 + q → text ≡ items.line_text is → items.IsGoodLine is
    → ◌≡◌ {A = List ℕ} (digit ∷ 32 ∷ text) (line_text (Commit q is)) × IsGoodLine (Commit q is)
commit_read digit text q is low d t good =
    (ap (λ (n : ℕ). n ∷ 32 ∷ text) d ∙ ap (λ (x : List ℕ). (48 + q) ∷ 32 ∷ x) t ∙ sym (commit_text q is low), (low, good))

pub done_read : (digit q : ℕ) → q < queue_count → digit ≡ 48 + q → ◌≡◌ {A = List ℕ} (codes "done " ++ digit ∷ []) (line_text (Done q)) × IsGoodLine (Done q)
done_read digit q low d = (ap (λ (n : ℕ). codes "done " ++ n ∷ []) d ∙ sym (done_text q low), low)

pub no_commit_queue : (digit : ℕ) (text : List ℕ) → HasNoQueue digit → (l : LooseLine) → IsGoodLine l → ◌≡◌ {A = List ℕ} (digit ∷ 32 ∷ text) (line_text l) → ⊥
no_commit_queue digit text none (Commit q is) good e = none q good.0 (ap (λ (t : List ℕ). get_or t 0 0) (e ∙ commit_text q is good.0))
no_commit_queue digit text none (Done q) good e = two_forms digit (48 + q) text (e ∙ done_text q good)

pub no_commit_items : (digit : ℕ) (text : List ℕ) → ((is : List BlockItem) → items.IsGoodLine is → text ≡ items.line_text is → ⊥) → (l : LooseLine) → IsGoodLine l → ◌≡◌ {A = List ℕ} (digit ∷ 32 ∷ text) (line_text l) → ⊥
no_commit_items digit text none (Commit q is) good e = none is good.1 (ap (λ (t : List ℕ). drop 2 t) (e ∙ commit_text q is good.0))
no_commit_items digit text none (Done q) good e = two_forms digit (48 + q) text (e ∙ done_text q good)

pub no_done_queue : (digit : ℕ) → HasNoQueue digit → (l : LooseLine) → IsGoodLine l → ◌≡◌ {A = List ℕ} (codes "done " ++ digit ∷ []) (line_text l) → ⊥
no_done_queue digit none (Commit q is) good e = two_forms (48 + q) digit (items.line_text is) (sym (e ∙ commit_text q is good.0))
no_done_queue digit none (Done q) good e = none q good (ap (λ (t : List ℕ). get_or t 5 0) (e ∙ done_text q good))

pub no_form :
    (text : List ℕ) → ((digit : ℕ) (rest : List ℕ) → text ≡ digit ∷ 32 ∷ rest → ⊥) → ((digit : ℕ) → text ≡ codes "done " ++ digit ∷ [] → ⊥)
    → (l : LooseLine) → IsGoodLine l → text ≡ line_text l → ⊥
no_form text commit done (Commit q is) good e = commit (48 + q) (items.line_text is) (e ∙ commit_text q is good.0)
no_form text commit done (Done q) good e = done (48 + q) (e ∙ done_text q good)
