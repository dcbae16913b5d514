-- How many home blocks are not wanted yet.
use Rattle.std.proofs.Common.{◌≡◌, ◌≢◌, ℕ, zero, suc, ◌+◌, ◌-◌, ◌<◌, ◌≤◌, List, [], ◌∷◌, length, get_or, sym, ap, subst, ◌∙◌, inl, inr, arith, cond, Bool}
use Rattle.std.specs.Prelude.{Some, None}
use Rattle.std.specs.List.{All, Contains}
use Rattle.std.proofs.lemmas.Bool.{cases_eq, eq-eqb, ne_eqb}
use Rattle.std.proofs.lemmas.List.Elements.{Contains-get_or}
use Rattle.std.proofs.lemmas.Option.{none-some}
use Rattle.mq_sessions.specs.Pages.{held_pages, page_in, blocks_of}
use Rattle.mq_pages.specs.Held.{Cells, cell_of}
use Rattle.mq_sessions.specs.Wanted.{AreTogether, HaveSame}
use Rattle.mq_sessions.proofs.PagesCounting.{contains-ticks, ticks, ticks-contains}

pub missing : ℕ → List ℕ → ℕ
missing zero xs = 0
missing (suc n) xs = (1 - ticks n xs) + missing n xs

fewer : (n : ℕ) (xs ys : List ℕ) → ((k : ℕ) → Contains xs k → Contains ys k) → missing n ys ≤ missing n xs
unfolding missing
fewer zero xs ys more = omega arith
fewer (suc n) xs ys more =
    let rest = fewer n xs ys more in
    elim (cases_eq (ticks n xs) 0) [
      | inl none ↦ omega arith
      | inr some ↦ let there = contains-ticks n ys (more n (ticks-contains n xs (omega arith))) in omega arith
    ]

-- one is wanted that was not
pub fewer-one : (n b : ℕ) (xs ys : List ℕ) → ((k : ℕ) → Contains xs k → Contains ys k) → b < n → Contains ys b → (Contains xs b → ⊥) → missing n ys < missing n xs
unfolding missing
fewer-one zero b xs ys more low new old = absurd (omega arith)
fewer-one (suc n) b xs ys more low new old = elim (cases_eq b n) [
  | inl here ↦
      let rest = fewer n xs ys more in
      let is : 0 < ticks n ys = subst (λ (k : ℕ). 0 < ticks k ys) here (contains-ticks b ys new) in
      elim (cases_eq (ticks n xs) 0) [
        | inl none ↦ omega arith
        | inr some ↦ absurd (old (subst (Contains xs) (sym here) (ticks-contains n xs (omega arith))))
      ]
  | inr other ↦
      let rest = fewer-one n b xs ys more (omega arith) new old in
      elim (cases_eq (ticks n xs) 0) [
        | inl none ↦ omega arith
        | inr some ↦ let there = contains-ticks n ys (more n (ticks-contains n xs (omega arith))) in omega arith
      ]
]

later : (x b : ℕ) (xs : List ℕ) → x ≢ b → Contains (x ∷ xs) b → Contains xs b
later x b xs other (zero, l, e) = absurd (other e)
later x b xs other (suc k, l, e) = (k, let m = l in omega arith, e)

-- a block whose page is missing has no cell
no-cell : (cells : Cells) (b : ℕ) → held_pages cells b ≡ None → Contains (blocks_of cells) b → ⊥
no-cell [] b none c = let l = c.1 in absurd (omega arith)
no-cell (x ∷ xs) b none c = elim (cases_eq x.0 b) [
  | inl same ↦ none-some x.1.content (sym none ∙ ap (λ (t : Bool). page_in (cond t (Some x.1) (cell_of xs b))) (eq-eqb x.0 b same))
  | inr other ↦ no-cell xs b (ap (λ (t : Bool). page_in (cond t (Some x.1) (cell_of xs b))) (sym (ne_eqb x.0 b other)) ∙ none) (later x.0 b (blocks_of xs) other c)
]

-- more is wanted after a round
pub round-smaller : (homes : ℕ) (old blocks new : List ℕ) (cells : Cells) → HaveSame old (blocks_of cells) → AreTogether old blocks new → 1 ≤ length blocks → All (λ b. b < homes) blocks → All (λ b. held_pages cells b ≡ None) blocks → missing homes new < missing homes old
round-smaller homes old blocks new cells same t some low absent =
    let b = get_or blocks 0 0 in
    fewer-one homes b old new t.first (low 0 0 some) (t.second b (Contains-get_or blocks 0 0 some)) (λ c. no-cell cells b (absent 0 0 some) ((same b).0 c))
