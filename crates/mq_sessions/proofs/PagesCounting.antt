-- How often numbers stand in lists, and how long rising lists can be.
use Rattle.std.proofs.Common.{◌≡◌, ℕ, zero, suc, ◌+◌, ◌-◌, ◌<◌, ◌≤◌, List, [], ◌∷◌, ◌++◌, length, get_or, map, refl, sym, ap, subst, ◌∙◌, inl, inr, arith, Some}
use Rattle.std.specs.Prelude.{reverse, slice_get}
use Rattle.std.specs.List.{All, AllPairs, Contains}
use Rattle.std.proofs.lemmas.Bool.{cases_eq}
use Rattle.std.proofs.lemmas.List.{reverse-append}
use Rattle.std.proofs.lemmas.Option.{get_or_from_slice_get}
use Rattle.mq_journal.specs.Laws.{without_each}
use Rattle.mq_pages.specs.Held.{Cells, IsRising}
use Rattle.mq_pages.specs.declared.page.PageCell.{PageCell}
use Rattle.mq_turns.specs.Lists.{Each, tick, times, without}
use Rattle.mq_turns.proofs.Lists.{hit, miss, times_without, times_without_other}
use Rattle.mq_sessions.specs.Pages.{blocks_of}
use Rattle.mq_sessions.proofs.PagesLists.{without_each-less}

-- ---- how often

pub ticks : ℕ → List ℕ → ℕ
ticks k [] = 0
ticks k (n ∷ ns) = tick n k + ticks k ns

ticks-append : (k : ℕ) (xs ys : List ℕ) → ticks k (xs ++ ys) ≡ ticks k xs + ticks k ys
unfolding ticks
ticks-append k [] ys = omega arith
ticks-append k (x ∷ xs) ys = let rest = ticks-append k xs ys in omega arith

reverse-first : (x : ℕ) (xs : List ℕ) → reverse (x ∷ xs) ≡ reverse xs ++ x ∷ []
reverse-first x xs = reverse-append (x ∷ []) xs

ticks-reverse : (k : ℕ) (xs : List ℕ) → ticks k (reverse xs) ≡ ticks k xs
unfolding ticks
ticks-reverse k [] = refl
ticks-reverse k (x ∷ xs) =
    let rest = ticks-reverse k xs in
    let parts = ap (ticks k) (reverse-first x xs) ∙ ticks-append k (reverse xs) (x ∷ []) in
    let one : ticks k (x ∷ []) ≡ tick x k + 0 = refl in
    omega arith

times-slots : {A : Type 0} (k : ℕ) (l : List (ℕ × A)) → times k l ≡ ticks k (map (λ h. h.0) l)
unfolding ticks
times-slots {A} k [] = refl
times-slots {A} k (h ∷ hs) = let rest = times-slots k hs in omega arith

module _ {A : Type 0} where
  -- slots that are those of the blocks, the last first
  pub times-taken : (k : ℕ) (l : List (ℕ × A)) (cells : Cells) (blocks : List ℕ) → map (λ h. h.0) l ≡ reverse blocks → blocks_of cells ≡ blocks → times k l ≡ times k cells
  times-taken k l cells blocks slots are = times-slots k l ∙ (ap (ticks k) slots ∙ (ticks-reverse k blocks ∙ (ap (ticks k) (sym are) ∙ sym (times-slots k cells))))

  gone : (ks : List ℕ) (k : ℕ) (l : List (ℕ × A)) → 0 < ticks k ks → times k (without_each ks l) ≡ 0
  unfolding ticks
  gone [] k l some = absurd (omega arith)
  gone (j ∷ js) k l some = elim (cases_eq k j) [
    | inl same ↦ subst (λ (n : ℕ). times n (without j (without_each js l)) ≡ 0) (sym same) (times_without j (without_each js l))
    | inr other ↦
        let none = miss j k (λ e. other (sym e)) in
        let kept = times_without_other j k (without_each js l) other in
        let rest = gone js k l (omega arith) in
        omega arith
  ]

  -- nothing is left where all is given back
  pub all-given : (cells : Cells) (l : List (ℕ × A)) → ((k : ℕ) → times k l ≡ times k cells) → (k : ℕ) → times k (without_each (blocks_of cells) l) ≡ 0
  all-given cells l same k =
      let slots = times-slots k cells in
      let here = same k in
      let less = without_each-less (blocks_of cells) k l in
      elim (cases_eq (times k cells) 0) [
        | inl none ↦ omega arith
        | inr some ↦ gone (blocks_of cells) k l (omega arith)
      ]

-- a number that stands there
pub ticks-contains : (k : ℕ) (xs : List ℕ) → 0 < ticks k xs → Contains xs k
unfolding ticks
ticks-contains k [] some = absurd (omega arith)
ticks-contains k (x ∷ xs) some = elim (cases_eq x k) [
  | inl same ↦ (0, omega arith, same)
  | inr other ↦
      let none = miss x k other in
      let rest = ticks-contains k xs (omega arith) in
      (suc rest.0, let l = rest.1 in omega arith, rest.2)
]

pub contains-ticks : (k : ℕ) (xs : List ℕ) → Contains xs k → 0 < ticks k xs
unfolding ticks
contains-ticks k [] (i, l, e) = absurd (omega arith)
contains-ticks k (x ∷ xs) (zero, l, e) = let one = hit x k e in omega arith
contains-ticks k (x ∷ xs) (suc i, l, e) = let rest = contains-ticks k xs (i, let m = l in omega arith, e) in omega arith

pub times-contains : (k : ℕ) (cells : Cells) → 0 < times k cells → Contains (blocks_of cells) k
times-contains k cells some = ticks-contains k (blocks_of cells) (subst (λ (n : ℕ). 0 < n) (times-slots k cells) some)

-- ---- rising lists

all-rest : (F : ℕ → Type 0) (x : ℕ) (xs : List ℕ) → All F (x ∷ xs) → All F xs
all-rest F x xs all = λ k d l. all (suc k) d (omega arith)

pairs-rest : (x : ℕ) (xs : List ℕ) → AllPairs (λ a b. a < b) (x ∷ xs) → AllPairs (λ a b. a < b) xs
pairs-rest x xs rise = λ i j d lt l. rise (suc i) (suc j) d (omega arith) (omega arith)

pairs-first : (x : ℕ) (xs : List ℕ) → AllPairs (λ a b. a < b) (x ∷ xs) → All (λ b. x < b) xs
pairs-first x xs rise = λ k d l. rise 0 (suc k) d (omega arith) (omega arith)

-- no more numbers than there are between the bounds
pub rising-few : (m n : ℕ) (xs : List ℕ) → AllPairs (λ a b. a < b) xs → All (λ b. m ≤ b) xs → All (λ b. b < n) xs → m ≤ n → m + length xs ≤ n
rising-few m n [] rise low high le = omega arith
rising-few m n (x ∷ xs) rise low high le =
    let here = low 0 x (omega arith) in
    let under = high 0 x (omega arith) in
    let first = pairs-first x xs rise in
    let rest = rising-few (suc x) n xs (pairs-rest x xs rise) (λ k d l. let a = first k d l in omega arith) (all-rest (λ b. b < n) x xs high) (omega arith) in
    omega arith

cells-rest : (x : ℕ × PageCell) (cells : Cells) → IsRising (x ∷ cells) → IsRising cells
cells-rest x cells rise = λ i j d lt l. rise (suc i) (suc j) d (omega arith) (omega arith)

pub cells-few : (m n : ℕ) (cells : Cells) → IsRising cells → Each (λ c. m ≤ c.0) cells → Each (λ c. c.0 < n) cells → m ≤ n → m + length cells ≤ n
cells-few m n [] rise low high le = omega arith
cells-few m n (x ∷ cells) rise low high le =
    let here = low.0 in
    let under = high.0 in
    let rest = cells-few (suc x.0) n cells (cells-rest x cells rise) (past x cells rise) high.1 (omega arith) in
    omega arith
  where
    over : (y : ℕ × PageCell) (cs : Cells) → ((k : ℕ) (d : ℕ × PageCell) → k < length cs → y.0 < (get_or cs k d).0) → Each (λ c. suc y.0 ≤ c.0) cs
    over y [] all = tt
    over y (c ∷ cs) all = (let a = all 0 c (omega arith) in omega arith, over y cs (λ k d l. all (suc k) d (omega arith)))

    past : (y : ℕ × PageCell) (cs : Cells) → IsRising (y ∷ cs) → Each (λ c. suc y.0 ≤ c.0) cs
    past y cs rises = over y cs (λ k d l. rises 0 (suc k) d (omega arith) (omega arith))

-- ---- one rising list above another

pub first-least : (xs : List ℕ) (first : ℕ) → AllPairs (λ a b. a < b) xs → slice_get xs 0 ≡ Some first → All (λ b. first ≤ b) xs
first-least xs first rise is k d l =
    let here : get_or xs 0 d ≡ first = get_or_from_slice_get xs 0 first d is in
    elim (cases_eq k 0) [
      | inl zeroth ↦ let same : get_or xs k d ≡ get_or xs 0 d = ap (λ (n : ℕ). get_or xs n d) zeroth in omega arith
      | inr other ↦ let up = rise 0 k d (omega arith) l in omega arith
    ]

pub last-greatest : (xs : List ℕ) (last : ℕ) → AllPairs (λ a b. a < b) xs → slice_get xs (length xs - 1) ≡ Some last → All (λ a. a ≤ last) xs
last-greatest xs last rise is k d l =
    let here : get_or xs (length xs - 1) d ≡ last = get_or_from_slice_get xs (length xs - 1) last d is in
    elim (cases_eq k (length xs - 1)) [
      | inl at_end ↦ let same : get_or xs k d ≡ get_or xs (length xs - 1) d = ap (λ (n : ℕ). get_or xs n d) at_end in omega arith
      | inr other ↦ let up = rise k (length xs - 1) d (omega arith) (omega arith) in omega arith
    ]

pub all-above : (xs ys : List ℕ) (last first : ℕ) → AllPairs (λ a b. a < b) xs → AllPairs (λ a b. a < b) ys → slice_get xs (length xs - 1) ≡ Some last → slice_get ys 0 ≡ Some first → last < first → All (λ b. All (λ a. a < b) xs) ys
all-above xs ys last first rise up end begin lt k d l = λ j e m.
    let a = last-greatest xs last rise end j e m in
    let b = first-least ys first up begin k d l in
    omega arith
