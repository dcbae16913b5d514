-- Lists with numbers: cells, and slots that are held.
use Rattle.std.proofs.Common.{◌≡◌, ◌≢◌, ℕ, zero, suc, ◌+◌, ◌-◌, ◌<◌, ◌≤◌, Bool, false, cond, List, [], ◌∷◌, ◌++◌, length, length-append, get_or, refl, sym, ap, subst, ◌∙◌, inl, inr, arith, eqb, Some}
use Rattle.std.specs.List.{All}
use Rattle.std.proofs.lemmas.Bool.{cases_Bool, cases_lt, eqb-true, false≢true}
use Rattle.std.proofs.lemmas.Option.{none-some, same_Some}
use Rattle.mq_journal.specs.Laws.{without_each}
use Rattle.mq_pages.specs.Held.{Cells, IsAboveLast, IsRising, cell_of}
use Rattle.mq_pages.specs.declared.page.PageCell.{PageCell}
use Rattle.mq_turns.specs.Lists.{Each, times, without}
use Rattle.mq_turns.proofs.Lists.{hit, miss, times_without, times_without_other}
use Rattle.mq_sessions.specs.Pages.{blocks_of}

-- ---- slots that are held

module _ {A : Type 0} where
  -- a slot below all of which none is held
  pub held-below : (k n : ℕ) (l : List (ℕ × A)) → 0 < times k l → Each (λ h. h.0 < n) l → k < n
  held-below k n [] some low = absurd (omega arith)
  held-below k n (h ∷ hs) some low = elim (cases_lt k n) [
    | inl lt ↦ lt
    | inr le ↦
        let other = miss h.0 k (λ e. let a = low.0 in omega arith) in
        held-below k n hs (omega arith) low.1
  ]

  pub held-all : (F : ℕ → Type 0) (l m : List (ℕ × A)) → ((k : ℕ) → 0 < times k l → F k) → ((k : ℕ) → times k m ≤ times k l) → Each (λ h. F h.0) m
  held-all F l [] f le = tt
  held-all F l (h ∷ hs) f le = (
    f h.0 (let a = le h.0 in let b = hit h.0 h.0 refl in omega arith),
    held-all F l hs f (λ k. let a = le k in omega arith),
  )

  pub none-held : (l : List (ℕ × A)) → ((k : ℕ) → times k l ≡ 0) → l ≡ []
  none-held [] none = refl
  none-held (h ∷ hs) none = let a = none h.0 in let b = hit h.0 h.0 refl in absurd (omega arith)

  pub without_each-less : (ks : List ℕ) (k : ℕ) (l : List (ℕ × A)) → times k (without_each ks l) ≤ times k l
  without_each-less [] k l = omega arith
  without_each-less (j ∷ js) k l =
      let rest = without_each-less js k l in
      elim (cases_Bool (eqb j k)) [
        | inl same ↦
            let gone = times_without j (without_each js l) in
            let here : times k (without j (without_each js l)) ≡ 0 = subst (λ (n : ℕ). times n (without j (without_each js l)) ≡ 0) (eqb-true j k same) gone in
            omega arith
        | inr other ↦
            let kept = times_without_other j k (without_each js l) (λ e. false≢true (sym other ∙ Rattle.std.proofs.Common.eq-eqb j k (sym e))) in
            omega arith
      ]

  pub without_each-last : (ks : List ℕ) (k : ℕ) (l : List (ℕ × A)) → without_each (ks ++ k ∷ []) l ≡ without_each ks (without k l)
  without_each-last [] k l = refl
  without_each-last (j ∷ js) k l = ap (without j) (without_each-last js k l)

-- ---- cells by rising block

pub cell-last : (x : ℕ × PageCell) (cells : Cells) (k : ℕ) (d : ℕ × PageCell) → k < length cells → get_or (cells ++ x ∷ []) k d ≡ get_or cells k d
cell-last x [] k d l = absurd (omega arith)
cell-last x (c ∷ cs) zero d l = refl
cell-last x (c ∷ cs) (suc k) d l = cell-last x cs k d (omega arith)

pub cell-at-last : (x : ℕ × PageCell) (cells : Cells) (d : ℕ × PageCell) → get_or (cells ++ x ∷ []) (length cells) d ≡ x
cell-at-last x [] d = refl
cell-at-last x (c ∷ cs) d = cell-at-last x cs d

pub each-of-all : (F : ℕ × PageCell → Type 0) (cells : Cells) → ((k : ℕ) (d : ℕ × PageCell) → k < length cells → F (get_or cells k d)) → Each F cells
each-of-all F [] f = tt
each-of-all F (c ∷ cs) f = (f 0 c (omega arith), each-of-all F cs (λ k d l. f (suc k) d (omega arith)))

pub rising-front : (x : ℕ × PageCell) (cells : Cells) → IsRising (cells ++ x ∷ []) → IsRising cells
rising-front x cells rising i j d lt l =
    let few = length-append cells (x ∷ []) in
    subst (λ (a : ℕ × PageCell). a.0 < (get_or cells j d).0) (cell-last x cells i d (omega arith))
    (subst (λ (a : ℕ × PageCell). (get_or (cells ++ x ∷ []) i d).0 < a.0) (cell-last x cells j d l) (rising i j d lt (omega arith)))

-- the cells before the last are of lesser blocks
pub rising-last : (x : ℕ × PageCell) (cells : Cells) → IsRising (cells ++ x ∷ []) → Each (λ c. c.0 < x.0) cells
rising-last x cells rising = each-of-all (λ c. c.0 < x.0) cells (λ k d l.
    let few = length-append cells (x ∷ []) in
    subst (λ (a : ℕ × PageCell). a.0 < x.0) (cell-last x cells k d l)
    (subst (λ (a : ℕ × PageCell). (get_or (cells ++ x ∷ []) k d).0 < a.0) (cell-at-last x cells d) (rising k (length cells) d l (omega arith))))

-- a block above that of each cell is above that of the last
pub above-last : (b : ℕ) (cells : Cells) → Each (λ c. c.0 < b) cells → IsAboveLast b cells
above-last b [] low = tt
above-last b (x ∷ []) low = low.0
above-last b (x ∷ y ∷ rest) low = above-last b (y ∷ rest) low.1

pub each-front : (F : ℕ × PageCell → Type 0) (xs ys : Cells) → Each F (xs ++ ys) → Each F xs × Each F ys
each-front F [] ys h = (tt, h)
each-front F (x ∷ xs) ys h = let r = each-front F xs ys h.1 in ((h.0, r.0), r.1)

pub each-cell : (F : ℕ → PageCell → Type 0) (cells : Cells) (b : ℕ) (c : PageCell) → Each (λ x. F x.0 x.1) cells → cell_of cells b ≡ Some c → F b c
each-cell F [] b c h e = absurd (none-some c e)
each-cell F (x ∷ xs) b c h e = elim (cases_Bool (eqb x.0 b)) [
  | inl same ↦
      let is : x.1 ≡ c = same_Some x.1 c (ap (λ (t : Bool). cond t (Some x.1) (cell_of xs b)) (sym same) ∙ e) in
      subst (λ (n : ℕ). F n c) (eqb-true x.0 b same) (subst (λ (y : PageCell). F x.0 y) is h.0)
  | inr other ↦ each-cell F xs b c h.1 (ap (λ (t : Bool). cond t (Some x.1) (cell_of xs b)) (sym other) ∙ e)
]

-- what holds of the block of each cell
pub each-block : (F : ℕ → Type 0) (cells : Cells) → All F (blocks_of cells) → Each (λ c. F c.0) cells
each-block F [] all = tt
each-block F (c ∷ cs) all = (all 0 c.0 (omega arith), each-block F cs (λ k d l. all (suc k) d (omega arith)))
