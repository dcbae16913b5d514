-- What the clauses of a run come to: each number has its commit, numbers never fall, a good commit has moved
-- its doorbell, and one of few blocks has one entry more than those.
use Rattle.std.proofs.Common.{◌≡◌, ◌∙◌, ℕ, zero, suc, ◌+◌, ◌<◌, ◌≤◌, ◌⊎◌, inl, inr, Bool, true, false, List, [], ◌∷◌, ◌++◌, length, refl, sym, ap, subst, arith}
use Rattle.std.specs.List.{Contains}
use Rattle.std.proofs.lemmas.Bool.{true≢false}
use Rattle.std.proofs.lemmas.List.Elements.{Contains-append_cases}
use Rattle.mq_blocks.proofs.DescriptorLimits.{further-none}
use Rattle.mq_blocks.specs.Descriptor.{further_for}
use Rattle.mq_blocks.specs.declared.geometry.Geometry.{Geometry}
use Rattle.mq_exec.proofs.MovesLocal.{moves-once}
use Rattle.mq_run_laws.specs.Answers.{HasCommit, IsOf, is_good}
use Rattle.mq_run_laws.specs.Cuts.{HasEntries, HasShare, IsRung, is_on}
use Rattle.mq_run_laws.specs.Legal.{IsRun, Writes, newest, next, number_after}
use Rattle.mq_pages.specs.declared.page.Write.{Write}
use Rattle.mq_report.specs.Lines.{Line}
use Rattle.mq_report.specs.declared.line.Told.{Told}
use Rattle.mq_script.specs.Scripts.{Script}
use Rattle.mq_tree.specs.Volume.{Volume}

-- the first of a list, or one of the others
pub head-or-later : {X : Type 0} (x y : X) (xs : List X) → Contains (x ∷ xs) y → (x ≡ y) ⊎ Contains xs y
head-or-later x y xs (zero, low, e) = inl e
head-or-later x y xs (suc k, low, e) = inr (k, (omega arith), e)

later : {X : Type 0} (x y : X) (xs : List X) → Contains xs y → Contains (x ∷ xs) y
later x y xs c = (suc c.0, (let h = c.1 in omega arith), c.2)

steps-up : (n m : ℕ) (b : Bool) → m ≡ number_after n b → n ≤ m
steps-up n m true e = omega (arith, e)
steps-up n m false e = omega (arith, e)

pub grows : (g : Geometry) (ss : List Script) (v : Volume) (n : ℕ) (lines : List Line) → IsRun g ss v n lines → n ≤ newest n lines
grows g ss v n [] run = omega arith
grows g ss v n (l ∷ ls) run =
    let a = steps-up n l.number l.commit run.0.number in
    let b = grows g ss (next g ss v l) l.number ls run.1 in
    omega (arith, a, b)

pub within : (g : Geometry) (ss : List Script) (v : Volume) (n : ℕ) (lines : List Line) → IsRun g ss v n lines → (l : Line) → Contains lines l → (n ≤ l.number) × (l.number ≤ newest n lines)
within g ss v n [] run l c = absurd (let h = c.1 in omega arith)
within g ss v n (m ∷ ls) run l c = elim (head-or-later m l ls c) [
  | inl e ↦
      let a = steps-up n m.number m.commit run.0.number in
      let b = grows g ss (next g ss v m) m.number ls run.1 in
      subst (λ (x : Line). (n ≤ x.number) × (x.number ≤ newest m.number ls)) e (a, b)
  | inr d ↦
      let a = steps-up n m.number m.commit run.0.number in
      let b = within g ss (next g ss v m) m.number ls run.1 l d in
      let low = b.0 in
      ((omega (arith, a, low)), b.1)
]

more : (m : Line) (ls : List Line) (k : ℕ) → HasCommit ls k → HasCommit (m ∷ ls) k
more m ls k h = (h.0, later m h.0 ls h.1, h.2, h.3)

-- the number is the line's, or above it
at-or-above : (m n : ℕ) → n ≤ m → (n ≡ m) ⊎ (n < m)
at-or-above m n h = grind arith

here-or-above : (m : Line) (n k : ℕ) (b : Bool) → m.commit ≡ b → m.number ≡ number_after n b → n < k → ((m.commit ≡ true) × (m.number ≡ k)) ⊎ (m.number < k)
here-or-above m n k true c e low = elim (at-or-above k (n + 1) (omega arith)) [ inl p ↦ inl (c, e ∙ p) | inr q ↦ inr (omega (arith, e, q)) ]
here-or-above m n k false c e low = inr (omega (arith, e, low))

pub each-number : (g : Geometry) (ss : List Script) (v : Volume) (n : ℕ) (lines : List Line) → IsRun g ss v n lines → (k : ℕ) → n < k → k ≤ newest n lines → HasCommit lines k
each-number g ss v n [] run k low high = absurd (omega arith)
each-number g ss v n (m ∷ ls) run k low high = elim (here-or-above m n k m.commit refl run.0.number low) [
  | inl p ↦ (m, (0, (omega arith), refl), p.0, p.1)
  | inr q ↦ more m ls k (each-number g ss (next g ss v m) m.number ls run.1 k q high)
]

-- ---- doorbells

share : (g : Geometry) (v w : Volume) (b : Bool) (sum rest : ℕ) → HasShare g v w b sum rest → rest ≤ sum
share g v w true sum rest h = let e = h.4 in omega (arith, e)
share g v w false sum rest h = omega (arith, h)

share-on : (g : Geometry) (v w : Volume) (b : Bool) (sum rest : ℕ) → b ≡ true → HasShare g v w b sum rest → rest < sum
share-on g v w true sum rest e h = let f = h.4 in omega (arith, f)
share-on g v w false sum rest e h = absurd (true≢false (sym e))

-- from one volume to another there is one count of written blocks
pub count-once : (g : Geometry) (v w : Volume) (count other : ℕ) → Writes g v w count → Writes g v w other → count ≡ other
count-once g v w count other h k =
    let same : h.writes ≡ k.writes = (moves-once g v w h.writes k.writes h.frees k.frees h.moves k.moves).0 in
    sym h.many ∙ (ap (λ (xs : List Write). length xs) same ∙ k.many)

pub few-entries : (g : Geometry) (v w : Volume) (count sum rest : ℕ) → Writes g v w count → count ≤ 1010 → HasShare g v w true sum rest → sum ≡ count + 1 + rest
few-entries g v w count sum rest wrote few h =
    let same : h.0 ≡ count = count-once g v w h.0 count h.2 wrote in
    let more : h.1 ≤ further_for h.0 = h.3 in
    let none : further_for h.0 ≡ 0 = further-none h.0 (omega (arith, same, few)) in
    let e : sum ≡ h.0 + 1 + h.1 + rest = h.4 in
    omega (arith, same, more, none, e)

counts : (g : Geometry) (ss : List Script) (q : ℕ) (v : Volume) (lines : List Line) (sum : ℕ) → HasEntries g ss q v lines sum → (l : Line) → Contains lines l → is_on q l ≡ true → 0 < sum
counts g ss q v [] sum h l c on = absurd (let x = c.1 in omega arith)
counts g ss q v (m ∷ ls) sum h l c on = elim (head-or-later m l ls c) [
  | inl e ↦ let s = share-on g v (next g ss v m) (is_on q m) sum h.0 (ap (is_on q) e ∙ on) h.2 in omega (arith, s)
  | inr d ↦
      let a = counts g ss q (next g ss v m) ls h.0 h.1 l d on in
      let b = share g v (next g ss v m) (is_on q m) sum h.0 h.2 in
      omega (arith, a, b)
]

pub moves : (g : Geometry) (ss : List Script) (v : Volume) (lines : List Line) (answers : List Told) (q old new : ℕ) → IsRung g ss v lines answers q old new → (l : Line) (t : Told) → Contains lines l → is_on q l ≡ true → Contains answers t → IsOf t l.session l.group → is_good t.answer ≡ true → old < new
moves g ss v lines answers q old new h l t c on d of good =
    let e : Contains (h.sent ++ h.unsent) l = subst (λ (xs : List Line). Contains xs l) h.parts c in
    elim (Contains-append_cases h.sent h.unsent l e) [
      | inl x ↦ let s = counts g ss q v h.sent h.sum h.entries l x on in let n = h.doorbell in omega (arith, s, n)
      | inr y ↦ absurd (true≢false (sym good ∙ h.good l t y on d of))
    ]

-- ---- along the list

above : (g : Geometry) (ss : List Script) (v : Volume) (n : ℕ) (lines : List Line) → IsRun g ss v n lines → (m : Line) → Contains lines m → m.commit ≡ true → n < m.number
above g ss v n [] run m c e = absurd (let x = c.1 in omega arith)
above g ss v n (l ∷ ls) run m c e = elim (head-or-later l m ls c) [
  | inl p ↦
      let f : l.number ≡ n + 1 = run.0.number ∙ ap (λ b. number_after n b) (ap (λ (x : Line). x.commit) p ∙ e) in
      subst (λ (x : Line). n < x.number) p (omega (arith, f))
  | inr d ↦
      let a = steps-up n l.number l.commit run.0.number in
      let b = above g ss (next g ss v l) l.number ls run.1 m d e in
      omega (arith, a, b)
]

behind : (g : Geometry) (ss : List Script) (v : Volume) (n : ℕ) (xs ys : List Line) → IsRun g ss v n (xs ++ ys) → (w : Volume) × (k : ℕ) × IsRun g ss w k ys
behind g ss v n [] ys run = (v, n, run)
behind g ss v n (x ∷ xs) ys run = behind g ss (next g ss v x) x.number xs ys run.1

pub in-order : (g : Geometry) (ss : List Script) (v : Volume) (n : ℕ) (xs ys : List Line) (l m : Line) → IsRun g ss v n (xs ++ l ∷ ys) → Contains ys m → (l.number ≤ m.number) × (m.commit ≡ true → l.number < m.number)
in-order g ss v n xs ys l m run c =
    let r = behind g ss v n xs (l ∷ ys) run in
    ((within g ss (next g ss r.0 l) l.number ys r.2.1 m c).0, above g ss (next g ss r.0 l) l.number ys r.2.1 m c)
