-- A history in number order, and the lines of its commits.
use Rattle.std.proofs.Common.{◌≡◌, ◌⊎◌, ◌∙◌, ℕ, zero, suc, ◌+◌, ◌-◌, ◌<◌, ◌≤◌, ◌%◌, ◌^◌, List, [], ◌∷◌, ◌++◌, length, take, inl, inr, refl, sym, ap, subst, arith}
use Rattle.std.specs.Prelude.{Some, slice_get, reverse}
use Rattle.std.specs.List.{AllPairs, Contains}
use Rattle.std.proofs.Math.Seq.{take-append_seam}
use Rattle.std.proofs.lemmas.List.{length-reverse, reverse-append}
use Rattle.std.proofs.lemmas.Option.{same_Some, slice_get_within, get_or_from_slice_get}
use Rattle.mq_blocks.specs.Machine.{Map, after}
use Rattle.mq_blocks.specs.declared.geometry.Geometry.{Geometry}
use Rattle.mq_calls.specs.Entries.{Does, tx_of}
use Rattle.mq_calls.specs.declared.entry.FileEntry.{FileEntry}
use Rattle.mq_ledger.specs.History.{change_of}
use Rattle.mq_run_laws.specs.Groups.{IsGroup, group_at, groups_of}
use Rattle.mq_run_laws.specs.Histories.{AllDo, map_after}
use Rattle.mq_report.specs.declared.line.Line.{Line}
use Rattle.mq_run.specs.Lines.{AreCommitLines, IsCommitLine}
use Rattle.mq_run.specs.Lines.AreCommitLines.{none, more}
use Rattle.mq_script.specs.Scripts.{Group, Script}
use Rattle.mq_script.specs.declared.group.End.TheVariants.{Ask}
use Rattle.mq_tie.specs.Legal.{numbered}
use Rattle.mq_tie.proofs.Stored.{at-each, at-place}
use Rattle.mq_turns.specs.Lists.{Sorted}
use Rattle.mq_turns.specs.Meaning.{HasNumberAt}
use Rattle.mq_run_laws.proofs.Pairs.{cons-cases, each-in, here, none-in, pairs-cons, pairs-none, there}

-- ---- a history

pub do-at : (g : Geometry) (m : Map) (es : List FileEntry) (i : ℕ) (e : FileEntry) → AllDo g m es → slice_get es i ≡ Some e → Does g (map_after m (take i es)) e
do-at g m [] i e all at = absurd (cc)
do-at g m (x ∷ es) zero e all at = subst (λ (y : FileEntry). Does g m y) (same_Some x e at) all.0
do-at g m (x ∷ es) (suc i) e all at = do-at g (after m (change_of (tx_of x))) es i e all.1 at

pub entry-at : {E : Type 0} (base : ℕ) (log : List E) (i : ℕ) (e : E) → slice_get (reverse log) i ≡ Some e → HasNumberAt base log (suc base + i) e
entry-at {E = E} base log i e at =
    let low = slice_get_within (reverse log) i e at in
    let long = length-reverse log in
    let one = at-each base log (suc base + i) (omega arith) (omega arith) in
    let place : (suc base + i) - suc base ≡ i = omega arith in
    let there_is = at-place base log (suc base + i) one.0 one.1 in
    let same : one.0 ≡ e = same_Some one.0 e (sym there_is ∙ (ap (slice_get (reverse log)) place ∙ at)) in
    subst (λ (x : E). HasNumberAt base log (suc base + i) x) same one.1

pub once-at : {E : Type 0} (base : ℕ) (log : List E) (n : ℕ) (x y : E) → HasNumberAt base log n x → HasNumberAt base log n y → x ≡ y
once-at base log n x y h k = same_Some x y (sym (at-place base log n x h) ∙ at-place base log n y k)

-- what was known before is the beginning
pub older : {E : Type 0} (log newer old : List E) → log ≡ newer ++ old → take (length old) (reverse log) ≡ reverse old
older log newer old is =
    ap (λ es. take (length old) (reverse es)) is
    ∙ (ap (take (length old)) (reverse-append newer old)
    ∙ (ap (λ (n : ℕ). take n (reverse old ++ reverse newer)) (sym (length-reverse old))
    ∙ take-append_seam (reverse old) (reverse newer)))

-- ---- the lines of its commits

pub commit-of : (n : ℕ) (es : List FileEntry) (ls : List Line) (l : Line) → AreCommitLines (numbered n es) ls → Contains ls l → (i : ℕ) × (e : FileEntry) × (slice_get es i ≡ Some e) × IsCommitLine (n + i) e l
commit-of n [] _ l none c = absurd (none-in l c)
commit-of n (e ∷ es) _ l (more {l = k} {ls = ls} one rest) c = elim (cons-cases l k ls c) [
  | inl same ↦ (let at : n ≡ n + 0 = omega arith in (0, e, refl, subst (λ (z : ℕ × Line). IsCommitLine z.0 e z.1) (λ i. (at i, same i)) one))
  | inr c ↦ (
      let r = commit-of (suc n) es ls l rest c in
      let at : suc n + r.0 ≡ n + suc r.0 = omega arith in
      (suc r.0, r.1, r.2, subst (λ (j : ℕ). IsCommitLine j r.1 l) at r.3))
]

pub commit-has : (n : ℕ) (es : List FileEntry) (ls : List Line) (i : ℕ) (e : FileEntry) → AreCommitLines (numbered n es) ls → slice_get es i ≡ Some e → (l : Line) × Contains ls l × IsCommitLine (n + i) e l
commit-has n [] _ i e none at = absurd (cc)
commit-has n (x ∷ es) _ zero e (more {l = k} {ls = ls} one rest) at =
    let place : n ≡ n + 0 = omega arith in
    let same = same_Some x e at in
    (k, here k ls, subst (λ (z : ℕ × FileEntry). IsCommitLine z.0 z.1 k) (λ i. (place i, same i)) one)
commit-has n (x ∷ es) _ (suc i) e (more {l = k} {ls = ls} one rest) at =
    let r = commit-has (suc n) es ls i e rest at in
    let place : suc n + i ≡ n + suc i = omega arith in
    (r.0, there r.0 k ls r.1, subst (λ (j : ℕ). IsCommitLine j e r.0) place r.2)

pub commit-rising : (n : ℕ) (es : List FileEntry) (ls : List Line) → AreCommitLines (numbered n es) ls → AllPairs (λ l m. l.number < m.number) ls
commit-rising n [] _ none = pairs-none (λ l m. l.number < m.number)
commit-rising n (e ∷ es) _ (more {l = k} {ls = ls} one rest) =
    pairs-cons (λ l m. l.number < m.number) k ls
    (λ l c. let r = commit-of (suc n) es ls l rest c in let a = one.number_is in let b = r.3.number_is in omega arith)
    (commit-rising (suc n) es ls rest)

pub small-rest : (n m : ℕ) → n < m → m ≤ 2 ^ 32 → n % 2 ^ 32 ≡ n
small-rest n m lt le = omega arith

-- ---- groups of scripts

pub groups-are : (scripts : List Script) (s : ℕ) (script : Script) → slice_get scripts s ≡ Some script → groups_of scripts s ≡ script.groups
groups-are scripts s script at = ap (λ (x : Script). x.groups) (get_or_from_slice_get scripts s script (record { groups = [] }) at)

pub group-found : (scripts : List Script) (s k : ℕ) (script : Script) (group : Group) → slice_get scripts s ≡ Some script → slice_get script.groups k ≡ Some group → IsGroup scripts s k × (group_at scripts s k ≡ group)
group-found scripts s k script group at to =
    let there_is = groups-are scripts s script at in
    let low = slice_get_within script.groups k group to in
    let long = ap length there_is in
    (omega arith, get_or_from_slice_get (groups_of scripts s) k group (record { requests = []; end = Ask }) (ap (λ gs. slice_get gs k) there_is ∙ to))

-- ---- lists in which each stands rightly to those behind it

pub sorted-cases : {A : Type 0} (R : A → A → Type 0) (xs : List A) (a b : A) → Sorted R xs → Contains xs a → Contains xs b → R a b ⊎ (R b a ⊎ (a ≡ b))
sorted-cases R [] a b h c d = absurd (none-in a c)
sorted-cases R (x ∷ xs) a b h c d = elim (cons-cases a x xs c) [
  | inl e ↦ elim (cons-cases b x xs d) [
    | inl f ↦ inr (inr (sym e ∙ f))
    | inr d ↦ inl (subst (λ y. R y b) e (each-in (R x) xs b h.0 d))
  ]
  | inr c ↦ elim (cons-cases b x xs d) [
    | inl f ↦ inr (inl (subst (λ y. R y a) f (each-in (R x) xs a h.0 c)))
    | inr d ↦ sorted-cases R xs a b h.1 c d
  ]
]
