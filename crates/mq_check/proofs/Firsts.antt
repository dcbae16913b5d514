-- Home blocks have at most one first finding, and none where they have a tree.
use Rattle.std.proofs.Common.{◌≡◌, ℕ, inl, inr, refl, sym, ap, subst, ◌∙◌, arith}
use Rattle.std.specs.Prelude.{if◌then◌else◌, nat_eq}
use Rattle.std.proofs.lemmas.Bool.{cases_lt}
use Rattle.mq_blocks.specs.declared.geometry.Geometry.{Geometry}
use Rattle.mq_check.specs.Verdicts.{Judges}
use Rattle.mq_check.specs.declared.verdict.Verdict.{Verdict}
use Rattle.mq_check.specs.declared.verdict.Verdict.TheVariants.{Sound, Unsound}
use Rattle.mq_tree.specs.Decoded.{Stored}
use Rattle.mq_tree.specs.Empty.{ArePages}
use Rattle.mq_tree.specs.Phases.{Finds, table, root, pointers, dirs, names, twins, shared, counts, unmarked, unreached, tails, IsBefore, IsFirst, rank}
use Rattle.mq_tree.specs.declared.corrupt.CorruptCause.{CorruptCause}
use Rattle.mq_tree.specs.declared.corrupt.CorruptCause.TheVariants.{Layout, Pointer, Unmarked, Shared, Count, Twin, Unreached, Kind, Tail}
use Rattle.mq_tree.proofs.CorruptRefuted.{corrupt-not_clean}
use Rattle.mq_tree.proofs.FirstFindings.{finds-corrupt}
use Rattle.mq_tree.proofs.LaidClean.{volume-clean}

-- the cause that a phase names at this place of its order
abbrev cause_at : (phase place : ℕ) → CorruptCause
cause_at phase place =
    if nat_eq phase 1 then (if nat_eq place 1 then Layout else Kind)
    else (if nat_eq phase 2 then (if nat_eq place 0 then Pointer else Layout)
    else (if nat_eq phase 3 then (if nat_eq place 2 then Kind else Twin)
    else (if nat_eq phase 4 then (if nat_eq place 0 then Shared else Count)
    else (if nat_eq phase 5 then (if nat_eq place 0 then Unmarked else Unreached) else Tail))))

as-named : (phase k : ℕ) (cause x : CorruptCause) → phase ≡ k → cause ≡ x → cause_at k (rank x) ≡ x → cause ≡ cause_at phase (rank cause)
as-named phase k cause x p c is = c ∙ sym is ∙ ap (λ (n : ℕ). cause_at n (rank x)) (sym p) ∙ ap (λ (y : CorruptCause). cause_at phase (rank y)) (sym c)

found-cause : (g : Geometry) (s : Stored) (phase : ℕ) (cause : CorruptCause) (b : ℕ) → Finds g s phase cause b → cause ≡ cause_at phase (rank cause)
found-cause g s phase cause b (table p c h) = as-named phase 1 cause Layout p c refl
found-cause g s phase cause b (root p c h) = as-named phase 1 cause Kind p c refl
found-cause g s phase cause b (pointers p c h) = as-named phase 2 cause Pointer p c refl
found-cause g s phase cause b (dirs p c h) = as-named phase 2 cause Layout p c refl
found-cause g s phase cause b (names p c h) = as-named phase 3 cause Kind p c refl
found-cause g s phase cause b (twins p c h) = as-named phase 3 cause Twin p c refl
found-cause g s phase cause b (shared p c h) = as-named phase 4 cause Shared p c refl
found-cause g s phase cause b (counts p c h) = as-named phase 4 cause Count p c refl
found-cause g s phase cause b (unmarked p c h) = as-named phase 5 cause Unmarked p c refl
found-cause g s phase cause b (unreached p c h) = as-named phase 5 cause Unreached p c refl
found-cause g s phase cause b (tails p c h) = as-named phase 6 cause Tail p c refl

-- of two findings of which each comes before the other, block and place in the order are the same
both-first : (cause further : CorruptCause) (b c : ℕ) → IsBefore cause b further c → IsBefore further c cause b → (b ≡ c) × (rank cause ≡ rank further)
both-first cause further b c (inl low) (inl high) = absurd (omega arith)
both-first cause further b c (inl low) (inr (same, order)) = absurd (omega arith)
both-first cause further b c (inr (same, order)) (inl high) = absurd (omega arith)
both-first cause further b c (inr (same, order)) (inr (again, back)) = (same, omega arith)

phases-meet : (g : Geometry) (s : Stored) (phase other : ℕ) (cause further : CorruptCause) (b c : ℕ) → IsFirst g s phase cause b → IsFirst g s other further c → phase ≡ other
phases-meet g s phase other cause further b c f h = elim (cases_lt phase other) [
  | inl low ↦ absurd (h.clean phase cause b low f.first.found)
  | inr high ↦ elim (cases_lt other phase) [
    | inl less ↦ absurd (f.clean other further c less h.first.found)
    | inr more ↦ omega arith
  ]
]

pub one-first : (g : Geometry) (s : Stored) (phase other : ℕ) (cause further : CorruptCause) (b c : ℕ) → IsFirst g s phase cause b → IsFirst g s other further c → (phase ≡ other) × (cause ≡ further) × (b ≡ c)
one-first g s phase other cause further b c f h =
    let p = phases-meet g s phase other cause further b c f h in
    let there = subst (λ n. Finds g s n further c) (sym p) h.first.found in
    let here = subst (λ n. Finds g s n cause b) p f.first.found in
    let both = both-first cause further b c (f.first.first further c there) (h.first.first cause b here) in
    let named : cause ≡ further = found-cause g s phase cause b f.first.found ∙ ap (λ (n : ℕ). cause_at phase n) both.1 ∙ sym (found-cause g s phase further c there) in
    (p, named, both.0)

-- the first finding is the verdict
pub first-judged : (g : Geometry) (s : Stored) (v : Verdict) (phase : ℕ) (cause : CorruptCause) (b : ℕ) → ArePages s → Judges g s v → IsFirst g s phase cause b → v ≡ Unsound phase cause b
first-judged g s (Sound d f n) phase cause b pages has first =
    absurd (corrupt-not_clean g s cause b (finds-corrupt g s phase cause b first.first.found) (volume-clean g s has.is.laid.volume pages has.is.laid.laid))
first-judged g s (Unsound other further c) phase cause b pages is first =
    let same = one-first g s other phase further cause c b is.0 first in
    ap (λ (n : ℕ). Unsound n further c) same.0 ∙ ap (λ (x : CorruptCause). Unsound phase x c) same.1 ∙ ap (λ (n : ℕ). Unsound phase cause n) same.2
