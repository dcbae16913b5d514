-- The last home write of a block among those that have begun.
use Rattle.std.proofs.Common.{◌≡◌, ◌≢◌, ℕ, zero, suc, ◌+◌, ◌<◌, true, false, List, [], ◌∷◌, length, get_or, drop, refl, sym, ap, ◌∙◌, inl, inr, arith, eqb}
use Rattle.std.proofs.lemmas.Bool.{cases_Bool, eq-eqb, ne_eqb, false≢true}
use Rattle.std.specs.List.{remove}
use Rattle.mq_blocks.specs.Drive.{holds_write, without_last}
use Rattle.mq_blocks.specs.declared.command.HomeWrite.{HomeWrite}

-- it isn't the one at an index
pub none_at : (lba i : ℕ) (ws : List HomeWrite) (w : HomeWrite) → i < length ws → w ≡ get_or ws i w → w.lba ≢ lba → holds_write lba (drop (i + 1) ws) ≡ false → holds_write lba (drop i ws) ≡ false
none_at lba i [] w l is other none = absurd (omega arith)
none_at lba zero (v ∷ ws) w l is other none = (let o : v.lba ≢ lba = λ e. other (ap (λ (x : HomeWrite). x.lba) is ∙ e) in rw (ne_eqb v.lba lba o) none)
none_at lba (suc i) (v ∷ ws) w l is other none = (let e : suc i + 1 ≡ suc (i + 1) = omega arith in none_at lba i ws w (omega arith) is other (rw e at none))

held_at : (lba i : ℕ) (ws : List HomeWrite) (w : HomeWrite) → i < length ws → w ≡ get_or ws i w → w.lba ≡ lba → holds_write lba ws ≡ true
held_at lba i [] w l is same = absurd (omega arith)
held_at lba zero (v ∷ ws) w l is same = rw (eq-eqb v.lba lba (sym (ap (λ (x : HomeWrite). x.lba) is) ∙ same)) refl
held_at lba (suc i) (v ∷ ws) w l is same = elim (cases_Bool (eqb v.lba lba)) [
  | inl e ↦ rw e refl
  | inr e ↦ rw e (held_at lba i ws w (omega arith) is same)
]

-- it is the one at an index
pub last_at : (lba i : ℕ) (ws : List HomeWrite) (w : HomeWrite) → i < length ws → w ≡ get_or ws i w → w.lba ≡ lba → holds_write lba (drop (i + 1) ws) ≡ false → remove ws i ≡ without_last lba ws
last_at lba i [] w l is same none = absurd (omega arith)
last_at lba zero (v ∷ ws) w l is same none = (let own : v.lba ≡ lba = sym (ap (λ (x : HomeWrite). x.lba) is) ∙ same in rw (none, eq-eqb v.lba lba own) refl)
last_at lba (suc i) (v ∷ ws) w l is same none =
    let e : suc i + 1 ≡ suc (i + 1) = omega arith in
    let deeper = last_at lba i ws w (omega arith) is same (rw e at none) in
    rw (held_at lba i ws w (omega arith) is same) (ap (λ vs. v ∷ vs) deeper)

-- there is none
pub none_left : (lba : ℕ) (ws : List HomeWrite) → holds_write lba ws ≡ false → ws ≡ without_last lba ws
none_left lba [] none = refl
none_left lba (v ∷ ws) none = elim (cases_Bool (eqb v.lba lba)) [
  | inl e ↦ absurd (false≢true (sym none ∙ rw e refl))
  | inr e ↦ (let rest = rw e at none in rw (rest, e) refl)
]
