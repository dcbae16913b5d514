-- The writes of an update and the number in the last home block, together.
use Rattle.std.proofs.Common.{◌≡◌, ℕ, ◌+◌, ◌<◌, ◌≤◌, Bool, eqb, cond, List, [], ◌∷◌, ◌++◌, length, length-append, refl, sym, ap, subst, ◌∙◌, arith, inl, inr, Option, Some, None}
use Rattle.std.proofs.lemmas.Bool.{cases_eq, eq-eqb, ne_eqb}
use Rattle.std.proofs.lemmas.List.{length-map}
use Rattle.mq_blocks.specs.Descriptor.{AreRising}
use Rattle.mq_blocks.specs.Geometry.{homes_of, write_limit}
use Rattle.mq_blocks.specs.Journal.{or_else}
use Rattle.mq_blocks.specs.Machine.{Writes, write_of}
use Rattle.mq_blocks.specs.declared.geometry.Geometry.{Geometry}
use Rattle.mq_blocks.proofs.DescriptorLimits.{limit-low}
use Rattle.mq_ledger.specs.History.{blocks_of}
use Rattle.mq_replica.specs.Contents.{AreSame, Contents, after_update, numbered_block, with_writes}
use Rattle.mq_replica.specs.Plans.{pairs_of}
use Rattle.mq_replica.specs.Updates.{AreBelow, AreWritesRising, last_home, update_limit}
use Rattle.mq_replica.specs.declared.update.Update.{Update}
use Rattle.mq_replica.proofs.Served.{last_within}

-- no write is of a block that all are below
none_at : (high x : ℕ) (ws : Writes) → AreBelow high (blocks_of ws) → high ≤ x → write_of ws x ≡ None
none_at high x [] below at = refl
none_at high x (w ∷ ws) below at = rw (ne_eqb w.0 x (λ e. omega (arith, e, at, below.0))) (none_at high x ws below.1 at)

-- the write of another block behind them
write_behind : (ws : Writes) (l x : ℕ) (b : List ℕ) → write_of ws x ≡ None → write_of (ws ++ (l, b) ∷ []) x ≡ cond (eqb l x) (Some b) None
write_behind [] l x b none = refl
write_behind (w ∷ ws) l x b none = elim (cases_eq w.0 x) [
  | inl e ↦ absurd (some_none w.1 (rw (eq-eqb w.0 x e) at none))
  | inr n ↦ rw (ne_eqb w.0 x n) (write_behind ws l x b (rw (ne_eqb w.0 x n) at none))
]
  where
    some_none : (v : List ℕ) → Some v ≡ None → ⊥
    some_none v e = cc

write_before : (ws : Writes) (l x : ℕ) (b : List ℕ) → (l ≡ x → ⊥) → write_of (ws ++ (l, b) ∷ []) x ≡ write_of ws x
write_before [] l x b other = rw (ne_eqb l x other) refl
write_before (w ∷ ws) l x b other = ap (λ (o : Option (List ℕ)). cond (eqb w.0 x) (Some w.1) o) (write_before ws l x b other)

-- what stands after them is what stands after the update
pub pairs_same : (g : Geometry) (u : Update) (c : Contents) → AreBelow (last_home g) (blocks_of u.writes) → AreSame g (with_writes (pairs_of g u) c) (after_update g u c)
pairs_same g u c below = λ x inside. elim (cases_eq x (last_home g)) [
  | inl e ↦
      let there : write_of (pairs_of g u) x ≡ Some (numbered_block u.number) = write_behind u.writes (last_home g) x (numbered_block u.number) (none_at (last_home g) x u.writes below (omega (arith, e))) ∙ ap (λ (t : Bool). cond t (Some (numbered_block u.number)) None) (eq-eqb (last_home g) x (sym e)) in
      rw (eq-eqb x (last_home g) e) (sym (ap (λ (o : Option (List ℕ)). or_else o (c x)) there))
  | inr n ↦ rw (ne_eqb x (last_home g) n) (sym (ap (λ (o : Option (List ℕ)). or_else o (c x)) (write_before u.writes (last_home g) x (numbered_block u.number) (λ e. n (sym e)))))
]

-- ---- their blocks

rising_with : (low high last homes : ℕ) (bs : List ℕ) → AreRising low high bs → AreBelow last bs → low ≤ last → last < homes → AreRising low homes (bs ++ last ∷ [])
rising_with low high last homes [] rising below at inside = (at, inside, tt)
rising_with low high last homes (b ∷ bs) rising below at inside = (rising.0, omega (arith, below.0, inside), rising_with (b + 1) high last homes bs rising.2 below.1 (omega (arith, below.0)) inside)

blocks_with : (ws : Writes) (l : ℕ) (b : List ℕ) → blocks_of (ws ++ (l, b) ∷ []) ≡ blocks_of ws ++ l ∷ []
blocks_with [] l b = refl
blocks_with (w ∷ ws) l b = ap (λ (bs : List ℕ). w.0 ∷ bs) (blocks_with ws l b)

pub pairs_rising : (g : Geometry) (u : Update) → AreBelow (last_home g) (blocks_of u.writes) → AreWritesRising u.writes → AreRising 0 (homes_of g) (blocks_of (pairs_of g u))
pairs_rising g u below (high, rising) = subst (λ (bs : List ℕ). AreRising 0 (homes_of g) bs) (sym (blocks_with u.writes (last_home g) (numbered_block u.number))) (rising_with 0 high (last_home g) (homes_of g) (blocks_of u.writes) rising below (omega arith) (last_within g))

pub pairs_count : (g : Geometry) (u : Update) → length (pairs_of g u) ≡ length u.writes + 1
pairs_count g u = length-append u.writes ((last_home g, numbered_block u.number) ∷ [])

pub pairs_few : (g : Geometry) (u : Update) → length u.writes ≤ update_limit g → length (pairs_of g u) ≤ write_limit g
pairs_few g u few = (let n = pairs_count g u in let l = limit-low g in omega (arith, n, l, few))

-- blocks that rise below a number are no more than it
rising_count : (low high last : ℕ) (bs : List ℕ) → AreRising low high bs → AreBelow last bs → low ≤ last → low + length bs ≤ last
rising_count low high last [] rising below at = omega (arith, at)
rising_count low high last (b ∷ bs) rising below at = (let r = rising_count (b + 1) high last bs rising.2 below.1 (omega (arith, below.0)) in omega (arith, r, rising.0))

pub writes_count : (g : Geometry) (ws : Writes) → AreWritesRising ws → AreBelow (last_home g) (blocks_of ws) → length ws < 32768
writes_count g ws (high, rising) below =
    let l = rising_count 0 high (last_home g) (blocks_of ws) rising below (omega arith) in
    let n : length (blocks_of ws) ≡ length ws = length-map ws (λ (w : ℕ × List ℕ). w.0) in
    let h = g.homes_high in
    let m = g.meta_low in
    omega (arith, l, n, h, m)
