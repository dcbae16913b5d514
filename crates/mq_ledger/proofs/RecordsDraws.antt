-- The guard of a draw, by the ledger and by what is known.
use Rattle.std.proofs.Common.{◌≡◌, ℕ, ◌+◌, ◌<◌, ◌≤◌, leb, true, false, List, [], ◌∷◌, length, Option, Some, None, is_some, MatchOption, sym, subst, ◌∙◌, inl, inr}
use Rattle.std.proofs.lemmas.Bool.{cases_Bool, false≢true}
use Rattle.mq_blocks.specs.Journal.{is_among, number_limit}
use Rattle.mq_blocks.specs.Machine.{Map}
use Rattle.mq_blocks.specs.declared.geometry.Geometry.{Geometry}
use Rattle.mq_ledger.specs.KnownJournal.{MayDraw, KnownJournal, IsTx, front}
use Rattle.mq_ledger.specs.History.{blocks_of, map_after, last, last_logged, upto, IsAt}
use Rattle.mq_ledger.specs.Records.{Ledger, IsKnown, Every, IsTaken, IsOpen}
use Rattle.mq_ledger.specs.State.{start_map}
use Rattle.mq_ledger.specs.Tables.{Stands}
use Rattle.mq_ledger.specs.declared.latest.Place.{Place}
use Rattle.mq_ledger.specs.declared.latest.Place.TheVariants.{Free, Start, Written}
use Rattle.mq_ledger.specs.declared.tx.Tx.{Tx}

-- what an answer that may be none says of the map
pub held_some : {B : Type 0} → (r : Option B) (bytes : B → List ℕ) (m : Option (List ℕ)) → MatchOption r (m ≡ None) (λ v. m ≡ Some (bytes v)) → is_some r ≡ true → (block : List ℕ) × (m ≡ Some block)
held_some None bytes m h e = absurd (false≢true e)
held_some (Some v) bytes m h e = (bytes v, h)

pub held_none : {B : Type 0} → (r : Option B) (bytes : B → List ℕ) (m : Option (List ℕ)) → MatchOption r (m ≡ None) (λ v. m ≡ Some (bytes v)) → is_some r ≡ false → (block : List ℕ) × (m ≡ Some block) → ⊥
held_none None bytes m h e b = let k = sym h ∙ b.1 in absurd (cc)
held_none (Some v) bytes m h e b = absurd (false≢true (sym e))

-- ---- a place after some of the transactions

at_upto : (f : ℕ) (t : Tx) (ts h : List Tx) → IsAt t ts (upto f h) → IsAt t ts h
at_upto f t ts [] at = at
at_upto f t ts (u ∷ txs) at = elim (cases_Bool (leb u.number f)) [
  | inl is ↦ rw is at at
  | inr not ↦ inr (at_upto f t ts txs (rw not at at))
]

pub stands_upto : (start : List (Option (List ℕ))) (f : ℕ) (h : List Tx) (x : ℕ) (p : Place) (c : Option (List ℕ)) → Stands start (upto f h) x p c → Stands start h x p c
stands_upto start f h x Free c s = s
stands_upto start f h x Start c s = s
stands_upto start f h x (Written n i) c s = (s.0, s.1, at_upto f s.0 s.1 h s.2, s.3, s.4, s.5)

-- ---- the guard

-- the part of a draw's guard that is about the history, of the ledger itself
pub record MayFollow (s : Ledger) (word : ℕ) (t : Tx) : Type 0 where
  pub form : IsTx s.geometry t
  pub number : (t.number ≡ s.base + length s.history + 1) × (t.number ≤ number_limit)
  pub freed : Every (IsTaken s) t.freed
  pub direct : Every (IsOpen s word t.revoked) (blocks_of t.direct)

pub follow_draws : (s : Ledger) (word : ℕ) (k : KnownJournal) (t : Tx) → IsKnown s word k → MayFollow s word t → MayDraw k t
follow_draws s word k t is may =
    let G : Geometry → Type 0 = λ g. IsTx g t in
    let B : ℕ → List Tx → Type 0 = λ base h. t.number ≡ base + length h + 1 in
    let M : Map → List Tx → Type 0 = λ m h. (x : ℕ) → is_among x t.freed ≡ true → (block : List ℕ) × (map_after m h x ≡ Some block) in
    let F : Map → List Tx → Type 0 = λ m h. (x : ℕ) → is_among x (blocks_of t.direct) ≡ true → map_after m h x ≡ None in
    let S : ℕ → List Tx → ℕ → Type 0 = λ base h f. (x : ℕ) → is_among x (blocks_of t.direct) ≡ true → last base h x ≤ f in
    let R : ℕ → List Tx → ℕ → Type 0 = λ base h w. (x : ℕ) → is_among x (blocks_of t.direct) ≡ true → w < last_logged base h x → is_among x t.revoked ≡ true in
    record {
      form = subst G (sym is.geometry) may.form;
      number = subst (λ b. B b k.history) (sym is.base) (subst (B s.base) (sym is.history) may.number.0);
      limit = may.number.1;
      freed = subst (λ m. M m k.history) (sym is.start) (subst (M (start_map s.start)) (sym is.history) may.freed);
      free = subst (λ m. F m k.history) (sym is.start) (subst (F (start_map s.start)) (sym is.history) (λ x e. (may.direct x e).free));
      settled = subst (λ b. S b k.history (front k)) (sym is.base) (subst (λ h. S s.base h (front k)) (sym is.history) (subst (S s.base s.history) (sym is.front_is) (λ x e. (may.direct x e).settled)));
      revoked = subst (λ b. R b k.history k.word) (sym is.base) (subst (λ h. R s.base h k.word) (sym is.history) (subst (R s.base s.history) (sym is.word_is) (λ x e. (may.direct x e).revoked_is)));
    }

pub draw_follows : (s : Ledger) (word : ℕ) (k : KnownJournal) (t : Tx) → IsKnown s word k → MayDraw k t → MayFollow s word t
draw_follows s word k t is may =
    let G : Geometry → Type 0 = λ g. IsTx g t in
    let B : ℕ → List Tx → Type 0 = λ base h. t.number ≡ base + length h + 1 in
    let M : Map → List Tx → Type 0 = λ m h. (x : ℕ) → is_among x t.freed ≡ true → (block : List ℕ) × (map_after m h x ≡ Some block) in
    let F : Map → List Tx → Type 0 = λ m h. (x : ℕ) → is_among x (blocks_of t.direct) ≡ true → map_after m h x ≡ None in
    let S : ℕ → List Tx → ℕ → Type 0 = λ base h f. (x : ℕ) → is_among x (blocks_of t.direct) ≡ true → last base h x ≤ f in
    let R : ℕ → List Tx → ℕ → Type 0 = λ base h w. (x : ℕ) → is_among x (blocks_of t.direct) ≡ true → w < last_logged base h x → is_among x t.revoked ≡ true in
    let free = subst (λ m. F m s.history) is.start (subst (F k.start) is.history may.free) in
    let settled = subst (λ b. S b s.history s.front) is.base (subst (λ h. S k.base h s.front) is.history (subst (S k.base k.history) is.front_is may.settled)) in
    let revoked = subst (λ b. R b s.history word) is.base (subst (λ h. R k.base h word) is.history (subst (R k.base k.history) is.word_is may.revoked)) in
    record {
      form = subst G is.geometry may.form;
      number = (subst (λ b. B b s.history) is.base (subst (B k.base) is.history may.number), may.limit);
      freed = subst (λ m. M m s.history) is.start (subst (M k.start) is.history may.freed);
      direct = λ x e. record { free = free x e; settled = settled x e; revoked_is = revoked x e };
    }
