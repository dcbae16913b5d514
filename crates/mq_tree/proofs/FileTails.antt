-- The least block of a file with a byte past its end.
use Rattle.std.proofs.Common.{◌≡◌, ℕ, ◌+◌, ◌/◌, ◌<◌, ◌⊎◌, inl, inr, refl, sym, ap, subst, ◌∙◌, arith}
use Rattle.std.specs.Prelude.{Option, Some, None, MatchOption}
use Rattle.std.proofs.lemmas.Bool.{cases_eq, cases_lt}
use Rattle.mq_blocks.specs.declared.geometry.Geometry.{Geometry}
use Rattle.mq_layout.specs.Places.{inodes_of}
use Rattle.mq_layout.specs.declared.inode.Inode.{Inode}
use Rattle.mq_tree.specs.Clean.{AreEnded, ArePointers}
use Rattle.mq_tree.specs.Corrupt.{HasTail}
use Rattle.mq_tree.specs.Decoded.{Stored, byte_of, pointer_to, the_inode}
use Rattle.mq_tree.specs.Least.{IsLeast, IsLeastOf, lesser}
use Rattle.mq_tree.specs.Parts.{HasEndAt, IsEnded}
use Rattle.mq_tree.proofs.Least.{least-either, least-same}
use Rattle.mq_tree.proofs.Parts.{tail-found}

-- a file below this inode has such a byte in this block
pub record HasEndBelow (g : Geometry) (s : Stored) (i b : ℕ) : Type 0 where
  pub inode : ℕ
  pub before : inode < i
  pub end : HasEndAt s (the_inode g s inode) b

-- A file has such bytes in its last block alone.
pub end-least : (s : Stored) (n : Inode) (o : Option ℕ) → MatchOption o (IsEnded s n) (HasEndAt s n) → IsLeastOf (HasEndAt s n) o
end-least s n None h = λ c e. e.not_zero (h e.k e.file e.past e.inside)
end-least s n (Some b) h = record {
  wrong = h;
  least = λ c e.
      let p = h.past in
      let q = h.inside in
      let u = e.past in
      let v = e.inside in
      let same : h.k / 4096 ≡ e.k / 4096 = omega arith in
      let at : b ≡ c = h.is ∙ ap (λ (k : ℕ). pointer_to s n k) same ∙ sym e.is in
      omega arith;
}

pub ends-none : (g : Geometry) (s : Stored) → IsLeastOf (HasEndBelow g s 0) None
ends-none g s c h = let l = h.before in omega arith

pub ends-more : (g : Geometry) (s : Stored) (i : ℕ) (n : Inode) (best found : Option ℕ) → n ≡ the_inode g s i → IsLeastOf (HasEndBelow g s i) best → MatchOption found (IsEnded s n) (HasEndAt s n) → IsLeastOf (HasEndBelow g s (i + 1)) (lesser best found)
ends-more g s i n best found e f h =
    least-same (λ c. HasEndBelow g s i c ⊎ HasEndAt s n c) (HasEndBelow g s (i + 1)) (lesser best found)
    (λ c h. elim h [
      | inl x ↦ (let l = x.before in record { inode = x.inode; before = omega arith; end = x.end })
      | inr y ↦ record { inode = i; before = omega arith; end = subst (λ m. HasEndAt s m c) e y }
    ])
    (λ c h. elim (cases_lt h.inode i) [
      | inl low ↦ inl (record { inode = h.inode; before = low; end = h.end })
      | inr high ↦
          let l = h.before in
          let same : h.inode ≡ i = omega arith in
          inr (subst (λ m. HasEndAt s m c) (ap (λ (k : ℕ). the_inode g s k) same ∙ sym e) h.end)
    ])
    (least-either (HasEndBelow g s i) (HasEndAt s n) best found f (end-least s n found h))

pub ends-all : (g : Geometry) (s : Stored) (best : Option ℕ) → ArePointers g s → IsLeastOf (HasEndBelow g s (inodes_of g)) best → MatchOption best (AreEnded g s) (IsLeast (HasTail g s))
ends-all g s None pointers f = λ i k low file past inside. elim (cases_eq (byte_of s (the_inode g s i) k) 0) [
  | inl zero ↦ zero
  | inr some ↦ absurd (f (pointer_to s (the_inode g s i) (k / 4096)) (record { inode = i; before = low; end = record { k = k; file = file; past = past; inside = inside; is = refl; not_zero = some } }))
]
ends-all g s (Some b) pointers f =
    least-same (HasEndBelow g s (inodes_of g)) (HasTail g s) (Some b)
    (λ c h. tail-found g s h.inode c pointers h.before h.end)
    (λ c t. record { inode = t.i; before = t.low; end = record { k = t.k; file = t.file; past = t.past; inside = t.inside; is = t.place.is; not_zero = t.not_zero } })
    f
