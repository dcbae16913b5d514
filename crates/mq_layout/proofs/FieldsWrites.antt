-- Writes in a block.
use Rattle.std.proofs.Common.{get_or, set, get_or-set_same, get_or-set_other, ◌≡◌, ◌≢◌, ℕ, ◌+◌, ◌-◌, ◌*◌, ◌/◌, ◌%◌, ◌^◌, ◌<◌, ◌≤◌, inl, inr, List, [], ◌∷◌, ◌++◌, length, replicate, refl, ap, ◌∙◌, arith, length-append}
use Rattle.std.proofs.lemmas.Bool.{cases_eq}
use Rattle.std.specs.Int.{to_le_bytes, w16, w32, w64}
use Rattle.mq_blocks.specs.Descriptor.{list_bytes}
use Rattle.mq_blocks.specs.Windows.{written}
use Rattle.mq_blocks.proofs.WindowsWritten.{length-list_bytes, written-then}
use Rattle.mq_layout.specs.Bits.{bit_of}
use Rattle.mq_layout.specs.Fields.{zero_bytes}
use Rattle.mq_layout.specs.Inodes.{inode_bytes}
use Rattle.mq_layout.specs.Slots.{Entry, slot_bytes}
use Rattle.mq_layout.specs.Superblock.{magic}
use Rattle.mq_layout.specs.declared.inode.Inode.{Inode}
use Rattle.mq_layout.proofs.FieldsZeros.{length-zero_bytes}

-- ---- bits: the byte at `at / 8` alone changes

pub bit-set_same : (b : List ℕ) (at v : ℕ) → at < 8 * length b → bit_of (set b (at / 8) v) at ≡ v / 2 ^ (at % 8) % 2
bit-set_same b at v h = let inside : at / 8 < length b = omega arith in rw get_or-set_same

pub bit-set_other : (b : List ℕ) (at v k : ℕ) → at < 8 * length b → k ≢ at → ((i : ℕ) → i < 8 → i ≢ at % 8 → v / 2 ^ i % 2 ≡ get_or b (at / 8) 0 / 2 ^ i % 2) → bit_of (set b (at / 8) v) k ≡ bit_of b k
bit-set_other b at v k h ne same = elim (cases_eq (k / 8) (at / 8)) [
  | inl e ↦
      let inside : at / 8 < length b = omega arith in
      let low : k % 8 < 8 = omega arith in
      let apart : k % 8 ≢ at % 8 = omega arith in
      rw (e, get_or-set_same) (same (k % 8) low apart)
  | inr n ↦ rw get_or-set_other
]

-- ---- one write behind another

-- onto what was written from a place on
pub written-more : (b b₁ b₂ : List ℕ) (start : ℕ) (xs : List ℕ) (p : ℕ) (ys : List ℕ) → b₁ ≡ written b start xs → b₂ ≡ written b₁ p ys → p ≡ start + length xs → p + length ys ≤ length b → b₂ ≡ written b start (xs ++ ys)
written-more b b₁ b₂ start xs p ys e f n h = f ∙ ap (λ (w : List ℕ). written w p ys) e ∙ written-then b start xs p ys n h

pub zeros-is : (n m : ℕ) → n ≡ m → replicate n 0 ≡ zero_bytes m
unfolding zero_bytes
zeros-is n m e = ap (λ (k : ℕ). replicate k 0) e

pub four_zeros : 0 ∷ 0 ∷ 0 ∷ 0 ∷ [] ≡ zero_bytes 4
unfolding zero_bytes
four_zeros = refl

pub slot-written : (b b₁ b₂ b₃ b₄ b₅ : List ℕ) (start : ℕ) (e : Entry) → start + 272 ≤ length b → length e.name ≤ 255
    → b₁ ≡ written b start (to_le_bytes w32 e.inode) → b₂ ≡ written b₁ (start + 4) (1 ∷ length e.name ∷ []) → b₃ ≡ written b₂ (start + 6) (zero_bytes 10)
    → b₄ ≡ written b₃ (start + 16) e.name → b₅ ≡ written b₄ (start + 16 + length e.name) (zero_bytes (256 - length e.name)) → b₅ ≡ written b start (slot_bytes e)
unfolding slot_bytes
slot-written b b₁ b₂ b₃ b₄ b₅ start e room few e₁ e₂ e₃ e₄ e₅ =
    let l = length-zero_bytes 10 in
    let m = length-zero_bytes (256 - length e.name) in
    let xs₂ = to_le_bytes w32 e.inode ++ (1 ∷ length e.name ∷ []) in
    let n₃ : length (xs₂ ++ zero_bytes 10) ≡ 16 = length-append xs₂ (zero_bytes 10) ∙ ap (λ (n : ℕ). 6 + n) l in
    let n₄ : length (xs₂ ++ zero_bytes 10 ++ e.name) ≡ 16 + length e.name = length-append (xs₂ ++ zero_bytes 10) e.name ∙ ap (λ (n : ℕ). n + length e.name) n₃ in
    let f₂ = written-more b b₁ b₂ start _ (start + 4) _ e₁ e₂ (omega arith) (omega arith) in
    let f₃ = written-more b b₂ b₃ start _ (start + 6) _ f₂ e₃ (omega arith) (omega arith) in
    let f₄ = written-more b b₃ b₄ start _ (start + 16) _ f₃ e₄ (omega arith) (omega arith) in
    written-more b b₄ b₅ start _ (start + 16 + length e.name) _ f₄ e₅ (omega arith) (omega arith)

-- how many bytes the fields of an inode take, up to each of them
pub record Lengths (i : Inode) : Type 0 where
  pub three : length ((i.kind ∷ 0 ∷ []) ++ to_le_bytes w16 i.links ++ zero_bytes 4) ≡ 8
  pub four : length ((i.kind ∷ 0 ∷ []) ++ to_le_bytes w16 i.links ++ zero_bytes 4 ++ to_le_bytes w64 i.size) ≡ 16
  pub five : length ((i.kind ∷ 0 ∷ []) ++ to_le_bytes w16 i.links ++ zero_bytes 4 ++ to_le_bytes w64 i.size ++ list_bytes i.direct) ≡ 64
  pub six : length ((i.kind ∷ 0 ∷ []) ++ to_le_bytes w16 i.links ++ zero_bytes 4 ++ to_le_bytes w64 i.size ++ list_bytes i.direct ++ to_le_bytes w32 i.indirect) ≡ 68

pub lengths : (i : Inode) → length i.direct ≡ 12 → Lengths i
lengths i twelve =
    let l = length-zero_bytes 4 in
    let d = length-list_bytes i.direct in
    let xs₂ = (i.kind ∷ 0 ∷ []) ++ to_le_bytes w16 i.links in
    let xs₃ = xs₂ ++ zero_bytes 4 in
    let xs₄ = xs₃ ++ to_le_bytes w64 i.size in
    let xs₅ = xs₄ ++ list_bytes i.direct in
    let n₃ : length xs₃ ≡ 8 = length-append xs₂ (zero_bytes 4) ∙ ap (λ (n : ℕ). 4 + n) l in
    let n₄ : length xs₄ ≡ 16 = omega (arith, length-append xs₃ (to_le_bytes w64 i.size)) in
    let n₅ : length xs₅ ≡ 64 = omega (arith, length-append xs₄ (list_bytes i.direct)) in
    record { three = n₃; four = n₄; five = n₅; six = omega (arith, length-append xs₅ (to_le_bytes w32 i.indirect)) }

pub inode-written : (b b₁ b₂ b₃ b₄ b₅ b₆ b₇ : List ℕ) (start : ℕ) (i : Inode) → start + 128 ≤ length b → length i.direct ≡ 12
    → b₁ ≡ written b start (i.kind ∷ 0 ∷ []) → b₂ ≡ written b₁ (start + 2) (to_le_bytes w16 i.links) → b₃ ≡ written b₂ (start + 4) (zero_bytes 4)
    → b₄ ≡ written b₃ (start + 8) (to_le_bytes w64 i.size) → b₅ ≡ written b₄ (start + 16) (list_bytes i.direct) → b₆ ≡ written b₅ (start + 64) (to_le_bytes w32 i.indirect)
    → b₇ ≡ written b₆ (start + 68) (zero_bytes 60) → b₇ ≡ written b start (inode_bytes i)
unfolding inode_bytes
inode-written b b₁ b₂ b₃ b₄ b₅ b₆ b₇ start i room twelve e₁ e₂ e₃ e₄ e₅ e₆ e₇ =
    let l = length-zero_bytes 4 in
    let m = length-zero_bytes 60 in
    let d = length-list_bytes i.direct in
    let n = lengths i twelve in
    let n₃ = n.three in
    let n₄ = n.four in
    let n₅ = n.five in
    let n₆ = n.six in
    let f₂ = written-more b b₁ b₂ start _ (start + 2) _ e₁ e₂ (omega arith) (omega arith) in
    let f₃ = written-more b b₂ b₃ start _ (start + 4) _ f₂ e₃ (omega arith) (omega arith) in
    let f₄ = written-more b b₃ b₄ start _ (start + 8) _ f₃ e₄ (omega arith) (omega arith) in
    let f₅ = written-more b b₄ b₅ start _ (start + 16) _ f₄ e₅ (omega arith) (omega arith) in
    let f₆ = written-more b b₅ b₆ start _ (start + 64) _ f₅ e₆ (omega arith) (omega arith) in
    written-more b b₆ b₇ start _ (start + 68) _ f₆ e₇ (omega arith) (omega arith)

pub header-written : (b b₁ b₂ b₃ b₄ b₅ b₆ b₇ : List ℕ) (queues area meta zone inodes : ℕ) → length b ≡ 4096
    → b₁ ≡ written b 0 magic → b₂ ≡ written b₁ 8 (to_le_bytes w32 1) → b₃ ≡ written b₂ 12 (to_le_bytes w32 queues) → b₄ ≡ written b₃ 16 (to_le_bytes w32 area)
    → b₅ ≡ written b₄ 20 (to_le_bytes w32 meta) → b₆ ≡ written b₅ 24 (to_le_bytes w32 zone) → b₇ ≡ written b₆ 28 (to_le_bytes w32 inodes)
    → b₇ ≡ written b 0 (magic ++ list_bytes (1 ∷ queues ∷ area ∷ meta ∷ zone ∷ inodes ∷ []))
header-written b b₁ b₂ b₃ b₄ b₅ b₆ b₇ queues area meta zone inodes whole e₁ e₂ e₃ e₄ e₅ e₆ e₇ =
    let f₂ = written-more b b₁ b₂ 0 _ 8 _ e₁ e₂ refl (omega arith) in
    let f₃ = written-more b b₂ b₃ 0 _ 12 _ f₂ e₃ refl (omega arith) in
    let f₄ = written-more b b₃ b₄ 0 _ 16 _ f₃ e₄ refl (omega arith) in
    let f₅ = written-more b b₄ b₅ 0 _ 20 _ f₄ e₅ refl (omega arith) in
    let f₆ = written-more b b₅ b₆ 0 _ 24 _ f₅ e₆ refl (omega arith) in
    written-more b b₆ b₇ 0 _ 28 _ f₆ e₇ refl (omega arith)
