-- What the blocks of an empty file system show.
use Rattle.std.proofs.Common.{get_or, ◌≡◌, ◌≢◌, ℕ, zero, suc, ◌+◌, ◌-◌, ◌*◌, ◌/◌, ◌%◌, ◌^◌, ◌<◌, ◌≤◌, List, ◌∷◌, replicate, drop, refl, sym, ap, subst, ◌∙◌, arith, lit<, lit≤, inl, inr}
use Rattle.std.specs.Prelude.{None}
use Rattle.std.specs.List.{All}
use Rattle.std.proofs.Math.Nat.{div-eq_of_lt, one-le-pow, pow-suc, zero-div}
use Rattle.std.proofs.lemmas.Bool.{cases_lt, eq-eqb, ne_eqb}
use Rattle.std.proofs.lemmas.List.{get_or-drop, get_or-replicate}
use Rattle.mq_blocks.specs.Blocks.{zeros}
use Rattle.mq_blocks.specs.Windows.{written, Shows}
use Rattle.mq_blocks.specs.declared.geometry.Geometry.{Geometry}
use Rattle.mq_blocks.proofs.Windows.{shows-all}
use Rattle.mq_blocks.proofs.BlocksZeros.{length-zeros, zeros-at}
use Rattle.mq_layout.specs.Bits.{bit_of}
use Rattle.mq_layout.specs.Empty.{empty_block, empty_root, free_inode}
use Rattle.mq_layout.specs.Fields.{zero_bytes}
use Rattle.mq_layout.specs.Inodes.{IsInode, ShowsInode, inode_bytes}
use Rattle.mq_layout.specs.Places.{inode_bitmap, table_first}
use Rattle.mq_layout.specs.Slots.{ShowsSlot}
use Rattle.mq_layout.specs.Superblock.{super_bytes}
use Rattle.mq_layout.proofs.SlotsLaws.{inode-kept, inode-written}
use Rattle.mq_layout.proofs.FieldsZeros.{length-zero_bytes, zero_bytes-at}

shows-zeros : (p n : ℕ) → p + n ≤ 4096 → Shows zeros p (zero_bytes n)
shows-zeros p n h =
    let l = length-zeros in
    let m = length-zero_bytes n in
    shows-all zeros p (zero_bytes n) (omega arith) (λ k s. zeros-at (p + k) ∙ sym (zero_bytes-at n k))

pub zeros-unused : (at : ℕ) → at < 15 → ShowsSlot zeros at None
zeros-unused at h = shows-zeros (272 * at) 272 (omega arith)

pub zeros-bit : (k : ℕ) → bit_of zeros k ≡ 0
zeros-bit k = ap (λ (byte : ℕ). byte / 2 ^ (k % 8) % 2) (zeros-at (k / 8)) ∙ ap (λ (n : ℕ). n % 2) (zero-div (2 ^ (k % 8)))

-- ---- inodes

free-bytes : inode_bytes free_inode ≡ zero_bytes 128
unfolding inode_bytes zero_bytes
free-bytes = refl

no-pointers : All (λ p. p < 2 ^ 32) (replicate 12 0)
no-pointers = λ k d l. let e : get_or (replicate 12 0) k d ≡ 0 = get_or-replicate 12 k 0 d (omega arith) in omega arith

free-good : IsInode free_inode
free-good = record {
  kind = lit≤ tt;
  free = λ e. (refl, refl, refl, refl);
  used = λ h. absurd (omega arith);
  directory = λ e. absurd (omega arith);
  links = lit< tt;
  twelve = refl;
  direct = no-pointers;
  indirect = lit< tt;
}

root-good : IsInode empty_root
root-good = record {
  kind = lit≤ tt;
  free = λ e. absurd (omega arith);
  used = λ h. (lit≤ tt, lit≤ tt);
  directory = λ e. (refl, refl);
  links = lit< tt;
  twelve = refl;
  direct = no-pointers;
  indirect = lit< tt;
}

pub zeros-free : (at : ℕ) → at < 32 → ShowsInode zeros at free_inode
zeros-free at h = let P : List ℕ → Type 0 = λ xs. Shows zeros (128 * at) xs in (free-good, subst P (sym free-bytes) (shows-zeros (128 * at) 128 (omega arith)))

-- ---- the superblock, and the blocks that are zeros

pub empty-super : (g : Geometry) → empty_block g 0 ≡ super_bytes g
unfolding empty_block
empty-super g = refl

pub empty-zeros : (g : Geometry) (b : ℕ) → b ≢ 0 → b ≢ inode_bitmap g → b ≢ table_first g → empty_block g b ≡ zeros
unfolding empty_block
empty-zeros g b not_super not_marks not_table =
    let e = ne_eqb b 0 not_super in
    let f = ne_eqb b (inode_bitmap g) not_marks in
    let h = ne_eqb b (table_first g) not_table in
    rw (e, f, h) refl

-- ---- the inode table's first block, and the inodes' bitmap

table-first : (g : Geometry) → empty_block g (table_first g) ≡ written zeros 0 (inode_bytes empty_root)
unfolding empty_block
table-first g =
    let a = ne_eqb (table_first g) 0 (λ e. omega arith) in
    let b = ne_eqb (table_first g) (inode_bitmap g) (λ e. omega arith) in
    let c = eq-eqb (table_first g) (table_first g) refl in
    rw (a, b, c) refl

pub empty-table-root : (g : Geometry) → ShowsInode (empty_block g (table_first g)) 0 empty_root
empty-table-root g = let P : List ℕ → Type 0 = λ b. ShowsInode b 0 empty_root in subst P (sym (table-first g)) (inode-written zeros 0 empty_root length-zeros (lit< tt) root-good)

pub empty-table-free : (g : Geometry) (at : ℕ) → 1 ≤ at → at < 32 → ShowsInode (empty_block g (table_first g)) at free_inode
empty-table-free g at l h =
    let P : List ℕ → Type 0 = λ b. ShowsInode b at free_inode in
    subst P (sym (table-first g)) (inode-kept zeros 0 at empty_root free_inode length-zeros (lit< tt) (λ e. absurd (omega arith)) root-good (zeros-free at h))

marks : (g : Geometry) → empty_block g (inode_bitmap g) ≡ 1 ∷ drop 1 zeros
unfolding empty_block written
marks g =
    let a = ne_eqb (inode_bitmap g) 0 (λ e. omega arith) in
    let b = eq-eqb (inode_bitmap g) (inode_bitmap g) refl in
    rw (a, b) refl

two-le : (m : ℕ) → 1 ≤ m → 2 ≤ 2 ^ m
two-le zero h = absurd (omega arith)
two-le (suc m) h = let p = one-le-pow m 2 (lit≤ tt) in omega (arith, pow-suc 2 m)

pub empty-mark-root : (g : Geometry) → bit_of (empty_block g (inode_bitmap g)) 0 ≡ 1
empty-mark-root g = ap (λ (b : List ℕ). bit_of b 0) (marks g)

pub empty-mark-others : (g : Geometry) (k : ℕ) → 1 ≤ k → bit_of (empty_block g (inode_bitmap g)) k ≡ 0
empty-mark-others g k l = ap (λ (b : List ℕ). bit_of b k) (marks g) ∙ elim (cases_lt k 8) [
  | inl low ↦
      let z : k / 8 ≡ 0 = omega arith in
      let m : 1 ≤ k % 8 = omega arith in
      ap (λ (j : ℕ). get_or (1 ∷ drop 1 zeros) j 0 / 2 ^ (k % 8) % 2) z ∙ ap (λ (n : ℕ). n % 2) (div-eq_of_lt (two-le (k % 8) m))
  | inr high ↦
      let j : k / 8 ≡ suc (k / 8 - 1) = omega arith in
      let zero_byte : get_or (1 ∷ drop 1 zeros) (k / 8) 0 ≡ 0 = ap (λ (n : ℕ). get_or (1 ∷ drop 1 zeros) n 0) j ∙ get_or-drop 1 zeros (k / 8 - 1) 0 ∙ zeros-at (1 + (k / 8 - 1)) in
      ap (λ (byte : ℕ). byte / 2 ^ (k % 8) % 2) zero_byte ∙ ap (λ (n : ℕ). n % 2) (zero-div (2 ^ (k % 8)))
]
