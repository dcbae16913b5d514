-- A block is determined by what it shows.
use Rattle.std.proofs.Common.{get_or, ◌≡◌, ℕ, ◌+◌, ◌-◌, ◌*◌, ◌/◌, ◌%◌, ◌<◌, ◌≤◌, inl, inr, List, length, sym, ap, ◌∙◌, arith, refl}
use Rattle.std.specs.Prelude.{Option, Some, None}
use Rattle.std.proofs.lemmas.Bool.{cases_lt}
use Rattle.std.proofs.lemmas.List.{get_or_default, same_lists}
use Rattle.std.proofs.lemmas.Nat.Bits.{same_from_bits_below}
use Rattle.mq_blocks.specs.Windows.{Shows}
use Rattle.mq_blocks.proofs.Windows.{shows-at}
use Rattle.mq_layout.specs.Bits.{bit_of, pointer_of}
use Rattle.mq_layout.specs.Fields.{zero_bytes}
use Rattle.mq_layout.specs.Inodes.{ShowsInode, inode_bytes}
use Rattle.mq_layout.specs.Slots.{Entry, ShowsSlot, slot_bytes}
use Rattle.mq_layout.specs.declared.inode.Inode.{Inode}
use Rattle.mq_layout.proofs.Fields.{number-shows-4}
use Rattle.mq_layout.proofs.InodesForms.{length-inode_bytes}
use Rattle.mq_layout.proofs.SlotsForms.{length-slot_bytes}
use Rattle.mq_layout.proofs.FieldsZeros.{length-zero_bytes}

same-bytes : (b c : List ℕ) → length b ≡ 4096 → length c ≡ 4096 → ((k : ℕ) → k < 4096 → get_or b k 0 ≡ get_or c k 0) → b ≡ c
same-bytes b c m n same = same_lists b c (m ∙ sym n) (λ k d l.
    let low : k < 4096 = omega arith in
    let other : k < length c = omega arith in
    get_or_default b k d 0 l ∙ same k low ∙ get_or_default c k 0 d other)

-- two blocks that show the same bytes agree there
same-shown : (b c : List ℕ) (p : ℕ) (xs : List ℕ) (k : ℕ) → Shows b p xs → Shows c p xs → p ≤ k → k < p + length xs → get_or b k 0 ≡ get_or c k 0
same-shown b c p xs k s t low high =
    let e : p + (k - p) ≡ k = omega arith in
    let l : k - p < length xs = omega arith in
    ap (λ (j : ℕ). get_or b j 0) (sym e) ∙ shows-at b p xs (k - p) s l ∙ sym (shows-at c p xs (k - p) t l) ∙ ap (λ (j : ℕ). get_or c j 0) e

slot-same : (b c : List ℕ) (at k : ℕ) (o : Option Entry) → ShowsSlot b at o → ShowsSlot c at o → 272 * at ≤ k → k < 272 * at + 272 → get_or b k 0 ≡ get_or c k 0
slot-same b c at k None s t low high = let z = length-zero_bytes 272 in same-shown b c (272 * at) (zero_bytes 272) k s t low (omega arith)
slot-same b c at k (Some e) s t low high = let z = length-slot_bytes e s.0.name.few in same-shown b c (272 * at) (slot_bytes e) k s.1 t.1 low (omega arith)

-- by the bits of a bitmap
pub bitmap-same : (b c : List ℕ) → length b ≡ 4096 → length c ≡ 4096 → ((k : ℕ) → get_or b k 0 < 256) → ((k : ℕ) → get_or c k 0 < 256) → ((k : ℕ) → k < 32768 → bit_of b k ≡ bit_of c k) → b ≡ c
bitmap-same b c m n small low same = same-bytes b c m n (λ k l. same_from_bits_below 8 (get_or b k 0) (get_or c k 0) (small k) (low k) (λ i h.
    let q : (8 * k + i) / 8 ≡ k = omega arith in
    let r : (8 * k + i) % 8 ≡ i = omega arith in
    let inside : 8 * k + i < 32768 = omega arith in
    let s = same (8 * k + i) inside in
    rw (q, r) at s))

-- by the inodes of a block of the inode table
pub table-same : (b c : List ℕ) → length b ≡ 4096 → length c ≡ 4096 → ((at : ℕ) → at < 32 → (i : Inode) × ShowsInode b at i × ShowsInode c at i) → b ≡ c
table-same b c m n same = same-bytes b c m n (λ k l.
    let inside : k / 128 < 32 = omega arith in
    let s = same (k / 128) inside in
    let size = length-inode_bytes s.0 s.1.0.twelve in
    same-shown b c (128 * (k / 128)) (inode_bytes s.0) k s.1.1 s.2.1 (omega arith) (omega arith))

-- by the slots of a block of a directory, and the zeros behind them
pub directory-same : (b c : List ℕ) → length b ≡ 4096 → length c ≡ 4096 → Shows b 4080 (zero_bytes 16) → Shows c 4080 (zero_bytes 16) → ((at : ℕ) → at < 15 → (o : Option Entry) × ShowsSlot b at o × ShowsSlot c at o) → b ≡ c
directory-same b c m n s t same = same-bytes b c m n (λ k l. elim (cases_lt k 4080) [
  | inl low ↦ let inside : k / 272 < 15 = omega arith in let o = same (k / 272) inside in slot-same b c (k / 272) k o.0 o.1 o.2 (omega arith) (omega arith)
  | inr high ↦ let z = length-zero_bytes 16 in same-shown b c 4080 (zero_bytes 16) k s t high (omega arith)
])

-- by the pointers of an indirect block
pub pointers-same : (b c : List ℕ) → length b ≡ 4096 → length c ≡ 4096 → ((k : ℕ) → get_or b k 0 < 256) → ((k : ℕ) → get_or c k 0 < 256) → ((at : ℕ) → at < 1024 → pointer_of b at ≡ pointer_of c at) → b ≡ c
pointers-same b c m n small low same = same-bytes b c m n (λ k l.
    let inside : k / 4 < 1024 = omega arith in
    let room : 4 * (k / 4) + 4 ≤ length b = omega arith in
    let other : 4 * (k / 4) + 4 ≤ length c = omega arith in
    same-shown b c (4 * (k / 4)) _ k (number-shows-4 b (4 * (k / 4)) (pointer_of c (k / 4)) room small (same (k / 4) inside)) (number-shows-4 c (4 * (k / 4)) (pointer_of c (k / 4)) other low refl) (omega arith) (omega arith))
