-- What was written is read back, once, and a write in one place leaves what stands in another.
use Rattle.std.proofs.Common.{◌≡◌, ◌≢◌, ℕ, ◌+◌, ◌*◌, ◌^◌, ◌<◌, ◌≤◌, ◌⊎◌, inl, inr, List, length, refl, sym, ap, ◌∙◌, arith}
use Rattle.std.specs.Prelude.{Option, Some, None}
use Rattle.std.proofs.lemmas.Bool.{cases_lt}
use Rattle.std.specs.Int.{to_le_bytes, w32}
use Rattle.mq_blocks.specs.Windows.{written}
use Rattle.mq_blocks.proofs.Windows.{number-kept, number-shown, shows-kept, shows-written}
use Rattle.mq_layout.specs.Bits.{pointer_of}
use Rattle.mq_layout.specs.Fields.{zero_bytes}
use Rattle.mq_layout.specs.Inodes.{IsInode, ShowsInode, inode_bytes}
use Rattle.mq_layout.specs.Slots.{Entry, IsEntry, ShowsSlot, slot_bytes}
use Rattle.mq_layout.specs.declared.inode.Inode.{Inode}
use Rattle.mq_layout.proofs.InodesForms.{length-inode_bytes, says-inode_at, shown-says}
use Rattle.mq_layout.proofs.SlotsForms.{length-slot_bytes, shown-unused, shown-used, slot-unused}
use Rattle.mq_layout.proofs.FieldsZeros.{length-zero_bytes}

-- ---- inodes

pub inode-written : (b : List ℕ) (at : ℕ) (i : Inode) → length b ≡ 4096 → at < 32 → IsInode i → ShowsInode (written b (128 * at) (inode_bytes i)) at i
inode-written b at i whole h good =
    let n = length-inode_bytes i good.twelve in
    (good, shows-written b (128 * at) (inode_bytes i) (omega arith))

pub inode-kept : (b : List ℕ) (at other : ℕ) (i j : Inode) → length b ≡ 4096 → at < 32 → at ≢ other → IsInode i → ShowsInode b other j → ShowsInode (written b (128 * at) (inode_bytes i)) other j
inode-kept b at other i j whole h ne good s =
    let n = length-inode_bytes i good.twelve in
    let m = length-inode_bytes j s.0.twelve in
    let beside : (128 * other + length (inode_bytes j) ≤ 128 * at) ⊎ (128 * at + length (inode_bytes i) ≤ 128 * other) = elim (cases_lt at other) [ inl l ↦ inr (omega arith) | inr g ↦ inl (omega arith) ] in
    (s.0, shows-kept b (128 * at) (inode_bytes i) (128 * other) (inode_bytes j) (omega arith) beside s.1)

pub inode-once : (b : List ℕ) (at : ℕ) (i j : Inode) → ShowsInode b at i → ShowsInode b at j → i ≡ j
inode-once b at i j s t = sym (says-inode_at i (128 * at) b (shown-says i (128 * at) b s.0 s.1)) ∙ says-inode_at j (128 * at) b (shown-says j (128 * at) b t.0 t.1)

-- ---- slots

pub slot-written : (b : List ℕ) (at : ℕ) (e : Entry) → length b ≡ 4096 → at < 15 → IsEntry e → ShowsSlot (written b (272 * at) (slot_bytes e)) at (Some e)
slot-written b at e whole h good =
    let n = length-slot_bytes e good.name.few in
    (good, shows-written b (272 * at) (slot_bytes e) (omega arith))

pub slot-cleared : (b : List ℕ) (at : ℕ) → length b ≡ 4096 → at < 15 → ShowsSlot (written b (272 * at) (zero_bytes 272)) at None
slot-cleared b at whole h = let n = length-zero_bytes 272 in shows-written b (272 * at) (zero_bytes 272) (omega arith)

pub slot-kept : (b : List ℕ) (at other : ℕ) (bytes : List ℕ) (o : Option Entry) → length b ≡ 4096 → at < 15 → at ≢ other → length bytes ≡ 272 → ShowsSlot b other o → ShowsSlot (written b (272 * at) bytes) other o
slot-kept b at other bytes None whole h ne n s =
    let m = length-zero_bytes 272 in
    let beside : (272 * other + length (zero_bytes 272) ≤ 272 * at) ⊎ (272 * at + length bytes ≤ 272 * other) = elim (cases_lt at other) [ inl l ↦ inr (omega arith) | inr g ↦ inl (omega arith) ] in
    shows-kept b (272 * at) bytes (272 * other) (zero_bytes 272) (omega arith) beside s
slot-kept b at other bytes (Some e) whole h ne n s =
    let m = length-slot_bytes e s.0.name.few in
    let beside : (272 * other + length (slot_bytes e) ≤ 272 * at) ⊎ (272 * at + length bytes ≤ 272 * other) = elim (cases_lt at other) [ inl l ↦ inr (omega arith) | inr g ↦ inl (omega arith) ] in
    (s.0, shows-kept b (272 * at) bytes (272 * other) (slot_bytes e) (omega arith) beside s.1)

pub slot-once : (b : List ℕ) (at : ℕ) (o t : Option Entry) → ShowsSlot b at o → ShowsSlot b at t → o ≡ t
slot-once b at None t s u = slot-unused b b at t refl (shown-unused (272 * at) b s).0 u
slot-once b at (Some e) None s u = sym (slot-unused b b at (Some e) refl (shown-unused (272 * at) b u).0 s)
slot-once b at (Some e) (Some f) s u = ap (λ (x : Entry). Some x) (sym (shown-used (272 * at) b e s.0 s.1).2 ∙ (shown-used (272 * at) b f u.0 u.1).2)

-- ---- pointers

pub pointer-written : (b : List ℕ) (at x : ℕ) → length b ≡ 4096 → at < 1024 → x < 2 ^ 32 → pointer_of (written b (4 * at) (to_le_bytes w32 x)) at ≡ x
pointer-written b at x whole h low = number-shown (written b (4 * at) (to_le_bytes w32 x)) (4 * at) 4 x low (shows-written b (4 * at) (to_le_bytes w32 x) (omega arith))

pub pointer-kept : (b : List ℕ) (at other x : ℕ) → length b ≡ 4096 → at < 1024 → at ≢ other → pointer_of (written b (4 * at) (to_le_bytes w32 x)) other ≡ pointer_of b other
pointer-kept b at other x whole h ne =
    let beside : (4 * other + 4 ≤ 4 * at) ⊎ (4 * at + 4 ≤ 4 * other) = elim (cases_lt at other) [ inl l ↦ inr (omega arith) | inr g ↦ inl (omega arith) ] in
    number-kept b (4 * at) (to_le_bytes w32 x) (4 * other) 4 (omega arith) beside
