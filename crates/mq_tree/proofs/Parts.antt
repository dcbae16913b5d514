-- Steps of the phases that go inode by inode, or bit by bit.
use Rattle.std.proofs.Common.{◌≡◌, ◌≢◌, ℕ, ◌+◌, ◌*◌, ◌/◌, ◌%◌, ◌<◌, ◌≤◌, List, length, Bool, true, false, Some, refl, sym, ap, subst, ◌∙◌, arith, inl, inr}
use Rattle.std.specs.Prelude.{Option, slice_index, if◌then◌else◌, ◌&&◌, IfOk, Result, Ok, Err, is_err, not, nat_eq}
use Rattle.std.proofs.lemmas.Bool.{and_left, cases_eq, cases_lt, eq-eqb, le-ltb, lt-ltb, ne_eqb}
use mathlib.Core.Bool.{beq}
use Rattle.mq_blocks.specs.Blocks.{block_at}
use Rattle.mq_blocks.specs.Geometry.{queues_of, zone_size}
use Rattle.mq_blocks.specs.Windows.{Shows as ShowsBytes}
use Rattle.mq_blocks.specs.declared.geometry.Geometry.{Geometry}
use Rattle.mq_blocks.proofs.Windows.{shows-all}
use Rattle.mq_layout.specs.Bits.{bit_of}
use Rattle.mq_layout.specs.Fields.{zero_bytes}
use Rattle.mq_layout.specs.Places.{inode_bitmap, inodes_of, zone_bitmap}
use Rattle.mq_layout.specs.Slots.{ShowsSlot, entry_of}
use Rattle.mq_layout.specs.declared.inode.Inode.{Inode}
use Rattle.mq_layout.specs.declared.refusal.LayoutRefusal.{LayoutRefusal}
use Rattle.mq_layout.specs.declared.slot.Slot.{Slot}
use Rattle.mq_layout.proofs.FieldsZeros.{length-zero_bytes, zero_bytes-at}
use Rattle.mq_tree.specs.Clean.{AreMarked, ArePointers, IsInZone, IsTable}
use Rattle.mq_tree.specs.Corrupt.{HasTail, IsPlace, IsUsedFor}
use Rattle.mq_tree.specs.Decoded.{Stored, body_of, byte_of, count_of, pointer_to, slot_of, the_inode, volume_in}
use Rattle.mq_tree.specs.Laid.{zone_block}
use Rattle.mq_tree.specs.Parts.{HasEndAt, IsEnded}
use Rattle.mq_tree.specs.Volume.{Use, Part, Pointers, block_in, body, is_taken, is_used, Node}
use Rattle.mq_tree.proofs.Decoded.{body-dir, body-file, body-free, body-in, indirect-found, node-past, part-found, slot-decoded}

-- ---- places in zones

pub is-place : (g : Geometry) (s : Stored) (i place b : ℕ) → ArePointers g s → i < inodes_of g → place < count_of (the_inode g s i) → b ≡ pointer_to s (the_inode g s i) place → IsPlace g s i place b
is-place g s i place b pointers low inside is = record {
  is = is;
  inside = subst (λ p. IsInZone g p) (sym is) ((pointers i low).there place inside);
  through = λ high. (pointers i low).many (omega arith);
}

pub used-for : (g : Geometry) (s : Stored) (u : Use) (b : ℕ) → ArePointers g s → block_in (volume_in g s) u ≡ Some b → IsUsedFor g s u b
used-for g s (Part i place) b pointers e =
    let p = part-found g s i place b e in
    let l = p.inside in
    record { block = e; inside = subst (λ c. IsInZone g c) p.is ((pointers i p.low).there place l); through = λ high. (pointers i p.low).many (omega arith) }
used-for g s (Pointers i) b pointers e =
    let p = indirect-found g s i b e in
    record { block = e; inside = subst (λ c. IsInZone g c) p.is ((pointers i p.low).many p.many); through = tt }

-- ---- ends of files

pub end-bad : (s : Stored) (n : Inode) (b k : ℕ) (bytes : List ℕ) → n.kind ≡ 1 → n.size % 4096 ≢ 0 → b ≡ pointer_to s n (n.size / 4096) → bytes ≡ block_at s b → n.size % 4096 ≤ k → k < 4096 → slice_index bytes k ≢ 0 → HasEndAt s n b
end-bad s n b k bytes file some is page past inside wrong =
    let j = 4096 * (n.size / 4096) + k in
    let q : j / 4096 ≡ n.size / 4096 = omega arith in
    let r : j % 4096 ≡ k = omega arith in
    let at : pointer_to s n (j / 4096) ≡ b = ap (λ (p : ℕ). pointer_to s n p) q ∙ sym is in
    let byte : byte_of s n j ≡ slice_index bytes k = ap (λ (p : ℕ). slice_index (block_at s p) (j % 4096)) at ∙ ap (λ (p : List ℕ). slice_index p (j % 4096)) (sym page) ∙ ap (λ (i : ℕ). slice_index bytes i) r in
    record { k = j; file = file; past = omega arith; inside = omega arith; is = sym at; not_zero = λ z. wrong (sym byte ∙ z) }

pub end-good : (s : Stored) (n : Inode) (b : ℕ) (bytes : List ℕ) → n.size % 4096 ≢ 0 → b ≡ pointer_to s n (n.size / 4096) → bytes ≡ block_at s b → ((j : ℕ) → n.size % 4096 ≤ j → j < 4096 → slice_index bytes j ≡ 0) → IsEnded s n
end-good s n b bytes some is page all k file past inside =
    let q : k / 4096 ≡ n.size / 4096 = omega arith in
    let at : pointer_to s n (k / 4096) ≡ b = ap (λ (p : ℕ). pointer_to s n p) q ∙ sym is in
    ap (λ (p : ℕ). slice_index (block_at s p) (k % 4096)) at ∙ ap (λ (p : List ℕ). slice_index p (k % 4096)) (sym page) ∙ all (k % 4096) (omega arith) (omega arith)

-- ---- what a test of one inode found

pub tail-found : (g : Geometry) (s : Stored) (i b : ℕ) → ArePointers g s → i < inodes_of g → HasEndAt s (the_inode g s i) b → HasTail g s b
tail-found g s i b pointers low t =
    let l = t.inside in
    record { i = i; k = t.k; low = low; file = t.file; past = t.past; inside = t.inside; place = is-place g s i (t.k / 4096) b pointers low (omega arith) t.is; not_zero = t.not_zero }

-- ---- blocks of slots

pub slot-read : (block : List ℕ) (at : ℕ) (r : Result (Option Slot) LayoutRefusal) → IfOk r (λ o. ShowsSlot block at (entry_of block at o)) → is_err r ≡ false → ShowsSlot block at (slot_of block at)
slot-read block at (Ok o) h e = subst (λ x. ShowsSlot block at x) (sym (slot-decoded block at (entry_of block at o) h)) h
slot-read block at (Err x) h e = absurd (cc)

pub behind-zeros : (block : List ℕ) → length block ≡ 4096 → ((j : ℕ) → 4080 ≤ j → j < 4096 → slice_index block j ≡ 0) → ShowsBytes block 4080 (zero_bytes 16)
behind-zeros block whole all =
    let n = length-zero_bytes 16 in
    shows-all block 4080 (zero_bytes 16) (omega arith) (λ k l. all (4080 + k) (omega arith) (omega arith) ∙ sym (zero_bytes-at 16 k))

-- ---- marks

pub differ : (a b : Bool) → not (beq a b) ≡ true → a ≡ b → ⊥
differ true true h e = cc
differ true false h e = cc
differ false true h e = cc
differ false false h e = cc

pub agree : (a b : Bool) → not (beq a b) ≡ false → a ≡ b
agree true true h = refl
agree true false h = absurd (cc)
agree false true h = absurd (cc)
agree false false h = refl

-- a kind that is not free is used
pub used-kind : (g : Geometry) (s : Stored) (i : ℕ) (n : Inode) → IsTable g s → i < inodes_of g → n ≡ the_inode g s i → is_used (body (volume_in g s) i) ≡ not (nat_eq n.kind 0)
used-kind g s i n table low e = ap is_used (body-in g s i low) ∙ go ∙ ap (λ (m : Inode). not (nat_eq m.kind 0)) (sym e)
  where
    go : is_used (body_of s (the_inode g s i)) ≡ not (nat_eq (the_inode g s i).kind 0)
    go =
        let kind = (table.inodes i low).0.kind in
        elim (cases_eq (the_inode g s i).kind 0) [
          | inl z ↦ ap is_used (body-free s (the_inode g s i) z) ∙ sym (ap not (eq-eqb (the_inode g s i).kind 0 z))
          | inr some ↦
              let t = sym (ap not (ne_eqb (the_inode g s i).kind 0 some)) in
              elim (cases_eq (the_inode g s i).kind 1) [
                | inl one ↦ ap is_used (body-file s (the_inode g s i) one) ∙ t
                | inr other ↦ let two : (the_inode g s i).kind ≡ 2 = omega arith in ap is_used (body-dir s (the_inode g s i) two) ∙ t
              ]
        ]

pub marks-all : (g : Geometry) (s : Stored) → IsTable g s
    → ((z : ℕ) → z < queues_of g → (k : ℕ) → k < zone_size g → bit_of (block_at s (zone_bitmap z)) k ≡ (if is_taken (volume_in g s) (zone_block g z k) then 1 else 0))
    → ((i : ℕ) → i < inodes_of g → bit_of (block_at s (inode_bitmap g)) i ≡ (if is_used (body (volume_in g s) i) then 1 else 0)) → AreMarked g s
marks-all g s table zones inodes = record {
  zones = λ z low k small. elim (cases_lt k (zone_size g)) [
    | inl l ↦ zones z low k l ∙ sym (ap (λ (c : Bool). if c && is_taken (volume_in g s) (zone_block g z k) then 1 else 0) (lt-ltb k (zone_size g) l))
    | inr past ↦ table.zones z low k past small ∙ sym (ap (λ (c : Bool). if c then 1 else 0) (and_left _ (is_taken (volume_in g s) (zone_block g z k)) (le-ltb k (zone_size g) past)))
  ];
  inodes = λ k small. elim (cases_lt k (inodes_of g)) [
    | inl l ↦ inodes k l
    | inr past ↦ table.marks k past small ∙ sym (ap (λ (m : Node). if is_used m.body then 1 else 0) (node-past g s k past))
  ];
}
