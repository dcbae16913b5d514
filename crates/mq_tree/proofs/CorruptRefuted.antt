-- Where a cause holds, blocks are not clean.
use Rattle.std.proofs.Common.{get_or, ◌≡◌, ◌⊎◌, inl, inr, ℕ, ◌+◌, ◌-◌, ◌*◌, ◌<◌, ◌≤◌, List, Bool, sym, ap, ◌∙◌, arith}
use Rattle.std.specs.Prelude.{slice_index, ◌&&◌, if◌then◌else◌}
use Rattle.std.proofs.lemmas.Bool.{lt-ltb, true≢false}
use Rattle.std.proofs.Math.Nat.{mul-le-mul_right}
use Rattle.mq_blocks.specs.Blocks.{block_at}
use Rattle.mq_blocks.specs.Geometry.{queues_of, zone_size}
use Rattle.mq_blocks.specs.Windows.{Shows as ShowsBytes}
use Rattle.mq_blocks.specs.declared.geometry.Geometry.{Geometry}
use Rattle.mq_blocks.proofs.Windows.{shows-at}
use Rattle.mq_layout.specs.Bits.{bit_of}
use Rattle.mq_layout.specs.Fields.{zero_bytes}
use Rattle.mq_layout.specs.Inodes.{wrong_inode}
use Rattle.mq_layout.specs.Places.{inode_place, zone_bitmap}
use Rattle.mq_layout.specs.Slots.{wrong_slot}
use Rattle.mq_layout.specs.Superblock.{wrong_super}
use Rattle.mq_layout.proofs.SuperblockForms.{super-right}
use Rattle.mq_layout.proofs.FieldsZeros.{length-zero_bytes, zero_bytes-at}
use Rattle.mq_layout.proofs.Fields.{not-refused}
use Rattle.mq_tree.specs.Clean.{AreApart, AreDirs, AreEnded, AreLinked, AreMarked, AreNamed, AreNamedOnce, AreOnce, ArePointers, AreReached, IsClean, IsTable}
use Rattle.mq_tree.specs.Corrupt.{BadDir, BadName, BadPointer, BadRoot, BadTable, HasTail, IsCorrupt, IsMiscounted, IsSharedBlock, IsSharedDir, IsTwin, IsUnmarked, IsUnreached}
use Rattle.mq_tree.specs.Corrupt.{behind_slots, direct, far, in_slot, indirect, inode_bit, lost_inode, names_free, names_root, not_direct, not_far, not_indirect, superblock, table_inode, table_rest, unmarked_block, unmarked_inode, unused_block, unused_inode, zone_bit}
use Rattle.mq_tree.specs.Decoded.{Stored, volume_in}
use Rattle.mq_tree.specs.Laid.{zone_block}
use Rattle.mq_tree.specs.Volume.{is_taken}
use Rattle.mq_tree.specs.declared.corrupt.CorruptCause.{CorruptCause}
use Rattle.mq_tree.specs.declared.corrupt.CorruptCause.TheVariants.{Layout, Pointer, Unmarked, Shared, Count, Twin, Unreached, Kind, Tail}
use Rattle.mq_tree.proofs.Decoded.{inode-not_wrong, slot-not_wrong}
use Rattle.mq_tree.proofs.LaidUses.{use-taken}

zero-one : {R : Type 0} (n : ℕ) → n ≡ 0 → n ≡ 1 → R
zero-one n e f = absurd (omega arith)

zero-bytes_at : (block : List ℕ) (k : ℕ) → ShowsBytes block 4080 (zero_bytes 16) → 4080 ≤ k → k < 4096 → slice_index block k ≡ 0
zero-bytes_at block k shown high low =
    let e : 4080 + (k - 4080) ≡ k = omega arith in
    let l = length-zero_bytes 16 in
    ap (λ (j : ℕ). get_or block j 0) (sym e) ∙ shows-at block 4080 (zero_bytes 16) (k - 4080) shown (omega arith) ∙ zero_bytes-at 16 (k - 4080)

table-clean : (g : Geometry) (s : Stored) (b : ℕ) → IsTable g s → BadTable g s b → ⊥
table-clean g s b clean (superblock e is wrong) = not-refused _ e (ap (λ (c : ℕ). wrong_super g (block_at s c)) is ∙ super-right g (block_at s 0) clean.super) wrong
table-clean g s b clean (zone_bit zone k low is past inside one) = zero-one _ (ap (λ (c : ℕ). bit_of (block_at s c) k) is ∙ clean.zones zone low k past inside) one
table-clean g s b clean (inode_bit k is past inside one) = zero-one _ (ap (λ (c : ℕ). bit_of (block_at s c) k) is ∙ clean.marks k past inside) one
table-clean g s b clean (table_inode i e low is wrong) = not-refused _ e (ap (λ (c : ℕ). wrong_inode (block_at s c) (inode_place i)) is ∙ inode-not_wrong _ _ _ (clean.inodes i low)) wrong
table-clean g s b clean (table_rest k high low not) = not (clean.rest b k high low)

dir-clean : (g : Geometry) (s : Stored) (b : ℕ) → AreDirs g s → BadDir g s b → ⊥
dir-clean g s b clean (in_slot i place at e low kind inside p small wrong) = not-refused _ e (ap (λ (c : ℕ). wrong_slot (block_at s c) at) p.is ∙ slot-not_wrong _ at _ ((clean i place low kind inside).slots at small)) wrong
dir-clean g s b clean (behind_slots i place k low kind inside p high small not) = not (ap (λ (c : ℕ). slice_index (block_at s c) k) p.is ∙ zero-bytes_at _ k (clean i place low kind inside).rest high small)

pointer-clean : (g : Geometry) (s : Stored) (b : ℕ) → ArePointers g s → BadPointer g s b → ⊥
pointer-clean g s b clean (direct i k low is near inside not) = not ((clean i low).there k inside)
pointer-clean g s b clean (not_direct i k low is past near not) = not ((clean i low).direct k past near)
pointer-clean g s b clean (indirect i low is many not) = not ((clean i low).many many)
pointer-clean g s b clean (not_indirect i low is few not) = not ((clean i low).few few)
pointer-clean g s b clean (far i k low is zone high small inside not) = not ((clean i low).there k inside)
pointer-clean g s b clean (not_far i k low is zone many past small not) = not ((clean i low).rest k many past small)

name-clean : (g : Geometry) (s : Stored) (b : ℕ) → AreNamed (volume_in g s) → BadName g s b → ⊥
name-clean g s b clean (names_root d k e at zero) = (clean d k e at.there).0 zero
name-clean g s b clean (names_free d k e at free) = true≢false (sym (clean d k e at.there).1 ∙ free)

marks-of : (g : Geometry) (s : Stored) (zone k : ℕ) → AreMarked g s → zone < queues_of g → k < zone_size g → bit_of (block_at s (zone_bitmap zone)) k ≡ (if is_taken (volume_in g s) (zone_block g zone k) then 1 else 0)
marks-of g s zone k clean low small =
    let h = g.homes_high in
    let one : 1 * zone_size g ≤ queues_of g * zone_size g = mul-le-mul_right (zone_size g) g.queues_low in
    let inside : k < 32768 = omega arith in
    let yes = lt-ltb k (zone_size g) small in
    clean.zones zone low k inside ∙ ap (λ (c : Bool). if c && is_taken (volume_in g s) (zone_block g zone k) then 1 else 0) yes

pub unmarked-clean : (g : Geometry) (s : Stored) (b : ℕ) → AreMarked g s → IsUnmarked g s b → ⊥
unmarked-clean g s b clean (unmarked_block zone k u low small is used zero) =
    let taken = use-taken (volume_in g s) u (zone_block g zone k) used.block in
    zero-one _ (ap (λ (c : ℕ). bit_of (block_at s c) k) (sym is) ∙ zero) (marks-of g s zone k clean low small ∙ ap (λ (c : Bool). if c then 1 else 0) taken)
unmarked-clean g s b clean (unmarked_inode i low is used zero) =
    let few : i < 32768 = omega arith in
    zero-one _ (ap (λ (c : ℕ). bit_of (block_at s c) i) (sym is) ∙ zero) (clean.inodes i few ∙ ap (λ (c : Bool). if c then 1 else 0) used)

pub unreached-clean : (g : Geometry) (s : Stored) (b : ℕ) → AreMarked g s → AreReached (volume_in g s) → IsUnreached g s b → ⊥
unreached-clean g s b clean reached (unused_block zone k low small is free one) =
    zero-one _ (marks-of g s zone k clean low small ∙ ap (λ (c : Bool). if c then 1 else 0) free) (ap (λ (c : ℕ). bit_of (block_at s c) k) (sym is) ∙ one)
unreached-clean g s b clean reached (unused_inode i low is free one) =
    let few : i < 32768 = omega arith in
    zero-one _ (clean.inodes i few ∙ ap (λ (c : Bool). if c then 1 else 0) free) (ap (λ (c : ℕ). bit_of (block_at s c) i) (sym is) ∙ one)
unreached-clean g s b clean reached (lost_inode i low is used none) = let r = reached.reached i used in none r.0 r.1

-- ---- each phase finds nothing in what it is to show

pub none-in_table : (g : Geometry) (s : Stored) (b : ℕ) → IsTable g s → BadTable g s b ⊎ BadRoot g s b → ⊥
none-in_table g s b clean (inl bad) = table-clean g s b clean bad
none-in_table g s b clean (inr bad) = bad.not_dir clean.root

pub none-in_pointers : (g : Geometry) (s : Stored) → ArePointers g s → (b : ℕ) → BadPointer g s b → ⊥
none-in_pointers g s clean b bad = pointer-clean g s b clean bad

pub none-in_dirs : (g : Geometry) (s : Stored) → AreDirs g s → (b : ℕ) → BadDir g s b → ⊥
none-in_dirs g s clean b bad = dir-clean g s b clean bad

pub none-in_names : (g : Geometry) (s : Stored) → AreNamed (volume_in g s) → (b : ℕ) → BadName g s b → ⊥
none-in_names g s clean b bad = name-clean g s b clean bad

pub none-twice : (g : Geometry) (s : Stored) → AreOnce (volume_in g s) → (b : ℕ) → IsTwin g s b → ⊥
none-twice g s clean b h = h.apart (clean h.d h.k h.l h.e h.f h.first.there h.second.there h.same)

pub none-shared : (g : Geometry) (s : Stored) → AreApart (volume_in g s) → (b : ℕ) → IsSharedBlock g s b → ⊥
none-shared g s clean b h = h.apart (clean h.u h.w b h.first.block h.second.block)

pub none-shared_dir : (g : Geometry) (s : Stored) → AreNamedOnce (volume_in g s) → (b : ℕ) → IsSharedDir g s b → ⊥
none-shared_dir g s clean b h = h.apart (clean h.d h.k h.c h.l h.e h.f h.first.there h.second.there h.same h.dir)

pub none-miscounted : (g : Geometry) (s : Stored) → AreLinked g s → (b : ℕ) → IsMiscounted g s b → ⊥
none-miscounted g s clean b h = h.other (clean h.i h.low h.file)

pub none-in_tails : (g : Geometry) (s : Stored) → AreEnded g s → (b : ℕ) → HasTail g s b → ⊥
none-in_tails g s clean b h = h.not_zero (clean h.i h.k h.low h.file h.past h.inside)

-- no cause holds at a block of clean blocks
pub corrupt-not_clean : (g : Geometry) (s : Stored) (cause : CorruptCause) (b : ℕ) → IsCorrupt g s cause b → IsClean g s → ⊥
corrupt-not_clean g s Layout b (inl h) clean = table-clean g s b clean.table h
corrupt-not_clean g s Layout b (inr h) clean = dir-clean g s b clean.dirs h
corrupt-not_clean g s Pointer b h clean = pointer-clean g s b clean.pointers h
corrupt-not_clean g s Unmarked b h clean = unmarked-clean g s b clean.marked h
corrupt-not_clean g s Shared b (inl h) clean = none-shared g s clean.apart b h
corrupt-not_clean g s Shared b (inr h) clean = none-shared_dir g s clean.reached.once b h
corrupt-not_clean g s Count b h clean = none-miscounted g s clean.linked b h
corrupt-not_clean g s Twin b h clean = none-twice g s clean.names b h
corrupt-not_clean g s Unreached b h clean = unreached-clean g s b clean.marked clean.reached h
corrupt-not_clean g s Kind b (inl h) clean = h.not_dir clean.table.root
corrupt-not_clean g s Kind b (inr h) clean = name-clean g s b clean.named h
corrupt-not_clean g s Tail b h clean = none-in_tails g s clean.ended b h
