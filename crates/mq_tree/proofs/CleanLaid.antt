-- The volume that clean blocks say lies on their map.
use Rattle.std.proofs.Common.{◌≡◌, ℕ, zero, suc, ◌+◌, ◌-◌, ◌*◌, ◌/◌, ◌%◌, ◌<◌, ◌≤◌, List, [], ◌∷◌, length, replicate, Bool, true, false, cond, refl, sym, ap, subst, ◌∙◌, arith, inl, inr}
use Rattle.std.specs.Prelude.{Option, Some, None, is_some, nat_lt, slice_index, if◌then◌else◌, ◌&&◌}
use Rattle.std.proofs.lemmas.Bool.{cases_eq, cases_lt, eq-eqb, eqb-true, false_from_ne_true, le-ltb, lt-ltb, true≢false}
use Rattle.std.proofs.lemmas.List.{get_or_default, same_lists, length-replicate, get_or-replicate}
use Rattle.std.proofs.Math.Nat.{mul-le-mul_right}
use Rattle.mq_blocks.specs.Blocks.{block_at, zeros}
use Rattle.mq_blocks.specs.Geometry.{homes_of, meta_of, queues_of, zone_size}
use Rattle.mq_blocks.specs.declared.geometry.Geometry.{Geometry}
use Rattle.mq_layout.specs.Bits.{bit_of, pointer_of}
use Rattle.mq_layout.specs.Empty.{free_inode}
use Rattle.mq_layout.specs.Inodes.{IsInode, ShowsInode}
use Rattle.mq_layout.specs.Places.{inode_bitmap, inodes_of, table_first, zone_bitmap}
use Rattle.mq_layout.specs.Slots.{Entry, ShowsSlot}
use Rattle.mq_layout.specs.declared.inode.Inode.{Inode}
use Rattle.mq_layout.proofs.EmptyLaws.{zeros-free}
use Rattle.mq_tree.specs.Clean.{HasPointers, IsClean, IsDirBlock, IsInZone}
use Rattle.mq_tree.specs.Decoded.{Stored, body_of, byte_of, count_of, entry_of, node_of, part, pointer_to, slot_of, table_of, the_inode, volume_in}
use Rattle.mq_tree.specs.Empty.{ArePages}
use Rattle.mq_tree.specs.Laid.{IsLaid, InodeMarks, ShowsPage, ShowsPart, ShowsPointers, ShowsRegion, ShowsTable, ShowsUse, ShowsZone, Table, inode_of, kind_of, map_of, or_zero, padded, region, size_of, zone_block}
use Rattle.mq_tree.specs.Sound.{AreBytes, AreEntries, IsBody, IsNode, IsSound, blocks_for}
use Rattle.mq_tree.specs.Links.{HasLinks, links_to}
use Rattle.mq_tree.specs.Volume.{Body, Free, File, Dir, Node, Use, Part, Pointers, block_in, body, free_node, is_taken, node}
use Rattle.mq_tree.proofs.Decoded.{body-dir, body-file, body-free, body-in, indirect-found, length-table, length-volume, node-in, node-past, part-found, pointer-far, pointer-near, table-at, table-past, taken-use}
use Rattle.mq_tree.proofs.LaidMaps.{mapped, unmapped, zone-low, zone-place, zone-rest}
use Rattle.mq_tree.proofs.LaidRegions.{region-inode_marks, region-marks, region-table, region-zone}
use Rattle.mq_tree.proofs.LaidUnique.{padded-at}
use Rattle.mq_tree.proofs.Empty.{free-inode}

-- ---- one inode

-- the kinds
data Kinds (k : ℕ) : Type 0 where
  free : k ≡ 0 → Kinds k
  file : k ≡ 1 → Kinds k
  dir : k ≡ 2 → Kinds k

kinds : (k : ℕ) → k ≤ 2 → Kinds k
kinds zero h = free refl
kinds (suc zero) h = file refl
kinds (suc (suc zero)) h = dir refl
kinds (suc (suc (suc k))) h = absurd (omega arith)

byte-small : (s : Stored) (n : Inode) (k : ℕ) → ArePages s → byte_of s n k < 256
byte-small s n k pages = (pages (pointer_to s n (k / 4096))).bytes (k % 4096)

file-bytes : (s : Stored) (n : Inode) → ArePages s → AreBytes (table_of n.size (byte_of s n))
file-bytes s n pages k = elim (cases_lt k n.size) [
  | inl l ↦ let e = table-at n.size (byte_of s n) k 0 l in let b = byte-small s n k pages in omega arith
  | inr p ↦ let e = table-past n.size (byte_of s n) k 0 p in omega arith
]

dir-entries : (s : Stored) (n : Inode) → ((place : ℕ) → place < count_of n → IsDirBlock (part s n place)) → AreEntries (table_of (15 * count_of n) (entry_of s n))
dir-entries s n blocks k e is = elim (cases_lt k (15 * count_of n)) [
  | inl l ↦
      let inside : k / 15 < count_of n = omega arith in
      let small : k % 15 < 15 = omega arith in
      let f : entry_of s n k ≡ Some e = sym (table-at (15 * count_of n) (entry_of s n) k None l) ∙ is in
      let shown = (blocks (k / 15) inside).slots (k % 15) small in
      let t : ShowsSlot (part s n (k / 15)) (k % 15) (Some e) = subst (λ o. ShowsSlot (part s n (k / 15)) (k % 15) o) f shown in
      t.0
  | inr p ↦ let f : None ≡ Some e = sym (table-past (15 * count_of n) (entry_of s n) k None p) ∙ is in absurd (cc)
]

-- what is asked of the blocks of one inode
record Fits (g : Geometry) (s : Stored) (n : Inode) : Type 0 where
  pages : ArePages s
  form : IsInode n
  pointers : HasPointers g s n
  dirs : n.kind ≡ 2 → (place : ℕ) → place < count_of n → IsDirBlock (part s n place)

fit-body : (g : Geometry) (s : Stored) (n : Inode) → Fits g s n → IsBody (body_of s n) (count_of n)
fit-body g s n f = elim (kinds n.kind f.form.kind) [
  | free e ↦ let z = (f.form.free e).1 in let c : count_of n ≡ 0 = omega arith in subst (λ b. IsBody b (count_of n)) (sym (body-free s n e)) c
  | file e ↦
      let size = (f.form.used (omega arith)).1 in
      let l = length-table n.size (byte_of s n) in
      let good : IsBody (File (table_of n.size (byte_of s n))) (count_of n) = (omega arith, ap blocks_for (sym l), file-bytes s n f.pages) in
      subst (λ b. IsBody b (count_of n)) (sym (body-file s n e)) good
  | dir e ↦
      let size = (f.form.used (omega arith)).1 in
      let good : IsBody (Dir (table_of (15 * count_of n) (entry_of s n))) (count_of n) = (omega arith, length-table (15 * count_of n) (entry_of s n), dir-entries s n (f.dirs e)) in
      subst (λ b. IsBody b (count_of n)) (sym (body-dir s n e)) good
]

some-cond : (t : Bool) (x : ℕ) → is_some (cond t (Some x) None) ≡ t
some-cond true x = refl
some-cond false x = refl

fit-links : (g : Geometry) (s : Stored) (n : Inode) → Fits g s n → HasLinks (body_of s n) n.links
fit-links g s n f = elim (kinds n.kind f.form.kind) [
  | free e ↦ subst (λ b. HasLinks b n.links) (sym (body-free s n e)) (f.form.free e).0
  | file e ↦
      let good : HasLinks (File (table_of n.size (byte_of s n))) n.links = ((f.form.used (omega arith)).0, f.form.links) in
      subst (λ b. HasLinks b n.links) (sym (body-file s n e)) good
  | dir e ↦
      let good : HasLinks (Dir (table_of (15 * count_of n) (entry_of s n))) n.links = (f.form.directory e).0 in
      subst (λ b. HasLinks b n.links) (sym (body-dir s n e)) good
]

fit-node : (g : Geometry) (s : Stored) (n : Inode) → Fits g s n → IsNode (node_of s n)
fit-node g s n f =
    let l = length-table (count_of n) (pointer_to s n) in
    record {
      body = subst (λ c. IsBody (body_of s n) c) (sym l) (fit-body g s n f);
      indirect = some-cond (nat_lt 12 (count_of n)) n.indirect ∙ ap (λ (c : ℕ). nat_lt 12 c) (sym l);
      links = fit-links g s n f;
    }

free-good : IsNode free_node
free-good = record { body = refl; indirect = refl; links = refl }

-- what the volume says of the inode is what was read
says-kind : (g : Geometry) (s : Stored) (n : Inode) → Fits g s n → (kind_of (body_of s n) ≡ n.kind) × (size_of (body_of s n) (count_of n) ≡ n.size)
says-kind g s n f = elim (kinds n.kind f.form.kind) [
  | free e ↦ let b = body-free s n e in let r = f.form.free e in (ap kind_of b ∙ sym e, ap (λ (x : Body). size_of x (count_of n)) b ∙ sym r.1)
  | file e ↦ let b = body-file s n e in (ap kind_of b ∙ sym e, ap (λ (x : Body). size_of x (count_of n)) b ∙ length-table n.size (byte_of s n))
  | dir e ↦
      let b = body-dir s n e in
      let w = (f.form.directory e).1 in
      let size : 4096 * count_of n ≡ n.size = omega arith in
      (ap kind_of b ∙ sym e, ap (λ (x : Body). size_of x (count_of n)) b ∙ size)
]

pub length-padded : (n : ℕ) (xs : List ℕ) → length (padded n xs) ≡ n
unfolding padded
length-padded zero xs = refl
length-padded (suc n) [] = omega (arith, length-padded n [])
length-padded (suc n) (x ∷ xs) = omega (arith, length-padded n xs)

says-direct : (g : Geometry) (s : Stored) (n : Inode) → Fits g s n → padded 12 (table_of (count_of n) (pointer_to s n)) ≡ n.direct
says-direct g s n f = same_lists _ n.direct (length-padded 12 _ ∙ sym f.form.twelve) (λ k d l.
    let low : k < 12 = let e = length-padded 12 (table_of (count_of n) (pointer_to s n)) in omega arith in
    let inside : k < length n.direct = let e = f.form.twelve in omega arith in
    get_or_default _ k d 0 l ∙ padded-at 12 (table_of (count_of n) (pointer_to s n)) k low ∙ elim (cases_lt k (count_of n)) [
      | inl there ↦ table-at (count_of n) (pointer_to s n) k 0 there ∙ pointer-near s n k low
      | inr past ↦ table-past (count_of n) (pointer_to s n) k 0 past ∙ sym (f.pointers.direct k past low)
    ] ∙ get_or_default n.direct k 0 d inside)

says-indirect : (g : Geometry) (s : Stored) (n : Inode) → Fits g s n → or_zero (cond (nat_lt 12 (count_of n)) (Some n.indirect) None) ≡ n.indirect
says-indirect g s n f = elim (cases_lt 12 (count_of n)) [
  | inl many ↦ let y = lt-ltb 12 (count_of n) many in ap (λ (t : Bool). or_zero (cond t (Some n.indirect) None)) y
  | inr few ↦ let y = le-ltb 12 (count_of n) few in ap (λ (t : Bool). or_zero (cond t (Some n.indirect) None)) y ∙ sym (f.pointers.few few)
]

pub inode-parts : (n m : Inode) → n.kind ≡ m.kind → n.links ≡ m.links → n.size ≡ m.size → n.direct ≡ m.direct → n.indirect ≡ m.indirect → n ≡ m
inode-parts n m e f h i j =
    ap (λ (x : ℕ). record { kind = x; links = n.links; size = n.size; direct = n.direct; indirect = n.indirect }) e
    ∙ ap (λ (x : ℕ). record { kind = m.kind; links = x; size = n.size; direct = n.direct; indirect = n.indirect }) f
    ∙ ap (λ (x : ℕ). record { kind = m.kind; links = m.links; size = x; direct = n.direct; indirect = n.indirect }) h
    ∙ ap (λ (x : List ℕ). record { kind = m.kind; links = m.links; size = m.size; direct = x; indirect = n.indirect }) i
    ∙ ap (λ (x : ℕ). record { kind = m.kind; links = m.links; size = m.size; direct = m.direct; indirect = x }) j

inode-says : (g : Geometry) (s : Stored) (n : Inode) → Fits g s n → inode_of (node_of s n) ≡ n
inode-says g s n f =
    let k = says-kind g s n f in
    let l = length-table (count_of n) (pointer_to s n) in
    inode-parts (inode_of (node_of s n)) n k.0 refl (ap (λ (c : ℕ). size_of (body_of s n) c) l ∙ k.1) (says-direct g s n f) (says-indirect g s n f)

-- ---- parts

file-shows : (g : Geometry) (s : Stored) (n : Inode) (place : ℕ) → place < count_of n → ((k : ℕ) → n.size ≤ k → k < 4096 * count_of n → byte_of s n k ≡ 0) → ShowsPart (File (table_of n.size (byte_of s n))) place (part s n place)
file-shows g s n place low ended k small =
    let j = 4096 * place + k in
    let q : j / 4096 ≡ place = omega arith in
    let r : j % 4096 ≡ k = omega arith in
    let byte : byte_of s n j ≡ slice_index (part s n place) k = ap (λ (p : ℕ). slice_index (part s n p) (j % 4096)) q ∙ ap (λ (i : ℕ). slice_index (part s n place) i) r in
    elim (cases_lt j n.size) [
      | inl inside ↦ sym byte ∙ sym (table-at n.size (byte_of s n) j 0 inside)
      | inr past ↦ sym byte ∙ ended j past (omega arith) ∙ sym (table-past n.size (byte_of s n) j 0 past)
    ]

dir-shows : (s : Stored) (n : Inode) (place : ℕ) → place < count_of n → IsDirBlock (part s n place) → ShowsPart (Dir (table_of (15 * count_of n) (entry_of s n))) place (part s n place)
dir-shows s n place low block = (
  λ k small.
      let j = 15 * place + k in
      let q : j / 15 ≡ place = omega arith in
      let r : j % 15 ≡ k = omega arith in
      let inside : j < 15 * count_of n = omega arith in
      let e : entry_of s n j ≡ slot_of (part s n place) k = ap (λ (p : ℕ). slot_of (part s n p) (j % 15)) q ∙ ap (λ (i : ℕ). slot_of (part s n place) i) r in
      subst (λ o. ShowsSlot (part s n place) k o) (sym (table-at (15 * count_of n) (entry_of s n) j None inside ∙ e)) (block.slots k small),
  block.rest,
)

part-shows : (g : Geometry) (s : Stored) (n : Inode) (place : ℕ) → Fits g s n → place < count_of n → (n.kind ≡ 1 → (k : ℕ) → n.size ≤ k → k < 4096 * count_of n → byte_of s n k ≡ 0) → ShowsPart (body_of s n) place (part s n place)
part-shows g s n place f low ended = elim (kinds n.kind f.form.kind) [
  | free e ↦ let z = (f.form.free e).1 in absurd (omega arith)
  | file e ↦ subst (λ b. ShowsPart b place (part s n place)) (sym (body-file s n e)) (file-shows g s n place low (ended e))
  | dir e ↦ subst (λ b. ShowsPart b place (part s n place)) (sym (body-dir s n e)) (dir-shows s n place low (f.dirs e place low))
]

pointers-show : (g : Geometry) (s : Stored) (n : Inode) → Fits g s n → 12 < count_of n → ShowsPointers (table_of (count_of n) (pointer_to s n)) (block_at s n.indirect)
pointers-show g s n f many k small =
    let e : 12 + k - 12 ≡ k = omega arith in
    let far : pointer_to s n (12 + k) ≡ pointer_of (block_at s n.indirect) k = pointer-far s n (12 + k) (omega arith) ∙ ap (λ (i : ℕ). pointer_of (block_at s n.indirect) i) e in
    sym far ∙ elim (cases_lt (12 + k) (count_of n)) [
      | inl inside ↦ sym (table-at (count_of n) (pointer_to s n) (12 + k) 0 inside)
      | inr past ↦ f.pointers.rest (12 + k) many past (omega arith) ∙ sym (table-past (count_of n) (pointer_to s n) (12 + k) 0 past)
    ]

-- ---- the volume

fits : (g : Geometry) (s : Stored) (i : ℕ) → ArePages s → IsClean g s → i < inodes_of g → Fits g s (the_inode g s i)
fits g s i pages clean low = record { pages = pages; form = (clean.table.inodes i low).0; pointers = clean.pointers i low; dirs = λ e place l. clean.dirs i place low e l }

in-zone : (g : Geometry) (s : Stored) (u : Use) (b : ℕ) → IsClean g s → block_in (volume_in g s) u ≡ Some b → IsInZone g b
in-zone g s (Part i k) b clean e = let p = part-found g s i k b e in subst (λ x. IsInZone g x) p.is ((clean.pointers i p.low).there k p.inside)
in-zone g s (Pointers i) b clean e = let p = indirect-found g s i b e in subst (λ x. IsInZone g x) p.is ((clean.pointers i p.low).many p.many)

use-shows : (g : Geometry) (s : Stored) (u : Use) (b : ℕ) → ArePages s → IsClean g s → block_in (volume_in g s) u ≡ Some b → ShowsUse (volume_in g s) u (block_at s b)
use-shows g s (Part i k) b pages clean e =
    let p = part-found g s i k b e in
    let n = the_inode g s i in
    let shown : ShowsPart (body_of s n) k (part s n k) = part-shows g s n k (fits g s i pages clean p.low) p.inside (λ f j. clean.ended i j p.low f) in
    let same : body_of s n ≡ body (volume_in g s) i = sym (body-in g s i p.low) in
    subst (λ x. ShowsPart x k (block_at s b)) same (subst (λ c. ShowsPart (body_of s n) k (block_at s c)) p.is shown)
use-shows g s (Pointers i) b pages clean e =
    let p = indirect-found g s i b e in
    let n = the_inode g s i in
    let shown : ShowsPointers (node_of s n).blocks (block_at s n.indirect) = pointers-show g s n (fits g s i pages clean p.low) p.many in
    let same : (node_of s n).blocks ≡ (node (volume_in g s) i).blocks = ap (λ (m : Node). m.blocks) (sym (node-in g s i p.low)) in
    subst (λ xs. ShowsPointers xs (block_at s b)) same (subst (λ c. ShowsPointers (node_of s n).blocks (block_at s c)) p.is shown)

clean-counted : (g : Geometry) (s : Stored) (i : ℕ) (bytes : List ℕ) → IsClean g s → body (volume_in g s) i ≡ File bytes → (node (volume_in g s) i).links ≡ links_to (volume_in g s) i
clean-counted g s i bytes clean is = elim (cases_lt i (inodes_of g)) [
  | inl low ↦
      let n = the_inode g s i in
      let kind : n.kind ≡ 1 = file-one n (sym (body-in g s i low) ∙ is) ((clean.table.inodes i low).0).kind in
      ap (λ (m : Node). m.links) (node-in g s i low) ∙ clean.linked i low kind
  | inr past ↦ absurd (free-file (sym (ap (λ (m : Node). m.body) (node-past g s i past)) ∙ is))
]
  where
    free-file : Free ≡ File bytes → ⊥
    free-file e = cc

    dir-file : (slots : List (Option Entry)) → Dir slots ≡ File bytes → ⊥
    dir-file slots e = cc

    file-one : (n : Inode) → body_of s n ≡ File bytes → n.kind ≤ 2 → n.kind ≡ 1
    file-one n e k = elim (kinds n.kind k) [
      | free z ↦ absurd (free-file (sym (body-free s n z) ∙ e))
      | file z ↦ z
      | dir z ↦ absurd (dir-file _ (sym (body-dir s n z) ∙ e))
    ]

clean-sound : (g : Geometry) (s : Stored) → ArePages s → IsClean g s → IsSound g (volume_in g s)
clean-sound g s pages clean =
    let m = g.meta_low in
    record {
      count = length-volume g s;
      nodes = λ i. elim (cases_lt i (inodes_of g)) [
        | inl low ↦ subst (λ n. IsNode n) (sym (node-in g s i low)) (fit-node g s (the_inode g s i) (fits g s i pages clean low))
        | inr past ↦ subst (λ n. IsNode n) (sym (node-past g s i past)) free-good
      ];
      root = (table_of (15 * count_of (the_inode g s 0)) (entry_of s (the_inode g s 0)), body-in g s 0 (omega arith) ∙ body-dir s (the_inode g s 0) clean.table.root);
      zones = λ u b e. in-zone g s u b clean e;
      apart = clean.apart;
      named = clean.named;
      once = clean.reached.once;
      names = clean.names;
      reached = clean.reached.reached;
      counted = λ i bytes is. clean-counted g s i bytes clean is;
    }

all-zeros : (page : List ℕ) → length page ≡ 4096 → ((k : ℕ) → slice_index page k ≡ 0) → page ≡ zeros
unfolding zeros
all-zeros page whole each = same_lists page (replicate 4096 0) (whole ∙ sym (length-replicate {A = ℕ} 4096 0)) (λ k d l. get_or_default page k d 0 l ∙ each k ∙ sym (get_or-replicate {A = ℕ} 4096 k 0 d (omega arith)))

table-clean : (g : Geometry) (s : Stored) (block : ℕ) → ArePages s → IsClean g s → table_first g + block < meta_of g → ShowsTable (volume_in g s) block (block_at s (table_first g + block))
table-clean g s block pages clean low k small = elim (cases_lt (32 * block + k) (inodes_of g)) [
  | inl inside ↦
      let i = 32 * block + k in
      let n = the_inode g s i in
      let q : i / 32 ≡ block = omega arith in
      let r : i % 32 ≡ k = omega arith in
      let shown : ShowsInode (block_at s (table_first g + i / 32)) (i % 32) n = clean.table.inodes i inside in
      let moved : ShowsInode (block_at s (table_first g + block)) k n = subst (λ j. ShowsInode (block_at s (table_first g + block)) j n) r (subst (λ j. ShowsInode (block_at s (table_first g + j)) (i % 32) n) q shown) in
      let same : n ≡ inode_of (node (volume_in g s) i) = sym (ap inode_of (node-in g s i inside) ∙ inode-says g s n (fits g s i pages clean inside)) in
      subst (λ x. ShowsInode (block_at s (table_first g + block)) k x) same moved
  | inr past ↦
      let b = table_first g + block in
      let blank = all-zeros (block_at s b) (pages b).whole (λ j. clean.table.rest b j (omega arith) low) in
      let same : free_inode ≡ inode_of (node (volume_in g s) (32 * block + k)) = sym (ap inode_of (node-past g s (32 * block + k) past) ∙ free-inode) in
      subst (λ x. ShowsInode (block_at s b) k x) same (subst (λ page. ShowsInode page k free_inode) (sym blank) (zeros-free k small))
]

meta-shows : (g : Geometry) (s : Stored) (b : ℕ) → ArePages s → IsClean g s → b < meta_of g → ShowsRegion g (volume_in g s) b (region g b) (block_at s b)
meta-shows g s b pages clean low = elim (cases_eq b 0) [
  | inl z ↦
      let P : ℕ → Type 0 = λ c. ShowsRegion g (volume_in g s) b (region g c) (block_at s c) in
      subst P (sym z) clean.table.super
  | inr some ↦ elim (cases_lt (queues_of g) b) [
    | inr few ↦
        let zone : b - 1 < queues_of g = omega arith in
        let e : 1 + (b - 1) ≡ b = omega arith in
        let shown = clean.marked.zones (b - 1) zone in
        subst (λ r. ShowsRegion g (volume_in g s) b r (block_at s b)) (sym (region-marks g b (omega arith) few)) (λ k l. ap (λ (c : ℕ). bit_of (block_at s c) k) (sym e) ∙ shown k l)
    | inl past ↦ elim (cases_eq b (inode_bitmap g)) [
      | inl m ↦
          let r : region g b ≡ InodeMarks = ap (λ (c : ℕ). region g c) m ∙ region-inode_marks g in
          subst (λ r. ShowsRegion g (volume_in g s) b r (block_at s b)) (sym r) (λ k l. ap (λ (c : ℕ). bit_of (block_at s c) k) m ∙ clean.marked.inodes k l)
      | inr ne ↦
          let at : table_first g + (b - table_first g) ≡ b = omega arith in
          let t = table-clean g s (b - table_first g) pages clean (omega arith) in
          let r : region g b ≡ Table (b - table_first g) = ap (λ (c : ℕ). region g c) (sym at) ∙ region-table g (b - table_first g) (omega arith) in
          subst (λ r. ShowsRegion g (volume_in g s) b r (block_at s b)) (sym r) (subst (λ c. ShowsTable (volume_in g s) (b - table_first g) (block_at s c)) at t)
    ]
  ]
]

-- the bit of a block of a zone says whether it is used
mark-of : (g : Geometry) (s : Stored) (b : ℕ) → IsClean g s → meta_of g ≤ b → b < homes_of g → bit_of (block_at s (zone_bitmap ((b - meta_of g) / zone_size g))) ((b - meta_of g) % zone_size g) ≡ (if is_taken (volume_in g s) b then 1 else 0)
mark-of g s b clean high home =
    let z = (b - meta_of g) / zone_size g in
    let k = (b - meta_of g) % zone_size g in
    let v = volume_in g s in
    let low = zone-low g b high home in
    let rest = zone-rest g b in
    let h = g.homes_high in
    let size = g.zone_low in
    let one : 1 * zone_size g ≤ queues_of g * zone_size g = mul-le-mul_right (zone_size g) g.queues_low in
    let inside : k < 32768 = omega arith in
    let yes = lt-ltb k (zone_size g) rest in
    let at = zone-place g b high in
    clean.marked.zones z low k inside ∙ ap (λ (c : Bool). if c && is_taken v (zone_block g z k) then 1 else 0) yes ∙ ap (λ (c : ℕ). if is_taken v c then 1 else 0) at

taken-from-mark : (t : Bool) (n : ℕ) → n ≡ (if t then 1 else 0) → n ≡ 1 → t ≡ true
taken-from-mark true n e f = refl
taken-from-mark false n e f = absurd (omega arith)

pub clean-laid : (g : Geometry) (s : Stored) → ArePages s → IsClean g s → IsLaid g (map_of g s) (volume_in g s)
clean-laid g s pages clean = record {
  sound = clean-sound g s pages clean;
  shown = λ b page e.
      let p = mapped g s b page e in
      let same = sym p.is in
      subst (λ x. ShowsPage g (volume_in g s) b x) same (
        pages b,
        elim (cases_lt b (meta_of g)) [
          | inl low ↦ meta-shows g s b pages clean low
          | inr high ↦
              let bit = eqb-true _ 1 (p.marked high) in
              let taken = taken-from-mark (is_taken (volume_in g s) b) _ (mark-of g s b clean high p.home) bit in
              let u = taken-use (volume_in g s) b taken in
              let z : ShowsZone (volume_in g s) b (block_at s b) = record { purpose = u.0; is = u.1; shows = use-shows g s u.0 b pages clean u.1 } in
              subst (λ r. ShowsRegion g (volume_in g s) b r (block_at s b)) (sym (region-zone g b high p.home)) z
        ],
      );
  vacant = λ b e.
      let u = unmapped g s b e in (
        u.0,
        false_from_ne_true _ (λ taken.
            let w = taken-use (volume_in g s) b taken in
            let z = in-zone g s w.0 b clean w.1 in
            let one : bit_of (block_at s (zone_bitmap ((b - meta_of g) / zone_size g))) ((b - meta_of g) % zone_size g) ≡ 1 = mark-of g s b clean z.0 z.1 ∙ ap (λ (c : Bool). if c then 1 else 0) taken in
            true≢false (sym (eq-eqb _ 1 one) ∙ u.1 z.1)),
      );
}
