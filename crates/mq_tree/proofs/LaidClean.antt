-- A volume that lies on the map of stored blocks is the one that they say, and they are clean.
use Rattle.std.proofs.Common.{get_or, ◌≡◌, ℕ, ◌+◌, ◌-◌, ◌*◌, ◌/◌, ◌%◌, ◌<◌, ◌≤◌, List, length, Bool, cond, refl, sym, ap, subst, ◌∙◌, arith, inl, inr}
use Rattle.std.specs.Prelude.{Option, Some, None, nat_lt, slice_get, if◌then◌else◌}
use Rattle.std.proofs.lemmas.Bool.{and_left, cases_lt, le-ltb, lt-ltb}
use Rattle.std.proofs.lemmas.List.{get_or_default, get_or_past, same_lists}
use Rattle.std.proofs.lemmas.List.FromFn.{fill_by_all}
use Rattle.std.proofs.lemmas.Option.{slice_get-get_or}
use Rattle.mq_blocks.specs.Blocks.{block_at}
use Rattle.mq_blocks.specs.Geometry.{meta_of, queues_of, zone_size}
use Rattle.mq_blocks.specs.Windows.{Shows as ShowsBytes}
use Rattle.mq_blocks.specs.declared.geometry.Geometry.{Geometry}
use Rattle.mq_layout.specs.Fields.{zero_bytes}
use Rattle.mq_layout.specs.Inodes.{ShowsInode, inode_bytes}
use Rattle.mq_layout.specs.Places.{inode_bitmap, inode_block, inode_place, inodes_of, table_first, zone_bitmap}
use Rattle.mq_layout.specs.Slots.{Entry, ShowsSlot}
use Rattle.mq_layout.specs.declared.inode.Inode.{Inode}
use Rattle.mq_layout.proofs.FieldsZeros.{length-zero_bytes, zero_bytes-at}
use Rattle.mq_blocks.proofs.Windows.{shows-at}
use Rattle.mq_blocks.proofs.Options.{none-of}
use Rattle.mq_tree.specs.Empty.{ArePages}
use Rattle.mq_tree.specs.Clean.{HasPointers, IsClean, IsDirBlock, IsInZone, IsTable}
use Rattle.mq_tree.specs.Decoded.{Stored, body_of, byte_of, count_of, entry_of, node_of, part, pointer_to, table_of, the_inode, volume_in}
use Rattle.mq_tree.specs.Laid.{IsLaid, ShowsMarks, ShowsPart, ShowsPointers, ShowsRegion, ZoneMarks, inode_marked, inode_of, kind_of, map_of, or_zero, padded, region, size_of, zone_block, zone_marked}
use Rattle.mq_tree.specs.Sound.{IsBody, IsNode, blocks_for}
use Rattle.mq_tree.specs.Volume.{Body, Free, File, Dir, Node, Volume, Part, Pointers, body, free_node, is_taken, is_used, node}
use Rattle.mq_tree.proofs.Decoded.{body-dir, body-file, body-free, inode-decoded, length-volume, node-in, node-past, pointer-far, pointer-near, slot-decoded}
use Rattle.mq_tree.proofs.LaidMaps.{mapped}
use Rattle.mq_tree.proofs.LaidRegions.{region-inode_marks, region-marks, table-holds}
use Rattle.mq_tree.proofs.LaidUnique.{body-few, node-parts, padded-at, some-when, table-shows}
use Rattle.mq_tree.proofs.LaidUses.{page-of, some-of}

-- ---- one inode

pub count-is : (x : Body) (c : ℕ) → IsBody x c → blocks_for (size_of x c) ≡ c
count-is Free c g = sym g
count-is (File bytes) c g = sym g.1
count-is (Dir slots) c g = omega arith

-- what is asked of the blocks of an inode, each of which shows its part
record Held (s : Stored) (n : Node) : Type 0 where
  good : IsNode n
  parts : (k b : ℕ) → slice_get n.blocks k ≡ Some b → ShowsPart n.body k (block_at s b)
  pointers : (b : ℕ) → n.indirect ≡ Some b → ShowsPointers n.blocks (block_at s b)

-- the indirect block, where there are more than twelve
indirect-is : (n : Node) → IsNode n → 12 < length n.blocks → n.indirect ≡ Some (or_zero n.indirect)
indirect-is n good many = let x = some-when n.indirect (good.indirect ∙ lt-ltb 12 (length n.blocks) many) in x.1 ∙ ap (λ (b : ℕ). Some b) (sym (ap or_zero x.1))

far-pointer : (s : Stored) (n : Node) (k : ℕ) → Held s n → 12 < length n.blocks → 12 ≤ k → k < 1036 → pointer_to s (inode_of n) k ≡ get_or n.blocks k 0
far-pointer s n k h many high low =
    let e : 12 + (k - 12) ≡ k = omega arith in
    let small : k - 12 < 1024 = omega arith in
    pointer-far s (inode_of n) k high ∙ h.pointers (or_zero n.indirect) (indirect-is n h.good many) (k - 12) small ∙ ap (λ (j : ℕ). get_or n.blocks j 0) e

the-pointer : (s : Stored) (n : Node) (k : ℕ) → Held s n → k < length n.blocks → pointer_to s (inode_of n) k ≡ get_or n.blocks k 0
the-pointer s n k h l = elim (cases_lt k 12) [
  | inl low ↦ pointer-near s (inode_of n) k low ∙ padded-at 12 n.blocks k low
  | inr high ↦ let few = body-few n.body (length n.blocks) h.good.body in far-pointer s n k h (omega arith) high (omega arith)
]

the-count : (n : Node) → IsNode n → count_of (inode_of n) ≡ length n.blocks
the-count n good = count-is n.body (length n.blocks) good.body

the-blocks : (s : Stored) (n : Node) → Held s n → table_of (count_of (inode_of n)) (pointer_to s (inode_of n)) ≡ n.blocks
the-blocks s n h =
    let c = the-count n h.good in
    sym (fill_by_all (pointer_to s (inode_of n)) n.blocks (count_of (inode_of n)) 0 (sym c) (λ k l. sym (the-pointer s n k h (omega arith))))

the-indirect : (n : Node) → IsNode n → cond (nat_lt 12 (count_of (inode_of n))) (Some (or_zero n.indirect)) None ≡ n.indirect
the-indirect n good = elim (cases_lt 12 (length n.blocks)) [
  | inl many ↦ let y = lt-ltb 12 (length n.blocks) many in let c = the-count n good in ap (λ (t : Bool). cond t (Some (or_zero n.indirect)) None) (ap (λ (k : ℕ). nat_lt 12 k) c ∙ y) ∙ sym (indirect-is n good many)
  | inr few ↦ let y = le-ltb 12 (length n.blocks) few in let c = the-count n good in ap (λ (t : Bool). cond t (Some (or_zero n.indirect)) None) (ap (λ (k : ℕ). nat_lt 12 k) c ∙ y) ∙ sym (none-of n.indirect (good.indirect ∙ y))
]

-- the page of a part is what its pointer leads to
part-page : (s : Stored) (n : Node) (k : ℕ) → Held s n → k < length n.blocks → ShowsPart n.body k (part s (inode_of n) k)
part-page s n k h l =
    let b = get_or n.blocks k 0 in
    let e = the-pointer s n k h l in
    subst (λ x. ShowsPart n.body k (block_at s x)) (sym e) (h.parts k b (slice_get-get_or n.blocks k 0 l))

the-bytes : (s : Stored) (n : Node) (bytes : List ℕ) → Held s n → n.body ≡ File bytes → table_of (length bytes) (byte_of s (inode_of n)) ≡ bytes
the-bytes s n bytes h e = sym (fill_by_all (byte_of s (inode_of n)) bytes (length bytes) 0 refl (λ k l.
    let f : IsBody (File bytes) (length n.blocks) = subst (λ x. IsBody x (length n.blocks)) e h.good.body in
    let c = f.1 in
    let inside : k / 4096 < length n.blocks = omega arith in
    let shown : ShowsPart (File bytes) (k / 4096) (part s (inode_of n) (k / 4096)) = subst (λ x. ShowsPart x (k / 4096) (part s (inode_of n) (k / 4096))) e (part-page s n (k / 4096) h inside) in
    let i : 4096 * (k / 4096) + k % 4096 ≡ k = omega arith in
    let small : k % 4096 < 4096 = omega arith in
    ap (λ (j : ℕ). get_or bytes j 0) (sym i) ∙ sym (shown (k % 4096) small)))

the-slots : (s : Stored) (n : Node) (slots : List (Option Entry)) → Held s n → n.body ≡ Dir slots → table_of (15 * count_of (inode_of n)) (entry_of s (inode_of n)) ≡ slots
the-slots s n slots h e =
    let f : IsBody (Dir slots) (length n.blocks) = subst (λ x. IsBody x (length n.blocks)) e h.good.body in
    let c = the-count n h.good in
    let len = f.1 in
    sym (fill_by_all (entry_of s (inode_of n)) slots (15 * count_of (inode_of n)) None (omega arith) (λ k l.
    let inside : k / 15 < length n.blocks = omega arith in
    let shown : ShowsPart (Dir slots) (k / 15) (part s (inode_of n) (k / 15)) = subst (λ x. ShowsPart x (k / 15) (part s (inode_of n) (k / 15))) e (part-page s n (k / 15) h inside) in
    let i : 15 * (k / 15) + k % 15 ≡ k = omega arith in
    let small : k % 15 < 15 = omega arith in
    ap (λ (j : ℕ). get_or slots j None) (sym i) ∙ sym (slot-decoded _ (k % 15) _ (shown.0 (k % 15) small))))

body-kind : (s : Stored) (n : Node) (x : Body) → Held s n → n.body ≡ x → body_of s (inode_of n) ≡ x
body-kind s n Free h e = body-free s (inode_of n) (ap kind_of e)
body-kind s n (File bytes) h e =
    let size : (inode_of n).size ≡ length bytes = ap (λ (y : Body). size_of y (length n.blocks)) e in
    body-file s (inode_of n) (ap kind_of e) ∙ ap (λ (m : ℕ). File (table_of m (byte_of s (inode_of n)))) size ∙ ap (λ (ys : List ℕ). File ys) (the-bytes s n bytes h e)
body-kind s n (Dir slots) h e = body-dir s (inode_of n) (ap kind_of e) ∙ ap (λ (ys : List (Option Entry)). Dir ys) (the-slots s n slots h e)

node-decoded : (s : Stored) (n : Node) → Held s n → node_of s (inode_of n) ≡ n
node-decoded s n h = node-parts (node_of s (inode_of n)) n (body-kind s n n.body h refl) (the-blocks s n h) (the-indirect n h.good) refl

-- ---- the volume

held : (g : Geometry) (s : Stored) (v : Volume) (i : ℕ) → IsLaid g (map_of g s) v → Held s (node v i)
held g s v i laid = record {
  good = laid.sound.nodes i;
  parts = λ k b e. let p = page-of g (map_of g s) v (Part i k) b laid e in subst (λ page. ShowsPart (body v i) k page) (mapped g s b p.page p.there).is p.shows;
  pointers = λ b e. let p = page-of g (map_of g s) v (Pointers i) b laid e in subst (λ page. ShowsPointers (node v i).blocks page) (mapped g s b p.page p.there).is p.shows;
}

inode-shown : (g : Geometry) (s : Stored) (v : Volume) (i : ℕ) → IsLaid g (map_of g s) v → i < inodes_of g → ShowsInode (block_at s (inode_block g i)) (inode_place i) (inode_of (node v i))
inode-shown g s v i laid low =
    let p = table-shows g (map_of g s) v (i / 32) laid (table-holds g i low) in
    let m = mapped g s (table_first g + i / 32) p.0 p.1 in
    let small : i % 32 < 32 = omega arith in
    let e : 32 * (i / 32) + i % 32 ≡ i = omega arith in
    let shown : ShowsInode p.0 (i % 32) (inode_of (node v i)) = subst (λ j. ShowsInode p.0 (i % 32) (inode_of (node v j))) e (p.2 (i % 32) small) in
    subst (λ page. ShowsInode page (i % 32) (inode_of (node v i))) m.is shown

inode-is : (g : Geometry) (s : Stored) (v : Volume) (i : ℕ) → IsLaid g (map_of g s) v → i < inodes_of g → the_inode g s i ≡ inode_of (node v i)
unfolding the_inode
inode-is g s v i laid low = inode-decoded (block_at s (inode_block g i)) (inode_place i) (inode_of (node v i)) (inode-shown g s v i laid low)

pub volume-decoded : (g : Geometry) (s : Stored) (v : Volume) → IsLaid g (map_of g s) v → volume_in g s ≡ v
volume-decoded g s v laid =
    let c = laid.sound.count in
    let n = length-volume g s in
    same_lists (volume_in g s) v (n ∙ sym c) (λ k d l.
    let low : k < inodes_of g = omega arith in
    let inside : k < length v = omega arith in
    get_or_default (volume_in g s) k d free_node l ∙ node-in g s k low ∙ ap (node_of s) (inode-is g s v k laid low) ∙ node-decoded s (node v k) (held g s v k laid) ∙ get_or_default v k free_node d inside)

-- ---- its fields

region-page : (g : Geometry) (s : Stored) (v : Volume) (b : ℕ) → IsLaid g (map_of g s) v → b < meta_of g → ShowsRegion g v b (region g b) (block_at s b)
region-page g s v b laid low =
    let some = some-of (map_of g s b) (λ none. let z = (laid.vacant b none).0 in absurd (omega arith)) in
    subst (λ page. ShowsRegion g v b (region g b) page) (mapped g s b some.0 some.1).is (laid.shown b some.0 some.1).1

zone-shown : (g : Geometry) (s : Stored) (v : Volume) (zone : ℕ) → IsLaid g (map_of g s) v → zone < queues_of g → ShowsMarks (block_at s (zone_bitmap zone)) (zone_marked g v zone)
zone-shown g s v zone laid low =
    let m = g.meta_low in
    let e : 1 + zone - 1 ≡ zone = omega arith in
    let r : region g (zone_bitmap zone) ≡ ZoneMarks zone = region-marks g (zone_bitmap zone) (omega arith) (omega arith) ∙ ap (λ (z : ℕ). ZoneMarks z) e in
    subst (λ r. ShowsRegion g v (zone_bitmap zone) r (block_at s (zone_bitmap zone))) r (region-page g s v (zone_bitmap zone) laid (omega arith))

inodes-shown : (g : Geometry) (s : Stored) (v : Volume) → IsLaid g (map_of g s) v → ShowsMarks (block_at s (inode_bitmap g)) (inode_marked v)
inodes-shown g s v laid =
    let m = g.meta_low in
    subst (λ r. ShowsRegion g v (inode_bitmap g) r (block_at s (inode_bitmap g))) (region-inode_marks g) (region-page g s v (inode_bitmap g) laid (omega arith))

-- the bytes of a free inode
free-bytes : inode_bytes (inode_of free_node) ≡ zero_bytes 128
unfolding inode_bytes zero_bytes padded
free-bytes = refl

free-zero : (page : List ℕ) (at k : ℕ) → k < 128 → ShowsInode page at (inode_of free_node) → get_or page (128 * at + k) 0 ≡ 0
free-zero page at k low shown =
    let t : ShowsBytes page (128 * at) (zero_bytes 128) = subst (λ xs. ShowsBytes page (128 * at) xs) free-bytes shown.1 in
    shows-at page (128 * at) (zero_bytes 128) k t (let l = length-zero_bytes 128 in omega arith) ∙ zero_bytes-at 128 k

-- past the last inode a block of the table is zeros
rest-zero : (g : Geometry) (s : Stored) (v : Volume) (b k : ℕ) → ArePages s → IsLaid g (map_of g s) v → table_first g + 1024 ≤ b → b < meta_of g → get_or (block_at s b) k 0 ≡ 0
rest-zero g s v b k pages laid high low = elim (cases_lt k 4096) [
  | inr past ↦ get_or_past (block_at s b) k 0 (let w = (pages b).whole in omega arith)
  | inl inside ↦
      let t = b - table_first g in
      let at : table_first g + t ≡ b = omega arith in
      let p = table-shows g (map_of g s) v t laid (omega arith) in
      let is : p.0 ≡ block_at s b = (mapped g s (table_first g + t) p.0 p.1).is ∙ ap (λ (c : ℕ). block_at s c) at in
      let j : k / 128 < 32 = omega arith in
      let free : node v (32 * t + k / 128) ≡ free_node = get_or_past v (32 * t + k / 128) free_node (let c = laid.sound.count in omega arith) in
      let shown : ShowsInode p.0 (k / 128) (inode_of free_node) = subst (λ n. ShowsInode p.0 (k / 128) (inode_of n)) free (p.2 (k / 128) j) in
      let e : 128 * (k / 128) + k % 128 ≡ k = omega arith in
      let small : k % 128 < 128 = omega arith in
      ap (λ (page : List ℕ). get_or page k 0) (sym is) ∙ ap (λ (i : ℕ). get_or p.0 i 0) (sym e) ∙ free-zero p.0 (k / 128) (k % 128) small shown
]

laid-table : (g : Geometry) (s : Stored) → ArePages s → IsLaid g (map_of g s) (volume_in g s) → IsTable g s
laid-table g s pages laid =
    let v = volume_in g s in
    let m = g.meta_low in
    let z = g.zone_low in
    record {
      super = region-page g s v 0 laid (omega arith);
      zones = λ zone low k past inside. zone-shown g s v zone laid low k inside ∙ ap (λ (c : Bool). if c then 1 else 0) (and_left _ (is_taken v (zone_block g zone k)) (le-ltb k (zone_size g) past));
      marks = λ k past inside. inodes-shown g s v laid k inside ∙ ap (λ (n : Node). if is_used n.body then 1 else 0) (node-past g s k past);
      inodes = λ i low. subst (λ n. ShowsInode (block_at s (inode_block g i)) (inode_place i) n) (sym (inode-is g s v i laid low)) (inode-shown g s v i laid low);
      rest = λ b k high low. rest-zero g s v b k pages laid high low;
      root = inode-is-kind g s v laid (omega arith);
    }
  where
    inode-is-kind : (g : Geometry) (s : Stored) (v : Volume) → IsLaid g (map_of g s) v → 0 < inodes_of g → (the_inode g s 0).kind ≡ 2
    inode-is-kind g s v laid some = ap (λ (n : Inode). n.kind) (inode-is g s v 0 laid some) ∙ ap kind_of laid.sound.root.1

laid-pointers : (g : Geometry) (s : Stored) (v : Volume) (i : ℕ) → IsLaid g (map_of g s) v → HasPointers g s (inode_of (node v i))
laid-pointers g s v i laid =
    let n = node v i in
    let h = held g s v i laid in
    let c = the-count n h.good in
    record {
      there = λ k l.
          let inside : k < length n.blocks = omega arith in
          subst (λ b. IsInZone g b) (sym (the-pointer s n k h inside)) (laid.sound.zones (Part i k) (get_or n.blocks k 0) (slice_get-get_or n.blocks k 0 inside));
      direct = λ k past low. padded-at 12 n.blocks k low ∙ get_or_past n.blocks k 0 (omega arith);
      many = λ many. laid.sound.zones (Pointers i) (or_zero n.indirect) (indirect-is n h.good (omega arith));
      few = λ few. ap or_zero (none-of n.indirect (h.good.indirect ∙ le-ltb 12 (length n.blocks) (omega arith)));
      rest = λ k many past low. far-pointer s n k h (omega arith) (omega arith) low ∙ get_or_past n.blocks k 0 (omega arith);
    }

dir-kind : (x : Body) → kind_of x ≡ 2 → (slots : List (Option Entry)) × (x ≡ Dir slots)
dir-kind Free e = absurd (omega arith)
dir-kind (File bytes) e = absurd (omega arith)
dir-kind (Dir slots) e = (slots, refl)

file-kind : (x : Body) → kind_of x ≡ 1 → (bytes : List ℕ) × (x ≡ File bytes)
file-kind Free e = absurd (omega arith)
file-kind (File bytes) e = (bytes, refl)
file-kind (Dir slots) e = absurd (omega arith)

laid-dir : (g : Geometry) (s : Stored) (v : Volume) (i place : ℕ) → IsLaid g (map_of g s) v → (inode_of (node v i)).kind ≡ 2 → place < count_of (inode_of (node v i)) → IsDirBlock (part s (inode_of (node v i)) place)
laid-dir g s v i place laid kind low =
    let n = node v i in
    let h = held g s v i laid in
    let c = the-count n h.good in
    let d = dir-kind n.body kind in
    let page = part s (inode_of n) place in
    let shown : ShowsPart (Dir d.0) place page = subst (λ x. ShowsPart x place page) d.1 (part-page s n place h (omega arith)) in
    record {
      slots = λ at l. subst (λ o. ShowsSlot page at o) (sym (slot-decoded page at _ (shown.0 at l))) (shown.0 at l);
      rest = shown.1;
    }

laid-ended : (g : Geometry) (s : Stored) (v : Volume) (i k : ℕ) → IsLaid g (map_of g s) v → (inode_of (node v i)).kind ≡ 1 → (inode_of (node v i)).size ≤ k → k < 4096 * count_of (inode_of (node v i)) → byte_of s (inode_of (node v i)) k ≡ 0
laid-ended g s v i k laid kind past inside =
    let n = node v i in
    let h = held g s v i laid in
    let c = the-count n h.good in
    let f = file-kind n.body kind in
    let page = part s (inode_of n) (k / 4096) in
    let place : k / 4096 < length n.blocks = omega arith in
    let shown : ShowsPart (File f.0) (k / 4096) page = subst (λ x. ShowsPart x (k / 4096) page) f.1 (part-page s n (k / 4096) h place) in
    let size : (inode_of n).size ≡ length f.0 = ap (λ (x : Body). size_of x (length n.blocks)) f.1 in
    let small : k % 4096 < 4096 = omega arith in
    let e : 4096 * (k / 4096) + k % 4096 ≡ k = omega arith in
    shown (k % 4096) small ∙ get_or_past f.0 _ 0 (omega arith)

pub laid-clean : (g : Geometry) (s : Stored) → ArePages s → IsLaid g (map_of g s) (volume_in g s) → IsClean g s
laid-clean g s pages laid =
    let v = volume_in g s in
    let same : (i : ℕ) → i < inodes_of g → inode_of (node v i) ≡ the_inode g s i = λ i low. sym (inode-is g s v i laid low) in
    record {
      table = laid-table g s pages laid;
      pointers = λ i low. subst (λ n. HasPointers g s n) (same i low) (laid-pointers g s v i laid);
      apart = laid.sound.apart;
      dirs = λ i place low.
          let P : Inode → Type 0 = λ n. n.kind ≡ 2 → place < count_of n → IsDirBlock (part s n place) in
          subst P (same i low) (laid-dir g s v i place laid);
      named = laid.sound.named;
      names = laid.sound.names;
      reached = record { once = laid.sound.once; reached = laid.sound.reached };
      linked = λ i low kind.
          let n : kind_of (body v i) ≡ 1 = ap (λ (m : Inode). m.kind) (same i low) ∙ kind in
          let f = file-kind (body v i) n in
          ap (λ (m : Inode). m.links) (sym (same i low)) ∙ laid.sound.counted i f.0 f.1;
      marked = record { zones = λ zone low. zone-shown g s v zone laid low; inodes = inodes-shown g s v laid };
      ended = λ i k low.
          let P : Inode → Type 0 = λ n. n.kind ≡ 1 → n.size ≤ k → k < 4096 * count_of n → byte_of s n k ≡ 0 in
          subst P (same i low) (laid-ended g s v i k laid);
    }

-- blocks on whose map some volume lies are clean
pub volume-clean : (g : Geometry) (s : Stored) (v : Volume) → ArePages s → IsLaid g (map_of g s) v → IsClean g s
volume-clean g s v pages laid = laid-clean g s pages (subst (λ w. IsLaid g (map_of g s) w) (sym (volume-decoded g s v laid)) laid)
