-- Every sound volume lies on a map.
use Rattle.std.proofs.Common.{get_or, ◌≡◌, ◌∙◌, ℕ, ◌+◌, ◌*◌, ◌/◌, ◌%◌, ◌^◌, ◌<◌, ◌≤◌, inl, inr, Bool, true, false, List, [], ◌∷◌, length, refl, sym, ap, subst, arith}
use Rattle.std.specs.Prelude.{Option, Some, None, if◌then◌else◌, nat_lt, slice_get, slice_index_or}
use Rattle.std.proofs.lemmas.Bool.{cases_Bool, cases_lt, lt-ltb}
use Rattle.std.proofs.lemmas.List.{get_or_past}
use Rattle.std.proofs.lemmas.Option.{slice_get-get_or, slice_get_within, same_Some}
use Rattle.std.specs.Int.{to_le_bytes, w32}
use Rattle.mq_blocks.proofs.Windows.{number-shown, shows-all}
use Rattle.mq_blocks.specs.Geometry.{homes_of, meta_of}
use Rattle.mq_blocks.specs.Machine.{Map}
use Rattle.mq_blocks.specs.Windows.{Shows as ShowsBytes}
use Rattle.mq_blocks.specs.declared.geometry.Geometry.{Geometry}
use Rattle.mq_blocks.proofs.Options.{none-of}
use Rattle.mq_inodes.proofs.ChangesBodies.{inode-form}
use Rattle.mq_inodes.proofs.ChangesRegions.{Lies, at_super, at_marks, at_inode_marks, at_table, at_zone, at_outside, lies, shows-in, zone-marks-region}
use Rattle.mq_inodes.proofs.Sound.{sound-uses}
use Rattle.mq_layout.proofs.EmptyLaws.{zeros-free}
use Rattle.mq_layout.proofs.InodesForms.{length-inode_bytes}
use Rattle.mq_layout.proofs.SlotsForms.{length-slot_bytes}
use Rattle.mq_layout.proofs.SuperblockForms.{length-super_bytes}
use Rattle.mq_layout.proofs.FieldsZeros.{length-zero_bytes, zero_bytes-at}
use Rattle.mq_layout.specs.Fields.{zero_bytes}
use Rattle.mq_layout.specs.Inodes.{IsInode, inode_bytes}
use Rattle.mq_layout.specs.Places.{file_limit}
use Rattle.mq_layout.specs.Slots.{Entry, IsEntry, ShowsSlot, slot_bytes}
use Rattle.mq_layout.specs.Superblock.{super_bytes}
use Rattle.mq_tree.proofs.Decoded.{length-table, table-at, taken-use}
use Rattle.mq_tree.proofs.LaidRegions.{region-inode_marks, region-table, region-zone}
use Rattle.mq_tree.proofs.LaidUnique.{node-parts}
use Rattle.mq_tree.specs.Decoded.{table_of}
use Rattle.mq_tree.specs.Laid.{InodeMarks, IsLaid, IsPage, IsVacant, Region, ShowsPage, ShowsPart, ShowsPointers, ShowsRegion, ShowsTable, ShowsUse, Super, Table, Zone, ZoneMarks, inode_marked, inode_of, region, size_of, zone_marked}
use Rattle.mq_tree.specs.Links.{HasLinks}
use Rattle.mq_tree.specs.Sound.{AreBytes, AreEntries, IsBody, IsNode, IsSound}
use Rattle.mq_tree.specs.Volume.{Body, Free, File, Dir, Node, Use, Part, Pointers, Volume, block_in, body, free_node, is_taken, is_used, node}
use Rattle.mq_tree.proofs.Empty.{free-inode}
use Rattle.mq_run_laws.proofs.LaidTiles.{Bytes, bytes-inode, bytes-pointer, bytes-slot, bytes-super, bytes-zeros, marks-page, page-by, tile-at, tile-shows, tiles, tiles-page}

-- ---- inodes

none-in : {X : Type 0} (xs : List X) → length xs ≡ 0 → xs ≡ []
none-in [] e = refl
none-in (x ∷ xs) e = absurd (omega (arith, e))

free-is : (n : Node) → IsNode n → n.body ≡ Free → n ≡ free_node
free-is n h e =
    let few : length n.blocks ≡ 0 = subst (λ (x : Body). IsBody x (length n.blocks)) e h.body in
    node-parts n free_node e (none-in n.blocks few) (none-of n.indirect (h.indirect ∙ ap (λ (k : ℕ). nat_lt 12 k) few)) (subst (λ (x : Body). HasLinks x n.links) e h.links)

size-few : (x : Body) (count : ℕ) → IsBody x count → size_of x count ≤ file_limit
size-few Free count h = omega arith
size-few (File bytes) count h = h.0
size-few (Dir slots) count h = let few = h.0 in omega arith

node-form : (g : Geometry) (v : Volume) (i : ℕ) → IsSound g v → IsInode (inode_of (node v i))
node-form g v i sound = form (body v i) refl
  where
    used : is_used (body v i) ≡ true → IsInode (inode_of (node v i))
    used e = inode-form g v i (sound-uses g v sound) e (size-few (body v i) (length (node v i).blocks) (sound.nodes i).body)

    form : (x : Body) → body v i ≡ x → IsInode (inode_of (node v i))
    form Free e = subst (λ x. IsInode x) (sym (ap inode_of (free-is (node v i) (sound.nodes i) e) ∙ free-inode)) (zeros-free 0 (omega arith)).0
    form (File bytes) e = used (ap is_used e)
    form (Dir slots) e = used (ap is_used e)

abbrev inode_part : Volume → ℕ → ℕ → List ℕ
inode_part v block k = inode_bytes (inode_of (node v (32 * block + k)))

table-page : (g : Geometry) (v : Volume) (block : ℕ) → IsSound g v → (page : List ℕ) × IsPage page × ShowsTable v block page
table-page g v block sound = (tiles 128 (inode_part v block), tiles-page 128 (inode_part v block) (λ k. bytes-inode _ (form k)), shown)
  where
    form : (k : ℕ) → IsInode (inode_of (node v (32 * block + k)))
    form k = node-form g v (32 * block + k) sound

    shown : ShowsTable v block (tiles 128 (inode_part v block))
    shown k low =
        let e = length-inode_bytes (inode_of (node v (32 * block + k))) (form k).twelve in
        (form k, tile-shows 128 k (inode_part v block) (omega arith) (omega arith))

-- ---- blocks of the zones

file-page : (bytes : List ℕ) (place : ℕ) → AreBytes bytes → (page : List ℕ) × IsPage page × ShowsPart (File bytes) place page
file-page bytes place low = (table_of 4096 (λ k. get_or bytes (4096 * place + k) 0), page-by _ (λ k. low (4096 * place + k)), λ k l. table-at 4096 (λ j. get_or bytes (4096 * place + j) 0) k 0 l)

abbrev slot_part : Option Entry → List ℕ
slot_part None = zero_bytes 272
slot_part (Some e) = slot_bytes e

-- the slots of the block, and none behind them
abbrev slot_in : List (Option Entry) → ℕ → ℕ → Option Entry
slot_in slots place k = if nat_lt k 15 then slice_index_or slots (15 * place + k) None else None

slot-bytes : (o : Option Entry) → ((e : Entry) → o ≡ Some e → IsEntry e) → Bytes (slot_part o)
slot-bytes None h = bytes-zeros 272
slot-bytes (Some e) h = bytes-slot e (h e refl)

slot-length : (o : Option Entry) → ((e : Entry) → o ≡ Some e → IsEntry e) → length (slot_part o) ≡ 272
slot-length None h = length-zero_bytes 272
slot-length (Some e) h = length-slot_bytes e (h e refl).name.few

slot-shown : (page : List ℕ) (k : ℕ) (o : Option Entry) → ((e : Entry) → o ≡ Some e → IsEntry e) → ShowsBytes page (272 * k) (slot_part o) → ShowsSlot page k o
slot-shown page k None h s = s
slot-shown page k (Some e) h s = (h e refl, s)

pick : (b : Bool) (o : Option Entry) (e : Entry) → (if b then o else None) ≡ Some e → o ≡ Some e
pick true o e h = h
pick false o e h = absurd (cc)

abbrev dir_part : List (Option Entry) → ℕ → ℕ → List ℕ
dir_part slots place k = slot_part (slot_in slots place k)

dir-entries : (slots : List (Option Entry)) (place k : ℕ) → AreEntries slots → (e : Entry) → slot_in slots place k ≡ Some e → IsEntry e
dir-entries slots place k fine e is = fine (15 * place + k) e (pick (nat_lt k 15) (slice_index_or slots (15 * place + k) None) e is)

dir-shown : (slots : List (Option Entry)) (place : ℕ) → AreEntries slots → (k : ℕ) → k < 15 → ShowsSlot (tiles 272 (dir_part slots place)) k (slice_index_or slots (15 * place + k) None)
dir-shown slots place fine k low =
    let size = slot-length (slot_in slots place k) (dir-entries slots place k fine) in
    let shown = slot-shown (tiles 272 (dir_part slots place)) k (slot_in slots place k) (dir-entries slots place k fine) (tile-shows 272 k (dir_part slots place) (omega arith) (omega arith)) in
    subst (λ o. ShowsSlot (tiles 272 (dir_part slots place)) k o) (ap (λ (b : Bool). if b then slice_index_or slots (15 * place + k) None else None) (lt-ltb k 15 low)) shown

dir-rest : (slots : List (Option Entry)) (place : ℕ) → ShowsBytes (tiles 272 (dir_part slots place)) 4080 (zero_bytes 16)
dir-rest slots place =
    let few = length-zero_bytes 16 in
    let size : length (tiles 272 (dir_part slots place)) ≡ 4096 = length-table 4096 (λ j. get_or (dir_part slots place (j / 272)) (j % 272) 0) in
    shows-all (tiles 272 (dir_part slots place)) 4080 (zero_bytes 16) (omega (arith, few, size)) (λ j l.
    let low : j < 16 = omega (arith, few, l) in
    tile-at 272 15 j (dir_part slots place) (omega arith) (omega arith) ∙ zero_bytes-at 272 j ∙ sym (zero_bytes-at 16 j))

dir-page : (slots : List (Option Entry)) (place : ℕ) → AreEntries slots → (page : List ℕ) × IsPage page × ShowsPart (Dir slots) place page
dir-page slots place fine = (
  tiles 272 (dir_part slots place),
  tiles-page 272 (dir_part slots place) (λ k. slot-bytes (slot_in slots place k) (dir-entries slots place k fine)),
  (dir-shown slots place fine, dir-rest slots place),
)

part-page : (v : Volume) (i place b : ℕ) → IsNode (node v i) → slice_get (node v i).blocks place ≡ Some b → (x : Body) → body v i ≡ x → (page : List ℕ) × IsPage page × ShowsPart x place page
part-page v i place b h e Free is =
    let few : length (node v i).blocks ≡ 0 = subst (λ (x : Body). IsBody x (length (node v i).blocks)) is h.body in
    let inside = slice_get_within (node v i).blocks place b e in
    absurd (omega (arith, few, inside))
part-page v i place b h e (File bytes) is =
    let fine : IsBody (File bytes) (length (node v i).blocks) = subst (λ (x : Body). IsBody x (length (node v i).blocks)) is h.body in
    file-page bytes place fine.2
part-page v i place b h e (Dir slots) is =
    let fine : IsBody (Dir slots) (length (node v i).blocks) = subst (λ (x : Body). IsBody x (length (node v i).blocks)) is h.body in
    dir-page slots place fine.2

abbrev pointer_part : List ℕ → ℕ → List ℕ
pointer_part blocks k = to_le_bytes w32 (get_or blocks (12 + k) 0)

pointers-page : (blocks : List ℕ) → ((k c : ℕ) → slice_get blocks k ≡ Some c → c < 2 ^ 32) → (page : List ℕ) × IsPage page × ShowsPointers blocks page
pointers-page blocks low = (tiles 4 (pointer_part blocks), tiles-page 4 (pointer_part blocks) (λ k. bytes-pointer (get_or blocks (12 + k) 0)), shown)
  where
    small : (k : ℕ) → get_or blocks k 0 < 2 ^ 32
    small k = elim (cases_lt k (length blocks)) [
      | inl inside ↦ low k (get_or blocks k 0) (slice_get-get_or blocks k 0 inside)
      | inr past ↦ let z = get_or_past blocks k 0 past in omega (arith, z)
    ]

    shown : ShowsPointers blocks (tiles 4 (pointer_part blocks))
    shown k few = number-shown (tiles 4 (pointer_part blocks)) (4 * k) 4 (get_or blocks (12 + k) 0) (small (12 + k)) (tile-shows 4 k (pointer_part blocks) (omega arith) (omega arith))

use-page : (g : Geometry) (v : Volume) (u : Use) (b : ℕ) → IsSound g v → block_in v u ≡ Some b → (page : List ℕ) × IsPage page × ShowsUse v u page
use-page g v (Part i place) b sound e = part-page v i place b (sound.nodes i) e (body v i) refl
use-page g v (Pointers i) b sound e =
    let h = g.homes_high in
    pointers-page (node v i).blocks (λ k c is. let z = (sound.zones (Part i k) c is).1 in omega (arith, h, z))

-- ---- the map

-- what the map has at a block: a page that is shown there, or none where there is none
record At (g : Geometry) (v : Volume) (b : ℕ) : Type 0 where
  content : Option (List ℕ)
  shown : (page : List ℕ) → content ≡ Some page → ShowsPage g v b page
  vacant : content ≡ None → IsVacant g v b

has-page : (g : Geometry) (v : Volume) (b : ℕ) (page : List ℕ) → ShowsPage g v b page → At g v b
has-page g v b page s = record {
  content = Some page;
  shown = λ other e. subst (λ p. ShowsPage g v b p) (same_Some page other e) s;
  vacant = λ e. absurd (cc);
}

no-page : (g : Geometry) (v : Volume) (b : ℕ) → IsVacant g v b → At g v b
no-page g v b h = record { content = None; shown = λ page e. absurd (cc); vacant = λ e. h }

in-region : (g : Geometry) (v : Volume) (b : ℕ) (r : Region) → region g b ≡ r → (page : List ℕ) × IsPage page × ShowsRegion g v b r page → At g v b
in-region g v b r e p = has-page g v b p.0 (shows-in g v b r p.0 e p.1 p.2)

zone-at : (g : Geometry) (v : Volume) (b : ℕ) → IsSound g v → meta_of g ≤ b → b < homes_of g → At g v b
zone-at g v b sound high home = elim (cases_Bool (is_taken v b)) [
  | inl taken ↦
      let u = taken-use v b taken in
      let p = use-page g v u.0 b sound u.1 in
      in-region g v b Zone (region-zone g b high home) (p.0, p.1, record { purpose = u.0; is = u.1; shows = p.2 })
  | inr free ↦ no-page g v b (high, free)
]

outside-free : (g : Geometry) (v : Volume) (b : ℕ) → IsSound g v → homes_of g ≤ b → is_taken v b ≡ false
outside-free g v b sound out = elim (cases_Bool (is_taken v b)) [
  | inl taken ↦ let u = taken-use v b taken in let z = (sound.zones u.0 b u.1).1 in absurd (omega (arith, z, out))
  | inr free ↦ free
]

at : (g : Geometry) (v : Volume) (b : ℕ) → IsSound g v → Lies g b → At g v b
at g v b sound (at_super e) =
    in-region g v b Super (ap (λ (x : ℕ). region g x) e) (super_bytes g, record { whole = length-super_bytes g; bytes = (bytes-super g).each }, refl)
at g v b sound (at_marks zone low e) =
    in-region g v b (ZoneMarks zone) (ap (λ (x : ℕ). region g x) e ∙ zone-marks-region g zone low) (marks-page (zone_marked g v zone))
at g v b sound (at_inode_marks e) = in-region g v b InodeMarks (ap (λ (x : ℕ). region g x) e ∙ region-inode_marks g) (marks-page (inode_marked v))
at g v b sound (at_table block low e) = in-region g v b (Table block) (ap (λ (x : ℕ). region g x) e ∙ region-table g block low) (table-page g v block sound)
at g v b sound (at_zone high home) = zone-at g v b sound high home
at g v b sound (at_outside out) = no-page g v b ((omega arith), outside-free g v b sound out)

-- the map of a sound volume
pub sound-laid : (g : Geometry) (v : Volume) → IsSound g v → (m : Map) × IsLaid g m v
sound-laid g v sound = (
  λ b. (at g v b sound (lies g b)).content,
  record {
    sound = sound;
    shown = λ b page e. (at g v b sound (lies g b)).shown page e;
    vacant = λ b e. (at g v b sound (lies g b)).vacant e;
  },
)
