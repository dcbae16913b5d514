-- The blocks of an empty file system have its volume.
use Rattle.std.proofs.Common.{get_or, ◌≡◌, ℕ, zero, suc, ◌+◌, ◌-◌, ◌*◌, ◌/◌, ◌%◌, ◌<◌, ◌≤◌, List, [], ◌∷◌, ◌++◌, replicate, reverse, Bool, true, false, refl, sym, ap, subst, ◌∙◌, arith, inl, inr}
use Rattle.std.specs.Prelude.{Option, Some, None, nat_lt, slice_get, if◌then◌else◌, option_and_then}
use Rattle.std.proofs.lemmas.Bool.{cases_lt, cases_eq, and_right, eqb-true, true≢false}
use Rattle.std.proofs.lemmas.Grind.{reverse_onto}
use Rattle.std.proofs.lemmas.List.{length-replicate}
use Rattle.mq_blocks.specs.Blocks.{block_at, zeros}
use Rattle.mq_blocks.specs.Geometry.{homes_of, meta_of, queues_of, zone_size}
use Rattle.mq_blocks.specs.declared.geometry.Geometry.{Geometry}
use Rattle.mq_layout.specs.Bits.{bit_of}
use Rattle.mq_layout.specs.Empty.{empty_block, empty_root, free_inode}
use Rattle.mq_layout.specs.Inodes.{ShowsInode}
use Rattle.mq_layout.specs.Places.{inode_bitmap, inodes_of, table_first, zone_bitmap}
use Rattle.mq_layout.proofs.EmptyLaws.{empty-mark-others, empty-mark-root, empty-super, empty-table-free, empty-table-root, empty-zeros, zeros-bit, zeros-free}
use Rattle.mq_tree.specs.Empty.{ArePages, empty_node, empty_volume}
use Rattle.mq_tree.specs.Laid.{IsLaid, IsPage, ShowsMarks, ShowsRegion, ShowsTable, InodeMarks, Table, inode_marked, inode_of, is_marked, map_of, padded, region, zone_block, zone_marked}
use Rattle.mq_tree.specs.Sound.{IsNode, IsSound}
use Rattle.mq_tree.specs.Volume.{File, Free, ADir, Node, Path, Use, Part, Pointers, Volume, block_in, body, find, free_node, inode_at, is_taken, is_used, node, slot, slots_of, thing, tree}
use Rattle.mq_tree.proofs.LaidMaps.{mapped, unmapped, zone-low}
use Rattle.mq_tree.proofs.LaidRegions.{region-inode_marks, region-marks, region-table}

-- ---- the volume

free-at : (n i : ℕ) → get_or (replicate n free_node) i free_node ≡ free_node
free-at zero i = refl
free-at (suc n) zero = refl
free-at (suc n) (suc i) = free-at n i

abbrev blank : ℕ → Volume
blank n = empty_node ∷ replicate n free_node

-- all its inodes but the root are free
free-others : (n i : ℕ) → 1 ≤ i → node (blank n) i ≡ free_node
free-others n zero h = absurd (omega arith)
free-others n (suc i) h = free-at n i

no-blocks : (n : ℕ) (u : Use) → block_in (blank n) u ≡ None
no-blocks n (Part zero k) = refl
no-blocks n (Part (suc i) k) = ap (λ (m : Node). slice_get m.blocks k) (free-at n i)
no-blocks n (Pointers zero) = refl
no-blocks n (Pointers (suc i)) = ap (λ (m : Node). m.indirect) (free-at n i)

no-slots : (n d k : ℕ) → slot (blank n) d k ≡ None
no-slots n zero k = refl
no-slots n (suc d) k = ap (λ (m : Node). slot (m ∷ []) 0 k) (free-at n d)

none-taken : (n b : ℕ) → is_taken (blank n) b ≡ false
none-taken n b = go n
  where
    go : (n : ℕ) → is_taken (replicate n free_node) b ≡ false
    go zero = refl
    go (suc n) = go n

root-used : (n i : ℕ) → is_used (body (blank n) i) ≡ true → i ≡ 0
root-used n zero e = refl
root-used n (suc i) e = let f = ap (λ (m : Node). is_used m.body) (free-at n i) in absurd (true≢false (sym e ∙ f))

blank-nodes : (n i : ℕ) → IsNode (node (blank n) i)
blank-nodes n zero = record { body = (omega arith, refl, λ k e f. absurd (cc)); indirect = refl; links = refl }
blank-nodes n (suc i) = let free : IsNode free_node = record { body = refl; indirect = refl; links = refl } in subst (λ m. IsNode m) (sym (free-at n i)) free

some-none : {X R : Type 0} (o : Option X) (x : X) → o ≡ None → o ≡ Some x → R
some-none o x e f = absurd (cc)

no-file : {R : Type 0} (n i : ℕ) (bytes : List ℕ) → body (blank n) i ≡ File bytes → R
no-file n zero bytes is = absurd (cc)
no-file n (suc i) bytes is = let f : Free ≡ File bytes = sym (ap (λ (m : Node). m.body) (free-at n i)) ∙ is in absurd (cc)

pub empty-sound : (g : Geometry) → IsSound g (empty_volume g)
empty-sound g =
    let n = inodes_of g - 1 in
    let m = g.meta_low in
    record {
      count = let l = length-replicate n free_node in omega arith;
      nodes = blank-nodes n;
      root = ([], refl);
      zones = λ u b e. some-none _ b (no-blocks n u) e;
      apart = λ u w b e f. some-none _ b (no-blocks n u) e;
      named = λ d k e s. some-none _ e (no-slots n d k) s;
      once = λ d k c l e f s t h. some-none _ e (no-slots n d k) s;
      names = λ d k l e f s t h. some-none _ e (no-slots n d k) s;
      reached = λ i u. ([], ap (λ (j : ℕ). Some j) (sym (root-used n i u)));
      counted = λ i bytes is. no-file n i bytes is;
    }

-- ---- its blocks

root-inode : inode_of empty_node ≡ empty_root
unfolding padded
root-inode = refl

pub free-inode : inode_of free_node ≡ free_inode
unfolding padded
free-inode = refl

shows-free : (n : ℕ) (page : List ℕ) (k i : ℕ) → 1 ≤ i → ShowsInode page k free_inode → ShowsInode page k (inode_of (node (blank n) i))
shows-free n page k i h s = let e : free_inode ≡ inode_of (node (blank n) i) = sym (ap inode_of (free-others n i h) ∙ free-inode) in subst (λ x. ShowsInode page k x) e s

unmarked : (g : Geometry) (n zone k : ℕ) → zone_marked g (blank n) zone k ≡ false
unmarked g n zone k = and_right (nat_lt k (zone_size g)) _ (none-taken n (zone_block g zone k))

zeros-marks : (g : Geometry) (n zone : ℕ) (page : List ℕ) → page ≡ zeros → ShowsMarks page (zone_marked g (blank n) zone)
zeros-marks g n zone page e = λ k l. ap (λ (p : List ℕ). bit_of p k) e ∙ zeros-bit k ∙ sym (ap (λ (c : Bool). if c then 1 else 0) (unmarked g n zone k))

root-marks : (g : Geometry) (n : ℕ) (page : List ℕ) → page ≡ empty_block g (inode_bitmap g) → ShowsMarks page (inode_marked (blank n))
root-marks g n page e zero l = ap (λ (p : List ℕ). bit_of p 0) e ∙ empty-mark-root g
root-marks g n page e (suc k) l =
    let f : is_used (body (blank n) (suc k)) ≡ false = ap (λ (m : Node). is_used m.body) (free-at n k) in
    ap (λ (p : List ℕ). bit_of p (suc k)) e ∙ empty-mark-others g (suc k) (omega arith) ∙ sym (ap (λ (c : Bool). if c then 1 else 0) f)

table-first : (g : Geometry) (n : ℕ) (page : List ℕ) → page ≡ empty_block g (table_first g) → ShowsTable (blank n) 0 page
table-first g n page e zero l =
    let s : ShowsInode (empty_block g (table_first g)) 0 (inode_of empty_node) = subst (λ x. ShowsInode (empty_block g (table_first g)) 0 x) (sym root-inode) (empty-table-root g) in
    subst (λ p. ShowsInode p 0 (inode_of empty_node)) (sym e) s
table-first g n page e (suc k) l =
    let i : 32 * 0 + suc k ≡ suc k = omega arith in
    let s = shows-free n (empty_block g (table_first g)) (suc k) (suc k) (omega arith) (empty-table-free g (suc k) (omega arith) l) in
    subst (λ p. ShowsInode p (suc k) (inode_of (node (blank n) (32 * 0 + suc k)))) (sym e) (subst (λ j. ShowsInode (empty_block g (table_first g)) (suc k) (inode_of (node (blank n) j))) (sym i) s)

table-others : (n block : ℕ) (page : List ℕ) → 1 ≤ block → page ≡ zeros → ShowsTable (blank n) block page
table-others n block page h e k l =
    let s = shows-free n zeros k (32 * block + k) (omega arith) (zeros-free k l) in
    subst (λ p. ShowsInode p k (inode_of (node (blank n) (32 * block + k)))) (sym e) s

table-shows : (g : Geometry) (n block : ℕ) (page : List ℕ) → page ≡ empty_block g (table_first g + block) → ShowsTable (blank n) block page
table-shows g n zero page e = let f : table_first g + 0 ≡ table_first g = omega arith in table-first g n page (e ∙ ap (λ (b : ℕ). empty_block g b) f)
table-shows g n (suc block) page e = table-others n (suc block) page (omega arith) (e ∙ empty-zeros g (table_first g + suc block) (λ z. omega arith) (λ z. omega arith) (λ z. omega arith))

region-shows : (g : Geometry) (b : ℕ) (page : List ℕ) → b < meta_of g → page ≡ empty_block g b → ShowsRegion g (empty_volume g) b (region g b) page
region-shows g b page low e = elim (cases_eq b 0) [
  | inl z ↦
      let P : ℕ → Type 0 = λ c. ShowsRegion g (empty_volume g) b (region g c) page in
      subst P (sym z) (e ∙ ap (λ (c : ℕ). empty_block g c) z ∙ empty-super g)
  | inr some ↦ elim (cases_lt (queues_of g) b) [
    | inr few ↦
        let r = region-marks g b (omega arith) few in
        let blank_block = empty-zeros g b some (λ h. omega arith) (λ h. omega arith) in
        let s = zeros-marks g (inodes_of g - 1) (b - 1) page (e ∙ blank_block) in
        subst (λ r. ShowsRegion g (empty_volume g) b r page) (sym r) s
    | inl past ↦ elim (cases_eq b (inode_bitmap g)) [
      | inl m ↦
          let s = root-marks g (inodes_of g - 1) page (e ∙ ap (λ (c : ℕ). empty_block g c) m) in
          let r : region g b ≡ InodeMarks = ap (λ (c : ℕ). region g c) m ∙ region-inode_marks g in
          subst (λ r. ShowsRegion g (empty_volume g) b r page) (sym r) s
      | inr ne ↦
          let at : table_first g + (b - table_first g) ≡ b = omega arith in
          let s = table-shows g (inodes_of g - 1) (b - table_first g) page (e ∙ ap (λ (c : ℕ). empty_block g c) (sym at)) in
          let r : region g b ≡ Table (b - table_first g) = ap (λ (c : ℕ). region g c) (sym at) ∙ region-table g (b - table_first g) (omega arith) in
          subst (λ r. ShowsRegion g (empty_volume g) b r page) (sym r) s
    ]
  ]
]

empty-unmarked : (g : Geometry) (stored : List (Option (List ℕ))) (b : ℕ) → ((b : ℕ) → b < homes_of g → block_at stored b ≡ empty_block g b) → meta_of g ≤ b → b < homes_of g → is_marked g stored b ≡ true → ⊥
empty-unmarked g stored b same high home t =
    let z = (b - meta_of g) / zone_size g in
    let low : z < queues_of g = zone-low g b high home in
    let m = g.meta_low in
    let blank_block = same (zone_bitmap z) (omega arith) ∙ empty-zeros g (zone_bitmap z) (λ h. omega arith) (λ h. omega arith) (λ h. omega arith) in
    let bit : bit_of (block_at stored (zone_bitmap z)) ((b - meta_of g) % zone_size g) ≡ 0 = ap (λ (p : List ℕ). bit_of p ((b - meta_of g) % zone_size g)) blank_block ∙ zeros-bit _ in
    let one = eqb-true _ _ t in
    omega arith

pub empty-laid : (g : Geometry) (stored : List (Option (List ℕ))) → ArePages stored → ((b : ℕ) → b < homes_of g → block_at stored b ≡ empty_block g b) → IsLaid g (map_of g stored) (empty_volume g)
empty-laid g stored pages same = record {
  sound = empty-sound g;
  shown = λ b page e.
      let p = mapped g stored b page e in
      elim (cases_lt b (meta_of g)) [
        | inl low ↦ (subst (λ x. IsPage x) (sym p.is) (pages b), region-shows g b page low (p.is ∙ same b p.home))
        | inr high ↦ absurd (empty-unmarked g stored b same high p.home (p.marked high))
      ];
  vacant = λ b e. ((unmapped g stored b e).0, none-taken (inodes_of g - 1) b);
}

-- ---- the tree

pub empty-root_thing : (g : Geometry) → tree (empty_volume g) [] ≡ Some ADir
empty-root_thing g = refl

no-inode : (n : ℕ) (name : List ℕ) (w : List (List ℕ)) → inode_at (blank n) (name ∷ w) ≡ None
no-inode n name [] = refl
no-inode n name (other ∷ w) = ap (λ (o : Option ℕ). option_and_then (λ d. find name (slots_of (body (blank n) d))) o) (no-inode n other w)

no-inode_behind : (n : ℕ) (w : List (List ℕ)) (name : List ℕ) → inode_at (blank n) (w ++ name ∷ []) ≡ None
no-inode_behind n [] name = no-inode n name []
no-inode_behind n (other ∷ w) name = no-inode n other (w ++ name ∷ [])

pub empty-others : (g : Geometry) (name : List ℕ) (path : Path) → tree (empty_volume g) (name ∷ path) ≡ None
empty-others g name path = ap (λ (w : List (List ℕ)). option_and_then (λ i. thing (body (empty_volume g) i)) (inode_at (empty_volume g) w)) (reverse_onto path name []) ∙ ap (λ (o : Option ℕ). option_and_then (λ i. thing (body (empty_volume g) i)) o) (no-inode_behind (inodes_of g - 1) (reverse path) name)
