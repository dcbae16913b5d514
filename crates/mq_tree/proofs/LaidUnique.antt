-- A map has at most one volume: each of its pages determines what the volume has there.
use Rattle.std.proofs.Common.{get_or, ◌≡◌, ℕ, zero, suc, ◌+◌, ◌-◌, ◌*◌, ◌/◌, ◌%◌, ◌<◌, ◌≤◌, List, [], ◌∷◌, length, true, refl, sym, ap, subst, ◌∙◌, arith, inl, inr}
use Rattle.std.specs.Prelude.{Option, Some, None, is_some, nat_lt, slice_get}
use Rattle.std.proofs.lemmas.Bool.{cases_lt, lt-ltb}
use Rattle.std.proofs.lemmas.List.{get_or_default, same_lists}
use Rattle.std.proofs.lemmas.Option.{slice_get-get_or}
use Rattle.mq_blocks.specs.Geometry.{meta_of}
use Rattle.mq_blocks.specs.Machine.{Map}
use Rattle.mq_blocks.specs.declared.geometry.Geometry.{Geometry}
use Rattle.mq_layout.specs.Inodes.{ShowsInode}
use Rattle.mq_layout.specs.Places.{inodes_of, table_first}
use Rattle.mq_layout.specs.Slots.{Entry}
use Rattle.mq_layout.specs.declared.inode.Inode.{Inode}
use Rattle.mq_layout.proofs.SlotsLaws.{inode-once, slot-once}
use Rattle.mq_tree.specs.Laid.{IsLaid, Laid, ShowsPart, ShowsPointers, ShowsRegion, ShowsTable, inode_of, kind_of, or_zero, padded, size_of}
use Rattle.mq_tree.specs.Sound.{IsBody, IsNode, blocks_for}
use Rattle.mq_tree.specs.Volume.{Body, Free, File, Dir, Node, Volume, free_node, node, Part, Pointers, Things, Layout, Path, tree, layout}
use Rattle.mq_tree.proofs.LaidRegions.{region-table, table-holds}
use Rattle.mq_tree.proofs.LaidUses.{both-show, some-of}

-- ---- what an inode says determines how many blocks there are, and the first twelve

pub padded-at : (n : ℕ) (xs : List ℕ) (k : ℕ) → k < n → get_or (padded n xs) k 0 ≡ get_or xs k 0
unfolding padded
padded-at zero xs k l = absurd (omega arith)
padded-at (suc n) [] zero l = refl
padded-at (suc n) [] (suc k) l = padded-at n [] k (omega arith)
padded-at (suc n) (x ∷ xs) zero l = refl
padded-at (suc n) (x ∷ xs) (suc k) l = padded-at n xs k (omega arith)

pub same-count : (x y : Body) (c d : ℕ) → IsBody x c → IsBody y d → kind_of x ≡ kind_of y → size_of x c ≡ size_of y d → c ≡ d
same-count Free Free c d g h k s = g ∙ sym h
same-count Free (File ys) c d g h k s = absurd (omega arith)
same-count Free (Dir t) c d g h k s = absurd (omega arith)
same-count (File xs) Free c d g h k s = absurd (omega arith)
same-count (File xs) (File ys) c d g h k s = g.1 ∙ ap blocks_for s ∙ sym h.1
same-count (File xs) (Dir t) c d g h k s = absurd (omega arith)
same-count (Dir r) Free c d g h k s = absurd (omega arith)
same-count (Dir r) (File ys) c d g h k s = absurd (omega arith)
same-count (Dir r) (Dir t) c d g h k s = omega arith

pub body-few : (x : Body) (c : ℕ) → IsBody x c → c ≤ 1036
body-few Free c g = omega arith
body-few (File xs) c g = let a = g.0 in let b = g.1 in omega arith
body-few (Dir r) c g = g.0

same-option : (o p : Option ℕ) → is_some o ≡ is_some p → or_zero o ≡ or_zero p → o ≡ p
same-option None None e f = refl
same-option None (Some y) e f = absurd (cc)
same-option (Some x) None e f = absurd (cc)
same-option (Some x) (Some y) e f = ap (λ (b : ℕ). Some b) f

pub some-when : (o : Option ℕ) → is_some o ≡ true → (b : ℕ) × (o ≡ Some b)
some-when None e = absurd (cc)
some-when (Some b) e = (b, refl)

-- two inodes that say the same
record Alike (n m : Node) : Type 0 where
  count : length n.blocks ≡ length m.blocks
  kinds : kind_of n.body ≡ kind_of m.body
  sizes : size_of n.body (length n.blocks) ≡ size_of m.body (length m.blocks)
  indirect : n.indirect ≡ m.indirect
  links : n.links ≡ m.links
  first : (k : ℕ) → k < 12 → get_or n.blocks k 0 ≡ get_or m.blocks k 0

alike : (n m : Node) → IsNode n → IsNode m → inode_of n ≡ inode_of m → Alike n m
alike n m g h e =
    let kinds = ap (λ (i : Inode). i.kind) e in
    let sizes = ap (λ (i : Inode). i.size) e in
    let direct = ap (λ (i : Inode). i.direct) e in
    let count = same-count n.body m.body (length n.blocks) (length m.blocks) g.body h.body kinds sizes in
    record {
      count = count;
      kinds = kinds;
      sizes = sizes;
      indirect = same-option n.indirect m.indirect (g.indirect ∙ ap (λ (c : ℕ). nat_lt 12 c) count ∙ sym h.indirect) (ap (λ (i : Inode). i.indirect) e);
      links = ap (λ (i : Inode). i.links) e;
      first = λ k l. sym (padded-at 12 n.blocks k l) ∙ ap (λ (xs : List ℕ). get_or xs k 0) direct ∙ padded-at 12 m.blocks k l;
    }

-- ---- the block of pointers determines the others

-- where there are more than twelve, some page shows them
abbrev HasPointers : List ℕ → List ℕ → Type 0
HasPointers xs ys = 12 < length xs → (page : List ℕ) × ShowsPointers xs page × ShowsPointers ys page

same-blocks : (xs ys : List ℕ) → length xs ≡ length ys → length xs ≤ 1036 → ((k : ℕ) → k < 12 → get_or xs k 0 ≡ get_or ys k 0) → HasPointers xs ys → xs ≡ ys
same-blocks xs ys e few first pointers = same_lists xs ys e (λ k d l. get_or_default xs k d 0 l ∙ at k l ∙ get_or_default ys k 0 d (omega arith))
  where
    at : (k : ℕ) → k < length xs → get_or xs k 0 ≡ get_or ys k 0
    at k l = elim (cases_lt k 12) [
      | inl low ↦ first k low
      | inr high ↦
          let p = pointers (omega arith) in
          let i : 12 + (k - 12) ≡ k = omega arith in
          let small : k - 12 < 1024 = omega arith in
          ap (λ (j : ℕ). get_or xs j 0) (sym i) ∙ sym (p.1 (k - 12) small) ∙ p.2 (k - 12) small ∙ ap (λ (j : ℕ). get_or ys j 0) i
    ]

-- ---- the blocks of a body determine it

abbrev HasParts : Body → Body → List ℕ → Type 0
HasParts x y blocks = (place b : ℕ) → slice_get blocks place ≡ Some b → (page : List ℕ) × ShowsPart x place page × ShowsPart y place page

same-bytes : (xs ys blocks : List ℕ) → length xs ≡ length ys → length blocks ≡ blocks_for (length xs) → HasParts (File xs) (File ys) blocks → xs ≡ ys
same-bytes xs ys blocks e n parts = same_lists xs ys e (λ k d l. get_or_default xs k d 0 l ∙ at k l ∙ get_or_default ys k 0 d (omega arith))
  where
    at : (k : ℕ) → k < length xs → get_or xs k 0 ≡ get_or ys k 0
    at k l =
        let inside : k / 4096 < length blocks = omega arith in
        let p = parts (k / 4096) (get_or blocks (k / 4096) 0) (slice_get-get_or blocks (k / 4096) 0 inside) in
        let i : 4096 * (k / 4096) + k % 4096 ≡ k = omega arith in
        let small : k % 4096 < 4096 = omega arith in
        ap (λ (j : ℕ). get_or xs j 0) (sym i) ∙ sym (p.1 (k % 4096) small) ∙ p.2 (k % 4096) small ∙ ap (λ (j : ℕ). get_or ys j 0) i

same-slots : (r t : List (Option Entry)) (blocks : List ℕ) → length r ≡ 15 * length blocks → length t ≡ 15 * length blocks → HasParts (Dir r) (Dir t) blocks → r ≡ t
same-slots r t blocks n m parts = same_lists r t (n ∙ sym m) (λ k d l. get_or_default r k d None l ∙ at k l ∙ get_or_default t k None d (omega arith))
  where
    at : (k : ℕ) → k < length r → get_or r k None ≡ get_or t k None
    at k l =
        let inside : k / 15 < length blocks = omega arith in
        let p = parts (k / 15) (get_or blocks (k / 15) 0) (slice_get-get_or blocks (k / 15) 0 inside) in
        let i : 15 * (k / 15) + k % 15 ≡ k = omega arith in
        let small : k % 15 < 15 = omega arith in
        ap (λ (j : ℕ). get_or r j None) (sym i) ∙ slot-once p.0 (k % 15) _ _ (p.1.0 (k % 15) small) (p.2.0 (k % 15) small) ∙ ap (λ (j : ℕ). get_or t j None) i

same-body : (x y : Body) (blocks : List ℕ) → IsBody x (length blocks) → IsBody y (length blocks) → kind_of x ≡ kind_of y → size_of x (length blocks) ≡ size_of y (length blocks) → HasParts x y blocks → x ≡ y
same-body Free Free blocks g h k s parts = refl
same-body Free (File ys) blocks g h k s parts = absurd (omega arith)
same-body Free (Dir t) blocks g h k s parts = absurd (omega arith)
same-body (File xs) Free blocks g h k s parts = absurd (omega arith)
same-body (File xs) (File ys) blocks g h k s parts = ap (λ (z : List ℕ). File z) (same-bytes xs ys blocks s g.1 parts)
same-body (File xs) (Dir t) blocks g h k s parts = absurd (omega arith)
same-body (Dir r) Free blocks g h k s parts = absurd (omega arith)
same-body (Dir r) (File ys) blocks g h k s parts = absurd (omega arith)
same-body (Dir r) (Dir t) blocks g h k s parts = ap (λ (z : List (Option Entry)). Dir z) (same-slots r t blocks g.1 h.1 parts)

-- ---- an inode of two volumes on a map

pub node-parts : (n m : Node) → n.body ≡ m.body → n.blocks ≡ m.blocks → n.indirect ≡ m.indirect → n.links ≡ m.links → n ≡ m
node-parts n m e f h i =
    ap (λ (b : Body). record { body = b; blocks = n.blocks; indirect = n.indirect; links = n.links }) e
    ∙ ap (λ (xs : List ℕ). record { body = m.body; blocks = xs; indirect = n.indirect; links = n.links }) f
    ∙ ap (λ (o : Option ℕ). record { body = m.body; blocks = m.blocks; indirect = o; links = n.links }) h
    ∙ ap (λ (k : ℕ). record { body = m.body; blocks = m.blocks; indirect = m.indirect; links = k }) i

-- the block of the table in which an inode stands
pub table-shows : (g : Geometry) (map : Map) (v : Volume) (block : ℕ) → IsLaid g map v → table_first g + block < meta_of g → (page : List ℕ) × (map (table_first g + block) ≡ Some page) × ShowsTable v block page
table-shows g map v block laid low =
    let b = table_first g + block in
    let some = some-of (map b) (λ none. let z = (laid.vacant b none).0 in absurd (omega arith)) in
    let shown = laid.shown b some.0 some.1 in
    (some.0, some.1, subst (λ r. ShowsRegion g v b r some.0) (region-table g block low) shown.1)

inodes-same : (g : Geometry) (map : Map) (v w : Volume) (i : ℕ) → IsLaid g map v → IsLaid g map w → i < inodes_of g → inode_of (node v i) ≡ inode_of (node w i)
inodes-same g map v w i laid too low =
    let h = table-holds g i low in
    let p = table-shows g map v (i / 32) laid h in
    let q = table-shows g map w (i / 32) too h in
    let same : q.0 ≡ p.0 = let f = sym q.1 ∙ p.1 in cc in
    let small : i % 32 < 32 = omega arith in
    let e : 32 * (i / 32) + i % 32 ≡ i = omega arith in
    let left : ShowsInode p.0 (i % 32) (inode_of (node v i)) = subst (λ j. ShowsInode p.0 (i % 32) (inode_of (node v j))) e (p.2 (i % 32) small) in
    let right : ShowsInode q.0 (i % 32) (inode_of (node w i)) = subst (λ j. ShowsInode q.0 (i % 32) (inode_of (node w j))) e (q.2 (i % 32) small) in
    inode-once p.0 (i % 32) _ _ left (subst (λ page. ShowsInode page (i % 32) (inode_of (node w i))) same right)

nodes-same : (g : Geometry) (map : Map) (v w : Volume) (i : ℕ) → IsLaid g map v → IsLaid g map w → i < inodes_of g → node v i ≡ node w i
nodes-same g map v w i laid too low =
    let n = node v i in
    let m = node w i in
    let good = laid.sound.nodes i in
    let fine = too.sound.nodes i in
    let a = alike n m good fine (inodes-same g map v w i laid too low) in
    let pointers : HasPointers n.blocks m.blocks = λ many.
    let x = some-when n.indirect (good.indirect ∙ lt-ltb 12 (length n.blocks) many) in
    let s = both-show g map v w (Pointers i) x.0 laid too x.1 (sym a.indirect ∙ x.1) in
    (s.page, s.left, s.right) in
    let blocks = same-blocks n.blocks m.blocks a.count (body-few n.body (length n.blocks) good.body) a.first pointers in
    let parts : HasParts n.body m.body n.blocks = λ place b e.
    let s = both-show g map v w (Part i place) b laid too e (ap (λ (xs : List ℕ). slice_get xs place) (sym blocks) ∙ e) in
    (s.page, s.left, s.right) in
    let fits : IsBody m.body (length n.blocks) = subst (λ c. IsBody m.body c) (sym a.count) fine.body in
    let sizes : size_of n.body (length n.blocks) ≡ size_of m.body (length n.blocks) = a.sizes ∙ ap (λ (c : ℕ). size_of m.body c) (sym a.count) in
    node-parts n m (same-body n.body m.body n.blocks good.body fits a.kinds sizes parts) blocks a.indirect a.links

pub volume-once : (g : Geometry) (map : Map) (v w : Volume) → IsLaid g map v → IsLaid g map w → v ≡ w
volume-once g map v w laid too =
    same_lists v w (laid.sound.count ∙ sym too.sound.count) (λ k d l.
    let low : k < inodes_of g = let c = laid.sound.count in omega arith in
    get_or_default v k d free_node l ∙ nodes-same g map v w k laid too low ∙ get_or_default w k free_node d (let c = laid.sound.count in let e = too.sound.count in omega arith))

pub laid-once : (g : Geometry) (map : Map) (t u : Things) (a c : Layout) → Laid g map t a → Laid g map u c → (path : Path) → (t path ≡ u path) × (a path ≡ c path)
laid-once g map t u a c x y path =
    let same = volume-once g map x.volume y.volume x.laid y.laid in
    (x.things path ∙ ap (λ (v : Volume). tree v path) same ∙ sym (y.things path), x.places path ∙ ap (λ (v : Volume). layout v path) same ∙ sym (y.places path))
