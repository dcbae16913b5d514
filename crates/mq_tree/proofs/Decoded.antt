-- What blocks say, number by number.
use Rattle.std.proofs.Common.{get_or, ◌≡◌, ℕ, zero, suc, ◌+◌, ◌-◌, ◌*◌, ◌<◌, ◌≤◌, List, [], ◌∷◌, length, Bool, true, cond, refl, sym, ap, ◌∙◌, arith, inl, inr}
use Rattle.std.specs.Prelude.{Option, Some, None, nat_eq, nat_lt, slice_get, slice_index}
use Rattle.std.proofs.lemmas.Bool.{cases_Bool, cases_lt, eq-eqb, eqb-true, le-ltb, lt-ltb, ltb-true, ne_eqb, or_cases, true≢false}
use Rattle.std.proofs.lemmas.List.{get_or_past}
use Rattle.std.proofs.lemmas.List.FromFn.{get_or-map-range_with_len, length-map-range_with_len}
use Rattle.std.proofs.lemmas.Option.{slice_get-get_or, slice_get_within, cond_some}
use Rattle.mq_blocks.specs.Blocks.{block_at}
use Rattle.mq_blocks.specs.Journal.{is_among}
use Rattle.mq_blocks.specs.declared.geometry.Geometry.{Geometry}
use Rattle.mq_layout.specs.Bits.{pointer_of}
use Rattle.mq_layout.specs.Inodes.{ShowsInode, inode_at, wrong_inode}
use Rattle.mq_layout.specs.Places.{inodes_of}
use Rattle.mq_layout.specs.Slots.{Entry, ShowsSlot, wrong_slot}
use Rattle.mq_layout.specs.declared.inode.Inode.{Inode}
use Rattle.mq_layout.proofs.InodesForms.{inode-right, says-inode_at, shown-says}
use Rattle.mq_layout.proofs.SlotsForms.{shown-unused, shown-used}
use Rattle.mq_tree.specs.Decoded.{Stored, body_of, count_of, entry_of, byte_of, inodes_in, node_of, part, pointer_to, slot_of, table_of, the_inode, volume_in}
use Rattle.mq_tree.specs.Volume.{Free, File, Dir, Node, Volume, Use, Part, Pointers, block_in, body, free_node, has_block, is_block, is_taken, node}

-- ---- tables

pub length-table : {X : Type 0} (n : ℕ) (f : ℕ → X) → length (table_of n f) ≡ n
length-table n f = length-map-range_with_len f 0 n

pub table-at : {X : Type 0} (n : ℕ) (f : ℕ → X) (k : ℕ) (d : X) → k < n → get_or (table_of n f) k d ≡ f k
table-at n f k d l = get_or-map-range_with_len f 0 n k k d l (omega arith)

pub table-past : {X : Type 0} (n : ℕ) (f : ℕ → X) (k : ℕ) (d : X) → n ≤ k → get_or (table_of n f) k d ≡ d
table-past n f k d l = get_or_past (table_of n f) k d (let e = length-table n f in omega arith)

pub table-get : {X : Type 0} (n : ℕ) (f : ℕ → X) (k : ℕ) → k < n → slice_get (table_of n f) k ≡ Some (f k)
table-get n f k l = slice_get-get_or (table_of n f) k (f k) (let e = length-table n f in omega arith) ∙ ap (λ x. Some x) (table-at n f k (f k) l)

-- what stands in a table at a number
pub table-found : {X : Type 0} (n : ℕ) (f : ℕ → X) (k : ℕ) (x : X) → slice_get (table_of n f) k ≡ Some x → (k < n) × (f k ≡ x)
table-found n f k x e =
    let l = slice_get_within (table_of n f) k x e in
    let low : k < n = let m = length-table n f in omega arith in
    let g = sym (table-get n f k low) ∙ e in
    (low, cc)

-- ---- pointers

pub pointer-near : (s : Stored) (n : Inode) (k : ℕ) → k < 12 → pointer_to s n k ≡ slice_index n.direct k
unfolding pointer_to
pointer-near s n k l = let y = lt-ltb k 12 l in rw y refl

pub pointer-far : (s : Stored) (n : Inode) (k : ℕ) → 12 ≤ k → pointer_to s n k ≡ pointer_of (block_at s n.indirect) (k - 12)
unfolding pointer_to
pointer-far s n k l = let y = le-ltb k 12 l in rw y refl

-- ---- inodes and slots that are shown are those that are decoded

pub inode-decoded : (b : List ℕ) (at : ℕ) (n : Inode) → ShowsInode b at n → inode_at (128 * at) b ≡ n
inode-decoded b at n s = says-inode_at n (128 * at) b (shown-says n (128 * at) b s.0 s.1)

pub inode-not_wrong : (b : List ℕ) (at : ℕ) (n : Inode) → ShowsInode b at n → wrong_inode b at ≡ None
inode-not_wrong b at n s = ap (λ (i : Inode). Rattle.mq_layout.specs.Inodes.wrong_fields i (128 * at) b) (inode-decoded b at n s) ∙ inode-right n (128 * at) b s.0 s.1

pub slot-decoded : (b : List ℕ) (at : ℕ) (o : Option Entry) → ShowsSlot b at o → slot_of b at ≡ o
unfolding slot_of
slot-decoded b at None s = let y = eq-eqb _ 0 (shown-unused (272 * at) b s).0 in rw y refl
slot-decoded b at (Some e) s =
    let t = shown-used (272 * at) b e s.0 s.1 in
    let n = ne_eqb (get_or b (272 * at + 4) 0) 0 (λ z. let u = t.0 in omega arith) in
    ap (λ (c : Bool). cond c None (Some (Rattle.mq_tree.specs.Decoded.entry_at b (272 * at)))) n ∙ ap (λ (x : Entry). Some x) t.2

pub slot-not_wrong : (b : List ℕ) (at : ℕ) (o : Option Entry) → ShowsSlot b at o → wrong_slot b at ≡ None
slot-not_wrong b at None s = (shown-unused (272 * at) b s).1
slot-not_wrong b at (Some e) s = (shown-used (272 * at) b e s.0 s.1).1

-- ---- inodes of the volume

pub node-in : (g : Geometry) (s : Stored) (i : ℕ) → i < inodes_of g → node (volume_in g s) i ≡ node_of s (the_inode g s i)
unfolding volume_in
node-in g s i l = table-at (inodes_of g) (λ i. node_of s (the_inode g s i)) i free_node l

pub node-past : (g : Geometry) (s : Stored) (i : ℕ) → inodes_of g ≤ i → node (volume_in g s) i ≡ free_node
unfolding volume_in
node-past g s i l = table-past (inodes_of g) (λ i. node_of s (the_inode g s i)) i free_node l

pub length-volume : (g : Geometry) (s : Stored) → length (volume_in g s) ≡ inodes_of g
unfolding volume_in
length-volume g s = length-table (inodes_of g) (λ i. node_of s (the_inode g s i))

pub body-in : (g : Geometry) (s : Stored) (i : ℕ) → i < inodes_of g → body (volume_in g s) i ≡ body_of s (the_inode g s i)
body-in g s i l = ap (λ (n : Node). n.body) (node-in g s i l)

pub body-file : (s : Stored) (n : Inode) → n.kind ≡ 1 → body_of s n ≡ File (table_of n.size (byte_of s n))
unfolding body_of
body-file s n e = rw e refl

pub body-dir : (s : Stored) (n : Inode) → n.kind ≡ 2 → body_of s n ≡ Dir (table_of (15 * count_of n) (entry_of s n))
unfolding body_of
body-dir s n e = rw e refl

pub body-free : (s : Stored) (n : Inode) → n.kind ≡ 0 → body_of s n ≡ Free
unfolding body_of
body-free s n e = rw e refl

-- ---- uses of the volume

-- the block of an inode's content at this place
pub record IsPart (g : Geometry) (s : Stored) (i k b : ℕ) : Type 0 where
  pub low : i < inodes_of g
  pub inside : k < count_of (the_inode g s i)
  pub is : pointer_to s (the_inode g s i) k ≡ b

-- the block of its pointers
pub record IsIndirect (g : Geometry) (s : Stored) (i b : ℕ) : Type 0 where
  pub low : i < inodes_of g
  pub many : 12 < count_of (the_inode g s i)
  pub is : (the_inode g s i).indirect ≡ b

pub part-found : (g : Geometry) (s : Stored) (i k b : ℕ) → block_in (volume_in g s) (Part i k) ≡ Some b → IsPart g s i k b
part-found g s i k b e = elim (cases_lt i (inodes_of g)) [
  | inl low ↦
      let f : slice_get (node_of s (the_inode g s i)).blocks k ≡ Some b = ap (λ (n : Node). slice_get n.blocks k) (sym (node-in g s i low)) ∙ e in
      let t = table-found (count_of (the_inode g s i)) (pointer_to s (the_inode g s i)) k b f in
      record { low = low; inside = t.0; is = t.1 }
  | inr past ↦ let f : None ≡ Some b = ap (λ (n : Node). slice_get n.blocks k) (sym (node-past g s i past)) ∙ e in absurd (cc)
]

pub part-is : (g : Geometry) (s : Stored) (i k b : ℕ) → IsPart g s i k b → block_in (volume_in g s) (Part i k) ≡ Some b
part-is g s i k b p = ap (λ (n : Node). slice_get n.blocks k) (node-in g s i p.low) ∙ table-get (count_of (the_inode g s i)) (pointer_to s (the_inode g s i)) k p.inside ∙ ap (λ (x : ℕ). Some x) p.is

pub indirect-found : (g : Geometry) (s : Stored) (i b : ℕ) → block_in (volume_in g s) (Pointers i) ≡ Some b → IsIndirect g s i b
indirect-found g s i b e = elim (cases_lt i (inodes_of g)) [
  | inl low ↦
      let f : (node_of s (the_inode g s i)).indirect ≡ Some b = ap (λ (n : Node). n.indirect) (sym (node-in g s i low)) ∙ e in
      let t = cond_some (nat_lt 12 (count_of (the_inode g s i))) (the_inode g s i).indirect b f in
      record { low = low; many = ltb-true 12 _ t.0; is = t.1 }
  | inr past ↦ let f : None ≡ Some b = ap (λ (n : Node). n.indirect) (sym (node-past g s i past)) ∙ e in absurd (cc)
]

pub indirect-is : (g : Geometry) (s : Stored) (i b : ℕ) → IsIndirect g s i b → block_in (volume_in g s) (Pointers i) ≡ Some b
indirect-is g s i b p =
    let y = lt-ltb 12 (count_of (the_inode g s i)) p.many in
    ap (λ (n : Node). n.indirect) (node-in g s i p.low) ∙ ap (λ (c : Bool). cond c (Some (the_inode g s i).indirect) None) y ∙ ap (λ (x : ℕ). Some x) p.is

-- what is taken is used
among-found : (xs : List ℕ) (b : ℕ) → is_among b xs ≡ true → (k : ℕ) × (slice_get xs k ≡ Some b)
among-found [] b e = absurd (true≢false (sym e))
among-found (x ∷ xs) b e = elim (cases_Bool (nat_eq x b)) [
  | inl y ↦ (zero, ap (λ (n : ℕ). Some n) (eqb-true x b y))
  | inr n ↦ let r = among-found xs b (ap (λ (c : Bool). cond c true (is_among b xs)) (sym n) ∙ e) in (suc r.0, r.1)
]

block-found : (o : Option ℕ) (b : ℕ) → is_block b o ≡ true → o ≡ Some b
block-found None b e = absurd (true≢false (sym e))
block-found (Some x) b e = ap (λ (n : ℕ). Some n) (eqb-true x b e)

has-found : (v : Volume) (b : ℕ) → is_taken v b ≡ true → (i : ℕ) × (has_block (node v i) b ≡ true)
has-found [] b e = absurd (true≢false (sym e))
has-found (n ∷ v) b e = elim (or_cases (has_block n b) (is_taken v b) e) [
  | inl h ↦ (zero, h)
  | inr t ↦ let r = has-found v b t in (suc r.0, r.1)
]

pub taken-use : (v : Volume) (b : ℕ) → is_taken v b ≡ true → (u : Use) × (block_in v u ≡ Some b)
taken-use v b e =
    let h = has-found v b e in
    elim (or_cases (is_among b (node v h.0).blocks) (is_block b (node v h.0).indirect) h.1) [
      | inl m ↦ let r = among-found (node v h.0).blocks b m in (Part h.0 r.0, r.1)
      | inr o ↦ (Pointers h.0, block-found (node v h.0).indirect b o)
    ]
