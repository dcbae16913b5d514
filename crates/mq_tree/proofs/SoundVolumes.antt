-- Volumes that keep their form: an entry more or less in a directory, a new inode, one less, and a file
-- with other bytes.
use Rattle.std.proofs.Common.{get_or, set, ◌≡◌, ◌≢◌, ℕ, suc, ◌+◌, ◌<◌, ◌≤◌, inl, inr, List, ◌∷◌, ◌++◌, length, replicate, true, refl, sym, ap, subst, ◌∙◌, arith, length-set, length-append}
use Rattle.std.specs.Prelude.{Option, Some, None, slice_get}
use Rattle.std.proofs.lemmas.Bool.{cases_eq, cases_lt, true≢false}
use Rattle.std.proofs.lemmas.List.{get_or_past}
use Rattle.std.proofs.lemmas.Option.{none-some}
use Rattle.mq_blocks.specs.Geometry.{queues_of}
use Rattle.mq_blocks.specs.declared.geometry.Geometry.{Geometry}
use Rattle.mq_layout.specs.Places.{names_limit}
use Rattle.mq_layout.specs.Slots.{Entry, IsEntry}
use Rattle.mq_tree.specs.Free.{free_blocks, grown, needs}
use Rattle.mq_tree.specs.Requests.{count_names, entry_needs, link_needs, linked, linked_at, unused, with_body}
use Rattle.mq_tree.specs.Links.{AreCounted, HasLinks}
use Rattle.mq_tree.specs.Sound.{IsBody, IsNode, IsSound}
use Rattle.mq_tree.specs.Volume.{ADir, AFile, Body, Free, File, Dir, Node, Volume, body, free_node, is_used, node, Part, Pointers, slot, slots_of, thing}
use Rattle.mq_tree.proofs.RequestsNodes.{Linked, linked-entries, linked-more, linked-set, unused-none}
use Rattle.mq_tree.proofs.VolumePaths.{IsTree, thing-used}
use Rattle.mq_tree.proofs.FreeUses.{IsWithin, grown-is, links-set, node-here, node-other, uses-within}
use Rattle.mq_tree.specs.Uses.{AreUses}

-- ---- the parts of a sound volume

-- what holds of the inodes and their blocks
pub record AreNodes (g : Geometry) (v : Volume) : Type 0 where
  pub nodes : (i : ℕ) → IsNode (node v i)
  pub uses : AreUses g v

pub sound-tree : (g : Geometry) (v : Volume) → IsSound g v → IsTree v
sound-tree g v s = record { root = ap (λ (b : Body). thing b) s.root.1; named = s.named; once = s.once; names = s.names; reached = s.reached }

pub sound-nodes : (g : Geometry) (v : Volume) → IsSound g v → AreNodes g v
sound-nodes g v s = record { nodes = s.nodes; uses = record { zones = s.zones; apart = s.apart; links = λ i. (s.nodes i).links } }

-- a thing that is a directory has slots
pub dir-slots : (b : Body) → thing b ≡ Some ADir → (slots : List (Option Entry)) × (b ≡ Dir slots)
dir-slots Free e = absurd (none-some _ e)
dir-slots (File bytes) e = absurd (file-dir bytes e)
  where
    file-dir : (bytes : List ℕ) → Some (AFile bytes) ≡ Some ADir → ⊥
    file-dir bytes e = cc
dir-slots (Dir slots) e = (slots, refl)

pub volume-sound : (g : Geometry) (v w : Volume) → IsSound g v → length w ≡ length v → IsTree w → AreNodes g w → AreCounted w → IsSound g w
volume-sound g v w s size t n c = record {
  count = size ∙ s.count;
  nodes = n.nodes;
  root = dir-slots (body w 0) t.root;
  zones = n.uses.zones;
  apart = n.uses.apart;
  named = t.named;
  once = t.once;
  names = t.names;
  reached = t.reached;
  counted = c;
}

-- a used inode is one of the volume
pub used-low : (v : Volume) (i : ℕ) → is_used (body v i) ≡ true → i < length v
used-low v i u = elim (cases_lt i (length v)) [
  | inl low ↦ low
  | inr past ↦ absurd (true≢false (sym u ∙ ap (λ (n : Node). is_used n.body) (get_or_past v i free_node past)))
]

-- ---- one inode is changed

-- the body of `d` is `b`, and those of the others are as they were
pub record Bodies (v w : Volume) (d : ℕ) (b : Body) : Type 0 where
  pub here : body w d ≡ b
  pub rest : (x : ℕ) → x ≢ d → body w x ≡ body v x

pub bodies-set : (v : Volume) (i : ℕ) (n : Node) → i < length v → Bodies v (set v i n) i n.body
bodies-set v i n l = record { here = ap (λ (m : Node). m.body) (node-here v i n l); rest = λ x other. ap (λ (m : Node). m.body) (node-other v i x n other) }

pub nodes-set : (v : Volume) (i : ℕ) (n : Node) → i < length v → ((x : ℕ) → x ≢ i → IsNode (node v x)) → IsNode n → (x : ℕ) → IsNode (node (set v i n) x)
nodes-set v i n l good fine x = elim (cases_eq x i) [
  | inl same ↦ subst (λ m. IsNode m) (sym (ap (λ (y : ℕ). node (set v i n) y) same ∙ node-here v i n l)) fine
  | inr other ↦ subst (λ m. IsNode m) (sym (node-other v i x n other)) (good x other)
]

-- nodes in their form that use nothing new
pub nodes-with : (g : Geometry) (v w : Volume) → AreUses g v → ((x : ℕ) → IsNode (node w x)) → IsWithin w v → AreNodes g w
nodes-with g v w uses nodes within = record { nodes = nodes; uses = uses-within g v w uses within (λ x. (nodes x).links) }

-- its blocks are some of those that it had
pub record FewerBlocks (n m : Node) : Type 0 where
  pub blocks : (k b : ℕ) → slice_get n.blocks k ≡ Some b → slice_get m.blocks k ≡ Some b
  pub pointers : (b : ℕ) → n.indirect ≡ Some b → m.indirect ≡ Some b

pub within-set : (v : Volume) (i : ℕ) (n : Node) → i < length v → FewerBlocks n (node v i) → IsWithin (set v i n) v
within-set v i n l few (Part j k) b e = elim (cases_eq j i) [
  | inl same ↦
      let h : slice_get n.blocks k ≡ Some b = ap (λ (m : Node). slice_get m.blocks k) (sym (node-here v i n l)) ∙ ap (λ (y : ℕ). slice_get (node (set v i n) y).blocks k) (sym same) ∙ e in
      ap (λ (y : ℕ). slice_get (node v y).blocks k) same ∙ few.blocks k b h
  | inr other ↦ ap (λ (m : Node). slice_get m.blocks k) (sym (node-other v i j n other)) ∙ e
]
within-set v i n l few (Pointers j) b e = elim (cases_eq j i) [
  | inl same ↦
      let h : n.indirect ≡ Some b = ap (λ (m : Node). m.indirect) (sym (node-here v i n l)) ∙ ap (λ (y : ℕ). (node (set v i n) y).indirect) (sym same) ∙ e in
      ap (λ (y : ℕ). (node v y).indirect) same ∙ few.pointers b h
  | inr other ↦ ap (λ (m : Node). m.indirect) (sym (node-other v i j n other)) ∙ e
]

-- slots and things where a directory has other slots
pub record Slotted (v w : Volume) (d : ℕ) (new : List (Option Entry)) : Type 0 where
  pub here : (l : ℕ) → slot w d l ≡ get_or new l None
  pub rest : (x l : ℕ) → x ≢ d → slot w x l ≡ slot v x l
  pub things : (x : ℕ) → thing (body w x) ≡ thing (body v x)

pub slotted : (v w : Volume) (d : ℕ) (slots new : List (Option Entry)) → body v d ≡ Dir slots → Bodies v w d (Dir new) → Slotted v w d new
slotted v w d slots new was h = record {
  here = λ l. ap (λ (b : Body). get_or (slots_of b) l None) h.here;
  rest = λ x l other. ap (λ (b : Body). get_or (slots_of b) l None) (h.rest x other);
  things = λ x. elim (cases_eq x d) [
    | inl same ↦ ap (λ (y : ℕ). thing (body w y)) same ∙ ap (λ (b : Body). thing b) (h.here) ∙ sym (ap (λ (y : ℕ). thing (body v y)) same ∙ ap (λ (b : Body). thing b) was)
    | inr other ↦ ap (λ (b : Body). thing b) (h.rest x other)
  ];
}

-- the slots of a directory, and those of another inode
pub slot-in : (v : Volume) (d l : ℕ) (slots : List (Option Entry)) → body v d ≡ Dir slots → slot v d l ≡ get_or slots l None
slot-in v d l slots is = ap (λ (b : Body). get_or (slots_of b) l None) is

pub dir-node : (n : Node) (slots : List (Option Entry)) → n.body ≡ Dir slots → IsNode n → IsBody (Dir slots) (length n.blocks)
dir-node n slots is good = subst (λ b. IsBody b (length n.blocks)) is good.body

-- a directory has one link
pub dir-links : (n : Node) (slots : List (Option Entry)) → n.body ≡ Dir slots → IsNode n → n.links ≡ 1
dir-links n slots is good = subst (λ b. HasLinks b n.links) is good.links

-- ---- an entry more

pub record IsLinked (g : Geometry) (v w : Volume) (d : ℕ) (e : Entry) : Type 0 where
  pub place : ℕ
  pub was : slot v d place ≡ None
  pub here : slot w d place ≡ Some e
  pub rest : (x l : ℕ) → (x ≡ d → l ≡ place → ⊥) → slot w x l ≡ slot v x l
  pub things : (x : ℕ) → thing (body w x) ≡ thing (body v x)
  pub links : (x : ℕ) → (node w x).links ≡ (node v x).links
  pub size : length w ≡ length v
  pub nodes : AreNodes g w

linked-slots : (g : Geometry) (v w : Volume) (d : ℕ) (e : Entry) (slots new : List (Option Entry)) → body v d ≡ Dir slots → Bodies v w d (Dir new) → Linked slots new e → length w ≡ length v → AreNodes g w → ((x : ℕ) → (node w x).links ≡ (node v x).links) → IsLinked g v w d e
linked-slots g v w d e slots new was bodies h size nodes links =
    let s = slotted v w d slots new was bodies in
    record {
      place = h.place;
      was = slot-in v d h.place slots was ∙ h.was;
      here = s.here h.place ∙ h.here;
      rest = λ x l other. elim (cases_eq x d) [
        | inl same ↦
            ap (λ (y : ℕ). slot w y l) same ∙ s.here l ∙ h.rest l (λ e. other same e) ∙ sym (ap (λ (y : ℕ). slot v y l) same ∙ slot-in v d l slots was)
        | inr apart ↦ s.rest x l apart
      ];
      things = s.things;
      links = links;
      size = size;
      nodes = nodes;
    }

-- in a slot that was unused
linked-here : (g : Geometry) (q : ℕ) (v : Volume) (d k : ℕ) (e : Entry) (slots : List (Option Entry)) → d < length v → body v d ≡ Dir slots → AreNodes g v → IsEntry e → unused 0 slots ≡ Some k
    → IsLinked g v (with_body v d (Dir (set slots k (Some e)))) d e
linked-here g q v d k e slots l was good fine is =
    let n : Node = record { body = Dir (set slots k (Some e)); blocks = (node v d).blocks; indirect = (node v d).indirect; links = (node v d).links } in
    let h = linked-set slots k e is in
    let b = dir-node (node v d) slots was (good.nodes d) in
    let form : IsNode n = record { body = (b.0, length-set slots k (Some e) ∙ b.1, linked-entries slots (set slots k (Some e)) e b.2 fine h); indirect = (good.nodes d).indirect; links = dir-links (node v d) slots was (good.nodes d) } in
    linked-slots g v (set v d n) d e slots (set slots k (Some e)) was (bodies-set v d n l) h (length-set v d n)
    (nodes-with g v (set v d n) good.uses (nodes-set v d n l (λ x other. good.nodes x) form) (within-set v d n l (record { blocks = λ j c i. i; pointers = λ c i. i }))) (links-set v d n l refl)

-- in the first slot of a new block
linked-new : (g : Geometry) (q : ℕ) (v : Volume) (d : ℕ) (e : Entry) (slots : List (Option Entry)) → q < queues_of g → d < length v → body v d ≡ Dir slots → AreNodes g v → IsEntry e → unused 0 slots ≡ None → count_names slots < names_limit
    → needs (length (node v d).blocks) (suc (length (node v d).blocks)) ≤ free_blocks g v → IsLinked g v (with_body (grown g q v d 1) d (Dir (slots ++ (Some e ∷ replicate 14 None)))) d e
linked-new g q v d e slots low l was good fine is few enough =
    let have = length (node v d).blocks in
    let more : suc have ≡ have + 1 = omega arith in
    let u = grown g q v d 1 in
    let r = grown-is g q v d 1 low l good.uses (good.nodes d).indirect (subst (λ k. needs have k ≤ free_blocks g v) more enough) in
    let size = r.size in
    let new = slots ++ (Some e ∷ replicate 14 None) in
    let n : Node = record { body = Dir new; blocks = (node u d).blocks; indirect = (node u d).indirect; links = (node u d).links } in
    let h = linked-more slots 14 e in
    let b = dir-node (node v d) slots was (good.nodes d) in
    let all = unused-none 0 slots is in
    let room = b.1 in
    let longer = r.longer in
    let low_u : d < length u = omega arith in
    let length_new : length new ≡ length slots + 15 = length-append slots (Some e ∷ replicate 14 None) in
    let form : IsNode n = record { body = (omega arith, omega arith, linked-entries slots new e b.2 fine h); indirect = r.indirect; links = r.links d ∙ dir-links (node v d) slots was (good.nodes d) } in
    let set_bodies = bodies-set u d n low_u in
    linked-slots g v (set u d n) d e slots new was (record { here = set_bodies.here; rest = λ x other. set_bodies.rest x other ∙ r.bodies x }) h (length-set u d n ∙ r.size)
    (nodes-with g u (set u d n) r.uses (nodes-set u d n low_u (λ x other. subst (λ m. IsNode m) (sym (r.rest x other)) (good.nodes x)) form) (within-set u d n low_u (record { blocks = λ j c i. i; pointers = λ c i. i }))) (λ x. links-set u d n low_u refl x ∙ r.links x)

pub linked-is : (g : Geometry) (q : ℕ) (v : Volume) (d : ℕ) (e : Entry) → q < queues_of g → thing (body v d) ≡ Some ADir → AreNodes g v → IsEntry e → count_names (slots_of (body v d)) < names_limit → link_needs (node v d) ≤ free_blocks g v
    → IsLinked g v (linked g q v d e) d e
linked-is g q v d e low is good fine few enough = go (unused 0 (slots_of (body v d))) refl
  where
    go : (o : Option ℕ) → unused 0 (slots_of (body v d)) ≡ o → IsLinked g v (linked g q v d e) d e
    go (Some k) f =
        let s = dir-slots (body v d) is in
        let same : slots_of (body v d) ≡ s.0 = ap (λ (b : Body). slots_of b) s.1 in
        let l = used-low v d (thing-used (body v d) ADir is) in
        subst (λ p. IsLinked g v (linked_at g q v d e p) d e) (sym f)
        (subst (λ xs. IsLinked g v (with_body v d (Dir (set xs k (Some e)))) d e) (sym same) (linked-here g q v d k e s.0 l s.1 good fine (ap (λ (xs : List (Option Entry)). unused 0 xs) (sym same) ∙ f)))
    go None f =
        let s = dir-slots (body v d) is in
        let same : slots_of (body v d) ≡ s.0 = ap (λ (b : Body). slots_of b) s.1 in
        let l = used-low v d (thing-used (body v d) ADir is) in
        let h = ap (λ (p : Option ℕ). entry_needs (length (node v d).blocks) p) f in
        subst (λ p. IsLinked g v (linked_at g q v d e p) d e) (sym f)
        (subst (λ xs. IsLinked g v (with_body (grown g q v d 1) d (Dir (xs ++ (Some e ∷ replicate 14 None)))) d e) (sym same)
        (linked-new g q v d e s.0 low l s.1 good fine (ap (λ (xs : List (Option Entry)). unused 0 xs) (sym same) ∙ f) (subst (λ xs. count_names xs < names_limit) same few) (omega arith)))
