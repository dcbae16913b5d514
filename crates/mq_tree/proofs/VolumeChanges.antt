-- What the changes of a volume come to: a new inode with its entry, one that is gone, an entry that moves,
-- other bytes.
use Rattle.std.proofs.Common.{get_or, set, ◌≡◌, ◌≢◌, ℕ, zero, suc, ◌+◌, ◌-◌, ◌^◌, ◌<◌, ◌≤◌, inl, inr, List, [], ◌∷◌, ◌++◌, length, take, Bool, true, false, cond, refl, sym, ap, subst, ◌∙◌, arith, length-set}
use Rattle.std.specs.Prelude.{Option, Some, None, is_some, nat_lt, slice_get, if◌then◌else◌}
use Rattle.std.proofs.lemmas.Bool.{cases_Bool, cases_eq, cases_lt, le-leb, le-ltb, lt-leb, lt-ltb, true≢false}
use Rattle.std.proofs.lemmas.List.{length-take-le}
use Rattle.std.proofs.lemmas.Option.{none-some, same_Some}
use Rattle.mq_blocks.specs.Geometry.{queues_of}
use Rattle.mq_blocks.specs.declared.geometry.Geometry.{Geometry}
use Rattle.mq_layout.specs.Names.{IsName}
use Rattle.mq_layout.specs.Places.{file_limit, inodes_of, names_limit}
use Rattle.mq_layout.specs.Slots.{Entry, IsEntry}
use Rattle.mq_tree.specs.Free.{first_free, free_blocks, grown, needs}
use Rattle.mq_tree.specs.Links.{HasLinks, links_to, names}
use Rattle.mq_tree.specs.Requests.{cleared, count_names, freed, link_needs, linked, links_limit, resized, unlinked, with_links}
use Rattle.mq_tree.specs.Sound.{AreBytes, IsBody, IsNode, blocks_for}
use Rattle.mq_tree.specs.Volume.{ADir, AFile, Body, Free, File, Dir, Node, Thing, Volume, Way, body, find, free_node, inode_at, is_used, node, slot, slots_of, thing}
use Rattle.mq_tree.proofs.Counting.{file-is, links-more, links-some, names-it}
use Rattle.mq_tree.proofs.VolumeCut.{IsCut, IsDropped, IsFilled}
use Rattle.mq_tree.proofs.VolumeMake.{IsMade, WasThere, file, free-slot, nothing}
use Rattle.mq_tree.proofs.VolumeMove.{IsMoved}
use Rattle.mq_tree.proofs.RequestsNodes.{cleared-count, cleared-entries, cleared-is, cleared-length, count-most}
use Rattle.mq_tree.proofs.VolumePaths.{cases-slot, file-dir, thing-used}
use Rattle.mq_tree.proofs.FreeUses.{IsWithin, free-within, grown-is, links-set, node-here, node-other}
use Rattle.mq_tree.proofs.SoundVolumes.{AreNodes, IsLinked, bodies-set, dir-links, dir-node, dir-slots, linked-is, nodes-set, nodes-with, slot-in, slotted, used-low, within-set}

-- ---- a new inode

record FirstFree (v : Volume) (j i : ℕ) : Type 0 where
  place : ℕ
  is : i ≡ j + place
  low : place < length v
  free : is_used (body v place) ≡ false

first-is : (j : ℕ) (v : Volume) (i : ℕ) → first_free j v ≡ Some i → FirstFree v j i
first-is j [] i e = absurd (none-some i e)
first-is j (n ∷ v) i e = elim (cases_Bool (is_used n.body)) [
  | inl y ↦
      let r = first-is (suc j) v i (ap (λ (b : Bool). cond b (first_free (suc j) v) (Some j)) (sym y) ∙ e) in
      let is = r.is in
      let low = r.low in
      record { place = suc r.place; is = omega arith; low = omega arith; free = r.free }
  | inr unused ↦
      let same = same_Some j i (ap (λ (b : Bool). cond b (first_free (suc j) v) (Some j)) (sym unused) ∙ e) in
      record { place = zero; is = omega arith; low = omega arith; free = unused }
]

free-nothing : (b : Body) → is_used b ≡ false → thing b ≡ None
free-nothing Free e = refl
free-nothing (File bytes) e = absurd (true≢false e)
free-nothing (Dir slots) e = absurd (true≢false e)

-- the least free inode is one of the volume
pub first-free : (v : Volume) (i : ℕ) → first_free 0 v ≡ Some i → (i < length v) × (thing (body v i) ≡ None)
first-free v i e =
    let r = first-is 0 v i e in
    let same : r.place ≡ i = let s = r.is in omega arith in
    let low = r.low in
    (omega arith, free-nothing (body v i) (ap (λ (j : ℕ). is_used (body v j)) (sym same) ∙ r.free))

-- a body without blocks and used slots
pub record IsNew (b : Body) (t : Thing) : Type 0 where
  pub thing_is : thing b ≡ Some t
  pub form : IsBody b 0
  pub empty : (l : ℕ) → get_or (slots_of b) l None ≡ None
  pub links : HasLinks b 1

-- an entry more, for an inode that was free, or a file, and has now this many links
pub record MakesEntry (g : Geometry) (v w : Volume) (d : ℕ) (e : Entry) (t : Thing) (links : ℕ) : Type 0 where
  pub place : ℕ
  pub made : IsMade v w d place e t
  pub links_here : (node w e.inode).links ≡ links
  pub links_rest : (x : ℕ) → x ≢ e.inode → (node w x).links ≡ (node v x).links
  pub size : length w ≡ length v
  pub nodes : AreNodes g w

abbrev pub with_new : Volume → ℕ → Body → Volume
with_new v i new = set v i (record { body = new; blocks = []; indirect = None; links = 1 })

-- `u` is `v` with a thing with these links
record HasNew (v u : Volume) (i : ℕ) (t : Thing) (links : ℕ) : Type 0 where
  links_here : (node u i).links ≡ links
  links_rest : (x : ℕ) → x ≢ i → (node u x).links ≡ (node v x).links
  slots : (x l : ℕ) → slot u x l ≡ slot v x l
  here : thing (body u i) ≡ Some t
  others : (x : ℕ) → x ≢ i → thing (body u x) ≡ thing (body v x)
  size : length u ≡ length v

new-slots : (v : Volume) (i : ℕ) (n : Node) (x j : ℕ) → i < length v → thing (body v i) ≡ None → get_or (slots_of n.body) j None ≡ None → slot (set v i n) x j ≡ slot v x j
new-slots v i n x j l free empty = elim (cases_eq x i) [
  | inl same ↦
      ap (λ (y : ℕ). slot (set v i n) y j) same ∙ ap (λ (m : Node). get_or (slots_of m.body) j None) (node-here v i n l) ∙ empty
      ∙ sym (ap (λ (y : ℕ). slot v y j) same ∙ free-slot v i j free)
  | inr other ↦ ap (λ (m : Node). get_or (slots_of m.body) j None) (node-other v i x n other)
]

new-linked : (g : Geometry) (v u w : Volume) (d : ℕ) (e : Entry) (t : Thing) (links : ℕ) → HasNew v u e.inode t links → WasThere v e.inode t → thing (body v d) ≡ Some ADir → find e.name (slots_of (body v d)) ≡ None → IsLinked g u w d e → MakesEntry g v w d e t links
new-linked g v u w d e t links new was dir missing k = record {
  links_here = k.links e.inode ∙ new.links_here;
  links_rest = λ x other. k.links x ∙ new.links_rest x other;
  place = k.place;
  made = record {
    edit = record {
      here = k.here;
      rest = λ x j other. k.rest x j other ∙ new.slots x j;
      thing_here = k.things e.inode ∙ new.here;
      things = λ x other. k.things x ∙ new.others x other;
    };
    unused = sym (new.slots d k.place) ∙ k.was;
    was = was;
    directory = dir;
    missing = missing;
  };
  size = k.size ∙ new.size;
  nodes = k.nodes;
}

pub made-is : (g : Geometry) (q : ℕ) (v : Volume) (new : Body) (t : Thing) (d i : ℕ) (name : List ℕ) → q < queues_of g → length v ≡ inodes_of g → AreNodes g v → IsNew new t
    → thing (body v d) ≡ Some ADir → find name (slots_of (body v d)) ≡ None → count_names (slots_of (body v d)) < names_limit → IsName name → first_free 0 v ≡ Some i → link_needs (node v d) ≤ free_blocks g v
    → MakesEntry g v (linked g q (with_new v i new) d (record { inode = i; name = name })) d (record { inode = i; name = name }) t 1
made-is g q v new t d i name low count good fresh dir missing few fine first enough =
    let f = first-free v i first in
    let l = f.0 in
    let n : Node = record { body = new; blocks = []; indirect = None; links = 1 } in
    let u = with_new v i new in
    let e : Entry = record { inode = i; name = name } in
    let apart : d ≢ i = λ same. none-some ADir (sym f.1 ∙ ap (λ (x : ℕ). thing (body v x)) (sym same) ∙ dir) in
    let there : node u d ≡ node v d = node-other v i d n apart in
    let within : IsWithin u v = within-set v i n l (record { blocks = λ k b h. absurd (none-some b h); pointers = λ b h. absurd (none-some b h) }) in
    let more = free-within g v u within in
    let form : IsNode n = record { body = fresh.form; indirect = refl; links = fresh.links } in
    let nodes : AreNodes g u = nodes-with g v u good.uses (nodes-set v i n l (λ x other. good.nodes x) form) within in
    let entry : IsEntry e = record { inode = (let inode : i < 2 ^ 32 = omega arith in inode); name = fine } in
    let free_needs = ap (λ (m : Node). link_needs m) there in
    let names = ap (λ (m : Node). count_names (slots_of m.body)) there in
    let k = linked-is g q u d e low (ap (λ (m : Node). thing m.body) there ∙ dir) nodes entry (omega arith) (omega arith) in
    let added : HasNew v u i t 1 = record {
      links_here = ap (λ (m : Node). m.links) (node-here v i n l);
      links_rest = λ x other. ap (λ (m : Node). m.links) (node-other v i x n other);
      slots = λ x j. new-slots v i n x j l f.1 (fresh.empty j);
      here = ap (λ (m : Node). thing m.body) (node-here v i n l) ∙ fresh.thing_is;
      others = λ x other. ap (λ (m : Node). thing m.body) (node-other v i x n other);
      size = length-set v i n;
    } in
    new-linked g v u (linked g q u d e) d e t 1 added (nothing f.1) dir missing k

-- ---- a name more

pub joined-is : (g : Geometry) (q : ℕ) (v : Volume) (d i : ℕ) (name bytes : List ℕ) → q < queues_of g → length v ≡ inodes_of g → AreNodes g v → body v i ≡ File bytes → (node v i).links < links_limit
    → thing (body v d) ≡ Some ADir → find name (slots_of (body v d)) ≡ None → count_names (slots_of (body v d)) < names_limit → IsName name → link_needs (node v d) ≤ free_blocks g v
    → MakesEntry g v (linked g q (with_links v i (suc (node v i).links)) d (record { inode = i; name = name })) d (record { inode = i; name = name }) (AFile bytes) (suc (node v i).links)
joined-is g q v d i name bytes low count good is room dir missing few fine enough =
    let l = used-low v i (ap (λ (b : Body). is_used b) is) in
    let links = suc (node v i).links in
    let n : Node = record { body = body v i; blocks = (node v i).blocks; indirect = (node v i).indirect; links = links } in
    let u = set v i n in
    let e : Entry = record { inode = i; name = name } in
    let was : thing (body v i) ≡ Some (AFile bytes) = ap (λ (b : Body). thing b) is in
    let apart : d ≢ i = λ same. file-dir bytes (sym was ∙ ap (λ (x : ℕ). thing (body v x)) (sym same) ∙ dir) in
    let there : node u d ≡ node v d = node-other v i d n apart in
    let within : IsWithin u v = within-set v i n l (record { blocks = λ k b h. h; pointers = λ b h. h }) in
    let more = free-within g v u within in
    let old = good.nodes i in
    let some : (1 ≤ (node v i).links) × ((node v i).links < 2 ^ 16) = subst (λ b. HasLinks b (node v i).links) is old.links in
    let low_links = some.0 in
    let form : IsNode n = record { body = old.body; indirect = old.indirect; links = subst (λ b. HasLinks b links) (sym is) (omega arith, omega arith) } in
    let nodes : AreNodes g u = nodes-with g v u good.uses (nodes-set v i n l (λ x other. good.nodes x) form) within in
    let entry : IsEntry e = record { inode = (let inode : i < 2 ^ 32 = omega arith in inode); name = fine } in
    let free_needs = ap (λ (m : Node). link_needs m) there in
    let names = ap (λ (m : Node). count_names (slots_of m.body)) there in
    let k = linked-is g q u d e low (ap (λ (m : Node). thing m.body) there ∙ dir) nodes entry (omega arith) (omega arith) in
    let bodies : (x : ℕ) → body u x ≡ body v x = λ x. elim (cases_eq x i) [
      | inl here ↦ ap (λ (y : ℕ). body u y) here ∙ ap (λ (m : Node). m.body) (node-here v i n l) ∙ ap (λ (y : ℕ). body v y) (sym here)
      | inr other ↦ ap (λ (m : Node). m.body) (node-other v i x n other)
    ] in
    let added : HasNew v u i (AFile bytes) links = record {
      links_here = ap (λ (m : Node). m.links) (node-here v i n l);
      links_rest = λ x other. ap (λ (m : Node). m.links) (node-other v i x n other);
      slots = λ x j. ap (λ (b : Body). get_or (slots_of b) j None) (bodies x);
      here = ap (λ (b : Body). thing b) (bodies i) ∙ was;
      others = λ x other. ap (λ (b : Body). thing b) (bodies x);
      size = length-set v i n;
    } in
    new-linked g v u (linked g q u d e) d e (AFile bytes) links added (file bytes was refl) dir missing k

-- ---- an entry less

pub record IsUnlinked (g : Geometry) (v w : Volume) (d : ℕ) (name : List ℕ) (i : ℕ) : Type 0 where
  pub place : ℕ
  pub entry : Entry
  pub there : slot v d place ≡ Some entry
  pub named : entry.name ≡ name
  pub leads : entry.inode ≡ i
  pub gone : slot w d place ≡ None
  pub rest : (x l : ℕ) → (x ≡ d → l ≡ place → ⊥) → slot w x l ≡ slot v x l
  pub things : (x : ℕ) → thing (body w x) ≡ thing (body v x)
  pub links : (x : ℕ) → (node w x).links ≡ (node v x).links
  pub size : length w ≡ length v
  pub nodes : AreNodes g w
  pub within : IsWithin w v

unlinked-slots : (g : Geometry) (v : Volume) (d : ℕ) (name : List ℕ) (i : ℕ) (slots : List (Option Entry)) → AreNodes g v → body v d ≡ Dir slots → find name slots ≡ Some i → IsUnlinked g v (unlinked v d name) d name i
unlinked-slots g v d name i slots good was found =
    let l = used-low v d (thing-used (body v d) ADir (ap (λ (b : Body). thing b) was)) in
    let same : slots_of (body v d) ≡ slots = ap (λ (b : Body). slots_of b) was in
    let new = cleared name slots in
    let n : Node = record { body = Dir new; blocks = (node v d).blocks; indirect = (node v d).indirect; links = (node v d).links } in
    let w = set v d n in
    let c = cleared-is name slots i found in
    let s = slotted v w d slots new was (bodies-set v d n l) in
    let b = dir-node (node v d) slots was (good.nodes d) in
    let form : IsNode n = record { body = (b.0, cleared-length name slots ∙ b.1, cleared-entries slots new name i b.2 c); indirect = (good.nodes d).indirect; links = dir-links (node v d) slots was (good.nodes d) } in
    let within : IsWithin w v = within-set v d n l (record { blocks = λ j x h. h; pointers = λ x h. h }) in
    let r : IsUnlinked g v w d name i = record {
      place = c.place;
      entry = c.entry;
      there = slot-in v d c.place slots was ∙ c.there;
      named = c.named;
      leads = c.leads;
      gone = s.here c.place ∙ c.gone;
      rest = λ x j other. elim (cases_eq x d) [
        | inl at ↦ ap (λ (y : ℕ). slot w y j) at ∙ s.here j ∙ c.rest j (λ e. other at e) ∙ sym (ap (λ (y : ℕ). slot v y j) at ∙ slot-in v d j slots was)
        | inr apart ↦ s.rest x j apart
      ];
      things = s.things;
      links = links-set v d n l refl;
      size = length-set v d n;
      nodes = nodes-with g v w good.uses (nodes-set v d n l (λ x other. good.nodes x) form) within;
      within = within;
    } in
    subst (λ xs. IsUnlinked g v (set v d (record { body = Dir (cleared name xs); blocks = (node v d).blocks; indirect = (node v d).indirect; links = (node v d).links })) d name i) (sym same) r

pub unlinked-is : (g : Geometry) (v : Volume) (d : ℕ) (name : List ℕ) (i : ℕ) → AreNodes g v → thing (body v d) ≡ Some ADir → find name (slots_of (body v d)) ≡ Some i → IsUnlinked g v (unlinked v d name) d name i
unlinked-is g v d name i good dir found =
    let s = dir-slots (body v d) dir in
    unlinked-slots g v d name i s.0 good s.1 (ap (λ (b : Body). find name (slots_of b)) (sym s.1) ∙ found)

-- without one of its names a directory is not full
pub unlinked-room : (g : Geometry) (v : Volume) (d : ℕ) (name : List ℕ) (i : ℕ) → AreNodes g v → thing (body v d) ≡ Some ADir → find name (slots_of (body v d)) ≡ Some i → count_names (slots_of (body (unlinked v d name) d)) < names_limit
unlinked-room g v d name i good dir found =
    let s = dir-slots (body v d) dir in
    let form = dir-node (node v d) s.0 s.1 (good.nodes d) in
    let l = used-low v d (thing-used (body v d) ADir dir) in
    let here : slots_of (body (unlinked v d name) d) ≡ cleared name (slots_of (body v d)) = ap (λ (m : Node). slots_of m.body) (node-here v d _ l) in
    let same : slots_of (body v d) ≡ s.0 = ap (λ (b : Body). slots_of b) s.1 in
    let few = form.0 in
    let size = form.1 in
    let most = count-most s.0 in
    let less = cleared-count name s.0 i (ap (λ (xs : List (Option Entry)). find name xs) (sym same) ∙ found) in
    let count : count_names (slots_of (body (unlinked v d name) d)) ≡ count_names (cleared name s.0) = ap (λ (xs : List (Option Entry)). count_names xs) (here ∙ ap (λ (xs : List (Option Entry)). cleared name xs) same) in
    omega arith

-- another directory stays
pub unlinked-other : (v : Volume) (d c : ℕ) (name : List ℕ) → c ≢ d → body (unlinked v d name) c ≡ body v c
unlinked-other v d c name other = ap (λ (m : Node). m.body) (node-other v d c _ other)

-- ---- an inode less

pub record CutsEntry (g : Geometry) (v w : Volume) (d : ℕ) (name : List ℕ) : Type 0 where
  pub place : ℕ
  pub entry : Entry
  pub named : entry.name ≡ name
  pub cut : IsCut v w d place entry
  pub links : (x : ℕ) → x ≢ entry.inode → (node w x).links ≡ (node v x).links
  pub size : length w ≡ length v
  pub nodes : AreNodes g w

pub cut-is : (g : Geometry) (v : Volume) (d : ℕ) (name : List ℕ) (i : ℕ) → AreNodes g v → thing (body v d) ≡ Some ADir → find name (slots_of (body v d)) ≡ Some i → is_used (body v i) ≡ true → ((l : ℕ) → slot v i l ≡ None)
    → ((x l y m : ℕ) (a b : Entry) → slot v x l ≡ Some a → slot v y m ≡ Some b → a.inode ≡ i → b.inode ≡ i → (x ≡ y) × (l ≡ m)) → CutsEntry g v (freed (unlinked v d name) i) d name
cut-is g v d name i good dir found used empty alone =
    let u = unlinked v d name in
    let r = unlinked-is g v d name i good dir found in
    let w = set u i free_node in
    let e = r.entry in
    let size = r.size in
    let li = used-low v i used in
    let l : i < length u = omega arith in
    let apart : d ≢ i = λ same. none-some e (sym (empty r.place) ∙ ap (λ (x : ℕ). slot v x r.place) (sym same) ∙ r.there) in
    let within : IsWithin w u = within-set u i free_node l (record { blocks = λ k b h. absurd (none-some b h); pointers = λ b h. absurd (none-some b h) }) in
    let form : IsNode free_node = record { body = refl; indirect = refl; links = refl } in
    record {
      place = r.place;
      entry = e;
      named = r.named;
      cut = record {
        edit = record {
          here = ap (λ (m : Node). get_or (slots_of m.body) r.place None) (node-other u i d free_node apart) ∙ r.gone;
          rest = λ x j other. elim (cases_eq x i) [
            | inl same ↦
                ap (λ (y : ℕ). slot w y j) same ∙ ap (λ (m : Node). get_or (slots_of m.body) j None) (node-here u i free_node l) ∙ sym (ap (λ (y : ℕ). slot v y j) same ∙ empty j)
            | inr another ↦ ap (λ (m : Node). get_or (slots_of m.body) j None) (node-other u i x free_node another) ∙ r.rest x j other
          ];
          thing_here = ap (λ (x : ℕ). thing (body w x)) r.leads ∙ ap (λ (m : Node). thing m.body) (node-here u i free_node l);
          things = λ x other. ap (λ (m : Node). thing m.body) (node-other u i x free_node (λ same. other (same ∙ sym r.leads))) ∙ r.things x;
        };
        there = r.there;
        empty = λ j. ap (λ (x : ℕ). slot v x j) r.leads ∙ empty j;
        alone = λ x j f h same. alone x j d r.place f e h r.there (same ∙ r.leads) r.leads;
      };
      links = λ x other. ap (λ (m : Node). m.links) (node-other u i x free_node (λ same. other (same ∙ sym r.leads))) ∙ r.links x;
      size = length-set u i free_node ∙ r.size;
      nodes = nodes-with g u w r.nodes.uses (nodes-set u i free_node l (λ x other. r.nodes.nodes x) form) within;
    }

-- ---- a link less

pub record DropsEntry (g : Geometry) (v w : Volume) (d : ℕ) (name : List ℕ) (i : ℕ) : Type 0 where
  pub place : ℕ
  pub entry : Entry
  pub named : entry.name ≡ name
  pub leads : entry.inode ≡ i
  pub dropped : IsDropped v w d place entry
  pub links_here : suc (node w i).links ≡ (node v i).links
  pub links_rest : (x : ℕ) → x ≢ i → (node w x).links ≡ (node v x).links
  pub size : length w ≡ length v
  pub nodes : AreNodes g w

pub drop-is : (g : Geometry) (v : Volume) (d : ℕ) (name : List ℕ) (i : ℕ) (bytes : List ℕ) → AreNodes g v → thing (body v d) ≡ Some ADir → find name (slots_of (body v d)) ≡ Some i → body v i ≡ File bytes → 2 ≤ (node v i).links → (node v i).links ≡ links_to v i
    → DropsEntry g v (with_links (unlinked v d name) i ((node (unlinked v d name) i).links - 1)) d name i
drop-is g v d name i bytes good dir found is many counted =
    let u = unlinked v d name in
    let r = unlinked-is g v d name i good dir found in
    let e = r.entry in
    let size = r.size in
    let li = used-low v i (ap (λ (b : Body). is_used b) is) in
    let l : i < length u = omega arith in
    let less = (node u i).links - 1 in
    let n : Node = record { body = body u i; blocks = (node u i).blocks; indirect = (node u i).indirect; links = less } in
    let w = set u i n in
    let within : IsWithin w u = within-set u i n l (record { blocks = λ k b h. h; pointers = λ b h. h }) in
    let was : thing (body u i) ≡ Some (AFile bytes) = r.things i ∙ ap (λ (b : Body). thing b) is in
    let old = r.nodes.nodes i in
    let few : (1 ≤ (node u i).links) × ((node u i).links < 2 ^ 16) = subst (λ b. HasLinks b (node u i).links) (file-is (body u i) bytes was) old.links in
    let below = few.1 in
    let same = r.links i in
    let form : IsNode n = record {
      body = old.body;
      indirect = old.indirect;
      links = subst (λ b. HasLinks b less) (sym (file-is (body u i) bytes was)) (omega arith, omega arith);
    } in
    let bodies : (x : ℕ) → body w x ≡ body u x = λ x. elim (cases_eq x i) [
      | inl here ↦ ap (λ (y : ℕ). body w y) here ∙ ap (λ (m : Node). m.body) (node-here u i n l) ∙ ap (λ (y : ℕ). body u y) (sym here)
      | inr other ↦ ap (λ (m : Node). m.body) (node-other u i x n other)
    ] in
    let slots : (x j : ℕ) → slot w x j ≡ slot u x j = λ x j. ap (λ (b : Body). get_or (slots_of b) j None) (bodies x) in
    let more = links-more i u v d r.place e (sym r.size) r.gone r.there (λ x j other. sym (r.rest x j other)) in
    let one = names-it i e r.leads in
    let another = links-some i u (omega arith) in
    record {
      place = r.place;
      entry = e;
      named = r.named;
      leads = r.leads;
      dropped = record {
        here = slots d r.place ∙ r.gone;
        rest = λ x j other. slots x j ∙ r.rest x j other;
        things = λ x. ap (λ (b : Body). thing b) (bodies x) ∙ r.things x;
        there = r.there;
        file = (bytes, ap (λ (y : ℕ). thing (body v y)) r.leads ∙ ap (λ (b : Body). thing b) is);
        directory = another.directory;
        place = another.place;
        entry = another.entry;
        stays = slots another.directory another.place ∙ another.there;
        same = another.leads ∙ sym r.leads;
      };
      links_here = ap (λ (m : Node). suc m.links) (node-here u i n l) ∙ omega arith;
      links_rest = λ x other. ap (λ (m : Node). m.links) (node-other u i x n other) ∙ r.links x;
      size = length-set u i n ∙ r.size;
      nodes = nodes-with g u w r.nodes.uses (nodes-set u i n l (λ x other. r.nodes.nodes x) form) within;
    }

-- ---- an entry that moves

pub record MovesEntry (g : Geometry) (v w : Volume) (d : ℕ) (name : List ℕ) (p : Way) (c : ℕ) (to : List ℕ) (q : Way) : Type 0 where
  pub from_place : ℕ
  pub from_entry : Entry
  pub named : from_entry.name ≡ name
  pub to_place : ℕ
  pub moved : IsMoved v w d from_place from_entry p c to_place (record { inode = from_entry.inode; name = to }) q
  pub links : (x : ℕ) → (node w x).links ≡ (node v x).links
  pub counts : (x : ℕ) → links_to w x ≡ links_to v x
  pub size : length w ≡ length v
  pub nodes : AreNodes g w

-- where the two directories are, before
pub record AreWays (v : Volume) (d : ℕ) (name : List ℕ) (p : Way) (c : ℕ) (to : List ℕ) (q : Way) : Type 0 where
  pub old_way : inode_at v p ≡ Some d
  pub new_way : inode_at v q ≡ Some c
  pub outside : (r : Way) → q ≢ r ++ name ∷ p
  pub missing : find to (slots_of (body v c)) ≡ None

pub moved-is : (g : Geometry) (q : ℕ) (v : Volume) (d : ℕ) (name : List ℕ) (p : Way) (i c : ℕ) (to : List ℕ) (s : Way) → q < queues_of g → length v ≡ inodes_of g → AreNodes g v → thing (body v d) ≡ Some ADir → find name (slots_of (body v d)) ≡ Some i
    → is_used (body v i) ≡ true → thing (body v c) ≡ Some ADir → AreWays v d name p c to s → IsName to → count_names (slots_of (body (unlinked v d name) c)) < names_limit → link_needs (node (unlinked v d name) c) ≤ free_blocks g v
    → MovesEntry g v (linked g q (unlinked v d name) c (record { inode = i; name = to })) d name p c to s
moved-is g q v d name p i c to s low count good dir found used new_dir ways fine few enough =
    let u = unlinked v d name in
    let r = unlinked-is g v d name i good dir found in
    let e = r.entry in
    let f : Entry = record { inode = e.inode; name = to } in
    let l = used-low v i used in
    let leads = r.leads in
    let entry : IsEntry f = record { inode = (let inode : e.inode < 2 ^ 32 = omega arith in inode); name = fine } in
    let more = free-within g v u r.within in
    let k = linked-is g q u c f low (r.things c ∙ new_dir) r.nodes entry few (omega arith) in
    let w = linked g q u c f in
    let m : MovesEntry g v w d name p c to s = record {
      from_place = r.place;
      from_entry = e;
      named = r.named;
      to_place = k.place;
      moved = record {
        there = r.there;
        here = k.here;
        inode = refl;
        from = λ x j a h. elim (cases-slot x c j k.place) [
          | inl new ↦ inl new
          | inr other ↦
              let in_u : slot u x j ≡ Some a = sym (k.rest x j other) ∙ h in
              let kept : x ≡ d → j ≡ r.place → ⊥ = λ y z. none-some a (sym r.gone ∙ ap (λ (t : ℕ). slot u t r.place) (sym y) ∙ ap (λ (t : ℕ). slot u x t) (sym z) ∙ in_u) in
              inr (sym (r.rest x j kept) ∙ in_u, kept)
        ];
        to = λ x j a h kept.
            let in_u : slot u x j ≡ Some a = r.rest x j kept ∙ h in
            k.rest x j (λ y z. none-some a (sym k.was ∙ ap (λ (t : ℕ). slot u t k.place) (sym y) ∙ ap (λ (t : ℕ). slot u x t) (sym z) ∙ in_u)) ∙ in_u;
        things = λ x. k.things x ∙ r.things x;
        missing = ways.missing;
        old_way = ways.old_way;
        new_way = ways.new_way;
        outside = λ t h. ways.outside t (h ∙ ap (λ (n : List ℕ). t ++ n ∷ p) r.named);
      };
      links = λ x. k.links x ∙ r.links x;
      counts = λ x.
          let gone = links-more x u v d r.place e (sym r.size) r.gone r.there (λ y j other. sym (r.rest y j other)) in
          let come = links-more x u w c k.place f k.size k.was k.here k.rest in
          let same : names x (Some f) ≡ names x (Some e) = refl in
          omega arith;
      size = k.size ∙ r.size;
      nodes = k.nodes;
    } in
    subst (λ j. MovesEntry g v (linked g q u c (record { inode = j; name = to })) d name p c to s) leads m

-- ---- other bytes

pub record FillsFile (g : Geometry) (v w : Volume) (i : ℕ) (bytes : List ℕ) : Type 0 where
  pub filled : IsFilled v w i bytes
  pub links : (x : ℕ) → (node w x).links ≡ (node v x).links
  pub size : length w ≡ length v
  pub nodes : AreNodes g w

pub kept-option : (t : Bool) (o : Option ℕ) (b : ℕ) → cond t o None ≡ Some b → o ≡ Some b
kept-option true o b e = e
kept-option false o b e = absurd (none-some b e)

pub take-get : (n : ℕ) (xs : List ℕ) (k b : ℕ) → slice_get (take n xs) k ≡ Some b → slice_get xs k ≡ Some b
take-get zero xs k b e = absurd (none-some b e)
take-get (suc n) [] k b e = absurd (none-some b e)
take-get (suc n) (x ∷ xs) zero b e = e
take-get (suc n) (x ∷ xs) (suc k) b e = take-get n xs k b e

-- nothing is needed where no block is taken
needs-up : (have want : ℕ) → needs have (have + (want - have)) ≤ needs have want
needs-up have want = elim (cases_lt have want) [
  | inl more ↦ let e : have + (want - have) ≡ want = omega arith in rw e (omega arith)
  | inr past ↦
      let e : have + (want - have) ≡ have = omega arith in
      rw e (none-needed have (needs have want))
]
  where
    none-needed : (have n : ℕ) → needs have have ≤ n
    none-needed have n = elim (cases_lt 12 have) [
      | inl more ↦ let a = lt-leb have 12 more in rw a (omega arith)
      | inr few ↦
          let a = le-ltb 12 have few in
          let b = le-leb have 12 few in
          rw (a, b) (omega arith)
    ]

pub filled-is : (g : Geometry) (q : ℕ) (v : Volume) (i : ℕ) (old bytes : List ℕ) → q < queues_of g → AreNodes g v → body v i ≡ File old → AreBytes bytes → length bytes ≤ file_limit
    → needs (length (node v i).blocks) (blocks_for (length bytes)) ≤ free_blocks g v → FillsFile g v (resized g q v i bytes) i bytes
filled-is g q v i old bytes low good was fine few enough =
    let have = length (node v i).blocks in
    let count = blocks_for (length bytes) in
    let l = used-low v i (ap (λ (b : Body). is_used b) was) in
    let up = needs-up have count in
    let u = grown g q v i (count - have) in
    let r = grown-is g q v i (count - have) low l good.uses (good.nodes i).indirect (omega arith) in
    let n : Node = record { body = File bytes; blocks = take count (node u i).blocks; indirect = if nat_lt 12 count then (node u i).indirect else None; links = (node u i).links } in
    let linked : HasLinks (File bytes) (node u i).links = subst (λ k. HasLinks (File bytes) k) (sym (r.links i)) (subst (λ b. HasLinks b (node v i).links) was (good.nodes i).links) in
    let w = set u i n in
    let size = r.size in
    let longer = r.longer in
    let low_u : i < length u = omega arith in
    let taken : length (take count (node u i).blocks) ≡ count = length-take-le count (node u i).blocks (omega arith) in
    let form : IsNode n = record { body = (few, taken, fine); indirect = pointers (length (node u i).blocks) count (node u i).indirect r.indirect (omega arith) ∙ ap (λ (c : ℕ). nat_lt 12 c) (sym taken); links = linked } in
    let within : IsWithin w u = within-set u i n low_u (record { blocks = λ k b h. take-get count (node u i).blocks k b h; pointers = λ b h. kept-option (nat_lt 12 count) (node u i).indirect b h }) in
    record {
      filled = record {
        slots = λ x j. elim (cases_eq x i) [
          | inl same ↦
              ap (λ (y : ℕ). slot w y j) same ∙ ap (λ (m : Node). get_or (slots_of m.body) j None) (node-here u i n low_u)
              ∙ sym (ap (λ (y : ℕ). slot v y j) same ∙ ap (λ (b : Body). get_or (slots_of b) j None) was)
          | inr other ↦ ap (λ (m : Node). get_or (slots_of m.body) j None) (node-other u i x n other) ∙ ap (λ (b : Body). get_or (slots_of b) j None) (r.bodies x)
        ];
        thing_here = ap (λ (m : Node). thing m.body) (node-here u i n low_u);
        things = λ x other. ap (λ (m : Node). thing m.body) (node-other u i x n other) ∙ ap (λ (b : Body). thing b) (r.bodies x);
        was = (old, ap (λ (b : Body). thing b) was);
      };
      links = λ x. links-set u i n low_u refl x ∙ r.links x;
      size = length-set u i n ∙ r.size;
      nodes = nodes-with g u w r.uses (nodes-set u i n low_u (λ x other. subst (λ m. IsNode m) (sym (r.rest x other)) (good.nodes x)) form) within;
    }
  where
    pointers : (have count : ℕ) (o : Option ℕ) → is_some o ≡ nat_lt 12 have → count ≤ have → is_some (cond (nat_lt 12 count) o None) ≡ nat_lt 12 count
    pointers have count o is few = elim (cases_lt 12 count) [
      | inl more ↦
          let y = lt-ltb 12 count more in
          ap (λ (b : Bool). is_some (cond b o None)) y ∙ is ∙ lt-ltb 12 have (omega arith) ∙ sym y
      | inr less ↦ let n = le-ltb 12 count less in ap (λ (b : Bool). is_some (cond b o None)) n ∙ sym n
    ]
