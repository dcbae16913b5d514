-- A name that is added to a directory in a block more.
use Rattle.std.proofs.Common.{get_or, ◌≡◌, ◌≢◌, ℕ, suc, ◌+◌, ◌-◌, ◌<◌, ◌≤◌, inl, inr, List, length, false, refl, sym, ap, subst, ◌∙◌, arith}
use Rattle.std.specs.Prelude.{Option, Some, None, slice_get}
use Rattle.std.proofs.lemmas.Bool.{true≢false}
use Rattle.std.proofs.lemmas.List.{length-take}
use Rattle.std.proofs.lemmas.Option.{none-some, same_Some, slice_get-get_or, slice_get_within}
use Rattle.mq_blocks.specs.Blocks.{zeros}
use Rattle.mq_blocks.specs.Geometry.{queues_of}
use Rattle.mq_blocks.specs.Windows.{written}
use Rattle.mq_blocks.specs.declared.geometry.Geometry.{Geometry}
use Rattle.mq_inodes.specs.Changes.{IsTextPut}
use Rattle.mq_inodes.specs.Dirs.{AreDirsAt, slots_at}
use Rattle.mq_inodes.specs.Edits.{Becomes, Carries, IsKindPut, IsOver}
use Rattle.mq_inodes.specs.Opened.{HasGrown, IsWithin, MayGrow, MayLink}
use Rattle.mq_inodes.specs.Pages.{IsHeld, content, pages_of}
use Rattle.mq_inodes.specs.Picks.{ArePicked, free_of}
use Rattle.mq_inodes.specs.declared.opened.Opened.{Opened}
use Rattle.mq_inodes.specs.declared.working.Working.{Working}
use Rattle.mq_inodes.proofs.EditsBecoming.{becomes-then}
use Rattle.mq_inodes.proofs.Dirs.{carried-slots}
use Rattle.mq_inodes.proofs.PagesHeld.{held-else}
use Rattle.mq_inodes.proofs.EditsLinking.{becomes-slot}
use Rattle.mq_inodes.proofs.ChangesLinked.{block_entry-step, linked-grown, with_entry}
use Rattle.mq_inodes.proofs.LaidOnce.{page-once}
use Rattle.mq_inodes.proofs.ChangesSteps.{zone-put}
use Rattle.mq_inodes.proofs.ChangesVolumes.{next-dir}
use Rattle.mq_inodes.proofs.Picks.{length-free}
use Rattle.mq_layout.specs.Slots.{Entry, slot_bytes}
use Rattle.mq_pages.specs.declared.page.Kind.TheVariants.{Meta}
use Rattle.mq_tree.proofs.DecodedMounting.{zeros-page}
use Rattle.mq_tree.specs.Free.{free_blocks, grown, needs, order}
use Rattle.mq_tree.specs.Requests.{entry_needs, link_needs, linked, unused}
use Rattle.mq_tree.specs.Links.{HasLinks}
use Rattle.mq_tree.specs.Volume.{Body, Dir, Part, Volume, body, is_taken, node, slots_of}
use Rattle.mq_tree.proofs.Free.{count-order}
use Rattle.mq_tree.proofs.FreeUses.{IsGrown, grown-is}
use Rattle.mq_tree.proofs.LaidUses.{use-taken}

-- ---- the directory may grow

pub picked-enough : (g : Geometry) (q : ℕ) (v : Volume) (n : ℕ) (picks : List ℕ) → q < queues_of g → ArePicked g q v n picks → n ≤ free_blocks g v
picked-enough g q v n picks low p =
    let size = ap (λ (xs : List ℕ). length xs) p.first ∙ length-take n (free_of v (order g q)) in
    let all = length-free v (order g q) ∙ count-order g q v low in
    let enough = p.enough in
    omega arith

pub may-grow : (g : Geometry) (q : ℕ) (v : Volume) (o : Opened) (entry : Entry) (picks : List ℕ) (m : MayLink g q v o entry picks) → unused 0 m.slots ≡ None → MayGrow g q v o picks 1
may-grow g q v o entry picks m none =
    let count = length o.blocks.items in
    let few = m.few none in
    let size = m.size in
    let e : suc count ≡ count + 1 = omega arith in
    let same : length (node v o.number).blocks ≡ count = ap (λ (bs : List ℕ). length bs) (sym m.opened.blocks) in
    let cost : link_needs (node v o.number) ≡ needs count (count + 1) = ap (λ (x : Body). entry_needs (length (node v o.number).blocks) (unused 0 (slots_of x))) m.is ∙ ap (λ (x : Option ℕ). entry_needs (length (node v o.number).blocks) x) none
    ∙ ap (λ (k : ℕ). needs k (suc k)) same ∙ ap (λ (k : ℕ). needs count k) e in
    record {
      opened = m.opened;
      queue = m.queue;
      within = subst (λ x. IsWithin x count) (sym m.is) (omega arith);
      few = omega arith;
      picked = subst (λ n. ArePicked g q v n picks) cost m.picked;
    }

-- ---- its new block

-- it shows zeros
pub record HasBlank (u : Volume) (before after : Opened) (mid : Working) (slots : List (Option Entry)) : Type 0 where
  pub low : before.number < length u
  pub is : body u before.number ≡ Dir slots
  pub longer : length after.blocks.items ≡ length before.blocks.items + 1
  pub there : (b : ℕ) → b ≡ get_or after.blocks.items (length before.blocks.items) b → slice_get (node u before.number).blocks (length before.blocks.items) ≡ Some b
  pub blank : (b : ℕ) → b ≡ get_or after.blocks.items (length before.blocks.items) b → pages_of mid b ≡ Some (Some zeros)

has-blank : (g : Geometry) (q : ℕ) (v : Volume) (before after : Opened) (entry : Entry) (picks : List ℕ) (old mid : Working) (m : MayLink g q v before entry picks) → Carries g (pages_of old) v → unused 0 m.slots ≡ None → IsOver old mid → HasGrown g q v old mid before after 1
    → HasBlank (grown g q v before.number 1) before after mid m.slots
has-blank g q v before after entry picks old mid m c none over h = record { low = (let l = low in let e = more.size in omega arith); is = is; longer = longer; there = there; blank = blank }
  where
    d : ℕ
    d = before.number

    count : ℕ
    count = length before.blocks.items

    u : Volume
    u = grown g q v d 1

    low : d < length v
    low = let l = m.opened.low in let e = c.count in omega arith

    same : count ≡ length (node v d).blocks
    same = ap (λ (bs : List ℕ). length bs) m.opened.blocks

    more : IsGrown g v u d 1
    more = grown-is g q v d 1 m.queue low c.uses m.opened.indirect (subst (λ k. needs k (k + 1) ≤ free_blocks g v) same (picked-enough g q v (needs count (count + 1)) picks m.queue (may-grow g q v before entry picks m none).picked))

    is : body u d ≡ Dir m.slots
    is = more.bodies d ∙ m.is

    blocks : after.blocks.items ≡ (node u d).blocks
    blocks = h.opened.blocks ∙ ap (λ (i : ℕ). (node u i).blocks) h.number

    longer : length after.blocks.items ≡ count + 1
    longer = ap (λ (bs : List ℕ). length bs) blocks ∙ more.longer ∙ ap (λ (k : ℕ). k + 1) (sym same)

    there : (b : ℕ) → b ≡ get_or after.blocks.items count b → slice_get (node u d).blocks count ≡ Some b
    there b e = ap (λ (bs : List ℕ). slice_get bs count) (sym blocks) ∙ slice_get-get_or after.blocks.items count b (let l = longer in omega arith) ∙ ap (λ (x : ℕ). Some x) (sym e)

    fresh : (b : ℕ) → slice_get (node u d).blocks count ≡ Some b → is_taken v b ≡ false
    fresh b e = elim (more.fresh (Part d count) b e) [
      | inl old ↦ absurd (let l = slice_get_within (node v d).blocks count b old in let s = same in omega arith)
      | inr free ↦ free
    ]

    known : (b : ℕ) → slice_get (node u d).blocks count ≡ Some b → pages_of old b ≢ None
    known b e absent =
        let vacant = (h.becomes.same b absent).vacant.0 ((more.uses.zones (Part d count) b e).0, fresh b e) in
        true≢false (sym (use-taken u (Part d count) b e) ∙ vacant.1)

    blank : (b : ℕ) → b ≡ get_or after.blocks.items count b → pages_of mid b ≡ Some (Some zeros)
    blank b at =
        let e = there b at in
        let page = content (pages_of mid b) in
        let held : pages_of mid b ≡ Some (Some page) = held-else (pages_of mid b) (λ absent. known b e (over.known b absent)) (λ free. true≢false (sym (use-taken u (Part d count) b e) ∙ (h.becomes.carries.fits.free b free).1)) in
        let size = m.size in
        let zero = zone-put g u (Part d count) b zeros more.uses e zeros-page (next-dir (body u d) m.slots count is (omega arith)) in
        held ∙ ap (λ (p : List ℕ). Some (Some p)) (page-once g u b page zeros more.uses (h.becomes.carries.fits.held b page held) zero)

-- ---- the name is put there

name-grown : (g : Geometry) (q : ℕ) (v : Volume) (before after : Opened) (entry : Entry) (picks : List ℕ) (b : ℕ) (old mid new : Working) (m : MayLink g q v before entry picks) → Carries g (pages_of old) v → unused 0 m.slots ≡ None → IsOver old mid
    → HasGrown g q v old mid before after 1 → b ≡ get_or after.blocks.items (length before.blocks.items) b → IsKindPut mid new b (Some Meta) → IsTextPut (pages_of mid) (pages_of new) b 0 (slot_bytes entry) → Becomes g v (linked g q v before.number entry) old new
name-grown g q v before after entry picks b old mid new m c none over h at kind t =
    let d = before.number in
    let count = length before.blocks.items in
    let u = grown g q v d 1 in
    let k = has-blank g q v before after entry picks old mid m c none over h in
    let there = k.there b at in
    let blank = k.blank b at in
    let was : t.before ≡ zeros = same_Some _ _ (same_Some _ _ (sym t.was ∙ blank)) in
    let step = block_entry-step g u d b m.slots entry (pages_of mid) (pages_of new) t.after h.becomes.carries.uses k.low k.is count m.size there m.form h.becomes.carries.fits blank t.put t.form (t.is ∙ ap (λ (p : List ℕ). written p 0 (slot_bytes entry)) was) in
    let becomes = becomes-slot g u d count b (with_entry m.slots entry) mid new h.becomes.carries k.low (subst (λ (x : Body). HasLinks x (node u d).links) k.is (h.becomes.carries.uses.links d)) there (λ absent. none-some _ (sym absent ∙ blank)) kind step in
    subst (λ (x : Volume). Becomes g v x old new) (sym (linked-grown g q v u d m.slots entry m.is none refl)) (becomes-then g v u _ old mid new over h.becomes becomes)

-- ---- where no slot of its blocks is unused

pub full-slots : (g : Geometry) (q : ℕ) (v : Volume) (o : Opened) (entry : Entry) (picks : List ℕ) (old : Working) (m : MayLink g q v o entry picks) → Carries g (pages_of old) v → AreDirsAt (pages_of old) o.blocks.items → None ≡ unused 0 (slots_at (pages_of old) o.blocks.items) → unused 0 m.slots ≡ None
full-slots g q v o entry picks old m c dirs none =
    ap (λ (s : List (Option Entry)). unused 0 s) (carried-slots g (pages_of old) v o.number m.slots o.blocks.items c m.is m.opened.blocks m.size (λ k x l. (dirs k x l).held)) ∙ sym none

-- it has grown, on each volume on which it may
abbrev pub Grows : Geometry → (picks : List ℕ) → (old mid : Working) → (before after : Opened) → Type 0
Grows g picks old mid before after = (q : ℕ) (v : Volume) (count : ℕ) → Carries g (pages_of old) v → MayGrow g q v before picks count → HasGrown g q v old mid before after count

pub full-blank : (g : Geometry) (q : ℕ) (v : Volume) (before after : Opened) (entry : Entry) (picks : List ℕ) (old mid : Working) (m : MayLink g q v before entry picks) → Carries g (pages_of old) v → AreDirsAt (pages_of old) before.blocks.items → None ≡ unused 0 (slots_at (pages_of old) before.blocks.items)
    → IsOver old mid → Grows g picks old mid before after → HasBlank (grown g q v before.number 1) before after mid m.slots
full-blank g q v before after entry picks old mid m c dirs none over h =
    let full = full-slots g q v before entry picks old m c dirs none in
    has-blank g q v before after entry picks old mid m c full over (h q v 1 c (may-grow g q v before entry picks m full))

last-at : (before after : Opened) (b : ℕ) → length after.blocks.items ≡ length before.blocks.items + 1 → b ≡ get_or after.blocks.items (length after.blocks.items - 1) b → b ≡ get_or after.blocks.items (length before.blocks.items) b
last-at before after b longer at =
    let last : length after.blocks.items - 1 ≡ length before.blocks.items = omega arith in
    at ∙ ap (λ (k : ℕ). get_or after.blocks.items k b) last

pub blank-held : (u : Volume) (before after : Opened) (mid : Working) (slots : List (Option Entry)) (b : ℕ) → HasBlank u before after mid slots → b ≡ get_or after.blocks.items (length after.blocks.items - 1) b → IsHeld (pages_of mid) b
blank-held u before after mid slots b k at =
    let e = k.blank b (last-at before after b k.longer at) in
    e ∙ ap (λ (o : Option (Option (List ℕ))). Some (Some (content o))) (sym e)

pub full-linked : (g : Geometry) (q : ℕ) (v : Volume) (before after : Opened) (entry : Entry) (picks : List ℕ) (b : ℕ) (old mid new : Working) → Carries g (pages_of old) v → MayLink g q v before entry picks → AreDirsAt (pages_of old) before.blocks.items → None ≡ unused 0 (slots_at (pages_of old) before.blocks.items)
    → IsOver old mid → Grows g picks old mid before after → b ≡ get_or after.blocks.items (length after.blocks.items - 1) b → IsKindPut mid new b (Some Meta) → IsTextPut (pages_of mid) (pages_of new) b 0 (slot_bytes entry) → Becomes g v (linked g q v before.number entry) old new
full-linked g q v before after entry picks b old mid new c m dirs none over h at kind t =
    let full = full-slots g q v before entry picks old m c dirs none in
    let longer = (full-blank g q v before after entry picks old mid m c dirs none over h).longer in
    name-grown g q v before after entry picks b old mid new m c full over (h q v 1 c (may-grow g q v before entry picks m full)) (last-at before after b longer at) kind t
