-- Names that are added to directories, and that go.
use Rattle.std.proofs.Common.{get_or, set, ◌≡◌, ◌≢◌, ℕ, ◌*◌, ◌/◌, ◌%◌, ◌<◌, List, [], ◌∷◌, length, sym, ap, subst, ◌∙◌, arith, length-set}
use Rattle.std.specs.Prelude.{Option, Some, None, Result, Ok, Err, OnOk, slice_get}
use Rattle.std.specs.List.{All}
use Rattle.std.proofs.lemmas.Option.{none-some, same_Some, slice_get-get_or}
use Rattle.mq_blocks.proofs.JournalAmong.{among-apart, among-here, among-one}
use Rattle.mq_blocks.specs.declared.geometry.Geometry.{Geometry}
use Rattle.mq_inodes.specs.Changes.{IsOfFile, IsTextPut, Stepped}
use Rattle.mq_inodes.specs.Dirs.{AreDirsAt, slots_at}
use Rattle.mq_inodes.specs.Edits.{Becomes, Carries, IsKindPut, KeepsHeld}
use Rattle.mq_inodes.specs.Opened.{MayLink, MayUnlink}
use Rattle.mq_inodes.specs.Pages.{IsHeld, Pages, kinds_of, pages_of}
use Rattle.mq_inodes.specs.declared.opened.Opened.{Opened}
use Rattle.mq_inodes.specs.declared.working.Working.{Working}
use Rattle.mq_inodes.proofs.EditsBecoming.{becomes-stepped}
use Rattle.mq_inodes.proofs.Dirs.{carried-form, carried-slots}
use Rattle.mq_inodes.proofs.PagesKeeping.{keeps-put}
use Rattle.mq_inodes.proofs.ChangesBodies.{rebodied}
use Rattle.mq_inodes.proofs.ChangesKinds.{dir-not-file, meta-not-data}
use Rattle.mq_inodes.proofs.ChangesLinked.{entry-step, linked-here, unlinked-step}
use Rattle.mq_inodes.proofs.ChangesVolumes.{with_body-uses}
use Rattle.mq_inodes.proofs.DirsSlotNumbers.{numbered, unused-low}
use Rattle.mq_layout.specs.Fields.{zero_bytes}
use Rattle.mq_layout.specs.Slots.{Entry, slot_bytes}
use Rattle.mq_pages.specs.declared.page.Kind.TheVariants.{Meta}
use Rattle.mq_tree.specs.Requests.{cleared, linked, unlinked, unused, with_body}
use Rattle.mq_tree.specs.Links.{HasLinks}
use Rattle.mq_tree.specs.Volume.{Body, Dir, Node, Volume, body, node, slot_number, slots_of}
use Rattle.mq_tree.proofs.RequestsNodes.{cleared-length}
use Rattle.mq_tree.proofs.FreeUses.{node-here}

pub on_ok-both : {T E P Q R : Type 0} (r : Result T E) → OnOk r P → OnOk r Q → (P → Q → R) → OnOk r R
on_ok-both (Ok x) p q f = f p q
on_ok-both (Err e) p q f = tt

-- ---- a block of a directory is put

-- the directory has other slots over the same blocks
pub becomes-slot : (g : Geometry) (v : Volume) (d place b : ℕ) (now : List (Option Entry)) (old new : Working) → Carries g (pages_of old) v → d < length v → HasLinks (Dir now) (node v d).links → slice_get (node v d).blocks place ≡ Some b → pages_of old b ≢ None → IsKindPut old new b (Some Meta)
    → Stepped g v (with_body v d (Dir now)) (pages_of new) (b ∷ []) → Becomes g v (with_body v d (Dir now)) old new
becomes-slot g v d place b now old new c low one there known kind s =
    let w = with_body v d (Dir now) in
    let here = node-here v d (rebodied (node v d) (Dir now)) low in
    let fine = with_body-uses g v d (Dir now) c.uses low one in
    let at : slice_get (node w d).blocks place ≡ Some b = ap (λ (n : Node). slice_get n.blocks place) here ∙ there in
    becomes-stepped g v w old new (b ∷ []) c fine (length-set v d (rebodied (node v d) (Dir now))) s
    (λ x y none. known (ap (λ (z : ℕ). pages_of old z) (sym (among-one b x y)) ∙ none))
    (λ x high out. kind.others x (among-apart (b ∷ []) b x (among-here b []) out))
    (λ x k high y e.
    let same = among-one b x y in
    let m : Meta ≡ k = same_Some _ _ (sym kind.here ∙ ap (λ (z : ℕ). kinds_of new z) (sym same) ∙ e) in
    (λ d. absurd (meta-not-data (m ∙ d)), λ f. absurd (dir-not-file g w d place b now fine at (ap (λ (n : Node). n.body) here) (subst (λ z. IsOfFile w z) same f))))

text-keeps : (old new : Pages) (b at : ℕ) (text : List ℕ) → IsTextPut old new b at text → KeepsHeld old new
text-keeps old new b at text t = keeps-put old new b t.before t.after t.was t.put

-- ---- a name goes

pub record IsUnlinked (g : Geometry) (v : Volume) (d : ℕ) (name blocks : List ℕ) (old new : Working) : Type 0 where
  pub becomes : Becomes g v (unlinked v d name) old new
  pub dirs : AreDirsAt (pages_of new) blocks
  pub slots : slots_at (pages_of new) blocks ≡ cleared name (slots_at (pages_of old) blocks)

pub name-unlinked : (g : Geometry) (v : Volume) (d : ℕ) (name blocks : List ℕ) (slot b : ℕ) (old new : Working) → Carries g (pages_of old) v → MayUnlink g v d blocks → AreDirsAt (pages_of old) blocks → Some slot ≡ slot_number 0 name (slots_at (pages_of old) blocks)
    → b ≡ get_or blocks (slot / 15) b → IsKindPut old new b (Some Meta) → IsTextPut (pages_of old) (pages_of new) b (272 * (slot % 15)) (zero_bytes 272) → IsUnlinked g v d name blocks old new
name-unlinked g v d name blocks slot b old new c m dirs found is kind t = record { becomes = becomes; dirs = carried-form g (pages_of new) w d now blocks becomes.carries body-now blocks-now held-now; slots = slots-now }
  where
    low : d < length v
    low = let l = m.low in let e = c.count in omega arith

    held : All (IsHeld (pages_of old)) blocks
    held k x l = (dirs k x l).held

    same : m.slots ≡ slots_at (pages_of old) blocks
    same = carried-slots g (pages_of old) v d m.slots blocks c m.is m.blocks_are m.size held

    place : ℕ
    place = slot / 15

    becomes : Becomes g v (unlinked v d name) old new
    becomes =
        let r = numbered 0 slot name m.slots (found ∙ ap (λ (s : List (Option Entry)). slot_number 0 name s) (sym same)) in
        let at : r.place ≡ slot = (let e = r.is in omega arith) in
        let inside : place < length blocks = (let l = r.inside in let n = m.size in omega arith) in
        let there : slice_get (node v d).blocks place ≡ Some b = ap (λ (bs : List ℕ). slice_get bs place) (sym m.blocks_are) ∙ slice_get-get_or blocks place b inside ∙ ap (λ (x : ℕ). Some x) (sym is) in
        let step = unlinked-step g v d slot b r.entry.inode name m.slots r.entry (pages_of old) (pages_of new) t.before t.after c.uses low m.is m.apart r.finds (ap (λ (k : ℕ). get_or m.slots k None) (sym at) ∙ r.there) r.named there c.fits t.was t.put t.form t.is in
        becomes-slot g v d place b (cleared name (slots_of (body v d))) old new c low (subst (λ (x : Body). HasLinks x (node v d).links) m.is (c.uses.links d)) there (λ none. none-some _ (sym none ∙ t.was)) kind step

    w : Volume
    w = unlinked v d name

    now : List (Option Entry)
    now = cleared name (slots_of (body v d))

    here : node w d ≡ rebodied (node v d) (Dir now)
    here = node-here v d (rebodied (node v d) (Dir now)) low

    body-now : body w d ≡ Dir now
    body-now = ap (λ (n : Node). n.body) here

    blocks-now : blocks ≡ (node w d).blocks
    blocks-now = m.blocks_are ∙ sym (ap (λ (n : Node). n.blocks) here)

    held-now : All (IsHeld (pages_of new)) blocks
    held-now k x l = (text-keeps (pages_of old) (pages_of new) b (272 * (slot % 15)) (zero_bytes 272) t).held (get_or blocks k x) (held k x l)

    slots-now : slots_at (pages_of new) blocks ≡ cleared name (slots_at (pages_of old) blocks)
    slots-now =
        let long : length now ≡ 15 * length blocks = cleared-length name (slots_of (body v d)) ∙ ap (λ (s : List (Option Entry)). length s) (ap slots_of m.is) ∙ m.size in
        sym (carried-slots g (pages_of new) w d now blocks becomes.carries body-now blocks-now long held-now) ∙ ap (λ (s : List (Option Entry)). cleared name s) (ap slots_of m.is ∙ same)

-- ---- a name is added in an unused slot

pub name-linked : (g : Geometry) (q : ℕ) (v : Volume) (o : Opened) (entry : Entry) (picks : List ℕ) (slot b : ℕ) (old new : Working) → Carries g (pages_of old) v → MayLink g q v o entry picks → AreDirsAt (pages_of old) o.blocks.items
    → Some slot ≡ unused 0 (slots_at (pages_of old) o.blocks.items) → b ≡ get_or o.blocks.items (slot / 15) b → IsKindPut old new b (Some Meta) → IsTextPut (pages_of old) (pages_of new) b (272 * (slot % 15)) (slot_bytes entry) → Becomes g v (linked g q v o.number entry) old new
name-linked g q v o entry picks slot b old new c m dirs found is kind t =
    let d = o.number in
    let blocks = o.blocks.items in
    let size = m.size in
    let low : d < length v = (let l = m.opened.low in let e = c.count in omega arith) in
    let same : m.slots ≡ slots_at (pages_of old) blocks = carried-slots g (pages_of old) v d m.slots blocks c m.is m.opened.blocks m.size (λ k x l. (dirs k x l).held) in
    let first : unused 0 m.slots ≡ Some slot = ap (λ (s : List (Option Entry)). unused 0 s) same ∙ sym found in
    let inside : slot < length m.slots = (let l = unused-low 0 slot m.slots (sym first) in omega arith) in
    let there : slice_get (node v d).blocks (slot / 15) ≡ Some b = ap (λ (bs : List ℕ). slice_get bs (slot / 15)) (sym m.opened.blocks) ∙ slice_get-get_or blocks (slot / 15) b (omega arith) ∙ ap (λ (x : ℕ). Some x) (sym is) in
    let step = entry-step g v d slot b m.slots entry (pages_of old) (pages_of new) t.before t.after c.uses low m.is inside there m.form c.fits t.was t.put t.form t.is in
    let becomes = becomes-slot g v d (slot / 15) b (set m.slots slot (Some entry)) old new c low (subst (λ (x : Body). HasLinks x (node v d).links) m.is (c.uses.links d)) there (λ none. none-some _ (sym none ∙ t.was)) kind step in
    subst (λ (x : Volume). Becomes g v x old new) (sym (linked-here g q v d slot m.slots entry m.is first)) becomes
