-- A body changes over the same blocks: one part of it, or its size.
use Rattle.std.proofs.Common.{get_or, ◌≡◌, ◌≢◌, ℕ, ◌+◌, ◌*◌, ◌/◌, ◌%◌, ◌^◌, ◌<◌, ◌≤◌, inl, inr, List, [], ◌∷◌, length, true, refl, sym, ap, subst, ◌∙◌, arith}
use Rattle.std.specs.Prelude.{Option, Some, None, ◌↔◌, slice_get}
use Rattle.std.specs.List.{All}
use Rattle.std.proofs.lemmas.Bool.{cases_lt, true≢false}
use Rattle.std.proofs.lemmas.List.{get_or_default, get_or_past}
use Rattle.std.proofs.lemmas.Option.{none-some, same_Some, slice_get-get_or}
use Rattle.mq_blocks.proofs.JournalAmong.{among-here}
use Rattle.mq_blocks.specs.Geometry.{homes_of}
use Rattle.mq_blocks.specs.Journal.{is_among}
use Rattle.mq_blocks.specs.Windows.{written}
use Rattle.mq_blocks.specs.declared.geometry.Geometry.{Geometry}
use Rattle.mq_inodes.specs.Changes.{AreOthers, IsPut, Stepped}
use Rattle.mq_inodes.specs.Fits.{Fits}
use Rattle.mq_inodes.specs.Pages.{Pages}
use Rattle.mq_inodes.proofs.Changes.{kept-rewrites, kept-uses}
use Rattle.mq_inodes.proofs.ChangesFits.{fits-put}
use Rattle.mq_inodes.proofs.LaidParts.{dir-along, dir-cleared, dir-written, file-along}
use Rattle.mq_inodes.proofs.ChangesSteps.{step-end, step-start, zone-held, zone-put}
use Rattle.mq_inodes.proofs.ChangesUses.{Rewrites, links-at, links-kind, used-links}
use Rattle.mq_layout.specs.Fields.{zero_bytes}
use Rattle.mq_layout.specs.Inodes.{IsInode}
use Rattle.mq_layout.specs.Places.{file_limit}
use Rattle.mq_layout.specs.Slots.{Entry, IsEntry, slot_bytes}
use Rattle.mq_layout.specs.declared.inode.Inode.{Inode}
use Rattle.mq_tree.proofs.CleanLaid.{length-padded}
use Rattle.mq_tree.specs.Laid.{IsPage, ShowsPart, inode_of, kind_of, or_zero, padded, size_of}
use Rattle.mq_tree.specs.Requests.{with_body}
use Rattle.mq_tree.specs.Links.{HasLinks}
use Rattle.mq_tree.specs.Volume.{Body, Free, File, Dir, Node, Part, Pointers, Volume, body, is_used, node}
use Rattle.mq_tree.proofs.FreeUses.{node-here, node-other}
use Rattle.mq_tree.specs.Uses.{AreUses}
use Rattle.mq_tree.proofs.LaidUnique.{padded-at}

-- ---- the form of an inode

direct-low : (xs : List ℕ) → ((k c : ℕ) → slice_get xs k ≡ Some c → c < 2 ^ 32) → All (λ p. p < 2 ^ 32) (padded 12 xs)
direct-low xs low k d l =
    let m = length-padded 12 xs in
    let e : get_or (padded 12 xs) k d ≡ get_or xs k 0 = get_or_default (padded 12 xs) k d 0 l ∙ padded-at 12 xs k (omega arith) in
    elim (cases_lt k (length xs)) [
      | inl inside ↦ let f = low k (get_or xs k 0) (slice_get-get_or xs k 0 inside) in omega arith
      | inr past ↦ let z = get_or_past xs k 0 past in omega arith
    ]

indirect-low : (o : Option ℕ) → ((c : ℕ) → o ≡ Some c → c < 2 ^ 32) → or_zero o < 2 ^ 32
indirect-low None low = omega arith
indirect-low (Some c) low = low c refl

used-form : (x : Body) (count : ℕ) (xs : List ℕ) (p links : ℕ) → is_used x ≡ true → HasLinks x links → size_of x count ≤ file_limit → All (λ p. p < 2 ^ 32) (padded 12 xs) → p < 2 ^ 32
    → IsInode (record { kind = kind_of x; links = links; size = size_of x count; direct = padded 12 xs; indirect = p })
used-form Free count xs p links used l few direct low = absurd (true≢false (sym used))
used-form (File bytes) count xs p links used l few direct low = record {
  kind = omega arith;
  free = λ e. absurd (omega arith);
  used = λ h. (l.0, few);
  directory = λ e. absurd (omega arith);
  links = l.1;
  twelve = length-padded 12 xs;
  direct = direct;
  indirect = low;
}
used-form (Dir slots) count xs p links used l few direct low = record {
  kind = omega arith;
  free = λ e. absurd (omega arith);
  used = λ h. (omega arith, few);
  directory = λ e. (l, omega arith);
  links = omega arith;
  twelve = length-padded 12 xs;
  direct = direct;
  indirect = low;
}

-- a used inode whose size is not above the limit is in its form
pub inode-form : (g : Geometry) (w : Volume) (i : ℕ) → AreUses g w → is_used (body w i) ≡ true → size_of (body w i) (length (node w i).blocks) ≤ file_limit → IsInode (inode_of (node w i))
inode-form g w i uses used few =
    let h : homes_of g ≤ 32768 = g.homes_high in
    used-form (body w i) (length (node w i).blocks) (node w i).blocks (or_zero (node w i).indirect) (node w i).links used (uses.links i) few
    (direct-low (node w i).blocks (λ k c e. let z = (uses.zones (Part i k) c e).1 in omega arith))
    (indirect-low (node w i).indirect (λ c e. let z = (uses.zones (Pointers i) c e).1 in omega arith))

-- a new file or directory, without blocks
pub bare-form : (x : Body) → is_used x ≡ true → size_of x 0 ≤ file_limit → IsInode (inode_of (record { body = x; blocks = []; indirect = None; links = 1 }))
bare-form x used few = used-form x 0 [] 0 1 used (used-links x used) few (direct-low [] (λ k c e. absurd (none-some c e))) (omega arith)

-- ---- one part

-- an inode with another body
abbrev pub rebodied : Node → Body → Node
rebodied n y = record { body = y; blocks = n.blocks; indirect = n.indirect; links = n.links }

part-step : (g : Geometry) (v : Volume) (i place b : ℕ) (y : Body) (old new : Pages) (page : List ℕ) → AreUses g v → i < length v → slice_get (node v i).blocks place ≡ Some b
    → inode_of (node v i) ≡ inode_of (rebodied (node v i) y)
    → ((p : ℕ) → p ≢ place → (other : List ℕ) → ShowsPart (body v i) p other ↔ ShowsPart y p other)
    → Fits g old v → IsPut old new b (Some page) → IsPage page → ShowsPart y place page → Stepped g v (with_body v i y) new (b ∷ [])
part-step g v i place b y old new page uses low there inode show fits put form shows =
    let w = with_body v i y in
    let here : node w i ≡ rebodied (node v i) y = node-here v i (rebodied (node v i) y) low in
    let o : AreOthers v w i = λ x other. node-other v i x (rebodied (node v i) y) other in
    let bs : (node w i).blocks ≡ (node v i).blocks = ap (λ (n : Node). n.blocks) here in
    let ind : (node w i).indirect ≡ (node v i).indirect = ap (λ (n : Node). n.indirect) here in
    let bd : body w i ≡ y = ap (λ (n : Node). n.body) here in
    let kinds : kind_of (body v i) ≡ kind_of y = ap (λ (n : Inode). n.kind) inode in
    let fine = kept-uses g v w i uses o bs ind (links-at w i (rebodied (node v i) y) here (links-kind (body v i) y (node v i).links kinds (uses.links i))) in
    let r : Rewrites g v w i (b ∷ []) = kept-rewrites g v w i (b ∷ []) o bs ind (ap (λ (n : Inode). n.kind) inode ∙ ap kind_of (sym bd)) (λ out. inode ∙ ap inode_of (sym here)) (λ k c out e other.
    let away : k ≢ place = λ same. true≢false (sym (ap (λ (x : ℕ). is_among x (b ∷ [])) (sym (same_Some b c (sym there ∙ ap (λ (j : ℕ). slice_get (node v i).blocks j) (sym same) ∙ e))) ∙ among-here b []) ∙ out) in
    subst (λ x. ShowsPart (body v i) k other ↔ ShowsPart x k other) (sym bd) (show k away other)) in
    let at = ap (λ (xs : List ℕ). slice_get xs place) bs ∙ there in
    let now = zone-put g w (Part i place) b page fine at form (subst (λ x. ShowsPart x place page) (sym bd) shows) in
    step-end g v w i (b ∷ []) new uses fine r (fits-put g old new w [] b (Some page) (step-start g v w i (b ∷ []) old uses fine r fits) put now)

pub inode-same : (n : Node) (x y : Body) → n.body ≡ x → kind_of x ≡ kind_of y → size_of x (length n.blocks) ≡ size_of y (length n.blocks) → inode_of n ≡ inode_of (rebodied n y)
inode-same n x y is kind size =
    let count = length n.blocks in
    let d = padded 12 n.blocks in
    let p = or_zero n.indirect in
    ap (λ (z : Body). inode_of (rebodied n z)) is
    ∙ ap (λ (k : ℕ). record { kind = k; links = n.links; size = size_of x count; direct = d; indirect = p }) kind
    ∙ ap (λ (k : ℕ). record { kind = kind_of y; links = n.links; size = k; direct = d; indirect = p }) size

-- bytes of one block of a file
pub bytes-step : (g : Geometry) (v : Volume) (i place b : ℕ) (bytes now : List ℕ) (old new : Pages) (page : List ℕ) → AreUses g v → i < length v → body v i ≡ File bytes → length now ≡ length bytes → slice_get (node v i).blocks place ≡ Some b
    → ((k : ℕ) → k / 4096 ≢ place → get_or bytes k 0 ≡ get_or now k 0) → Fits g old v → IsPut old new b (Some page) → IsPage page → ShowsPart (File now) place page → Stepped g v (with_body v i (File now)) new (b ∷ [])
bytes-step g v i place b bytes now old new page uses low is size there rest fits put form shows =
    part-step g v i place b (File now) old new page uses low there (inode-same (node v i) (File bytes) (File now) is refl (sym size))
    (λ p away other.
    let same : (k : ℕ) → k < 4096 → get_or bytes (4096 * p + k) 0 ≡ get_or now (4096 * p + k) 0 = λ k l. rest (4096 * p + k) (λ e. away (omega arith)) in
    subst (λ x. ShowsPart x p other ↔ ShowsPart (File now) p other) (sym is) (file-along bytes now p other same, file-along now bytes p other (λ k l. sym (same k l))))
    fits put form shows

-- one slot of a directory
slot-step : (g : Geometry) (v : Volume) (d slot b : ℕ) (slots now : List (Option Entry)) (old new : Pages) (page : List ℕ) → AreUses g v → d < length v → body v d ≡ Dir slots → slice_get (node v d).blocks (slot / 15) ≡ Some b
    → ((l : ℕ) → l ≢ slot → get_or now l None ≡ get_or slots l None) → Fits g old v → IsPut old new b (Some page) → IsPage page → ShowsPart (Dir now) (slot / 15) page → Stepped g v (with_body v d (Dir now)) new (b ∷ [])
slot-step g v d slot b slots now old new page uses low is there rest fits put form shows =
    part-step g v d (slot / 15) b (Dir now) old new page uses low there (inode-same (node v d) (Dir slots) (Dir now) is refl refl)
    (λ p away other.
    let same : (k : ℕ) → k < 15 → get_or slots (15 * p + k) None ≡ get_or now (15 * p + k) None = λ k l. sym (rest (15 * p + k) (λ e. away (omega arith))) in
    subst (λ x. ShowsPart x p other ↔ ShowsPart (Dir now) p other) (sym is) (dir-along slots now p other same, dir-along now slots p other (λ k l. sym (same k l))))
    fits put form shows

dir-held : (g : Geometry) (v : Volume) (d place b : ℕ) (slots : List (Option Entry)) (old : Pages) (before : List ℕ) → AreUses g v → body v d ≡ Dir slots → slice_get (node v d).blocks place ≡ Some b → Fits g old v → old b ≡ Some (Some before) → ShowsPart (Dir slots) place before
dir-held g v d place b slots old before uses is there fits held = subst (λ x. ShowsPart x place before) is (zone-held g v (Part d place) b before uses there (fits.held b before held))

-- an entry is written into a slot
pub slot_written-step : (g : Geometry) (v : Volume) (d slot b : ℕ) (slots now : List (Option Entry)) (entry : Entry) (old new : Pages) (before page : List ℕ) → AreUses g v → d < length v → body v d ≡ Dir slots → slice_get (node v d).blocks (slot / 15) ≡ Some b
    → IsEntry entry → get_or now slot None ≡ Some entry → ((l : ℕ) → l ≢ slot → get_or now l None ≡ get_or slots l None) → Fits g old v → old b ≡ Some (Some before) → IsPut old new b (Some page) → IsPage page
    → page ≡ written before (272 * (slot % 15)) (slot_bytes entry) → Stepped g v (with_body v d (Dir now)) new (b ∷ [])
slot_written-step g v d slot b slots now entry old new before page uses low is there good here rest fits held put form e =
    let j : 15 * (slot / 15) + slot % 15 ≡ slot = omega arith in
    let s = dir-held g v d (slot / 15) b slots old before uses is there fits held in
    slot-step g v d slot b slots now old new page uses low is there rest fits put form
    (dir-written slots now (slot / 15) (slot % 15) entry before page (fits.held b before held).0.whole (omega arith) good e (ap (λ (x : ℕ). get_or now x None) j ∙ here) (λ l other. rest l (λ f. other (f ∙ sym j))) s)

-- a slot is cleared
pub slot_cleared-step : (g : Geometry) (v : Volume) (d slot b : ℕ) (slots now : List (Option Entry)) (old new : Pages) (before page : List ℕ) → AreUses g v → d < length v → body v d ≡ Dir slots → slice_get (node v d).blocks (slot / 15) ≡ Some b
    → get_or now slot None ≡ None → ((l : ℕ) → l ≢ slot → get_or now l None ≡ get_or slots l None) → Fits g old v → old b ≡ Some (Some before) → IsPut old new b (Some page) → IsPage page
    → page ≡ written before (272 * (slot % 15)) (zero_bytes 272) → Stepped g v (with_body v d (Dir now)) new (b ∷ [])
slot_cleared-step g v d slot b slots now old new before page uses low is there here rest fits held put form e =
    let j : 15 * (slot / 15) + slot % 15 ≡ slot = omega arith in
    let s = dir-held g v d (slot / 15) b slots old before uses is there fits held in
    slot-step g v d slot b slots now old new page uses low is there rest fits put form
    (dir-cleared slots now (slot / 15) (slot % 15) before page (fits.held b before held).0.whole (omega arith) e (ap (λ (x : ℕ). get_or now x None) j ∙ here) (λ l other. rest l (λ f. other (f ∙ sym j))) s)
