-- A directory with an entry more, or without one.
use Rattle.std.proofs.Common.{get_or, set, ◌≡◌, ◌≢◌, ℕ, suc, ◌-◌, ◌*◌, ◌/◌, ◌%◌, ◌<◌, inl, inr, List, [], ◌∷◌, ◌++◌, length, replicate, refl, sym, ap, subst, ◌∙◌, arith, get_or-set_same, get_or-set_other}
use Rattle.std.specs.Prelude.{Option, Some, None, slice_get}
use Rattle.std.proofs.lemmas.Bool.{cases_lt}
use Rattle.std.proofs.lemmas.List.{get_or_append_left, get_or-append_right, get_or_at, get_or_past}
use Rattle.mq_blocks.specs.Blocks.{zeros}
use Rattle.mq_blocks.specs.Windows.{written}
use Rattle.mq_blocks.specs.declared.geometry.Geometry.{Geometry}
use Rattle.mq_inodes.specs.Changes.{IsPut, Stepped}
use Rattle.mq_inodes.specs.Fits.{Fits}
use Rattle.mq_inodes.specs.Pages.{Pages}
use Rattle.mq_inodes.proofs.ChangesBodies.{slot_cleared-step, slot_written-step}
use Rattle.mq_layout.specs.Fields.{zero_bytes}
use Rattle.mq_layout.specs.Slots.{Entry, IsEntry, slot_bytes}
use Rattle.mq_tree.proofs.VolumePaths.{AreNamesOnce}
use Rattle.mq_tree.specs.Laid.{IsPage}
use Rattle.mq_tree.specs.Free.{grown}
use Rattle.mq_tree.specs.Requests.{cleared, linked, linked_at, unlinked, unused, with_body}
use Rattle.mq_tree.specs.Volume.{Dir, Volume, body, find, node, slots_of}
use Rattle.mq_tree.proofs.RequestsNodes.{cleared-is, none-all}
use Rattle.mq_tree.specs.Uses.{AreUses}

-- ---- in a slot that is there

pub entry-step : (g : Geometry) (v : Volume) (d k b : ℕ) (slots : List (Option Entry)) (entry : Entry) (old new : Pages) (before page : List ℕ) → AreUses g v → d < length v → body v d ≡ Dir slots → k < length slots → slice_get (node v d).blocks (k / 15) ≡ Some b
    → IsEntry entry → Fits g old v → old b ≡ Some (Some before) → IsPut old new b (Some page) → IsPage page → page ≡ written before (272 * (k % 15)) (slot_bytes entry) → Stepped g v (with_body v d (Dir (set slots k (Some entry)))) new (b ∷ [])
entry-step g v d k b slots entry old new before page uses low is inside there good fits held put form e =
    slot_written-step g v d k b slots (set slots k (Some entry)) entry old new before page uses low is there good (get_or-set_same slots k (Some entry) None inside) (λ l other. get_or-set_other slots k l (Some entry) None other) fits held put form e

pub linked-here : (g : Geometry) (q : ℕ) (v : Volume) (d k : ℕ) (slots : List (Option Entry)) (entry : Entry) → body v d ≡ Dir slots → unused 0 slots ≡ Some k → linked g q v d entry ≡ with_body v d (Dir (set slots k (Some entry)))
linked-here g q v d k slots entry is e =
    let same : slots_of (body v d) ≡ slots = ap slots_of is in
    ap (λ (o : Option ℕ). linked_at g q v d entry o) (ap (λ (xs : List (Option Entry)). unused 0 xs) same ∙ e) ∙ ap (λ (xs : List (Option Entry)). with_body v d (Dir (set xs k (Some entry)))) same

-- ---- in a new block

abbrev pub with_entry : List (Option Entry) → Entry → List (Option Entry)
with_entry slots entry = slots ++ (Some entry ∷ replicate 14 None)

abbrev nothing : Option Entry
nothing = None

entry-others : (slots : List (Option Entry)) (entry : Entry) (l : ℕ) → l ≢ length slots → get_or (with_entry slots entry) l None ≡ get_or slots l None
entry-others slots entry l other = elim (cases_lt l (length slots)) [
  | inl low ↦ get_or_append_left slots (Some entry ∷ replicate 14 None) None l low
  | inr past ↦
      let j : l - length slots ≡ suc (l - length slots - 1) = omega arith in
      get_or-append_right slots (Some entry ∷ replicate 14 None) (length slots) l None refl past ∙ ap (λ (i : ℕ). get_or (Some entry ∷ replicate 14 None) i None) j ∙ none-all 14 (l - length slots - 1) ∙ sym (get_or_past slots l None past)
]

-- its first slot is written, where zeros stood
pub block_entry-step : (g : Geometry) (u : Volume) (d b : ℕ) (slots : List (Option Entry)) (entry : Entry) (old new : Pages) (page : List ℕ) → AreUses g u → d < length u → body u d ≡ Dir slots → (count : ℕ) → length slots ≡ 15 * count → slice_get (node u d).blocks count ≡ Some b
    → IsEntry entry → Fits g old u → old b ≡ Some (Some zeros) → IsPut old new b (Some page) → IsPage page → page ≡ written zeros 0 (slot_bytes entry) → Stepped g u (with_body u d (Dir (with_entry slots entry))) new (b ∷ [])
block_entry-step g u d b slots entry old new page uses low is count size there good fits held put form e =
    let place : count ≡ length slots / 15 = omega arith in
    let first : 0 ≡ 272 * (length slots % 15) = omega arith in
    slot_written-step g u d (length slots) b slots (with_entry slots entry) entry old new zeros page uses low is (ap (λ (k : ℕ). slice_get (node u d).blocks k) (sym place) ∙ there) good
    (get_or_at slots (Some entry) (replicate 14 None) None (length slots) refl) (entry-others slots entry) fits held put form (e ∙ ap (λ (k : ℕ). written zeros k (slot_bytes entry)) first)

pub linked-grown : (g : Geometry) (q : ℕ) (v u : Volume) (d : ℕ) (slots : List (Option Entry)) (entry : Entry) → body v d ≡ Dir slots → unused 0 slots ≡ None → grown g q v d 1 ≡ u → linked g q v d entry ≡ with_body u d (Dir (with_entry slots entry))
linked-grown g q v u d slots entry is none e =
    let same : slots_of (body v d) ≡ slots = ap slots_of is in
    ap (λ (o : Option ℕ). linked_at g q v d entry o) (ap (λ (xs : List (Option Entry)). unused 0 xs) same ∙ none)
    ∙ ap (λ (xs : List (Option Entry)). with_body (grown g q v d 1) d (Dir (with_entry xs entry))) same ∙ ap (λ (x : Volume). with_body x d (Dir (with_entry slots entry))) e

-- ---- an entry less

pub unlinked-step : (g : Geometry) (v : Volume) (d k b i : ℕ) (name : List ℕ) (slots : List (Option Entry)) (entry : Entry) (old new : Pages) (before page : List ℕ) → AreUses g v → d < length v → body v d ≡ Dir slots → AreNamesOnce slots
    → find name slots ≡ Some i → get_or slots k None ≡ Some entry → entry.name ≡ name → slice_get (node v d).blocks (k / 15) ≡ Some b → Fits g old v → old b ≡ Some (Some before) → IsPut old new b (Some page) → IsPage page
    → page ≡ written before (272 * (k % 15)) (zero_bytes 272) → Stepped g v (unlinked v d name) new (b ∷ [])
unlinked-step g v d k b i name slots entry old new before page uses low is apart found here named there fits held put form e =
    let c = cleared-is name slots i found in
    let same : c.place ≡ k = apart c.place k c.entry entry c.there here (c.named ∙ sym named) in
    let gone : get_or (cleared name slots) k None ≡ None = ap (λ (j : ℕ). get_or (cleared name slots) j None) (sym same) ∙ c.gone in
    let now = slot_cleared-step g v d k b slots (cleared name slots) old new before page uses low is there gone (λ l other. c.rest l (λ f. other (f ∙ same))) fits held put form e in
    subst (λ (xs : List (Option Entry)). Stepped g v (with_body v d (Dir (cleared name xs))) new (b ∷ [])) (sym (ap slots_of is)) now
