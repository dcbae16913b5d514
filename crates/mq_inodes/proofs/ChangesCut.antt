-- A file is cut: its blocks past the new end are free, and its block of pointers where it is not needed.
use Rattle.std.proofs.Common.{get_or, ◌≡◌, ℕ, zero, suc, ◌+◌, ◌*◌, ◌<◌, ◌≤◌, ◌⊎◌, inl, inr, List, [], ◌∷◌, length, take, Bool, true, false, sym, ap, subst, ◌∙◌, arith}
use Rattle.std.specs.Prelude.{Some, None, ◌↔◌, nat_lt, slice_get}
use Rattle.std.proofs.lemmas.Bool.{cases_Bool, cases_lt, true≢false}
use Rattle.std.proofs.lemmas.List.{get_or-take, get_or_past, length-take}
use Rattle.mq_blocks.specs.Geometry.{queues_of}
use Rattle.mq_blocks.specs.Journal.{is_among}
use Rattle.mq_blocks.specs.declared.geometry.Geometry.{Geometry}
use Rattle.mq_inodes.specs.Changes.{AreOthers, FitsAt, IsCleared, IsInodeTurned, IsPointersCut, Stepped, zone_in}
use Rattle.mq_inodes.specs.Fits.{Fits}
use Rattle.mq_inodes.specs.Opened.{cut_file}
use Rattle.mq_inodes.specs.Pages.{Pages}
use Rattle.mq_inodes.proofs.ChangesBodies.{inode-form}
use Rattle.mq_inodes.proofs.Changes.{fewer-rewrites}
use Rattle.mq_inodes.proofs.ChangesInodes.{fits-cleared, fits-gone, fits-inode}
use Rattle.mq_inodes.proofs.LaidParts.{file-along}
use Rattle.mq_inodes.proofs.ChangesSteps.{step-over, zone-held, zone-put}
use Rattle.mq_inodes.proofs.ChangesUses.{Rewrites, uses-fewer, links-at}
use Rattle.mq_layout.specs.Inodes.{IsInode}
use Rattle.mq_layout.specs.Places.{file_limit, inode_block, zone_bitmap}
use Rattle.mq_layout.specs.Places.{inodes_of}
use Rattle.mq_tree.proofs.VolumeChanges.{kept-option, take-get}
use Rattle.mq_tree.specs.Laid.{ShowsPart, ShowsPointers, inode_of, kind_of, size_of}
use Rattle.mq_tree.specs.Links.{HasLinks}
use Rattle.mq_tree.specs.Volume.{Body, File, Node, Pointers, Volume, body, has_block, is_used, node, cut_node}
use Rattle.mq_tree.proofs.FreeUses.{node-here, node-other}
use Rattle.mq_tree.specs.Uses.{AreUses}

get-take : (n : ℕ) (xs : List ℕ) (k c : ℕ) → k < n → slice_get xs k ≡ Some c → slice_get (take n xs) k ≡ Some c
get-take zero xs k c l e = absurd (omega arith)
get-take (suc n) [] k c l e = e
get-take (suc n) (x ∷ xs) zero c l e = e
get-take (suc n) (x ∷ xs) (suc k) c l e = get-take n xs k c (omega arith) e

-- the blocks that change where it is cut
pub record AreCut (g : Geometry) (v w : Volume) (i count : ℕ) (blocks : List ℕ) : Type 0 where
  pub inode : is_among (inode_block g i) blocks ≡ true
  pub pointers : (p : ℕ) → (node v i).indirect ≡ Some p → is_among p blocks ≡ true
  pub past : (k c : ℕ) → count ≤ k → slice_get (node v i).blocks k ≡ Some c → is_among c blocks ≡ true
  pub zones : (c : ℕ) → has_block (node v i) c ≡ true → has_block (node w i) c ≡ false → is_among (zone_bitmap (zone_in g c)) blocks ≡ true
  pub only : (c : ℕ) → is_among c blocks ≡ true → (c ≡ inode_block g i) ⊎ (((node w i).indirect ≡ Some c) ⊎ (((has_block (node v i) c ≡ true) × (has_block (node w i) c ≡ false)) ⊎ ((zone : ℕ) × (zone < queues_of g) × (c ≡ zone_bitmap zone))))

pub cut-step : (g : Geometry) (v : Volume) (i count : ℕ) (bytes now blocks : List ℕ) (gone : ℕ → Bool) (old new : Pages) → AreUses g v → i < length v → i < inodes_of g → body v i ≡ File bytes → length now ≤ file_limit
    → ((k : ℕ) → k < 4096 * count → get_or bytes k 0 ≡ get_or now k 0) → AreCut g v (cut_file v i count now) i count blocks
    → ((c : ℕ) → gone c ≡ true → (has_block (node v i) c ≡ true) × (has_block (node (cut_file v i count now) i) c ≡ false)) → ((c : ℕ) → gone c ≡ false → has_block (node v i) c ≡ has_block (node (cut_file v i count now) i) c)
    → Fits g old v → ((x : ℕ) → is_among x blocks ≡ false → new x ≡ old x) → IsInodeTurned g old new i (inode_of (cut_node (node v i) count now))
    → ((p : ℕ) → (node (cut_file v i count now) i).indirect ≡ Some p → IsPointersCut old new p count) → ((c : ℕ) → gone c ≡ true → new c ≡ Some None)
    → ((zone : ℕ) → zone < queues_of g → is_among (zone_bitmap zone) blocks ≡ true → IsCleared g old new zone gone) → Stepped g v (cut_file v i count now) new blocks
cut-step g v i count bytes now blocks gone old new uses low inside is few same listed lost left fits rest inode cut free zones = step-over g v w i blocks old new uses fine r fits rest put
  where
    w : Volume
    w = cut_file v i count now

    here : node w i ≡ cut_node (node v i) count now
    here = node-here v i (cut_node (node v i) count now) low

    o : AreOthers v w i
    o = λ x other. node-other v i x (cut_node (node v i) count now) other

    bs : (node w i).blocks ≡ take count (node v i).blocks
    bs = ap (λ (n : Node). n.blocks) here

    bd : body w i ≡ File now
    bd = ap (λ (n : Node). n.body) here

    parts : (k c : ℕ) → slice_get (node w i).blocks k ≡ Some c → slice_get (node v i).blocks k ≡ Some c
    parts k c e = take-get count (node v i).blocks k c (ap (λ (xs : List ℕ). slice_get xs k) (sym bs) ∙ e)

    pointers : (c : ℕ) → (node w i).indirect ≡ Some c → (node v i).indirect ≡ Some c
    pointers c e = kept-option (nat_lt 12 count) (node v i).indirect c (sym (ap (λ (n : Node). n.indirect) here) ∙ e)

    fine : AreUses g w
    fine = uses-fewer g v w i uses o parts pointers (links-at w i (cut_node (node v i) count now) here (subst (λ (x : Body). HasLinks x (node v i).links) is (uses.links i)))

    low-place : (k c : ℕ) → slice_get (node v i).blocks k ≡ Some c → is_among c blocks ≡ false → k < count
    low-place k c e out = elim (cases_lt k count) [
      | inl l ↦ l
      | inr past ↦ absurd (true≢false (sym (listed.past k c past e) ∙ out))
    ]

    stays : (k c : ℕ) → slice_get (node v i).blocks k ≡ Some c → is_among c blocks ≡ false → slice_get (node w i).blocks k ≡ Some c
    stays k c e out = ap (λ (xs : List ℕ). slice_get xs k) bs ∙ get-take count (node v i).blocks k c (low-place k c e out) e

    show : (k c : ℕ) → is_among c blocks ≡ false → slice_get (node v i).blocks k ≡ Some c → (page : List ℕ) → ShowsPart (body v i) k page ↔ ShowsPart (body w i) k page
    show k c out e page =
        let l = low-place k c e out in
        let alike : (j : ℕ) → j < 4096 → get_or bytes (4096 * k + j) 0 ≡ get_or now (4096 * k + j) 0 = λ j small. same (4096 * k + j) (omega arith) in
        subst (λ x. ShowsPart x k page ↔ ShowsPart (body w i) k page) (sym is) (subst (λ x. ShowsPart (File bytes) k page ↔ ShowsPart x k page) (sym bd)
        (file-along bytes now k page alike, file-along now bytes k page (λ j small. sym (alike j small))))

    used : is_used (body v i) ≡ is_used (body w i)
    used = ap is_used is ∙ sym (ap is_used bd)

    r : Rewrites g v w i blocks
    r = fewer-rewrites g v w i blocks o parts pointers stays listed.pointers listed.zones show (λ out. used) listed.inode (λ k c out e. ap kind_of is ∙ sym (ap kind_of bd))

    good : IsInode (inode_of (node w i))
    good = inode-form g w i fine (ap is_used bd) (subst (λ (x : Body). size_of x (length (node w i).blocks) ≤ file_limit) (sym bd) few)

    at-pointers : (p : ℕ) → (node w i).indirect ≡ Some p → FitsAt g (new p) w p
    at-pointers p e =
        let c = cut p e in
        let was = fits.held p c.before c.turns.was in
        let shown : ShowsPointers (node v i).blocks c.before = zone-held g v (Pointers i) p c.before uses (pointers p e) was in
        let shows : ShowsPointers (take count (node v i).blocks) c.after = λ k l. elim (cases_lt (12 + k) count) [
          | inl there ↦ c.left k l there ∙ shown k l ∙ sym (get_or-take count (node v i).blocks (12 + k) 0 there)
          | inr past ↦ c.cut k l past ∙ sym (get_or_past (take count (node v i).blocks) (12 + k) 0 (let n = length-take count (node v i).blocks in omega arith))
        ] in
        subst (λ x. FitsAt g x w p) (sym c.turns.now) (zone-put g w (Pointers i) p c.after fine e c.turns.form (subst (λ xs. ShowsPointers xs c.after) (sym bs) shows))

    put : (x : ℕ) → is_among x blocks ≡ true → FitsAt g (new x) w x
    put x y = elim (listed.only x y) [
      | inl e ↦ subst (λ b. FitsAt g (new b) w b) (sym e) (fits-inode g v w i old new inside o fits good (subst (λ n. IsInodeTurned g old new i (inode_of n)) (sym here) inode))
      | inr (inl e) ↦ at-pointers x e
      | inr (inr (inl h)) ↦ elim (cases_Bool (gone x)) [
        | inl t ↦ fits-gone g v w i x new uses o h.0 h.1 (free x t)
        | inr f ↦ absurd (true≢false (sym h.0 ∙ left x f ∙ h.1))
      ]
      | inr (inr (inr z)) ↦
          let among : is_among (zone_bitmap z.0) blocks ≡ true = ap (λ (b : ℕ). is_among b blocks) (sym z.2) ∙ y in
          subst (λ b. FitsAt g (new b) w b) (sym z.2) (fits-cleared g v w i z.0 gone old new uses o z.1 lost left fits (zones z.0 z.1 among))
    ]
