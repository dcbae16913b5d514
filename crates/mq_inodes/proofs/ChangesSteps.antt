-- Pages that are put one after another, until they fit the volume in which one inode changed.
use Rattle.std.proofs.Common.{◌≡◌, ◌≢◌, ℕ, ◌-◌, ◌%◌, ◌<◌, ◌≤◌, inl, inr, List, [], Bool, true, false, sym, ap, subst, ◌∙◌, arith}
use Rattle.std.specs.Prelude.{Option, Some, if◌then◌else◌}
use Rattle.std.proofs.lemmas.Bool.{cases_Bool, cases_eq, false_from_ne_true, true≢false}
use Rattle.mq_blocks.specs.Geometry.{homes_of, meta_of, queues_of, zone_size}
use Rattle.mq_blocks.specs.Journal.{is_among}
use Rattle.mq_blocks.specs.declared.geometry.Geometry.{Geometry}
use Rattle.mq_inodes.specs.Changes.{AreOthers, FitsAt, FitsBut, IsPut, SameAt, Stepped, owner, zone_in}
use Rattle.mq_inodes.specs.Fits.{Fits}
use Rattle.mq_inodes.specs.Pages.{Pages}
use Rattle.mq_inodes.proofs.ChangesFits.{fits-all, fits-end, fits-start, same-fits}
use Rattle.mq_inodes.proofs.ChangesFrame.{frame, has-use, owner-has, taken-same, use-along, zone-use}
use Rattle.mq_inodes.proofs.ChangesKinds.{files-same}
use Rattle.mq_inodes.proofs.ChangesPages.{marks-cleared, marks-one}
use Rattle.mq_inodes.proofs.ChangesRegions.{shows-in, shown-in}
use Rattle.mq_inodes.proofs.ChangesUses.{Rewrites, changes-at}
use Rattle.mq_layout.specs.Bits.{bit_of}
use Rattle.mq_layout.specs.Places.{zone_bitmap}
use Rattle.mq_tree.specs.Laid.{IsPage, IsVacant, ShowsPage, ShowsUse, ShowsZone, Zone, zone_block}
use Rattle.mq_tree.specs.Volume.{Use, Volume, block_in, has_block, is_taken, node}
use Rattle.mq_tree.proofs.Decoded.{taken-use}
use Rattle.mq_tree.specs.Uses.{AreUses}
use Rattle.mq_tree.proofs.LaidMaps.{zone-low, zone-place, zone-rest}
use Rattle.mq_tree.proofs.LaidRegions.{region-zone}

-- ---- one step

step-same : (g : Geometry) (v w : Volume) (i : ℕ) (blocks : List ℕ) → AreUses g v → AreUses g w → Rewrites g v w i blocks → (b : ℕ) → is_among b blocks ≡ false → SameAt g v w b
step-same g v w i blocks uses fine r = frame g v w i blocks uses fine (changes-at g v w i blocks r)

-- the inode changed, and at the listed blocks pages are still to be put
pub step-start : (g : Geometry) (v w : Volume) (i : ℕ) (blocks : List ℕ) (pages : Pages) → AreUses g v → AreUses g w → Rewrites g v w i blocks → Fits g pages v → FitsBut g pages w blocks
step-start g v w i blocks pages uses fine r fits = fits-start g pages v w blocks fits (step-same g v w i blocks uses fine r)

pub step-end : (g : Geometry) (v w : Volume) (i : ℕ) (blocks : List ℕ) (new : Pages) → AreUses g v → AreUses g w → Rewrites g v w i blocks → FitsBut g new w [] → Stepped g v w new blocks
step-end g v w i blocks new uses fine r fits = record { fits = fits-end g new w fits; same = step-same g v w i blocks uses fine r; files = files-same g v w i blocks r }

-- all at once: where no page is put the pages are as they were, and where one is it fits
pub step-over : (g : Geometry) (v w : Volume) (i : ℕ) (blocks : List ℕ) (old new : Pages) → AreUses g v → AreUses g w → Rewrites g v w i blocks → Fits g old v
    → ((x : ℕ) → is_among x blocks ≡ false → new x ≡ old x) → ((x : ℕ) → is_among x blocks ≡ true → FitsAt g (new x) w x) → Stepped g v w new blocks
step-over g v w i blocks old new uses fine r fits rest put =
    let same = step-same g v w i blocks uses fine r in
    step-end g v w i blocks new uses fine r (λ x l. elim (cases_Bool (is_among x blocks)) [
      | inl y ↦ put x y
      | inr n ↦ subst (λ o. FitsAt g o w x) (sym (rest x n)) (same-fits g v w x (old x) (same x n) (fits-all g old v fits x))
    ])

-- a page that was not put yet is as it was
pub put-before : (old new : Pages) (b x : ℕ) (page : Option (List ℕ)) (o : Option (Option (List ℕ))) → IsPut old new b page → x ≢ b → new x ≡ o → old x ≡ o
put-before old new b x page o put other e = sym (put.others x other) ∙ e

-- ---- a block of a zone

-- it shows what it is used for
pub zone-put : (g : Geometry) (w : Volume) (u : Use) (b : ℕ) (page : List ℕ) → AreUses g w → block_in w u ≡ Some b → IsPage page → ShowsUse w u page → ShowsPage g w b page
zone-put g w u b page uses e form s =
    let z = uses.zones u b e in
    let shows : ShowsZone w b page = record { purpose = u; is = e; shows = s } in
    shows-in g w b Zone page (region-zone g b z.0 z.1) form shows

-- what it showed before
pub zone-held : (g : Geometry) (v : Volume) (u : Use) (b : ℕ) (page : List ℕ) → AreUses g v → block_in v u ≡ Some b → ShowsPage g v b page → ShowsUse v u page
zone-held g v u b page uses e s =
    let z = uses.zones u b e in
    zone-use g v u b page uses e (shown-in g v b Zone page (region-zone g b z.0 z.1) s)

-- a block that the inode has no more is free
pub gone-free : (g : Geometry) (v w : Volume) (i b : ℕ) → AreUses g v → AreOthers v w i → has_block (node v i) b ≡ true → has_block (node w i) b ≡ false → is_taken w b ≡ false
gone-free g v w i b uses o had has = false_from_ne_true _ (λ t.
    let r = taken-use w b t in
    let u = has-use v i b had in
    elim (cases_eq (owner r.0) i) [
      | inl own ↦ true≢false (sym (owner-has w r.0 b r.1) ∙ ap (λ (x : ℕ). has_block (node w x) b) own ∙ has)
      | inr other ↦
          let old = use-along w v r.0 b (sym (o (owner r.0) other)) r.1 in
          let same = uses.apart r.0 u.0 b old u.2 in
          other (ap owner same ∙ u.1)
    ])

pub gone-vacant : (g : Geometry) (v w : Volume) (i b : ℕ) → AreUses g v → AreOthers v w i → has_block (node v i) b ≡ true → has_block (node w i) b ≡ false → IsVacant g w b
gone-vacant g v w i b uses o had has = let u = has-use v i b had in ((uses.zones u.0 b u.2).0, gone-free g v w i b uses o had has)

-- ---- the bitmap of its zone

-- where nothing else is taken or free now, its bit was set
pub mark-put : (g : Geometry) (v w : Volume) (b : ℕ) (value : Bool) (before after : List ℕ) → meta_of g ≤ b → b < homes_of g → is_taken w b ≡ value → ((x : ℕ) → x ≢ b → is_taken v x ≡ is_taken w x)
    → ShowsPage g v (zone_bitmap (zone_in g b)) before → IsPage after → bit_of after ((b - meta_of g) % zone_size g) ≡ (if value then 1 else 0) → ((k : ℕ) → k ≢ (b - meta_of g) % zone_size g → bit_of after k ≡ bit_of before k)
    → ShowsPage g w (zone_bitmap (zone_in g b)) after
mark-put g v w b value before after high home is same s form bit rest =
    let at = (b - meta_of g) % zone_size g in
    let here = zone-place g b high in
    marks-one g v w (zone_in g b) at value before after (zone-low g b high home) (zone-rest g b) (ap (λ (x : ℕ). is_taken w x) here ∙ is)
    (λ k l other. same (zone_block g (zone_in g b) k) (λ e. other (let f = e ∙ sym here in omega arith))) s form bit rest

-- the blocks of an inode that it has no more are cleared
pub marks-gone : (g : Geometry) (v w : Volume) (i zone : ℕ) (gone : ℕ → Bool) (before after : List ℕ) → AreUses g v → AreOthers v w i → zone < queues_of g
    → ((b : ℕ) → gone b ≡ true → (has_block (node v i) b ≡ true) × (has_block (node w i) b ≡ false)) → ((b : ℕ) → gone b ≡ false → has_block (node v i) b ≡ has_block (node w i) b)
    → ShowsPage g v (zone_bitmap zone) before → IsPage after → ((k : ℕ) → k < zone_size g → gone (zone_block g zone k) ≡ true → bit_of after k ≡ 0)
    → ((k : ℕ) → (k < zone_size g → gone (zone_block g zone k) ≡ false) → bit_of after k ≡ bit_of before k) → ShowsPage g w (zone_bitmap zone) after
marks-gone g v w i zone gone before after uses o low lost left s form bits rest =
    marks-cleared g v w zone gone before after low (λ b y. let r = lost b y in gone-free g v w i b uses o r.0 r.1) (λ b n. taken-same v w i b o (left b n)) s form bits rest
