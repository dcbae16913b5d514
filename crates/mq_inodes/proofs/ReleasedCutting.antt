-- A file that is cut: its blocks past the new end, its pointers, and what its inode says.
use Rattle.std.proofs.Common.{get_or, ◌≡◌, ◌≢◌, ℕ, ◌+◌, ◌<◌, ◌≤◌, ◌⊎◌, inl, inr, List, [], ◌∷◌, length, length-set, drop, take, Bool, true, false, cond, refl, sym, ap, subst, ◌∙◌, arith}
use Rattle.std.specs.Prelude.{Option, Some, None, ◌↔◌, is_some, nat_lt, if◌then◌else◌}
use Rattle.std.proofs.lemmas.Bool.{cases_Bool, cases_lt, false_from_ne_true, lt-ltb, ltb-true, true≢false}
use Rattle.std.proofs.lemmas.List.{get_or_default, get_or_past, same_lists}
use Rattle.std.proofs.lemmas.Option.{none-some, same_Some}
use Rattle.mq_blocks.proofs.JournalAmong.{among-apart, among-cons, among-either, among-here, among-parts}
use Rattle.mq_blocks.specs.Geometry.{meta_of, queues_of}
use Rattle.mq_blocks.specs.Journal.{is_among}
use Rattle.mq_blocks.specs.declared.geometry.Geometry.{Geometry}
use Rattle.mq_inodes.specs.Changes.{IsCleared, IsInodePut, IsInodeTurned, IsOfFile, IsPointersCut, Stepped, zone_in}
use Rattle.mq_inodes.specs.Edits.{Becomes, Carries, KeepsKinds, KindsFit}
use Rattle.mq_inodes.specs.Opened.{HoldsPointers, IsOpened, IsReleasable, MayCut, cut_file}
use Rattle.mq_inodes.specs.Pages.{IsHeld, Pages, content, kinds_of, pages_of}
use Rattle.mq_inodes.specs.Released.{CutsPointers, IsCutInode, IsReleased, Releases, gone_from}
use Rattle.mq_inodes.specs.declared.opened.Opened.{Opened}
use Rattle.mq_inodes.specs.declared.working.Working.{Working}
use Rattle.mq_inodes.proofs.EditsBecoming.{becomes-fitted}
use Rattle.mq_inodes.proofs.ReleasedInodes.{inside-along, table-held}
use Rattle.mq_inodes.proofs.PagesHeld.{held-known, held-same, table-low}
use Rattle.mq_inodes.proofs.OpenedLookups.{opened-pointers}
use Rattle.mq_inodes.proofs.ChangesBodies.{inode-form}
use Rattle.mq_inodes.proofs.ChangesCut.{AreCut, cut-step}
use Rattle.mq_inodes.proofs.ChangesGone.{bitmap-in, cleared-by, gone-has, gone-left, gone-opened, gone_node, listed-zone, zone-listed, zones_of}
use Rattle.mq_inodes.proofs.ChangesKinds.{meta-not-data, pointers-not-file}
use Rattle.mq_inodes.proofs.ChangesLists.{cut-listed, cut_list, if_some, listed-drop, some-is}
use Rattle.mq_inodes.proofs.ChangesVolumes.{cut-uses}
use Rattle.mq_inodes.proofs.LaidPadded.{padded-cut, padded-past}
use Rattle.mq_inodes.proofs.Released.{high-marks, released-meta}
use Rattle.mq_inodes.proofs.FitsShowing.{use-carried}
use Rattle.mq_layout.specs.Inodes.{IsInode}
use Rattle.mq_layout.specs.Places.{file_limit, inode_block, inodes_of, zone_bitmap}
use Rattle.mq_layout.specs.declared.inode.Inode.{Inode}
use Rattle.mq_pages.specs.declared.page.Kind.{Kind}
use Rattle.mq_pages.specs.declared.page.Kind.TheVariants.{Data, Meta}
use Rattle.mq_tree.proofs.CleanLaid.{inode-parts, length-padded}
use Rattle.mq_tree.specs.Laid.{inode_of, kind_of, or_zero, padded, size_of}
use Rattle.mq_tree.specs.Links.{HasLinks}
use Rattle.mq_tree.specs.Volume.{Body, File, Node, Part, Pointers, Volume, body, has_block, is_used, node, cut_node}
use Rattle.mq_tree.proofs.FreeUses.{node-here}
use Rattle.mq_tree.specs.Uses.{AreUses}
use Rattle.mq_tree.proofs.LaidMaps.{zone-low}
use Rattle.mq_tree.proofs.LaidUses.{use-has}

-- ---- what the inode says

cut-inode : (n : Node) (count : ℕ) (bytes now : List ℕ) (old new : Inode) → n.body ≡ File bytes → old ≡ inode_of n → IsCutInode old new count (length now) → new ≡ inode_of (cut_node n count now)
cut-inode n count bytes now old new is opened c =
    inode-parts new (inode_of (cut_node n count now)) (c.kind ∙ ap (λ (x : Inode). x.kind) opened ∙ ap kind_of is) (c.links ∙ ap (λ (x : Inode). x.links) opened) c.size_is (same_lists _ _ (t ∙ sym m) same)
    (c.indirect ∙ ap (λ (x : Inode). if nat_lt 12 count then x.indirect else 0) opened ∙ either (nat_lt 12 count) n.indirect)
  where
    t : length new.direct ≡ 12
    t = c.twelve

    m : length (padded 12 (take count n.blocks)) ≡ 12
    m = length-padded 12 (take count n.blocks)

    at : (k : ℕ) → k < 12 → get_or new.direct k 0 ≡ get_or (padded 12 (take count n.blocks)) k 0
    at k low = elim (cases_lt k count) [
      | inl inside ↦ c.left k low inside ∙ ap (λ (x : Inode). get_or x.direct k 0) opened ∙ sym (padded-cut n.blocks count k low inside)
      | inr past ↦ c.gone k low past ∙ sym (padded-past n.blocks count k low past)
    ]

    same : (k d : ℕ) → k < length new.direct → get_or new.direct k d ≡ get_or (padded 12 (take count n.blocks)) k d
    same k d l = get_or_default new.direct k d 0 l ∙ at k (omega (arith, t)) ∙ get_or_default (padded 12 (take count n.blocks)) k 0 d (omega (arith, t, m))

    either : (u : Bool) (x : Option ℕ) → cond u (or_zero x) 0 ≡ or_zero (cond u x None)
    either true x = refl
    either false x = refl

-- ---- the pointers

-- its block of pointers is not among the blocks that it has no more
pointers-stay : (g : Geometry) (v : Volume) (i count : ℕ) (now : List ℕ) (p : ℕ) → AreUses g v → i < length v → 12 < count → (node v i).indirect ≡ Some p → is_among p (gone_node count (node v i)) ≡ false
pointers-stay g v i count now p uses inside many had =
    let w = cut_file v i count now in
    let kept : (node w i).indirect ≡ Some p = ap (λ (m : Node). m.indirect) (node-here v i (cut_node (node v i) count now) inside) ∙ ap (λ (t : Bool). if t then (node v i).indirect else None) (lt-ltb 12 count many) ∙ had in
    false_from_ne_true _ (λ y. true≢false (sym (use-has (node w i) p (inr kept)) ∙ (gone-has g v i count now p uses inside y).1))

opened-inside : (g : Geometry) (pages : Pages) (v : Volume) (o : Opened) → Carries g pages v → IsOpened g v o → o.number < length v
opened-inside g pages v o carries opened = let c = carries.count in let l = opened.low in omega arith

-- ---- what the edits require

-- the block of pointers is one of the zones
pub pointers-high : (v : Volume) (o : Opened) (old : Working) → Carries old.geometry (pages_of old) v → IsOpened old.geometry v o → 12 < length o.blocks.items → meta_of old.geometry ≤ o.inode.indirect
pointers-high v o old carries opened many = (carries.uses.zones (Pointers o.number) o.inode.indirect (opened-pointers old.geometry v o opened many)).0

pub pointers-held : (v : Volume) (o : Opened) (count : ℕ) (bytes now : List ℕ) (old mid : Working) → Carries old.geometry (pages_of old) v → MayCut old.geometry v o count bytes now → HoldsPointers (pages_of old) o → Releases old mid (gone_from o count) → 12 < count
    → IsHeld (pages_of mid) o.inode.indirect
pointers-held v o count bytes now old mid carries may holds s many =
    let g = old.geometry in
    let p = o.inode.indirect in
    let few = may.few in
    let blocks : 12 < length o.blocks.items = omega arith in
    let had = opened-pointers g v o may.opened blocks in
    let high = pointers-high v o old carries may.opened blocks in
    let out = pointers-stay g v o.number count now p carries.uses (opened-inside g (pages_of old) v o carries may.opened) many had in
    let same = s.pages.rest p (ap (λ (xs : List ℕ). is_among p xs) (gone-opened g v o count may.opened) ∙ out) (λ c y e. let b = s.pages.inside c y in high-marks g p (zone_in g c) high (zone-low g c b.0 b.1) (sym e)) in
    held-same (pages_of old) (pages_of mid) p same (holds blocks)

table-along : (mid next : Working) (i p have count : ℕ) → i < inodes_of mid.geometry → CutsPointers mid next p have count → (12 < count → meta_of mid.geometry ≤ p) → IsHeld (pages_of mid) (inode_block mid.geometry i) → IsHeld (pages_of next) (inode_block next.geometry i)
table-along mid next i p have count low c high held =
    let l = table-low mid.geometry i low in
    subst (λ g. IsHeld (pages_of next) (inode_block g i)) (sym c.over.view.geometry)
    (held-same (pages_of mid) (pages_of next) (inode_block mid.geometry i) (c.others (inode_block mid.geometry i) (λ many more e. let h = high many in omega arith)) held)

pub table-cut : (o : Opened) (count : ℕ) (old mid next : Working) → o.number < inodes_of old.geometry → count ≤ length o.blocks.items → (12 < length o.blocks.items → meta_of old.geometry ≤ o.inode.indirect) → IsHeld (pages_of old) (inode_block old.geometry o.number)
    → Releases old mid (gone_from o count) → CutsPointers mid next o.inode.indirect (length o.blocks.items) count → IsHeld (pages_of next) (inode_block next.geometry o.number)
table-cut o count old mid next low few high held s c =
    table-along mid next o.number o.inode.indirect (length o.blocks.items) count (inside-along old mid o.number s.over low) c (λ many. subst (λ g. meta_of g ≤ o.inode.indirect) (sym s.over.view.geometry) (high (omega arith))) (table-held old mid o.number (gone_from o count) low s held)

pub cut-form : (g : Geometry) (pages : Pages) (v : Volume) (o : Opened) (count : ℕ) (bytes now : List ℕ) (inode : Inode) → Carries g pages v → MayCut g v o count bytes now → IsCutInode o.inode inode count (length now) → IsInode inode
cut-form g pages v o count bytes now inode carries may says =
    let i = o.number in
    let w = cut_file v i count now in
    let inside = opened-inside g pages v o carries may.opened in
    let here : node w i ≡ cut_node (node v i) count now = node-here v i (cut_node (node v i) count now) inside in
    let is_file : body w i ≡ File now = ap (λ (m : Node). m.body) here in
    let good = inode-form g w i (cut-uses g v i count now carries.uses inside (subst (λ (x : Body). HasLinks x (node v i).links) may.is (carries.uses.links i))) (ap is_used is_file) (subst (λ (x : Body). size_of x (length (node w i).blocks) ≤ file_limit) (sym is_file) may.size) in
    subst IsInode (ap inode_of here ∙ sym (cut-inode (node v i) count bytes now o.inode inode may.is may.opened.inode says)) good

-- ---- the volume

-- what is known before, and how the pages changed
pub record Cuts (v : Volume) (o : Opened) (count : ℕ) (bytes now : List ℕ) (old mid next new : Working) (inode : Inode) : Type 0 where
  pub carries : Carries old.geometry (pages_of old) v
  pub may : MayCut old.geometry v o count bytes now
  pub releasable : (c : ℕ) → is_among c (gone_from o count) ≡ true → IsReleasable old.geometry (pages_of old) c
  pub table : IsHeld (pages_of old) (inode_block old.geometry o.number)
  pub held : HoldsPointers (pages_of old) o
  pub released : Releases old mid (gone_from o count)
  pub pointers : CutsPointers mid next o.inode.indirect (length o.blocks.items) count
  pub keeps : KeepsKinds next new
  pub put : IsInodePut next.geometry (pages_of next) (pages_of new) o.number inode
  pub says : IsCutInode o.inode inode count (length now)

pub becomes-cut : (v : Volume) (o : Opened) (count : ℕ) (bytes now : List ℕ) (old mid next new : Working) (inode : Inode) → Cuts v o count bytes now old mid next new inode → Becomes old.geometry v (cut_file v o.number count now) old new
becomes-cut v o count bytes now old mid next new inode h =
    becomes-fitted g v w old new list h.carries fine (length-set v i (cut_node n count now)) stepped known rest_kinds put_kinds
  where
    g : Geometry
    g = old.geometry

    i : ℕ
    i = o.number

    n : Node
    n = node v i

    w : Volume
    w = cut_file v i count now

    p : ℕ
    p = o.inode.indirect

    have : ℕ
    have = length o.blocks.items

    uses : AreUses g v
    uses = h.carries.uses

    opened : IsOpened g v o
    opened = h.may.opened

    inside : i < length v
    inside = opened-inside g (pages_of old) v o h.carries opened

    fine : AreUses g w
    fine = cut-uses g v i count now uses inside (subst (λ (x : Body). HasLinks x (node v i).links) h.may.is (uses.links i))

    here : node w i ≡ cut_node n count now
    here = node-here v i (cut_node n count now) inside

    geometry : next.geometry ≡ g
    geometry = h.pointers.over.view.geometry ∙ h.released.over.view.geometry

    -- the blocks that it has no more
    gone : List ℕ
    gone = gone_node count n

    is : gone_from o count ≡ gone
    is = gone-opened g v o count opened

    r : IsReleased g (pages_of old) (pages_of mid) gone
    r = subst (λ xs. IsReleased g (pages_of old) (pages_of mid) xs) is h.released.pages

    releasable : (c : ℕ) → is_among c gone ≡ true → IsReleasable g (pages_of old) c
    releasable c y = h.releasable c (ap (λ (xs : List ℕ). is_among c xs) is ∙ y)

    lost : (c : ℕ) → is_among c gone ≡ true → (has_block n c ≡ true) × (has_block (node w i) c ≡ false)
    lost c y = gone-has g v i count now c uses inside y

    left : (c : ℕ) → is_among c gone ≡ false → has_block n c ≡ has_block (node w i) c
    left c out = gone-left v i count now c inside out

    lacks-gone : (c : ℕ) → has_block n c ≡ true → has_block (node w i) c ≡ false → is_among c gone ≡ true
    lacks-gone c had has = elim (cases_Bool (is_among c gone)) [
      | inl y ↦ y
      | inr out ↦ absurd (true≢false (sym had ∙ left c out ∙ has))
    ]

    -- its pointers
    far : 12 < count → n.indirect ≡ Some p
    far many = let f = h.may.few in opened-pointers g v o opened (omega arith)

    kept : 12 < count → (node w i).indirect ≡ Some p
    kept many = ap (λ (m : Node). m.indirect) here ∙ ap (λ (t : Bool). if t then n.indirect else None) (lt-ltb 12 count many) ∙ far many

    high_pointers : 12 < count → meta_of g ≤ p
    high_pointers many = (uses.zones (Pointers i) p (far many)).0

    pointers-apart : (c : ℕ) → is_among c gone ≡ true → 12 < count → c ≢ p
    pointers-apart c y many e = true≢false (sym y ∙ ap (λ (x : ℕ). is_among x gone) e ∙ pointers-stay g v i count now p uses inside many (far many))

    pointer-is : (c : ℕ) → n.indirect ≡ Some c → c ≡ p
    pointer-is c e = sym (ap (λ (x : Inode). x.indirect) opened.inode ∙ ap or_zero e)

    -- the listed blocks
    first : List ℕ
    first = inode_block g i ∷ if_some n.indirect

    list : List ℕ
    list = cut_list g i count (zones_of g gone) n

    listed : AreCut g v w i count list
    listed = cut-listed g v i count now (zones_of g gone) uses inside (λ c had has. zone-listed g gone c (lacks-gone c had has))
        (λ z y. let t = listed-zone g gone z y in let b = r.inside t.0 t.1 in let l = zone-low g t.0 b.0 b.1 in subst (λ x. x < queues_of g) (sym t.2) l)

    dropped-gone : (c : ℕ) → is_among c gone ≡ false → is_among c (drop count n.blocks) ≡ false
    dropped-gone c out = (among-parts (drop count n.blocks) (if nat_lt 12 count then [] else if_some n.indirect) c out).0

    gone-listed : (c : ℕ) → is_among c gone ≡ true → is_among c list ≡ true
    gone-listed c y = elim (among-either (drop count n.blocks) (if nat_lt 12 count then [] else if_some n.indirect) c y) [
      | inl d ↦ let t = listed-drop count n.blocks c d in listed.past t.0 c t.1 t.2
      | inr q ↦ listed.pointers c (pointer (nat_lt 12 count) q)
    ]
      where
        pointer : (t : Bool) → is_among c (if t then [] else if_some n.indirect) ≡ true → n.indirect ≡ Some c
        pointer true q = absurd (true≢false (sym q))
        pointer false q = some-is n.indirect c q

    not-gone : (c : ℕ) → is_among c list ≡ false → is_among c gone ≡ false
    not-gone c out = false_from_ne_true _ (λ y. true≢false (sym (gone-listed c y) ∙ out))

    low : inode_block g i < meta_of g
    low = table-low g i opened.low

    -- the pages
    m : IsInodePut g (pages_of next) (pages_of new) i (inode_of (cut_node n count now))
    m = subst (λ x. IsInodePut g (pages_of next) (pages_of new) i x) (cut-inode n count bytes now o.inode inode h.may.is opened.inode h.says) (subst (λ x. IsInodePut x (pages_of next) (pages_of new) i inode) geometry h.put)

    behind : (x : ℕ) → x ≢ inode_block g i → (12 < count → x ≢ p) → pages_of new x ≡ pages_of mid x
    behind x a b = m.put.others x a ∙ h.pointers.others x (λ many more. b many)

    meta : (x : ℕ) → x < meta_of g → x ≢ inode_block g i → pages_of new x ≡ pages_of mid x
    meta x l other = behind x other (λ many e. let b = high_pointers many in omega arith)

    rest : (x : ℕ) → is_among x list ≡ false → pages_of new x ≡ pages_of old x
    rest x out = behind x (among-apart list (inode_block g i) x listed.inode out) (λ many. among-apart list p x (listed.pointers p (far many)) out)
        ∙ r.rest x (not-gone x out) (λ c y. let l = lost c y in among-apart list (zone_bitmap (zone_in g c)) x (listed.zones c l.0 l.1) out)

    turned : IsInodeTurned g (pages_of old) (pages_of new) i (inode_of (cut_node n count now))
    turned = record {
      before = m.before;
      after = m.after;
      turns = record {
        was = sym (h.pointers.others (inode_block g i) (λ many more e. let b = high_pointers many in omega arith) ∙ released-meta g (pages_of old) (pages_of mid) gone (inode_block g i) r low (λ zone l e. omega arith)) ∙ m.was;
        now = m.put.here;
        form = m.form;
      };
      is = m.is;
    }

    pointers-mid : 12 < count → pages_of mid p ≡ pages_of old p
    pointers-mid many =
        let high = high_pointers many in
        r.rest p (pointers-stay g v i count now p uses inside many (far many)) (λ x y e. let b = r.inside x y in high-marks g p (zone_in g x) high (zone-low g x b.0 b.1) (sym e))

    pointers-turned : 12 < count → IsPointersCut (pages_of old) (pages_of new) p count
    pointers-turned many = elim (cases_lt count have) [
      | inl more ↦
          let c = h.pointers.cut many more in
          let high = high_pointers many in
          record {
            before = c.before;
            after = c.after;
            turns = record {
              was = sym (pointers-mid many) ∙ c.turns.was;
              now = m.put.others p (λ e. omega arith) ∙ c.turns.now;
              form = c.turns.form;
            };
            left = c.left;
            cut = c.cut;
          }
      | inr all ↦
          let high = high_pointers many in
          let few = h.may.few in
          let page = content (pages_of old p) in
          let there : pages_of old p ≡ Some (Some page) = h.held (omega arith) in
          let shown = use-carried g (pages_of old) v (Pointers i) p page h.carries (far many) there in
          let size : length n.blocks ≡ have = ap (λ (xs : List ℕ). length xs) (sym opened.blocks) in
          record {
            before = page;
            after = page;
            turns = record {
              was = there;
              now = m.put.others p (λ e. omega arith) ∙ h.pointers.others p (λ _ more. absurd (omega arith)) ∙ pointers-mid many ∙ there;
              form = shown.form;
            };
            left = λ k l before. refl;
            cut = λ k l past. shown.shows k l ∙ get_or_past n.blocks (12 + k) 0 (omega arith);
          }
    ]

    cut : (q : ℕ) → (node w i).indirect ≡ Some q → IsPointersCut (pages_of old) (pages_of new) q count
    cut q e = at (nat_lt 12 count) refl (sym (ap (λ (x : Node). x.indirect) here) ∙ e)
      where
        at : (t : Bool) → nat_lt 12 count ≡ t → (if t then n.indirect else None) ≡ Some q → IsPointersCut (pages_of old) (pages_of new) q count
        at true y had = subst (λ x. IsPointersCut (pages_of old) (pages_of new) x count) (sym (pointer-is q had)) (pointers-turned (ltb-true 12 count y))
        at false y had = absurd (none-some q had)

    in-first : (x : ℕ) → is_among x first ≡ true → (x ≡ inode_block g i) ⊎ (n.indirect ≡ Some x)
    in-first x y = elim (among-cons (inode_block g i) x (if_some n.indirect) y) [
      | inl e ↦ inl e
      | inr later ↦ inr (some-is n.indirect x later)
    ]

    dropped-high : (x : ℕ) → x < meta_of g → is_among x (drop count n.blocks) ≡ false
    dropped-high x l = false_from_ne_true _ (λ y. let t = listed-drop count n.blocks x y in let z = (uses.zones (Part i t.0) x t.2).0 in absurd (omega arith))

    zones : (zone : ℕ) → zone < queues_of g → is_among (zone_bitmap zone) list ≡ true → IsCleared g (pages_of old) (pages_of new) zone (λ b. is_among b gone)
    zones zone l y =
        let m_low = g.meta_low in
        let none : is_among (zone_bitmap zone) first ≡ false = false_from_ne_true _ (λ f. elim (in-first (zone_bitmap zone) f) [
          | inl e ↦ absurd (omega arith)
          | inr e ↦ let z = (uses.zones (Pointers i) (zone_bitmap zone) e).0 in absurd (omega arith)
        ]) in
        let t = bitmap-in g first gone (drop count n.blocks) (zone_bitmap zone) y none (dropped-high (zone_bitmap zone) (omega arith)) in
        cleared-by g v (pages_of old) (pages_of mid) (pages_of new) zone gone (λ b. is_among b gone) h.carries.fits r l (subst (λ b. IsHeld (pages_of old) b) (sym t.2) (releasable t.0 t.1).marks.marks)
        (meta (zone_bitmap zone) (omega arith) (λ e. omega arith)) (λ b. refl)

    stepped : Stepped g v w (pages_of new) list
    stepped = cut-step g v i count bytes now list (λ b. is_among b gone) (pages_of old) (pages_of new) uses inside opened.low h.may.is h.may.size h.may.same listed lost left h.carries.fits rest turned cut
        (λ c y. behind c (λ e. let b = (r.inside c y).0 in omega arith) (pointers-apart c y) ∙ r.free c y) zones

    known : (b : ℕ) → is_among b list ≡ true → pages_of old b ≢ None
    known b y = elim (cases_Bool (is_among b gone)) [
      | inl mine ↦ (releasable b mine).known
      | inr other ↦ elim (cases_Bool (is_among b first)) [
        | inl f ↦ elim (in-first b f) [
          | inl e ↦ subst (λ x. pages_of old x ≢ None) (sym e) (held-known (pages_of old) (inode_block g i) h.table)
          | inr e ↦ subst (λ x. pages_of old x ≢ None) (sym (pointer-is b e)) (held-known (pages_of old) p (h.held (many b e)))
        ]
        | inr none ↦
            let t = bitmap-in g first gone (drop count n.blocks) b y none (dropped-gone b other) in
            subst (λ x. pages_of old x ≢ None) (sym t.2) (held-known (pages_of old) (zone_bitmap (zone_in g t.0)) (releasable t.0 t.1).marks.marks)
      ]
    ]
      where
        many : (c : ℕ) → n.indirect ≡ Some c → 12 < length o.blocks.items
        many c e = subst (λ (xs : List ℕ). 12 < length xs) (sym opened.blocks) (ltb-true 12 (length n.blocks) (sym opened.indirect ∙ ap is_some e))

    -- the kinds
    kinds-behind : (b : ℕ) → meta_of g ≤ b → (12 < count → b ≢ p) → kinds_of new b ≡ kinds_of mid b
    kinds-behind b high other = h.keeps b (subst (λ x. meta_of x ≤ b) (sym geometry) high) ∙ h.pointers.kinds b (λ many more. other many)

    rest_kinds : (b : ℕ) → meta_of g ≤ b → is_among b list ≡ false → kinds_of new b ≡ kinds_of old b
    rest_kinds b high out = kinds-behind b high (λ many. among-apart list p b (listed.pointers p (far many)) out) ∙ h.released.kinds b high (ap (λ (xs : List ℕ). is_among b xs) is ∙ not-gone b out)

    put_kinds : KindsFit g (kinds_of old) v → (b : ℕ) (kind : Kind) → meta_of g ≤ b → is_among b list ≡ true → kinds_of new b ≡ Some kind → (kind ≡ Data) ↔ IsOfFile w b
    put_kinds fit b kind high y e = elim (cases_Bool (is_among b gone)) [
      | inl mine ↦ absurd (none-some kind (sym (kinds-behind b high (pointers-apart b mine) ∙ h.released.none b (ap (λ (xs : List ℕ). is_among b xs) is ∙ mine)) ∙ e))
      | inr other ↦ elim (cases_Bool (is_among b first)) [
        | inl f ↦ elim (in-first b f) [
          | inl same ↦ absurd (omega arith)
          | inr had ↦ at (nat_lt 12 count) refl had (pointer-is b had) other
        ]
        | inr none ↦
            let t = bitmap-in g first gone (drop count n.blocks) b y none (dropped-gone b other) in
            let c = r.inside t.0 t.1 in
            let l = zone-low g t.0 c.0 c.1 in
            let m_low = g.meta_low in
            let same = t.2 in
            absurd (omega arith)
      ]
    ]
      where
        at : (t : Bool) → nat_lt 12 count ≡ t → n.indirect ≡ Some b → b ≡ p → is_among b gone ≡ false → (kind ≡ Data) ↔ IsOfFile w b
        at true far_on had same out =
            let many = ltb-true 12 count far_on in
            let no_file : IsOfFile w b → ⊥ = pointers-not-file g w i b fine (kept many ∙ ap (λ (x : ℕ). Some x) (sym same)) in
            let keeps : kinds_of new b ≡ kinds_of next b = h.keeps b (subst (λ x. meta_of x ≤ b) (sym geometry) high) in
            elim (cases_lt count have) [
              | inl more ↦
                  let is_meta : Meta ≡ kind = same_Some Meta kind (sym (keeps ∙ ap (kinds_of next) same ∙ h.pointers.kind many more) ∙ e) in
                  (λ d. absurd (meta-not-data (is_meta ∙ d)), λ f. absurd (no_file f))
              | inr all ↦
                  let still : kinds_of new b ≡ kinds_of old b = keeps ∙ h.pointers.kinds b (λ _ more. absurd (omega arith)) ∙ h.released.kinds b high (ap (λ (xs : List ℕ). is_among b xs) is ∙ out) in
                  let was = fit b kind high (sym still ∙ e) in
                  (λ d. absurd (pointers-not-file g v i b uses (far many ∙ ap (λ (x : ℕ). Some x) (sym same)) (was.0 d)), λ f. absurd (no_file f))
            ]
        at false near had same out =
            let q = (among-parts (drop count n.blocks) (if nat_lt 12 count then [] else if_some n.indirect) b out).1 in
            let none = ap (λ (t : Bool). is_among b (if t then [] else if_some n.indirect)) (sym near) ∙ q in
            absurd (true≢false (sym (among-here b []) ∙ ap (λ (x : Option ℕ). is_among b (if_some x)) (sym had) ∙ none))
