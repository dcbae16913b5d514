-- An inode that is freed: its blocks, its bit, and what it says.
use Rattle.std.proofs.Common.{◌≡◌, ◌≢◌, ℕ, ◌<◌, ◌≤◌, inl, inr, List, [], ◌∷◌, length, length-set, true, false, sym, ap, subst, ◌∙◌, arith}
use Rattle.std.specs.Prelude.{Some, None, ◌↔◌}
use Rattle.std.proofs.lemmas.Bool.{cases_Bool, false_from_ne_true, true≢false}
use Rattle.std.proofs.lemmas.Option.{none-some}
use Rattle.mq_blocks.proofs.JournalAmong.{among-apart, among-cons, among-one}
use Rattle.mq_blocks.specs.Geometry.{meta_of, queues_of}
use Rattle.mq_blocks.specs.Journal.{is_among}
use Rattle.mq_blocks.specs.declared.geometry.Geometry.{Geometry}
use Rattle.mq_inodes.specs.Changes.{IsCleared, IsInodeMarked, IsInodePut, IsInodeTurned, IsMarkTurned, IsOfFile, Stepped, zone_in}
use Rattle.mq_inodes.specs.Edits.{Becomes, Carries, IsOver, KeepsKinds}
use Rattle.mq_inodes.specs.Opened.{IsOpened, IsReleasable}
use Rattle.mq_inodes.specs.Pages.{IsHeld, kinds_of, pages_of}
use Rattle.mq_inodes.specs.Released.{IsReleased, Releases, gone_from}
use Rattle.mq_inodes.specs.declared.opened.Opened.{Opened}
use Rattle.mq_inodes.specs.declared.working.Working.{Working}
use Rattle.mq_inodes.proofs.EditsBecoming.{becomes-stepped}
use Rattle.mq_inodes.proofs.PagesHeld.{bitmap-low, held-known, held-same, table-low}
use Rattle.mq_inodes.proofs.ChangesFrame.{same-bool}
use Rattle.mq_inodes.proofs.ChangesGone.{bitmap-in, cleared-by, gone-opened, listed-zone, zone-listed, zones_of}
use Rattle.mq_inodes.proofs.ChangesInodes.{AreFreed, freed-step}
use Rattle.mq_inodes.proofs.ChangesLists.{freed-listed, freed_list, listed-own, own-listed, own_blocks}
use Rattle.mq_inodes.proofs.ChangesVolumes.{freed-uses}
use Rattle.mq_inodes.proofs.Released.{held-along, released-low, released-meta}
use Rattle.mq_layout.specs.Empty.{free_inode}
use Rattle.mq_layout.specs.Places.{inode_bitmap, inode_block, inodes_of, zone_bitmap}
use Rattle.mq_pages.specs.declared.page.Kind.{Kind}
use Rattle.mq_pages.specs.declared.page.Kind.TheVariants.{Data}
use Rattle.mq_tree.specs.Requests.{freed}
use Rattle.mq_tree.specs.Volume.{Node, Volume, free_node, has_block, node}
use Rattle.mq_tree.proofs.LaidMaps.{zone-low}

-- ---- pages that are held

-- behind the freeing of blocks
pub table-held : (old mid : Working) (i : ℕ) (blocks : List ℕ) → i < inodes_of old.geometry → Releases old mid blocks → IsHeld (pages_of old) (inode_block old.geometry i) → IsHeld (pages_of mid) (inode_block mid.geometry i)
table-held old mid i blocks low s h =
    subst (λ g. IsHeld (pages_of mid) (inode_block g i)) (sym s.over.view.geometry) (held-along old.geometry (pages_of old) (pages_of mid) blocks (inode_block old.geometry i) s.pages (table-low old.geometry i low) h)

pub inside-along : (old mid : Working) (i : ℕ) → IsOver old mid → i < inodes_of old.geometry → i < inodes_of mid.geometry
inside-along old mid i over low = subst (λ g. i < inodes_of g) (sym over.view.geometry) low

pub marks-held : (old mid : Working) (blocks : List ℕ) → Releases old mid blocks → IsHeld (pages_of old) (inode_bitmap old.geometry) → IsHeld (pages_of mid) (inode_bitmap mid.geometry)
marks-held old mid blocks s h =
    subst (λ g. IsHeld (pages_of mid) (inode_bitmap g)) (sym s.over.view.geometry) (held-along old.geometry (pages_of old) (pages_of mid) blocks (inode_bitmap old.geometry) s.pages (bitmap-low old.geometry) h)

-- behind the freeing of blocks and the marking of the inode
pub table-marked : (old mid next : Working) (i : ℕ) (blocks : List ℕ) → i < inodes_of old.geometry → Releases old mid blocks → IsOver mid next → IsInodeMarked mid.geometry (pages_of mid) (pages_of next) i false → IsHeld (pages_of old) (inode_block old.geometry i)
    → IsHeld (pages_of next) (inode_block next.geometry i)
table-marked old mid next i blocks low s over marked h =
    subst (λ g. IsHeld (pages_of next) (inode_block g i)) (sym over.view.geometry)
    (held-same (pages_of mid) (pages_of next) (inode_block mid.geometry i) (marked.put.others (inode_block mid.geometry i) (λ e. absurd (omega arith))) (table-held old mid i blocks low s h))

-- ---- the volume

pub becomes-freed : (v : Volume) (o : Opened) (old mid next new : Working) → Carries old.geometry (pages_of old) v → IsOpened old.geometry v o
    → ((c : ℕ) → is_among c (gone_from o 0) ≡ true → IsReleasable old.geometry (pages_of old) c) → IsHeld (pages_of old) (inode_block old.geometry o.number) → IsHeld (pages_of old) (inode_bitmap old.geometry)
    → Releases old mid (gone_from o 0) → IsOver mid next → KeepsKinds mid next → IsInodeMarked mid.geometry (pages_of mid) (pages_of next) o.number false → KeepsKinds next new → IsInodePut next.geometry (pages_of next) (pages_of new) o.number free_inode
    → Becomes old.geometry v (freed v o.number) old new
becomes-freed v o old mid next new carries opened may table marks s over keeps marked keep put_inode =
    becomes-stepped g v (freed v i) old new list carries (freed-uses g v i carries.uses inside) (length-set v i free_node) stepped known rest_kinds put_kinds
  where
    g : Geometry
    g = old.geometry

    i : ℕ
    i = o.number

    n : Node
    n = node v i

    inside : i < length v
    inside = let c = carries.count in let l = opened.low in omega arith

    own : List ℕ
    own = own_blocks n

    is : gone_from o 0 ≡ own
    is = gone-opened g v o 0 opened

    r : IsReleased g (pages_of old) (pages_of mid) own
    r = subst (λ xs. IsReleased g (pages_of old) (pages_of mid) xs) is s.pages

    releasable : (c : ℕ) → is_among c own ≡ true → IsReleasable g (pages_of old) c
    releasable c y = may c (ap (λ (xs : List ℕ). is_among c xs) is ∙ y)

    m : IsInodeMarked g (pages_of mid) (pages_of next) i false
    m = subst (λ x. IsInodeMarked x (pages_of mid) (pages_of next) i false) s.over.view.geometry marked

    p : IsInodePut g (pages_of next) (pages_of new) i free_inode
    p = subst (λ x. IsInodePut x (pages_of next) (pages_of new) i free_inode) (over.view.geometry ∙ s.over.view.geometry) put_inode

    list : List ℕ
    list = freed_list g i (zones_of g own) n

    two : List ℕ
    two = inode_block g i ∷ inode_bitmap g ∷ []

    listed : AreFreed g v i list
    listed = freed-listed g v i (zones_of g own) (λ c h. zone-listed g own c (own-listed n c h))
        (λ z y. let t = listed-zone g own z y in let b = r.inside t.0 t.1 in let l = zone-low g t.0 b.0 b.1 in subst (λ x. x < queues_of g) (sym t.2) l)

    low : inode_block g i < meta_of g
    low = table-low g i opened.low

    behind : (x : ℕ) → x ≢ inode_block g i → x ≢ inode_bitmap g → pages_of new x ≡ pages_of mid x
    behind x a b = p.put.others x a ∙ m.put.others x b

    high : (x : ℕ) → meta_of g ≤ x → pages_of new x ≡ pages_of mid x
    high x h = let b = bitmap-low g in behind x (λ e. omega arith) (λ e. omega arith)

    in-two : (x : ℕ) → meta_of g ≤ x → is_among x two ≡ false
    in-two x h = false_from_ne_true _ (λ y. elim (among-cons (inode_block g i) x (inode_bitmap g ∷ []) y) [
      | inl e ↦ absurd (omega arith)
      | inr later ↦ let e = among-one (inode_bitmap g) x later in let b = bitmap-low g in absurd (omega arith)
    ])

    not-own : (x : ℕ) → is_among x list ≡ false → is_among x own ≡ false
    not-own x out = false_from_ne_true _ (λ y. true≢false (sym (listed.own x (listed-own n x y)).0 ∙ out))

    rest : (x : ℕ) → is_among x list ≡ false → pages_of new x ≡ pages_of old x
    rest x out = behind x (among-apart list (inode_block g i) x listed.inode out) (among-apart list (inode_bitmap g) x listed.used out)
        ∙ r.rest x (not-own x out) (λ c y. among-apart list (zone_bitmap (zone_in g c)) x (listed.own c (listed-own n c y)).1 out)

    turned : IsInodeTurned g (pages_of old) (pages_of new) i free_inode
    turned = record {
      before = p.before;
      after = p.after;
      turns = record {
        was = sym (m.put.others (inode_block g i) (λ e. omega arith) ∙ released-meta g (pages_of old) (pages_of mid) own (inode_block g i) r low (λ zone l e. omega arith)) ∙ p.was;
        now = p.put.here;
        form = p.form;
      };
      is = p.is;
    }

    cleared : IsMarkTurned g (pages_of old) (pages_of new) i false
    cleared = record {
      before = m.before;
      after = m.after;
      turns = record {
        was = sym (released-meta g (pages_of old) (pages_of mid) own (inode_bitmap g) r (bitmap-low g) (λ zone l e. omega arith)) ∙ m.was;
        now = p.put.others (inode_bitmap g) (λ e. omega arith) ∙ m.put.here;
        form = m.form;
      };
      bit = m.bit;
      rest = m.rest;
    }

    zones : (zone : ℕ) → zone < queues_of g → is_among (zone_bitmap zone) list ≡ true → IsCleared g (pages_of old) (pages_of new) zone (has_block n)
    zones zone l y =
        let first : is_among (zone_bitmap zone) two ≡ false = false_from_ne_true _ (λ h. elim (among-cons (inode_block g i) (zone_bitmap zone) (inode_bitmap g ∷ []) h) [
          | inl e ↦ absurd (omega arith)
          | inr later ↦ let e = among-one (inode_bitmap g) (zone_bitmap zone) later in absurd (omega arith)
        ]) in
        let m_low = g.meta_low in
        let t = bitmap-in g two own own (zone_bitmap zone) y first (released-low g (pages_of old) (pages_of mid) own (zone_bitmap zone) r (omega arith)) in
        cleared-by g v (pages_of old) (pages_of mid) (pages_of new) zone own (has_block n) carries.fits r l (subst (λ b. IsHeld (pages_of old) b) (sym t.2) (releasable t.0 t.1).marks.marks)
        (behind (zone_bitmap zone) (λ e. omega arith) (λ e. omega arith)) (λ b. same-bool _ _ (own-listed n b) (listed-own n b))

    stepped : Stepped g v (freed v i) (pages_of new) list
    stepped = freed-step g v i list (pages_of old) (pages_of new) carries.uses inside opened.low listed carries.fits rest turned cleared
        (λ c h. let y = own-listed n c h in high c (r.inside c y).0 ∙ r.free c y) zones

    known : (b : ℕ) → is_among b list ≡ true → pages_of old b ≢ None
    known b y = elim (cases_Bool (is_among b own)) [
      | inl mine ↦ (releasable b mine).known
      | inr other ↦ elim (cases_Bool (is_among b two)) [
        | inl first ↦ elim (among-cons (inode_block g i) b (inode_bitmap g ∷ []) first) [
          | inl e ↦ subst (λ x. pages_of old x ≢ None) (sym e) (held-known (pages_of old) (inode_block g i) table)
          | inr later ↦ subst (λ x. pages_of old x ≢ None) (sym (among-one (inode_bitmap g) b later)) (held-known (pages_of old) (inode_bitmap g) marks)
        ]
        | inr none ↦
            let t = bitmap-in g two own own b y none other in
            subst (λ x. pages_of old x ≢ None) (sym t.2) (held-known (pages_of old) (zone_bitmap (zone_in g t.0)) (releasable t.0 t.1).marks.marks)
      ]
    ]

    kinds-behind : (b : ℕ) → meta_of g ≤ b → kinds_of new b ≡ kinds_of mid b
    kinds-behind b h = keep b (subst (λ x. meta_of x ≤ b) (sym (over.view.geometry ∙ s.over.view.geometry)) h) ∙ keeps b (subst (λ x. meta_of x ≤ b) (sym s.over.view.geometry) h)

    rest_kinds : (b : ℕ) → meta_of g ≤ b → is_among b list ≡ false → kinds_of new b ≡ kinds_of old b
    rest_kinds b h out = kinds-behind b h ∙ s.kinds b h (ap (λ (xs : List ℕ). is_among b xs) is ∙ not-own b out)

    put_kinds : (b : ℕ) (kind : Kind) → meta_of g ≤ b → is_among b list ≡ true → kinds_of new b ≡ Some kind → (kind ≡ Data) ↔ IsOfFile (freed v i) b
    put_kinds b kind h y e = elim (cases_Bool (is_among b own)) [
      | inl mine ↦ absurd (none-some kind (sym (kinds-behind b h ∙ s.none b (ap (λ (xs : List ℕ). is_among b xs) is ∙ mine)) ∙ e))
      | inr other ↦
          let t = bitmap-in g two own own b y (in-two b h) other in
          let c = r.inside t.0 t.1 in
          let l = zone-low g t.0 c.0 c.1 in
          let m_low = g.meta_low in
          let same = t.2 in
          absurd (omega arith)
    ]
