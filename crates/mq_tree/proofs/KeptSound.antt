-- Each request that acts leaves a sound volume, and changes the tree as it says.
use Rattle.std.proofs.Common.{◌≡◌, ◌≢◌, ℕ, suc, ◌-◌, ◌<◌, ◌≤◌, inl, inr, get_or, Bool, cond, List, [], ◌∷◌, ◌++◌, length, true, false, refl, sym, ap, subst, ◌∙◌, arith}
use Rattle.std.specs.Prelude.{Option, Some, None, option_and_then, reverse}
use Rattle.std.specs.List.{list_all}
use Rattle.std.specs.Str.{bytes_eq}
use Rattle.std.proofs.lemmas.Bool.{and_from, cases_eq, cases_lt, le-leb, lt-leb, true≢false}
use Rattle.std.proofs.lemmas.List.{reverse-append}
use Rattle.std.proofs.lemmas.Option.{none-some, same_Some}
use Rattle.std.proofs.lemmas.Slice.Eq.{bytes_eq-Decides}
use Rattle.mq_blocks.specs.Geometry.{queues_of}
use Rattle.mq_blocks.specs.declared.geometry.Geometry.{Geometry}
use Rattle.mq_layout.specs.Names.{is_name}
use Rattle.mq_layout.specs.Places.{file_limit}
use Rattle.mq_layout.specs.Slots.{Entry}
use Rattle.mq_tree.specs.Free.{free_blocks}
use Rattle.mq_tree.specs.Kept.{IsAdded, IsBare, IsLinked, IsRemoved, IsRenamed, IsRewritten}
use Rattle.mq_tree.specs.Requests.{freed, is_below, linked, resized, unlinked, with_links}
use Rattle.mq_tree.specs.Sound.{AreBytes, IsBody, IsSound}
use Rattle.mq_tree.specs.Links.{AreCounted, links_to}
use Rattle.mq_tree.specs.Volume.{AFile, Body, File, Path, Thing, Volume, Way, body, find, inode_at, is_used, node, slot, slots_of, thing, tree, way}
use Rattle.mq_tree.proofs.Counting.{counted-by, counted-file, counted-kept, links-alone, links-more, links-same, links-some, names-it, names-other}
use Rattle.mq_tree.proofs.VolumeChanges.{AreWays, CutsEntry, DropsEntry, FillsFile, IsNew, MakesEntry, MovesEntry, cut-is, drop-is, filled-is, first-free, joined-is, made-is, moved-is, unlinked-is, with_new}
use Rattle.mq_tree.proofs.VolumeCut.{cut-here, cut-others, cut-tree, dropped-here, dropped-others, dropped-tree, filled-here, filled-others, filled-same, filled-tree}
use Rattle.mq_tree.proofs.VolumeMake.{IsMade, made-here, made-new, made-old, made-only, made-others, made-tree, none-used}
use Rattle.mq_tree.proofs.VolumeMove.{moved-gone, moved-here, moved-others, moved-tree}
use Rattle.mq_tree.proofs.VolumePaths.{IsTree, last-step, leads-used, nothing-at, thing-here, used-is}
use Rattle.mq_tree.proofs.RequestsTargets.{IsIn, in-leads, last-good, same-way, tree-way, way-append, way-below}
use Rattle.mq_tree.proofs.RequestsVerdicts.{CutsOld, FillsNew, IsFile, LinksOld, MakesNew, MovesOld, UnlinksOld}
use Rattle.mq_tree.proofs.SoundVolumes.{sound-nodes, sound-tree, volume-sound}

-- ---- what a target has before

-- nothing stands under a name that is missing
pub missing-nothing : (v : Volume) (path : Path) (d : ℕ) (name : List ℕ) → IsIn v path d name None → tree v path ≡ None
missing-nothing v path d name t =
    let at : inode_at v (name ∷ t.parent) ≡ None = ap (λ (o : Option ℕ). option_and_then (λ x. find name (slots_of (body v x))) o) t.leads ∙ t.found_is in
    tree-way v path (name ∷ t.parent) t.is ∙ ap (λ (o : Option ℕ). option_and_then (λ i. thing (body v i)) o) at

pub found-thing : (v : Volume) (path : Path) (d : ℕ) (name : List ℕ) (i : ℕ) → IsIn v path d name (Some i) → tree v path ≡ thing (body v i)
found-thing v path d name i t = thing-here v (way path) i (in-leads v path d name i t)

-- another path is another way
other-way : (s p : Path) (q : Way) → way p ≡ q → s ≢ p → way s ≢ q
other-way s p q is other e = other (same-way s p (e ∙ sym is))

-- ---- a new file or directory

-- no slot names a free inode
free-unnamed : (g : Geometry) (v : Volume) (i : ℕ) → IsSound g v → thing (body v i) ≡ None → links_to v i ≡ 0
free-unnamed g v i s free = elim (cases_eq (links_to v i) 0) [
  | inl none ↦ none
  | inr some ↦
      let r = links-some i v (omega arith) in
      absurd (none-used v i free (ap (λ (x : ℕ). is_used (body v x)) (sym r.leads) ∙ (s.named r.directory r.place r.entry r.there).1))
]

made-counted : (g : Geometry) (v w : Volume) (d : ℕ) (e : Entry) (t : Thing) (links : ℕ) → IsSound g v → MakesEntry g v w d e t links → links ≡ suc (links_to v e.inode) → AreCounted w
made-counted g v w d e t links s m many = counted-by v w (λ x bytes is.
    let more = links-more x v w d m.place e m.size m.made.unused m.made.edit.here m.made.edit.rest in
    elim (cases_eq x e.inode) [
      | inl same ↦
          let one = names-it x e (sym same) in
          let here : (node w x).links ≡ links = ap (λ (y : ℕ). (node w y).links) same ∙ m.links_here in
          let there : links_to v e.inode ≡ links_to v x = ap (links_to v) (sym same) in
          omega arith
      | inr other ↦
          let none = names-other x e (λ same. other (sym same)) in
          counted-kept v w x bytes s.counted (m.made.edit.things x other) (m.links_rest x other) (omega arith) is
    ])

made-sound : (g : Geometry) (v w : Volume) (d : ℕ) (e : Entry) (t : Thing) (links : ℕ) → IsSound g v → MakesEntry g v w d e t links → links ≡ suc (links_to v e.inode) → IsSound g w
made-sound g v w d e t links s m many = volume-sound g v w s m.size (made-tree v w d m.place e t (sound-tree g v s) m.made) m.nodes (made-counted g v w d e t links s m many)

made-added : (g : Geometry) (v w : Volume) (path : Path) (d i : ℕ) (name : List ℕ) (t : Thing) (links : ℕ) → IsSound g v → IsIn v path d name None → MakesEntry g v w d (record { inode = i; name = name }) t links → IsAdded v w path t
made-added g v w path d i name t links s target m =
    let e : Entry = record { inode = i; name = name } in
    let k = sound-tree g v s in
    record {
      before = missing-nothing v path d name target;
      here = tree-way w path (name ∷ target.parent) target.is ∙ made-here v w d m.place e t k m.made target.parent target.leads;
      others = λ other apart. made-others v w d m.place e t k m.made target.parent target.leads (way other) (other-way other path (name ∷ target.parent) target.is apart);
    }

pub new-kept : (g : Geometry) (q : ℕ) (v : Volume) (new : Body) (t : Thing) (path : Path) (n : ℕ) (w : Volume) → q < queues_of g → IsSound g v → IsNew new t → list_all is_name path ≡ true → n ≤ free_blocks g v → MakesNew g q v new path n w
    → IsSound g w × IsAdded v w path t
new-kept g q v new t path n w low s fresh good enough m =
    let k = m.target in
    let d = m.directory in
    let e : Entry = record { inode = m.inode; name = m.name } in
    let blocks = m.blocks in
    let r = made-is g q v new t d m.inode m.name low s.count (sound-nodes g v s) fresh k.directory k.found_is m.few (last-good path m.name k.parent good k.is) m.first (omega arith) in
    let u = linked g q (with_new v m.inode new) d e in
    let none = free-unnamed g v m.inode s (first-free v m.inode m.first).1 in
    subst (λ x. IsSound g x × IsAdded v x path t) (sym m.next) (made-sound g v u d e t 1 s r (omega arith), made-added g v u path d m.inode m.name t 1 s k r)

-- ---- a name more

-- a path that had something leads where it led, and so does one that had nothing but the new one
joined-same : (v w : Volume) (d k : ℕ) (e : Entry) (t : Thing) → IsTree v → IsMade v w d k e t → (p : Way) → inode_at v p ≡ Some d → (q : Way) → q ≢ e.name ∷ p → inode_at w q ≡ inode_at v q
joined-same v w d k e t g m p at q other = go (inode_at v q) refl
  where
    go : (o : Option ℕ) → inode_at v q ≡ o → inode_at w q ≡ inode_at v q
    go None is = none-both (inode_at w q) refl
      where
        none-both : (o : Option ℕ) → inode_at w q ≡ o → inode_at w q ≡ inode_at v q
        none-both None leads = leads ∙ sym is
        none-both (Some x) leads = elim (made-only v w d k e t g m p at q x leads) [
          | inl new ↦ absurd (other new.0)
          | inr old ↦ absurd (none-some x (sym is ∙ old))
        ]
    go (Some x) is = made-old v w d k e t g m q x is ∙ sym is

pub links-kept : (g : Geometry) (q : ℕ) (v : Volume) (from to : Path) (n : ℕ) (w : Volume) → q < queues_of g → IsSound g v → list_all is_name to ≡ true → n ≤ free_blocks g v → LinksOld g q v from to n w → IsSound g w × IsLinked v w from to
links-kept g q v from to n w low s good enough m =
    let t = m.target in
    let i = m.inode in
    let d = m.directory in
    let k = sound-tree g v s in
    let e : Entry = record { inode = i; name = m.name } in
    let links = suc (node v i).links in
    let blocks = m.blocks in
    let was : thing (body v i) ≡ Some (AFile m.old) = ap (λ (b : Body). thing b) m.was in
    let r = joined-is g q v d i m.name m.old low s.count (sound-nodes g v s) m.was m.room t.directory t.found_is m.few (last-good to m.name t.parent good t.is) (omega arith) in
    let u = linked g q (with_links v i links) d e in
    let counted : links ≡ suc (links_to v i) = ap (λ (x : ℕ). suc x) (counted-file v i m.old s.counted was) in
    let linked_is : IsLinked v u from to = record {
      number = i;
      names = in-leads v from m.source_directory m.source_name i m.source;
      bytes = m.old;
      file = found-thing v from m.source_directory m.source_name i m.source ∙ was;
      here = ap (λ (x : Way). inode_at u x) t.is ∙ made-new v u d r.place e (AFile m.old) k r.made t.parent t.leads;
      added = made-added g v u to d i m.name (AFile m.old) links s t r;
      same = λ other apart. joined-same v u d r.place e (AFile m.old) k r.made t.parent t.leads (way other) (other-way other to (m.name ∷ t.parent) t.is apart);
    } in
    subst (λ x. IsSound g x × IsLinked v x from to) (sym m.next) (made-sound g v u d e (AFile m.old) links s r counted, linked_is)

-- ---- other bytes

filled-rewritten : (g : Geometry) (v w : Volume) (path : Path) (d : ℕ) (name : List ℕ) (i : ℕ) (old : List ℕ) (change : List ℕ → List ℕ) → IsSound g v → IsIn v path d name (Some i) → body v i ≡ File old → FillsFile g v w i (change old)
    → IsRewritten v w path change
filled-rewritten g v w path d name i old change s t was f =
    let k = sound-tree g v s in
    let at = in-leads v path d name i t in
    record {
      number = i;
      names = at;
      old = old;
      before = found-thing v path d name i t ∙ ap (λ (b : Body). thing b) was;
      same = λ other. filled-same v w i (change old) k f.filled (way other);
      here = λ other leads. filled-here v w i (change old) k f.filled (way other) leads;
      others = λ other apart. filled-others v w i (change old) k f.filled (way other) apart;
    }

-- the slots stay, and so do the links
filled-counted : (g : Geometry) (v w : Volume) (i : ℕ) (bytes : List ℕ) → IsSound g v → FillsFile g v w i bytes → AreCounted w
filled-counted g v w i bytes s f = counted-by v w (λ x now is.
    let to = links-same x v w f.size f.filled.slots in
    elim (cases_eq x i) [
      | inl same ↦ f.links x ∙ counted-file v x f.filled.was.0 s.counted (ap (λ (y : ℕ). thing (body v y)) same ∙ f.filled.was.1) ∙ sym to
      | inr other ↦ counted-kept v w x now s.counted (f.filled.things x other) (f.links x) to is
    ])

pub fills-kept : (g : Geometry) (q : ℕ) (v : Volume) (path : Path) (size : ℕ) (change : List ℕ → List ℕ) (n : ℕ) (w : Volume) → q < queues_of g → IsSound g v
    → ((old : List ℕ) → AreBytes old → AreBytes (change old)) → ((old : List ℕ) → size ≤ file_limit → length old ≤ file_limit → length (change old) ≤ file_limit) → n ≤ free_blocks g v → FillsNew g q v path size change n w
    → IsSound g w × IsRewritten v w path change
fills-kept g q v path size change n w low s bytes few enough m =
    let i = m.inode in
    let old = m.old in
    let blocks = m.blocks in
    let form : (length old ≤ file_limit) × AreBytes old = file-form (body v i) old (length (node v i).blocks) m.was (s.nodes i).body in
    let f = filled-is g q v i old (change old) low (sound-nodes g v s) m.was (bytes old form.1) (few old m.few form.0) (omega arith) in
    let u = resized g q v i (change old) in
    subst (λ x. IsSound g x × IsRewritten v x path change) (sym m.next)
    (volume-sound g v u s f.size (filled-tree v u i (change old) (sound-tree g v s) f.filled) f.nodes (filled-counted g v u i (change old) s f), filled-rewritten g v u path m.directory m.name i old change s m.target m.was f)
  where
    file-form : (b : Body) (old : List ℕ) (count : ℕ) → b ≡ File old → IsBody b count → (length old ≤ file_limit) × AreBytes old
    file-form b old count is good = let h : IsBody (File old) count = subst (λ x. IsBody x count) is good in (h.0, h.2)

-- ---- an inode that is gone

cut-removed : (g : Geometry) (v w : Volume) (path : Path) (d : ℕ) (name : List ℕ) (i : ℕ) (old : Thing) → IsSound g v → IsIn v path d name (Some i) → thing (body v i) ≡ Some old → CutsEntry g v w d name → IsRemoved v w path old
cut-removed g v w path d name i old s t was c =
    let k = sound-tree g v s in
    let e = c.entry in
    let is : way path ≡ e.name ∷ t.parent = t.is ∙ ap (λ (x : List ℕ). x ∷ t.parent) (sym c.named) in
    record {
      before = found-thing v path d name i t ∙ was;
      here = tree-way w path (e.name ∷ t.parent) is ∙ cut-here v w d c.place e k c.cut t.parent t.leads;
      others = λ other apart. cut-others v w d c.place e k c.cut t.parent t.leads (way other) (other-way other path (e.name ∷ t.parent) is apart);
    }

cut-counted : (g : Geometry) (v w : Volume) (d : ℕ) (name : List ℕ) → IsSound g v → CutsEntry g v w d name → AreCounted w
cut-counted g v w d name s c = counted-by v w (λ x bytes is.
    let e = c.entry in
    let less = links-more x w v d c.place e (sym c.size) c.cut.edit.here c.cut.there (λ y l out. sym (c.cut.edit.rest y l out)) in
    elim (cases_eq x e.inode) [
      | inl same ↦ absurd (none-some (AFile bytes) (sym (ap (λ (y : ℕ). thing (body w y)) same ∙ c.cut.edit.thing_here) ∙ is))
      | inr other ↦
          let none = names-other x e (λ same. other (sym same)) in
          counted-kept v w x bytes s.counted (c.cut.edit.things x other) (c.links x other) (omega arith) is
    ])

-- one slot alone names it
abbrev pub IsAlone : Volume → ℕ → Type 0
IsAlone v i = (x l y m : ℕ) (a b : Entry) → slot v x l ≡ Some a → slot v y m ≡ Some b → a.inode ≡ i → b.inode ≡ i → (x ≡ y) × (l ≡ m)

pub cuts-kept : (g : Geometry) (v : Volume) (path : Path) (w : Volume) (P : Body → Type 0) (old : Thing) → IsSound g v → (m : CutsOld v path w P) → IsAlone v m.inode → thing (body v m.inode) ≡ Some old → IsSound g w × IsRemoved v w path old
cuts-kept g v path w P old s m alone was =
    let t = m.target in
    let i = m.inode in
    let c = cut-is g v m.directory m.name i (sound-nodes g v s) t.directory t.found_is m.used m.empty alone in
    let u = freed (unlinked v m.directory m.name) i in
    subst (λ x. IsSound g x × IsRemoved v x path old) (sym m.next)
    (volume-sound g v u s c.size (cut-tree v u m.directory c.place c.entry (sound-tree g v s) c.cut) c.nodes (cut-counted g v u m.directory m.name s c), cut-removed g v u path m.directory m.name i old s t was c)

-- ---- a link less

dropped-counted : (g : Geometry) (v w : Volume) (d : ℕ) (name : List ℕ) (i : ℕ) → IsSound g v → DropsEntry g v w d name i → AreCounted w
dropped-counted g v w d name i s c = counted-by v w (λ x bytes is.
    let e = c.entry in
    let less = links-more x w v d c.place e (sym c.size) c.dropped.here c.dropped.there (λ y l out. sym (c.dropped.rest y l out)) in
    elim (cases_eq x i) [
      | inl same ↦
          let one = names-it x e (c.leads ∙ sym same) in
          let here : suc (node w x).links ≡ (node v x).links = ap (λ (y : ℕ). suc (node w y).links) same ∙ c.links_here ∙ ap (λ (y : ℕ). (node v y).links) (sym same) in
          let old = counted-file v x bytes s.counted (sym (c.dropped.things x) ∙ is) in
          omega arith
      | inr other ↦
          let none = names-other x e (λ same. other (sym same ∙ c.leads)) in
          counted-kept v w x bytes s.counted (c.dropped.things x) (c.links_rest x other) (omega arith) is
    ])

pub drops-kept : (g : Geometry) (v w : Volume) (path : Path) (d : ℕ) (name : List ℕ) (i : ℕ) (bytes : List ℕ) → IsSound g v → IsIn v path d name (Some i) → body v i ≡ File bytes → DropsEntry g v w d name i → IsSound g w × IsRemoved v w path (AFile bytes)
drops-kept g v w path d name i bytes s t was c =
    let k = sound-tree g v s in
    let e = c.entry in
    let is : way path ≡ e.name ∷ t.parent = t.is ∙ ap (λ (x : List ℕ). x ∷ t.parent) (sym c.named) in (
      volume-sound g v w s c.size (dropped-tree v w d c.place e k c.dropped) c.nodes (dropped-counted g v w d name i s c),
      record {
        before = found-thing v path d name i t ∙ ap (λ (b : Body). thing b) was;
        here = tree-way w path (e.name ∷ t.parent) is ∙ dropped-here v w d c.place e k c.dropped t.parent t.leads;
        others = λ other apart. dropped-others v w d c.place e k c.dropped t.parent t.leads (way other) (other-way other path (e.name ∷ t.parent) is apart);
      },
    )

pub unlinks-kept : (g : Geometry) (v : Volume) (path : Path) (w : Volume) → IsSound g v → (m : UnlinksOld v path w) → IsSound g w × IsRemoved v w path (AFile m.old)
unlinks-kept g v path w s m =
    let t = m.target in
    let i = m.inode in
    let u = unlinked v m.directory m.name in
    let r = unlinked-is g v m.directory m.name i (sound-nodes g v s) t.directory t.found_is in
    let same = r.links i in
    let was : thing (body v i) ≡ Some (AFile m.old) = ap (λ (b : Body). thing b) m.was in
    let counted = counted-file v i m.old s.counted was in
    elim (cases_lt 1 (node u i).links) [
      | inl many ↦
          let more = lt-leb (node u i).links 1 many in
          let next : w ≡ with_links u i ((node u i).links - 1) = m.next ∙ ap (λ (b : Bool). cond b (freed u i) (with_links u i ((node u i).links - 1))) more in
          let c = drop-is g v m.directory m.name i m.old (sound-nodes g v s) t.directory t.found_is m.was (omega arith) counted in
          subst (λ x. IsSound g x × IsRemoved v x path (AFile m.old)) (sym next) (drops-kept g v (with_links u i ((node u i).links - 1)) path m.directory m.name i m.old s t m.was c)
      | inr few ↦
          let last = le-leb (node u i).links 1 few in
          let next : w ≡ freed u i = m.next ∙ ap (λ (b : Bool). cond b (freed u i) (with_links u i ((node u i).links - 1))) last in
          let alone : IsAlone v i = λ x l y n a b p q j k. links-alone i v x l y n a b (omega arith) p q j k in
          cuts-kept g v path w IsFile (AFile m.old) s (record {
            directory = m.directory;
            name = m.name;
            inode = i;
            target = t;
            used = ap (λ (b : Body). is_used b) m.was;
            empty = λ l. ap (λ (b : Body). get_or (slots_of b) l None) m.was;
            was = (m.old, m.was);
            next = next;
          }) alone was
    ]

-- nothing stands below what has no used slot
pub bare-below : (g : Geometry) (v : Volume) (path : Path) (d : ℕ) (name : List ℕ) (i : ℕ) → IsIn v path d name (Some i) → ((l : ℕ) → slot v i l ≡ None) → IsBare v path
bare-below g v path d name i t empty next =
    let at = in-leads v path d name i t in
    tree-way v (path ++ next ∷ []) (next ∷ way path) (way-append path (next ∷ [])) ∙ nothing-at v (next ∷ way path) (λ x is.
    let s = last-step v next (way path) x is in
    let f = s.edge in
    let same : s.directory ≡ i = same_Some s.directory i (sym s.before ∙ at) in
    none-some f.entry (sym (empty f.place) ∙ ap (λ (y : ℕ). slot v y f.place) (sym same) ∙ f.there))

-- ---- an entry that moves

below-more : (p s : Path) (n : List ℕ) → is_below p (p ++ (s ++ n ∷ [])) ≡ true
below-more [] [] n = refl
below-more [] (m ∷ s) n = refl
below-more (a ∷ p) s n = and_from (bytes_eq a a) (is_below p (p ++ (s ++ n ∷ []))) ((bytes_eq-Decides a a).1 refl) (below-more p s n)

-- where the second path is not below the first, its directory is not either
way-outside : (from to : Path) (new : List ℕ) (q : Way) → is_below from to ≡ false → way to ≡ new ∷ q → (r : Way) → q ≢ r ++ way from
way-outside from to new q apart is r e =
    let f : way to ≡ (new ∷ r) ++ way from = is ∙ ap (λ (w : Way). new ∷ w) e in
    let h : to ≡ from ++ (reverse r ++ new ∷ []) = way-below to from (new ∷ r) f ∙ ap (λ (w : Way). from ++ w) (reverse-append (new ∷ []) r) in
    true≢false (sym (below-more from (reverse r) new) ∙ ap (λ (p : Path). is_below from p) (sym h) ∙ apart)

moved-renamed : (g : Geometry) (v w : Volume) (from to : Path) (d : ℕ) (name : List ℕ) (i c : ℕ) (new : List ℕ) (old : Thing) → IsSound g v → (s : IsIn v from d name (Some i)) → (t : IsIn v to c new None) → thing (body v i) ≡ Some old
    → MovesEntry g v w d name s.parent c new t.parent → IsRenamed v w from to
moved-renamed g v w from to d name i c new old sound s t was m =
    let k = sound-tree g v sound in
    let e = m.from_entry in
    let f : Entry = record { inode = e.inode; name = new } in
    let p = s.parent in
    let q = t.parent in
    let is : way from ≡ e.name ∷ p = s.is ∙ ap (λ (x : List ℕ). x ∷ p) (sym m.named) in
    let from_way = λ (below : Path). way-append from below ∙ ap (λ (x : Way). way below ++ x) is in
    let to_way = λ (below : Path). way-append to below ∙ ap (λ (x : Way). way below ++ x) t.is in
    record {
      old = old;
      before = found-thing v from d name i s ∙ was;
      missing = missing-nothing v to c new t;
      here = λ below.
          tree-way w (to ++ below) (way below ++ new ∷ q) (to_way below) ∙ moved-here v w d m.from_place e p c m.to_place f q k m.moved (way below)
          ∙ sym (tree-way v (from ++ below) (way below ++ e.name ∷ p) (from_way below));
      gone = λ below. tree-way w (from ++ below) (way below ++ e.name ∷ p) (from_way below) ∙ moved-gone v w d m.from_place e p c m.to_place f q k m.moved (way below);
      others = λ other a b. moved-others v w d m.from_place e p c m.to_place f q k m.moved (way other)
          (λ r h. a (reverse r) (way-below other from r (h ∙ ap (λ (x : Way). r ++ x) (sym is))))
          (λ r h. b (reverse r) (way-below other to r (h ∙ ap (λ (x : Way). r ++ x) (sym t.is))));
    }

pub moves-kept : (g : Geometry) (q : ℕ) (v : Volume) (from to : Path) (n : ℕ) (w : Volume) → q < queues_of g → IsSound g v → list_all is_name to ≡ true → n ≤ free_blocks g v → MovesOld g q v from to n w → IsSound g w × IsRenamed v w from to
moves-kept g q v from to n w low sound good enough m =
    let s = m.source in
    let t = m.target in
    let d = m.directory in
    let c = m.new_directory in
    let k = sound-tree g v sound in
    let used = leads-used v k (way from) m.inode (in-leads v from d m.name m.inode s) in
    let blocks = m.blocks in
    let ways : AreWays v d m.name s.parent c m.new_name t.parent = record {
      old_way = s.leads;
      new_way = t.leads;
      outside = λ r h. way-outside from to m.new_name t.parent m.apart t.is r (h ∙ ap (λ (x : Way). r ++ x) (sym s.is));
      missing = t.found_is;
    } in
    let r = moved-is g q v d m.name s.parent m.inode c m.new_name t.parent low sound.count (sound-nodes g v sound) s.directory s.found_is used t.directory ways (last-good to m.new_name t.parent good t.is) m.few (omega arith) in
    let u = linked g q (unlinked v d m.name) c (record { inode = m.inode; name = m.new_name }) in
    let f : Entry = record { inode = r.from_entry.inode; name = m.new_name } in
    let something = used-is (body v m.inode) used in
    subst (λ x. IsSound g x × IsRenamed v x from to) (sym m.next) (
      volume-sound g v u sound r.size (moved-tree v u d r.from_place r.from_entry s.parent c r.to_place f t.parent k r.moved) r.nodes
          (counted-by v u (λ x bytes is. counted-kept v u x bytes sound.counted (r.moved.things x) (r.links x) (r.counts x) is)),
      moved-renamed g v u from to d m.name m.inode c m.new_name something.0 sound s t something.1 r,
    )
