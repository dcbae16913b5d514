-- Where a request is refused, the tree says so, or there is no room.
use Rattle.std.proofs.Common.{suc, ◌≡◌, ◌≢◌, ℕ, ◌+◌, ◌<◌, ◌≤◌, ◌⊎◌, inl, inr, List, [], ◌∷◌, ◌++◌, length, Bool, true, false, cond, refl, sym, ap, subst, ◌∙◌, arith}
use Rattle.std.specs.Prelude.{Option, Some, None, reverse, nat_eq, nat_le, nat_lt}
use Rattle.std.specs.List.{list_all}
use Rattle.std.proofs.lemmas.List.{reverse-reverse}
use Rattle.std.proofs.lemmas.Option.{same_Some}
use Rattle.std.proofs.lemmas.List.Folds.{list_all-append}
use Rattle.std.proofs.lemmas.Bool.{and_parts, cond-false, cond-true, eqb-false, false_from_ne_true, le-leb, leb-false, leb-true, ltb-true, cases_eq, true≢false}
use Rattle.mq_blocks.specs.declared.geometry.Geometry.{Geometry}
use Rattle.mq_layout.specs.Names.{is_name}
use Rattle.mq_layout.specs.Places.{file_limit, names_limit}
use Rattle.mq_layout.specs.Slots.{Entry}
use Rattle.mq_tree.proofs.VolumeMove.{tails}
use Rattle.mq_tree.specs.Faults.{IsAddFault, IsAddFull, IsAddRoomFault, IsDirFault, IsFileFault, IsFullDir, IsLost, IsMissing, IsMoveFull, IsMoveFault, IsRenameFault, IsRmdirFault, IsSizeFault, IsUnfound, IsLinkFault, IsLinkFull}
use Rattle.mq_tree.specs.Links.{links_to}
use Rattle.mq_tree.specs.Free.{first_free}
use Rattle.mq_tree.specs.Kept.{IsBare}
use Rattle.mq_tree.specs.Requests.{Root, Lost, In, RequestTarget, Verdict, Says, Makes, asks, count_names, cut_to, freed, is_below, list_in, make, make_free, move, read_in, refused, rename, rmdir, rmdir_in, set_bytes, spliced, stat_in, step, target, truncate, truncate_in, unlink, unlink_in, unlinked, write, write_in, link, link_file, link_needs, link_to, linked, links_limit, with_links}
use Rattle.mq_tree.specs.Sound.{IsSound}
use Rattle.mq_tree.specs.Volume.{ADir, AFile, Body, Free, File, Dir, Path, Thing, Volume, Way, body, inode_at, is_used, node, slots_of, thing, tree, way}
use Rattle.mq_tree.specs.declared.request.Fault.{Fault}
use Rattle.mq_tree.specs.declared.request.Fault.TheVariants.{NotFound, Exists, NotDir, IsDir, NotEmpty, BadName, TooBig, Subtree, NoInodes, Links}
use Rattle.mq_tree.specs.declared.request.Reply.{Reply}
use Rattle.mq_tree.specs.declared.request.Reply.TheVariants.{Data, Names, File as Size, Dir as Count, Refused}
use Rattle.mq_tree.specs.declared.request.Request.TheVariants.{Stat}
use Rattle.mq_tree.proofs.KeptAsks.{reads-leads}
use Rattle.mq_tree.proofs.VolumeChanges.{unlinked-other, unlinked-room}
use Rattle.mq_tree.proofs.Faults.{IsView, missing-target, path-of, target-view, there-target}
use Rattle.mq_tree.proofs.VolumePaths.{IsTree, file-dir, one-way, thing-here, used-is}
use Rattle.mq_tree.proofs.Counting.{counted-file, file-is}
use Rattle.mq_tree.proofs.KeptRefusals.{bare-count}
use Rattle.mq_tree.proofs.RequestsTargets.{IsIn, way-append}
use Rattle.mq_tree.proofs.SoundVolumes.{dir-slots, sound-nodes, sound-tree}

-- ---- verdicts that refuse

same-refused : (f fault : Fault) → refused f ≡ refused fault → fault ≡ f
same-refused f fault e = cc

makes-refused : {R : Type 0} (n : ℕ) (w : Volume) (fault : Fault) → Makes n w ≡ refused fault → R
makes-refused n w fault e = absurd (cc)

says-refused : (reply : Reply) (fault : Fault) → Says reply ≡ refused fault → reply ≡ Refused fault
says-refused reply fault e = cc

cond-refused : (b : Bool) (f : Fault) (x : Verdict) (fault : Fault) → cond b (refused f) x ≡ refused fault → ((b ≡ true) × (fault ≡ f)) ⊎ ((b ≡ false) × (x ≡ refused fault))
cond-refused true f x fault e = inl (refl, same-refused f fault e)
cond-refused false f x fault e = inr (refl, e)

free-used : {R : Type 0} (b : Body) → is_used b ≡ true → b ≡ Free → R
free-used b u e = absurd (true≢false (sym u ∙ ap (λ (x : Body). is_used x) e))

root-tree : (v : Volume) (p : Path) → IsTree v → p ≡ [] → tree v p ≡ Some ADir
root-tree v p k e = ap (λ (x : Path). tree v x) e ∙ k.root

lost-same : (v : Volume) (p : Path) (f fault : Fault) → IsLost v p f → fault ≡ f → IsLost v p fault
lost-same v p f fault l same = subst (λ x. IsLost v p x) (sym same) l

-- ---- on targets

target-only : (v : Volume) (p : Path) (fault : Fault) (verdict_on : RequestTarget → Verdict) (P : Type 0) → ((f : Fault) → verdict_on (Lost f) ≡ refused f) → ((d : ℕ) (name : List ℕ) → verdict_on (In d name None) ≡ refused NotFound)
    → (p ≡ [] → verdict_on Root ≡ refused fault → P)
    → ((d : ℕ) (name : List ℕ) (i : ℕ) → IsView v p (In d name (Some i)) → verdict_on (In d name (Some i)) ≡ refused fault → P)
    → (t : RequestTarget) → IsView v p t → verdict_on t ≡ refused fault → IsUnfound v p fault ⊎ P
target-only v p fault verdict_on P lost missing root there Root view e = inr (root view e)
target-only v p fault verdict_on P lost missing root there (Lost f) view e = inl (inl (lost-same v p f fault view (same-refused f fault (sym (lost f) ∙ e))))
target-only v p fault verdict_on P lost missing root there (In d name None) view e = inl (inr (view.0, same-refused NotFound fault (sym (missing d name) ∙ e)))
target-only v p fault verdict_on P lost missing root there (In d name (Some i)) view e = inr (there d name i view e)

add-only : (v : Volume) (p : Path) (fault : Fault) (verdict_on : RequestTarget → Verdict) (Q : Type 0) → IsTree v → verdict_on Root ≡ refused Exists → ((f : Fault) → verdict_on (Lost f) ≡ refused f) → ((d : ℕ) (name : List ℕ) (i : ℕ) → verdict_on (In d name (Some i)) ≡ refused Exists)
    → ((d : ℕ) (name : List ℕ) → IsView v p (In d name None) → verdict_on (In d name None) ≡ refused fault → Q) → (t : RequestTarget) → IsView v p t → verdict_on t ≡ refused fault → IsAddFault v p fault ⊎ Q
add-only v p fault verdict_on Q k root lost there missing Root view e = inl (inr (ADir, root-tree v p k view, same-refused Exists fault (sym root ∙ e)))
add-only v p fault verdict_on Q k root lost there missing (Lost f) view e = inl (inl (lost-same v p f fault view (same-refused f fault (sym (lost f) ∙ e))))
add-only v p fault verdict_on Q k root lost there missing (In d name None) view e = inr (missing d name view e)
add-only v p fault verdict_on Q k root lost there missing (In d name (Some i)) view e =
    let u = used-is (body v i) view.2 in
    inl (inr (u.0, thing-here v (way p) i view.1 ∙ u.1, same-refused Exists fault (sym (there d name i) ∙ e)))

-- what an inode at a path is, stands there
body-tree : (v : Volume) (p : Path) (i : ℕ) (b : Body) → inode_at v (way p) ≡ Some i → body v i ≡ b → tree v p ≡ thing b
body-tree v p i b at is = thing-here v (way p) i at ∙ ap (λ (x : Body). thing x) is

-- ---- each request

-- what `Stat` answers at a directory
stat-count : (g : Geometry) (q : ℕ) (v : Volume) (p : Path) (d : ℕ) → IsTree v → list_all is_name p ≡ true → inode_at v (way p) ≡ Some d → tree v p ≡ Some ADir → (step g q v (Stat p)).reply ≡ Count (count_names (slots_of (body v d)))
stat-count g q v p d k good at dir =
    let s = dir-slots (body v d) (sym (thing-here v (way p) d at) ∙ dir) in
    reads-leads g q v (Stat p) p stat_in d k good refl at ∙ ap (λ (b : Body). stat_in b) s.1 ∙ ap (λ (b : Body). Count (count_names (slots_of b))) (sym s.1)

-- the names of a directory are good where those of a path in it are
parent-good : (v : Volume) (p : Path) (m : IsMissing v p) → list_all is_name p ≡ true → list_all is_name m.parent ≡ true
parent-good v p m good = (and_parts (list_all is_name m.parent) (list_all is_name (m.name ∷ [])) (sym (list_all-append is_name m.parent (m.name ∷ [])) ∙ ap (λ (x : Path). list_all is_name x) (sym m.is) ∙ good)).0

same-count : (m n : ℕ) → Count m ≡ Count n → m ≡ n
same-count m n e = cc

-- a full directory has at least `names_limit` names
full-dir : (g : Geometry) (q : ℕ) (v : Volume) (p : Path) (d : ℕ) → IsTree v → list_all is_name p ≡ true → inode_at v (way p) ≡ Some d → tree v p ≡ Some ADir → IsFullDir g q v p → names_limit ≤ count_names (slots_of (body v d))
full-dir g q v p d k good at dir f =
    let e = same-count f.0 (count_names (slots_of (body v d))) (sym f.1 ∙ stat-count g q v p d k good at dir) in
    let l = f.2 in
    omega arith

pub make-only : (g : Geometry) (q : ℕ) (v : Volume) (new : Body) (p : Path) (fault : Fault) → IsTree v → list_all is_name p ≡ true → make g q v new (target v (way p)) ≡ refused fault → IsAddFault v p fault ⊎ IsAddFull g q v p fault
make-only g q v new p fault k good e = add-only v p fault (λ t. make g q v new t) (IsAddFull g q v p fault) k refl (λ f. refl) (λ d name i. refl) room (target v (way p)) (target-view v p k) e
  where
    no-inode : (d : ℕ) (name : List ℕ) (o : Option ℕ) → first_free 0 v ≡ o → make_free g q v new d name o ≡ refused fault → (first_free 0 v ≡ None) × (fault ≡ NoInodes)
    no-inode d name None is h = (is, same-refused NoInodes fault h)
    no-inode d name (Some i) is h = makes-refused _ _ fault h

    room : (d : ℕ) (name : List ℕ) → IsView v p (In d name None) → make g q v new (In d name None) ≡ refused fault → IsAddFull g q v p fault
    room d name view h =
        let m = view.0 in
        let names = count_names (slots_of (body v d)) in
        let fine = parent-good v p m good in
        elim (cond-refused (nat_le names_limit names) TooBig (make_free g q v new d name (first_free 0 v)) fault h) [
          | inl big ↦ (m, inl ((names, stat-count g q v m.parent d k fine view.1 m.directory, leb-true names_limit names big.0), big.1))
          | inr rest ↦
              let few = leb-false names_limit names rest.0 in
              let n = no-inode d name (first_free 0 v) refl rest.1 in
              (m, inr (λ f. let l = full-dir g q v m.parent d k fine view.1 m.directory f in absurd (omega arith), n.0, n.1))
        ]

-- the other way round
pub make-full : (g : Geometry) (q : ℕ) (v : Volume) (new : Body) (p : Path) (fault : Fault) → IsTree v → list_all is_name p ≡ true → IsAddFull g q v p fault → make g q v new (target v (way p)) ≡ refused fault
make-full g q v new p fault k good f = go f.0 f.1
  where
    go : (m : IsMissing v p) → IsAddRoomFault g q v m.parent fault → make g q v new (target v (way p)) ≡ refused fault
    go m (inl big) =
        let r = missing-target v p k m in
        let l = full-dir g q v m.parent r.0 k (parent-good v p m good) r.3 m.directory big.0 in
        ap (λ (t : RequestTarget). make g q v new t) r.2 ∙ cond-true (nat_le names_limit (count_names (slots_of (body v r.0)))) _ _ (le-leb names_limit (count_names (slots_of (body v r.0))) l) ∙ ap (λ (x : Fault). refused x) (sym big.1)
    go m (inr none) =
        let r = missing-target v p k m in
        let names = count_names (slots_of (body v r.0)) in
        let few : nat_le names_limit names ≡ false = false_from_ne_true (nat_le names_limit names) (λ y. none.0 (names, stat-count g q v m.parent r.0 k (parent-good v p m good) r.3 m.directory, leb-true names_limit names y)) in
        ap (λ (t : RequestTarget). make g q v new t) r.2 ∙ cond-false (nat_le names_limit names) _ _ few ∙ ap (λ (o : Option ℕ). make_free g q v new r.0 r.1 o) none.1 ∙ ap (λ (x : Fault). refused x) (sym none.2)

-- a fault of the size, or that a directory is there
abbrev IsBytesFault : Volume → Path → ℕ → Fault → Type 0
IsBytesFault v p size fault = IsDirFault v p fault ⊎ ((old : List ℕ) × (tree v p ≡ Some (AFile old)) × (file_limit < size) × (fault ≡ TooBig))

size-body : (g : Geometry) (q : ℕ) (v : Volume) (p : Path) (size : ℕ) (fault : Fault) (i : ℕ) (verdict_on : Body → Verdict) (change : List ℕ → List ℕ) → ((slots : List (Option Entry)) → verdict_on (Dir slots) ≡ refused IsDir)
    → ((old : List ℕ) → verdict_on (File old) ≡ set_bytes g q v i size (change old)) → inode_at v (way p) ≡ Some i → is_used (body v i) ≡ true → (b : Body) → body v i ≡ b → verdict_on b ≡ refused fault → IsBytesFault v p size fault
size-body g q v p size fault i verdict_on change dirs files at used Free is e = free-used (body v i) used is
size-body g q v p size fault i verdict_on change dirs files at used (Dir slots) is e = inl (body-tree v p i (Dir slots) at is, same-refused IsDir fault (sym (dirs slots) ∙ e))
size-body g q v p size fault i verdict_on change dirs files at used (File old) is e = elim (cond-refused (nat_lt file_limit size) TooBig _ fault (sym (files old) ∙ e)) [
  | inl big ↦ inr (old, body-tree v p i (File old) at is, ltb-true file_limit size big.0, big.1)
  | inr made ↦ makes-refused _ _ fault made.1
]

pub write-only : (g : Geometry) (q : ℕ) (v : Volume) (p : Path) (at : ℕ) (new : List ℕ) (fault : Fault) → IsTree v → write g q v at new (target v (way p)) ≡ refused fault → IsSizeFault v p (at + length new) fault
write-only g q v p at new fault k e = target-only v p fault (λ t. write g q v at new t) (IsBytesFault v p (at + length new) fault) (λ f. refl) (λ d name. refl) (λ is h. inl (root-tree v p k is, same-refused IsDir fault h))
    (λ d name i view h. size-body g q v p (at + length new) fault i (λ b. write_in g q v i at new b) (λ old. spliced at new old) (λ slots. refl) (λ old. refl) view.1 view.2 (body v i) refl h) (target v (way p)) (target-view v p k) e

pub truncate-only : (g : Geometry) (q : ℕ) (v : Volume) (p : Path) (size : ℕ) (fault : Fault) → IsTree v → truncate g q v size (target v (way p)) ≡ refused fault → IsSizeFault v p size fault
truncate-only g q v p size fault k e = target-only v p fault (λ t. truncate g q v size t) (IsBytesFault v p size fault) (λ f. refl) (λ d name. refl) (λ is h. inl (root-tree v p k is, same-refused IsDir fault h))
    (λ d name i view h. size-body g q v p size fault i (λ b. truncate_in g q v i size b) (λ old. cut_to size old) (λ slots. refl) (λ old. refl) view.1 view.2 (body v i) refl h) (target v (way p)) (target-view v p k) e

pub unlink-only : (v : Volume) (p : Path) (fault : Fault) → IsTree v → unlink v (target v (way p)) ≡ refused fault → IsUnfound v p fault ⊎ IsDirFault v p fault
unlink-only v p fault k e = target-only v p fault (λ t. unlink v t) (IsDirFault v p fault) (λ f. refl) (λ d name. refl) (λ is h. (root-tree v p k is, same-refused IsDir fault h)) (λ d name i view h. go d name i view.1 view.2 (body v i) refl h)
    (target v (way p)) (target-view v p k) e
  where
    go : (d : ℕ) (name : List ℕ) (i : ℕ) → inode_at v (way p) ≡ Some i → is_used (body v i) ≡ true → (b : Body) → body v i ≡ b → unlink_in v d name i b ≡ refused fault → IsDirFault v p fault
    go d name i at used Free is h = free-used (body v i) used is
    go d name i at used (File old) is h = makes-refused _ _ fault h
    go d name i at used (Dir slots) is h = (body-tree v p i (Dir slots) at is, same-refused IsDir fault h)

abbrev IsEmptyFault : Volume → Path → Fault → Type 0
IsEmptyFault v p fault = (p ≢ []) × (tree v p ≡ Some ADir) × (IsBare v p → ⊥) × (fault ≡ NotEmpty)

pub rmdir-only : (g : Geometry) (v : Volume) (p : Path) (fault : Fault) → IsSound g v → rmdir v (target v (way p)) ≡ refused fault → IsRmdirFault v p fault
rmdir-only g v p fault s e = order (target-only v p fault (λ t. rmdir v t) (((p ≡ []) × (fault ≡ BadName)) ⊎ (IsFileFault v p fault ⊎ IsEmptyFault v p fault)) (λ f. refl) (λ d name. refl)
    (λ is h. inl (is, same-refused BadName fault h)) (λ d name i view h. go d name i view.0 view.1 view.2 (body v i) refl h) (target v (way p)) (target-view v p (sound-tree g v s)) e)
  where
    go : (d : ℕ) (name : List ℕ) (i : ℕ) → p ≢ [] → inode_at v (way p) ≡ Some i → is_used (body v i) ≡ true → (b : Body) → body v i ≡ b → rmdir_in v d name i b ≡ refused fault → ((p ≡ []) × (fault ≡ BadName)) ⊎ (IsFileFault v p fault ⊎ IsEmptyFault v p fault)
    go d name i some at used Free is h = free-used (body v i) used is
    go d name i some at used (File old) is h = inr (inl (old, body-tree v p i (File old) at is, same-refused NotDir fault h))
    go d name i some at used (Dir slots) is h = test (nat_eq (count_names slots) 0) refl h
      where
        test : (b : Bool) → nat_eq (count_names slots) 0 ≡ b → cond b (Makes 0 (freed (unlinked v d name) i)) (refused NotEmpty) ≡ refused fault → ((p ≡ []) × (fault ≡ BadName)) ⊎ (IsFileFault v p fault ⊎ IsEmptyFault v p fault)
        test true n h = makes-refused _ _ fault h
        test false n h = inr (inr (some, body-tree v p i (Dir slots) at is, λ bare. eqb-false (count_names slots) 0 n (bare-count g v p i slots s at is bare), same-refused NotEmpty fault h))

    order : IsUnfound v p fault ⊎ (((p ≡ []) × (fault ≡ BadName)) ⊎ (IsFileFault v p fault ⊎ IsEmptyFault v p fault)) → IsRmdirFault v p fault
    order (inl u) = inr (inl u)
    order (inr (inl r)) = inl r
    order (inr (inr rest)) = inr (inr rest)

-- it is refused by the tree, or the target directory is full
abbrev IsMoveOnly : Geometry → ℕ → Volume → Path → Path → Fault → Type 0
IsMoveOnly g q v from to fault = ((from ≡ []) × (fault ≡ Subtree)) ⊎ (((there : Thing) × (from ≢ []) × (tree v from ≡ Some there) × IsMoveFault v from to fault) ⊎ IsMoveFull g q v from to fault)

-- the directory of what moves, by its path
parent-same : (v : Volume) (from parent : Path) (d c : ℕ) (name other : List ℕ) (found : Option ℕ) → IsTree v → IsIn v from d name found → inode_at v (way parent) ≡ Some c → from ≡ parent ++ other ∷ [] → c ≡ d
parent-same v from parent d c name other found k source at is =
    let whole : way from ≡ other ∷ way parent = ap (λ (p : Path). way p) is ∙ way-append parent (other ∷ []) in
    let rest : source.parent ≡ way parent = tails name other source.parent (way parent) (sym source.is ∙ whole) in
    same_Some c d (sym at ∙ ap (λ (w : Way). inode_at v w) (sym rest) ∙ source.leads)

parent-other : (v : Volume) (from parent : Path) (d c : ℕ) (name : List ℕ) (found : Option ℕ) → IsTree v → IsIn v from d name found → inode_at v (way parent) ≡ Some c → c ≡ d → from ≡ parent ++ name ∷ []
parent-other v from parent d c name found k source at same =
    let ways : source.parent ≡ way parent = one-way v k.named k.once source.parent (way parent) d source.directory source.leads (at ∙ ap (λ (x : ℕ). Some x) same) in
    path-of from name source.parent source.is ∙ ap (λ (w : Way). reverse w ++ name ∷ []) ways ∙ ap (λ (p : Path). p ++ name ∷ []) (reverse-reverse parent)

-- what is full without a name is another directory, and is full with it
target-full : (g : Geometry) (q : ℕ) (v : Volume) (from to : Path) (d : ℕ) (name : List ℕ) (i c : ℕ) → IsSound g v → list_all is_name to ≡ true → IsIn v from d name (Some i) → (m : IsMissing v to) → inode_at v (way m.parent) ≡ Some c
    → names_limit ≤ count_names (slots_of (body (unlinked v d name) c)) → ((other : List ℕ) → from ≢ m.parent ++ other ∷ []) × IsFullDir g q v m.parent
target-full g q v from to d name i c s good source m at big = elim (cases_eq c d) [
  | inl same ↦
      let room = unlinked-room g v d name i (sound-nodes g v s) source.directory source.found_is in
      let e : count_names (slots_of (body (unlinked v d name) c)) ≡ count_names (slots_of (body (unlinked v d name) d)) = ap (λ (x : ℕ). count_names (slots_of (body (unlinked v d name) x))) same in
      absurd (omega arith)
  | inr apart ↦
      let k = sound-tree g v s in
      let e : count_names (slots_of (body (unlinked v d name) c)) ≡ count_names (slots_of (body v c)) = ap (λ (b : Body). count_names (slots_of b)) (unlinked-other v d c name apart) in
      (λ other is. apart (parent-same v from m.parent d c name other (Some i) k source at is), (count_names (slots_of (body v c)), stat-count g q v m.parent c k (parent-good v to m good) at m.directory, omega arith))
]

pub rename-only : (g : Geometry) (q : ℕ) (v : Volume) (from to : Path) (fault : Fault) → IsSound g v → list_all is_name to ≡ true → rename g q v from to (target v (way from)) ≡ refused fault → IsRenameFault v from to fault ⊎ IsMoveFull g q v from to fault
rename-only g q v from to fault s good e = order (target-only v from fault (λ t. rename g q v from to t) (IsMoveOnly g q v from to fault) (λ f. refl) (λ d name. refl) (λ is h. inl (is, same-refused Subtree fault h)) there (target v (way from)) (target-view v from (sound-tree g v s)) e)
  where
    room : (d : ℕ) (name : List ℕ) (i : ℕ) → IsView v from (In d name (Some i)) → is_below from to ≡ false → (c : ℕ) (new : List ℕ) → IsView v to (In c new None) → move g q (unlinked v d name) i (In c new None) ≡ refused fault → IsMoveFull g q v from to fault
    room d name i view apart c new missing h =
        let names = count_names (slots_of (body (unlinked v d name) c)) in
        let t = used-is (body v i) view.2 in
        elim (cond-refused (nat_le names_limit names) TooBig _ fault h) [
          | inl big ↦
              let f = target-full g q v from to d name i c s good view.3 missing.0 missing.1 (leb-true names_limit names big.0) in
              record { some = view.0; old = t.0; there = thing-here v (way from) i view.1 ∙ t.1; apart = apart; missing = missing.0; other = f.0; full = f.1; fault_is = big.1 }
          | inr made ↦ makes-refused _ _ fault made.1
        ]

    there : (d : ℕ) (name : List ℕ) (i : ℕ) → IsView v from (In d name (Some i)) → rename g q v from to (In d name (Some i)) ≡ refused fault → IsMoveOnly g q v from to fault
    there d name i view h =
        let t = used-is (body v i) view.2 in
        let u = unlinked v d name in
        let is = thing-here v (way from) i view.1 ∙ t.1 in
        elim (cond-refused (is_below from to) Subtree (move g q u i (target v (way to))) fault h) [
          | inl below ↦ inr (inl (t.0, view.0, is, inl below))
          | inr apart ↦
              elim (add-only v to fault (λ x. move g q u i x) (IsMoveFull g q v from to fault) (sound-tree g v s) refl (λ f. refl) (λ c new j. refl) (λ c new missing k. room d name i view apart.0 c new missing k) (target v (way to))
              (target-view v to (sound-tree g v s)) apart.1) [
                | inl add ↦ inr (inl (t.0, view.0, is, inr (apart.0, add)))
                | inr full ↦ inr (inr full)
              ]
        ]

    order : IsUnfound v from fault ⊎ IsMoveOnly g q v from to fault → IsRenameFault v from to fault ⊎ IsMoveFull g q v from to fault
    order (inl u) = inl (inr (inl u))
    order (inr (inl r)) = inl (inl r)
    order (inr (inr (inl m))) = inl (inr (inr m))
    order (inr (inr (inr full))) = inr full

-- the other way round
pub rename-full : (g : Geometry) (q : ℕ) (v : Volume) (from to : Path) (fault : Fault) → IsSound g v → list_all is_name to ≡ true → IsMoveFull g q v from to fault → rename g q v from to (target v (way from)) ≡ refused fault
rename-full g q v from to fault s good f =
    let k = sound-tree g v s in
    let m = f.missing in
    let t = there-target v from f.old k f.some f.there in
    let r = missing-target v to k m in
    let d = t.directory in
    let c = r.0 in
    let u = unlinked v d t.name in
    let apart : c ≢ d = λ same. f.other t.name (parent-other v from m.parent d c t.name (Some t.inode) k t.is_in r.3 same) in
    let l = full-dir g q v m.parent c k (parent-good v to m good) r.3 m.directory f.full in
    let e : count_names (slots_of (body u c)) ≡ count_names (slots_of (body v c)) = ap (λ (b : Body). count_names (slots_of b)) (unlinked-other v d c t.name apart) in
    let big : names_limit ≤ count_names (slots_of (body u c)) = omega arith in
    ap (λ (x : RequestTarget). rename g q v from to x) t.target_is ∙ cond-false (is_below from to) (refused Subtree) (move g q u t.inode (target v (way to))) f.apart ∙ ap (λ (x : RequestTarget). move g q u t.inode x) r.2
    ∙ cond-true (nat_le names_limit (count_names (slots_of (body u c)))) _ _ (le-leb names_limit (count_names (slots_of (body u c))) big) ∙ ap (λ (x : Fault). refused x) (sym f.fault_is)

-- ---- a name more

-- it is refused by what stands at the second path, or there is no room
abbrev IsFileOnly : Geometry → ℕ → Volume → Path → Path → Fault → Type 0
IsFileOnly g q v from to fault = IsDirFault v from fault ⊎ (((old : List ℕ) × (tree v from ≡ Some (AFile old)) × IsAddFault v to fault) ⊎ IsLinkFull g q v from to fault)

pub link-only : (g : Geometry) (q : ℕ) (v : Volume) (from to : Path) (fault : Fault) → IsSound g v → list_all is_name to ≡ true → link g q v (target v (way to)) (target v (way from)) ≡ refused fault → IsLinkFault v from to fault ⊎ IsLinkFull g q v from to fault
link-only g q v from to fault s good e = order (target-only v from fault (λ t. link g q v (target v (way to)) t) (IsFileOnly g q v from to fault) (λ f. refl) (λ d name. refl) (λ is h. inl (root-tree v from (sound-tree g v s) is, same-refused IsDir fault h))
    (λ d name i view h. there d name i view.1 view.2 (body v i) refl h) (target v (way from)) (target-view v from (sound-tree g v s)) e)
  where
    room : (i : ℕ) (old : List ℕ) → inode_at v (way from) ≡ Some i → body v i ≡ File old → (c : ℕ) (new : List ℕ) → IsView v to (In c new None) → link_to g q v i (In c new None) ≡ refused fault → IsLinkFull g q v from to fault
    room i old at is c new view h =
        let k = sound-tree g v s in
        let m = view.0 in
        let names = count_names (slots_of (body v c)) in
        let fine = parent-good v to m good in
        let many = nat_le links_limit (node v i).links in
        let there_is = body-tree v from i (File old) at is in
        let counted = counted-file v i old s.counted (ap (λ (b : Body). thing b) is) in
        elim (cond-refused (nat_le names_limit names) TooBig (cond many (refused Links) _) fault h) [
          | inl big ↦ record { old = old; there = there_is; missing = m; full = inl ((names, stat-count g q v m.parent c k fine view.1 m.directory, leb-true names_limit names big.0), big.1) }
          | inr rest ↦
              let few = leb-false names_limit names rest.0 in
              elim (cond-refused many Links _ fault rest.1) [
                | inl most ↦
                    let limit = leb-true links_limit (node v i).links most.0 in
                    let reached : links_limit ≤ links_to v i = omega arith in
                    record { old = old; there = there_is; missing = m; full = inr (λ f. let l = full-dir g q v m.parent c k fine view.1 m.directory f in absurd (omega arith), (i, at, reached), most.1) }
                | inr made ↦ makes-refused _ _ fault made.1
              ]
        ]

    there : (d : ℕ) (name : List ℕ) (i : ℕ) → inode_at v (way from) ≡ Some i → is_used (body v i) ≡ true → (b : Body) → body v i ≡ b → link_file g q v i (target v (way to)) b ≡ refused fault → IsFileOnly g q v from to fault
    there d name i at used Free is h = free-used (body v i) used is
    there d name i at used (Dir slots) is h = inl (body-tree v from i (Dir slots) at is, same-refused IsDir fault h)
    there d name i at used (File old) is h =
        elim (add-only v to fault (λ t. link_to g q v i t) (IsLinkFull g q v from to fault) (sound-tree g v s) refl (λ f. refl) (λ c new j. refl) (λ c new view k. room i old at is c new view k) (target v (way to)) (target-view v to (sound-tree g v s)) h) [
          | inl add ↦ inr (inl (old, body-tree v from i (File old) at is, add))
          | inr full ↦ inr (inr full)
        ]

    order : IsUnfound v from fault ⊎ IsFileOnly g q v from to fault → IsLinkFault v from to fault ⊎ IsLinkFull g q v from to fault
    order (inl u) = inl (inl u)
    order (inr (inl d)) = inl (inr (inl d))
    order (inr (inr (inl a))) = inl (inr (inr a))
    order (inr (inr (inr full))) = inr full

-- the other way round
pub link-full : (g : Geometry) (q : ℕ) (v : Volume) (from to : Path) (fault : Fault) → IsSound g v → list_all is_name to ≡ true → IsLinkFull g q v from to fault → link g q v (target v (way to)) (target v (way from)) ≡ refused fault
link-full g q v from to fault s good f =
    let k = sound-tree g v s in
    let m = f.missing in
    let some : from ≢ [] = λ is. file-dir f.old (sym f.there ∙ root-tree v from k is) in
    let t = there-target v from (AFile f.old) k some f.there in
    let r = missing-target v to k m in
    let i = t.inode in
    let c = r.0 in
    let was : body v i ≡ File f.old = file-is (body v i) f.old t.thing_is in
    let counted = counted-file v i f.old s.counted t.thing_is in
    let names = count_names (slots_of (body v c)) in
    let many = nat_le links_limit (node v i).links in
    let made = Makes (link_needs (node v c)) (linked g q (with_links v i (suc (node v i).links)) c (record { inode = i; name = r.1 })) in
    ap (λ (x : RequestTarget). link g q v (target v (way to)) x) t.target_is ∙ ap (λ (b : Body). link_file g q v i (target v (way to)) b) was ∙ ap (λ (x : RequestTarget). link_to g q v i x) r.2 ∙ elim f.full [
      | inl big ↦
          let l = full-dir g q v m.parent c k (parent-good v to m good) r.3 m.directory big.0 in
          cond-true (nat_le names_limit names) (refused TooBig) (cond many (refused Links) made) (le-leb names_limit names l) ∙ ap (λ (x : Fault). refused x) (sym big.1)
      | inr most ↦
          let few : nat_le names_limit names ≡ false = false_from_ne_true (nat_le names_limit names) (λ y. most.0 (names, stat-count g q v m.parent c k (parent-good v to m good) r.3 m.directory, leb-true names_limit names y)) in
          let same : most.1.0 ≡ i = same_Some most.1.0 i (sym most.1.1 ∙ t.leads) in
          let reached : links_limit ≤ links_to v i = subst (λ x. links_limit ≤ links_to v x) same most.1.2 in
          let limit : links_limit ≤ (node v i).links = omega arith in
          cond-false (nat_le names_limit names) (refused TooBig) (cond many (refused Links) made) few ∙ cond-true many (refused Links) made (le-leb links_limit (node v i).links limit) ∙ ap (λ (x : Fault). refused x) (sym most.2)
    ]

-- ---- requests that read

data-refused : {R : Type 0} (bytes : List ℕ) (fault : Fault) → Data bytes ≡ Refused fault → R
data-refused bytes fault e = absurd (cc)

names-refused : {R : Type 0} (names : List (List ℕ)) (fault : Fault) → Names names ≡ Refused fault → R
names-refused names fault e = absurd (cc)

size-refused : {R : Type 0} (size : ℕ) (fault : Fault) → Size size ≡ Refused fault → R
size-refused size fault e = absurd (cc)

count-refused : {R : Type 0} (count : ℕ) (fault : Fault) → Count count ≡ Refused fault → R
count-refused count fault e = absurd (cc)

pub same-reply : (f fault : Fault) → Refused f ≡ Refused fault → fault ≡ f
same-reply f fault e = cc

pub asks-only : (v : Volume) (p : Path) (fault : Fault) (reply : Body → Reply) (P : Type 0) → IsTree v → ((i : ℕ) (b : Body) → inode_at v (way p) ≡ Some i → is_used b ≡ true → body v i ≡ b → reply b ≡ Refused fault → P)
    → asks v reply (target v (way p)) ≡ refused fault → IsUnfound v p fault ⊎ P
asks-only v p fault reply P k on e = target-only v p fault (λ t. asks v reply t) P (λ f. refl) (λ d name. refl)
    (λ is h. let r = dir-slots (body v 0) k.root in on 0 (body v 0) (ap (λ (x : Path). inode_at v (way x)) is) (ap (λ (b : Body). is_used b) r.1) refl (says-refused (reply (body v 0)) fault h))
    (λ d name i view h. on i (body v i) view.1 view.2 refl (says-refused (reply (body v i)) fault h)) (target v (way p)) (target-view v p k) e

pub read-body : (v : Volume) (p : Path) (fault : Fault) (at count : ℕ) (i : ℕ) (b : Body) → inode_at v (way p) ≡ Some i → is_used b ≡ true → body v i ≡ b → read_in at count b ≡ Refused fault → IsDirFault v p fault
read-body v p fault at count i Free leads used is e = absurd (true≢false (sym used))
read-body v p fault at count i (File bytes) leads used is e = data-refused _ fault e
read-body v p fault at count i (Dir slots) leads used is e = (body-tree v p i (Dir slots) leads is, same-reply IsDir fault e)

pub list-body : (v : Volume) (p : Path) (fault : Fault) (i : ℕ) (b : Body) → inode_at v (way p) ≡ Some i → is_used b ≡ true → body v i ≡ b → list_in b ≡ Refused fault → IsFileFault v p fault
list-body v p fault i Free leads used is e = absurd (true≢false (sym used))
list-body v p fault i (File bytes) leads used is e = (bytes, body-tree v p i (File bytes) leads is, same-reply NotDir fault e)
list-body v p fault i (Dir slots) leads used is e = names-refused _ fault e

pub stat-body : (v : Volume) (p : Path) (fault : Fault) (i : ℕ) (b : Body) → inode_at v (way p) ≡ Some i → is_used b ≡ true → body v i ≡ b → stat_in b ≡ Refused fault → ⊥
stat-body v p fault i Free leads used is e = true≢false (sym used)
stat-body v p fault i (File bytes) leads used is e = size-refused _ fault e
stat-body v p fault i (Dir slots) leads used is e = count-refused _ fault e
