-- Requests are refused just where the tree says so, or where there is no room.
use Rattle.std.proofs.Common.{◌≡◌, ◌≢◌, ℕ, ◌+◌, ◌<◌, inl, inr, List, [], ◌∷◌, ◌++◌, length, Bool, true, false, cond, refl, sym, ap, ◌∙◌, arith}
use Rattle.std.specs.Prelude.{Option, Some, None, nat_eq, nat_lt}
use Rattle.std.proofs.lemmas.Bool.{cond-false, cond-true, lt-ltb, ne_eqb}
use Rattle.std.proofs.lemmas.Option.{none-some}
use Rattle.mq_blocks.specs.declared.geometry.Geometry.{Geometry}
use Rattle.mq_layout.specs.Places.{file_limit}
use Rattle.mq_layout.specs.Slots.{Entry}
use Rattle.mq_tree.specs.Faults.{IsAddFault, IsDirFault, IsFault, IsFileFault, IsMoveFault, IsRenameFault, IsRmdirFault, IsSizeFault, IsUnfound, IsLinkFault}
use Rattle.mq_tree.specs.Kept.{AreNamesAt, IsBare}
use Rattle.mq_tree.specs.Requests.{Root, Lost, In, RequestTarget, Verdict, Says, act, asks, carried_out, count_names, cut_to, is_below, is_named, list_in, make, move, names_in, read_in, refused, rename, rmdir, rmdir_in, set_bytes, spliced, stat_in, step, target, truncate, truncate_in, unlink, unlink_in, unlinked, write, write_in, link, link_file, link_to}
use Rattle.mq_tree.specs.Sound.{IsSound}
use Rattle.mq_tree.specs.Volume.{ADir, AFile, Body, File, Dir, Path, Thing, Volume, body, inode_at, thing, tree, way}
use Rattle.mq_tree.specs.declared.request.Fault.{Fault}
use Rattle.mq_tree.specs.declared.request.Fault.TheVariants.{NotFound, Exists, NotDir, IsDir, NotEmpty, BadName, TooBig, Subtree}
use Rattle.mq_tree.specs.declared.request.Reply.TheVariants.{Refused}
use Rattle.mq_tree.specs.declared.request.Request.{Request}
use Rattle.mq_tree.specs.declared.request.Request.TheVariants.{Mkdir, Create, Write, Truncate, Unlink, Rmdir, Rename, Link, Read, List as ListOf, Stat}
use Rattle.mq_tree.proofs.KeptAsks.{answers-says, file-bytes, names-at, names-count}
use Rattle.mq_tree.proofs.Faults.{lost-target, missing-target, there-target}
use Rattle.mq_tree.proofs.VolumePaths.{IsTree}
use Rattle.mq_tree.proofs.SoundVolumes.{dir-slots, sound-tree}

-- ---- what the tree refuses

-- the verdict on what stands at a path
there-refused : (v : Volume) (path : Path) (t : Thing) (fault : Fault) (verdict_on : RequestTarget → Verdict) → IsTree v → (path ≡ [] → verdict_on Root ≡ refused fault)
    → ((d : ℕ) (name : List ℕ) (i : ℕ) → inode_at v (way path) ≡ Some i → thing (body v i) ≡ Some t → verdict_on (In d name (Some i)) ≡ refused fault) → tree v path ≡ Some t → verdict_on (target v (way path)) ≡ refused fault
there-refused v [] t fault verdict_on k root there e = root refl
there-refused v (n ∷ path) t fault verdict_on k root there e =
    let r = there-target v (n ∷ path) t k (λ h. cons-none h) e in
    ap (λ (x : RequestTarget). verdict_on x) r.target_is ∙ there r.directory r.name r.inode r.leads r.thing_is
  where
    cons-none : n ∷ path ≡ [] → ⊥
    cons-none h = cc

unfound-refused : (v : Volume) (path : Path) (fault : Fault) (verdict_on : RequestTarget → Verdict) → ((f : Fault) → verdict_on (Lost f) ≡ refused f) → ((d : ℕ) (name : List ℕ) → verdict_on (In d name None) ≡ refused NotFound)
    → IsTree v → IsUnfound v path fault → verdict_on (target v (way path)) ≡ refused fault
unfound-refused v path fault verdict_on lost missing k (inl l) = ap (λ (x : RequestTarget). verdict_on x) (lost-target v path fault k l) ∙ lost fault
unfound-refused v path fault verdict_on lost missing k (inr m) =
    let r = missing-target v path k m.0 in
    ap (λ (x : RequestTarget). verdict_on x) r.2 ∙ missing r.0 r.1 ∙ ap (λ (f : Fault). refused f) (sym m.1)

add-refused : (v : Volume) (path : Path) (fault : Fault) (verdict_on : RequestTarget → Verdict) → verdict_on Root ≡ refused Exists → ((f : Fault) → verdict_on (Lost f) ≡ refused f) → ((d : ℕ) (name : List ℕ) (i : ℕ) → verdict_on (In d name (Some i)) ≡ refused Exists)
    → IsTree v → IsAddFault v path fault → verdict_on (target v (way path)) ≡ refused fault
add-refused v path fault verdict_on root lost there k (inl l) = ap (λ (x : RequestTarget). verdict_on x) (lost-target v path fault k l) ∙ lost fault
add-refused v path fault verdict_on root lost there k (inr t) =
    let same = ap (λ (f : Fault). refused f) (sym t.2) in
    there-refused v path t.0 fault verdict_on k (λ e. root ∙ same) (λ d name i at is. there d name i ∙ same) t.1

-- the root is no file
root-file : {R : Type 0} (v : Volume) (path : Path) (old : List ℕ) → IsTree v → tree v path ≡ Some (AFile old) → path ≡ [] → R
root-file v path old k e is = dir-file old (sym k.root ∙ ap (λ (p : Path). tree v p) (sym is) ∙ e)
  where
    dir-file : {R : Type 0} (old : List ℕ) → Some ADir ≡ Some (AFile old) → R
    dir-file old e = absurd (cc)

-- a fault that is another's name
named-fault : (x : Verdict) (f fault : Fault) → x ≡ refused f → fault ≡ f → x ≡ refused fault
named-fault x f fault e same = e ∙ ap (λ (z : Fault). refused z) (sym same)

dir-refused : (v : Volume) (path : Path) (fault : Fault) (verdict_on : RequestTarget → Verdict) → verdict_on Root ≡ refused IsDir → ((d : ℕ) (name : List ℕ) (i : ℕ) (slots : List (Option Entry)) → body v i ≡ Dir slots → verdict_on (In d name (Some i)) ≡ refused IsDir)
    → IsTree v → IsDirFault v path fault → verdict_on (target v (way path)) ≡ refused fault
dir-refused v path fault verdict_on root there k e =
    there-refused v path ADir fault verdict_on k (λ is. named-fault (verdict_on Root) IsDir fault root e.1)
    (λ d name i at is. let s = dir-slots (body v i) is in named-fault (verdict_on (In d name (Some i))) IsDir fault (there d name i s.0 s.1) e.1) e.0

file-refused : (v : Volume) (path : Path) (fault : Fault) (verdict_on : RequestTarget → Verdict) → ((d : ℕ) (name : List ℕ) (i : ℕ) (old : List ℕ) → body v i ≡ File old → verdict_on (In d name (Some i)) ≡ refused NotDir)
    → IsTree v → IsFileFault v path fault → verdict_on (target v (way path)) ≡ refused fault
file-refused v path fault verdict_on there k e =
    there-refused v path (AFile e.0) fault verdict_on k (λ is. root-file v path e.0 k e.1 is)
    (λ d name i at is. named-fault (verdict_on (In d name (Some i))) NotDir fault (there d name i e.0 (file-bytes (body v i) e.0 is)) e.2) e.1

too-big : (g : Geometry) (q : ℕ) (v : Volume) (i size : ℕ) (bytes : List ℕ) → file_limit < size → set_bytes g q v i size bytes ≡ refused TooBig
too-big g q v i size bytes more = cond-true (nat_lt file_limit size) _ _ (lt-ltb file_limit size more)

size-refused : (g : Geometry) (q : ℕ) (v : Volume) (path : Path) (size : ℕ) (fault : Fault) (verdict_on : RequestTarget → Verdict) (change : List ℕ → List ℕ) → verdict_on Root ≡ refused IsDir → ((f : Fault) → verdict_on (Lost f) ≡ refused f)
    → ((d : ℕ) (name : List ℕ) → verdict_on (In d name None) ≡ refused NotFound) → ((d : ℕ) (name : List ℕ) (i : ℕ) (slots : List (Option Entry)) → body v i ≡ Dir slots → verdict_on (In d name (Some i)) ≡ refused IsDir)
    → ((d : ℕ) (name : List ℕ) (i : ℕ) (old : List ℕ) → body v i ≡ File old → verdict_on (In d name (Some i)) ≡ set_bytes g q v i size (change old)) → IsTree v → IsSizeFault v path size fault → verdict_on (target v (way path)) ≡ refused fault
size-refused g q v path size fault verdict_on change root lost missing dirs files k (inl u) = unfound-refused v path fault verdict_on lost missing k u
size-refused g q v path size fault verdict_on change root lost missing dirs files k (inr (inl d)) = dir-refused v path fault verdict_on root dirs k d
size-refused g q v path size fault verdict_on change root lost missing dirs files k (inr (inr f)) =
    there-refused v path (AFile f.0) fault verdict_on k (λ is. root-file v path f.0 k f.1 is)
    (λ d name i at is. named-fault (verdict_on (In d name (Some i))) TooBig fault (files d name i f.0 (file-bytes (body v i) f.0 is) ∙ too-big g q v i size (change f.0) f.2) f.3) f.1

-- ---- names in a directory

bare-none : (g : Geometry) (v : Volume) (path : Path) (i : ℕ) (slots : List (Option Entry)) → IsSound g v → inode_at v (way path) ≡ Some i → body v i ≡ Dir slots → count_names slots ≡ 0 → IsBare v path
bare-none g v path i slots s at is none name = go (tree v (path ++ name ∷ [])) refl
  where
    go : (o : Option Thing) → tree v (path ++ name ∷ []) ≡ o → tree v (path ++ name ∷ []) ≡ None
    go None e = e
    go (Some t) e =
        let c = (names-at g v path i slots s at is).all name t e in
        let l = c.1 in
        let n = names-count slots in
        absurd (omega arith)

pub bare-count : (g : Geometry) (v : Volume) (path : Path) (i : ℕ) (slots : List (Option Entry)) → IsSound g v → inode_at v (way path) ≡ Some i → body v i ≡ Dir slots → IsBare v path → count_names slots ≡ 0
bare-count g v path i slots s at is bare = go (names_in slots) refl (names-at g v path i slots s at is)
  where
    go : (names : List (List ℕ)) → names_in slots ≡ names → AreNamesAt v path names → count_names slots ≡ 0
    go [] e a = sym (names-count slots) ∙ ap (λ (xs : List (List ℕ)). length xs) e
    go (name ∷ names) e a =
        let f = a.found name (0, (let h : 0 < length (name ∷ names) = omega arith in h), refl) in
        absurd (none-some f.0 (sym (bare name) ∙ f.1))

-- ---- each request

not-empty : (v : Volume) (d : ℕ) (name : List ℕ) (i : ℕ) (slots : List (Option Entry)) → count_names slots ≢ 0 → rmdir_in v d name i (Dir slots) ≡ refused NotEmpty
not-empty v d name i slots some = cond-false (nat_eq (count_names slots) 0) _ _ (ne_eqb (count_names slots) 0 some)

rmdir-refused : (g : Geometry) (v : Volume) (path : Path) (fault : Fault) → IsSound g v → IsRmdirFault v path fault → rmdir v (target v (way path)) ≡ refused fault
rmdir-refused g v path fault s (inl r) = ap (λ (p : Path). rmdir v (target v (way p))) r.0 ∙ ap (λ (f : Fault). refused f) (sym r.1)
rmdir-refused g v path fault s (inr (inl u)) = unfound-refused v path fault (λ t. rmdir v t) (λ f. refl) (λ d name. refl) (sound-tree g v s) u
rmdir-refused g v path fault s (inr (inr (inl f))) = file-refused v path fault (λ t. rmdir v t) (λ d name i old is. ap (λ (b : Body). rmdir_in v d name i b) is) (sound-tree g v s) f
rmdir-refused g v path fault s (inr (inr (inr e))) =
    there-refused v path ADir fault (λ t. rmdir v t) (sound-tree g v s) (λ is. absurd (e.0 is))
    (λ d name i at is.
    let b = dir-slots (body v i) is in
    named-fault (rmdir_in v d name i (body v i)) NotEmpty fault (ap (λ (x : Body). rmdir_in v d name i x) b.1 ∙ not-empty v d name i b.0 (λ none. e.2 (bare-none g v path i b.0 s at b.1 none))) e.3) e.1

move-refused : (g : Geometry) (q : ℕ) (v u : Volume) (i : ℕ) (from to : Path) (fault : Fault) → IsTree v → IsMoveFault v from to fault → cond (is_below from to) (refused Subtree) (move g q u i (target v (way to))) ≡ refused fault
move-refused g q v u i from to fault k (inl b) = ap (λ (t : Bool). cond t (refused Subtree) (move g q u i (target v (way to)))) b.0 ∙ ap (λ (f : Fault). refused f) (sym b.1)
move-refused g q v u i from to fault k (inr a) =
    ap (λ (t : Bool). cond t (refused Subtree) (move g q u i (target v (way to)))) a.0 ∙ add-refused v to fault (λ t. move g q u i t) refl (λ f. refl) (λ d name j. refl) k a.1

rename-refused : (g : Geometry) (q : ℕ) (v : Volume) (from to : Path) (fault : Fault) → IsTree v → IsRenameFault v from to fault → rename g q v from to (target v (way from)) ≡ refused fault
rename-refused g q v from to fault k (inl r) = ap (λ (p : Path). rename g q v from to (target v (way p))) r.0 ∙ ap (λ (f : Fault). refused f) (sym r.1)
rename-refused g q v from to fault k (inr (inl u)) = unfound-refused v from fault (λ t. rename g q v from to t) (λ f. refl) (λ d name. refl) k u
rename-refused g q v from to fault k (inr (inr m)) =
    there-refused v from m.0 fault (λ t. rename g q v from to t) k (λ is. absurd (m.1 is)) (λ d name i at is. move-refused g q v (unlinked v d name) i from to fault k m.3) m.2

link-refused : (g : Geometry) (q : ℕ) (v : Volume) (from to : Path) (fault : Fault) → IsTree v → IsLinkFault v from to fault → link g q v (target v (way to)) (target v (way from)) ≡ refused fault
link-refused g q v from to fault k (inl u) = unfound-refused v from fault (λ t. link g q v (target v (way to)) t) (λ f. refl) (λ d name. refl) k u
link-refused g q v from to fault k (inr (inl e)) = dir-refused v from fault (λ t. link g q v (target v (way to)) t) refl (λ d name i slots is. ap (λ (b : Body). link_file g q v i (target v (way to)) b) is) k e
link-refused g q v from to fault k (inr (inr f)) =
    there-refused v from (AFile f.0) fault (λ t. link g q v (target v (way to)) t) k (λ is. root-file v from f.0 k f.1 is)
    (λ d name i at is. ap (λ (b : Body). link_file g q v i (target v (way to)) b) (file-bytes (body v i) f.0 is) ∙ add-refused v to fault (λ t. link_to g q v i t) refl (λ x. refl) (λ c new j. refl) k f.2) f.1

act-refused : (g : Geometry) (q : ℕ) (v : Volume) (r : Request) (fault : Fault) → IsSound g v → IsFault v r fault → act g q v r ≡ refused fault
act-refused g q v (Mkdir p) fault s f = add-refused v p fault (λ t. make g q v (Dir []) t) refl (λ x. refl) (λ d name i. refl) (sound-tree g v s) f
act-refused g q v (Create p) fault s f = add-refused v p fault (λ t. make g q v (File []) t) refl (λ x. refl) (λ d name i. refl) (sound-tree g v s) f
act-refused g q v (Write p at bytes) fault s f = size-refused g q v p (at + length bytes) fault (λ t. write g q v at bytes t) (λ old. spliced at bytes old) refl (λ x. refl) (λ d name. refl) (λ d name i slots is. ap (λ (b : Body). write_in g q v i at bytes b) is)
    (λ d name i old is. ap (λ (b : Body). write_in g q v i at bytes b) is) (sound-tree g v s) f
act-refused g q v (Truncate p size) fault s f = size-refused g q v p size fault (λ t. truncate g q v size t) (λ old. cut_to size old) refl (λ x. refl) (λ d name. refl) (λ d name i slots is. ap (λ (b : Body). truncate_in g q v i size b) is)
    (λ d name i old is. ap (λ (b : Body). truncate_in g q v i size b) is) (sound-tree g v s) f
act-refused g q v (Unlink p) fault s (inl u) = unfound-refused v p fault (λ t. unlink v t) (λ x. refl) (λ d name. refl) (sound-tree g v s) u
act-refused g q v (Unlink p) fault s (inr e) = dir-refused v p fault (λ t. unlink v t) refl (λ d name i slots is. ap (λ (b : Body). unlink_in v d name i b) is) (sound-tree g v s) e
act-refused g q v (Rmdir p) fault s f = rmdir-refused g v p fault s f
act-refused g q v (Rename p to) fault s f = rename-refused g q v p to fault (sound-tree g v s) f
act-refused g q v (Link p to) fault s f = link-refused g q v p to fault (sound-tree g v s) f
act-refused g q v (Read p at count) fault s (inl u) = unfound-refused v p fault (λ t. asks v (read_in at count) t) (λ x. refl) (λ d name. refl) (sound-tree g v s) u
act-refused g q v (Read p at count) fault s (inr e) = dir-refused v p fault (λ t. asks v (read_in at count) t) (let r = dir-slots (body v 0) (sound-tree g v s).root in ap (λ (b : Body). Says (read_in at count b)) r.1)
    (λ d name i slots is. ap (λ (b : Body). Says (read_in at count b)) is) (sound-tree g v s) e
act-refused g q v (ListOf p) fault s (inl u) = unfound-refused v p fault (λ t. asks v list_in t) (λ x. refl) (λ d name. refl) (sound-tree g v s) u
act-refused g q v (ListOf p) fault s (inr f) = file-refused v p fault (λ t. asks v list_in t) (λ d name i old is. ap (λ (b : Body). Says (list_in b)) is) (sound-tree g v s) f
act-refused g q v (Stat p) fault s u = unfound-refused v p fault (λ t. asks v stat_in t) (λ x. refl) (λ d name. refl) (sound-tree g v s) u

pub tree-refused : (g : Geometry) (q : ℕ) (v : Volume) (r : Request) (fault : Fault) → IsSound g v → is_named r ≡ true → IsFault v r fault → (step g q v r).reply ≡ Refused fault
unfolding step
tree-refused g q v r fault s good f = answers-says g v (is_named r) (act g q v r) (Refused fault) good (act-refused g q v r fault s f)

pub name-refused : (g : Geometry) (q : ℕ) (v : Volume) (r : Request) → is_named r ≡ false → (step g q v r).reply ≡ Refused BadName
unfolding step
name-refused g q v r bad = ap (λ (b : Bool). (carried_out g v (cond b (act g q v r) (refused BadName))).reply) bad
