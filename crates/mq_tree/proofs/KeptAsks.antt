-- Requests that read answer what the tree has.
use Rattle.std.proofs.Common.{get_or, ◌≡◌, ℕ, suc, List, [], ◌∷◌, ◌++◌, length, map, take, drop, Bool, true, false, cond, Ordering, refl, sym, ap, subst, ◌∙◌}
use Rattle.std.specs.Prelude.{Option, Some, None}
use Rattle.std.specs.Cmp.Lexicographic.{slice_cmp}
use Rattle.std.specs.List.{Contains, list_all}
use Rattle.std.specs.List.Sorted.{IsStrictlySortedBy}
use Rattle.std.specs.Ordering.{is_lt, nat_cmp}
use Rattle.std.proofs.lemmas.Option.{none-some, option_and_then_some, same_Some}
use Rattle.mq_blocks.specs.declared.geometry.Geometry.{Geometry}
use Rattle.mq_layout.specs.Names.{is_name}
use Rattle.mq_layout.specs.Slots.{Entry}
use Rattle.mq_tree.specs.ListText.{entries_in, insert_entry}
use Rattle.mq_tree.specs.Kept.{AreNamesAt, AreRising, IsListed}
use Rattle.mq_tree.specs.Requests.{In, RequestTarget, Verdict, Says, act, asks, carried_out, count_names, insert_name, is_named, list_in, names_in, read_in, refused, stat_in, step, target, target_in}
use Rattle.mq_tree.specs.Sound.{IsSound}
use Rattle.mq_tree.specs.Volume.{ADir, AFile, Body, Free, File, Dir, Path, Thing, Volume, Way, body, find, inode_at, is_used, slots_of, thing, tree, way}
use Rattle.mq_tree.specs.declared.request.Fault.TheVariants.{BadName}
use Rattle.mq_tree.specs.declared.request.Reply.{Reply}
use Rattle.mq_tree.specs.declared.request.Reply.TheVariants.{Data, File as Size, Dir as Count}
use Rattle.mq_tree.specs.declared.request.Request.{Request}
use Rattle.mq_tree.specs.declared.request.Request.TheVariants.{Read, List as ListOf, Stat}
use Rattle.mq_tree.proofs.VolumePaths.{AreNamesOnce, Found, IsTree, found-find, last-step, next-step, thing-here, used-is}
use Rattle.mq_tree.proofs.RequestsTargets.{leads-walk, slot-dir, tree-way, way-append}
use Rattle.mq_tree.proofs.SoundVolumes.{dir-slots, sound-tree}
use Rattle.mq_tree.proofs.Members.{map-cases, map-has}
use Rattle.mq_tree.proofs.ListTextSorting.{entries-found, entries-have, entries-sorted, entry_cmp}

-- ---- names in order

abbrev names_of : List Entry → List (List ℕ)
names_of es = map (λ (e : Entry). e.name) es

insert-names : (e : Entry) (es : List Entry) → insert_name e.name (names_of es) ≡ names_of (insert_entry e es)
insert-names e [] = refl
insert-names e (f ∷ es) = go (is_lt (entry_cmp e f)) (insert-names e es)
  where
    go : (b : Bool) → insert_name e.name (names_of es) ≡ names_of (insert_entry e es) → cond b (e.name ∷ f.name ∷ names_of es) (f.name ∷ insert_name e.name (names_of es)) ≡ names_of (cond b (e ∷ f ∷ es) (f ∷ insert_entry e es))
    go true h = refl
    go false h = ap (λ (names : List (List ℕ)). f.name ∷ names) h

-- the names are those of the entries
names-entries : (slots : List (Option Entry)) → names_in slots ≡ names_of (entries_in slots)
names-entries [] = refl
names-entries (None ∷ slots) = names-entries slots
names-entries (Some e ∷ slots) = ap (insert_name e.name) (names-entries slots) ∙ insert-names e (entries_in slots)

entries-rising : (es : List Entry) → IsStrictlySortedBy entry_cmp es → AreRising (names_of es)
unfolding IsStrictlySortedBy
entries-rising [] s = tt
entries-rising (e ∷ []) s = (tt, tt)
entries-rising (e ∷ f ∷ es) s = (ap (λ (o : Ordering). is_lt o) s.0.0, entries-rising (f ∷ es) s.1)

names-rising : (slots : List (Option Entry)) → AreNamesOnce slots → AreRising (names_in slots)
names-rising slots once = subst (λ names. AreRising names) (sym (names-entries slots)) (entries-rising (entries_in slots) (entries-sorted slots once))

names-found : (slots : List (Option Entry)) (m : List ℕ) → Contains (names_in slots) m → (i : ℕ) × Found slots m i
names-found slots m c =
    let r = map-cases (λ (e : Entry). e.name) (entries_in slots) m (subst (λ names. Contains names m) (names-entries slots) c) in
    let f = entries-found slots r.0 r.1 in
    ((r.0).inode, record { place = f.0; entry = r.0; there = f.1; named = r.2; leads = refl })

names-have : (slots : List (Option Entry)) (k : ℕ) (e : Entry) → get_or slots k None ≡ Some e → Contains (names_in slots) e.name
names-have slots k e h = subst (λ names. Contains names e.name) (sym (names-entries slots)) (map-has (λ (x : Entry). x.name) (entries_in slots) e (entries-have slots k e h))

insert-length : (n : List ℕ) (names : List (List ℕ)) → length (insert_name n names) ≡ suc (length names)
insert-length n [] = refl
insert-length n (m ∷ names) = go (is_lt (slice_cmp nat_cmp n m)) (insert-length n names)
  where
    go : (b : Bool) → length (insert_name n names) ≡ suc (length names) → length (cond b (n ∷ m ∷ names) (m ∷ insert_name n names)) ≡ suc (length (m ∷ names))
    go true e = refl
    go false e = ap (λ (k : ℕ). suc k) e

pub names-count : (slots : List (Option Entry)) → length (names_in slots) ≡ count_names slots
names-count [] = refl
names-count (None ∷ slots) = names-count slots
names-count (Some e ∷ slots) = insert-length e.name (names_in slots) ∙ ap (λ (n : ℕ). suc n) (names-count slots)

-- ---- what a path that leads somewhere is asked

pub file-bytes : (b : Body) (bytes : List ℕ) → thing b ≡ Some (AFile bytes) → b ≡ File bytes
file-bytes Free bytes e = absurd (none-some _ e)
file-bytes (File old) bytes e = let h = same_Some (AFile old) (AFile bytes) e in let s : old ≡ bytes = cc in ap (λ (x : List ℕ). File x) s
file-bytes (Dir slots) bytes e = absurd (dir-file bytes e)
  where
    dir-file : (bytes : List ℕ) → Some ADir ≡ Some (AFile bytes) → ⊥
    dir-file bytes e = cc

-- the inode at a path where something stands
pub thing-leads : (v : Volume) (path : Path) (t : Thing) → tree v path ≡ Some t → (i : ℕ) × (inode_at v (way path) ≡ Some i) × (thing (body v i) ≡ Some t)
thing-leads v path t e = option_and_then_some (λ i. thing (body v i)) (inode_at v (way path)) t e (λ i at is. (i, at, is))

-- the target of a way that leads to an inode
pub target-leads : (v : Volume) (name : List ℕ) (q : Way) (i : ℕ) → IsTree v → inode_at v (name ∷ q) ≡ Some i → (d : ℕ) × (target v (name ∷ q) ≡ In d name (Some i))
target-leads v name q i t at =
    let s = last-step v name q i at in
    let d = s.directory in
    let f = s.edge in
    let walked = leads-walk v q d t s.before (slot-dir (body v d) f.place f.entry f.there) in
    let found : find name (slots_of (body v d)) ≡ Some i = found-find (slots_of (body v d)) name i (t.names d) f in
    (d, ap (λ r. target_in v name r) walked ∙ ap (λ (o : Option ℕ). In d name o) found)

asks-leads : (v : Volume) (reply : Body → Reply) (q : Way) (i : ℕ) → IsTree v → inode_at v q ≡ Some i → asks v reply (target v q) ≡ Says (reply (body v i))
asks-leads v reply [] i t at = ap (λ (x : ℕ). Says (reply (body v x))) (same_Some 0 i at)
asks-leads v reply (name ∷ q) i t at = let r = target-leads v name q i t at in ap (λ (x : RequestTarget). asks v reply x) r.1

pub answers-says : (g : Geometry) (v : Volume) (good : Bool) (x : Verdict) (reply : Reply) → good ≡ true → x ≡ Says reply → (carried_out g v (cond good x (refused BadName))).reply ≡ reply
answers-says g v good x reply e f = ap (λ (b : Bool). (carried_out g v (cond b x (refused BadName))).reply) e ∙ ap (λ (y : Verdict). (carried_out g v y).reply) f

-- the reply of a request whose path leads to an inode
pub reads-leads : (g : Geometry) (q : ℕ) (v : Volume) (r : Request) (path : Path) (reply : Body → Reply) (i : ℕ) → IsTree v → is_named r ≡ true → act g q v r ≡ asks v reply (target v (way path)) → inode_at v (way path) ≡ Some i
    → (step g q v r).reply ≡ reply (body v i)
unfolding step
reads-leads g q v r path reply i t good is at = answers-says g v (is_named r) (act g q v r) (reply (body v i)) good (is ∙ asks-leads v reply (way path) i t at)

-- ---- files

pub read-file : (g : Geometry) (q : ℕ) (v : Volume) (path : Path) (at count : ℕ) (bytes : List ℕ) → IsSound g v → list_all is_name path ≡ true → tree v path ≡ Some (AFile bytes) → (step g q v (Read path at count)).reply ≡ Data (take count (drop at bytes))
read-file g q v path at count bytes s good e =
    let r = thing-leads v path (AFile bytes) e in
    reads-leads g q v (Read path at count) path (read_in at count) r.0 (sound-tree g v s) good refl r.1 ∙ ap (λ (b : Body). read_in at count b) (file-bytes (body v r.0) bytes r.2)

pub stat-file : (g : Geometry) (q : ℕ) (v : Volume) (path : Path) (bytes : List ℕ) → IsSound g v → list_all is_name path ≡ true → tree v path ≡ Some (AFile bytes) → (step g q v (Stat path)).reply ≡ Size (length bytes)
stat-file g q v path bytes s good e =
    let r = thing-leads v path (AFile bytes) e in
    reads-leads g q v (Stat path) path stat_in r.0 (sound-tree g v s) good refl r.1 ∙ ap (λ (b : Body). stat_in b) (file-bytes (body v r.0) bytes r.2)

-- ---- directories

pub names-at : (g : Geometry) (v : Volume) (path : Path) (i : ℕ) (slots : List (Option Entry)) → IsSound g v → inode_at v (way path) ≡ Some i → body v i ≡ Dir slots → AreNamesAt v path (names_in slots)
names-at g v path i slots s at is =
    let t = sound-tree g v s in
    let same : slots_of (body v i) ≡ slots = ap (λ (b : Body). slots_of b) is in
    let below = λ (name : List ℕ). tree-way v (path ++ name ∷ []) (name ∷ way path) (way-append path (name ∷ [])) in
    record {
      rising = subst (λ xs. AreRising (names_in xs)) same (names-rising (slots_of (body v i)) (t.names i));
      found = λ name c.
          let r = names-found slots name c in
          let f : Found (slots_of (body v i)) name r.0 = subst (λ xs. Found xs name r.0) (sym same) r.1 in
          let leads = next-step v name (way path) i r.0 t.names at f in
          let used = (t.named i f.place f.entry f.there).1 in
          let thing_is = used-is (body v r.0) (ap (λ (x : ℕ). is_used (body v x)) (sym f.leads) ∙ used) in
          (thing_is.0, below name ∙ thing-here v (name ∷ way path) r.0 leads ∙ thing_is.1);
      all = λ name there e.
          let r : (x : ℕ) × (inode_at v (name ∷ way path) ≡ Some x) = option_and_then_some (λ x. thing (body v x)) (inode_at v (name ∷ way path)) there (sym (below name) ∙ e) (λ x leads h. (x, leads)) in
          let f = last-step v name (way path) r.0 r.1 in
          let dirs : f.directory ≡ i = same_Some f.directory i (sym f.before ∙ at) in
          let edge = f.edge in
          let slot_there : get_or slots edge.place None ≡ Some edge.entry = ap (λ (xs : List (Option Entry)). get_or xs edge.place None) (sym same) ∙ ap (λ (d : ℕ). get_or (slots_of (body v d)) edge.place None) (sym dirs) ∙ edge.there in
          subst (λ n. Contains (names_in slots) n) edge.named (names-have slots edge.place edge.entry slot_there);
    }

pub listed : (g : Geometry) (q : ℕ) (v : Volume) (path : Path) → IsSound g v → list_all is_name path ≡ true → tree v path ≡ Some ADir → IsListed g q v path
listed g q v path s good e =
    let r = thing-leads v path ADir e in
    let d = dir-slots (body v r.0) r.2 in
    let t = sound-tree g v s in
    record {
      names = names_in d.0;
      at = names-at g v path r.0 d.0 s r.1 d.1;
      list = reads-leads g q v (ListOf path) path list_in r.0 t good refl r.1 ∙ ap (λ (b : Body). list_in b) d.1;
      stat = reads-leads g q v (Stat path) path stat_in r.0 t good refl r.1 ∙ ap (λ (b : Body). stat_in b) d.1 ∙ ap (λ (n : ℕ). Count n) (sym (names-count d.0));
    }
