-- What a path names, by the tree alone.
use Rattle.std.proofs.Common.{◌≡◌, ◌≢◌, ℕ, List, [], ◌∷◌, ◌++◌, true, refl, sym, ap, subst, ◌∙◌}
use Rattle.std.specs.Prelude.{Option, Some, None, option_and_then, reverse, Result, Ok, Err}
use Rattle.std.proofs.lemmas.List.{reverse-append, reverse-reverse}
use Rattle.std.proofs.lemmas.Option.{none-some}
use Rattle.mq_tree.proofs.TreesWalkways.{walk-err}
use Rattle.mq_tree.specs.Faults.{IsEnd, IsLost, IsMissing}
use Rattle.mq_tree.specs.Requests.{Root, Lost, In, RequestTarget, enter, go_on, into_dir, target, target_in, walk}
use Rattle.mq_tree.specs.Volume.{ADir, AFile, Body, Free, File, Dir, Path, Thing, Volume, Way, body, find, inode_at, is_used, slots_of, thing, tree, way}
use Rattle.mq_tree.specs.declared.request.Fault.{Fault}
use Rattle.mq_tree.specs.declared.request.Fault.TheVariants.{NotDir, NotFound}
use Rattle.mq_tree.proofs.KeptAsks.{file-bytes, target-leads, thing-leads}
use Rattle.mq_tree.proofs.VolumePaths.{IsTree, find-found, thing-here, thing_at, used-is}
use Rattle.mq_tree.proofs.RequestsTargets.{IsIn, leads-walk, same-way, target-in, tree-way, walk-leads, way-append, way-below}

-- ---- steps of a walk

-- what stands under a name in a directory to which a way leads
under-name : (v : Volume) (name : List ℕ) (q : Way) (d : ℕ) (o : Option ℕ) → inode_at v q ≡ Some d → find name (slots_of (body v d)) ≡ o → inode_at v (name ∷ q) ≡ o
under-name v name q d o at is = ap (λ (x : Option ℕ). option_and_then (λ i. find name (slots_of (body v i))) x) at ∙ is

-- what is found is used, so where nothing stands nothing is found
found-used : (v : Volume) (name : List ℕ) (d i : ℕ) → IsTree v → find name (slots_of (body v d)) ≡ Some i → is_used (body v i) ≡ true
found-used v name d i t is =
    let f = find-found name (slots_of (body v d)) i is in
    ap (λ (x : ℕ). is_used (body v x)) (sym f.leads) ∙ (t.named d f.place f.entry f.there).1

nothing-found : (v : Volume) (name : List ℕ) (q : Way) (d : ℕ) → IsTree v → inode_at v q ≡ Some d → thing_at v (name ∷ q) ≡ None → find name (slots_of (body v d)) ≡ None
nothing-found v name q d t at none = go (find name (slots_of (body v d))) refl
  where
    go : (o : Option ℕ) → find name (slots_of (body v d)) ≡ o → find name (slots_of (body v d)) ≡ None
    go None is = is
    go (Some i) is =
        let u = used-is (body v i) (found-used v name d i t is) in
        absurd (none-some u.0 (sym none ∙ thing-here v (name ∷ q) i (under-name v name q d (Some i) at is) ∙ u.1))

-- ---- from the tree to the walk

walk-end : (v : Volume) (name : List ℕ) (q : Way) (d : ℕ) (fault : Fault) → IsTree v → inode_at v q ≡ Some d → thing (body v d) ≡ Some ADir → (o : Option Thing) → thing_at v (name ∷ q) ≡ o → IsEnd o fault → walk v (name ∷ q) ≡ Err fault
walk-end v name q d fault t at dir None is end =
    let walked = leads-walk v q d t at dir in
    let none = nothing-found v name q d t at is in
    ap (λ (r : Result ℕ Fault). go_on v name r) walked ∙ ap (λ (x : Option ℕ). enter v x) none ∙ ap (λ (f : Fault). Err f) (sym end)
walk-end v name q d fault t at dir (Some ADir) is end = absurd end
walk-end v name q d fault t at dir (Some (AFile bytes)) is end = go (find name (slots_of (body v d))) refl
  where
    go : (o : Option ℕ) → find name (slots_of (body v d)) ≡ o → walk v (name ∷ q) ≡ Err fault
    go None found = absurd (none-some (AFile bytes) (sym (ap (λ (x : Option ℕ). option_and_then (λ i. thing (body v i)) x) (under-name v name q d None at found)) ∙ is))
    go (Some i) found =
        let walked = leads-walk v q d t at dir in
        let there : thing (body v i) ≡ Some (AFile bytes) = sym (thing-here v (name ∷ q) i (under-name v name q d (Some i) at found)) ∙ is in
        ap (λ (r : Result ℕ Fault). go_on v name r) walked ∙ ap (λ (x : Option ℕ). enter v x) found ∙ ap (λ (b : Body). into_dir i b) (file-bytes (body v i) bytes there) ∙ ap (λ (f : Fault). Err f) (sym end)

pub lost-target : (v : Volume) (path : Path) (fault : Fault) → IsTree v → IsLost v path fault → target v (way path) ≡ Lost fault
lost-target v path fault t l =
    let d = thing-leads v l.before ADir l.directory in
    let stop = l.before ++ l.name ∷ [] in
    let there = way-append l.before (l.name ∷ []) in
    let ends = walk-end v l.name (way l.before) d.0 fault t d.1 d.2 (tree v stop) (sym (tree-way v stop (l.name ∷ way l.before) there)) l.ends in
    let whole : way path ≡ way l.rest ++ l.name ∷ way l.before = ap (λ (p : Path). way p) l.is ∙ way-append stop l.rest ∙ ap (λ (w : Way). way l.rest ++ w) there in
    ap (λ (w : Way). target v w) whole ∙ go (way l.rest) refl l.more (l.name ∷ way l.before) ends
  where
    go : (r : Way) → way l.rest ≡ r → l.rest ≢ [] → (q : Way) → walk v q ≡ Err fault → target v (r ++ q) ≡ Lost fault
    go [] is more q e = absurd (more (same-way l.rest [] is))
    go (n ∷ r) is more q e = ap (λ (x : Result ℕ Fault). target_in v n x) (walk-err v q r fault e)

pub missing-target : (v : Volume) (path : Path) → IsTree v → (m : IsMissing v path) → (d : ℕ) × (name : List ℕ) × (target v (way path) ≡ In d name None) × (inode_at v (way m.parent) ≡ Some d)
missing-target v path t m =
    let d = thing-leads v m.parent ADir m.directory in
    let whole : way path ≡ m.name ∷ way m.parent = ap (λ (p : Path). way p) m.is ∙ way-append m.parent (m.name ∷ []) in
    let walked = leads-walk v (way m.parent) d.0 t d.1 d.2 in
    let none = nothing-found v m.name (way m.parent) d.0 t d.1 (sym (tree-way v path (m.name ∷ way m.parent) whole) ∙ m.nothing) in
    (d.0, m.name, ap (λ (w : Way). target v w) whole ∙ ap (λ (r : Result ℕ Fault). target_in v m.name r) walked ∙ ap (λ (o : Option ℕ). In d.0 m.name o) none, d.1)

-- what stands at a path is at its target
pub record IsThere (v : Volume) (path : Path) (t : Thing) : Type 0 where
  pub directory : ℕ
  pub name : List ℕ
  pub inode : ℕ
  pub target_is : target v (way path) ≡ In directory name (Some inode)
  pub thing_is : thing (body v inode) ≡ Some t
  pub leads : inode_at v (way path) ≡ Some inode
  pub is_in : IsIn v path directory name (Some inode)

pub there-target : (v : Volume) (path : Path) (t : Thing) → IsTree v → path ≢ [] → tree v path ≡ Some t → IsThere v path t
there-target v path t k some e = let r = thing-leads v path t e in go (way path) refl r.0 r.1 r.2
  where
    go : (q : Way) → way path ≡ q → (i : ℕ) → inode_at v (way path) ≡ Some i → thing (body v i) ≡ Some t → IsThere v path t
    go [] is i at there = absurd (some (same-way path [] is))
    go (n ∷ q) is i at there =
        let r = target-leads v n q i k (ap (λ (w : Way). inode_at v w) (sym is) ∙ at) in
        record { directory = r.0; name = n; inode = i; target_is = ap (λ (w : Way). target v w) is ∙ r.1; thing_is = there; leads = at; is_in = target-in v path r.0 n (Some i) k.root (ap (λ (w : Way). target v w) is ∙ r.1) }

-- ---- from the walk to the tree

record LostWay (v : Volume) (q : Way) (fault : Fault) : Type 0 where
  rest : Way
  name : List ℕ
  before : Way
  is : q ≡ rest ++ name ∷ before
  directory : thing_at v before ≡ Some ADir
  ends : IsEnd (thing_at v (name ∷ before)) fault

ok-err : {R : Type 0} (d : ℕ) (fault : Fault) → Ok d ≡ Err fault → R
ok-err d fault e = absurd (cc)

abbrev failed : Fault → Result ℕ Fault
failed fault = Err fault

same-fault : (f fault : Fault) → failed f ≡ failed fault → fault ≡ f
same-fault f fault e = cc

into-end : (i : ℕ) (b : Body) (fault : Fault) → into_dir i b ≡ Err fault → IsEnd (thing b) fault
into-end i Free fault e = same-fault NotFound fault e
into-end i (File bytes) fault e = same-fault NotDir fault e
into-end i (Dir slots) fault e = ok-err i fault e

enter-end : (v : Volume) (o : Option ℕ) (fault : Fault) → enter v o ≡ Err fault → IsEnd (option_and_then (λ i. thing (body v i)) o) fault
enter-end v None fault e = same-fault NotFound fault e
enter-end v (Some i) fault e = into-end i (body v i) fault e

walk-lost : (v : Volume) (q : Way) (fault : Fault) → IsTree v → walk v q ≡ Err fault → LostWay v q fault
walk-lost v [] fault t e = ok-err 0 fault e
walk-lost v (n ∷ q) fault t e = go (walk v q) refl e (λ f is. walk-lost v q f t is)
  where
    go : (r : Result ℕ Fault) → walk v q ≡ r → go_on v n r ≡ Err fault → ((f : Fault) → walk v q ≡ Err f → LostWay v q f) → LostWay v (n ∷ q) fault
    go (Err f) is h rest =
        let l = rest f is in
        let same = same-fault f fault h in
        record { rest = n ∷ l.rest; name = l.name; before = l.before; is = ap (λ (w : Way). n ∷ w) l.is; directory = l.directory; ends = subst (λ x. IsEnd (thing_at v (l.name ∷ l.before)) x) (sym same) l.ends }
    go (Ok d) is h rest =
        let w = walk-leads v q d t.root is in
        let at : inode_at v (n ∷ q) ≡ find n (slots_of (body v d)) = under-name v n q d (find n (slots_of (body v d))) w.0 refl in
        record {
          rest = [];
          name = n;
          before = q;
          is = refl;
          directory = thing-here v q d w.0 ∙ w.1;
          ends = subst (λ o. IsEnd (option_and_then (λ i. thing (body v i)) o) fault) (sym at) (enter-end v (find n (slots_of (body v d))) fault h);
        }

-- a target says what stands at the path
abbrev pub IsView : Volume → Path → RequestTarget → Type 0
IsView v path Root = path ≡ []
IsView v path (Lost fault) = IsLost v path fault
IsView v path (In d name None) = (m : IsMissing v path) × (inode_at v (way m.parent) ≡ Some d)
IsView v path (In d name (Some i)) = (path ≢ []) × (inode_at v (way path) ≡ Some i) × (is_used (body v i) ≡ true) × IsIn v path d name (Some i)

-- the path of a way
pub path-of : (path : Path) (name : List ℕ) (q : Way) → way path ≡ name ∷ q → path ≡ reverse q ++ name ∷ []
path-of path name q is = sym (reverse-reverse path) ∙ ap (λ (w : Way). reverse w) is ∙ reverse-append (name ∷ []) q

tree-back : (v : Volume) (q : Way) → tree v (reverse q) ≡ thing_at v q
tree-back v q = tree-way v (reverse q) q (reverse-reverse q)

view-lost : (v : Volume) (path : Path) (n : List ℕ) (q : Way) (fault : Fault) → way path ≡ n ∷ q → LostWay v q fault → IsLost v path fault
view-lost v path n q fault is l =
    let stop : reverse (l.name ∷ l.before) ≡ reverse l.before ++ l.name ∷ [] = reverse-append (l.name ∷ []) l.before in
    let whole : way path ≡ (n ∷ l.rest) ++ way (reverse (l.name ∷ l.before)) = is ∙ ap (λ (w : Way). n ∷ w) l.is ∙ ap (λ (w : Way). (n ∷ l.rest) ++ w) (sym (reverse-reverse (l.name ∷ l.before))) in
    record {
      before = reverse l.before;
      name = l.name;
      rest = reverse (n ∷ l.rest);
      is = way-below path (reverse (l.name ∷ l.before)) (n ∷ l.rest) whole ∙ ap (λ (p : Path). p ++ reverse (n ∷ l.rest)) stop;
      more = λ e. cons-none n l.rest (sym (reverse-reverse (n ∷ l.rest)) ∙ ap (λ (p : Path). reverse p) e);
      directory = tree-back v l.before ∙ l.directory;
      ends = subst (λ o. IsEnd o fault) (sym (ap (λ (p : Path). tree v p) (sym stop) ∙ tree-back v (l.name ∷ l.before))) l.ends;
    }
  where
    cons-none : (n : List ℕ) (r : Way) → n ∷ r ≡ [] → ⊥
    cons-none n r e = cc

view-in : (v : Volume) (path : Path) (n : List ℕ) (q : Way) (d : ℕ) → IsTree v → way path ≡ n ∷ q → inode_at v q ≡ Some d → thing (body v d) ≡ Some ADir → (o : Option ℕ) → find n (slots_of (body v d)) ≡ o → IsView v path (In d n o)
view-in v path n q d t is at dir None found = (
  record {
    parent = reverse q;
    name = n;
    is = path-of path n q is;
    directory = tree-back v q ∙ thing-here v q d at ∙ dir;
    nothing = tree-way v path (n ∷ q) is ∙ ap (λ (x : Option ℕ). option_and_then (λ i. thing (body v i)) x) (under-name v n q d None at found);
  },
  ap (λ (w : Way). inode_at v w) (reverse-reverse q) ∙ at,
)
view-in v path n q d t is at dir (Some i) found =
    (λ e. none-cons n q (ap (λ (p : Path). way p) (sym e) ∙ is), ap (λ (w : Way). inode_at v w) is ∙ under-name v n q d (Some i) at found, found-used v n d i t found, record { parent = q; is = is; leads = at; directory = dir; found_is = found })
  where
    none-cons : (n : List ℕ) (r : Way) → [] ≡ n ∷ r → ⊥
    none-cons n r e = cc

pub target-view : (v : Volume) (path : Path) → IsTree v → IsView v path (target v (way path))
target-view v path t = go (way path) refl
  where
    go : (w : Way) → way path ≡ w → IsView v path (target v w)
    go [] is = same-way path [] is
    go (n ∷ q) is = walked (walk v q) refl
      where
        walked : (r : Result ℕ Fault) → walk v q ≡ r → IsView v path (target_in v n r)
        walked (Err fault) e = view-lost v path n q fault is (walk-lost v q fault t e)
        walked (Ok d) e = let w = walk-leads v q d t.root e in view-in v path n q d t is w.0 w.1 (find n (slots_of (body v d))) refl
