-- What the path of a request names.
use Rattle.std.proofs.Common.{get_or, ◌≡◌, ℕ, List, [], ◌∷◌, ◌++◌, true, refl, sym, ap, ◌∙◌}
use Rattle.std.specs.Prelude.{Option, Some, None, option_and_then, reverse, Result, Ok, Err}
use Rattle.std.specs.List.{list_all}
use Rattle.std.proofs.lemmas.Bool.{and_parts}
use Rattle.std.proofs.lemmas.List.{reverse-append, reverse-reverse}
use Rattle.std.proofs.lemmas.List.Folds.{list_all-append}
use Rattle.std.proofs.lemmas.Option.{none-some, same_Some}
use Rattle.mq_layout.specs.Names.{IsName, is_name}
use Rattle.mq_layout.specs.Slots.{Entry}
use Rattle.mq_layout.proofs.Names.{name-good}
use Rattle.mq_tree.specs.Requests.{Root, Lost, In, enter, go_on, into_dir, target, target_in, walk}
use Rattle.mq_tree.specs.Volume.{ADir, AFile, Body, Free, File, Dir, Path, Volume, Way, body, find, inode_at, slots_of, thing, tree, way}
use Rattle.mq_tree.specs.declared.request.Fault.{Fault}
use Rattle.mq_tree.proofs.VolumePaths.{IsTree, last-step, thing_at}

-- ---- walking

err-ok : {R : Type 0} (fault : Fault) (d : ℕ) → Err fault ≡ Ok d → R
err-ok fault d e = absurd (cc)

into-dir : (i d : ℕ) (b : Body) → into_dir i b ≡ Ok d → (i ≡ d) × (thing b ≡ Some ADir)
into-dir i d Free e = err-ok _ d e
into-dir i d (File bytes) e = err-ok _ d e
into-dir i d (Dir slots) e = (cc, refl)

entered : (v : Volume) (o : Option ℕ) (d : ℕ) → enter v o ≡ Ok d → (o ≡ Some d) × (thing (body v d) ≡ Some ADir)
entered v None d e = err-ok _ d e
entered v (Some i) d e = let r = into-dir i d (body v i) e in (ap (λ (x : ℕ). Some x) r.0, ap (λ (x : ℕ). thing (body v x)) (sym r.0) ∙ r.1)

go-on : (v : Volume) (name : List ℕ) (q : Way) (d : ℕ) (r : Result ℕ Fault) → go_on v name r ≡ Ok d → ((c : ℕ) → r ≡ Ok c → inode_at v q ≡ Some c) → (inode_at v (name ∷ q) ≡ Some d) × (thing (body v d) ≡ Some ADir)
go-on v name q d (Err fault) e before = err-ok fault d e
go-on v name q d (Ok c) e before =
    let r = entered v (find name (slots_of (body v c))) d e in
    (ap (λ (o : Option ℕ). option_and_then (λ x. find name (slots_of (body v x))) o) (before c refl) ∙ r.0, r.1)

-- a walk goes where the way leads, which is a directory
pub walk-leads : (v : Volume) (q : Way) (d : ℕ) → thing (body v 0) ≡ Some ADir → walk v q ≡ Ok d → (inode_at v q ≡ Some d) × (thing (body v d) ≡ Some ADir)
walk-leads v [] d root e = let same : 0 ≡ d = cc in (ap (λ (x : ℕ). Some x) same, ap (λ (x : ℕ). thing (body v x)) (sym same) ∙ root)
walk-leads v (name ∷ q) d root e = go-on v name q d (walk v q) e (λ c f. (walk-leads v q c root f).0)

file-dir : (bytes : List ℕ) → Some (AFile bytes) ≡ Some ADir → ⊥
file-dir bytes e = cc

in-dir : (d : ℕ) (b : Body) → thing b ≡ Some ADir → into_dir d b ≡ Ok d
in-dir d Free e = absurd (none-some _ e)
in-dir d (File bytes) e = absurd (file-dir bytes e)
in-dir d (Dir slots) e = refl

-- what has a used slot is a directory
pub slot-dir : (b : Body) (k : ℕ) (e : Entry) → get_or (slots_of b) k None ≡ Some e → thing b ≡ Some ADir
slot-dir Free k e h = absurd (none-some e h)
slot-dir (File bytes) k e h = absurd (none-some e h)
slot-dir (Dir slots) k e h = refl

-- the other way round
pub leads-walk : (v : Volume) (q : Way) (d : ℕ) → IsTree v → inode_at v q ≡ Some d → thing (body v d) ≡ Some ADir → walk v q ≡ Ok d
leads-walk v [] d t is dir = let same : 0 ≡ d = same_Some 0 d is in ap (λ (x : ℕ). Ok x) same
leads-walk v (name ∷ q) d t is dir =
    let s = last-step v name q d is in
    let c = s.directory in
    let f = s.edge in
    let before = leads-walk v q c t s.before (slot-dir (body v c) f.place f.entry f.there) in
    let found : find name (slots_of (body v c)) ≡ Some d = ap (λ (o : Option ℕ). option_and_then (λ x. find name (slots_of (body v x))) o) (sym s.before) ∙ is in
    ap (λ (r : Result ℕ Fault). go_on v name r) before ∙ ap (λ (o : Option ℕ). enter v o) found ∙ in-dir d (body v d) dir

-- ---- targets

-- a path that names this, in this directory
pub record IsIn (v : Volume) (path : Path) (d : ℕ) (name : List ℕ) (found : Option ℕ) : Type 0 where
  pub parent : Way
  pub is : way path ≡ name ∷ parent
  pub leads : inode_at v parent ≡ Some d
  pub directory : thing (body v d) ≡ Some ADir
  pub found_is : find name (slots_of (body v d)) ≡ found

record AreIn (v : Volume) (q : Way) (d : ℕ) (name : List ℕ) (found : Option ℕ) : Type 0 where
  parent : Way
  is : q ≡ name ∷ parent
  walked : walk v parent ≡ Ok d
  found_is : find name (slots_of (body v d)) ≡ found

in-way : (v : Volume) (q : Way) (d : ℕ) (name : List ℕ) (found : Option ℕ) → target v q ≡ In d name found → AreIn v q d name found
in-way v [] d name found e = absurd (root-in e)
  where
    root-in : Root ≡ In d name found → ⊥
    root-in e = cc
in-way v (n ∷ q) d name found e = go (walk v q) refl e
  where
    go : (r : Result ℕ Fault) → walk v q ≡ r → target_in v n r ≡ In d name found → AreIn v (n ∷ q) d name found
    go (Err fault) is e = absurd (lost-in e)
      where
        lost-in : Lost fault ≡ In d name found → ⊥
        lost-in e = cc
    go (Ok c) is e =
        let names : n ≡ name = cc in
        let dirs : c ≡ d = cc in
        let founds : find n (slots_of (body v c)) ≡ found = cc in
        record {
          parent = q;
          is = ap (λ (x : List ℕ). x ∷ q) names;
          walked = is ∙ ap (λ (x : ℕ). Ok x) dirs;
          found_is = ap (λ (x : List ℕ). find x (slots_of (body v d))) (sym names) ∙ ap (λ (x : ℕ). find n (slots_of (body v x))) (sym dirs) ∙ founds;
        }

pub target-in : (v : Volume) (path : Path) (d : ℕ) (name : List ℕ) (found : Option ℕ) → thing (body v 0) ≡ Some ADir → target v (way path) ≡ In d name found → IsIn v path d name found
target-in v path d name found root e =
    let a = in-way v (way path) d name found e in
    let w = walk-leads v a.parent d root a.walked in
    record { parent = a.parent; is = a.is; leads = w.0; directory = w.1; found_is = a.found_is }

-- where something stands under a name, the way leads to it
pub in-leads : (v : Volume) (path : Path) (d : ℕ) (name : List ℕ) (i : ℕ) → IsIn v path d name (Some i) → inode_at v (way path) ≡ Some i
in-leads v path d name i t =
    ap (λ (q : Way). inode_at v q) t.is ∙ ap (λ (o : Option ℕ). option_and_then (λ x. find name (slots_of (body v x))) o) t.leads ∙ t.found_is

-- the last name of a good path is good
pub last-good : (path : Path) (name : List ℕ) (parent : Way) → list_all is_name path ≡ true → way path ≡ name ∷ parent → IsName name
last-good path name parent good is =
    let e : path ≡ reverse (name ∷ parent) = sym (reverse-reverse path) ∙ ap (λ (q : Way). reverse q) is in
    let f : reverse (name ∷ parent) ≡ reverse parent ++ (name ∷ []) = reverse-append (name ∷ []) parent in
    let all = sym good ∙ ap (λ (p : Path). list_all is_name p) (e ∙ f) ∙ list_all-append is_name (reverse parent) (name ∷ []) in
    let parts = and_parts (list_all is_name (reverse parent)) (list_all is_name (name ∷ [])) (sym all) in
    name-good name (and_parts (is_name name) true parts.1).0

-- ---- paths and ways

-- a path is its way, backwards
pub same-way : (p q : Path) → way p ≡ way q → p ≡ q
same-way p q e = sym (reverse-reverse p) ∙ ap (λ (w : Way). reverse w) e ∙ reverse-reverse q

pub way-append : (p r : Path) → way (p ++ r) ≡ way r ++ way p
way-append p r = reverse-append p r

pub way-below : (s p : Path) (r : Way) → way s ≡ r ++ way p → s ≡ p ++ reverse r
way-below s p r e = sym (reverse-reverse s) ∙ ap (λ (w : Way). reverse w) e ∙ reverse-append r (way p) ∙ ap (λ (x : Path). x ++ reverse r) (reverse-reverse p)

-- the tree by ways
pub tree-way : (v : Volume) (path : Path) (q : Way) → way path ≡ q → tree v path ≡ thing_at v q
tree-way v path q e = ap (λ (w : Way). thing_at v w) e
