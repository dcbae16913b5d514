-- What requests that act found, and what they make.
use Rattle.std.proofs.Common.{suc, get_or, ◌≡◌, ℕ, ◌+◌, ◌<◌, ◌≤◌, List, length, Bool, true, false, cond, refl, ap, ◌∙◌}
use Rattle.std.specs.Prelude.{Option, Some, None, nat_eq, nat_le, nat_lt}
use Rattle.std.proofs.lemmas.Bool.{eqb-true, leb-false, ltb-false}
use Rattle.mq_blocks.specs.declared.geometry.Geometry.{Geometry}
use Rattle.mq_layout.specs.Places.{file_limit, names_limit}
use Rattle.mq_layout.specs.Slots.{Entry}
use Rattle.mq_tree.specs.Free.{first_free, needs}
use Rattle.mq_tree.specs.Requests.{Root, Lost, In, RequestTarget, Verdict, Says, Makes, count_names, cut_to, freed, released, is_below, link, link_file, link_needs, link_to, links_limit, linked, with_links, make, make_free, move, refused, rename, resized, rmdir, rmdir_in, set_bytes, spliced, target, truncate, truncate_in, unlink, unlink_in, unlinked, write, write_in}
use Rattle.mq_tree.specs.Sound.{blocks_for}
use Rattle.mq_tree.specs.Volume.{ADir, Body, Free, File, Dir, Path, Volume, body, is_used, node, slot, slots_of, thing, way}
use Rattle.mq_tree.specs.declared.request.Fault.{Fault}
use Rattle.mq_tree.specs.declared.request.Fault.TheVariants.{NotEmpty, Subtree, TooBig, Links}
use Rattle.mq_tree.specs.declared.request.Reply.{Reply}
use Rattle.mq_tree.proofs.VolumeChanges.{with_new}
use Rattle.mq_tree.proofs.RequestsNodes.{nameless}
use Rattle.mq_tree.proofs.RequestsTargets.{IsIn, target-in}

-- ---- verdicts

pub says-makes : {R : Type 0} (reply : Reply) (n : ℕ) (w : Volume) → Says reply ≡ Makes n w → R
says-makes reply n w e = absurd (cc)

pub makes-parts : (m n : ℕ) (u w : Volume) → Makes m u ≡ Makes n w → (n ≡ m) × (w ≡ u)
makes-parts m n u w e = (cc, cc)

refused-else : (b : Bool) (fault : Fault) (x : Verdict) (n : ℕ) (w : Volume) → cond b (refused fault) x ≡ Makes n w → (b ≡ false) × (x ≡ Makes n w)
refused-else true fault x n w e = says-makes _ n w e
refused-else false fault x n w e = (refl, e)

pub makes-then : (b : Bool) (fault : Fault) (x : Verdict) (n : ℕ) (w : Volume) → cond b x (refused fault) ≡ Makes n w → (b ≡ true) × (x ≡ Makes n w)
makes-then true fault x n w e = (refl, e)
makes-then false fault x n w e = says-makes _ n w e

-- ---- a new file or directory

pub record MakesNew (g : Geometry) (q : ℕ) (v : Volume) (new : Body) (path : Path) (n : ℕ) (w : Volume) : Type 0 where
  pub directory : ℕ
  pub name : List ℕ
  pub inode : ℕ
  pub target : IsIn v path directory name None
  pub few : count_names (slots_of (body v directory)) < names_limit
  pub first : first_free 0 v ≡ Some inode
  pub blocks : n ≡ link_needs (node v directory)
  pub next : w ≡ linked g q (with_new v inode new) directory (record { inode = inode; name = name })

new-free : (g : Geometry) (q : ℕ) (v : Volume) (new : Body) (path : Path) (d : ℕ) (name : List ℕ) (n : ℕ) (w : Volume) → IsIn v path d name None → count_names (slots_of (body v d)) < names_limit
    → (o : Option ℕ) → first_free 0 v ≡ o → make_free g q v new d name o ≡ Makes n w → MakesNew g q v new path n w
new-free g q v new path d name n w t few None is e = says-makes _ n w e
new-free g q v new path d name n w t few (Some i) is e =
    let p = makes-parts (link_needs (node v d)) n (linked g q (with_new v i new) d (record { inode = i; name = name })) w e in
    record { directory = d; name = name; inode = i; target = t; few = few; first = is; blocks = p.0; next = p.1 }

new-in : (g : Geometry) (q : ℕ) (v : Volume) (new : Body) (path : Path) (n : ℕ) (w : Volume) → thing (body v 0) ≡ Some ADir → (t : RequestTarget) → target v (way path) ≡ t → make g q v new t ≡ Makes n w → MakesNew g q v new path n w
new-in g q v new path n w root Root is e = says-makes _ n w e
new-in g q v new path n w root (Lost fault) is e = says-makes _ n w e
new-in g q v new path n w root (In d name (Some i)) is e = says-makes _ n w e
new-in g q v new path n w root (In d name None) is e =
    let r = refused-else (nat_le names_limit (count_names (slots_of (body v d)))) TooBig (make_free g q v new d name (first_free 0 v)) n w e in
    new-free g q v new path d name n w (target-in v path d name None root is) (leb-false names_limit (count_names (slots_of (body v d))) r.0) (first_free 0 v) refl r.1

pub makes-new : (g : Geometry) (q : ℕ) (v : Volume) (new : Body) (path : Path) (n : ℕ) (w : Volume) → thing (body v 0) ≡ Some ADir → make g q v new (target v (way path)) ≡ Makes n w → MakesNew g q v new path n w
makes-new g q v new path n w root e = new-in g q v new path n w root (target v (way path)) refl e

-- ---- other bytes

pub record FillsNew (g : Geometry) (q : ℕ) (v : Volume) (path : Path) (size : ℕ) (change : List ℕ → List ℕ) (n : ℕ) (w : Volume) : Type 0 where
  pub directory : ℕ
  pub name : List ℕ
  pub inode : ℕ
  pub old : List ℕ
  pub target : IsIn v path directory name (Some inode)
  pub was : body v inode ≡ File old
  pub few : size ≤ file_limit
  pub blocks : n ≡ needs (length (node v inode).blocks) (blocks_for (length (change old)))
  pub next : w ≡ resized g q v inode (change old)

fills-file : (g : Geometry) (q : ℕ) (v : Volume) (path : Path) (size : ℕ) (change : List ℕ → List ℕ) (n : ℕ) (w : Volume) (d : ℕ) (name : List ℕ) (i : ℕ) (old : List ℕ) → IsIn v path d name (Some i) → body v i ≡ File old
    → set_bytes g q v i size (change old) ≡ Makes n w → FillsNew g q v path size change n w
fills-file g q v path size change n w d name i old t was e =
    let made = Makes (needs (length (node v i).blocks) (blocks_for (length (change old)))) (resized g q v i (change old)) in
    let r = refused-else (nat_lt file_limit size) TooBig made n w e in
    let p = makes-parts (needs (length (node v i).blocks) (blocks_for (length (change old)))) n (resized g q v i (change old)) w r.1 in
    record { directory = d; name = name; inode = i; old = old; target = t; was = was; few = ltb-false file_limit size r.0; blocks = p.0; next = p.1 }

write-body : (g : Geometry) (q : ℕ) (v : Volume) (path : Path) (at : ℕ) (new : List ℕ) (n : ℕ) (w : Volume) (d : ℕ) (name : List ℕ) (i : ℕ) → IsIn v path d name (Some i) → (b : Body) → body v i ≡ b
    → write_in g q v i at new b ≡ Makes n w → FillsNew g q v path (at + length new) (λ old. spliced at new old) n w
write-body g q v path at new n w d name i t Free is e = says-makes _ n w e
write-body g q v path at new n w d name i t (File old) is e = fills-file g q v path (at + length new) (λ bytes. spliced at new bytes) n w d name i old t is e
write-body g q v path at new n w d name i t (Dir slots) is e = says-makes _ n w e

write-in : (g : Geometry) (q : ℕ) (v : Volume) (path : Path) (at : ℕ) (new : List ℕ) (n : ℕ) (w : Volume) → thing (body v 0) ≡ Some ADir → (t : RequestTarget) → target v (way path) ≡ t → write g q v at new t ≡ Makes n w
    → FillsNew g q v path (at + length new) (λ old. spliced at new old) n w
write-in g q v path at new n w root Root is e = says-makes _ n w e
write-in g q v path at new n w root (Lost fault) is e = says-makes _ n w e
write-in g q v path at new n w root (In d name None) is e = says-makes _ n w e
write-in g q v path at new n w root (In d name (Some i)) is e = write-body g q v path at new n w d name i (target-in v path d name (Some i) root is) (body v i) refl e

pub write-fills : (g : Geometry) (q : ℕ) (v : Volume) (path : Path) (at : ℕ) (new : List ℕ) (n : ℕ) (w : Volume) → thing (body v 0) ≡ Some ADir → write g q v at new (target v (way path)) ≡ Makes n w
    → FillsNew g q v path (at + length new) (λ old. spliced at new old) n w
write-fills g q v path at new n w root e = write-in g q v path at new n w root (target v (way path)) refl e

truncate-body : (g : Geometry) (q : ℕ) (v : Volume) (path : Path) (size : ℕ) (n : ℕ) (w : Volume) (d : ℕ) (name : List ℕ) (i : ℕ) → IsIn v path d name (Some i) → (b : Body) → body v i ≡ b → truncate_in g q v i size b ≡ Makes n w
    → FillsNew g q v path size (λ old. cut_to size old) n w
truncate-body g q v path size n w d name i t Free is e = says-makes _ n w e
truncate-body g q v path size n w d name i t (File old) is e = fills-file g q v path size (λ bytes. cut_to size bytes) n w d name i old t is e
truncate-body g q v path size n w d name i t (Dir slots) is e = says-makes _ n w e

truncate-in : (g : Geometry) (q : ℕ) (v : Volume) (path : Path) (size : ℕ) (n : ℕ) (w : Volume) → thing (body v 0) ≡ Some ADir → (t : RequestTarget) → target v (way path) ≡ t → truncate g q v size t ≡ Makes n w
    → FillsNew g q v path size (λ old. cut_to size old) n w
truncate-in g q v path size n w root Root is e = says-makes _ n w e
truncate-in g q v path size n w root (Lost fault) is e = says-makes _ n w e
truncate-in g q v path size n w root (In d name None) is e = says-makes _ n w e
truncate-in g q v path size n w root (In d name (Some i)) is e = truncate-body g q v path size n w d name i (target-in v path d name (Some i) root is) (body v i) refl e

pub truncate-fills : (g : Geometry) (q : ℕ) (v : Volume) (path : Path) (size : ℕ) (n : ℕ) (w : Volume) → thing (body v 0) ≡ Some ADir → truncate g q v size (target v (way path)) ≡ Makes n w
    → FillsNew g q v path size (λ old. cut_to size old) n w
truncate-fills g q v path size n w root e = truncate-in g q v path size n w root (target v (way path)) refl e

-- ---- an inode that is gone

pub record CutsOld (v : Volume) (path : Path) (w : Volume) (P : Body → Type 0) : Type 0 where
  pub directory : ℕ
  pub name : List ℕ
  pub inode : ℕ
  pub target : IsIn v path directory name (Some inode)
  pub used : is_used (body v inode) ≡ true
  pub empty : (l : ℕ) → slot v inode l ≡ None
  pub was : P (body v inode)
  pub next : w ≡ freed (unlinked v directory name) inode

-- a file, or a directory without names
abbrev pub IsFile : Body → Type 0
IsFile b = (old : List ℕ) × (b ≡ File old)

abbrev pub IsBareDir : Body → Type 0
IsBareDir b = (slots : List (Option Entry)) × (b ≡ Dir slots) × (count_names slots ≡ 0)

-- a file that loses this name
pub record UnlinksOld (v : Volume) (path : Path) (w : Volume) : Type 0 where
  pub directory : ℕ
  pub name : List ℕ
  pub inode : ℕ
  pub target : IsIn v path directory name (Some inode)
  pub old : List ℕ
  pub was : body v inode ≡ File old
  pub next : w ≡ released (unlinked v directory name) inode

unlink-body : (v : Volume) (path : Path) (n : ℕ) (w : Volume) (d : ℕ) (name : List ℕ) (i : ℕ) → IsIn v path d name (Some i) → (b : Body) → body v i ≡ b → unlink_in v d name i b ≡ Makes n w → UnlinksOld v path w
unlink-body v path n w d name i t Free is e = says-makes _ n w e
unlink-body v path n w d name i t (File old) is e = record {
  directory = d;
  name = name;
  inode = i;
  target = t;
  old = old;
  was = is;
  next = (makes-parts 0 n (released (unlinked v d name) i) w e).1;
}
unlink-body v path n w d name i t (Dir slots) is e = says-makes _ n w e

unlink-in : (v : Volume) (path : Path) (n : ℕ) (w : Volume) → thing (body v 0) ≡ Some ADir → (t : RequestTarget) → target v (way path) ≡ t → unlink v t ≡ Makes n w → UnlinksOld v path w
unlink-in v path n w root Root is e = says-makes _ n w e
unlink-in v path n w root (Lost fault) is e = says-makes _ n w e
unlink-in v path n w root (In d name None) is e = says-makes _ n w e
unlink-in v path n w root (In d name (Some i)) is e = unlink-body v path n w d name i (target-in v path d name (Some i) root is) (body v i) refl e

pub unlink-cuts : (v : Volume) (path : Path) (n : ℕ) (w : Volume) → thing (body v 0) ≡ Some ADir → unlink v (target v (way path)) ≡ Makes n w → UnlinksOld v path w
unlink-cuts v path n w root e = unlink-in v path n w root (target v (way path)) refl e

rmdir-body : (v : Volume) (path : Path) (n : ℕ) (w : Volume) (d : ℕ) (name : List ℕ) (i : ℕ) → IsIn v path d name (Some i) → (b : Body) → body v i ≡ b → rmdir_in v d name i b ≡ Makes n w → CutsOld v path w IsBareDir
rmdir-body v path n w d name i t Free is e = says-makes _ n w e
rmdir-body v path n w d name i t (File old) is e = says-makes _ n w e
rmdir-body v path n w d name i t (Dir slots) is e =
    let r = makes-then (nat_eq (count_names slots) 0) NotEmpty (Makes 0 (freed (unlinked v d name) i)) n w e in
    let none = eqb-true (count_names slots) 0 r.0 in
    record {
      directory = d;
      name = name;
      inode = i;
      target = t;
      used = ap (λ (b : Body). is_used b) is;
      empty = λ l. ap (λ (b : Body). get_or (slots_of b) l None) is ∙ nameless slots l none;
      was = (slots, is, none);
      next = (makes-parts 0 n (freed (unlinked v d name) i) w r.1).1;
    }

rmdir-in : (v : Volume) (path : Path) (n : ℕ) (w : Volume) → thing (body v 0) ≡ Some ADir → (t : RequestTarget) → target v (way path) ≡ t → rmdir v t ≡ Makes n w → CutsOld v path w IsBareDir
rmdir-in v path n w root Root is e = says-makes _ n w e
rmdir-in v path n w root (Lost fault) is e = says-makes _ n w e
rmdir-in v path n w root (In d name None) is e = says-makes _ n w e
rmdir-in v path n w root (In d name (Some i)) is e = rmdir-body v path n w d name i (target-in v path d name (Some i) root is) (body v i) refl e

pub rmdir-cuts : (v : Volume) (path : Path) (n : ℕ) (w : Volume) → thing (body v 0) ≡ Some ADir → rmdir v (target v (way path)) ≡ Makes n w → CutsOld v path w IsBareDir
rmdir-cuts v path n w root e = rmdir-in v path n w root (target v (way path)) refl e

-- ---- a name more

pub record LinksOld (g : Geometry) (q : ℕ) (v : Volume) (from to : Path) (n : ℕ) (w : Volume) : Type 0 where
  pub directory : ℕ
  pub name : List ℕ
  pub inode : ℕ
  pub old : List ℕ
  pub source_directory : ℕ
  pub source_name : List ℕ
  pub source : IsIn v from source_directory source_name (Some inode)
  pub was : body v inode ≡ File old
  pub target : IsIn v to directory name None
  pub few : count_names (slots_of (body v directory)) < names_limit
  pub room : (node v inode).links < links_limit
  pub blocks : n ≡ link_needs (node v directory)
  pub next : w ≡ linked g q (with_links v inode (suc (node v inode).links)) directory (record { inode = inode; name = name })

link-to : (g : Geometry) (q : ℕ) (v : Volume) (from to : Path) (n : ℕ) (w : Volume) (d : ℕ) (name : List ℕ) (i : ℕ) (old : List ℕ) → thing (body v 0) ≡ Some ADir → IsIn v from d name (Some i) → body v i ≡ File old
    → (t : RequestTarget) → target v (way to) ≡ t → link_to g q v i t ≡ Makes n w → LinksOld g q v from to n w
link-to g q v from to n w d name i old root source was Root is e = says-makes _ n w e
link-to g q v from to n w d name i old root source was (Lost fault) is e = says-makes _ n w e
link-to g q v from to n w d name i old root source was (In c new (Some j)) is e = says-makes _ n w e
link-to g q v from to n w d name i old root source was (In c new None) is e =
    let many = nat_le links_limit (node v i).links in
    let made = linked g q (with_links v i (suc (node v i).links)) c (record { inode = i; name = new }) in
    let r = refused-else (nat_le names_limit (count_names (slots_of (body v c)))) TooBig (cond many (refused Links) (Makes (link_needs (node v c)) made)) n w e in
    let s = refused-else many Links (Makes (link_needs (node v c)) made) n w r.1 in
    let p = makes-parts (link_needs (node v c)) n made w s.1 in
    record {
      directory = c;
      name = new;
      inode = i;
      old = old;
      source_directory = d;
      source_name = name;
      source = source;
      was = was;
      target = target-in v to c new None root is;
      few = leb-false names_limit (count_names (slots_of (body v c))) r.0;
      room = leb-false links_limit (node v i).links s.0;
      blocks = p.0;
      next = p.1;
    }

link-body : (g : Geometry) (q : ℕ) (v : Volume) (from to : Path) (n : ℕ) (w : Volume) (d : ℕ) (name : List ℕ) (i : ℕ) → thing (body v 0) ≡ Some ADir → IsIn v from d name (Some i)
    → (b : Body) → body v i ≡ b → link_file g q v i (target v (way to)) b ≡ Makes n w → LinksOld g q v from to n w
link-body g q v from to n w d name i root source Free is e = says-makes _ n w e
link-body g q v from to n w d name i root source (File old) is e = link-to g q v from to n w d name i old root source is (target v (way to)) refl e
link-body g q v from to n w d name i root source (Dir slots) is e = says-makes _ n w e

link-from : (g : Geometry) (q : ℕ) (v : Volume) (from to : Path) (n : ℕ) (w : Volume) → thing (body v 0) ≡ Some ADir → (t : RequestTarget) → target v (way from) ≡ t → link g q v (target v (way to)) t ≡ Makes n w → LinksOld g q v from to n w
link-from g q v from to n w root Root is e = says-makes _ n w e
link-from g q v from to n w root (Lost fault) is e = says-makes _ n w e
link-from g q v from to n w root (In d name None) is e = says-makes _ n w e
link-from g q v from to n w root (In d name (Some i)) is e = link-body g q v from to n w d name i root (target-in v from d name (Some i) root is) (body v i) refl e

pub link-makes : (g : Geometry) (q : ℕ) (v : Volume) (from to : Path) (n : ℕ) (w : Volume) → thing (body v 0) ≡ Some ADir → link g q v (target v (way to)) (target v (way from)) ≡ Makes n w → LinksOld g q v from to n w
link-makes g q v from to n w root e = link-from g q v from to n w root (target v (way from)) refl e

-- ---- an entry that moves

pub record MovesOld (g : Geometry) (q : ℕ) (v : Volume) (from to : Path) (n : ℕ) (w : Volume) : Type 0 where
  pub directory : ℕ
  pub name : List ℕ
  pub inode : ℕ
  pub new_directory : ℕ
  pub new_name : List ℕ
  pub source : IsIn v from directory name (Some inode)
  pub target : IsIn v to new_directory new_name None
  pub apart : is_below from to ≡ false
  pub few : count_names (slots_of (body (unlinked v directory name) new_directory)) < names_limit
  pub blocks : n ≡ link_needs (node (unlinked v directory name) new_directory)
  pub next : w ≡ linked g q (unlinked v directory name) new_directory (record { inode = inode; name = new_name })

move-to : (g : Geometry) (q : ℕ) (v : Volume) (from to : Path) (n : ℕ) (w : Volume) (d : ℕ) (name : List ℕ) (i : ℕ) → thing (body v 0) ≡ Some ADir → IsIn v from d name (Some i) → is_below from to ≡ false
    → (t : RequestTarget) → target v (way to) ≡ t → move g q (unlinked v d name) i t ≡ Makes n w → MovesOld g q v from to n w
move-to g q v from to n w d name i root source apart Root is e = says-makes _ n w e
move-to g q v from to n w d name i root source apart (Lost fault) is e = says-makes _ n w e
move-to g q v from to n w d name i root source apart (In c new (Some j)) is e = says-makes _ n w e
move-to g q v from to n w d name i root source apart (In c new None) is e =
    let u = unlinked v d name in
    let next = linked g q u c (record { inode = i; name = new }) in
    let r = refused-else (nat_le names_limit (count_names (slots_of (body u c)))) TooBig (Makes (link_needs (node u c)) next) n w e in
    let p = makes-parts (link_needs (node u c)) n next w r.1 in
    record {
      directory = d;
      name = name;
      inode = i;
      new_directory = c;
      new_name = new;
      source = source;
      target = target-in v to c new None root is;
      apart = apart;
      few = leb-false names_limit (count_names (slots_of (body u c))) r.0;
      blocks = p.0;
      next = p.1;
    }

move-from : (g : Geometry) (q : ℕ) (v : Volume) (from to : Path) (n : ℕ) (w : Volume) → thing (body v 0) ≡ Some ADir → (t : RequestTarget) → target v (way from) ≡ t → rename g q v from to t ≡ Makes n w → MovesOld g q v from to n w
move-from g q v from to n w root Root is e = says-makes _ n w e
move-from g q v from to n w root (Lost fault) is e = says-makes _ n w e
move-from g q v from to n w root (In d name None) is e = says-makes _ n w e
move-from g q v from to n w root (In d name (Some i)) is e =
    let r = refused-else (is_below from to) Subtree (move g q (unlinked v d name) i (target v (way to))) n w e in
    move-to g q v from to n w d name i root (target-in v from d name (Some i) root is) r.0 (target v (way to)) refl r.1

pub rename-moves : (g : Geometry) (q : ℕ) (v : Volume) (from to : Path) (n : ℕ) (w : Volume) → thing (body v 0) ≡ Some ADir → rename g q v from to (target v (way from)) ≡ Makes n w → MovesOld g q v from to n w
rename-moves g q v from to n w root e = move-from g q v from to n w root (target v (way from)) refl e
