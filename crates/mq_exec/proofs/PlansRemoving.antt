-- What removing a file or a directory comes to.
use Rattle.std.proofs.Common.{get_or, ◌≡◌, ◌≢◌, ℕ, ◌-◌, ◌*◌, ◌^◌, ◌<◌, ◌≤◌, Bool, true, false, cond, List, [], ◌∷◌, length, refl, sym, ap, subst, ◌∙◌, arith}
use Rattle.std.specs.Prelude.{Option, Some, None, nat_eq, nat_le}
use Rattle.std.proofs.lemmas.Bool.{eq-eqb, le-leb, lt-leb}
use Rattle.mq_blocks.specs.declared.geometry.Geometry.{Geometry}
use Rattle.mq_layout.specs.Places.{inodes_of}
use Rattle.mq_layout.specs.Slots.{Entry}
use Rattle.mq_exec.specs.Plans.{IsCarried, IsFound, IsRefused, PlansRemove, on_body, on_file}
use Rattle.mq_exec.specs.declared.file.Found.{Found}
use Rattle.mq_exec.specs.declared.remove.Removal.{Removal}
use Rattle.mq_exec.proofs.PlansComing.{carried-enough}
use Rattle.mq_exec.proofs.PlansTargets.{IsUnder}
use Rattle.mq_inodes.specs.Opened.{IsOpened, MayCount, MayUnlink}
use Rattle.mq_tree.specs.Links.{HasLinks}
use Rattle.mq_inodes.specs.Walks.{IsDirectory, last_of}
use Rattle.mq_tree.specs.Requests.{In, Lost, Makes, Root, RequestTarget, Verdict, act, carried_out, cleared, count_names, freed, is_named, refused, released, rmdir, rmdir_in, step, target, unlink, unlink_in, unlinked, with_links}
use Rattle.mq_tree.specs.Sound.{IsBody, IsSound}
use Rattle.mq_tree.proofs.FreeUses.{node-other}
use Rattle.mq_inodes.proofs.ChangesBodies.{rebodied}
use Rattle.mq_layout.specs.declared.inode.Inode.{Inode}
use Rattle.mq_tree.specs.Volume.{Body, Free, File, Dir, Node, Path, Volume, body, find, node, slot, slots_of, way}
use Rattle.mq_tree.specs.declared.request.Fault.{Fault}
use Rattle.mq_tree.specs.declared.request.Fault.TheVariants.{BadName, NotDir, NotEmpty}
use Rattle.mq_tree.specs.declared.request.Reply.TheVariants.{Ok as Ready}
use Rattle.mq_tree.specs.declared.request.Request.{Request}

-- ---- a verdict that takes no block is carried out

pub carried-makes : (g : Geometry) (v : Volume) (verdict : Verdict) (w : Volume) → verdict ≡ Makes 0 w → IsCarried g v verdict w
carried-makes g v verdict w e = ap (λ (x : Verdict). carried_out g v x) e ∙ carried-enough g v 0 w (omega arith)

pub step-made : (g : Geometry) (q : ℕ) (v : Volume) (r : Request) (w : Volume) → is_named r ≡ true → act g q v r ≡ Makes 0 w → step g q v r ≡ record { reply = Ready; next = w }
unfolding step
step-made g q v r w good e = ap (λ (t : Bool). carried_out g v (cond t (act g q v r) (refused BadName))) good ∙ carried-makes g v (act g q v r) w e

-- ---- files

abbrev file_gone : Volume → ℕ → List ℕ → ℕ → List ℕ → Verdict
file_gone v d name i bytes = Makes 0 (released (unlinked v d name) i)

unlink_in-on : (v : Volume) (d : ℕ) (name : List ℕ) (i : ℕ) (x : Body) → unlink_in v d name i x ≡ on_body (file_gone v) d name i x
unlink_in-on v d name i Free = refl
unlink_in-on v d name i (File bytes) = refl
unlink_in-on v d name i (Dir slots) = refl

unlink-on : (v : Volume) (t : RequestTarget) → unlink v t ≡ on_file v (file_gone v) t
unlink-on v Root = refl
unlink-on v (Lost fault) = refl
unlink-on v (In d name None) = refl
unlink-on v (In d name (Some i)) = unlink_in-on v d name i (body v i)

pub unlink-refused : (g : Geometry) (v : Volume) (t : RequestTarget) (fault : Fault) → ((act : ℕ → List ℕ → ℕ → List ℕ → Verdict) → on_file v act t ≡ refused fault) → IsRefused g v (unlink v t) fault
unlink-refused g v t fault h = ap (λ (x : Verdict). carried_out g v x) (unlink-on v t ∙ h (file_gone v))

pub unlink-makes : (v : Volume) (path : Path) (f : Found) → IsFound v path f → unlink v (target v (way path)) ≡ Makes 0 (released (unlinked v f.directory (last_of (way path))) f.number)
unlink-makes v path f h = ap (λ (t : RequestTarget). unlink v t) h.target_is ∙ ap (λ (x : Body). unlink_in v f.directory (last_of (way path)) f.number x) h.file.is

pub file-other : (v : Volume) (d i : ℕ) (bytes : List ℕ) → IsDirectory v d → body v i ≡ File bytes → i ≢ d
file-other v d i bytes dir is same = let e : File bytes ≡ Dir dir.0 = sym is ∙ ap (λ (x : ℕ). body v x) same ∙ dir.1 in absurd (cc)

-- another inode has as many links as before
pub unlinked-node : (v : Volume) (d i : ℕ) (name : List ℕ) → i ≢ d → node (unlinked v d name) i ≡ node v i
unlinked-node v d i name other = node-other v d i (rebodied (node v d) (Dir (cleared name (slots_of (body v d))))) other

released-when : (u : Volume) (i : ℕ) (t : Bool) → nat_le (node u i).links 1 ≡ t → released u i ≡ cond t (freed u i) (with_links u i ((node u i).links - 1))
released-when u i t e = ap (λ (b : Bool). cond b (freed u i) (with_links u i ((node u i).links - 1))) e

-- the last name goes with the file
pub last-makes : (v : Volume) (path : Path) (f : Found) → IsFound v path f → f.number ≢ f.directory → f.inode.links ≤ 1 → unlink v (target v (way path)) ≡ Makes 0 (freed (unlinked v f.directory (last_of (way path))) f.number)
last-makes v path f h other last =
    let u = unlinked v f.directory (last_of (way path)) in
    let same : (node u f.number).links ≡ f.inode.links = ap (λ (n : Node). n.links) (unlinked-node v f.directory f.number (last_of (way path)) other) ∙ sym (ap (λ (n : Inode). n.links) h.file.says) in
    unlink-makes v path f h ∙ ap (λ (x : Volume). Makes 0 x) (released-when u f.number true (le-leb (node u f.number).links 1 (omega arith)))

-- and any other without it
pub shed-makes : (v : Volume) (path : Path) (f : Found) → IsFound v path f → f.number ≢ f.directory → 1 < f.inode.links → unlink v (target v (way path)) ≡ Makes 0 (with_links (unlinked v f.directory (last_of (way path))) f.number (f.inode.links - 1))
shed-makes v path f h other more =
    let u = unlinked v f.directory (last_of (way path)) in
    let same : (node u f.number).links ≡ f.inode.links = ap (λ (n : Node). n.links) (unlinked-node v f.directory f.number (last_of (way path)) other) ∙ sym (ap (λ (n : Inode). n.links) h.file.says) in
    unlink-makes v path f h ∙ ap (λ (x : Volume). Makes 0 x) (released-when u f.number false (lt-leb (node u f.number).links 1 (omega arith))) ∙ ap (λ (k : ℕ). Makes 0 (with_links u f.number (k - 1))) same

-- ---- directories

pub rmdir-file : (g : Geometry) (v : Volume) (path : Path) (d i : ℕ) (bytes : List ℕ) → IsUnder v (way path) d i → body v i ≡ File bytes → IsRefused g v (rmdir v (target v (way path))) NotDir
rmdir-file g v path d i bytes u is = ap (λ (t : RequestTarget). carried_out g v (rmdir v t)) u.target_is ∙ ap (λ (x : Body). carried_out g v (rmdir_in v d (last_of (way path)) i x)) is

rmdir-dir : (v : Volume) (path : Path) (d i : ℕ) (slots : List (Option Entry)) (t : Bool) → IsUnder v (way path) d i → body v i ≡ Dir slots → nat_eq (count_names slots) 0 ≡ t → rmdir v (target v (way path)) ≡ cond t (Makes 0 (freed (unlinked v d (last_of (way path))) i)) (refused NotEmpty)
rmdir-dir v path d i slots t u is e =
    ap (λ (x : RequestTarget). rmdir v x) u.target_is ∙ ap (λ (x : Body). rmdir_in v d (last_of (way path)) i x) is ∙ ap (λ (b : Bool). cond b (Makes 0 (freed (unlinked v d (last_of (way path))) i)) (refused NotEmpty)) e

pub rmdir-makes : (v : Volume) (path : Path) (d i : ℕ) (slots : List (Option Entry)) → IsUnder v (way path) d i → body v i ≡ Dir slots → count_names slots ≡ 0 → rmdir v (target v (way path)) ≡ Makes 0 (freed (unlinked v d (last_of (way path))) i)
rmdir-makes v path d i slots u is none = rmdir-dir v path d i slots true u is (eq-eqb (count_names slots) 0 none)

nothing-found : (name : List ℕ) (slots : List (Option Entry)) → count_names slots ≡ 0 → find name slots ≡ None
nothing-found name [] e = refl
nothing-found name (None ∷ slots) e = nothing-found name slots e
nothing-found name (Some x ∷ slots) e = absurd (omega arith)

pub bare-other : (v : Volume) (path : Path) (d i : ℕ) (slots : List (Option Entry)) → IsUnder v (way path) d i → body v i ≡ Dir slots → count_names slots ≡ 0 → i ≢ d
bare-other v path d i slots u is none same =
    let e : None ≡ Some i = sym (nothing-found (last_of (way path)) slots none) ∙ ap (λ (x : Body). find (last_of (way path)) (slots_of x)) (sym (ap (λ (y : ℕ). body v y) (sym same) ∙ is)) ∙ u.found in
    absurd (cc)

-- ---- the plan

-- the file has a link less, and there are others
pub may-shed : (g : Geometry) (v : Volume) (path : Path) (f : Found) → IsSound g v → IsFound v path f → f.number < inodes_of g → 1 < f.inode.links → MayCount g v f.number (f.inode.links - 1) f.inode
may-shed g v path f sound h low more = record {
  low = low;
  says = h.file.says;
  bytes = h.file.bytes;
  is = h.file.is;
  size = fine.0;
  few = (let e = same in omega arith, let e = same in let l = few in omega arith);
}
  where
    fine : IsBody (File h.file.bytes) (length (node v f.number).blocks)
    fine = subst (λ x. IsBody x (length (node v f.number).blocks)) h.file.is (sound.nodes f.number).body

    same : f.inode.links ≡ (node v f.number).links
    same = ap (λ (n : Inode). n.links) h.file.says

    few : (node v f.number).links < 2 ^ 16
    few = (subst (λ (x : Body). HasLinks x (node v f.number).links) h.file.is (sound.nodes f.number).links).1

pub may-unlink : (g : Geometry) (v : Volume) (d : ℕ) (blocks : List ℕ) → IsSound g v → IsDirectory v d → d < inodes_of g → blocks ≡ (node v d).blocks → MayUnlink g v d blocks
may-unlink g v d blocks sound dir low same = record {
  low = low;
  slots = dir.0;
  is = dir.1;
  blocks_are = same;
  size = fine.1 ∙ ap (λ (bs : List ℕ). 15 * length bs) (sym same);
  apart = λ k l e f a b n. sound.names d k l e f (there k ∙ a) (there l ∙ b) n;
}
  where
    fine : IsBody (Dir dir.0) (length (node v d).blocks)
    fine = subst (λ x. IsBody x (length (node v d).blocks)) dir.1 (sound.nodes d).body

    there : (k : ℕ) → slot v d k ≡ get_or dir.0 k None
    there k = ap (λ (x : Body). get_or (slots_of x) k None) dir.1

plans-here : (g : Geometry) (v : Volume) (verdict : Verdict) (path : Path) (m : Removal) → IsSound g v → IsUnder v (way path) m.directory.number m.gone.number → verdict ≡ Makes 0 (freed (unlinked v m.directory.number (last_of (way path))) m.gone.number)
    → m.gone.number ≢ m.directory.number → IsOpened g v m.directory → IsOpened g v m.gone → PlansRemove g v verdict path m
plans-here g v verdict path m sound u makes other opened gone = record {
  target_is = u.target_is;
  carried = carried-makes g v verdict _ makes;
  unlink = may-unlink g v m.directory.number m.directory.blocks.items sound u.dir opened.low opened.blocks;
  found = u.found;
  gone = gone;
  other = other;
}

pub plans : (g : Geometry) (v : Volume) (verdict : Verdict) (path : Path) (m : Removal) (d i : ℕ) → m.directory.number ≡ d → m.gone.number ≡ i → IsSound g v → IsUnder v (way path) d i → verdict ≡ Makes 0 (freed (unlinked v d (last_of (way path))) i)
    → i ≢ d → IsOpened g v m.directory → IsOpened g v m.gone → PlansRemove g v verdict path m
plans g v verdict path m d i e f sound u makes other opened gone =
    plans-here g v verdict path m sound (subst (λ (x : ℕ). IsUnder v (way path) x m.gone.number) (sym e) (subst (λ (y : ℕ). IsUnder v (way path) d y) (sym f) u))
    (makes ∙ ap (λ (x : ℕ). Makes 0 (freed (unlinked v x (last_of (way path))) i)) (sym e) ∙ ap (λ (y : ℕ). Makes 0 (freed (unlinked v m.directory.number (last_of (way path))) y)) (sym f)) (λ same. other (sym f ∙ same ∙ e)) opened gone
