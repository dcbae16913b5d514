-- A request of a workload touches few blocks of the zones, and so does a group.
use Rattle.std.proofs.Common.{◌≡◌, ◌≢◌, ℕ, ◌+◌, ◌*◌, ◌/◌, ◌<◌, ◌≤◌, List, [], ◌∷◌, ◌++◌, length, drop, Bool, true, false, refl, sym, ap, subst, ◌∙◌, arith, length-append, length-drop, length-set}
use Rattle.std.specs.Prelude.{Option, Some, None, nat_lt}
use Rattle.std.proofs.lemmas.Option.{none-some}
use Rattle.mq_blocks.specs.Geometry.{queues_of}
use Rattle.mq_blocks.specs.declared.geometry.Geometry.{Geometry}
use Rattle.mq_command_run.proofs.Touches.{IsBehindSame, Touches, TouchesFew, bare-touches, dir-touches, linked-touches, own, released-touches, resized-touches, touches-none, touches-then}
use Rattle.mq_exec.proofs.RequestsLocalBytes.{spliced-after}
use Rattle.mq_layout.specs.Slots.{Entry}
use Rattle.mq_tree.specs.Free.{free_blocks}
use Rattle.mq_tree.specs.Kept.{HasBytes}
use Rattle.mq_tree.specs.Requests.{Makes, Says, Verdict, act, after_group, carried_out, cleared, cut_to, linked, released, spliced, step, unlinked, verdict, with_body}
use Rattle.mq_tree.specs.Sound.{IsBody, IsSound, blocks_for}
use Rattle.mq_tree.specs.Volume.{ADir, Body, Dir, File, Node, Part, Path, Use, Volume, body, find, is_used, node, slots_of, thing}
use Rattle.mq_tree.specs.declared.request.Fault.TheVariants.{BadName}
use Rattle.mq_tree.specs.declared.request.Request.{Request}
use Rattle.mq_tree.specs.declared.request.Request.TheVariants.{Mkdir, Create, Write, Truncate, Unlink, Rmdir, Rename, Link, Read, List as ListOf, Stat}
use Rattle.mq_tree.proofs.FreeUses.{node-other}
use Rattle.mq_tree.proofs.KeptSteps.{outcome, step-sound}
use Rattle.mq_tree.proofs.RequestsNodes.{cleared-is, cut-length}
use Rattle.mq_tree.proofs.RequestsVerdicts.{FillsNew, MakesNew, UnlinksOld, makes-new, makes-then, truncate-fills, unlink-cuts, write-fills}
use Rattle.mq_tree.proofs.SoundVolumes.{dir-slots, used-low}
use Rattle.mq_tree.proofs.VolumeChanges.{first-free, with_new}

-- a request that touches no byte of a file behind its first eight blocks
abbrev pub IsSmall : Request → Type 0
IsSmall (Mkdir p) = Unit {0}
IsSmall (Create p) = Unit {0}
IsSmall (Write p at bytes) = at + length bytes ≤ 32768
IsSmall (Truncate p size) = size ≤ 32768
IsSmall (Unlink p) = Unit {0}
IsSmall (Rmdir p) = ⊥
IsSmall (Rename p to) = ⊥
IsSmall (Link p to) = ⊥
IsSmall (Read p at count) = ⊥
IsSmall (ListOf p) = ⊥
IsSmall (Stat p) = ⊥

-- so is each of these, and what they write are bytes
abbrev pub AreSmall : List Request → Type 0
AreSmall [] = Unit {0}
AreSmall (r ∷ rs) = IsSmall r × HasBytes r × AreSmall rs

-- ---- one request

few-more : (v w : Volume) (m n : ℕ) → m ≤ n → TouchesFew v w m → TouchesFew v w n
few-more v w m n less t = (let few = t.2 in (t.0, t.1, omega (arith, few, less)))

-- a new file or directory
new-touches : (g : Geometry) (q : ℕ) (v : Volume) (new : Body) (path : Path) (n : ℕ) (w : Volume) → MakesNew g q v new path n w → TouchesFew v w 9
new-touches g q v new path n w m =
    let i = m.inode in
    let d = m.directory in
    let e : Entry = record { inode = i; name = m.name } in
    let fresh : Node = record { body = new; blocks = []; indirect = None; links = 1 } in
    let u = with_new v i new in
    let free = first-free v i m.first in
    let dir = dir-slots (body v d) m.target.directory in
    let apart : d ≢ i = λ same. none-some ADir (sym free.1 ∙ (ap (λ (x : ℕ). thing (body v x)) (sym same) ∙ m.target.directory)) in
    let was : body u d ≡ Dir dir.0 = ap (λ (x : Node). x.body) (node-other v i d fresh apart) ∙ dir.1 in
    let low = used-low v d (ap (λ (b : Body). is_used b) dir.1) in
    let size = length-set v i fresh in
    let l = linked-touches g q u d dir.0 e (omega (arith, low, size)) was in
    let few = l.2 in
    let long = length-append l.0 [] in
    (l.0 ++ [], subst (λ (x : Volume). Touches v x (l.0 ++ [])) (sym m.next) (touches-then v u (linked g q u d e) [] l.0 (bare-touches v i fresh free.0 refl refl) l.1), omega (arith, few, long))

-- ---- other bytes

file-count : (g : Geometry) (v : Volume) (i : ℕ) (old : List ℕ) → IsSound g v → body v i ≡ File old → length (node v i).blocks ≡ blocks_for (length old)
file-count g v i old s was = (subst (λ (b : Body). IsBody b (length (node v i).blocks)) was (s.nodes i).body).1

-- a file that is longer than what was written is as long as before
spliced-long : (at : ℕ) (xs bytes : List ℕ) → at + length xs ≤ 32768 → 32768 < length (spliced at xs bytes) → length (spliced at xs bytes) ≡ length bytes
spliced-long at [] bytes few many = refl
spliced-long at (x ∷ xs) bytes few many =
    let a = length-append (cut_to at bytes ++ (x ∷ xs)) (drop (at + length (x ∷ xs)) bytes) in
    let b = length-append (cut_to at bytes) (x ∷ xs) in
    let c = cut-length at bytes in
    let d = length-drop (at + length (x ∷ xs)) bytes in
    omega arith

spliced-behind : (g : Geometry) (v : Volume) (i at : ℕ) (xs old : List ℕ) → IsSound g v → body v i ≡ File old → at + length xs ≤ 32768 → IsBehindSame (node v i).blocks old (spliced at xs old)
spliced-behind g v i at xs old s was few k high less =
    let count = file-count g v i old s was in
    let long = spliced-long at xs old few (omega (arith, high, less)) in
    (omega (arith, count, long, less), λ j l. spliced-after at xs old (4096 * k + j) (omega (arith, few, high)))

cut-behind : (blocks : List ℕ) (size : ℕ) (old : List ℕ) → size ≤ 32768 → IsBehindSame blocks old (cut_to size old)
cut-behind blocks size old few k high less = (let long = cut-length size old in absurd (omega (arith, few, high, less, long)))

fills-touches : (g : Geometry) (q : ℕ) (v : Volume) (path : Path) (size : ℕ) (change : List ℕ → List ℕ) (n : ℕ) (w : Volume) → (m : FillsNew g q v path size change n w) → IsBehindSame (node v m.inode).blocks m.old (change m.old) → TouchesFew v w 9
fills-touches g q v path size change n w m behind =
    let t = resized-touches g q v m.inode m.old (change m.old) (used-low v m.inode (ap (λ (b : Body). is_used b) m.was)) m.was behind in
    (own m.inode, subst (λ (x : Volume). Touches v x (own m.inode)) (sym m.next) t, omega arith)

-- ---- a name less

unlinks-touches : (v : Volume) (path : Path) (w : Volume) → UnlinksOld v path w → TouchesFew v w 9
unlinks-touches v path w m =
    let d = m.directory in
    let dir = dir-slots (body v d) m.target.directory in
    let slots = dir.0 in
    let same : slots_of (body v d) ≡ slots = ap (λ (b : Body). slots_of b) dir.1 in
    let c = cleared-is m.name slots m.inode (subst (λ (xs : List (Option Entry)). find m.name xs ≡ Some m.inode) same m.target.found_is) in
    let u = unlinked v d m.name in
    let cut : Touches v u (Part d (c.place / 15) ∷ []) = subst (λ (xs : List (Option Entry)). Touches v (with_body v d (Dir (cleared m.name xs))) (Part d (c.place / 15) ∷ [])) (sym same)
    (dir-touches v d c.place slots (cleared m.name slots) (used-low v d (ap (λ (b : Body). is_used b) dir.1)) dir.1 c.rest) in
    let low = used-low v m.inode (ap (λ (b : Body). is_used b) m.was) in
    let size : length u ≡ length v = length-set v d _ in
    let uses : List Use = Part d (c.place / 15) ∷ [] in
    (uses, subst (λ (x : Volume). Touches v x uses) (sym m.next) (touches-then v u (released u m.inode) uses [] cut (released-touches u m.inode (omega (arith, low, size)))), omega arith)

act-touches : (g : Geometry) (q : ℕ) (v : Volume) (r : Request) (n : ℕ) (w : Volume) → IsSound g v → IsSmall r → act g q v r ≡ Makes n w → TouchesFew v w 9
act-touches g q v (Mkdir p) n w s small e = new-touches g q v (Dir []) p n w (makes-new g q v (Dir []) p n w (ap (λ (b : Body). thing b) s.root.1) e)
act-touches g q v (Create p) n w s small e = new-touches g q v (File []) p n w (makes-new g q v (File []) p n w (ap (λ (b : Body). thing b) s.root.1) e)
act-touches g q v (Write p at bytes) n w s small e =
    let m = write-fills g q v p at bytes n w (ap (λ (b : Body). thing b) s.root.1) e in
    fills-touches g q v p (at + length bytes) (λ old. spliced at bytes old) n w m (spliced-behind g v m.inode at bytes m.old s m.was small)
act-touches g q v (Truncate p size) n w s small e =
    let m = truncate-fills g q v p size n w (ap (λ (b : Body). thing b) s.root.1) e in
    fills-touches g q v p size (λ old. cut_to size old) n w m (cut-behind (node v m.inode).blocks size m.old small)
act-touches g q v (Unlink p) n w s small e = unlinks-touches v p w (unlink-cuts v p n w (ap (λ (b : Body). thing b) s.root.1) e)
act-touches g q v (Rmdir p) n w s small e = absurd small
act-touches g q v (Rename p to) n w s small e = absurd small
act-touches g q v (Link p to) n w s small e = absurd small
act-touches g q v (Read p at count) n w s small e = absurd small
act-touches g q v (ListOf p) n w s small e = absurd small
act-touches g q v (Stat p) n w s small e = absurd small

-- ---- a group

none-touched : (v : Volume) → TouchesFew v v 9
none-touched v = ([], touches-none v, omega arith)

done-touches : (v w : Volume) (full : Bool) → TouchesFew v w 9 → TouchesFew v (outcome full v w).next 9
done-touches v w true t = none-touched v
done-touches v w false t = t

carried-touches : (g : Geometry) (v : Volume) (x : Verdict) → ((n : ℕ) (w : Volume) → x ≡ Makes n w → TouchesFew v w 9) → TouchesFew v (carried_out g v x).next 9
carried-touches g v (Says reply) h = none-touched v
carried-touches g v (Makes n w) h = done-touches v w (nat_lt (free_blocks g v) n) (h n w refl)

step-touches : (g : Geometry) (q : ℕ) (v : Volume) (r : Request) → IsSound g v → IsSmall r → TouchesFew v (step g q v r).next 9
unfolding step
step-touches g q v r s small = carried-touches g v (verdict g q v r) (λ n w e. act-touches g q v r n w s small (makes-then _ BadName (act g q v r) n w e).1)

pub group-touches : (g : Geometry) (q : ℕ) (v : Volume) (rs : List Request) → IsSound g v → q < queues_of g → AreSmall rs → TouchesFew v (after_group g q v rs) (9 * length rs)
unfolding after_group
group-touches g q v [] s low small = ([], touches-none v, omega arith)
group-touches g q v (r ∷ rs) s low small =
    let u = (step g q v r).next in
    let a = step-touches g q v r s small.0 in
    let b = group-touches g q u rs (step-sound g q v r s low small.1) low small.2 in
    let m = a.2 in
    let n = b.2 in
    let long = length-append b.0 a.0 in
    (b.0 ++ a.0, touches-then v u (after_group g q u rs) a.0 b.0 a.1 b.1, omega (arith, m, n, long))
