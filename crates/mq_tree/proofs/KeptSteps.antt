-- Requests and groups: the volume stays sound, and the tree changes as each reply says.
use Rattle.std.proofs.Common.{◌≡◌, ℕ, suc, ◌+◌, ◌<◌, ◌≤◌, ◌⊎◌, inl, inr, List, [], ◌∷◌, length, Bool, true, false, cond, refl, sym, ap, ◌∙◌, arith, lit<, lit≤}
use Rattle.std.specs.Prelude.{Option, Some, None, nat_eq, nat_le, nat_lt}
use Rattle.std.specs.Bool.{⊤}
use Rattle.std.specs.List.{All, list_all}
use Rattle.std.proofs.lemmas.Bool.{and_parts, ltb-false, true≢false}
use Rattle.mq_blocks.specs.Geometry.{queues_of}
use Rattle.mq_blocks.specs.declared.geometry.Geometry.{Geometry}
use Rattle.mq_layout.specs.Names.{is_name}
use Rattle.mq_layout.specs.Places.{file_limit, names_limit}
use Rattle.mq_tree.proofs.DecodedNaming.{none-entry}
use Rattle.mq_tree.specs.Free.{first_free, free_blocks}
use Rattle.mq_tree.specs.Kept.{HasBytes, IsAdded, IsBare, IsLinked, IsRemoved, IsRenamed, IsRewritten}
use Rattle.mq_tree.specs.Requests.{Root, Lost, In, RequestOutcome, RequestTarget, Verdict, Says, Makes, act, after_group, asks, carried_out, count_names, cut_to, is_below, is_change, is_named, link, link_file, link_to, links_limit, list_in, make, make_free, move, read_in, refused, rename, rmdir, rmdir_in, set_bytes, spliced, stat_in, step, target, truncate, truncate_in, unlink, unlink_in, unlinked, verdict, write, write_in}
use Rattle.mq_tree.specs.Sound.{AreBytes, IsSound}
use Rattle.mq_tree.specs.Volume.{ADir, AFile, Body, Free, File, Dir, Path, Volume, body, node, slots_of, thing, way}
use Rattle.mq_tree.specs.declared.request.Fault.{Fault}
use Rattle.mq_tree.specs.declared.request.Fault.TheVariants.{BadName, NoSpace}
use Rattle.mq_tree.specs.declared.request.Reply.{Reply}
use Rattle.mq_tree.specs.declared.request.Reply.TheVariants.{Ok as Done, Refused}
use Rattle.mq_tree.specs.declared.request.Request.{Request}
use Rattle.mq_tree.specs.declared.request.Request.TheVariants.{Mkdir, Create, Write, Truncate, Unlink, Rmdir, Rename, Link, Read, List as ListOf, Stat}
use Rattle.mq_tree.proofs.VolumeChanges.{IsNew}
use Rattle.mq_tree.proofs.RequestsNodes.{cut-bytes, cut-length, spliced-bytes, spliced-length}
use Rattle.mq_tree.proofs.KeptSound.{bare-below, cuts-kept, fills-kept, links-kept, moves-kept, new-kept, unlinks-kept}
use Rattle.mq_tree.proofs.RequestsVerdicts.{IsBareDir, link-makes, makes-new, makes-then, rename-moves, rmdir-cuts, says-makes, truncate-fills, unlink-cuts, write-fills}

-- ---- each request

new-file : IsNew (File []) (AFile [])
new-file = record { thing_is = refl; form = (omega arith, refl, λ k. omega arith); empty = λ l. refl; links = (lit≤ tt, lit< tt) }

new-dir : IsNew (Dir []) ADir
new-dir = record { thing_is = refl; form = (omega arith, refl, λ k e h. none-entry e h); empty = λ l. refl; links = refl }

root-dir : (g : Geometry) (v : Volume) → IsSound g v → thing (body v 0) ≡ Some ADir
root-dir g v s = ap (λ (b : Body). thing b) s.root.1

mkdir-kept : (g : Geometry) (q : ℕ) (v : Volume) (p : Path) (n : ℕ) (w : Volume) → q < queues_of g → IsSound g v → list_all is_name p ≡ true → n ≤ free_blocks g v → act g q v (Mkdir p) ≡ Makes n w → IsSound g w × IsAdded v w p ADir
mkdir-kept g q v p n w low s good enough e = new-kept g q v (Dir []) ADir p n w low s new-dir good enough (makes-new g q v (Dir []) p n w (root-dir g v s) e)

create-kept : (g : Geometry) (q : ℕ) (v : Volume) (p : Path) (n : ℕ) (w : Volume) → q < queues_of g → IsSound g v → list_all is_name p ≡ true → n ≤ free_blocks g v → act g q v (Create p) ≡ Makes n w → IsSound g w × IsAdded v w p (AFile [])
create-kept g q v p n w low s good enough e = new-kept g q v (File []) (AFile []) p n w low s new-file good enough (makes-new g q v (File []) p n w (root-dir g v s) e)

write-kept : (g : Geometry) (q : ℕ) (v : Volume) (p : Path) (at : ℕ) (bytes : List ℕ) (n : ℕ) (w : Volume) → q < queues_of g → IsSound g v → AreBytes bytes → n ≤ free_blocks g v → act g q v (Write p at bytes) ≡ Makes n w
    → IsSound g w × IsRewritten v w p (λ old. spliced at bytes old)
write-kept g q v p at bytes n w low s fine enough e = fills-kept g q v p (at + length bytes) (λ old. spliced at bytes old) n w low s (λ old a. spliced-bytes at bytes old fine a) (λ old l m. spliced-length at bytes old l m) enough
    (write-fills g q v p at bytes n w (root-dir g v s) e)

truncate-kept : (g : Geometry) (q : ℕ) (v : Volume) (p : Path) (size : ℕ) (n : ℕ) (w : Volume) → q < queues_of g → IsSound g v → n ≤ free_blocks g v → act g q v (Truncate p size) ≡ Makes n w → IsSound g w × IsRewritten v w p (λ old. cut_to size old)
truncate-kept g q v p size n w low s enough e = fills-kept g q v p size (λ old. cut_to size old) n w low s (λ old a. cut-bytes size old a) (λ old l m. let h = cut-length size old in omega arith) enough
    (truncate-fills g q v p size n w (root-dir g v s) e)

unlink-kept : (g : Geometry) (q : ℕ) (v : Volume) (p : Path) (n : ℕ) (w : Volume) → IsSound g v → act g q v (Unlink p) ≡ Makes n w → IsSound g w × (old : List ℕ) × IsRemoved v w p (AFile old)
unlink-kept g q v p n w s e =
    let m = unlink-cuts v p n w (root-dir g v s) e in
    let r = unlinks-kept g v p w s m in
    (r.0, m.old, r.1)

rmdir-kept : (g : Geometry) (q : ℕ) (v : Volume) (p : Path) (n : ℕ) (w : Volume) → IsSound g v → act g q v (Rmdir p) ≡ Makes n w → IsSound g w × IsRemoved v w p ADir × IsBare v p
rmdir-kept g q v p n w s e =
    let m = rmdir-cuts v p n w (root-dir g v s) e in
    let dir : thing (body v m.inode) ≡ Some ADir = ap (λ (b : Body). thing b) m.was.1 in
    let r = cuts-kept g v p w IsBareDir ADir s m (λ x l y k a b h i c d. s.once x l y k a b h i (c ∙ sym d) (ap (λ (j : ℕ). thing (body v j)) c ∙ dir)) dir in
    (r.0, r.1, bare-below g v p m.directory m.name m.inode m.target m.empty)

rename-kept : (g : Geometry) (q : ℕ) (v : Volume) (p to : Path) (n : ℕ) (w : Volume) → q < queues_of g → IsSound g v → list_all is_name to ≡ true → n ≤ free_blocks g v → act g q v (Rename p to) ≡ Makes n w → IsSound g w × IsRenamed v w p to
rename-kept g q v p to n w low s good enough e = moves-kept g q v p to n w low s good enough (rename-moves g q v p to n w (root-dir g v s) e)

link-kept : (g : Geometry) (q : ℕ) (v : Volume) (p to : Path) (n : ℕ) (w : Volume) → q < queues_of g → IsSound g v → list_all is_name to ≡ true → n ≤ free_blocks g v → act g q v (Link p to) ≡ Makes n w → IsSound g w × IsLinked v w p to
link-kept g q v p to n w low s good enough e = links-kept g q v p to n w low s good enough (link-makes g q v p to n w (root-dir g v s) e)

pub asks-makes : {R : Type 0} (v : Volume) (reply : Body → Reply) (t : RequestTarget) (n : ℕ) (w : Volume) → asks v reply t ≡ Makes n w → R
asks-makes v reply Root n w e = says-makes _ n w e
asks-makes v reply (Lost fault) n w e = says-makes _ n w e
asks-makes v reply (In d name None) n w e = says-makes _ n w e
asks-makes v reply (In d name (Some i)) n w e = says-makes _ n w e

act-sound : (g : Geometry) (q : ℕ) (v : Volume) (r : Request) (n : ℕ) (w : Volume) → q < queues_of g → IsSound g v → is_named r ≡ true → HasBytes r → n ≤ free_blocks g v → act g q v r ≡ Makes n w → IsSound g w
act-sound g q v (Mkdir p) n w low s good fine enough e = (mkdir-kept g q v p n w low s good enough e).0
act-sound g q v (Create p) n w low s good fine enough e = (create-kept g q v p n w low s good enough e).0
act-sound g q v (Write p at bytes) n w low s good fine enough e = (write-kept g q v p at bytes n w low s fine enough e).0
act-sound g q v (Truncate p size) n w low s good fine enough e = (truncate-kept g q v p size n w low s enough e).0
act-sound g q v (Unlink p) n w low s good fine enough e = (unlink-kept g q v p n w s e).0
act-sound g q v (Rmdir p) n w low s good fine enough e = (rmdir-kept g q v p n w s e).0
act-sound g q v (Rename p to) n w low s good fine enough e = (rename-kept g q v p to n w low s (and_parts (list_all is_name p) (list_all is_name to) good).1 enough e).0
act-sound g q v (Link p to) n w low s good fine enough e = (link-kept g q v p to n w low s (and_parts (list_all is_name p) (list_all is_name to) good).1 enough e).0
act-sound g q v (Read p at count) n w low s good fine enough e = asks-makes v (read_in at count) (target v (way p)) n w e
act-sound g q v (ListOf p) n w low s good fine enough e = asks-makes v list_in (target v (way p)) n w e
act-sound g q v (Stat p) n w low s good fine enough e = asks-makes v stat_in (target v (way p)) n w e

-- ---- steps

abbrev pub outcome : Bool → Volume → Volume → RequestOutcome
outcome full v w = cond full (record { reply = Refused NoSpace; next = v }) (record { reply = Done; next = w })

done-sound : (g : Geometry) (v w : Volume) (n : ℕ) (b : Bool) → nat_lt (free_blocks g v) n ≡ b → IsSound g v → (n ≤ free_blocks g v → IsSound g w) → IsSound g (outcome b v w).next
done-sound g v w n true e s h = s
done-sound g v w n false e s h = h (ltb-false (free_blocks g v) n e)

carried-sound : (g : Geometry) (v : Volume) (x : Verdict) → IsSound g v → ((n : ℕ) (w : Volume) → x ≡ Makes n w → n ≤ free_blocks g v → IsSound g w) → IsSound g (carried_out g v x).next
carried-sound g v (Says reply) s h = s
carried-sound g v (Makes n w) s h = done-sound g v w n (nat_lt (free_blocks g v) n) refl s (λ enough. h n w refl enough)

pub step-sound : (g : Geometry) (q : ℕ) (v : Volume) (r : Request) → IsSound g v → q < queues_of g → HasBytes r → IsSound g (step g q v r).next
unfolding step
step-sound g q v r s low fine = carried-sound g v (verdict g q v r) s (λ n w e enough.
    let p = makes-then (is_named r) BadName (act g q v r) n w e in
    act-sound g q v r n w low s p.0 fine enough p.1)

pub group-sound : (g : Geometry) (q : ℕ) (v : Volume) (rs : List Request) → IsSound g v → q < queues_of g → All HasBytes rs → IsSound g (after_group g q v rs)
unfolding after_group
group-sound g q v [] s low fine = s
group-sound g q v (r ∷ rs) s low fine =
    let some : 0 < length (r ∷ rs) = omega arith in
    group-sound g q (step g q v r).next rs (step-sound g q v r s low (fine 0 r some)) low (λ k d l. let m : suc k < length (r ∷ rs) = omega arith in fine (suc k) d m)

-- ---- what replies say

-- it is refused, or makes a volume
abbrev OnlyRefuses : Verdict → Type 0
OnlyRefuses (Says reply) = (fault : Fault) × (reply ≡ Refused fault)
OnlyRefuses (Makes n w) = ⊤

refuses-cond : (b : Bool) (x y : Verdict) → OnlyRefuses x → OnlyRefuses y → OnlyRefuses (cond b x y)
refuses-cond true x y h k = h
refuses-cond false x y h k = k

refusing : (fault : Fault) → OnlyRefuses (refused fault)
refusing fault = (fault, refl)

make-refuses : (g : Geometry) (q : ℕ) (v : Volume) (new : Body) (t : RequestTarget) → OnlyRefuses (make g q v new t)
make-refuses g q v new Root = refusing _
make-refuses g q v new (Lost fault) = refusing fault
make-refuses g q v new (In d name (Some i)) = refusing _
make-refuses g q v new (In d name None) = refuses-cond (nat_le names_limit (count_names (slots_of (body v d)))) (refused _) (make_free g q v new d name (first_free 0 v)) (refusing _) (free-refuses (first_free 0 v))
  where
    free-refuses : (o : Option ℕ) → OnlyRefuses (make_free g q v new d name o)
    free-refuses None = refusing _
    free-refuses (Some i) = tt

bytes-refuse : (g : Geometry) (q : ℕ) (v : Volume) (i size : ℕ) (bytes : List ℕ) → OnlyRefuses (set_bytes g q v i size bytes)
bytes-refuse g q v i size bytes = refuses-cond (nat_lt file_limit size) _ _ (refusing _) tt

write-refuses : (g : Geometry) (q : ℕ) (v : Volume) (at : ℕ) (new : List ℕ) (t : RequestTarget) → OnlyRefuses (write g q v at new t)
write-refuses g q v at new Root = refusing _
write-refuses g q v at new (Lost fault) = refusing fault
write-refuses g q v at new (In d name None) = refusing _
write-refuses g q v at new (In d name (Some i)) = body-refuses (body v i)
  where
    body-refuses : (b : Body) → OnlyRefuses (write_in g q v i at new b)
    body-refuses Free = refusing _
    body-refuses (File bytes) = bytes-refuse g q v i _ _
    body-refuses (Dir slots) = refusing _

truncate-refuses : (g : Geometry) (q : ℕ) (v : Volume) (size : ℕ) (t : RequestTarget) → OnlyRefuses (truncate g q v size t)
truncate-refuses g q v size Root = refusing _
truncate-refuses g q v size (Lost fault) = refusing fault
truncate-refuses g q v size (In d name None) = refusing _
truncate-refuses g q v size (In d name (Some i)) = body-refuses (body v i)
  where
    body-refuses : (b : Body) → OnlyRefuses (truncate_in g q v i size b)
    body-refuses Free = refusing _
    body-refuses (File bytes) = bytes-refuse g q v i _ _
    body-refuses (Dir slots) = refusing _

unlink-refuses : (v : Volume) (t : RequestTarget) → OnlyRefuses (unlink v t)
unlink-refuses v Root = refusing _
unlink-refuses v (Lost fault) = refusing fault
unlink-refuses v (In d name None) = refusing _
unlink-refuses v (In d name (Some i)) = body-refuses (body v i)
  where
    body-refuses : (b : Body) → OnlyRefuses (unlink_in v d name i b)
    body-refuses Free = refusing _
    body-refuses (File bytes) = tt
    body-refuses (Dir slots) = refusing _

rmdir-refuses : (v : Volume) (t : RequestTarget) → OnlyRefuses (rmdir v t)
rmdir-refuses v Root = refusing _
rmdir-refuses v (Lost fault) = refusing fault
rmdir-refuses v (In d name None) = refusing _
rmdir-refuses v (In d name (Some i)) = body-refuses (body v i)
  where
    body-refuses : (b : Body) → OnlyRefuses (rmdir_in v d name i b)
    body-refuses Free = refusing _
    body-refuses (File bytes) = refusing _
    body-refuses (Dir slots) = refuses-cond (nat_eq (count_names slots) 0) _ _ tt (refusing _)

move-refuses : (g : Geometry) (q : ℕ) (u : Volume) (i : ℕ) (t : RequestTarget) → OnlyRefuses (move g q u i t)
move-refuses g q u i Root = refusing _
move-refuses g q u i (Lost fault) = refusing fault
move-refuses g q u i (In d name (Some j)) = refusing _
move-refuses g q u i (In d name None) = refuses-cond (nat_le names_limit (count_names (slots_of (body u d)))) _ _ (refusing _) tt

rename-refuses : (g : Geometry) (q : ℕ) (v : Volume) (p to : Path) (t : RequestTarget) → OnlyRefuses (rename g q v p to t)
rename-refuses g q v p to Root = refusing _
rename-refuses g q v p to (Lost fault) = refusing fault
rename-refuses g q v p to (In d name None) = refusing _
rename-refuses g q v p to (In d name (Some i)) = refuses-cond (is_below p to) _ _ (refusing _) (move-refuses g q (unlinked v d name) i (target v (way to)))

link_to-refuses : (g : Geometry) (q : ℕ) (v : Volume) (i : ℕ) (t : RequestTarget) → OnlyRefuses (link_to g q v i t)
link_to-refuses g q v i Root = refusing _
link_to-refuses g q v i (Lost fault) = refusing fault
link_to-refuses g q v i (In d name (Some j)) = refusing _
link_to-refuses g q v i (In d name None) = refuses-cond (nat_le names_limit (count_names (slots_of (body v d)))) _ _ (refusing _) (refuses-cond (nat_le links_limit (node v i).links) _ _ (refusing _) tt)

link-refuses : (g : Geometry) (q : ℕ) (v : Volume) (to t : RequestTarget) → OnlyRefuses (link g q v to t)
link-refuses g q v to Root = refusing _
link-refuses g q v to (Lost fault) = refusing fault
link-refuses g q v to (In d name None) = refusing _
link-refuses g q v to (In d name (Some i)) = body-refuses (body v i)
  where
    body-refuses : (b : Body) → OnlyRefuses (link_file g q v i to b)
    body-refuses Free = refusing _
    body-refuses (File bytes) = link_to-refuses g q v i to
    body-refuses (Dir slots) = refusing _

act-refuses : (g : Geometry) (q : ℕ) (v : Volume) (r : Request) → is_change r ≡ true → OnlyRefuses (act g q v r)
act-refuses g q v (Mkdir p) e = make-refuses g q v (Dir []) (target v (way p))
act-refuses g q v (Create p) e = make-refuses g q v (File []) (target v (way p))
act-refuses g q v (Write p at bytes) e = write-refuses g q v at bytes (target v (way p))
act-refuses g q v (Truncate p size) e = truncate-refuses g q v size (target v (way p))
act-refuses g q v (Unlink p) e = unlink-refuses v (target v (way p))
act-refuses g q v (Rmdir p) e = rmdir-refuses v (target v (way p))
act-refuses g q v (Rename p to) e = rename-refuses g q v p to (target v (way p))
act-refuses g q v (Link p to) e = link-refuses g q v (target v (way to)) (target v (way p))
act-refuses g q v (Read p at count) e = absurd (true≢false (sym e))
act-refuses g q v (ListOf p) e = absurd (true≢false (sym e))
act-refuses g q v (Stat p) e = absurd (true≢false (sym e))

verdict-refuses : (g : Geometry) (q : ℕ) (v : Volume) (r : Request) → is_change r ≡ true → OnlyRefuses (verdict g q v r)
verdict-refuses g q v r e = refuses-cond (is_named r) (act g q v r) (refused BadName) (act-refuses g q v r e) (refusing BadName)

-- what a verdict comes to where it is carried out
pub record IsDone (g : Geometry) (v : Volume) (x : Verdict) : Type 0 where
  pub blocks : ℕ
  pub makes : x ≡ Makes blocks (carried_out g v x).next
  pub enough : blocks ≤ free_blocks g v

done-refused : {R : Type 0} (fault : Fault) → Refused fault ≡ Done → R
done-refused fault e = absurd (cc)

carried-done : (g : Geometry) (v : Volume) (x : Verdict) → OnlyRefuses x → (carried_out g v x).reply ≡ Done → IsDone g v x
carried-done g v (Says reply) h e = done-refused h.0 (sym h.1 ∙ e)
carried-done g v (Makes n w) h e = go (nat_lt (free_blocks g v) n) refl e
  where
    go : (b : Bool) → nat_lt (free_blocks g v) n ≡ b → (outcome b v w).reply ≡ Done → IsDone g v (Makes n w)
    go true is f = done-refused _ f
    go false is f = record { blocks = n; makes = ap (λ (b : Bool). Makes n (outcome b v w).next) (sym is); enough = ltb-false (free_blocks g v) n is }

-- a request that answers Ok: its paths are good, and it acts
pub record IsOk (g : Geometry) (q : ℕ) (v : Volume) (r : Request) : Type 0 where
  pub blocks : ℕ
  pub named : is_named r ≡ true
  pub acts : act g q v r ≡ Makes blocks (step g q v r).next
  pub enough : blocks ≤ free_blocks g v

pub step-ok : (g : Geometry) (q : ℕ) (v : Volume) (r : Request) → is_change r ≡ true → (step g q v r).reply ≡ Done → IsOk g q v r
unfolding step
step-ok g q v r change e =
    let d = carried-done g v (verdict g q v r) (verdict-refuses g q v r change) e in
    let p = makes-then (is_named r) BadName (act g q v r) d.blocks (carried_out g v (verdict g q v r)).next d.makes in
    record { blocks = d.blocks; named = p.0; acts = p.1; enough = d.enough }

-- ---- the tree

pub ok-mkdir : (g : Geometry) (q : ℕ) (v : Volume) (p : Path) → IsSound g v → q < queues_of g → (step g q v (Mkdir p)).reply ≡ Done → IsAdded v (step g q v (Mkdir p)).next p ADir
ok-mkdir g q v p s low e = let k = step-ok g q v (Mkdir p) refl e in (mkdir-kept g q v p k.blocks _ low s k.named k.enough k.acts).1

pub ok-create : (g : Geometry) (q : ℕ) (v : Volume) (p : Path) → IsSound g v → q < queues_of g → (step g q v (Create p)).reply ≡ Done → IsAdded v (step g q v (Create p)).next p (AFile [])
ok-create g q v p s low e = let k = step-ok g q v (Create p) refl e in (create-kept g q v p k.blocks _ low s k.named k.enough k.acts).1

pub ok-write : (g : Geometry) (q : ℕ) (v : Volume) (p : Path) (at : ℕ) (bytes : List ℕ) → IsSound g v → q < queues_of g → AreBytes bytes → (step g q v (Write p at bytes)).reply ≡ Done → IsRewritten v (step g q v (Write p at bytes)).next p (λ old. spliced at bytes old)
ok-write g q v p at bytes s low fine e = let k = step-ok g q v (Write p at bytes) refl e in (write-kept g q v p at bytes k.blocks _ low s fine k.enough k.acts).1

pub ok-truncate : (g : Geometry) (q : ℕ) (v : Volume) (p : Path) (size : ℕ) → IsSound g v → q < queues_of g → (step g q v (Truncate p size)).reply ≡ Done → IsRewritten v (step g q v (Truncate p size)).next p (λ old. cut_to size old)
ok-truncate g q v p size s low e = let k = step-ok g q v (Truncate p size) refl e in (truncate-kept g q v p size k.blocks _ low s k.enough k.acts).1

pub ok-unlink : (g : Geometry) (q : ℕ) (v : Volume) (p : Path) → IsSound g v → (step g q v (Unlink p)).reply ≡ Done → (old : List ℕ) × IsRemoved v (step g q v (Unlink p)).next p (AFile old)
ok-unlink g q v p s e = let k = step-ok g q v (Unlink p) refl e in let r = unlink-kept g q v p k.blocks _ s k.acts in (r.1, r.2)

pub ok-rmdir : (g : Geometry) (q : ℕ) (v : Volume) (p : Path) → IsSound g v → (step g q v (Rmdir p)).reply ≡ Done → IsRemoved v (step g q v (Rmdir p)).next p ADir × IsBare v p
ok-rmdir g q v p s e = let k = step-ok g q v (Rmdir p) refl e in let r = rmdir-kept g q v p k.blocks _ s k.acts in (r.1, r.2)

pub ok-rename : (g : Geometry) (q : ℕ) (v : Volume) (p to : Path) → IsSound g v → q < queues_of g → (step g q v (Rename p to)).reply ≡ Done → IsRenamed v (step g q v (Rename p to)).next p to
ok-rename g q v p to s low e =
    let k = step-ok g q v (Rename p to) refl e in
    (rename-kept g q v p to k.blocks _ low s (and_parts (list_all is_name p) (list_all is_name to) k.named).1 k.enough k.acts).1

pub ok-link : (g : Geometry) (q : ℕ) (v : Volume) (p to : Path) → IsSound g v → q < queues_of g → (step g q v (Link p to)).reply ≡ Done → IsLinked v (step g q v (Link p to)).next p to
ok-link g q v p to s low e =
    let k = step-ok g q v (Link p to) refl e in
    (link-kept g q v p to k.blocks _ low s (and_parts (list_all is_name p) (list_all is_name to) k.named).1 k.enough k.acts).1

-- ---- what changes nothing

carried-refused : (g : Geometry) (v : Volume) (x : Verdict) (fault : Fault) → (carried_out g v x).reply ≡ Refused fault → (carried_out g v x).next ≡ v
carried-refused g v (Says reply) fault e = refl
carried-refused g v (Makes n w) fault e = go (nat_lt (free_blocks g v) n) e
  where
    go : (b : Bool) → (outcome b v w).reply ≡ Refused fault → (outcome b v w).next ≡ v
    go true f = refl
    go false f = done-refused fault (sym f)

pub refused-same : (g : Geometry) (q : ℕ) (v : Volume) (r : Request) (fault : Fault) → (step g q v r).reply ≡ Refused fault → (step g q v r).next ≡ v
unfolding step
refused-same g q v r fault e = carried-refused g v (verdict g q v r) fault e

-- it says something
abbrev OnlySays : Verdict → Type 0
OnlySays (Says reply) = ⊤
OnlySays (Makes n w) = ⊥

asks-says : (v : Volume) (reply : Body → Reply) (t : RequestTarget) → OnlySays (asks v reply t)
asks-says v reply Root = tt
asks-says v reply (Lost fault) = tt
asks-says v reply (In d name None) = tt
asks-says v reply (In d name (Some i)) = tt

says-cond : (b : Bool) (x y : Verdict) → OnlySays x → OnlySays y → OnlySays (cond b x y)
says-cond true x y h k = h
says-cond false x y h k = k

act-says : (g : Geometry) (q : ℕ) (v : Volume) (r : Request) → is_change r ≡ false → OnlySays (act g q v r)
act-says g q v (Mkdir p) e = absurd (true≢false e)
act-says g q v (Create p) e = absurd (true≢false e)
act-says g q v (Write p at bytes) e = absurd (true≢false e)
act-says g q v (Truncate p size) e = absurd (true≢false e)
act-says g q v (Unlink p) e = absurd (true≢false e)
act-says g q v (Rmdir p) e = absurd (true≢false e)
act-says g q v (Rename p to) e = absurd (true≢false e)
act-says g q v (Link p to) e = absurd (true≢false e)
act-says g q v (Read p at count) e = asks-says v (read_in at count) (target v (way p))
act-says g q v (ListOf p) e = asks-says v list_in (target v (way p))
act-says g q v (Stat p) e = asks-says v stat_in (target v (way p))

carried-says : (g : Geometry) (v : Volume) (x : Verdict) → OnlySays x → (carried_out g v x).next ≡ v
carried-says g v (Says reply) h = refl
carried-says g v (Makes n w) h = absurd h

pub reading-same : (g : Geometry) (q : ℕ) (v : Volume) (r : Request) → is_change r ≡ false → (step g q v r).next ≡ v
unfolding step
reading-same g q v r e = carried-says g v (verdict g q v r) (says-cond (is_named r) (act g q v r) (refused BadName) (act-says g q v r e) tt)

carried-answers : (g : Geometry) (v : Volume) (x : Verdict) → OnlyRefuses x → ((carried_out g v x).reply ≡ Done) ⊎ ((fault : Fault) × ((carried_out g v x).reply ≡ Refused fault))
carried-answers g v (Says reply) h = inr h
carried-answers g v (Makes n w) h = go (nat_lt (free_blocks g v) n)
  where
    go : (b : Bool) → ((outcome b v w).reply ≡ Done) ⊎ ((fault : Fault) × ((outcome b v w).reply ≡ Refused fault))
    go true = inr (NoSpace, refl)
    go false = inl refl

-- a request that may change the tree answers Ok, or is refused
pub change-answers : (g : Geometry) (q : ℕ) (v : Volume) (r : Request) → is_change r ≡ true → ((step g q v r).reply ≡ Done) ⊎ ((fault : Fault) × ((step g q v r).reply ≡ Refused fault))
unfolding step
change-answers g q v r e = carried-answers g v (verdict g q v r) (verdict-refuses g q v r e)
