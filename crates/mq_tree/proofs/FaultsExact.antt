-- Requests are refused exactly for what stands at their paths, or because there is no room.
use Rattle.std.proofs.Common.{◌≡◌, ℕ, ◌+◌, ◌<◌, ◌⊎◌, inl, inr, [], length, Bool, true, false, refl, sym, ap, ◌∙◌, arith}
use Rattle.std.specs.Prelude.{Some, None, nat_eq, nat_lt}
use Rattle.std.specs.List.{list_all}
use Rattle.std.proofs.lemmas.Bool.{and_parts, cond-true, lt-ltb, ltb-true}
use Rattle.mq_blocks.specs.declared.geometry.Geometry.{Geometry}
use Rattle.mq_layout.specs.Names.{is_name}
use Rattle.mq_tree.specs.Faults.{IsAddFault, IsAddFull, IsDirFault, IsFault, IsFileFault, IsFull, IsMoveFull, IsRenameFault, IsRmdirFault, IsSizeFault, IsSpaceFault, IsUnfound, IsLinkFault, IsLinkFull}
use Rattle.mq_tree.specs.Free.{free_blocks}
use Rattle.mq_tree.specs.Requests.{Root, Lost, In, RequestTarget, Verdict, Says, Makes, act, carried_out, count_names, freed, released, is_named, list_in, read_in, refused, rmdir, rmdir_in, stat_in, step, target, unlink, unlink_in, unlinked, verdict}
use Rattle.mq_tree.specs.Sound.{IsSound}
use Rattle.mq_tree.specs.Volume.{Body, Free, File, Dir, Volume, body, way}
use Rattle.mq_tree.specs.declared.request.Fault.{Fault}
use Rattle.mq_tree.specs.declared.request.Fault.TheVariants.{NotEmpty, NoSpace}
use Rattle.mq_tree.specs.declared.request.Reply.{Reply}
use Rattle.mq_tree.specs.declared.request.Reply.TheVariants.{Ok as Done, Refused}
use Rattle.mq_tree.specs.declared.request.Request.{Request}
use Rattle.mq_tree.specs.declared.request.Request.TheVariants.{Mkdir, Create, Write, Truncate, Unlink, Rmdir, Rename, Link, Read, List as ListOf, Stat}
use Rattle.mq_tree.proofs.KeptAsks.{answers-says}
use Rattle.mq_tree.proofs.KeptSteps.{asks-makes, outcome}
use Rattle.mq_tree.proofs.RequestsVerdicts.{makes-parts, makes-then, says-makes}
use Rattle.mq_tree.proofs.SoundVolumes.{sound-tree}
use Rattle.mq_tree.proofs.FaultsOnly.{asks-only, link-full, link-only, list-body, make-full, make-only, read-body, rename-full, rename-only, rmdir-only, same-reply, stat-body, truncate-only, unlink-only, write-only}

-- ---- all of them

-- what refuses a request before its blocks are counted
abbrev IsEarly : Geometry → ℕ → Volume → Request → Fault → Type 0
IsEarly g q v (Mkdir p) fault = IsAddFault v p fault ⊎ IsAddFull g q v p fault
IsEarly g q v (Create p) fault = IsAddFault v p fault ⊎ IsAddFull g q v p fault
IsEarly g q v (Write p at bytes) fault = IsSizeFault v p (at + length bytes) fault
IsEarly g q v (Truncate p size) fault = IsSizeFault v p size fault
IsEarly g q v (Unlink p) fault = IsUnfound v p fault ⊎ IsDirFault v p fault
IsEarly g q v (Rmdir p) fault = IsRmdirFault v p fault
IsEarly g q v (Rename p to) fault = IsRenameFault v p to fault ⊎ IsMoveFull g q v p to fault
IsEarly g q v (Link p to) fault = IsLinkFault v p to fault ⊎ IsLinkFull g q v p to fault
IsEarly g q v (Read p at count) fault = IsUnfound v p fault ⊎ IsDirFault v p fault
IsEarly g q v (ListOf p) fault = IsUnfound v p fault ⊎ IsFileFault v p fault
IsEarly g q v (Stat p) fault = IsUnfound v p fault

act-early : (g : Geometry) (q : ℕ) (v : Volume) (r : Request) (fault : Fault) → IsSound g v → is_named r ≡ true → act g q v r ≡ refused fault → IsEarly g q v r fault
act-early g q v (Mkdir p) fault s good e = make-only g q v (Dir []) p fault (sound-tree g v s) good e
act-early g q v (Create p) fault s good e = make-only g q v (File []) p fault (sound-tree g v s) good e
act-early g q v (Write p at bytes) fault s good e = write-only g q v p at bytes fault (sound-tree g v s) e
act-early g q v (Truncate p size) fault s good e = truncate-only g q v p size fault (sound-tree g v s) e
act-early g q v (Unlink p) fault s good e = unlink-only v p fault (sound-tree g v s) e
act-early g q v (Rmdir p) fault s good e = rmdir-only g v p fault s e
act-early g q v (Rename p to) fault s good e = rename-only g q v p to fault s (and_parts (list_all is_name p) (list_all is_name to) good).1 e
act-early g q v (Link p to) fault s good e = link-only g q v p to fault s (and_parts (list_all is_name p) (list_all is_name to) good).1 e
act-early g q v (Read p at count) fault s good e = asks-only v p fault (read_in at count) (IsDirFault v p fault) (sound-tree g v s) (λ i b leads used is h. read-body v p fault at count i b leads used is h) e
act-early g q v (ListOf p) fault s good e = asks-only v p fault list_in (IsFileFault v p fault) (sound-tree g v s) (λ i b leads used is h. list-body v p fault i b leads used is h) e
act-early g q v (Stat p) fault s good e = elim (asks-only v p fault stat_in ⊥ (sound-tree g v s) (λ i b leads used is h. stat-body v p fault i b leads used is h) e) [ inl u ↦ u | inr never ↦ absurd never ]

-- the tree says so, or there is no room
abbrev IsSaid : Geometry → ℕ → Volume → Request → Fault → Type 0
IsSaid g q v r fault = IsFault v r fault ⊎ IsFull g q v r fault

early-said : (g : Geometry) (q : ℕ) (v : Volume) (r : Request) (fault : Fault) → IsEarly g q v r fault → IsSaid g q v r fault
early-said g q v (Mkdir p) fault (inl f) = inl f
early-said g q v (Mkdir p) fault (inr f) = inr (inl f)
early-said g q v (Create p) fault (inl f) = inl f
early-said g q v (Create p) fault (inr f) = inr (inl f)
early-said g q v (Write p at bytes) fault f = inl f
early-said g q v (Truncate p size) fault f = inl f
early-said g q v (Unlink p) fault f = inl f
early-said g q v (Rmdir p) fault f = inl f
early-said g q v (Rename p to) fault (inl f) = inl f
early-said g q v (Rename p to) fault (inr f) = inr (inl f)
early-said g q v (Link p to) fault (inl f) = inl f
early-said g q v (Link p to) fault (inr f) = inr (inl f)
early-said g q v (Read p at count) fault f = inl f
early-said g q v (ListOf p) fault f = inl f
early-said g q v (Stat p) fault f = inl f

-- ---- blocks

-- no request without new blocks needs more than are free
no-blocks : (g : Geometry) (v : Volume) (n : ℕ) → n ≡ 0 → free_blocks g v < n → ⊥
no-blocks g v n e l = omega arith

unlink-blocks : (v : Volume) (t : RequestTarget) (n : ℕ) (w : Volume) → unlink v t ≡ Makes n w → n ≡ 0
unlink-blocks v Root n w e = says-makes _ n w e
unlink-blocks v (Lost fault) n w e = says-makes _ n w e
unlink-blocks v (In d name None) n w e = says-makes _ n w e
unlink-blocks v (In d name (Some i)) n w e = go (body v i) e
  where
    go : (b : Body) → unlink_in v d name i b ≡ Makes n w → n ≡ 0
    go Free h = says-makes _ n w h
    go (File old) h = (makes-parts 0 n (released (unlinked v d name) i) w h).0
    go (Dir slots) h = says-makes _ n w h

rmdir-blocks : (v : Volume) (t : RequestTarget) (n : ℕ) (w : Volume) → rmdir v t ≡ Makes n w → n ≡ 0
rmdir-blocks v Root n w e = says-makes _ n w e
rmdir-blocks v (Lost fault) n w e = says-makes _ n w e
rmdir-blocks v (In d name None) n w e = says-makes _ n w e
rmdir-blocks v (In d name (Some i)) n w e = go (body v i) e
  where
    go : (b : Body) → rmdir_in v d name i b ≡ Makes n w → n ≡ 0
    go Free h = says-makes _ n w h
    go (File old) h = says-makes _ n w h
    go (Dir slots) h = let r = makes-then (nat_eq (count_names slots) 0) NotEmpty (Makes 0 (freed (unlinked v d name) i)) n w h in (makes-parts 0 n (freed (unlinked v d name) i) w r.1).0

space-said : (g : Geometry) (q : ℕ) (v : Volume) (r : Request) (fault : Fault) → IsSpaceFault g q v r fault → IsFull g q v r fault
space-said g q v (Mkdir p) fault f = inr f
space-said g q v (Create p) fault f = inr f
space-said g q v (Write p at bytes) fault f = f
space-said g q v (Truncate p size) fault f = f
space-said g q v (Unlink p) fault f = no-blocks g v f.0 (unlink-blocks v (target v (way p)) f.0 f.1 f.2) f.3
space-said g q v (Rmdir p) fault f = no-blocks g v f.0 (rmdir-blocks v (target v (way p)) f.0 f.1 f.2) f.3
space-said g q v (Rename p to) fault f = inr f
space-said g q v (Link p to) fault f = inr f
space-said g q v (Read p at count) fault f = asks-makes v (read_in at count) (target v (way p)) f.0 f.1 f.2
space-said g q v (ListOf p) fault f = asks-makes v list_in (target v (way p)) f.0 f.1 f.2
space-said g q v (Stat p) fault f = asks-makes v stat_in (target v (way p)) f.0 f.1 f.2

done-refused : {R : Type 0} (fault : Fault) → Done ≡ Refused fault → R
done-refused fault e = absurd (cc)

carried-only : (g : Geometry) (v : Volume) (x : Verdict) (fault : Fault) → (carried_out g v x).reply ≡ Refused fault → (x ≡ refused fault) ⊎ ((n : ℕ) × (w : Volume) × (x ≡ Makes n w) × (free_blocks g v < n) × (fault ≡ NoSpace))
carried-only g v (Says reply) fault e = inl (ap (λ (r : Reply). Says r) e)
carried-only g v (Makes n w) fault e = go (nat_lt (free_blocks g v) n) refl e
  where
    go : (b : Bool) → nat_lt (free_blocks g v) n ≡ b → (outcome b v w).reply ≡ Refused fault → (Makes n w ≡ refused fault) ⊎ ((m : ℕ) × (u : Volume) × (Makes n w ≡ Makes m u) × (free_blocks g v < m) × (fault ≡ NoSpace))
    go true is h = inr (n, w, refl, ltb-true (free_blocks g v) n is, same-reply NoSpace fault h)
    go false is h = done-refused fault h

pub refused-only : (g : Geometry) (q : ℕ) (v : Volume) (r : Request) (fault : Fault) → IsSound g v → is_named r ≡ true → (step g q v r).reply ≡ Refused fault → IsFault v r fault ⊎ IsFull g q v r fault
unfolding step
refused-only g q v r fault s good e =
    let same : verdict g q v r ≡ act g q v r = cond-true (is_named r) _ _ good in
    elim (carried-only g v (act g q v r) fault (ap (λ (x : Verdict). (carried_out g v x).reply) (sym same) ∙ e)) [
      | inl refuses ↦ early-said g q v r fault (act-early g q v r fault s good refuses)
      | inr full ↦ inr (space-said g q v r fault full)
    ]

-- ---- no room

space-reply : (g : Geometry) (v : Volume) (x : Verdict) (n : ℕ) (w : Volume) (fault : Fault) → x ≡ Makes n w → free_blocks g v < n → fault ≡ NoSpace → (carried_out g v x).reply ≡ Refused fault
space-reply g v x n w fault e l same =
    ap (λ (y : Verdict). (carried_out g v y).reply) e ∙ ap (λ (b : Bool). (outcome b v w).reply) (lt-ltb (free_blocks g v) n l) ∙ ap (λ (f : Fault). Refused f) (sym same)

step-space : (g : Geometry) (q : ℕ) (v : Volume) (r : Request) (fault : Fault) → is_named r ≡ true → IsSpaceFault g q v r fault → (step g q v r).reply ≡ Refused fault
unfolding step
step-space g q v r fault good f =
    let same : verdict g q v r ≡ act g q v r = cond-true (is_named r) _ _ good in
    ap (λ (x : Verdict). (carried_out g v x).reply) same ∙ space-reply g v (act g q v r) f.0 f.1 fault f.2 f.3 f.4

step-refuses : (g : Geometry) (q : ℕ) (v : Volume) (r : Request) (fault : Fault) → is_named r ≡ true → act g q v r ≡ refused fault → (step g q v r).reply ≡ Refused fault
unfolding step
step-refuses g q v r fault good e = answers-says g v (is_named r) (act g q v r) (Refused fault) good e

pub room-refused : (g : Geometry) (q : ℕ) (v : Volume) (r : Request) (fault : Fault) → IsSound g v → is_named r ≡ true → IsFull g q v r fault → (step g q v r).reply ≡ Refused fault
room-refused g q v (Mkdir p) fault s good (inl f) = step-refuses g q v (Mkdir p) fault good (make-full g q v (Dir []) p fault (sound-tree g v s) good f)
room-refused g q v (Mkdir p) fault s good (inr f) = step-space g q v (Mkdir p) fault good f
room-refused g q v (Create p) fault s good (inl f) = step-refuses g q v (Create p) fault good (make-full g q v (File []) p fault (sound-tree g v s) good f)
room-refused g q v (Create p) fault s good (inr f) = step-space g q v (Create p) fault good f
room-refused g q v (Write p at bytes) fault s good f = step-space g q v (Write p at bytes) fault good f
room-refused g q v (Truncate p size) fault s good f = step-space g q v (Truncate p size) fault good f
room-refused g q v (Unlink p) fault s good f = absurd f
room-refused g q v (Rmdir p) fault s good f = absurd f
room-refused g q v (Rename p to) fault s good (inl f) = step-refuses g q v (Rename p to) fault good (rename-full g q v p to fault s (and_parts (list_all is_name p) (list_all is_name to) good).1 f)
room-refused g q v (Rename p to) fault s good (inr f) = step-space g q v (Rename p to) fault good f
room-refused g q v (Link p to) fault s good (inl f) = step-refuses g q v (Link p to) fault good (link-full g q v p to fault s (and_parts (list_all is_name p) (list_all is_name to) good).1 f)
room-refused g q v (Link p to) fault s good (inr f) = step-space g q v (Link p to) fault good f
room-refused g q v (Read p at count) fault s good f = absurd f
room-refused g q v (ListOf p) fault s good f = absurd f
room-refused g q v (Stat p) fault s good f = absurd f
