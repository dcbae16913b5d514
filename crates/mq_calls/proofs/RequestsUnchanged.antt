-- A group of requests of which none changes anything.
use Rattle.std.proofs.Common.{◌≡◌, ℕ, suc, false, List, [], ◌∷◌, refl, sym, ap, subst, ◌∙◌, arith}
use Rattle.std.specs.List.{All, Contains}
use Rattle.std.proofs.lemmas.Bool.{false≢true}
use Rattle.mq_blocks.specs.declared.geometry.Geometry.{Geometry}
use Rattle.mq_calls.specs.Group.{file_group}
use Rattle.mq_calls.specs.Runs.{file_calls}
use Rattle.mq_exec.specs.Moves.{Moves}
use Rattle.mq_exec.specs.Outcomes.{IsDone}
use Rattle.mq_exec.specs.declared.outcome.Done.{Done}
use Rattle.mq_inodes.specs.Pages.{held_pages}
use Rattle.mq_inodes.proofs.PagesLifting.{laid-agrees}
use Rattle.mq_pages.specs.declared.page.Write.{Write}
use Rattle.mq_sessions.specs.Executors.{ChangesNothing}
use Rattle.mq_tree.specs.Requests.{after_group, is_change}
use Rattle.mq_tree.specs.Volume.{Volume}
use Rattle.mq_tree.specs.declared.request.Request.{Request}
use Rattle.mq_tree.proofs.KeptSteps.{reading-same}

-- the volume stays as it is
group-same : (g : Geometry) (q : ℕ) (v : Volume) (requests : List Request) → All (λ r. is_change r ≡ false) requests → after_group g q v requests ≡ v
unfolding after_group
group-same g q v [] reads = refl
group-same g q v (r ∷ rs) reads =
    ap (λ (w : Volume). after_group g q w rs) (reading-same g q v r (reads 0 r (omega arith)))
    ∙ group-same g q v rs (λ k d l. reads (suc k) d (omega arith))

first-in : {A : Type 0} (x : A) (xs : List A) → Contains (x ∷ xs) x
first-in {A} x xs = (0, omega arith, refl)

-- from a volume to itself nothing is written and nothing is freed
no-writes : (g : Geometry) (v : Volume) (writes : List Write) (frees : List ℕ) → Moves g v v writes frees → writes ≡ []
no-writes g v [] frees m = refl
no-writes g v (x ∷ xs) frees m = let w = (m.written x).0 (first-in x xs) in absurd (w.new w.now)

no-frees : (g : Geometry) (v : Volume) (writes : List Write) (frees : List ℕ) → Moves g v v writes frees → frees ≡ []
no-frees g v writes [] m = refl
no-frees g v writes (b ∷ bs) m = let f = (m.freed b).0 (first-in b bs) in absurd (false≢true (sym f.1 ∙ f.0))

pub nothing-changes : (g : Geometry) (q : ℕ) (v : Volume) (requests : List Request) (done : Done) → All (λ r. is_change r ≡ false) requests → IsDone g q v requests done → (done.writes.items ≡ []) × (done.frees.items ≡ [])
nothing-changes g q v requests done reads is =
    let moves = subst (λ (w : Volume). Moves g v w done.writes.items done.frees.items) (group-same g q v requests reads) is.moves in
    (no-writes g v done.writes.items done.frees.items moves, no-frees g v done.writes.items done.frees.items moves)

-- so it is on any pages
pub reads-nothing : (g : Geometry) (q : ℕ) (requests : List Request) → All (λ r. is_change r ≡ false) requests → ChangesNothing file_group file_calls g q requests
reads-nothing g q requests reads cells done possible on = nothing-changes g q possible.1.0 requests done reads (on.1 possible.1.0 (laid-agrees g possible.0 (held_pages cells) possible.1.0 possible.1.1 possible.2))
