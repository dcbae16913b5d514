-- No call changes how long the power of the ports lasts, and which of their commands is to fail.
use Rattle.std.proofs.Common.{◌≡◌, inl, inr, ℕ, zero, suc, sym, ap, subst, ◌∙◌}
use Rattle.mq_blocks.specs.Drive.{IsBoundKept, PortState}
use Rattle.mq_blocks.specs.declared.geometry.Geometry.{Geometry}
use Rattle.mq_ledger.specs.State.{port_at}
use Rattle.mq_pmr.specs.Runs.{Items}
use Rattle.mq_queue_side.specs.Sent.{IsCutAt, after_send}
use Rattle.mq_queue_side.proofs.DrainedCompletes as drained
use Rattle.mq_recover.specs.Drives.{AreBoundsKept, DriveState}
use Rattle.mq_replica.specs.Opened.{OpenedState, drive_over}

-- ---- one port

pub bound_then : (a b c : PortState) → IsBoundKept a b → IsBoundKept b c → IsBoundKept a c
bound_then a b c first then = drained.bound_then a b c first then

-- through a send
pub bound_sent : (old numbered : PortState) (tx : ℕ) (items : Items) (new : PortState) → numbered ≡ old → new ≡ after_send numbered tx items → IsBoundKept old new
bound_sent old numbered tx items new same is = record {
  fuse = ap (λ (p : PortState). p.fuse) is ∙ ap (λ (p : PortState). p.fuse) same;
  fail = ap (λ (p : PortState). p.fail) is ∙ ap (λ (p : PortState). p.fail) same;
}

-- or through one that is cut
cut_at : (old : PortState) (tx : ℕ) (items : Items) (new : PortState) → IsCutAt old tx items new → IsBoundKept old new
cut_at old tx items new (inl part) = let is = part.2 in record { fuse = ap (λ (p : PortState). p.fuse) is; fail = ap (λ (p : PortState). p.fail) is }
cut_at old tx items new (inr (inl all)) = record { fuse = ap (λ (p : PortState). p.fuse) all; fail = ap (λ (p : PortState). p.fail) all }
cut_at old tx items new (inr (inr all)) = record { fuse = ap (λ (p : PortState). p.fuse) all; fail = ap (λ (p : PortState). p.fail) all }

pub bound_cut : (old numbered : PortState) (tx : ℕ) (items : Items) (new : PortState) → numbered ≡ old → IsCutAt numbered tx items new → IsBoundKept old new
bound_cut old numbered tx items new same cut = subst (λ (p : PortState). IsBoundKept p new) same (cut_at numbered tx items new cut)

-- ---- the ports of a drive

pub bounds_same : (g : Geometry) (old new : DriveState) → new ≡ old → AreBoundsKept g old new
bounds_same g old new same = subst (AreBoundsKept g old) (sym same) (record { queues = λ q low. drained.bound_now (port_at old.queues q); root = drained.bound_now old.root })

pub bounds_then : (g : Geometry) (a b c : DriveState) → AreBoundsKept g a b → AreBoundsKept g b c → AreBoundsKept g a c
bounds_then g a b c first then = record {
  queues = λ q low. bound_then (port_at a.queues q) (port_at b.queues q) (port_at c.queues q) (first.queues q low) (then.queues q low);
  root = bound_then a.root b.root c.root first.root then.root;
}

-- of an open side and its root
queue_over : (old new : OpenedState) → IsBoundKept old.side.port new.side.port → (q : ℕ) → IsBoundKept (port_at (drive_over old).queues q) (port_at (drive_over new).queues q)
queue_over old new bound zero = bound
queue_over old new bound (suc q) = drained.bound_now (port_at (drive_over old).queues (suc q))

pub bounds_over : (g : Geometry) (old new : OpenedState) → IsBoundKept old.side.port new.side.port → new.root ≡ old.root → AreBoundsKept g (drive_over old) (drive_over new)
bounds_over g old new bound root = record {
  queues = λ q low. queue_over old new bound q;
  root = subst (IsBoundKept old.root) (sym root) (drained.bound_now old.root);
}
