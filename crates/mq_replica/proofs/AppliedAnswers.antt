-- What a commit on an open replica answers.
use Rattle.std.proofs.Common.{◌≡◌, ℕ, ◌+◌, ◌≤◌, List, All, length, map, subst, Some, None, Result, Ok}
use Rattle.std.proofs.Math.Logic.{∥∥₁_elim}
use Rattle.std.specs.Coded.{Coded-set, coded_ℕ}
use Rattle.mq_blocks.specs.Descriptor.{AreRising}
use Rattle.mq_blocks.specs.Drive.{IsBoundKept, counted, staged_end}
use Rattle.mq_blocks.specs.Geometry.{homes_of, write_limit}
use Rattle.mq_blocks.specs.Journal.{number_limit}
use Rattle.mq_blocks.specs.declared.geometry.Geometry.{Geometry}
use Rattle.mq_pages.specs.declared.page.Write.{Write}
use Rattle.mq_queue_side.specs.Commits.{Commit, commit_by, commit_of_tx}
use Rattle.mq_queue_side.specs.Drained.{Rises}
use Rattle.mq_queue_side.specs.Side.{SideState}
use Rattle.mq_queue_side.specs.Stored.{FitsArea, FitsRing, Row, slots_in}
use Rattle.mq_queue_side.specs.declared.answers.Cause.{Cause}
use Rattle.mq_recover.specs.Drives.{AreBoundsKept}
use Rattle.mq_revoke.specs.Placed.{Placed}
use Rattle.mq_replica.specs.Applying.{IsCutOff, IsWritten, PortsState}
use Rattle.mq_replica.specs.Committing.{Commits}
use Rattle.mq_replica.specs.Contents.{with_writes}
use Rattle.mq_replica.specs.Opened.{IsOpened, OpenedState, drive_over, faults_over, logged_tx}
use Rattle.mq_replica.specs.Plans.{written_as}
use Rattle.mq_replica.proofs.Applied.{all_logged, blocks_in, cut_stands, opened_after, prepared_is, written_entries, written_stands}
use Rattle.mq_replica.proofs.Bounds.{bounds_over}
use Rattle.mq_replica.proofs.OpenedQuiet.{either-prop}
use Rattle.mq_replica.proofs.Propositions.{stands-prop}

abbrev ports : OpenedState → PortsState
ports v = record { drive = drive_over v; faults = faults_over v }

commits_along : (s t : SideState) (rows stored : List Row) (a b : Commit) (n : ℕ) (r : Result ℕ Cause) (new : SideState) (more : List Row) → t ≡ s → stored ≡ rows → b ≡ a → Commits t stored b n r new more → Commits s rows a n r new more
commits_along s t rows stored a b n r new more side same is commits =
    subst (λ (x : SideState). Commits x rows a n r new more) side (subst (λ (x : List Row). Commits t x a n r new more) same (subst (λ (x : Commit). Commits t stored x n r new more) is commits))

-- the conditions of the call
pub record Asks (g : Geometry) (v : OpenedState) (ws : List Write) (plan : Placed) : Type 0 where
  pub planned : plan ≡ all_logged ws
  pub rising : AreRising 0 (homes_of g) (blocks_in ws)
  pub whole : All (λ w. length w.content ≡ 4096) ws
  pub few : length ws ≤ write_limit g
  pub in_area : FitsArea g.area v.root.base v.rows plan
  pub in_ring : FitsRing v.side.port plan
  pub low : v.number + 1 ≤ number_limit
  pub limit : staged_end v.side.port + slots_in plan ≤ number_limit

-- what is committed, where the side and its rows are as they were
pub record Was (v : OpenedState) (ws : List Write) (plan : Placed) (r : Result ℕ Cause) (new : OpenedState) : Type 0 where
  pub side : SideState
  pub rows : List Row
  pub prepared : Commit
  pub side_is : side ≡ v.side
  pub rows_are : rows ≡ v.rows
  pub is : prepared ≡ commit_by plan ws
  pub at : ℕ
  pub at_is : at ≡ v.number + 1
  pub commits : Commits side rows prepared at r new.side new.rows
  pub bound : IsBoundKept side.port new.side.port
  pub root : new.root ≡ v.root
  pub number : new.number ≡ v.number + 1

module _ (g : Geometry) (v : OpenedState) (ws : List Write) (plan : Placed) (a : Asks g v ws plan) (new : OpenedState) (r : Result ℕ Cause) (w : Was v ws plan r new) where
  in_area : FitsArea g.area v.root.base v.rows (all_logged ws)
  in_area = subst (λ (p : Placed). FitsArea g.area v.root.base v.rows p) a.planned a.in_area

  in_ring : FitsRing v.side.port (all_logged ws)
  in_ring = subst (λ (p : Placed). FitsRing v.side.port p) a.planned a.in_ring

  limit : staged_end v.side.port + slots_in (all_logged ws) ≤ number_limit
  limit = subst (λ (p : Placed). staged_end v.side.port + slots_in p ≤ number_limit) a.planned a.limit

  commits : Commits v.side v.rows (commit_of_tx (logged_tx (v.number + 1) (map written_as ws))) (v.number + 1) r new.side new.rows
  commits = subst (λ (m : ℕ). Commits v.side v.rows (commit_of_tx (logged_tx (v.number + 1) (map written_as ws))) m r new.side new.rows) w.at_is (commits_along v.side w.side v.rows w.rows _ w.prepared w.at r new.side new.rows w.side_is w.rows_are (prepared_is ws plan w.prepared (v.number + 1) a.planned w.is) w.commits)

  bounds : AreBoundsKept g (drive_over v) (drive_over new)
  bounds = bounds_over g v new (subst (λ (s : SideState). IsBoundKept s.port new.side.port) w.side_is w.bound) w.root

  pub is_opened : (n : ℕ) → r ≡ Ok n → new.side.kept ≡ None → IsOpened g v → IsOpened g new
  is_opened n ok none o = opened_after g v ws a.rising a.whole a.few a.low in_area in_ring limit o new n (subst (λ (x : Result ℕ Cause). Commits v.side v.rows (commit_of_tx (logged_tx (v.number + 1) (map written_as ws))) (v.number + 1) x new.side new.rows) ok commits) w.root w.number none

  pub is_written : (n : ℕ) → r ≡ Ok n → new.side.kept ≡ None → faults_over new ≡ faults_over v → new.side.port.rings ≡ counted v.side.port.rings 1 → ∥ IsOpened g v ∥₁ → IsWritten g (map written_as ws) (ports v) (ports new)
  is_written n ok none faults rings o =
      let done = subst (λ (x : Result ℕ Cause). Commits v.side v.rows (commit_of_tx (logged_tx (v.number + 1) (map written_as ws))) (v.number + 1) x new.side new.rows) ok commits in
      record {
        faults = faults;
        bounds = bounds;
        rings = rings;
        stands = λ c stands. ∥∥₁_elim o (stands-prop g (drive_over new) (with_writes (map written_as ws) c)) (λ is. written_stands g v ws a.rising a.whole a.few a.low in_area in_ring limit is new n done w.root w.number none c stands);
        entries = ∥∥₁_elim o (Coded-set coded_ℕ _ _) (λ is. written_entries g v ws a.rising a.whole a.few a.low in_area in_ring limit is new.side new.rows n done);
      }

  pub is_cut_off : Rises v.side.faults new.side.faults → ∥ IsOpened g v ∥₁ → IsCutOff g (map written_as ws) (ports v) (ports new)
  is_cut_off rises o = record {
    risen = (Some 0, rises);
    bounds = bounds;
    stands = λ c stands. ∥∥₁_elim o (either-prop g (drive_over new) c (with_writes (map written_as ws) c)) (λ is. cut_stands g v ws a.rising a.whole a.few a.low in_area in_ring limit is new r commits w.root w.number c stands);
  }
