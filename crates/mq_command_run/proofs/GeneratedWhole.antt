-- What a run on an empty drive comes to whose groups were all answered well: its history, the image that it
-- leaves, and the tree on that.
use Rattle.std.proofs.Common.{◌≡◌, ◌∙◌, ℕ, ◌<◌, List, length, refl, sym, ap, subst, arith}
use Rattle.std.specs.Prelude.{Bool, true, Option, Some, None}
use Rattle.mq_blocks.specs.Blocks.{block_at, content}
use Rattle.mq_blocks.specs.Drive.{PortImage}
use Rattle.mq_blocks.specs.Geometry.{homes_of, queues_of}
use Rattle.mq_blocks.specs.Journal.{stands}
use Rattle.mq_blocks.specs.declared.geometry.Geometry.{Geometry}
use Rattle.mq_command_run.specs.Generated.{AreGood, EndDurable, HoldsAll, IsGenerated, IsHistory, IsShape, IsWholeRun, last_volume, sessions_alone}
use Rattle.mq_command_run.specs.declared.generated.Generated.{Generated}
use Rattle.mq_command_run.proofs.Empty.{starts-empty}
use Rattle.mq_command_run.proofs.GeneratedLasts.{each-line, reaches-last, rung-all}
use Rattle.mq_command_run.proofs.GeneratedWorkload.{workload-bytes, workload-end}
use Rattle.mq_image.specs.Drives.{IsDrive}
use Rattle.mq_image.specs.File.{DriveImage, image_bytes}
use Rattle.mq_run_laws.specs.declared.ran.ImageRun.{ImageRun}
use Rattle.mq_image_ops.specs.Empty.{IsEmptyDrive}
use Rattle.mq_image_ops.specs.Standing.{StandsFor}
use Rattle.mq_image_ops.specs.Views.{view_of}
use Rattle.mq_image_ops.proofs.Views.{queue-in}
use Rattle.mq_image_ops.proofs.StandingVolumes.{stands-once}
use Rattle.mq_run_laws.specs.Cuts.{HasEntries, IsCut, IsRung, ShowsVolume}
use Rattle.mq_run_laws.specs.Histories.{AreOfBytes}
use Rattle.mq_run_laws.specs.Legal.{IsLegal, newest, volume_at}
use Rattle.mq_run_laws.proofs.CutsNextRun.{goes-on}
use Rattle.mq_run_laws.specs.Images.{KeepsPromise, RunsKeepTheirPromise}
use Rattle.mq_report.specs.Lines.{Line}
use Rattle.mq_script.specs.Scripts.{Script}
use Rattle.mq_script.specs.Workloads.{workload_of}
use Rattle.mq_tree.specs.Counts.{counts_in}
use Rattle.mq_tree.specs.Decoded.{table_of}
use Rattle.mq_tree.specs.Empty.{empty_volume}
use Rattle.mq_tree.specs.Volume.{Volume}
use Rattle.mq_tree.specs.declared.counts.TreeCounts.{TreeCounts}
use Rattle.mq_tree.proofs.Decoded.{length-table, table-at}

-- ---- the history

module _ (scripts : List Script) (r : ImageRun) (x : DriveImage) (empty : IsEmptyDrive x.geometry x) (promise : KeepsPromise x scripts sessions_alone r) (bytes : AreOfBytes scripts) (durable : EndDurable scripts)
    (good : AreGood r.answers.items) where
  abbrev g : Geometry
  g = x.geometry

  abbrev lines : List Line
  lines = r.entries.items

  heads : (q : ℕ) → q < queues_of g → (view_of x).head q ≡ 0
  heads q low = ap (λ (p : PortImage). p.head) (queue-in x q low) ∙ (empty.unused q (omega (arith, low))).head

  bells : (q : ℕ) → q < queues_of g → (view_of x).doorbell q ≡ 0
  bells q low = ap (λ (p : PortImage). p.doorbell) (queue-in x q low) ∙ (empty.unused q (omega (arith, low))).doorbell

  begins : (r.base ≡ 0) × (promise.volume ≡ empty_volume g)
  begins = starts-empty g (view_of x) refl (empty.unused (queues_of g) (omega arith)).base heads bells empty.homes r.base promise.volume promise.starts

  legal : IsLegal g scripts (empty_volume g) 0 lines
  legal = subst (λ (n : ℕ). IsLegal g scripts (empty_volume g) n lines) begins.0 (subst (λ (v : Volume). IsLegal g scripts v r.base lines) begins.1 promise.legal)

  cut : IsCut g scripts (empty_volume g) 0 lines r.answers.items (view_of r.image) promise.reached
  cut =
      subst (λ (n : ℕ). IsCut g scripts (empty_volume g) n lines r.answers.items (view_of r.image) promise.reached) begins.0
      (subst (λ (v : Volume). IsCut g scripts v r.base lines r.answers.items (view_of r.image) promise.reached) begins.1 promise.cut)

  last : promise.reached ≡ newest 0 lines
  last = reaches-last scripts lines r.answers.items promise.answered good g (empty_volume g) 0 promise.reached (view_of r.image) durable legal cut

  history : IsHistory g scripts lines
  history = record { legal = legal; whole = each-line scripts lines r.answers.items promise.answered good }

  rung : (q : ℕ) → q < queues_of g → HasEntries g scripts q (empty_volume g) lines ((view_of r.image).doorbell q)
  rung q low =
      let is : IsRung g scripts (empty_volume g) lines r.answers.items q ((view_of x).doorbell q) ((view_of r.image).doorbell q) =
      subst (λ (v : Volume). IsRung g scripts v lines r.answers.items q ((view_of x).doorbell q) ((view_of r.image).doorbell q)) begins.1 (promise.rung q low) in
      rung-all g scripts (empty_volume g) lines r.answers.items q ((view_of x).doorbell q) ((view_of r.image).doorbell q) promise.answered good (bells q low) is

  holds : r.image.geometry ≡ g → IsDrive r.image → HoldsAll g scripts lines r.image
  holds same drive = record {
    geometry_is = same;
    drive = drive;
    ds = cut.ds;
    top = cut.top;
    read = cut.read;
    reaches = sym last ∙ cut.reaches;
    stand = subst (λ (n : ℕ). ShowsVolume g (view_of r.image) cut.ds (volume_at g scripts (empty_volume g) lines n)) last cut.stand;
    rung = rung;
  }

pub whole-run : (g : Geometry) (scripts : List Script) (r : ImageRun) → RunsKeepTheirPromise → IsWholeRun g scripts r → AreOfBytes scripts → EndDurable scripts → IsHistory g scripts r.entries.items × HoldsAll g scripts r.entries.items r.image
whole-run g scripts r keeps run bytes durable =
    let x = run.played.start in
    let same = run.played.empty.geometry_is in
    let empty : IsEmptyDrive x.geometry x = subst (λ (h : Geometry). IsEmptyDrive h x) (sym same) run.played.empty in
    let promise = keeps x scripts sessions_alone r run.played.run bytes in
    subst (λ (h : Geometry). IsHistory h scripts r.entries.items × HoldsAll h scripts r.entries.items r.image) same
    (history scripts r x empty promise bytes durable run.good, holds scripts r x empty promise bytes durable run.good run.played.run.on.geometry run.played.run.on.drive)

-- ---- what stands on the image

module _ (scripts : List Script) (lines : List Line) (x : DriveImage) (h : HoldsAll x.geometry scripts lines x) where
  abbrev stored : List (Option (List ℕ))
  stored = table_of (homes_of x.geometry) (λ b. Some (stands x.geometry (view_of x) h.ds b))

  count : length stored ≡ homes_of x.geometry
  count = length-table (homes_of x.geometry) (λ b. Some (stands x.geometry (view_of x) h.ds b))

  each : (b : ℕ) → b < homes_of x.geometry → block_at stored b ≡ stands x.geometry (view_of x) h.ds b
  each b low = ap (λ (o : Option (List ℕ)). content o) (table-at (homes_of x.geometry) (λ c. Some (stands x.geometry (view_of x) h.ds c)) b None low)

  stands-here : StandsFor x (last_volume x.geometry scripts lines)
  stands-here = record {
    ds = h.ds;
    top = h.top;
    stored = stored;
    read = h.read;
    standing = record { count = count; each = each };
    laid = goes-on x.geometry (view_of x) h.ds (last_volume x.geometry scripts lines) stored h.stand (record { whole = count; each = each });
  }

pub stands-last : (g : Geometry) (scripts : List Script) (lines : List Line) (x : DriveImage) → HoldsAll g scripts lines x → StandsFor x (last_volume g scripts lines)
stands-last g scripts lines x h =
    subst (λ (k : Geometry). HoldsAll k scripts lines x → StandsFor x (last_volume k scripts lines)) h.geometry_is (stands-here scripts lines x) h

-- what was counted is in the tree after the last number
pub counted : (g : Geometry) (scripts : List Script) (lines : List Line) (x : DriveImage) (counts : TreeCounts) → HoldsAll g scripts lines x → (v : Volume) × StandsFor x v × (counts ≡ counts_in v) → counts ≡ counts_in (last_volume g scripts lines)
counted g scripts lines x counts h c = c.2 ∙ ap counts_in (stands-once x c.0 (last_volume g scripts lines) c.1 (stands-last g scripts lines x h))

-- ---- the whole

pub generated : (seed threads groups : ℕ) (keep_file : Bool) (g : Geometry) (scripts : List Script) (r : ImageRun) (made : Generated) → RunsKeepTheirPromise → IsShape threads g → scripts ≡ workload_of seed threads groups → IsWholeRun g scripts r
    → (keep_file ≡ true → made.file.items ≡ image_bytes r.image) → made.commits ≡ newest 0 r.entries.items → (v : Volume) × StandsFor r.image v × (made.counts ≡ counts_in v) → IsGenerated seed threads groups keep_file made
generated seed threads groups keep_file g scripts r made keeps shape are run file commits counts =
    let of : IsWholeRun g (workload_of seed threads groups) r = subst (λ (ss : List Script). IsWholeRun g ss r) are run in
    let w = whole-run g (workload_of seed threads groups) r keeps of (workload-bytes seed threads groups) (workload-end seed threads groups) in
    record {
      geometry = g;
      shape = shape;
      lines = r.entries.items;
      history = w.0;
      image = r.image;
      left = w.1;
      file = file;
      commits = commits;
      counts = counted g (workload_of seed threads groups) r.entries.items r.image made.counts w.1 counts;
    }
