-- What a run of scripts on an image promises.
use Rattle.std.proofs.Common.{◌≡◌, ◌∙◌, ℕ, false, List, Option, None, sym, ap, subst}
use Rattle.std.specs.Prelude.{Err}
use Rattle.std.specs.List.{Contains}
use Rattle.mq_queue_side.specs.declared.answers.CallCause.TheVariants.{Drive}
use Rattle.mq_queue_side.specs.declared.answers.Refusal.{Refusal}
use Rattle.mq_drive.specs.Emu.{emu_faults, emu_state}
use Rattle.mq_image.specs.File.{DriveImage}
use Rattle.mq_image_run.specs.Drives.{emu_ghosts, was_executed}
use Rattle.mq_run_laws.specs.Runs.{IsRunOf}
use Rattle.mq_run_laws.specs.Endings.{finishes, limit_of}
use Rattle.mq_run_laws.specs.declared.options.RunOptions.{RunOptions}
use Rattle.mq_run_laws.specs.declared.ran.ImageRun.{ImageRun}
use Rattle.mq_image_ops.specs.Cuts.{row_of}
use Rattle.mq_image_ops.specs.declared.ports.Failing.{Failing}
use Rattle.mq_run_laws.specs.Answers.{AreCaused, IsPortCause}
use Rattle.mq_run_laws.specs.Histories.{AreOfBytes}
use Rattle.mq_report.specs.declared.line.Told.{Told}
use Rattle.mq_script.specs.Scripts.{Script}
use Rattle.mq_queue_side.specs.declared.answers.Cause.{Cause}
use Rattle.mq_run_laws.specs.Causes.{IsStopOf, ports_of}
use Rattle.mq_run_laws.specs.Images.{KeepsPromise}
use Rattle.mq_run_laws.proofs.AnswersCaused.{is-caused}
use Rattle.mq_run_laws.proofs.Causes.{are-backed, have-port-causes, is-stop}
use Rattle.mq_run_laws.proofs.CausesEnds.{end-of}
use Rattle.mq_run_laws.proofs.Complete.{is-complete}
use Rattle.mq_run_laws.proofs.SumsImages.{is-charged-once}
use Rattle.mq_run_laws.proofs.ViewsSaved as saved

module _ (x : DriveImage) (scripts : List Script) (o : RunOptions) (r : ImageRun) (run : IsRunOf x scripts o r) (bytes : AreOfBytes scripts) where
  -- each refusal has its cause
  pub caused : AreCaused x.geometry scripts (saved.volume x scripts o r run bytes) r.base r.entries.items (saved.is-a-cut x scripts o r run bytes).0 r.answers.items
  caused =
      let cut = saved.is-a-cut x scripts o r run bytes in
      let standing = saved.standing x scripts o r run bytes in
      let end = saved.end x scripts o r run bytes in
      let v = saved.volume x scripts o r run bytes in
      let entries = saved.entries-are x scripts o r run bytes in
      let answers = saved.answers-are x scripts o r run bytes in
      let given : (t : Told) (f : Refusal) (cause : Cause) → Contains end.answers.items t → t.answer ≡ Err f → f.cause ≡ Drive cause → IsPortCause x.geometry end.entries.items cut.0 cause = λ t f cause c bad is.
      subst (λ es. IsPortCause x.geometry es.items cut.0 cause) (sym entries)
      (have-port-causes x scripts o r run bytes v cut.0 cut.1 t f cause (subst (λ ts. Contains ts.items t) answers c) bad is) in
      let are : AreCaused x.geometry scripts v standing.base end.entries.items cut.0 end.answers.items = λ t c.
      is-caused emu_ghosts emu_state emu_faults x.geometry run.on.stops.drives.ports standing scripts (finishes o.ending) end (saved.ran x scripts o r run bytes) run.short v bytes (saved.laid x scripts o r run bytes) cut.0 t c (λ f cause bad is. given t f cause c bad is) in
      subst (λ (b : ℕ). AreCaused x.geometry scripts v b r.entries.items cut.0 r.answers.items) (saved.base-is x scripts o r run bytes)
      (subst (λ ts. AreCaused x.geometry scripts v standing.base r.entries.items cut.0 ts.items) answers
      (subst (λ es. AreCaused x.geometry scripts v standing.base es.items cut.0 end.answers.items) entries are))

  -- what stopped the run at its end
  pub stop-told : (again : IsRunOf x scripts o r) → IsStopOf x.geometry o r (ports_of again) (saved.is-a-cut x scripts o r run bytes).0 r.last
  stop-told again = (let cut = saved.is-a-cut x scripts o r run bytes in is-stop x scripts o r again bytes (saved.volume x scripts o r run bytes) cut.0 cut.1)

  -- no command has failed where none was to
  spared : o.fail ≡ None → r.failed ≡ false
  spared none = run.on.stops.drives.named ∙ ap (λ (f : Option Failing). was_executed f (row_of run.on.stops.drives.end)) none

  pub keeps-promise : KeepsPromise x scripts o r
  keeps-promise = record {
    volume = saved.volume x scripts o r run bytes;
    starts = saved.starts x scripts o r run bytes;
    legal = saved.legal-list x scripts o r run bytes;
    answered = saved.answered x scripts o r run bytes;
    reached = (saved.is-a-cut x scripts o r run bytes).0;
    cut = (saved.is-a-cut x scripts o r run bytes).1;
    file = saved.file-whole x scripts o r run bytes;
    recovered = saved.file-recovered x scripts o r run bytes;
    rung = saved.rung x scripts o r run bytes;
    caused = caused;
    backed = λ again. are-backed x scripts o r again bytes;
    charged = λ again f. is-charged-once x scripts o r again bytes f;
    spared = spared;
    ended = run.ended;
    last = end-of o.ending run.on.fuse.limit run.events run.played.finished r.last run.on.power (λ l is. (run.on.stops.happened l is).1) run.last;
    stopped = stop-told;
    clean = saved.cleaned x scripts o r run bytes;
    complete = λ asked none wanted.
        let last = run.ended asked (spared none) in
        is-complete x scripts o r (saved.volume x scripts o r run bytes) (saved.is-a-cut x scripts o r run bytes).0 (row_of run.on.stops.drives.end) (ap limit_of asked) none wanted (saved.answered x scripts o r run bytes) caused (are-backed x scripts o r run bytes) last.0 last.1 (saved.cleaned x scripts o r run bytes last.0 last.1);
  }
