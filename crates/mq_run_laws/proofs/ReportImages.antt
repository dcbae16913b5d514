-- What a run on an image reports has its order, and its replies are bytes and good names.
use Rattle.std.proofs.Common.{subst}
use Rattle.std.specs.Prelude.{List}
use Rattle.std.specs.List.{AllPairs}
use Rattle.mq_drive.specs.Emu.{emu_faults, emu_state}
use Rattle.mq_run_laws.specs.Histories.{AreOfBytes}
use Rattle.mq_image.specs.File.{DriveImage}
use Rattle.mq_image_run.specs.Drives.{emu_ghosts}
use Rattle.mq_run_laws.specs.Runs.{IsRunOf}
use Rattle.mq_run_laws.specs.Endings.{finishes}
use Rattle.mq_run_laws.specs.declared.options.RunOptions.{RunOptions}
use Rattle.mq_run_laws.specs.declared.ran.ImageRun.{ImageRun}
use Rattle.mq_report.specs.Orders.{IsToldBefore, Precedes}
use Rattle.mq_report.specs.Reports.{MayBeReported}
use Rattle.mq_run_laws.proofs.ViewsSaved as saved
use Rattle.mq_script.specs.Scripts.{Script}
use Rattle.mq_run_laws.proofs.Orders.{answers-order, lines-order}
use Rattle.mq_run_laws.proofs.Replies.{run-fit}

pub may-be-reported : (x : DriveImage) (scripts : List Script) (o : RunOptions) (r : ImageRun) → IsRunOf x scripts o r → AreOfBytes scripts → MayBeReported r.entries.items r.answers.items
may-be-reported x scripts o r run bytes =
    let standing = saved.standing x scripts o r run bytes in
    let end = saved.end x scripts o r run bytes in
    let ran = saved.ran x scripts o r run bytes in record {
      entries_order = subst (λ es. AllPairs Precedes es.items) (saved.entries-are x scripts o r run bytes)
          (lines-order emu_ghosts emu_state emu_faults x.geometry run.on.stops.drives.ports standing scripts (finishes o.ending) end ran run.short);
      answers_order = subst (λ ts. AllPairs IsToldBefore ts.items) (saved.answers-are x scripts o r run bytes)
          (answers-order emu_ghosts emu_state emu_faults x.geometry run.on.stops.drives.ports standing scripts (finishes o.ending) end ran);
      replies_fit = run-fit x.geometry scripts (saved.volume x scripts o r run bytes) r.base r.entries.items (saved.laid x scripts o r run bytes).sound bytes (saved.legal-list x scripts o r run bytes).run;
    }
