-- The refusals of a run on an image charge each a fault of its own.
use Rattle.std.proofs.Common.{◌⊎◌, ◌-◌, ◌≤◌, ◌^◌, Bool, List, [], length, inl, inr, refl, subst, arith}
use Rattle.mq_drive.specs.Emu.{emu_faults, emu_state}
use Rattle.mq_drive.specs.Steps.{PortFault}
use Rattle.mq_drive.specs.declared.emu.EmuPort.{EmuPort}
use Rattle.mq_drive.specs.declared.port.Ports.{Ports}
use Rattle.mq_run_laws.specs.Histories.{AreOfBytes}
use Rattle.mq_image.specs.File.{DriveImage}
use Rattle.mq_image_ops.specs.Cuts.{row_of}
use Rattle.mq_image_run.specs.Drives.{emu_ghosts}
use Rattle.mq_run_laws.specs.Runs.{IsRunOf}
use Rattle.mq_run_laws.specs.Endings.{finishes}
use Rattle.mq_run_laws.specs.declared.options.RunOptions.{RunOptions}
use Rattle.mq_run_laws.specs.declared.ran.ImageRun.{ImageRun}
use Rattle.mq_recover.specs.Drives.{faults_on}
use Rattle.mq_script.specs.Scripts.{Script}
use Rattle.mq_turns.specs.declared.turn.Turn.TheVariants.{Root, Side}
use Rattle.mq_run_laws.specs.Causes.{IsChargedOnce, IsUntold}
use Rattle.mq_run_laws.specs.Sums.{HasCountedAll, IsSum}
use Rattle.mq_run_laws.proofs.Causes.{port-or-none, untold}
use Rattle.mq_run_laws.proofs.SumsPorts.{charged-once}
use Rattle.mq_run_laws.proofs.ViewsSaved as saved

module _ (x : DriveImage) (scripts : List Script) (o : RunOptions) (r : ImageRun) (run : IsRunOf x scripts o r) (bytes : AreOfBytes scripts) (f : PortFault → Bool) where
  abbrev new : Ports EmuPort
  new = run.on.stops.drives.end

  -- where a port counts no more, the power went off
  none-more : HasCountedAll (faults_on emu_faults new) → IsUntold o r (row_of new)
  none-more (inr many) = untold x scripts o r run bytes Root new.root refl many
  none-more (inl (q, low, many)) = elim (port-or-none new.queues.items q) [
    | inl (p, under, is) ↦ untold x scripts o r run bytes (Side q) p under (subst (λ (fs : List PortFault). 2 ^ 64 - 1 ≤ length fs) is many)
    | inr none ↦ (let few : 2 ^ 64 - 1 ≤ length {A = PortFault} [] = subst (λ (fs : List PortFault). 2 ^ 64 - 1 ≤ length fs) none many in absurd (omega arith))
  ]

  pub is-charged-once : IsChargedOnce x scripts o r run f
  is-charged-once =
      let told : HasCountedAll (faults_on emu_faults new) ⊎ IsSum x.geometry f (saved.end x scripts o r run bytes).answers.items (saved.end x scripts o r run bytes).finished (faults_on emu_faults run.on.stops.drives.ports) (faults_on emu_faults new) =
      charged-once emu_ghosts emu_state emu_faults x.geometry run.on.stops.drives.ports (saved.standing x scripts o r run bytes) scripts (finishes o.ending) (saved.end x scripts o r run bytes) (saved.ran x scripts o r run bytes) run.short f in
      elim told [
        | inl all ↦ inl (none-more all)
        | inr sum ↦ inr (subst (λ ts. IsSum x.geometry f ts.items run.played.finished (faults_on emu_faults run.on.stops.drives.ports) (faults_on emu_faults new)) (saved.answers-are x scripts o r run bytes) sum)
      ]
