-- What there is to say of what words ask, and with which status: one definition for each command.
use Rattle.std.specs.Prelude.{◌≡◌, ℕ, List, Option, Some, None, option_map}
use Rattle.std.specs.Option.{unwrap_or}
use Rattle.mq_command_images.specs.Audits.{Audits}
use Rattle.mq_command_images.specs.Checks.{Checks}
use Rattle.mq_command_images.specs.Commands.{Dumps, Formats, Lists, SaysOfImage, ShowsFile}
use Rattle.mq_command_run.specs.Generates.{Generates}
use Rattle.mq_command_images.specs.Recovers.{Recovers}
use Rattle.mq_command_loose.specs.SaysOfLoose.{SaysOfLoose}
use Rattle.mq_command_replicate.specs.Replicates.{Replicates}
use Rattle.mq_command_run.specs.RunsScripts.{Runs}
use Rattle.mq_command_images.specs.declared.formatting.Numbers.{Numbers}
use Rattle.mq_command_run.specs.declared.workload.Workload.{Workload}
use Rattle.mq_command_io.specs.Ending.{SaysOf, SaysOnly}
use Rattle.mq_run_laws.specs.declared.options.Ending.{Ending}
use Rattle.mq_run_laws.specs.declared.options.Ending.TheVariants.{Checkpoint, Cut}
use Rattle.mq_run_laws.specs.declared.options.RunOptions.{RunOptions}
use Rattle.mq_image_ops.specs.declared.ports.Failing.{Failing}
use Rattle.mq_outside.specs.Outside.{FilesState}
use Rattle.mq_command_blocks.specs.SaysOfBlocks.{SaysOfBlocks}
use Rattle.mq_cli.specs.Asked.{Asked, audit, blocks, cat, check, dump, format, gen, help, loose, ls, recover, replicate, run, version}
use Rattle.mq_cli.specs.Help.{help_text, version_line}
use Rattle.mq_cli.specs.declared.command.FailingCommand.{FailingCommand}
use Rattle.mq_cli.specs.declared.command.RunFlags.{RunFlags}

abbrev pub numbers : (queues area meta zone : ℕ) → Numbers
numbers queues area meta zone = record { queues = queues; area = area; meta = meta; zone = zone }

abbrev pub asked_workload : (seed threads groups : ℕ) → Workload
asked_workload seed threads groups = record { seed = seed; threads = threads; groups = groups }

abbrev pub failing : FailingCommand → Failing
failing f = record { port = f.port; command = f.command }

-- a run without a cut ends with a checkpoint
abbrev pub run_ending : (cut : Option ℕ) → Ending
run_ending None = Checkpoint
run_ending (Some k) = Cut k

-- draws come from 0 where no pick is given
abbrev pub run_options : RunFlags → RunOptions
run_options o = record { ending = run_ending o.cut; pick = unwrap_or o.pick 0; fail = option_map failing o.fail }

-- what there is to say of what is asked, by what the files show before and after
abbrev pub Says : Asked → (old new : FilesState) → (status : ℕ) → (text : List ℕ) → Type 0
Says (blocks file options save trace) old new status text =
    SaysOfBlocks file options save trace old new status text
Says (format image queues area meta zone) old new status text =
    Formats (numbers queues area meta zone) image old new status text
Says (run image scripts options) old new status text =
    Runs (run_options options) image scripts old new status text
Says (recover image cut pick) old new status text =
    Recovers cut (unwrap_or pick 0) image old new status text
Says (ls image) old new status text = SaysOf (SaysOfImage Lists) image old new status text
Says (cat image path) old new status text = SaysOf (SaysOfImage (ShowsFile path)) image old new status text
Says (gen seed threads groups save) old new status text =
    Generates (asked_workload seed threads groups) save old new status text
Says (dump image) old new status text = SaysOf (SaysOfImage Dumps) image old new status text
Says (check image) old new status text = SaysOf (SaysOfImage Checks) image old new status text
Says (audit trace) old new status text = SaysOf Audits trace old new status text
Says (replicate file seed save) old new status text = Replicates file save old new status text
Says (loose file cut pick save) old new status text = SaysOfLoose file cut save old new status text
Says (help topic) old new status text = SaysOnly (help_text topic) old new status text
Says version old new status text = SaysOnly version_line old new status text
