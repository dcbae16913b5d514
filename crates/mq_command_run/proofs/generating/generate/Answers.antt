use Rattle.std.proofs.Common.{◌≡◌, ◌∙◌, ◌≤◌, ℕ, List, length, ap, arith, subst, sym}
use Rattle.mq_command_run.specs.Generated.{AreForMemory, AreGood, IsPlayed}
use Rattle.mq_run_laws.specs.Legal.{newest as newest_of}
use Rattle.mq_report.specs.Lines.{Line}
use Rattle.mq_report.specs.declared.line.Told.{Told}
use Rattle.mq_script.specs.Scripts.{Script}
use Rattle.mq_script.specs.Workloads.{workload_of}
use Rattle.mq_command_run.proofs.GeneratedWhole.{generated}
use Rattle.mq_command_run.proofs.GeneratedWorkload.{workload-count}
use Rattle.mq_command_run.proofs.generating.generate.Goals as goal

-- a script for each queue
enough : (count many threads queues : ℕ) → count ≡ many → many ≡ threads → queues ≡ threads → 1 ≤ threads → (1 ≤ count) × (count ≤ queues)
enough count many threads queues same for_each as_many some = (omega (arith, same, for_each, some), omega (arith, same, for_each, as_many))

pub play-requires-clause-scripts : goal.play-requires-clause-scripts
play-requires-clause-scripts g c κs within =
    enough (length c.deref.result.now) (length (workload_of c.args.seed c.args.threads c.args.groups)) c.args.threads c.shape-geometry.result.queues
    (ap length (c.deref.ensures.value ∙ c.in_ok-scripts.ensures)) (workload-count c.args.seed c.args.threads c.args.groups) c.shape-geometry.ensures.queues c.requires.0

pub settle_all-requires : goal.settle_all-requires
settle_all-requires g c =
    let played : IsPlayed c.shape-geometry.result (workload_of c.args.seed c.args.threads c.args.groups) c.in_ok-ran.ran = subst (λ (ss : List Script). IsPlayed c.shape-geometry.result ss c.in_ok-ran.ran) (c.deref.ensures.value ∙ c.in_ok-scripts.ensures) c.in_ok-ran.ensures in
    subst (λ (ts : List Told). AreForMemory ts) (sym c.deref-2.ensures.value)
    (c.a_workload_is_refused_only_for_memory.ensures c.args.seed c.args.threads c.args.groups c.shape-geometry.result c.in_ok-ran.ran c.requires.1 c.shape-geometry.ensures played)

pub returns : goal.returns
returns g c =
    generated c.args.seed c.args.threads c.args.groups c.args.keeps c.shape-geometry.result c.deref.result.now c.in_ok-ran.ran _ c.a_run_on_an_image_keeps_its_promise.ensures c.shape-geometry.ensures
    (c.deref.ensures.value ∙ c.in_ok-scripts.ensures) (record { played = c.in_ok-ran.ensures; good = subst (λ (ts : List Told). AreGood ts) c.deref-2.ensures.value c.in_ok-settle_all.ensures.good }) c.in_ok-file.ensures
    (c.newest-commits.ensures ∙ ap (λ (ls : List Line). newest_of 0 ls) c.deref-3.ensures.value) c.in_ok-counts.ensures
