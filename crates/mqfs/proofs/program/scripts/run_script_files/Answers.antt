use Rattle.std.proofs.Common.{◌≤◌, ◌<◌, ◌^◌, List, ℕ, Bor, Option, None, Some, arith, map, subst, sym}
use Rattle.std.specs.Prelude.{IfSome}
use Rattle.std.specs.Option.{ForSome}
use Rattle.std.proofs.lemmas.Option.{none-some, same_Some}
use Rattle.mq_run_laws.specs.Endings.{limit_of}
use Rattle.mq_run_laws.specs.declared.options.RunOptions.{RunOptions}
use Rattle.mqfs.specs.Says.{run_ending}
use Rattle.mqfs.proofs.Decided.{run_decided, run_runs}
use Rattle.mqfs.proofs.program.scripts.run_script_files.Goals as goal

-- a cut that is asked for is small
small-cut : (cut : Option ℕ) → IfSome cut (λ n. n < 2 ^ 63) → ForSome (limit_of (run_ending cut)) (λ k. k ≤ 2 ^ 63)
small-cut None small = λ k e. absurd (none-some k e)
small-cut (Some n) small = λ k e. (let same = same_Some n k e in omega (arith, small, same))

pub run-requires-clause-cut : goal.run-requires-clause-cut
run-requires-clause-cut g c κs within = subst (λ (o : RunOptions). ForSome (limit_of o.ending) (λ k. k ≤ 2 ^ 63)) (sym c.options_of.ensures) (small-cut c.args.options.cut c.requires.small.0)

pub returns-clause-decided : goal.returns-clause-decided
returns-clause-decided g c =
    run_decided c.args.image.now (map (λ (s : Bor (List ℕ)). s.now) c.args.scripts.now) c.args.options c.options_of.result c.options_of.ensures (g.F.Files.state c.args.files.now).contents c.run.result c.run.ensures.done_where
    c.run.ensures.refused_where c.run.ensures.bad_script_where c.run.ensures.too_many_where c.run.ensures.no_volume_where c.run.ensures.limit_where

pub returns-clause-runs : goal.returns-clause-runs
returns-clause-runs g c = run_runs c.args.image.now (map (λ (s : Bor (List ℕ)). s.now) c.args.scripts.now) c.args.options c.options_of.result c.options_of.ensures (g.F.Files.state c.args.files.now).contents c.run.result c.run.ensures.done_where
