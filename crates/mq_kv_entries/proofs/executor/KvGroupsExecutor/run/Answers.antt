use Rattle.std.proofs.Common.{ℕ, subst}
use Rattle.std.proofs.lemmas.List.Elements.{Contains-get_or}
use Rattle.std.specs.Prelude.{slice_index_or}
use Rattle.mq_kv_entries.proofs.Entries.{looked-low, meta-home}
use Rattle.mq_kv_entries.specs.Groups.{Answers}
use Rattle.mq_kv_entries.specs.declared.outcome.KvOutcome.TheVariants.{Done, Need}
use Rattle.mq_kv_entries.proofs.executor.KvGroupsExecutor.run.Goals as goal

pub returns-in-Done : goal.returns-in-Done
returns-in-Done c =
    let ran : Answers c.meta.result c.args.held.now.cells c.args.requests.now (Done c.in-Done.done) = rw c.in-Done.is at c.in_ok-done.ensures in
    subst (λ (n : ℕ). Answers n c.args.held.now.cells c.args.requests.now (Done c.in-Done.done)) c.meta.ensures ran

pub returns-in-Need : goal.returns-in-Need
returns-in-Need c =
    let ran : Answers c.meta.result c.args.held.now.cells c.args.requests.now (Need c.in-Need.blocks) = rw c.in-Need.is at c.in_ok-done.ensures in
    let here = subst (λ (n : ℕ). Answers n c.args.held.now.cells c.args.requests.now (Need c.in-Need.blocks)) c.meta.ensures ran in
    let bs = c.in-Need.blocks.items in
    record {
      some = here.0;
      absent = λ k d low. (here.1.lacking.only (slice_index_or bs k d) (Contains-get_or bs k d low)).1;
      rise = here.1.rise;
      homes = λ k d low.
          let looks = (here.1.lacking.only (slice_index_or bs k d) (Contains-get_or bs k d low)).0 in
          meta-home c.args.geometry (slice_index_or bs k d) (looked-low c.args.geometry c.args.requests.now (slice_index_or bs k d) looks);
    }
