use Rattle.std.proofs.Common.{◌≡◌, map}
use Rattle.std.specs.List.{All}
use Rattle.std.specs.Prelude.{◌++◌}
use Rattle.std.specs.Vec.Iter.{into_iter_items}
use Rattle.mq_notices.specs.Ends.{announced, served_by_helper, served_by_session}
use Rattle.mq_notices.specs.Notices.{Merged}
use Rattle.mq_run.proofs.ending.take_apart.Given as goal

abbrev pub invariant-loop-pair : goal.invariant-loop-pair
invariant-loop-pair g l = record {
  all : l.fn.pairs.items ≡ l.yielded ++ into_iter_items l.pair-iterator;
  sessions : l.played.sessions.items ≡ map (λ p. p.session.runner.user) l.yielded;
  helpers : l.played.helpers.items ≡ map (λ p. p.helper.assistant.helper) l.yielded;
  told : l.played.records.told.items ≡ map (λ p. p.session.runner.told) l.yielded;
  reads : l.played.records.reads.items ≡ map (λ p. p.session.runner.reads) l.yielded;
  served : map (λ v. v.items) l.played.records.served.items ≡ map (λ p. announced p.session.announcing) l.yielded;
  once : All (λ p. Merged (served_by_session p.session.announcing) (served_by_helper p.helper.listening) (announced p.session.announcing)) l.yielded;
}
