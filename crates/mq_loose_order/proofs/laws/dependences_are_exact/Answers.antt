use Rattle.std.proofs.Common.{◌≡◌, ◌<◌, true, subst, sym}
use Rattle.mq_blocks.specs.Journal.{is_among}
use Rattle.mq_loose_order.specs.Dependence.{depends_on, touched}
use Rattle.mq_loose_order.proofs.Dependences.{deps_rise, last_from_each, last_in_each}
use Rattle.mq_loose_order.proofs.laws.dependences_are_exact.Goals as goal

pub returns-clause-exact : goal.returns-clause-exact
returns-clause-exact c base t ts n = (
  λ a. (let r = last_from_each base (touched t) ts n a in (r.x, r.among, r.is, r.above)),
  λ l. subst (λ m. is_among m (depends_on base t ts) ≡ true) l.2 (last_in_each base (touched t) ts l.0 l.1 (subst (λ m. base < m) (sym l.2) l.3)),
)

pub returns-clause-rising : goal.returns-clause-rising
returns-clause-rising c = deps_rise
