use Rattle.std.proofs.Common.{ℕ, refl, sym, subst}
use Rattle.mq_run_laws.specs.Answers.{IsPortCause}
use Rattle.mq_run_laws.proofs.AnswersCaused.{is-caused}
use Rattle.mq_run_laws.proofs.DrivesFailures.{cause-holds}
use Rattle.mq_run_laws.proofs.laws.a_refusal_is_caused.Goals as goal

pub returns : goal.returns
returns g c = λ d ports s scripts finish e v reached queues root run short low laid images cut t told. is-caused g.P.Port g.P.Port.state g.P.Port.faults d ports s scripts finish e run short v low laid reached t told
    (λ r cause bad is. subst (λ (n : ℕ). IsPortCause d e.entries.items n cause) (sym cut.reaches)
    (cause-holds g.P.Port g.P.Port.state g.P.Port.faults (λ p. refl) d ports s scripts finish e run short queues root cut.ds cut.top images cut.read t r cause told bad is))
