-- Why a group is not drawn: what stands behind the refusal of a port.
use Rattle.std.proofs.Common.{◌≡◌, ℕ, List, Option, refl, sym, subst, Some}
use Rattle.std.specs.Prelude.{None, Result, Ok, Err}
use Rattle.mq_desk_laws.specs.Groups.{GroupView}
use Rattle.mq_blocks.specs.Drive.{PortState}
use Rattle.mq_drive.specs.Steps.{PortFault}
use Rattle.mq_drive.specs.declared.port.Port.{Ghosts}
use Rattle.mq_journal.specs.Draining.{report_of}
use Rattle.mq_journal.specs.Held.{IsDrainOf, drain_answer}
use Rattle.mq_journal.specs.Numbers.{HoldsSide, Seat, Shared, ShowsReport, Start}
use Rattle.mq_journal.proofs.LawsInHand.{held_is_current, kept_shows}
use Rattle.mq_desk_laws.specs.Rule.{IsSide}
use Rattle.mq_queue_side.specs.Drained.{DrainCause, Drains}
use Rattle.mq_queue_side.specs.Side.{side_state}
use Rattle.mq_queue_side.specs.declared.answers.Cause.{Cause}
use Rattle.mq_queue_side.specs.declared.answers.Cause.TheVariants.{Stopped}
use Rattle.mq_queue_side.specs.declared.answers.Why.{Why}
use Rattle.mq_queue_side.specs.declared.side.QueueSide.{QueueSide}
use Rattle.mq_turns.specs.Desk.{Sees}
use Rattle.mq_sessions.specs.Acts.{IsCaused, drained, kept}
use Rattle.mq_sessions.specs.Preparing.{cause_kept}
use Rattle.mq_journal.specs.Machine.{journal}
use Rattle.mq_journal.specs.Values.{side_values}

abbrev refusal : Cause → Result (Unit {0}) Cause
refusal c = Err c

refusal-same : (c d : Cause) → refusal c ≡ refusal d → c ≡ d
refusal-same c d e = cc

module _ {P E : Type 0} {G : Ghosts P} (state : P → PortState) (faults : P → List PortFault) (group : GroupView E) (o : Start P E G) (q : ℕ) (v : Seat P E G) (opening : v.opening ≡ Some o) where
  by-drain : (K : Shared P E G) (s u : QueueSide P E G) (c : Cause) (r : Result ℕ Cause) → IsSide (side_values state faults) group q K s → Drains (side_state state faults s) r (side_state state faults u) → DrainCause r (faults s.pmr.port) (faults u.pmr.port) → refusal c ≡ drain_answer r → IsCaused state faults group K q c
  by-drain K s u c (Ok n) side drains cause is = absurd cc
  by-drain K s u c (Err d) side drains cause is = subst (λ (x : Cause). IsCaused state faults group K q x) (sym (refusal-same c d is)) (drained s u side drains cause)

  -- a drain of a side in hand was refused
  pub drain-caused : (s u : QueueSide P E G) (c : Cause) → HoldsSide state faults group o q s v → IsDrainOf state faults s u (Err c) → (K : Shared P E G) → Sees (journal state faults group) v K → IsCaused state faults group K q c
  drain-caused s u c holds d K sees = by-drain K s u c d.result (held_is_current state faults group s o q v K opening holds sees) d.drains d.cause d.is

  -- a side in hand keeps a failure
  kept-caused : (s : QueueSide P E G) (tx : ℕ) (why : Why) → HoldsSide state faults group o q s v → s.kept ≡ Some (tx, why) → (K : Shared P E G) → Sees (journal state faults group) v K → IsCaused state faults group K q (Stopped tx why)
  kept-caused s tx why holds is K sees = kept s (held_is_current state faults group s o q v K opening holds sees) is

  kept-shown : (s : QueueSide P E G) (tx : ℕ) (why : Why) → HoldsSide state faults group o q s v → s.kept ≡ Some (tx, why) → ShowsReport state faults group q (report_of (Stopped tx why)) s v
  kept-shown s tx why holds is = kept_shows state faults group s o q tx why v opening holds is

  kept-by : (s : QueueSide P E G) (k : Option (ℕ × Why)) (c : Cause) → HoldsSide state faults group o q s v → s.kept ≡ k → cause_kept k ≡ Some c → ShowsReport state faults group q (report_of c) s v × ((K : Shared P E G) → Sees (journal state faults group) v K → IsCaused state faults group K q c)
  kept-by s None c holds is e = absurd cc
  kept-by s (Some (tx, why)) c holds is e =
      let same : Stopped tx why ≡ c = cc in (
        subst (λ (x : Cause). ShowsReport state faults group q (report_of x) s v) same (kept-shown s tx why holds is),
        λ K sees. subst (λ (x : Cause). IsCaused state faults group K q x) same (kept-caused s tx why holds is K sees),
      )

  pub kept-refused : (s : QueueSide P E G) (c : Cause) → HoldsSide state faults group o q s v → cause_kept s.kept ≡ Some c → ShowsReport state faults group q (report_of c) s v × ((K : Shared P E G) → Sees (journal state faults group) v K → IsCaused state faults group K q c)
  kept-refused s c holds e = kept-by s s.kept c holds refl e
