-- The sides of the queues are drained one after another.
use Rattle.std.proofs.Common.{◌≡◌, ℕ, nat_le, List, [], ◌∷◌, sym, refl, ap, subst, ◌∙◌, inl, inr, arith, if◌then◌else◌}
use Rattle.std.specs.Prelude.{Some, Result, Ok, Err}
use Rattle.std.proofs.lemmas.Bool.{cases_Bool}
use Rattle.mq_blocks.specs.Drive.{PortState}
use Rattle.mq_drive.specs.Steps.{PortFault}
use Rattle.mq_drive.specs.declared.port.Port.{Ghosts}
use Rattle.mq_journal.specs.Draining.{answer_upto}
use Rattle.mq_journal.specs.Numbers.{Seat}
use Rattle.mq_journal.specs.Sweeping.{HasSwept, WasRefused}
use Rattle.mq_desk_laws.specs.Groups.{GroupView}
use Rattle.mq_queue_side.specs.Drained.{DrainCause, Drains, Failures, kept_after}
use Rattle.mq_queue_side.specs.Side.{side_state}
use Rattle.mq_queue_side.specs.declared.answers.Cause.{Cause}
use Rattle.mq_queue_side.specs.declared.answers.Cause.TheVariants as cause
use Rattle.mq_queue_side.specs.declared.side.QueueSide.{QueueSide}
use Rattle.mq_turns.specs.Lists.{Each}
use Rattle.mq_turns.specs.Meaning.{HasNumberAt}
use Rattle.mq_turns.specs.declared.turn.Turn.TheVariants.{Side}
use Rattle.mq_journal.specs.Steps.{IsCauseOf, IsRefusedBy, MovesOn, at_side}

-- ---- what is answered

upto : (at tx : ℕ) (a c : Cause) (r : Result (Unit {0}) Cause) → Err c ≡ r → r ≡ (if nat_le tx at then Err a else Ok tt) → a ≡ c
upto at tx a c r is e = elim (cases_Bool (nat_le tx at)) [
  | inl under ↦ (let k : r ≡ Err a = rw under at e in cc)
  | inr above ↦ absurd (let k : r ≡ Ok tt = rw above at e in cc)
]

-- a refusal that is answered is what the drain came to
came_to : (at : ℕ) (c : Cause) (r : Result ℕ Cause) → Err c ≡ answer_upto at r → r ≡ Err c
came_to at c (Ok n) e = absurd cc
came_to at c (Err cause.Off) e = cc
came_to at c (Err (cause.Failed tx status)) e = ap Err (upto at tx (cause.Failed tx status) c _ e refl)
came_to at c (Err (cause.FailedHome block status)) e = cc
came_to at c (Err (cause.Stopped tx why)) e = ap Err (upto at tx (cause.Stopped tx why) c _ e refl)

module _ {P E : Type 0} {G : Ghosts P} (state : P → PortState) (faults : P → List PortFault) (group : GroupView E) where
  cause_is : (c : Cause) (s u : QueueSide P E G) → Drains (side_state state faults s) (Err c) (side_state state faults u) → DrainCause (Err c) (faults s.pmr.port) (faults u.pmr.port) → IsCauseOf c s.kept (faults s.pmr.port) (faults u.pmr.port)
  cause_is cause.Off s u drains rises = rises
  cause_is (cause.Failed tx status) s u drains rises = rises
  cause_is (cause.FailedHome block status) s u drains none = absurd none
  cause_is (cause.Stopped tx why) s u drains same = go drains.failures drains.takes.kept drains.ends.0
    where
      go : (fs : Failures) → u.kept ≡ kept_after s.kept fs → fs ≡ [] → s.kept ≡ Some (tx, why)
      go [] kept none = sym kept ∙ drains.ends.1
      go (f ∷ fs) kept none = absurd cc

  -- ---- what is left

  pub swept_held : (v w : Seat P E G) → HasSwept state faults group v w → w.held ≡ v.held
  swept_held v w h = ap (λ (z : Seat P E G). z.held) h.is

  pub swept_moves : (v w : Seat P E G) → HasSwept state faults group v w → MovesOn [] [] v w
  swept_moves v w h =
      let r = h.reading in
      record {
        parts = ap (λ (z : Seat P E G). z.parts) h.is;
        opening = ap (λ (z : Seat P E G). z.opening) h.is;
        session = ap (λ (z : Seat P E G). z.session) h.is;
        drawn = ap (λ (z : Seat P E G). z.drawn) h.is;
        read = ap (λ (z : Seat P E G). z.read) h.is;
        seen = let same = ap (λ (z : Seat P E G). z.seen) h.is in omega arith;
        done = r.done;
        base = r.base;
        noted = [];
        pages = r.pages;
        answers = r.answers;
        charged = r.charged;
      }

  pub refused_held : (queues at : ℕ) (c : Cause) (v w : Seat P E G) → WasRefused state faults group queues at c v w → w.held ≡ v.held
  refused_held queues at c v w r = ap (λ (z : Seat P E G). z.held) r.is

  pub refused_by : (queues at : ℕ) (c : Cause) (v w : Seat P E G) → WasRefused state faults group queues at c v w → IsRefusedBy state faults group [] c v w
  refused_by queues at c v w r =
      let first = r.first in
      let was = r.drained in
      let came : was.result ≡ Err c = came_to at c was.result was.is in
      let drains : Drains (side_state state faults was.side) (Err c) (side_state state faults was.after) = subst (λ x. Drains (side_state state faults was.side) x (side_state state faults was.after)) came was.drains in
      let gained : DrainCause (Err c) (faults was.side.pmr.port) (faults was.after.pmr.port) = subst (λ x. DrainCause x (faults was.side.pmr.port) (faults was.after.pmr.port)) came was.cause in
      record {
        port = Side r.queue;
        moves = record {
          parts = ap (λ (z : Seat P E G). z.parts) r.is;
          opening = ap (λ (z : Seat P E G). z.opening) r.is;
          session = ap (λ (z : Seat P E G). z.session) r.is;
          drawn = ap (λ (z : Seat P E G). z.drawn) r.is;
          read = ap (λ (z : Seat P E G). z.read) r.is;
          seen = let same = ap (λ (z : Seat P E G). z.seen) r.is in omega arith;
          done = r.done;
          base = r.base;
          noted = [];
          pages = r.pages;
          answers = r.answers;
          charged = r.charged;
        };
        caused = at_side was.taken was.side was.after
            (record {
              opening = sym (ap (λ (z : Seat P E G). z.opening) first.is) ∙ was.sees.opening;
              ok = was.sees.ok;
              seen = let a = ap (λ (z : Seat P E G). z.seen) first.is in let b = was.sees.seen in omega arith;
              drew = subst (Each (λ d. HasNumberAt was.taken.opening.base was.taken.log d.0 d.1)) (ap (λ (z : Seat P E G). z.drawn) first.is) was.sees.drew;
            })
            was.stood (cause_is c was.side was.after drains gained);
      }
