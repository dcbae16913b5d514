-- What the serving of notices leaves of what one knows.
use Rattle.std.proofs.Common.{◌≡◌, ◌∙◌, ℕ, ◌≤◌, List, [], ◌∷◌, ◌++◌, refl, sym, ap, subst, arith, append_assoc}
use Rattle.std.specs.Prelude.{Result, Ok, Err, IfErr}
use Rattle.mq_blocks.specs.Drive.{PortState}
use Rattle.mq_calls.specs.Helpers.{HasSettled}
use Rattle.mq_drive.specs.Steps.{PortFault}
use Rattle.mq_drive.specs.declared.port.Port.{Ghosts}
use Rattle.mq_calls.specs.Group.{file_group}
use Rattle.mq_calls.specs.declared.entry.FileEntry.{FileEntry}
use Rattle.mq_journal.specs.Draining.{RefusesDrain, report_of}
use Rattle.mq_journal.specs.Numbers.{Seat, reported}
use Rattle.mq_journal.proofs.Settled.{swept-by}
use Rattle.mq_queue_side.specs.declared.answers.Cause.{Cause}
use Rattle.mq_turns.specs.declared.rule.Charge.{Charge}
use Rattle.mq_run.specs.Helping.{AreServed, IsServed}
use Rattle.mq_notices.specs.Serving.{Serves, begins, goes}

module _ {P : Type 0} {G : Ghosts P} where
  -- It has drawn and read the same, and knows of no lesser done numbers.
  pub record Keeps (old new : Seat P FileEntry G) : Type 0 where
    pub drawn : new.drawn ≡ old.drawn
    pub read : new.read ≡ old.read
    pub done : old.reading.done ≤ new.reading.done
    pub charges : List Charge
    pub charged : new.reading.charged ≡ charges ++ old.reading.charged

  pub keeps-self : (v : Seat P FileEntry G) → Keeps v v
  keeps-self v = record { drawn = refl; read = refl; done = omega arith; charges = []; charged = refl }

  keeps-on : (u v w : Seat P FileEntry G) → Keeps u v → Keeps v w → Keeps u w
  keeps-on u v w a b = record {
    drawn = b.drawn ∙ a.drawn;
    read = b.read ∙ a.read;
    done = let l = a.done in let m = b.done in omega arith;
    charges = b.charges ++ a.charges;
    charged = b.charged ∙ (ap (λ cs. b.charges ++ cs) a.charged ∙ sym (append_assoc b.charges a.charges u.reading.charged));
  }

module _ {P : Type 0} {G : Ghosts P} (state : P → PortState) (faults : P → List PortFault) (queue : ℕ) where
  by-answer : (answer : Result ℕ Cause) (old new : Seat P FileEntry G) → HasSettled state faults queue old new answer → IfErr answer (λ c. RefusesDrain queue c old new) → Keeps old new
  by-answer (Ok n) old new h refused =
      let swept = swept-by state faults file_group queue n h.was.after old new h.was.settles in
      record {
        drawn = ap (λ (v : Seat P FileEntry G). v.drawn) swept.is;
        read = ap (λ (v : Seat P FileEntry G). v.read) swept.is;
        done = swept.reading.done;
        charges = [];
        charged = swept.reading.charged;
      }
  by-answer (Err c) old new h refused = record {
    drawn = ap (λ (v : Seat P FileEntry G). v.drawn) refused;
    read = ap (λ (v : Seat P FileEntry G). v.read) refused;
    done = let same = ap (λ (v : Seat P FileEntry G). v.reading.done) refused in omega arith;
    charges = reported queue (report_of c) ∷ [];
    charged = ap (λ (v : Seat P FileEntry G). v.reading.charged) refused;
  }

  pub keeps-served : (from : Seat P FileEntry G) (ns : List ℕ) (to : Seat P FileEntry G) → AreServed state faults queue from ns to → Keeps from to
  keeps-served from _ _ begins = keeps-self from
  keeps-served from _ to (goes {ns = ns} {old = old} before one) = keeps-on from old to (keeps-served from ns old before) (by-answer one.answer old to one.settled one.refused)

  -- what one has seen never falls
  pub seen-served : (from : Seat P FileEntry G) (ns : List ℕ) (to : Seat P FileEntry G) → AreServed state faults queue from ns to → from.seen ≤ to.seen
  seen-served from _ _ begins = omega arith
  seen-served from _ to (goes {ns = ns} {old = old} before one) = let a = seen-served from ns old before in let b = one.goes.seen in omega arith

-- ---- servers

module _ {S : Type 0} (step : ℕ → S → S → Type 0) where
  -- what no notice changes of a server, all notices leave as it was
  pub same-served : {X : Type 0} (f : S → X) → ((n : ℕ) (r s : S) → step n r s → f s ≡ f r) → (from : S) (ns : List ℕ) (to : S) → Serves step from ns to → f to ≡ f from
  same-served f stays from _ _ begins = refl
  same-served f stays from _ to (goes {ns = ns} {n = n} {old = old} before one) = stays n old to one ∙ same-served f stays from ns old before

module _ {P : Type 0} {G : Ghosts P} (state : P → PortState) (faults : P → List PortFault) {S : Type 0} (step : ℕ → S → S → Type 0) (look : S → Seat P FileEntry G) (own : S → ℕ)
    (drains : (n : ℕ) (r s : S) → step n r s → (own s ≡ own r) × IsServed state faults (own r) (look r) (look s)) where
  -- what the chair of a server has gone through
  pub chair-served : (from : S) (ns : List ℕ) (to : S) → Serves step from ns to → AreServed state faults (own from) (look from) ns (look to)
  chair-served from _ _ begins = begins
  chair-served from _ to (goes {ns = ns} {n = n} {old = old} before one) =
      let own_is : own old ≡ own from = same-served step own (λ m r s d. (drains m r s d).0) from ns old before in
      goes (chair-served from ns old before) (subst (λ (q : ℕ). IsServed state faults q (look old) (look to)) own_is (drains n old to one).1)
