-- Each refusal for a port's cause was reported of a port, and what this port has gained is behind the
-- report.
use Rattle.std.proofs.Common.{◌≡◌, ◌∙◌, ℕ, Bool, List, [], ◌∷◌, length, map, inl, inr, refl, sym, ap, subst, arith}
use Rattle.std.specs.Prelude.{Option, Some, Result, Ok, Err, slice_get}
use Rattle.std.specs.List.{All, Contains}
use Rattle.std.proofs.lemmas.List.{length-append}
use Rattle.mq_blocks.specs.Drive.{PortState}
use Rattle.mq_blocks.specs.declared.geometry.Geometry.{Geometry}
use Rattle.mq_calls.specs.Acts.{Call, IsRefusedFor, RefusalCause, turned_down, no_room, IsTurnedDown, memory, too_large, before, cause_as, cut}
use Rattle.mq_calls.specs.Asking.{IsNotAnswered, memory as no_memory, changes}
use Rattle.mq_calls.specs.Synchronizing.{IsNotDurableFor, before as refused_before, after as refused_after}
use Rattle.mq_queue_side.specs.declared.answers.CallCause.{CallCause}
use Rattle.mq_queue_side.specs.declared.answers.CallCause.TheVariants.{Drive, OutOfMemory, TooLarge}
use Rattle.mq_queue_side.specs.declared.answers.Refusal.{Refusal}
use Rattle.mq_journal.specs.Raised.{HasRefused}
use Rattle.mq_journal.specs.declared.refusal.CheckpointRefusal.TheVariants as checkpoint
use Rattle.mq_drive.specs.Steps.{PortFault}
use Rattle.mq_drive.specs.declared.port.Port.{Ghosts}
use Rattle.mq_drive.specs.declared.port.Ports.{Ports}
use Rattle.mq_calls.specs.Group.{file_group}
use Rattle.mq_calls.specs.declared.entry.FileEntry.{FileEntry}
use Rattle.mq_journal.specs.Draining.{report_of}
use Rattle.mq_journal.specs.Numbers.{Seat, Start}
use Rattle.mq_recover.specs.Drives.{DriveFaults, faults_of, faults_on}
use Rattle.mq_recover.specs.declared.standing.Standing.{Standing}
use Rattle.mq_report.specs.declared.line.Line.{Line}
use Rattle.mq_report.specs.declared.line.Told.{Told}
use Rattle.mq_run.specs.Laws.{IsBehindStop}
use Rattle.mq_run.specs.Playing.{Comes, IsNotDone, IsShort, Plays, begins, call_at, goes, serves}
use Rattle.mq_run.proofs.ServedNotices.{keeps-served}
use Rattle.mq_run.specs.Runs.{HasRunScripts}
use Rattle.mq_run.specs.declared.end.RunEnd.{RunEnd}
use Rattle.mq_script.specs.Scripts.{Group, Script}
use Rattle.mq_script.specs.declared.group.End.{End}
use Rattle.mq_script.specs.declared.group.End.TheVariants.{Ask, Fatomic, Fsync}
use Rattle.mq_queue_side.specs.declared.answers.Cause.{Cause}
use Rattle.mq_queue_side.specs.declared.answers.Cause.TheVariants.{Off}
use Rattle.mq_tie.proofs.Backed as closed
use Rattle.mq_tie.proofs.Runs.{same-ports}
use Rattle.mq_tie.specs.Backed.{IsBehindAt, opened_faults}
use Rattle.mq_tie.specs.Runs.{ports_of}
use Rattle.mq_tie.specs.declared.ended.Ended.{Ended}
use Rattle.mq_turns.specs.Desk.{charged_of, fresh}
use Rattle.mq_turns.specs.declared.rule.Charge.{Charge}
use Rattle.mq_turns.specs.declared.turn.Turn.{Turn}
use Rattle.mq_turns.specs.declared.turn.Turn.TheVariants.{Side}
use Rattle.mq_run_laws.proofs.AnswersGiven.{told-in}
use Rattle.mq_run_laws.proofs.PlayingCame.{Came, came, drew, passed, saw}
use Rattle.mq_run_laws.proofs.Pairs.{get-in, here, in-right, push-cases}
use Rattle.mq_run_laws.proofs.NumbersViews.{in-charged}

-- the report of a port's refusal
abbrev pub charge_for : Turn → Cause → Charge
charge_for port cause = record { port = port; report = report_of cause }

-- it was made of some port
abbrev pub IsCharged : Cause → List Charge → Type 0
IsCharged cause charges = (port : Turn) × Contains charges (charge_for port cause)

first-of : (x : Charge) (old new : List Charge) → new ≡ x ∷ old → Contains new x
first-of x old new is = subst (λ (cs : List Charge). Contains cs x) (sym is) (here x old)

same-cause : (w cause : Cause) → Drive w ≡ Drive cause → w ≡ cause
same-cause w cause is = cc

module _ {P : Type 0} {G : Ghosts P} (state : P → PortState) (faults : P → List PortFault) (g : Geometry) where
  -- ---- a group that was refused

  turned : (c : Call) (old new : Seat P FileEntry G) (why : RefusalCause) (drawn : Option ℕ) (cause : Cause) → cause_as why ≡ Drive cause → IsTurnedDown state faults g c old new why drawn → IsCharged cause new.reading.charged
  turned c old new _ _ cause is (memory keeps) = let named : OutOfMemory ≡ Drive cause = is in absurd (cc)
  turned c old new _ _ cause is (too_large {count = k} {limit = m} large) = let named : TooLarge k m ≡ Drive cause = is in absurd (cc)
  turned c old new _ _ cause is (before {why = w} refuses) = subst (λ (x : Cause). IsCharged x new.reading.charged) (same-cause w cause is) (Side c.session, first-of (charge_for (Side c.session) w) old.reading.charged new.reading.charged refuses.charged)
  turned c old new _ _ cause is (cut h) = subst (λ (x : Cause). IsCharged x new.reading.charged) (same-cause Off cause is) (Side c.session, first-of (charge_for (Side c.session) Off) old.reading.charged new.reading.charged h.commits.charged)

  checkpoint-charged : (w : Cause) (old new : Seat P FileEntry G) → HasRefused state faults file_group (checkpoint.Drive w) old new → IsCharged w new.reading.charged
  checkpoint-charged w old new (inl m) = (m.port, first-of (charge_for m.port w) old.reading.charged new.reading.charged m.moves.charged)
  checkpoint-charged w old new (inr (front, m)) = (m.port, first-of (charge_for m.port w) old.reading.charged new.reading.charged m.moves.charged)

  refused : (c : Call) (old new : Seat P FileEntry G) (why : RefusalCause) (drawn : Option ℕ) (cause : Cause) → cause_as why ≡ Drive cause → IsRefusedFor state faults g c old new why drawn → IsCharged cause new.reading.charged
  refused c old new why drawn cause is (turned_down {from = from} run_at down) = turned c from new why drawn cause is down
  refused c old new _ _ cause is (no_room checkpoint.OutOfMemory full has) = let named : OutOfMemory ≡ Drive cause = is in absurd (cc)
  refused c old new _ _ cause is (no_room (checkpoint.Drive w) {between = mid} full has) = subst (λ (x : Cause). IsCharged x new.reading.charged) (same-cause w cause is) (checkpoint-charged w mid new has)

  not-durable : (c : Call) (old new : Seat P FileEntry G) (why : RefusalCause) (drawn : Option ℕ) (cause : Cause) → cause_as why ≡ Drive cause → IsNotDurableFor state faults g c old new why drawn → IsCharged cause new.reading.charged
  not-durable c old new why drawn cause is (refused_before r) = refused c old new why drawn cause is r
  not-durable c old new _ drawn cause is (refused_after {cause = w} h) =
      subst (λ (x : Cause). IsCharged x new.reading.charged) (same-cause w cause is) (Side h.refused.queue, first-of (charge_for (Side h.refused.queue) w) h.between.reading.charged new.reading.charged h.refused.charged)

  not-answered : (c : Call) (old new : Seat P FileEntry G) (why : CallCause) (drawn : Option ℕ) (cause : Cause) → why ≡ Drive cause → IsNotAnswered c.requests old new why drawn → IsCharged cause new.reading.charged
  not-answered c old new _ _ cause is (no_memory keeps) = absurd (cc)
  not-answered c old new _ _ cause is (changes first same) = absurd (cc)

  not-done : (end : End) (c : Call) (r : Refusal) (old new : Seat P FileEntry G) (cause : Cause) → r.cause ≡ Drive cause → IsNotDone state faults g end c r old new → IsCharged cause new.reading.charged
  not-done Fsync c r old new cause is h = not-durable c old new h.why r.drawn cause (sym h.cause_is ∙ is) h.is
  not-done Fatomic c r old new cause is h = refused c old new h.why r.drawn cause (sym h.cause_is ∙ is) h.is
  not-done Ask c r old new cause is h = not-answered c old new r.cause r.drawn cause is h

  comes-charged : (session k : ℕ) (group : Group) (answer : Result ℕ Refusal) (lines : List Line) (r : Refusal) (old new : Seat P FileEntry G) (cause : Cause) → answer ≡ Err r → r.cause ≡ Drive cause → Comes state faults g session k group answer lines old new → IsCharged cause new.reading.charged
  comes-charged session k group (Ok n) lines r old new cause bad is h = absurd (cc)
  comes-charged session k group (Err q) [] r old new cause bad is h =
      let same : q ≡ r = cc in
      not-done group.end (call_at session k group) q old new cause (ap (λ (x : Refusal). x.cause) same ∙ is) h
  comes-charged session k group (Err q) (l ∷ ls) r old new cause bad is h = absurd h

  charges-on : (session k : ℕ) (group : Group) (answer : Result ℕ Refusal) (lines : List Line) (old new : Seat P FileEntry G) → Came g session k group answer lines old new → (x : Charge) → Contains old.reading.charged x → Contains new.reading.charged x
  charges-on session k group answer _ old new (drew n d end number sent) x c = subst (λ (cs : List Charge). Contains cs x) (sym d.charged) (in-right d.charges old.reading.charged x c)
  charges-on session k group _ _ old new (saw replies line s) x c = subst (λ (cs : List Charge). Contains cs x) (sym s.charged) (in-right s.charges old.reading.charged x c)
  charges-on session k group answer _ old new (passed none p) x c = subst (λ (cs : List Charge). Contains cs x) (sym p.charged) (in-right p.charges old.reading.charged x c)

  -- ---- along a script

  -- each refusal among the answers was reported
  pub charged-along : (session : ℕ) (groups : List Group) (from : Seat P FileEntry G) (k : ℕ) (told : List Told) (lines : List Line) (sent served : List ℕ) (v : Seat P FileEntry G) → length told ≡ k → Plays state faults g session groups from k told lines sent served v
      → (j : ℕ) (t : Told) → slice_get told j ≡ Some t → (r : Refusal) (cause : Cause) → t.answer ≡ Err r → r.cause ≡ Drive cause → IsCharged cause v.reading.charged
  charged-along session groups from _ _ _ _ _ _ many begins j t at r cause bad is = absurd (cc)
  charged-along session groups from _ _ _ _ _ _ many (goes {k = k} {told = told} {lines = lines} {more = more} {sent = sent} {served = served} {old = old} {new = new} {group = group} {t = u} plays here_is told_is) j t at r cause bad is =
      let long = length-append told (u ∷ []) in
      elim (push-cases told j u t at) [
        | inl o ↦ (
            let c = charged-along session groups from k told lines sent served old (omega arith) plays j t o r cause bad is in
            (c.0, charges-on session k group u.answer more old new (came state faults g session k group u.answer more old new told_is.comes) (charge_for c.0 cause) c.1))
        | inr n ↦ comes-charged session k group u.answer more r old new cause (ap (λ (x : Told). x.answer) n.1 ∙ bad) is told_is.comes
      ]
  charged-along session groups from k told lines sent _ v many (serves {served = served} {more = ns} {old = old} plays are) j t at r cause bad is =
      let keeps = keeps-served state faults session old ns v are in
      let c = charged-along session groups from k told lines sent served old many plays j t at r cause bad is in
      (c.0, subst (λ (cs : List Charge). Contains cs (charge_for c.0 cause)) (sym keeps.charged) (in-right keeps.charges old.reading.charged (charge_for c.0 cause) c.1))

module _ {P : Type 0} (G : Ghosts P) (state : P → PortState) (faults : P → List PortFault) (g : Geometry) (ports : Ports P) (s : Standing) (scripts : List Script) (finish : Bool) (e : RunEnd P)
    (run : HasRunScripts G state faults g ports s scripts finish e) (short : All (λ script. IsShort script.groups) scripts) where
  abbrev o : Start P FileEntry G
  o = run.opening

  abbrev end : Ended P FileEntry G
  end = run.ends.end

  -- ---- the whole run

  -- the reports of all sessions have one of the refusal
  pub is-charged : (t : Told) (r : Refusal) (cause : Cause) → Contains e.answers.items t → t.answer ≡ Err r → r.cause ≡ Drive cause → IsCharged cause (charged_of run.ends.left)
  is-charged t r cause c bad is =
      let b = told-in G state faults g ports s scripts finish e run short t c in
      let x = b.session in
      let h = charged-along state faults g t.session x.script.groups (fresh run.opening t.session) (length b.track.told) b.track.told b.track.reads _ _ b.track.view refl x.played.plays t.group t b.at r cause bad is in
      let kept : Contains x.last.reading.charged (charge_for h.0 cause) = subst (λ (cs : List Charge). Contains cs (charge_for h.0 cause)) (sym x.keeps.charged) (in-right x.keeps.charges b.track.view.reading.charged (charge_for h.0 cause) h.1) in
      (h.0, in-charged run.ends.left x.last (charge_for h.0 cause) (get-in run.ends.left t.session x.last x.last_at) kept)

  -- the faults of the ports that the desk was opened with, and of those that it gave back
  pub taken : opened_faults G state faults file_group o ≡ faults_on faults ports
  taken =
      let queues : map (λ q. faults q.pmr.port) o.sides ≡ map faults ports.queues.items = same-ports faults o.sides ∙ ap (map faults) run.opened.queues in
      λ i. record { queues = queues i; root = faults (run.opened.root i) }

  pub given : faults_of faults (ports_of end) end.root.port ≡ faults_on faults e.ports
  given = λ i. faults_of faults (sym run.ends.leaves.queues i) (sym run.ends.leaves.root i)

  pub charge-backed : (port : Turn) (cause : Cause) → Contains (charged_of run.ends.left) (charge_for port cause) → IsBehindAt g port (report_of cause) (faults_on faults ports) (faults_on faults e.ports)
  charge-backed port cause c =
      subst (λ (z : Geometry × DriveFaults × DriveFaults). IsBehindAt z.0 port (report_of cause) z.1 z.2) (λ i. (run.opened.shape i, taken i, given i))
      (closed.reports-backed state faults file_group o run.ends.left end (charge_for port cause) run.ends.run c)

  pub is-backed : (t : Told) (r : Refusal) (cause : Cause) → Contains e.answers.items t → t.answer ≡ Err r → r.cause ≡ Drive cause → IsBehindStop g cause (faults_on faults ports) (faults_on faults e.ports)
  is-backed t r cause c bad is = let h = is-charged t r cause c bad is in record { port = h.0; behind = charge-backed h.0 cause h.1 }
