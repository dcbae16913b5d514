-- Each refusal for a drive's cause leaves one report more of its fault with its session.
use Rattle.std.proofs.Common.{◌≡◌, ℕ, ◌+◌, ◌≤◌, Bool, true, false, List, [], ◌∷◌, ◌++◌, inl, inr, sym, ap, subst, arith}
use Rattle.std.specs.Prelude.{Option, None, Result, Ok, Err}
use Rattle.mq_blocks.specs.Drive.{PortState}
use Rattle.mq_blocks.specs.declared.geometry.Geometry.{Geometry}
use Rattle.mq_calls.specs.Acts.{Call, HasActed, IsRefusedFor, RefusalCause, turned_down, no_room, IsTurnedDown, memory, too_large, before, cause_as, cut}
use Rattle.mq_calls.specs.Asking.{IsNotAnswered, memory as no_memory, changes}
use Rattle.mq_calls.specs.Synchronizing.{IsNotDurableFor, before as refused_before, after as refused_after}
use Rattle.mq_queue_side.specs.declared.answers.CallCause.{CallCause}
use Rattle.mq_queue_side.specs.declared.answers.Refusal.{Refusal}
use Rattle.mq_journal.specs.Raised.{HasRefused}
use Rattle.mq_journal.specs.declared.refusal.CheckpointRefusal.{CheckpointRefusal}
use Rattle.mq_journal.specs.declared.refusal.CheckpointRefusal.TheVariants as checkpoint
use Rattle.mq_desk_laws.specs.Faults.{fault_of, passes}
use Rattle.mq_drive.specs.Steps.{PortFault}
use Rattle.mq_drive.specs.declared.port.Port.{Ghosts}
use Rattle.mq_calls.specs.Group.{file_group}
use Rattle.mq_calls.specs.declared.entry.FileEntry.{FileEntry}
use Rattle.mq_journal.specs.Draining.{report_of}
use Rattle.mq_journal.specs.Numbers.{Seat}
use Rattle.mq_queue_side.specs.declared.answers.Cause.{Cause}
use Rattle.mq_queue_side.specs.declared.answers.Cause.TheVariants.{Off}
use Rattle.mq_report.specs.declared.line.Line.{Line}
use Rattle.mq_report.specs.declared.line.Told.{Told}
use Rattle.mq_run.specs.Playing.{Comes, IsNotDone, Plays, begins, call_at, goes, serves}
use Rattle.mq_run.proofs.ServedNotices.{keeps-served}
use Rattle.mq_script.specs.Scripts.{Group}
use Rattle.mq_script.specs.declared.group.End.{End}
use Rattle.mq_script.specs.declared.group.End.TheVariants.{Ask, Fatomic, Fsync}
use Rattle.mq_tree.specs.declared.request.Reply.{Reply}
use Rattle.mq_turns.proofs.MarksReadings.{tally_append}
use Rattle.mq_turns.specs.Lists.{tally}
use Rattle.mq_turns.specs.declared.rule.Charge.{Charge}
use Rattle.mq_turns.specs.declared.turn.Turn.{Turn}
use Rattle.mq_turns.specs.declared.turn.Turn.TheVariants.{Side}
use Rattle.mq_run_laws.specs.Sums.{charged_answer, charged_by, charged_stop, charges_among, one_if}
use Rattle.mq_run_laws.proofs.BackedBlames.{charge_for}
use Rattle.mq_run_laws.proofs.PlayingCame.{Came, begins-same, came, drew, passed, saw}
use Rattle.mq_run_laws.proofs.SumsLists.{total-append}

module _ (g : Geometry) (f : PortFault → Bool) where
  -- the report charges a fault that passes the test
  abbrev pub is_charge : Charge → Bool
  is_charge c = passes f (fault_of g c.report)

  -- how many of them do
  abbrev pub charges_in : List Charge → ℕ
  charges_in cs = tally is_charge cs

  same-count : (old new : List Charge) → new ≡ old → charges_in old ≤ charges_in new
  same-count old new same = let is : charges_in new ≡ charges_in old = ap charges_in same in omega arith

  more-count : (more old new : List Charge) → new ≡ more ++ old → charges_in old ≤ charges_in new
  more-count more old new is =
      let all : charges_in new ≡ charges_in (more ++ old) = ap charges_in is in
      let parts = tally_append is_charge more old in
      omega arith

  -- a refusal that is reported is counted
  push-count : (port : Turn) (cause : Cause) (old new : List Charge) → new ≡ charge_for port cause ∷ old → one_if f (fault_of g (report_of cause)) + charges_in old ≤ charges_in new
  push-count port cause old new is = let all : charges_in new ≡ one_if f (fault_of g (report_of cause)) + charges_in old = ap charges_in is in omega arith

module _ {P : Type 0} {G : Ghosts P} (state : P → PortState) (faults : P → List PortFault) (g : Geometry) (f : PortFault → Bool) where
  abbrev count : Seat P FileEntry G → ℕ
  count v = charges_in g f v.reading.charged

  -- the session has one report more of the fault, if there is one
  abbrev Counts : Option PortFault → Seat P FileEntry G → Seat P FileEntry G → Type 0
  Counts x old new = one_if f x + count old ≤ count new

  none-counts : (old new : Seat P FileEntry G) → new.reading.charged ≡ old.reading.charged → Counts None old new
  none-counts old new same = (let less = same-count g f old.reading.charged new.reading.charged same in omega arith)

  counts-on : (x : Option PortFault) (old mid new : Seat P FileEntry G) → count old ≤ count mid → Counts x mid new → Counts x old new
  counts-on x old mid new less counts = omega arith

  -- ---- a group that was refused

  turned-counts : (c : Call) (old new : Seat P FileEntry G) (why : RefusalCause) (drawn : Option ℕ) → IsTurnedDown state faults g c old new why drawn → Counts (charged_by g (cause_as why)) old new
  turned-counts c old new _ _ (memory keeps) = none-counts old new keeps.charged
  turned-counts c old new _ _ (too_large l) = none-counts old new l.reads.charged
  turned-counts c old new _ _ (before {why = w} refuses) = push-count g f (Side c.session) w old.reading.charged new.reading.charged refuses.charged
  turned-counts c old new _ _ (cut h) = push-count g f (Side c.session) Off old.reading.charged new.reading.charged h.commits.charged

  pub stop-counts : (why : CheckpointRefusal) (old new : Seat P FileEntry G) → HasRefused state faults file_group why old new → Counts (charged_stop g why) old new
  stop-counts checkpoint.OutOfMemory old new (inl m) = none-counts old new m.charged
  stop-counts checkpoint.OutOfMemory old new (inr (front, m)) = none-counts old new m.charged
  stop-counts (checkpoint.Drive w) old new (inl m) = push-count g f m.port w old.reading.charged new.reading.charged m.moves.charged
  stop-counts (checkpoint.Drive w) old new (inr (front, m)) = push-count g f m.port w old.reading.charged new.reading.charged m.moves.charged

  refused-counts : (c : Call) (old new : Seat P FileEntry G) (why : RefusalCause) (drawn : Option ℕ) → IsRefusedFor state faults g c old new why drawn → Counts (charged_by g (cause_as why)) old new
  refused-counts c old new why drawn (turned_down {from = from} run_at down) =
      counts-on (charged_by g (cause_as why)) old from new (same-count g f old.reading.charged from.reading.charged (begins-same state faults g c old from run_at).2) (turned-counts c from new why drawn down)
  refused-counts c old new _ _ (no_room checkpoint.OutOfMemory {between = mid} full has) =
      counts-on None old mid new (same-count g f old.reading.charged mid.reading.charged full.keeps.charged) (stop-counts checkpoint.OutOfMemory mid new has)
  refused-counts c old new _ _ (no_room (checkpoint.Drive w) {between = mid} full has) =
      counts-on (fault_of g (report_of w)) old mid new (same-count g f old.reading.charged mid.reading.charged full.keeps.charged) (stop-counts (checkpoint.Drive w) mid new has)

  -- a group that was done has lost none
  acted-more : (c : Call) (at : ℕ) (was : Bool) (replies : List Reply) (old new : Seat P FileEntry G) → HasActed state faults g c at was replies old new → count old ≤ count new
  acted-more c at true replies old new a =
      let same = same-count g f old.reading.charged a.from.reading.charged (begins-same state faults g c old a.from a.begins).2 in
      let sent = more-count g f (_ ∷ []) a.from.reading.charged new.reading.charged a.acts.charged in
      omega arith
  acted-more c at false replies old new a =
      let same = same-count g f old.reading.charged a.from.reading.charged (begins-same state faults g c old a.from a.begins).2 in
      let none = same-count g f a.from.reading.charged new.reading.charged a.acts.reads.charged in
      omega arith

  not-durable-counts : (c : Call) (old new : Seat P FileEntry G) (why : RefusalCause) (drawn : Option ℕ) → IsNotDurableFor state faults g c old new why drawn → Counts (charged_by g (cause_as why)) old new
  not-durable-counts c old new why drawn (refused_before r) = refused-counts c old new why drawn r
  not-durable-counts c old new _ drawn (refused_after {cause = w} h) =
      counts-on (fault_of g (report_of w)) old h.between new (acted-more c h.at h.drew h.replies old h.between h.acted)
      (push-count g f (Side h.refused.queue) w h.between.reading.charged new.reading.charged h.refused.charged)

  not-answered-counts : (c : Call) (old new : Seat P FileEntry G) (why : CallCause) (drawn : Option ℕ) → IsNotAnswered c.requests old new why drawn → Counts (charged_by g why) old new
  not-answered-counts c old new _ _ (no_memory keeps) = none-counts old new keeps.charged
  not-answered-counts c old new _ _ (changes first same) = none-counts old new (ap (λ (v : Seat P FileEntry G). v.reading.charged) same)

  not-done-counts : (end : End) (c : Call) (r : Refusal) (old new : Seat P FileEntry G) → IsNotDone state faults g end c r old new → Counts (charged_by g r.cause) old new
  not-done-counts Fsync c r old new h = subst (λ (x : CallCause). Counts (charged_by g x) old new) (sym h.cause_is) (not-durable-counts c old new h.why r.drawn h.is)
  not-done-counts Fatomic c r old new h = subst (λ (x : CallCause). Counts (charged_by g x) old new) (sym h.cause_is) (refused-counts c old new h.why r.drawn h.is)
  not-done-counts Ask c r old new h = not-answered-counts c old new r.cause r.drawn h

  came-more : (session k : ℕ) (group : Group) (answer : Result ℕ Refusal) (lines : List Line) (old new : Seat P FileEntry G) → Came g session k group answer lines old new → count old ≤ count new
  came-more session k group answer _ old new (drew n d end number sent) = more-count g f d.charges old.reading.charged new.reading.charged d.charged
  came-more session k group _ _ old new (saw replies line s) = more-count g f s.charges old.reading.charged new.reading.charged s.charged
  came-more session k group answer _ old new (passed none p) = more-count g f p.charges old.reading.charged new.reading.charged p.charged

  comes-counts : (session k : ℕ) (group : Group) (answer : Result ℕ Refusal) (lines : List Line) (old new : Seat P FileEntry G) → Comes state faults g session k group answer lines old new → Counts (charged_answer g answer) old new
  comes-counts session k group (Ok n) lines old new h = (let less = came-more session k group (Ok n) lines old new (came state faults g session k group (Ok n) lines old new h) in omega arith)
  comes-counts session k group (Err r) [] old new h = not-done-counts group.end (call_at session k group) r old new h
  comes-counts session k group (Err r) (l ∷ ls) old new h = absurd h

  -- ---- along a script

  pub played-counts : (session : ℕ) (groups : List Group) (from : Seat P FileEntry G) (k : ℕ) (told : List Told) (lines : List Line) (sent served : List ℕ) (v : Seat P FileEntry G) → Plays state faults g session groups from k told lines sent served v → charges_among g f told ≤ count v
  played-counts session groups from _ _ _ _ _ _ begins = omega arith
  played-counts session groups from _ _ _ _ _ _ (goes {k = k} {told = told} {lines = lines} {more = more} {sent = sent} {served = served} {old = old} {new = new} {group = group} {t = u} plays here_is told_is) =
      let before = played-counts session groups from k told lines sent served old plays in
      let one : one_if f (charged_answer g u.answer) + count old ≤ count new = comes-counts session k group u.answer more old new told_is.comes in
      let all = total-append (λ (t : Told). one_if f (charged_answer g t.answer)) told (u ∷ []) in
      omega arith
  played-counts session groups from k told lines sent _ v (serves {served = served} {more = ns} {old = old} plays are) =
      let before = played-counts session groups from k told lines sent served old plays in
      let keeps = keeps-served state faults session old ns v are in
      let more = more-count g f keeps.charges old.reading.charged v.reading.charged keeps.charged in
      omega arith
