-- Why a group was refused, by the contract of its call.
use Rattle.std.proofs.Common.{◌≡◌, ◌∙◌, ℕ, ◌<◌, Bool, true, false, List, [], ◌∷◌, length, inl, inr, refl, sym, ap, subst, arith}
use Rattle.std.specs.Prelude.{Option, Some, Result, Ok, Err, if◌then◌else◌, nat_le, slice_get}
use Rattle.std.specs.List.{Contains}
use Rattle.std.proofs.lemmas.List.{length-append}
use Rattle.mq_blocks.specs.Drive.{PortState}
use Rattle.mq_blocks.specs.Geometry.{queues_of, write_limit}
use Rattle.mq_blocks.specs.declared.geometry.Geometry.{Geometry}
use Rattle.mq_calls.specs.Acts.{Call, IsOfCall, IsRefusedFor, RefusalCause, turned_down, no_room, IsTurnedDown, memory, too_large, before, cause_as, cut}
use Rattle.mq_calls.specs.Asking.{IsFirstChange, IsNotAnswered, memory as no_memory, changes}
use Rattle.mq_calls.specs.Synchronizing.{IsNotDurableFor, before as refused_before, after as refused_after, drawn_at}
use Rattle.mq_queue_side.specs.declared.answers.CallCause.{CallCause}
use Rattle.mq_queue_side.specs.declared.answers.CallCause.TheVariants.{Changes, Drive, OutOfMemory, TooLarge}
use Rattle.mq_queue_side.specs.declared.answers.Refusal.{Refusal}
use Rattle.mq_journal.specs.declared.refusal.CheckpointRefusal.TheVariants as checkpoint
use Rattle.mq_drive.specs.Steps.{PortFault}
use Rattle.mq_drive.specs.declared.port.Port.{Ghosts}
use Rattle.mq_calls.specs.Entries.{written_by}
use Rattle.mq_calls.specs.Group.{file_group}
use Rattle.mq_calls.specs.declared.entry.FileEntry.{FileEntry}
use Rattle.mq_journal.specs.Draining.{answer_upto}
use Rattle.mq_journal.specs.Numbers.{Seat, Shared}
use Rattle.mq_journal.specs.Sweeping.{NamesUpto, WasRefused}
use Rattle.mq_run_laws.specs.Answers.{IsLate, IsLatePort, MayRefuseAsk}
use Rattle.mq_report.specs.declared.line.Line.{Line}
use Rattle.mq_report.specs.declared.line.Told.{Told}
use Rattle.mq_run.specs.Playing.{Comes, IsNotDone, Plays, TellsOfChanges, begins, goes, serves, call_at}
use Rattle.mq_run.proofs.ServedNotices.{keeps-served}
use Rattle.mq_script.specs.Scripts.{Group}
use Rattle.mq_script.specs.declared.group.End.{End}
use Rattle.mq_script.specs.declared.group.End.TheVariants.{Ask, Fatomic, Fsync}
use Rattle.mq_queue_side.specs.Drained.{DrainCause}
use Rattle.mq_queue_side.specs.declared.answers.Cause.{Cause}
use Rattle.mq_queue_side.specs.declared.answers.Cause.TheVariants.{Failed, FailedHome, Off, Stopped}
use Rattle.mq_tree.specs.declared.request.Reply.{Reply}
use Rattle.mq_run_laws.proofs.PlayingCame.{Came, drew, saw, passed, came}
use Rattle.mq_run_laws.proofs.Pairs.{here, in-right, push-cases, there}

module _ {P : Type 0} {G : Ghosts P} where
  -- the session read the group's entry, which writes more than a transaction may
  pub record Large (g : Geometry) (c : Call) (count limit : ℕ) (read : List (FileEntry × Shared P FileEntry G)) : Type 0 where
    pub replies : List Reply
    pub entry : FileEntry
    pub is : IsOfCall c replies entry
    pub known : Shared P FileEntry G
    pub there : Contains read (entry, known)
    pub limit_is : limit ≡ write_limit g
    pub count_is : count ≡ length (written_by entry)
    pub above : limit < count

  -- what a refusal says of a group with this end
  pub record Reasons (g : Geometry) (end : End) (c : Call) (why : CallCause) (drawn : Option ℕ) (read : List (FileEntry × Shared P FileEntry G)) : Type 0 where
    pub asks : end ≡ Ask → MayRefuseAsk why
    pub first : (i : ℕ) → why ≡ Changes i → (end ≡ Ask) × IsFirstChange c.requests i
    pub late : (n : ℕ) → drawn ≡ Some n → IsLate end n why
    pub large : (count limit : ℕ) → why ≡ TooLarge count limit → Large g c count limit read

  large-on : (g : Geometry) (c : Call) (count limit : ℕ) (old new : List (FileEntry × Shared P FileEntry G)) → ((x : FileEntry × Shared P FileEntry G) → Contains old x → Contains new x) → Large g c count limit old → Large g c count limit new
  large-on g c count limit old new on h = record { replies = h.replies; entry = h.entry; is = h.is; known = h.known; there = on (h.entry, h.known) h.there; limit_is = h.limit_is; count_is = h.count_is; above = h.above }

  pub reasons-on : (g : Geometry) (end : End) (c : Call) (why : CallCause) (drawn : Option ℕ) (old new : List (FileEntry × Shared P FileEntry G)) → ((x : FileEntry × Shared P FileEntry G) → Contains old x → Contains new x) → Reasons g end c why drawn old → Reasons g end c why drawn new
  reasons-on g end c why drawn old new on h = record { asks = h.asks; first = h.first; late = h.late; large = λ count limit is. large-on g c count limit old new on (h.large count limit is) }

-- a drain is refused for no home write
no-home : (at block status : ℕ) (result : Result ℕ Cause) (old new : List PortFault) → DrainCause result old new → Err (FailedHome block status) ≡ answer_upto at result → ⊥
no-home at block status (Ok n) old new h is = absurd (cc)
no-home at block status (Err Off) old new h is = absurd (cc)
no-home at block status (Err (Failed tx st)) old new h is = by (nat_le tx at) is
  where
    by : (b : Bool) → Err (FailedHome block status) ≡ (if b then Err (Failed tx st) else Ok (tt {0})) → ⊥
    by true e = absurd (cc)
    by false e = absurd (cc)
no-home at block status (Err (Stopped tx st)) old new h is = by (nat_le tx at) is
  where
    by : (b : Bool) → Err (FailedHome block status) ≡ (if b then Err (Stopped tx st) else Ok (tt {0})) → ⊥
    by true e = absurd (cc)
    by false e = absurd (cc)
no-home at block status (Err (FailedHome b st)) old new h is = absurd h

module _ {P : Type 0} {G : Ghosts P} (state : P → PortState) (faults : P → List PortFault) (g : Geometry) where
  turned : (end : End) (c : Call) (old new : Seat P FileEntry G) (why : RefusalCause) (drawn : Option ℕ) → (end ≡ Ask → ⊥) → IsTurnedDown state faults g c old new why drawn → Reasons {G = G} g end c (cause_as why) drawn new.read
  turned end c old new _ _ not_ask (memory keeps) = record { asks = λ is. absurd (not_ask is); first = λ (i : ℕ) (is : OutOfMemory ≡ Changes i). absurd (cc); late = λ n is. absurd (cc); large = λ (count limit : ℕ) (is : OutOfMemory ≡ TooLarge count limit). absurd (cc) }
  turned end c old new _ _ not_ask (too_large {count = k} {limit = m} l) = record {
    asks = λ is. absurd (not_ask is);
    first = λ (i : ℕ) (is : TooLarge k m ≡ Changes i). absurd (cc);
    late = λ n is. absurd (cc);
    large = λ (count limit : ℕ) (is : TooLarge k m ≡ TooLarge count limit).
        let same : k ≡ count = cc in
        let most : m ≡ limit = cc in
        let over = l.above in
        record {
          replies = l.replies;
          entry = l.entry;
          is = l.reads.is;
          known = l.reads.known;
          there = subst (λ (rs : List (FileEntry × Shared P FileEntry G)). Contains rs (l.entry, l.reads.known)) (sym l.reads.read) (here (l.entry, l.reads.known) old.read);
          limit_is = sym most ∙ l.limit_is;
          count_is = sym same ∙ l.count_is;
          above = omega arith;
        };
  }
  turned end c old new _ _ not_ask (before {why = w} refuses) = record { asks = λ is. absurd (not_ask is); first = λ (i : ℕ) (is : Drive w ≡ Changes i). absurd (cc); late = λ n is. absurd (cc); large = λ (count limit : ℕ) (is : Drive w ≡ TooLarge count limit). absurd (cc) }
  turned end c old new _ _ not_ask (cut is) = record { asks = λ is. absurd (not_ask is); first = λ (i : ℕ) (is : Drive Off ≡ Changes i). absurd (cc); late = λ n is. tt; large = λ (count limit : ℕ) (is : Drive Off ≡ TooLarge count limit). absurd (cc) }

  refused : (end : End) (c : Call) (old new : Seat P FileEntry G) (why : RefusalCause) (drawn : Option ℕ) → (end ≡ Ask → ⊥) → IsRefusedFor state faults g c old new why drawn → Reasons {G = G} g end c (cause_as why) drawn new.read
  refused end c old new why drawn not_ask (turned_down {from = from} run_at down) = turned end c from new why drawn not_ask down
  refused end c old new _ _ not_ask (no_room checkpoint.OutOfMemory full has) = record { asks = λ is. absurd (not_ask is); first = λ (i : ℕ) (is : OutOfMemory ≡ Changes i). absurd (cc); late = λ n is. absurd (cc); large = λ (count limit : ℕ) (is : OutOfMemory ≡ TooLarge count limit). absurd (cc) }
  refused end c old new _ _ not_ask (no_room (checkpoint.Drive why) full has) = record { asks = λ is. absurd (not_ask is); first = λ (i : ℕ) (is : Drive why ≡ Changes i). absurd (cc); late = λ n is. absurd (cc); large = λ (count limit : ℕ) (is : Drive why ≡ TooLarge count limit). absurd (cc) }

  late-port : (at n : ℕ) (was : Bool) (drawn : Option ℕ) (cause : Cause) (old new : Seat P FileEntry G) → drawn ≡ drawn_at at was → drawn ≡ Some n → NamesUpto at cause → WasRefused state faults file_group (queues_of g) at cause old new → IsLatePort Fsync n cause
  late-port at n false drawn cause old new is named upto r = absurd (cc)
  late-port at n true drawn Off old new is named upto r = tt
  late-port at n true drawn (Failed tx st) old new is named upto r = let same : at ≡ n = cc in (refl, omega arith)
  late-port at n true drawn (Stopped tx st) old new is named upto r = let same : at ≡ n = cc in (refl, omega arith)
  late-port at n true drawn (FailedHome b st) old new is named upto r = no-home at b st r.drained.result _ _ r.drained.cause r.drained.is

  not-durable : (c : Call) (old new : Seat P FileEntry G) (why : RefusalCause) (drawn : Option ℕ) → IsNotDurableFor state faults g c old new why drawn → Reasons {G = G} g Fsync c (cause_as why) drawn new.read
  not-durable c old new why drawn (refused_before r) = refused Fsync c old new why drawn (λ is. absurd (cc)) r
  not-durable c old new _ drawn (refused_after {cause = cause} w) = record {
    asks = λ is. absurd (cc);
    first = λ (i : ℕ) (is : Drive cause ≡ Changes i). absurd (cc);
    late = λ n is. late-port w.at n w.drew drawn cause w.between new w.drawn_is is w.upto w.refused;
    large = λ (count limit : ℕ) (is : Drive cause ≡ TooLarge count limit). absurd (cc);
  }

  not-answered : (c : Call) (old new : Seat P FileEntry G) (why : CallCause) (drawn : Option ℕ) → IsNotAnswered c.requests old new why drawn → Reasons {G = G} g Ask c why drawn new.read
  not-answered c old new _ _ (no_memory keeps) = record { asks = λ is. tt; first = λ i is. absurd (cc); late = λ n is. absurd (cc); large = λ count limit is. absurd (cc) }
  not-answered c old new _ _ (changes {index = j} first same) = record {
    asks = λ is. tt;
    first = λ i is. let at : j ≡ i = cc in (refl, subst (λ (k : ℕ). IsFirstChange c.requests k) at first);
    late = λ n is. absurd (cc);
    large = λ count limit is. absurd (cc);
  }

  not-done : (end : End) (c : Call) (r : Refusal) (old new : Seat P FileEntry G) → IsNotDone state faults g end c r old new → Reasons {G = G} g end c r.cause r.drawn new.read
  not-done Fsync c r old new h = subst (λ (x : CallCause). Reasons {G = G} g Fsync c x r.drawn new.read) (sym h.cause_is) (not-durable c old new h.why r.drawn h.is)
  not-done Fatomic c r old new h = subst (λ (x : CallCause). Reasons {G = G} g Fatomic c x r.drawn new.read) (sym h.cause_is) (refused Fatomic c old new h.why r.drawn (λ is. absurd (cc)) h.is)
  not-done Ask c r old new h = not-answered c old new r.cause r.drawn h

  comes-reasons : (session k : ℕ) (group : Group) (answer : Result ℕ Refusal) (lines : List Line) (r : Refusal) (old new : Seat P FileEntry G) → answer ≡ Err r → Comes state faults g session k group answer lines old new → Reasons {G = G} g group.end (call_at session k group) r.cause r.drawn new.read
  comes-reasons session k group (Ok n) lines r old new is h = absurd (cc)
  comes-reasons session k group (Err q) [] r old new is h =
      let same : q ≡ r = cc in
      subst (λ (x : Refusal). Reasons {G = G} g group.end (call_at session k group) x.cause x.drawn new.read) same (not-done group.end (call_at session k group) q old new h)
  comes-reasons session k group (Err q) (l ∷ ls) r old new is h = absurd h

  reads-on : (session k : ℕ) (group : Group) (answer : Result ℕ Refusal) (lines : List Line) (old new : Seat P FileEntry G) → Came g session k group answer lines old new → (x : FileEntry × Shared P FileEntry G) → Contains old.read x → Contains new.read x
  reads-on session k group answer _ old new (drew n d end number sent) x c = subst (λ rs. Contains rs x) (sym d.read) c
  reads-on session k group _ _ old new (saw replies line s) x c = subst (λ rs. Contains rs x) (sym s.read) (there x (s.entry, s.known) old.read c)
  reads-on session k group answer _ old new (passed none p) x c = subst (λ rs. Contains rs x) (sym p.read) (in-right p.more old.read x c)

  -- ---- along a script

  -- what the answer to a group says
  pub record Says (session k : ℕ) (group : Group) (t : Told) (read : List (FileEntry × Shared P FileEntry G)) : Type 0 where
    pub reasons : (r : Refusal) → t.answer ≡ Err r → Reasons {G = G} g group.end (call_at session k group) r.cause r.drawn read
    pub changing : TellsOfChanges group.end group.requests t.answer

  says-on : (session k : ℕ) (group : Group) (t : Told) (old new : List (FileEntry × Shared P FileEntry G)) → ((x : FileEntry × Shared P FileEntry G) → Contains old x → Contains new x) → Says session k group t old → Says session k group t new
  says-on session k group t old new on h = record { reasons = λ r is. reasons-on g group.end (call_at session k group) r.cause r.drawn old new on (h.reasons r is); changing = h.changing }

  pub says : (session : ℕ) (groups : List Group) (from : Seat P FileEntry G) (k : ℕ) (told : List Told) (lines : List Line) (sent served : List ℕ) (v : Seat P FileEntry G) → length told ≡ k → Plays state faults g session groups from k told lines sent served v → (j : ℕ) (t : Told) → slice_get told j ≡ Some t → (group : Group) × (slice_get groups j ≡ Some group) × Says session j group t v.read
  says session groups from _ _ _ _ _ _ many begins j t at = absurd (cc)
  says session groups from _ _ _ _ _ _ many (goes {k = k} {told = told} {lines = lines} {more = more} {sent = sent} {served = served} {old = old} {new = new} {group = group} {t = u} plays here_is is) j t at =
      let long = length-append told (u ∷ []) in
      let one : Says session k group u new.read = record {
        reasons = λ r bad. comes-reasons session k group u.answer more r old new bad is.comes;
        changing = is.changes;
      } in
      let on = reads-on session k group u.answer more old new (came state faults g session k group u.answer more old new is.comes) in
      elim (push-cases told j u t at) [
        | inl o ↦ (let r = says session groups from k told lines sent served old (omega arith) plays j t o in (r.0, r.1, says-on session j r.0 t old.read new.read on r.2))
        | inr n ↦ (
            let place : k ≡ j = (let low = n.0 in omega arith) in
            (group, ap (slice_get groups) (sym place) ∙ here_is, subst (λ (z : ℕ × Told). Says session z.0 group z.1 new.read) (λ i. (place i, n.1 i)) one))
      ]
  says session groups from k told lines sent _ v many (serves {served = served} {more = ns} {old = old} plays are) j t at =
      let keeps = keeps-served state faults session old ns v are in
      let r = says session groups from k told lines sent served old many plays j t at in
      (r.0, r.1, says-on session j r.0 t old.read v.read (λ x c. subst (λ (rs : List (FileEntry × Shared P FileEntry G)). Contains rs x) (sym keeps.read) c) r.2)
