-- What a group that was asked has left of what its session drew and read.
use Rattle.std.proofs.Common.{◌≡◌, ◌⊎◌, ◌∙◌, ℕ, ◌≤◌, Bool, true, false, List, [], ◌∷◌, ◌++◌, length, inl, inr, refl, sym, ap, subst}
use Rattle.std.specs.List.{Contains}
use Rattle.std.proofs.lemmas.Bool.{true≢false}
use Rattle.std.specs.Prelude.{Option, Some, None, Result, Ok, Err}
use Rattle.mq_blocks.specs.Drive.{PortState}
use Rattle.mq_blocks.specs.Geometry.{write_limit}
use Rattle.mq_blocks.specs.declared.geometry.Geometry.{Geometry}
use Rattle.mq_calls.specs.Acts.{Begins, at_once, again, Call, HasActed, IsOfCall, IsRefusedFor, RefusalCause, turned_down, no_room, IsTurnedDown, memory, too_large, before, cut, ReadsOnly}
use Rattle.mq_calls.specs.Asking.{IsNotAnswered, memory as no_memory, changes}
use Rattle.mq_calls.specs.Synchronizing.{IsNotDurableFor, before as refused_before, after as refused_after, drawn_at}
use Rattle.mq_queue_side.specs.declared.answers.CallCause.{CallCause}
use Rattle.mq_queue_side.specs.declared.answers.Refusal.{Refusal}
use Rattle.mq_journal.specs.Raised.{HasRefused}
use Rattle.mq_journal.specs.declared.refusal.CheckpointRefusal.{CheckpointRefusal}
use Rattle.mq_journal.specs.declared.refusal.CheckpointRefusal.TheVariants as checkpoint
use Rattle.mq_drive.specs.Steps.{PortFault}
use Rattle.mq_drive.specs.declared.port.Port.{Ghosts}
use Rattle.mq_calls.specs.Entries.{written_by}
use Rattle.mq_calls.specs.Group.{file_group}
use Rattle.mq_calls.specs.declared.entry.FileEntry.{FileEntry}
use Rattle.mq_journal.specs.Draining.{report_of}
use Rattle.mq_journal.specs.Numbers.{Seat, Shared, reported}
use Rattle.mq_run_laws.specs.Answers.{is_good, number_in}
use Rattle.mq_run_laws.specs.Histories.{WritesNothing}
use Rattle.mq_report.specs.declared.line.Line.{Line}
use Rattle.mq_run.specs.Lines.{end_of}
use Rattle.mq_run.specs.Playing.{Comes, IsDone, IsNotDone, IsReadLine, call_at, is_durable}
use Rattle.mq_script.specs.Scripts.{Group}
use Rattle.mq_script.specs.declared.group.End.{End}
use Rattle.mq_script.specs.declared.group.End.TheVariants.{Ask, Fatomic, Fsync}
use Rattle.mq_tree.specs.declared.request.Reply.{Reply}
use Rattle.mq_turns.specs.Meaning.{newest}
use Rattle.mq_turns.specs.declared.rule.Charge.{Charge}
use Rattle.mq_turns.specs.declared.rule.Report.TheVariants as report
use Rattle.mq_run_laws.proofs.Pairs.{here}

module _ {P : Type 0} {G : Ghosts P} where
  -- ---- what a step leaves

  -- it drew the group's entry at the number, and read nothing
  pub record Draws (g : Geometry) (c : Call) (n : ℕ) (old new : Seat P FileEntry G) : Type 0 where
    pub replies : List Reply
    pub entry : FileEntry
    pub is : IsOfCall c replies entry
    pub drawn : new.drawn ≡ (n, entry) ∷ old.drawn
    pub read : new.read ≡ old.read
    pub few : length (written_by entry) ≤ write_limit g
    pub charges : List Charge
    pub charged : new.reading.charged ≡ charges ++ old.reading.charged

  -- it read the group's entry at the number, and drew nothing
  pub record Sees (c : Call) (replies : List Reply) (n : ℕ) (old new : Seat P FileEntry G) : Type 0 where
    pub entry : FileEntry
    pub is : IsOfCall c replies entry
    pub known : Shared P FileEntry G
    pub number : newest known ≡ n
    pub drawn : new.drawn ≡ old.drawn
    pub read : new.read ≡ (entry, known) ∷ old.read
    pub quiet : WritesNothing entry
    pub charges : List Charge
    pub charged : new.reading.charged ≡ charges ++ old.reading.charged

  -- it drew nothing
  pub record Passes (old new : Seat P FileEntry G) : Type 0 where
    pub drawn : new.drawn ≡ old.drawn
    pub more : List (FileEntry × Shared P FileEntry G)
    pub read : new.read ≡ more ++ old.read
    pub charges : List Charge
    pub charged : new.reading.charged ≡ charges ++ old.reading.charged

  rests : (old new : Seat P FileEntry G) (charges : List Charge) → new.drawn ≡ old.drawn → new.read ≡ old.read → new.reading.charged ≡ charges ++ old.reading.charged → Passes old new
  rests old new charges d r c = record { drawn = d; more = []; read = r; charges = charges; charged = c }

  passes-on : (old mid new : Seat P FileEntry G) → mid.drawn ≡ old.drawn → mid.read ≡ old.read → mid.reading.charged ≡ old.reading.charged → Passes mid new → Passes old new
  passes-on old mid new d r c p = record {
    drawn = p.drawn ∙ d;
    more = p.more;
    read = p.read ∙ ap (λ rs. p.more ++ rs) r;
    charges = p.charges;
    charged = p.charged ∙ ap (λ cs. p.charges ++ cs) c;
  }

module _ {P : Type 0} {G : Ghosts P} where
  -- what a group came to
  pub data Came (g : Geometry) (session k : ℕ) (group : Group) : Result ℕ Refusal → List Line → Seat P FileEntry G → Seat P FileEntry G → Type 0 where
    drew : {answer : Result ℕ Refusal} {old new : Seat P FileEntry G} (n : ℕ) → Draws g (call_at session k group) n old new → end_of (is_durable group.end) ≡ group.end → number_in answer ≡ Some n → (is_good answer ≡ true → Contains new.reading.charged (reported session (report.Sent n))) → Came g session k group answer [] old new
    saw : {n : ℕ} {l : Line} {old new : Seat P FileEntry G} (replies : List Reply) → IsReadLine session k group.end n replies l → Sees (call_at session k group) replies n old new → Came g session k group (Ok n) (l ∷ []) old new
    passed : {answer : Result ℕ Refusal} {old new : Seat P FileEntry G} → number_in answer ≡ None → Passes old new → Came g session k group answer [] old new

module _ {P : Type 0} {G : Ghosts P} (state : P → PortState) (faults : P → List PortFault) (g : Geometry) where
  -- ---- where a group was run

  pub begins-same : (c : Call) (old from : Seat P FileEntry G) → Begins state faults g c old from → (from.drawn ≡ old.drawn) × (from.read ≡ old.read) × (from.reading.charged ≡ old.reading.charged)
  begins-same c old _ at_once = (refl, refl, refl)
  begins-same c old from (again made) = (made.raises.drawn ∙ made.full.keeps.rests.drawn, made.raises.read_before ∙ made.full.keeps.rests.read, made.raises.charged ∙ made.full.keeps.charged)

  acted-drew : (c : Call) (at : ℕ) (replies : List Reply) (old new : Seat P FileEntry G) → HasActed state faults g c at true replies old new → Draws g c at old new
  acted-drew c at replies old new a =
      let same = begins-same c old a.from a.begins in
      record {
        replies = replies;
        entry = a.acts.entry;
        is = a.acts.is;
        drawn = a.acts.drawn ∙ ap (λ ds. (at, a.acts.entry) ∷ ds) same.0;
        read = a.acts.read ∙ same.1;
        few = a.acts.few;
        charges = reported c.session (report.Sent at) ∷ [];
        charged = a.acts.charged ∙ ap (λ cs. reported c.session (report.Sent at) ∷ cs) same.2;
      }

  -- its send is reported
  acted-sent : (c : Call) (at : ℕ) (replies : List Reply) (old new : Seat P FileEntry G) → HasActed state faults g c at true replies old new → Contains new.reading.charged (reported c.session (report.Sent at))
  acted-sent c at replies old new a = subst (λ (cs : List Charge). Contains cs (reported c.session (report.Sent at))) (sym a.acts.charged) (here (reported c.session (report.Sent at)) a.from.reading.charged)

  read-saw : (c : Call) (at : ℕ) (replies : List Reply) (old from new : Seat P FileEntry G) → from.drawn ≡ old.drawn → from.read ≡ old.read → from.reading.charged ≡ old.reading.charged → ReadsOnly c replies at from new → Sees c replies at old new
  read-saw c at replies old from new d r ch o = record {
    entry = o.entry;
    is = o.reads.is;
    known = o.reads.known;
    number = o.reads.number;
    drawn = o.reads.drawn ∙ d;
    read = o.reads.read ∙ ap (λ rs. (o.entry, o.reads.known) ∷ rs) r;
    quiet = record { writes = o.writes; frees = o.frees };
    charges = [];
    charged = o.reads.charged ∙ ch;
  }

  acted-saw : (c : Call) (at : ℕ) (replies : List Reply) (old new : Seat P FileEntry G) → HasActed state faults g c at false replies old new → Sees c replies at old new
  acted-saw c at replies old new a = let same = begins-same c old a.from a.begins in read-saw c at replies old a.from new same.0 same.1 same.2 a.acts

  -- ---- groups that were done

  done-drew : (end : End) (c : Call) (at : ℕ) (replies : List Reply) (old new : Seat P FileEntry G) → IsDone state faults g end c at true replies old new → Draws g c at old new × (end_of (is_durable end) ≡ end) × Contains new.reading.charged (reported c.session (report.Sent at))
  done-drew Fsync c at replies old new d = (acted-drew c at replies old new d.acted, refl, acted-sent c at replies old new d.acted)
  done-drew Fatomic c at replies old new d = (acted-drew c at replies old new d, refl, acted-sent c at replies old new d)
  done-drew Ask c at replies old new d = let e = d.0 in absurd (cc)

  done-saw : (end : End) (c : Call) (at : ℕ) (replies : List Reply) (old new : Seat P FileEntry G) → IsDone state faults g end c at false replies old new → Sees c replies at old new
  done-saw Fsync c at replies old new d = acted-saw c at replies old new d.acted
  done-saw Fatomic c at replies old new d = acted-saw c at replies old new d
  done-saw Ask c at replies old new d = read-saw c at replies old old new refl refl refl d.1

  -- ---- groups that were refused

  -- with the number that it had drawn, or none
  record Drew (c : Call) (drawn : Option ℕ) (old new : Seat P FileEntry G) : Type 0 where
    number : ℕ
    is : drawn ≡ Some number
    draws : Draws g c number old new

  abbrev Leaves : Call → Option ℕ → Seat P FileEntry G → Seat P FileEntry G → Type 0
  Leaves c drawn old new = Drew c drawn old new ⊎ ((drawn ≡ None) × Passes old new)

  turned : (c : Call) (old new : Seat P FileEntry G) (why : RefusalCause) (drawn : Option ℕ) → IsTurnedDown state faults g c old new why drawn → Leaves c drawn old new
  turned c old new _ _ (memory keeps) = inr (refl, rests old new [] keeps.rests.drawn keeps.rests.read keeps.charged)
  turned c old new _ _ (too_large large) = inr (refl, record { drawn = large.reads.drawn; more = (large.entry, large.reads.known) ∷ []; read = large.reads.read; charges = []; charged = large.reads.charged })
  turned c old new _ _ (before refuses) = inr (refl, rests old new (_ ∷ []) refuses.rests.drawn refuses.rests.read refuses.charged)
  turned c old new _ _ (cut {at = at} is) = inl (record {
    number = at;
    is = refl;
    draws = record { replies = is.replies; entry = is.commits.entry; is = is.commits.is; drawn = is.commits.drawn; read = is.commits.read; few = is.commits.few; charges = _ ∷ []; charged = is.commits.charged };
  })

  moved-on : (c : Call) (drawn : Option ℕ) (old mid new : Seat P FileEntry G) → mid.drawn ≡ old.drawn → mid.read ≡ old.read → mid.reading.charged ≡ old.reading.charged → Leaves c drawn mid new → Leaves c drawn old new
  moved-on c drawn old mid new d r ch (inl is) = inl (record {
    number = is.number;
    is = is.is;
    draws = record { replies = is.draws.replies; entry = is.draws.entry; is = is.draws.is; drawn = is.draws.drawn ∙ ap (λ ds. (is.number, is.draws.entry) ∷ ds) d; read = is.draws.read ∙ r; few = is.draws.few; charges = is.draws.charges; charged = is.draws.charged ∙ ap (λ cs. is.draws.charges ++ cs) ch };
  })
  moved-on c drawn old mid new d r ch (inr is) = inr (is.0, passes-on old mid new d r ch is.1)

  checkpoint-same : (why : CheckpointRefusal) (mid new : Seat P FileEntry G) → HasRefused state faults file_group why mid new → Passes mid new
  checkpoint-same checkpoint.OutOfMemory mid new (inl m) = rests mid new [] m.drawn m.read m.charged
  checkpoint-same checkpoint.OutOfMemory mid new (inr (front, m)) = rests mid new [] m.drawn m.read m.charged
  checkpoint-same (checkpoint.Drive why) mid new (inl m) = rests mid new (record { port = m.port; report = report_of why } ∷ []) m.moves.drawn m.moves.read m.moves.charged
  checkpoint-same (checkpoint.Drive why) mid new (inr (front, m)) = rests mid new (record { port = m.port; report = report_of why } ∷ []) m.moves.drawn m.moves.read m.moves.charged

  refused : (c : Call) (old new : Seat P FileEntry G) (why : RefusalCause) (drawn : Option ℕ) → IsRefusedFor state faults g c old new why drawn → Leaves c drawn old new
  refused c old new why drawn (turned_down {from = from} begins down) = let same = begins-same c old from begins in moved-on c drawn old from new same.0 same.1 same.2 (turned c from new why drawn down)
  refused c old new _ _ (no_room why {between = mid} full has) = inr (refl, passes-on old mid new full.keeps.rests.drawn full.keeps.rests.read full.keeps.charged (checkpoint-same why mid new has))

  -- a group that was done, and of which then a queue was refused
  after-done : (c : Call) (at : ℕ) (drew : Bool) (replies : List Reply) (drawn : Option ℕ) (old mid new : Seat P FileEntry G) → HasActed state faults g c at drew replies old mid → drawn ≡ drawn_at at drew → new.drawn ≡ mid.drawn → new.read ≡ mid.read → (x : Charge) → new.reading.charged ≡ x ∷ mid.reading.charged → Leaves c drawn old new
  after-done c at true replies drawn old mid new acted is d r x ch =
      let draws = acted-drew c at replies old mid acted in
      inl (record {
        number = at;
        is = is;
        draws = record { replies = draws.replies; entry = draws.entry; is = draws.is; drawn = d ∙ draws.drawn; read = r ∙ draws.read; few = draws.few; charges = x ∷ draws.charges; charged = ch ∙ ap (λ cs. x ∷ cs) draws.charged };
      })
  after-done c at false replies drawn old mid new acted is d r x ch =
      let saw = acted-saw c at replies old mid acted in
      inr (is, record { drawn = d ∙ saw.drawn; more = (saw.entry, saw.known) ∷ []; read = r ∙ saw.read; charges = x ∷ saw.charges; charged = ch ∙ ap (λ cs. x ∷ cs) saw.charged })

  not-durable : (c : Call) (old new : Seat P FileEntry G) (why : RefusalCause) (drawn : Option ℕ) → IsNotDurableFor state faults g c old new why drawn → Leaves c drawn old new
  not-durable c old new why drawn (refused_before r) = refused c old new why drawn r
  not-durable c old new _ drawn (refused_after w) =
      after-done c w.at w.drew w.replies drawn old w.between new w.acted w.drawn_is (ap (λ (v : Seat P FileEntry G). v.drawn) w.refused.is) (ap (λ (v : Seat P FileEntry G). v.read) w.refused.is) _ w.refused.charged

  not-answered : (c : Call) (old new : Seat P FileEntry G) (why : CallCause) (drawn : Option ℕ) → IsNotAnswered c.requests old new why drawn → (drawn ≡ None) × Passes old new
  not-answered c old new _ _ (no_memory keeps) = (refl, rests old new [] keeps.rests.drawn keeps.rests.read keeps.charged)
  not-answered c old new _ _ (changes first same) = (refl, rests old new [] (ap (λ (v : Seat P FileEntry G). v.drawn) same) (ap (λ (v : Seat P FileEntry G). v.read) same) (ap (λ (v : Seat P FileEntry G). v.reading.charged) same))

  -- ---- a group

  came-drew : (session k : ℕ) (group : Group) (r : Refusal) (old new : Seat P FileEntry G) → end_of (is_durable group.end) ≡ group.end → Leaves (call_at session k group) r.drawn old new → Came g session k group (Err r) [] old new
  came-drew session k group r old new end (inl d) = drew d.number d.draws end d.is (λ good. absurd (true≢false (sym good)))
  came-drew session k group r old new end (inr p) = passed p.0 p.1

  came-not : (session k : ℕ) (group : Group) (r : Refusal) (old new : Seat P FileEntry G) (end : End) → group.end ≡ end → IsNotDone state faults g end (call_at session k group) r old new → Came g session k group (Err r) [] old new
  came-not session k group r old new Fsync is n =
      came-drew session k group r old new (ap (λ (e : End). end_of (is_durable e)) is ∙ sym is) (not-durable (call_at session k group) old new n.why r.drawn n.is)
  came-not session k group r old new Fatomic is n =
      came-drew session k group r old new (ap (λ (e : End). end_of (is_durable e)) is ∙ sym is) (refused (call_at session k group) old new n.why r.drawn n.is)
  came-not session k group r old new Ask is n = let p = not-answered (call_at session k group) old new r.cause r.drawn n in passed p.0 p.1

  pub came : (session k : ℕ) (group : Group) (answer : Result ℕ Refusal) (lines : List Line) (old new : Seat P FileEntry G) → Comes state faults g session k group answer lines old new → Came g session k group answer lines old new
  came session k group (Ok at) [] old new (replies, done) = let d = done-drew group.end (call_at session k group) at replies old new done in drew at d.0 d.1 refl (λ good. d.2)
  came session k group (Ok at) (l ∷ []) old new (replies, line, done) = saw replies line (done-saw group.end (call_at session k group) at replies old new done)
  came session k group (Ok at) (l ∷ m ∷ ls) old new h = absurd h
  came session k group (Err r) [] old new h = came-not session k group r old new group.end refl h
  came session k group (Err r) (l ∷ ls) old new h = absurd h
