-- What an attempt leaves, from what its steps leave.
use Rattle.mq_blocks.specs.Drive.{PortState}
use Rattle.mq_blocks.specs.Geometry.{write_limit}
use Rattle.mq_blocks.specs.declared.geometry.Geometry.{Geometry}
use Rattle.mq_journal.specs.Steps.{IsKnownFrom}
use Rattle.mq_drive.specs.Steps.{PortFault}
use Rattle.mq_drive.specs.declared.port.Port.{Ghosts}
use Rattle.mq_journal.specs.Draining.{report_of}
use Rattle.mq_journal.specs.Machine.{journal}
use Rattle.mq_journal.specs.Numbers.{Seat, Shared, reported}
use Rattle.mq_journal.specs.Sweeping.{HasSwept, WasRefused}
use Rattle.mq_pages.specs.declared.page.PageCell.{PageCell}
use Rattle.mq_pages.specs.declared.page.Write.{Write}
use Rattle.mq_queue_side.specs.declared.answers.Cause.TheVariants as cause
use Rattle.mq_queue_side.specs.declared.answers.Cause.{Cause}
use Rattle.mq_queue_side.specs.declared.root.Root.{Root}
use Rattle.mq_queue_side.specs.declared.side.QueueSide.{QueueSide}
use Rattle.mq_sessions.specs.Wanted.{IsSameSession}
use Rattle.mq_sessions.specs.declared.committing.Obstacle.TheVariants as obstacle
use Rattle.mq_sessions.specs.declared.committing.Obstacle.{Obstacle}
use Rattle.mq_turns.specs.Chairs.{holding}
use Rattle.mq_turns.specs.Lists.{Each, times}
use Rattle.mq_turns.specs.Desk.{Sees, after_look}
use Rattle.mq_turns.specs.Meaning.{HasNumberAt, newest}
use Rattle.mq_turns.specs.declared.rule.Charge.{Charge}
use Rattle.mq_turns.specs.declared.rule.MarkAnswer.TheVariants.{Base, Front}
use Rattle.mq_turns.specs.declared.rule.Reading.{Reading}
use Rattle.mq_turns.specs.declared.rule.Report.TheVariants.{Off, Sent}
use Rattle.mq_turns.specs.declared.rule.Report.{Report}
use Rattle.std.specs.Prelude.{None}
use Rattle.std.proofs.Common.{◌≡◌, ℕ, List, ap, arith, ◌<◌, ◌≤◌, ◌∷◌, length, sym, subst, ◌∙◌}
use Rattle.mq_desk_laws.specs.Groups.{GroupView}
use Rattle.mq_sessions.specs.Acts.{GoesOn, Rests, WasCutAt}
use Rattle.mq_sessions.specs.Attempts.{Commits, LacksArea, MeetsRefusal}
use Rattle.mq_sessions.specs.Calls.{Call}
use Rattle.mq_sessions.specs.Committing.{IsMissed, IsObstacle, OnlyReports, ReadsWords, ShowsObstacle, miss_for, reports_for}
use Rattle.mq_sessions.specs.Drawing.{HasDrawn, IsCommitted}
use Rattle.mq_sessions.specs.Executors.{CallView, IsReadOf, Tells}
use Rattle.mq_sessions.specs.declared.committing.Miss.TheVariants as miss

abbrev Reads : (P E : Type 0) → Ghosts P → Type 0
Reads P E G = Reading PageCell (QueueSide P E G) (Root P G) E

module _ {P E : Type 0} {G : Ghosts P} where
  -- the session holds other turns, and nothing else of it changes
  pub record OnlyHolds (old new : Seat P E G) : Type 0 where
    pub parts : new.parts ≡ old.parts
    pub opening : new.opening ≡ old.opening
    pub session : new.session ≡ old.session
    pub drawn : new.drawn ≡ old.drawn
    pub read : new.read ≡ old.read
    pub seen : new.seen ≡ old.seen
    pub reading : new.reading ≡ old.reading

  pub holds-more : (k : ℕ) (K : Shared P E G) (old new : Seat P E G) → new ≡ holding k K old → OnlyHolds old new
  holds-more k K old new is = record {
    parts = ap (λ (x : Seat P E G). x.parts) is;
    opening = ap (λ (x : Seat P E G). x.opening) is;
    session = ap (λ (x : Seat P E G). x.session) is;
    drawn = ap (λ (x : Seat P E G). x.drawn) is;
    read = ap (λ (x : Seat P E G). x.read) is;
    seen = ap (λ (x : Seat P E G). x.seen) is;
    reading = ap (λ (x : Seat P E G). x.reading) is;
  }

module _ {P E Req Rep D : Type 0} {G : Ghosts P} (group : GroupView E) (calls : CallView E Req Rep D) where
  -- a group that was drawn after the call had read its words
  pub commits-of : (g : Geometry) (c : Call Req) (done : D) (e : E) (at : ℕ) (r : Report) (old taken v new : Seat P E G) → OnlyHolds old taken → ReadsWords taken v → v.reading.answers ≡ Base (calls.reads e).base ∷ Front (calls.reads e).front ∷ taken.reading.answers → Tells group calls c done e → length (calls.writes done) ≤ write_limit g → HasDrawn e c.session at r v new → Commits calls g c (calls.replies done) at r old new
  commits-of g c done e at r old taken v new holds words answers is few drew = record {
    entry = e;
    is = is.of_call;
    drawn = drew.drawn ∙ ap (λ l. (at, e) ∷ l) (words.drawn ∙ holds.drawn);
    read = drew.read ∙ words.read ∙ holds.read;
    above = (let a = drew.above in let b = words.seen in let d = holds.seen in omega arith);
    few = subst (λ (ws : List Write). length ws ≤ write_limit g) (sym is.written) few;
    answers = drew.answers ∙ answers ∙ ap (λ (x : Reads P E G). Base (calls.reads e).base ∷ Front (calls.reads e).front ∷ x.answers) holds.reading;
    charged = drew.charged ∙ ap (λ l. reported c.session r ∷ l) (words.charged ∙ ap (λ (x : Reads P E G). x.charged) holds.reading);
  }

  -- a group that was drawn and sent
  pub committed-of : (g : Geometry) (c : Call Req) (done : D) (e : E) (at : ℕ) (old taken v new : Seat P E G) → OnlyHolds old taken → ReadsWords taken v → v.reading.answers ≡ Base (calls.reads e).base ∷ Front (calls.reads e).front ∷ taken.reading.answers → Tells group calls c done e → length (calls.writes done) ≤ write_limit g → HasDrawn e c.session at (Sent at) v new → IsCommitted calls g c (calls.replies done) at old new
  committed-of g c done e at old taken v new holds words answers is few drew = (commits-of g c done e at (Sent at) old taken v new holds words answers is few drew, drew.seen, drew.under)

module _ {P E : Type 0} {G : Ghosts P} where
  -- ---- a group that was not drawn

  pub rests-of : (old taken v new : Seat P E G) (reports : List Charge) → OnlyHolds old taken → ReadsWords taken v → OnlyReports reports v new → Rests old new
  rests-of old taken v new reports holds words only = record {
    drawn = only.drawn ∙ words.drawn ∙ holds.drawn;
    read = only.read ∙ words.read ∙ holds.read;
  }

  -- a look before it
  only-looked : (K : Shared P E G) (v looked new : Seat P E G) (reports : List Charge) → v.seen ≤ newest K → looked ≡ after_look None K v → OnlyReports reports looked new → OnlyReports reports v new × (newest K ≤ new.seen)
  only-looked K v looked new reports low is only =
      let at : looked.seen ≡ newest K = ap (λ (x : Seat P E G). x.seen) is in
      let seen = only.seen in (
        record {
          parts = only.parts ∙ ap (λ (x : Seat P E G). x.parts) is;
          opening = only.opening ∙ ap (λ (x : Seat P E G). x.opening) is;
          session = only.session ∙ ap (λ (x : Seat P E G). x.session) is;
          drawn = only.drawn ∙ ap (λ (x : Seat P E G). x.drawn) is;
          read = only.read ∙ ap (λ (x : Seat P E G). x.read) is;
          seen = omega arith;
          done = (let e : looked.reading.done ≡ v.reading.done = ap (λ (x : Seat P E G). x.reading.done) is in let d = only.done in omega arith);
          answers = only.answers ∙ ap (λ (x : Seat P E G). x.reading.answers) is;
          charged = only.charged;
        },
        omega arith,
      )

  charges-of : (old taken v : Seat P E G) → OnlyHolds old taken → ReadsWords taken v → v.reading.charged ≡ old.reading.charged
  charges-of old taken v holds words = words.charged ∙ ap (λ (x : Reads P E G). x.charged) holds.reading

module _ {P E : Type 0} {G : Ghosts P} (state : P → PortState) (faults : P → List PortFault) (group : GroupView E) where
  pub known-before : (old v : Seat P E G) (K : Shared P E G) → v.opening ≡ old.opening → old.seen ≤ v.seen → v.drawn ≡ old.drawn → IsKnownFrom state faults group v K → IsKnownFrom state faults group old K
  known-before old v K opening seen drawn k = record {
    opening = sym opening ∙ k.opening;
    ok = k.ok;
    seen = (let l = k.seen in omega arith);
    drew = subst (Each (λ d. HasNumberAt K.opening.base K.log d.0 d.1)) drawn k.drew;
  }

module _ {P E Req Rep D : Type 0} {G : Ghosts P} (state : P → PortState) (faults : P → List PortFault) (group : GroupView E) (calls : CallView E Req Rep D) where
  pub meets-before : (g : Geometry) (c : Call Req) (K : Shared P E G) (why : Cause) (old v : Seat P E G) → v.opening ≡ old.opening → old.seen ≤ v.seen → v.drawn ≡ old.drawn → MeetsRefusal state faults group calls g c K v why → MeetsRefusal state faults group calls g c K old why
  meets-before g c K why old v opening seen drawn m = record { from = known-before state faults group old v K opening seen drawn m.from; done = m.done; drawable = m.drawable; caused = m.caused }

  -- the missing room shows on the side
  pub obstacle-shown : (g : Geometry) (c : Call Req) (old : Seat P E G) (s : QueueSide P E G) (v : Seat P E G) (l : Obstacle) → IsObstacle state faults group calls g c old s v l → ShowsObstacle state faults group c.session s v l
  obstacle-shown g c old s v obstacle.Memory lacks = tt
  obstacle-shown g c old s v obstacle.Area lacks = tt
  obstacle-shown g c old s v (obstacle.Drive cause) lacks = lacks.0

  -- the plan had too little room, of a session that then took a turn and now reports nothing
  area-lacked : (g : Geometry) (c : Call Req) (K : Shared P E G) (old taken v new : Seat P E G) → OnlyHolds old taken → new.reading.answers ≡ v.reading.answers → LacksArea state faults group calls g c K taken v → LacksArea state faults group calls g c K old new
  area-lacked g c K old taken v new holds answers k = record {
    from = known-before state faults group old taken K holds.opening (let a = holds.seen in omega arith) holds.drawn k.from;
    reads = k.reads;
    answers = answers ∙ k.answers ∙ ap (λ (x : Reads P E G). Base k.reads.base ∷ Front k.reads.front ∷ x.answers) holds.reading;
    plan = k.plan;
    placed = k.placed;
    side = k.side;
    is = k.is;
    lacks = k.lacks;
    later = (let l = k.later in let e = ap (λ (x : Reads P E G). x.base) holds.reading in omega arith);
    number = k.number;
    drew = subst (λ (l : List (ℕ × E)). 0 < times k.number l) holds.drawn k.drew;
    above = k.above;
  }

  -- what was known when the session looked, it has seen
  missed-for-it : (g : Geometry) (c : Call Req) (s : QueueSide P E G) (K : Shared P E G) (old taken v new : Seat P E G) (l : Obstacle) → OnlyHolds old taken → ReadsWords taken v → IsObstacle state faults group calls g c taken s v l → Sees (journal state faults group) v K → newest K ≤ new.seen → OnlyReports (reports_for c.session l v.reading.charged) v new → IsMissed state faults group calls g c old new (miss_for l)
  missed-for-it g c s K old taken v new obstacle.Memory holds words lacks sees seen only = record { rests = rests-of old taken v new v.reading.charged holds words only; charged = only.charged ∙ charges-of old taken v holds words }
  missed-for-it g c s K old taken v new obstacle.Area holds words lacks sees seen only = record {
    keeps = record { rests = rests-of old taken v new v.reading.charged holds words only; charged = only.charged ∙ charges-of old taken v holds words };
    known = K;
    seen = seen;
    lacks = area-lacked g c K old taken v new holds only.answers (lacks K sees);
  }
  missed-for-it g c s K old taken v new (obstacle.Drive cause) holds words lacks sees seen only =
      record {
        rests = rests-of old taken v new (reported c.session (report_of cause) ∷ v.reading.charged) holds words only;
        charged = only.charged ∙ ap (λ l. reported c.session (report_of cause) ∷ l) (charges-of old taken v holds words);
        known = K;
        seen = seen;
        meets = meets-before g c K cause old taken holds.opening (let a = holds.seen in omega arith) holds.drawn (lacks.1 K sees);
      }

  pub missed-for : (g : Geometry) (c : Call Req) (s : QueueSide P E G) (K : Shared P E G) (old taken v looked new : Seat P E G) (l : Obstacle) → OnlyHolds old taken → ReadsWords taken v → IsObstacle state faults group calls g c taken s v l → Sees (journal state faults group) v K → looked ≡ after_look None K v → OnlyReports (reports_for c.session l looked.reading.charged) looked new → IsMissed state faults group calls g c old new (miss_for l)
  missed-for g c s K old taken v looked new l holds words lacks sees is only =
      let w = only-looked K v looked new (reports_for c.session l looked.reading.charged) sees.seen is only in
      let same : looked.reading.charged ≡ v.reading.charged = ap (λ (x : Seat P E G). x.reading.charged) is in
      missed-for-it g c s K old taken v new l holds words lacks sees w.1 (subst (λ (cs : List Charge). OnlyReports (reports_for c.session l cs) v new) same w.0)

  -- a group whose send was cut
  pub cut-of : (g : Geometry) (c : Call Req) (done : D) (e : E) (at : ℕ) (old taken v new : Seat P E G) → OnlyHolds old taken → ReadsWords taken v → v.reading.answers ≡ Base (calls.reads e).base ∷ Front (calls.reads e).front ∷ taken.reading.answers → Tells group calls c done e → length (calls.writes done) ≤ write_limit g → HasDrawn e c.session at Off v new → WasCutAt state faults group v at → IsMissed state faults group calls g c old new (miss.Cut at)
  cut-of g c done e at old taken v new holds words answers is few drew was = record {
    replies = (calls.replies done);
    commits = commits-of group calls g c done e at Off old taken v new holds words answers is few drew;
    cut = record { above = (let a = was.above in let b = words.seen in let d = holds.seen in omega arith); side = was.side; numbered = was.numbered; number = was.number; cut = was.cut };
    under = drew.under;
  }

-- ---- what a session knows of numbers never falls

module _ {P E : Type 0} {G : Ghosts P} where
  pub goes-at-once : (v : Seat P E G) → GoesOn v v
  goes-at-once v = record { seen = omega arith; done = omega arith }

  pub goes-then : (a b c : Seat P E G) → GoesOn a b → GoesOn b c → GoesOn a c
  goes-then a b c first second = record {
    seen = (let x = first.seen in let y = second.seen in omega arith);
    done = (let x = first.done in let y = second.done in omega arith);
  }

  pub goes-same : (v w : Seat P E G) → IsSameSession v w → GoesOn v w
  goes-same v w same = record {
    seen = same.seen;
    done = (let e : w.reading.done ≡ v.reading.done = ap (λ (x : Seat P E G). x.reading.done) same.is in omega arith);
  }

  pub goes-holds : (v w : Seat P E G) → OnlyHolds v w → GoesOn v w
  goes-holds v w h = record {
    seen = (let e = h.seen in omega arith);
    done = (let e : w.reading.done ≡ v.reading.done = ap (λ x. x.done) h.reading in omega arith);
  }

  pub goes-words : (v w : Seat P E G) → ReadsWords v w → GoesOn v w
  goes-words v w words = record { seen = words.seen; done = words.done }

  pub goes-looked : (K : Shared P E G) (v w : Seat P E G) → w ≡ after_look None K v → v.seen ≤ newest K → GoesOn v w
  goes-looked K v w is low = record {
    seen = (let e : w.seen ≡ newest K = ap (λ (x : Seat P E G). x.seen) is in omega arith);
    done = (let e : w.reading.done ≡ v.reading.done = ap (λ (x : Seat P E G). x.reading.done) is in omega arith);
  }

  pub goes-reports : (reports : List Charge) (v w : Seat P E G) → OnlyReports reports v w → GoesOn v w
  goes-reports reports v w only = record { seen = only.seen; done = only.done }

  pub goes-drawn : (e : E) (q at : ℕ) (r : Report) (v w : Seat P E G) → HasDrawn e q at r v w → GoesOn v w
  goes-drawn e q at r v w drew = record { seen = (let l = drew.above in let s = drew.seen in omega arith); done = drew.done }

module _ {P E : Type 0} {G : Ghosts P} (state : P → PortState) (faults : P → List PortFault) (group : GroupView E) where
  pub goes-swept : (v w : Seat P E G) → HasSwept state faults group v w → GoesOn v w
  goes-swept v w s = record {
    seen = (let e : w.seen ≡ v.seen = ap (λ (x : Seat P E G). x.seen) s.is in omega arith);
    done = s.reading.done;
  }

  pub goes-refused : (queues at : ℕ) (c : Cause) (v w : Seat P E G) → WasRefused state faults group queues at c v w → GoesOn v w
  goes-refused queues at c v w r = record {
    seen = (let e : w.seen ≡ v.seen = ap (λ (x : Seat P E G). x.seen) r.is in omega arith);
    done = r.done;
  }

module _ {P E Req Rep D : Type 0} {G : Ghosts P} (calls : CallView E Req Rep D) where
  pub goes-read : (c : Call Req) (done : D) (at : ℕ) (v w : Seat P E G) → IsReadOf calls c done at v w → GoesOn v w
  goes-read c done at v w r = record {
    seen = (let e : w.seen ≡ at = ap (λ (x : Seat P E G). x.seen) r.looked.is in let l = r.looked.above in omega arith);
    done = (let e : w.reading.done ≡ v.reading.done = ap (λ (x : Seat P E G). x.reading.done) r.looked.is in omega arith);
  }
