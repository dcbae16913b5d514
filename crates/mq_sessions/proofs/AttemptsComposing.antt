-- What a call leaves, from what its steps leave: of the group as a whole, and of the session.
use Rattle.std.proofs.Common.{◌≡◌, ℕ, ◌+◌, ◌<◌, ◌≤◌, Bool, true, false, List, [], ◌∷◌, length, Option, refl, sym, ap, subst, ◌∙◌, arith, Some}
use Rattle.mq_blocks.specs.Descriptor.{AreRising}
use Rattle.mq_blocks.specs.Drive.{PortState}
use Rattle.mq_blocks.specs.Geometry.{homes_of, write_limit}
use Rattle.mq_blocks.specs.declared.geometry.Geometry.{Geometry}
use Rattle.mq_blocks.proofs.DescriptorRising.{rising-few}
use Rattle.mq_desk_laws.specs.Groups.{GroupView}
use Rattle.mq_desk_laws.specs.Rule.{geometry_of, map_now, shape_of}
use Rattle.mq_drive.specs.Steps.{PortFault}
use Rattle.mq_drive.specs.declared.port.Port.{Ghosts}
use Rattle.mq_journal.specs.Draining.{report_of}
use Rattle.mq_journal.specs.Machine.{journal}
use Rattle.mq_journal.specs.Numbers.{Seat, Start, reported}
use Rattle.mq_journal.specs.Sweeping.{HasSwept}
use Rattle.mq_journal.specs.Values.{side_values}
use Rattle.mq_pages.specs.Held.{Cells}
use Rattle.mq_pages.specs.declared.page.Write.{Write}
use Rattle.mq_turns.specs.Lists.{times}
use Rattle.mq_turns.specs.declared.rule.MarkAnswer.TheVariants.{Base, Front}
use Rattle.mq_turns.specs.declared.rule.Report.{Report}
use Rattle.mq_turns.specs.declared.rule.Report.TheVariants as report
use Rattle.mq_sessions.specs.Acts.{KeepsAll, Rests, WaitsForNone}
use Rattle.mq_sessions.specs.Attempts.{Acts, Commits, HasActed, IsAreaFull, IsTooLarge, ReadsGroup, ReadsOnly}
use Rattle.mq_sessions.specs.Calls.{Call, HasCalled}
use Rattle.mq_sessions.specs.Committing.{IsMissed}
use Rattle.mq_sessions.specs.Drawn.{blocks_in}
use Rattle.mq_sessions.specs.Executors.{AnswersAreOfCalls, CallView, DoneGroupsAreOnMaps, DoneGroupsRise, EntriesTell, IsReadOf}
use Rattle.mq_sessions.specs.Pages.{HoldsPages, IsSeen}
use Rattle.mq_sessions.specs.Refusing.{IsTurnedDown, before, cut, memory, too_large}
use Rattle.mq_sessions.specs.Synchronizing.{IsDurable, IsNotDurable, WasDrainRefused, after}
use Rattle.mq_sessions.specs.Wanted.{IsSameSession}
use Rattle.mq_sessions.specs.declared.answers.RefusalCause.{RefusalCause}
use Rattle.mq_sessions.specs.declared.committing.Miss.{Miss}
use Rattle.mq_sessions.specs.declared.committing.Miss.TheVariants as miss
use Rattle.mq_sessions.proofs.Attempts.{known-before, meets-before}
use Rattle.mq_sessions.proofs.ExecutorsNow.{done-now, shape-is}
use Rattle.mq_sessions.proofs.SessionsCalled.{called-drawn, called-read, called-rests}

-- ---- how many blocks a group writes

length-blocks : (ws : List Write) → length (blocks_in ws) ≡ length ws
length-blocks [] = refl
length-blocks (w ∷ ws) = let rest = length-blocks ws in omega arith

module _ {P E Req Rep D : Type 0} {G : Ghosts P} (state : P → PortState) (faults : P → List PortFault) (group : GroupView E) (calls : CallView E Req Rep D) where
  -- no more than there are home blocks
  pub written-few : (g : Geometry) (o : Start P E G) (q : ℕ) (requests : List Req) (cells : Cells) (v : Seat P E G) (done : D) → DoneGroupsAreOnMaps calls group.good → DoneGroupsRise group calls → v.opening ≡ Some o → shape_of (side_values state faults) group o ≡ g → HoldsPages (journal state faults group) o cells v → IsSeen (journal state faults group) v → calls.on_cells g q cells requests done → length (calls.writes done) ≤ homes_of g
  written-few g o q requests cells v done maps rises opening shape holds seen on =
      let stands = done-now state faults group g o cells v opening shape holds calls maps q requests done on seen in
      let K = seen.0 in
      let rise = rises (geometry_of (side_values state faults) group K) q (map_now (side_values state faults) group K) requests done (stands.does K seen.1) in
      let here = subst (λ (x : Geometry). AreRising 0 (homes_of x) (blocks_in (calls.writes done))) (shape-is state faults group g o cells v opening shape holds K seen.1) rise in
      let few = rising-few 0 (homes_of g) (blocks_in (calls.writes done)) here in
      let same = length-blocks (calls.writes done) in
      omega arith

module _ {P E Req Rep D : Type 0} {G : Ghosts P} (group : GroupView E) (calls : CallView E Req Rep D) where
  -- ---- a group that was read

  pub reads-of : (c : Call Req) (done : D) (at : ℕ) (v w : Seat P E G) → EntriesTell group calls → (r : IsReadOf calls c done at v w) → ReadsGroup calls c (calls.replies done) at r.entry v w
  reads-of c done at v w tell r = record {
    is = (tell c done r.entry r.is).of_call;
    known = r.looked.known;
    number = r.looked.number;
    drawn = ap (λ (x : Seat P E G). x.drawn) r.looked.is;
    read = ap (λ (x : Seat P E G). x.read) r.looked.is;
    above = r.looked.above;
    answers = ap (λ (x : Seat P E G). x.reading.answers) r.looked.is;
    charged = ap (λ (x : Seat P E G). x.reading.charged) r.looked.is;
  }

  pub only-read : (c : Call Req) (done : D) (at : ℕ) (v w : Seat P E G) → EntriesTell group calls → IsReadOf calls c done at v w → calls.writes done ≡ [] → calls.frees done ≡ [] → ReadsOnly calls c (calls.replies done) at v w
  only-read c done at v w tell r writes frees = record {
    entry = r.entry;
    reads = reads-of c done at v w tell r;
    writes = (tell c done r.entry r.is).written ∙ writes;
    frees = (tell c done r.entry r.is).freed ∙ frees;
  }

  pub large-of : (g : Geometry) (c : Call Req) (done : D) (at count limit : ℕ) (v w : Seat P E G) → EntriesTell group calls → IsReadOf calls c done at v w → limit ≡ write_limit g → count ≡ length (calls.writes done) → limit < count → IsTooLarge calls g c count limit v w
  large-of g c done at count limit v w tell r limit_is count_is above = record {
    replies = calls.replies done;
    at = at;
    entry = r.entry;
    reads = reads-of c done at v w tell r;
    limit_is = limit_is;
    count_is = count_is ∙ ap length (sym (tell c done r.entry r.is).written);
    above = above;
  }

  pub waits-read : (q at n : ℕ) (c : Call Req) (done : D) (v w : Seat P E G) → IsReadOf calls c done n v w → WaitsForNone q at false v w
  waits-read q at n c done v w r = ap (λ (x : Seat P E G). x.reading) r.looked.is

module _ {P E : Type 0} {G : Ghosts P} where
  rests-same : (v m w : Seat P E G) → IsSameSession v m → Rests m w → Rests v w
  rests-same v m w same k = record {
    drawn = k.drawn ∙ ap (λ (x : Seat P E G). x.drawn) same.is;
    read = k.read ∙ ap (λ (x : Seat P E G). x.read) same.is;
  }

  keeps-same : (v m w : Seat P E G) → IsSameSession v m → KeepsAll m w → KeepsAll v w
  keeps-same v m w same k = record {
    rests = rests-same v m w same k.rests;
    charged = k.charged ∙ ap (λ (x : Seat P E G). x.reading.charged) same.is;
  }

module _ {P E Req Rep D : Type 0} {G : Ghosts P} (calls : CallView E Req Rep D) where
  -- ---- what stands before the group changes nothing of what it leaves

  commits-same : (g : Geometry) (c : Call Req) (replies : List Rep) (at : ℕ) (r : Report) (v m w : Seat P E G) → IsSameSession v m → Commits calls g c replies at r m w → Commits calls g c replies at r v w
  commits-same g c replies at r v m w same k = record {
    entry = k.entry;
    is = k.is;
    drawn = k.drawn ∙ ap (λ (x : Seat P E G). (at, k.entry) ∷ x.drawn) same.is;
    read = k.read ∙ ap (λ (x : Seat P E G). x.read) same.is;
    above = (let a = same.seen in let b = k.above in omega arith);
    few = k.few;
    answers = k.answers ∙ ap (λ (x : Seat P E G). Base (calls.reads k.entry).base ∷ Front (calls.reads k.entry).front ∷ x.reading.answers) same.is;
    charged = k.charged ∙ ap (λ (x : Seat P E G). reported c.session r ∷ x.reading.charged) same.is;
  }

  reads-same : (c : Call Req) (replies : List Rep) (at : ℕ) (e : E) (v m w : Seat P E G) → IsSameSession v m → ReadsGroup calls c replies at e m w → ReadsGroup calls c replies at e v w
  reads-same c replies at e v m w same k = record {
    is = k.is;
    known = k.known;
    number = k.number;
    drawn = k.drawn ∙ ap (λ (x : Seat P E G). x.drawn) same.is;
    read = k.read ∙ ap (λ (x : Seat P E G). (e, k.known) ∷ x.read) same.is;
    above = (let a = same.seen in let b = k.above in omega arith);
    answers = k.answers ∙ ap (λ (x : Seat P E G). x.reading.answers) same.is;
    charged = k.charged ∙ ap (λ (x : Seat P E G). x.reading.charged) same.is;
  }

  pub acts-same : (g : Geometry) (c : Call Req) (at : ℕ) (drew : Bool) (replies : List Rep) (v m w : Seat P E G) → IsSameSession v m → Acts calls g c at drew replies m w → Acts calls g c at drew replies v w
  acts-same g c at true replies v m w same a = commits-same g c replies at (report.Sent at) v m w same a
  acts-same g c at false replies v m w same a = record { entry = a.entry; reads = reads-same c replies at a.entry v m w same a.reads; writes = a.writes; frees = a.frees }

  large-same : (g : Geometry) (c : Call Req) (count limit : ℕ) (v m w : Seat P E G) → IsSameSession v m → IsTooLarge calls g c count limit m w → IsTooLarge calls g c count limit v w
  large-same g c count limit v m w same k = record {
    replies = k.replies;
    at = k.at;
    entry = k.entry;
    reads = reads-same c k.replies k.at k.entry v m w same k.reads;
    limit_is = k.limit_is;
    count_is = k.count_is;
    above = k.above;
  }

module _ {P E Req Rep D : Type 0} {G : Ghosts P} (state : P → PortState) (faults : P → List PortFault) (group : GroupView E) (calls : CallView E Req Rep D) where
  full-same : (g : Geometry) (c : Call Req) (v m w : Seat P E G) → IsSameSession v m → IsAreaFull state faults group calls g c m w → IsAreaFull state faults group calls g c v w
  full-same g c v m w same k = record {
    keeps = keeps-same v m w same k.keeps;
    known = k.known;
    seen = k.seen;
    lacks = record {
      from = known-before state faults group v m k.known (ap (λ (x : Seat P E G). x.opening) same.is) same.seen (ap (λ (x : Seat P E G). x.drawn) same.is) k.lacks.from;
      reads = k.lacks.reads;
      answers = k.lacks.answers ∙ ap (λ (x : Seat P E G). Base k.lacks.reads.base ∷ Front k.lacks.reads.front ∷ x.reading.answers) same.is;
      plan = k.lacks.plan;
      placed = k.lacks.placed;
      side = k.lacks.side;
      is = k.lacks.is;
      lacks = k.lacks.lacks;
      later = (let l = k.lacks.later in let e = ap (λ (x : Seat P E G). x.reading.base) same.is in omega arith);
      number = k.lacks.number;
      drew = subst (λ (l : List (ℕ × E)). 0 < times k.lacks.number l) (ap (λ (x : Seat P E G). x.drawn) same.is) k.lacks.drew;
      above = k.lacks.above;
    };
  }

  pub missed-same : (g : Geometry) (c : Call Req) (v m w : Seat P E G) (x : Miss) → IsSameSession v m → IsMissed state faults group calls g c m w x → IsMissed state faults group calls g c v w x
  missed-same g c v m w miss.AreaFull same k = full-same g c v m w same k
  missed-same g c v m w miss.Memory same k = keeps-same v m w same k
  missed-same g c v m w (miss.Large count limit) same k = large-same calls g c count limit v m w same k
  missed-same g c v m w (miss.Refused x) same k = record {
    rests = rests-same v m w same k.rests;
    charged = k.charged ∙ ap (λ (z : Seat P E G). reported c.session (report_of x) ∷ z.reading.charged) same.is;
    known = k.known;
    seen = k.seen;
    meets = meets-before state faults group calls g c k.known x v m (ap (λ (z : Seat P E G). z.opening) same.is) same.seen (ap (λ (z : Seat P E G). z.drawn) same.is) k.meets;
  }
  missed-same g c v m w (miss.Cut at) same k = record {
    replies = k.replies;
    commits = commits-same calls g c k.replies at report.Off v m w same k.commits;
    cut = record { above = (let a = k.cut.above in let b = same.seen in omega arith); side = k.cut.side; numbered = k.cut.numbered; number = k.cut.number; cut = k.cut.cut };
    under = k.under;
  }

  -- ---- the session's next call

  pub called-acts : (g : Geometry) (c : Call Req) (at : ℕ) (drew : Bool) (replies : List Rep) (v w : Seat P E G) → AnswersAreOfCalls group calls → Acts calls g c at drew replies v w → HasCalled group c.count v → HasCalled group (c.count + 1) w
  called-acts g c at true replies v w law a h = called-drawn group c.count at a.entry v w (law c replies a.entry a.is).1 a.drawn a.read h
  called-acts g c at false replies v w law a h = called-read group c.count a.entry a.reads.known v w (law c replies a.entry a.reads.is).1 a.reads.drawn a.reads.read h

  pub called-turned : (g : Geometry) (c : Call Req) (v w : Seat P E G) (why : RefusalCause) (drawn : Option ℕ) → AnswersAreOfCalls group calls → IsTurnedDown state faults group calls g c v w why drawn → HasCalled group c.count v → HasCalled group (c.count + 1) w
  called-turned g c v w why drawn law (memory k) h = called-rests group c.count v w k.rests h
  called-turned g c v w why drawn law (too_large k) h = called-read group c.count k.entry k.reads.known v w (law c k.replies k.entry k.reads.is).1 k.reads.drawn k.reads.read h
  called-turned g c v w why drawn law (before k) h = called-rests group c.count v w k.rests h
  called-turned g c v w why drawn law (cut {at} k) h = called-drawn group c.count at k.commits.entry v w (law c k.replies k.commits.entry k.commits.is).1 k.commits.drawn k.commits.read h

  -- ---- queues were drained after it

  acts-swept : (g : Geometry) (c : Call Req) (at : ℕ) (drew : Bool) (replies : List Rep) (v m w : Seat P E G) → HasSwept state faults group m w → Acts calls g c at drew replies v m → Acts calls g c at drew replies v w
  acts-swept g c at true replies v m w s a = record {
    entry = a.entry;
    is = a.is;
    drawn = ap (λ (x : Seat P E G). x.drawn) s.is ∙ a.drawn;
    read = ap (λ (x : Seat P E G). x.read) s.is ∙ a.read;
    above = a.above;
    few = a.few;
    answers = s.reading.answers ∙ a.answers;
    charged = s.reading.charged ∙ a.charged;
  }
  acts-swept g c at false replies v m w s a = record {
    entry = a.entry;
    reads = record {
      is = a.reads.is;
      known = a.reads.known;
      number = a.reads.number;
      drawn = ap (λ (x : Seat P E G). x.drawn) s.is ∙ a.reads.drawn;
      read = ap (λ (x : Seat P E G). x.read) s.is ∙ a.reads.read;
      above = a.reads.above;
      answers = s.reading.answers ∙ a.reads.answers;
      charged = s.reading.charged ∙ a.reads.charged;
    };
    writes = a.writes;
    frees = a.frees;
  }

  pub acted-swept : (g : Geometry) (c : Call Req) (at : ℕ) (drew : Bool) (replies : List Rep) (v m w : Seat P E G) → HasSwept state faults group m w → HasActed state faults group calls g c at drew replies v m → HasActed state faults group calls g c at drew replies v w
  acted-swept g c at drew replies v m w s a = record { from = a.from; begins = a.begins; acts = acts-swept g c at drew replies a.from m w s a.acts }

  pub durable-of : (g : Geometry) (c : Call Req) (at : ℕ) (drew : Bool) (replies : List Rep) (v m w : Seat P E G) → HasActed state faults group calls g c at drew replies v m → HasSwept state faults group m w → at ≤ w.reading.done → IsDurable state faults group calls g c at drew replies v w
  durable-of g c at drew replies v m w a s done = record { acted = acted-swept g c at drew replies v m w s a; done = done }

  pub not-durable : (g : Geometry) (c : Call Req) (at : ℕ) (drew : Bool) (replies : List Rep) (v m w : Seat P E G) (why : RefusalCause) (drawn : Option ℕ) → HasActed state faults group calls g c at drew replies v m → WasDrainRefused state faults group g at drew m w why drawn → IsNotDurable state faults group calls g c v w why drawn
  not-durable g c at drew replies v m w why drawn a r = subst (λ (x : RefusalCause). IsNotDurable state faults group calls g c v w x drawn) (sym r.cause_is) (after (record {
    at = at;
    drew = drew;
    replies = replies;
    between = m;
    acted = a;
    refused = r.refused;
    upto = r.upto;
    drawn_is = r.drawn_is;
  }))
