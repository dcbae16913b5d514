-- What a checkpoint has done in the end.
use Rattle.std.proofs.Common.{◌≡◌, ℕ, ◌<◌, ◌≤◌, List, [], ◌∷◌, length, sym, ap, subst, ◌∙◌, inl, inr, arith}
use Rattle.std.specs.Prelude.{Some}
use Rattle.mq_blocks.specs.Drive.{PortState}
use Rattle.mq_blocks.specs.Geometry.{homes_of}
use Rattle.mq_blocks.specs.declared.geometry.Geometry.{Geometry}
use Rattle.mq_desk_laws.specs.Bases.{BaseOk}
use Rattle.mq_desk_laws.specs.Pages.{WasBrought}
use Rattle.mq_desk_laws.proofs.Pages.{raise}
use Rattle.mq_drive.specs.Steps.{PortFault}
use Rattle.mq_drive.specs.declared.port.Port.{Ghosts}
use Rattle.mq_journal.specs.Numbers
use Rattle.mq_journal.specs.Numbers.{Seat, Shared, Start}
use Rattle.mq_pages.specs.declared.page.PageCell.{PageCell}
use Rattle.mq_desk_laws.specs.Groups.{GroupView}
use Rattle.mq_desk_laws.specs.Rule
use Rattle.mq_desk_laws.specs.Rule.{IsOk, IsPage}
use Rattle.mq_desk_laws.specs.Values.{Values}
use Rattle.mq_desk_laws.proofs.RuleStaying.{core_grown}
use Rattle.mq_desk_laws.proofs.RuleTelling.{page_numbers}
use Rattle.mq_queue_side.specs.declared.answers.Cause.{Cause}
use Rattle.mq_queue_side.specs.declared.root.Root.{Root}
use Rattle.mq_queue_side.specs.declared.side.QueueSide.{QueueSide}
use Rattle.mq_turns.specs.Desk.{Below, Sees}
use Rattle.mq_turns.specs.Lists.{Each}
use Rattle.mq_turns.specs.Meaning.{Grows, Meaning, newest}
use Rattle.mq_turns.specs.Swept.{AfterFront}
use Rattle.mq_turns.specs.declared.rule.MarkAnswer.TheVariants.{Front}
use Rattle.mq_turns.proofs.Lists.{each_map}
use Rattle.mq_turns.proofs.DeskSeen.{opening_seen}
use Rattle.mq_journal.specs.Pages.{AreNoted, IsNoted}
use Rattle.mq_journal.specs.Raised.{HasRefused, IsStored, Raises}
use Rattle.mq_journal.specs.Steps.{IsRefusedBy, MovesOn, RefusesCheckpoint}
use Rattle.mq_journal.specs.declared.refusal.CheckpointRefusal.{CheckpointRefusal}
use Rattle.mq_journal.specs.declared.refusal.CheckpointRefusal.TheVariants as refused
use Rattle.mq_journal.proofs.PagesHomeViews.{done_front}
use Rattle.mq_journal.proofs.Steps.{known_before, moves_fronts, moves_on, refused_fronts, refuses_fronts, refuses_on}

module _ {P E : Type 0} {G : Ghosts P} (state : P → PortState) (faults : P → List PortFault) (group : GroupView E) where
  abbrev values : Values (QueueSide P E G) (Root P G) E
  values = Numbers.values state faults group

  abbrev μ : Meaning PageCell (QueueSide P E G) (Root P G) E
  μ = Numbers.machine state faults group

  -- ---- the pages make a base

  noted_brought : (K : Shared P E G) (base x : ℕ) (notes : List (ℕ × PageCell × Shared P E G)) → IsNoted state faults group base x notes → Each (λ n. IsOk values group n.2 × Grows n.2 K × IsPage values group n.0 n.2 n.1) notes → WasBrought (Rule.core_of values group K) base x
  noted_brought K base x [] noted known = absurd noted
  noted_brought K base x (n ∷ ns) (inr later) known = noted_brought K base x ns later known.1
  noted_brought K base x (n ∷ ns) (inl (same, brought)) known =
      let page = subst (λ y. IsPage values group y n.2 n.1) same known.0.2 in
      record {
        earlier = Rule.core_of values group n.2;
        log = known.0.0.log;
        grown = core_grown values group n.2 K known.0.1;
        reached = brought.reached;
        version = n.1.version;
        logged = n.1.last_logged;
        home = n.1.home_version;
        numbers = page_numbers values group x n.2 n.1 page;
        done = brought.done;
        brought = λ content there last low. brought.home content (page.content ∙ there) last low;
      }

  pub base_of_pages : (o : Start P E G) (g : Geometry) (v : Seat P E G) (base : ℕ) → v.opening ≡ Some o → g ≡ Rule.shape_of values group o → o.base ≤ base → base ≤ v.reading.done → AreNoted state faults group base (homes_of g) v.reading.pages
      → (K : Shared P E G) → Sees μ v K → BaseOk (Rule.core_of values group K) base
  base_of_pages o g v base opening shape low done noted K sees =
      let start = opening_seen μ o K v opening sees in
      let shaped : Rule.geometry_of values group K ≡ g = ap (Rule.shape_of values group) start ∙ sym shape in
      let first = ap (λ (s : Start P E G). s.base) start in
      raise (Rule.core_of values group K) base sees.ok.log (omega arith) (done_front state faults group v K base sees done)
      (λ x inside. noted_brought K base x v.reading.pages (noted x (subst (λ y. x < homes_of y) shaped inside)) sees.reader.pages)

  -- a number at which the session looked is not below the base at the opening
  pub looked_low : (o : Start P E G) (v : Seat P E G) (n : ℕ) → v.opening ≡ Some o → (K : Shared P E G) × (newest K ≡ n) × Sees μ v K → o.base ≤ n
  looked_low o v n opening (K, number, sees) = let first = ap (λ (s : Start P E G). s.base) (opening_seen μ o K v opening sees) in omega arith

  -- ---- the front is read

  module _ (o : Start P E G) (front : ℕ) (v w : Seat P E G) (after : AfterFront μ o front v w) where
    pub front_moves : MovesOn [] (Front front ∷ []) v w
    front_moves =
        let s = after.marks.sweep in
        let read = ap (λ (z : Seat P E G). z.reading) s.is in
        record {
          parts = ap (λ (z : Seat P E G). z.parts) after.is ∙ ap (λ (z : Seat P E G). z.parts) s.is;
          opening = ap (λ (z : Seat P E G). z.opening) after.is ∙ ap (λ (z : Seat P E G). z.opening) s.is;
          session = ap (λ (z : Seat P E G). z.session) after.is ∙ ap (λ (z : Seat P E G). z.session) s.is;
          drawn = ap (λ (z : Seat P E G). z.drawn) after.is ∙ ap (λ (z : Seat P E G). z.drawn) s.is;
          read = ap (λ (z : Seat P E G). z.read) after.is ∙ ap (λ (z : Seat P E G). z.read) s.is;
          seen = let a = ap (λ (z : Seat P E G). z.seen) after.is in let b = ap (λ (z : Seat P E G). z.seen) s.is in let l = s.below.0 in omega arith;
          done = let a = ap (λ (z : Seat P E G). z.reading.done) after.is in let b = ap (λ r. r.done) read in let l = s.kept.0 in omega arith;
          base = ap (λ (z : Seat P E G). z.reading.base) after.is ∙ (ap (λ r. r.base) read ∙ s.kept.1);
          noted = [];
          pages = ap (λ (z : Seat P E G). z.reading.pages) after.is ∙ (ap (λ r. r.pages) read ∙ s.kept.2);
          answers = ap (λ (z : Seat P E G). z.reading.answers) after.is ∙ ap (λ l. Front front ∷ l) (ap (λ r. r.answers) read ∙ s.kept.3);
          charged = ap (λ (z : Seat P E G). z.reading.charged) after.is ∙ (ap (λ r. r.charged) read ∙ s.kept.4);
        }

    -- all numbers up to it are known to be done
    pub front_known : 0 < length o.sides → front ≤ w.reading.done
    front_known some =
        let s = after.marks.sweep in
        let a = ap (λ (z : Seat P E G). z.reading.done) after.is in
        let b = ap (λ (z : Seat P E G). z.reading.done) s.is in
        let l = s.passes.ended some (omega arith) in
        omega arith

  -- ---- the answer

  pub raises : (front last base : ℕ) (v u w : Seat P E G) → MovesOn [] (Front front ∷ []) v u → IsStored state faults group base u w → Below last v → last ≤ base → front ≤ base → w.held ≡ v.held → Raises state faults group base v w
  raises front last base v u w m st below low reached held = record {
    seen = (let l = below.0 in omega arith, each_map _ _ (λ d le. omega arith) v.drawn below.1);
    front = front;
    read = ap (λ (z : Seat P E G). z.reading.answers) st.is ∙ m.answers;
    reached = reached;
    raised_to = record {
      taken = st.raised_to.taken;
      from = known_before state faults group [] (Front front ∷ []) v u st.raised_to.taken m st.raised_to.from;
      before = st.raised_to.before;
      lay = st.raised_to.lay;
      known = st.raised_to.known;
      since = known_before state faults group [] (Front front ∷ []) v u st.raised_to.known m st.raised_to.since;
      ok = st.raised_to.ok;
      root = st.raised_to.root;
      raise = st.raised_to.raise;
      flushed = st.raised_to.flushed;
      stood = st.raised_to.stood;
    };
    word = ap (λ (z : Seat P E G). z.reading.base) st.is;
    parts = ap (λ (z : Seat P E G). z.parts) st.is ∙ m.parts;
    opening = ap (λ (z : Seat P E G). z.opening) st.is ∙ m.opening;
    session = ap (λ (z : Seat P E G). z.session) st.is ∙ m.session;
    held = held;
    drawn = ap (λ (z : Seat P E G). z.drawn) st.is ∙ m.drawn;
    read_before = ap (λ (z : Seat P E G). z.read) st.is ∙ m.read;
    later = let a = ap (λ (z : Seat P E G). z.seen) st.is in let b = m.seen in omega arith;
    done = let a = ap (λ (z : Seat P E G). z.reading.done) st.is in let b = m.done in omega arith;
    charged = ap (λ (z : Seat P E G). z.reading.charged) st.is ∙ m.charged;
    noted = m.noted;
    pages = ap (λ (z : Seat P E G). z.reading.pages) st.is ∙ m.pages;
  }

  pub whole_moves : (front : ℕ) (v v1 v2 v3 : Seat P E G) → MovesOn [] [] v v1 → MovesOn [] (Front front ∷ []) v1 v2 → MovesOn [] [] v2 v3 → MovesOn [] (Front front ∷ []) v v3
  whole_moves front v v1 v2 v3 a f b = moves_on [] (Front front ∷ []) v v1 v3 a (moves_fronts [] (Front front ∷ []) v1 v2 v3 f b)

  -- ---- or a refusal

  pub refused_pages : (front : ℕ) (r : CheckpointRefusal) (v v1 v2 w : Seat P E G) → MovesOn [] [] v v1 → MovesOn [] (Front front ∷ []) v1 v2 → RefusesCheckpoint state faults group [] r v2 w → HasRefused state faults group r v w
  refused_pages front r v v1 v2 w a f x = inr (front, refuses_on state faults group (Front front ∷ []) r v v1 w a (refuses_fronts state faults group (Front front ∷ []) r v1 v2 w f x))

  pub refused_last : (front : ℕ) (c : Cause) (v u w : Seat P E G) → MovesOn [] (Front front ∷ []) v u → IsRefusedBy state faults group [] c u w → HasRefused state faults group (refused.Drive c) v w
  refused_last front c v u w m r = inr (front, refused_fronts state faults group (Front front ∷ []) c v u w m r)
