-- A start state has the facts, each allowed event keeps them, and so every run is safe.
use Rattle.std.proofs.Common.{◌≡◌, ◌≤◌, true, false, List, [], ◌∷◌, sym, refl, ap, subst, ◌∙◌, inl, inr, arith, eqb}
use Rattle.std.proofs.lemmas.Bool.{eq-eqb, or_left, or_right, false≢true}
use Rattle.mq_blocks.specs.Geometry.{zone_of}
use Rattle.mq_blocks.specs.Journal.{is_among}
use Rattle.mq_ledger.specs.History.{upto, of_queue, IsAt}
use Rattle.mq_ledger.specs.Items.{Entries}
use Rattle.mq_ledger.specs.State.{State, IsStart, known_of, port_at, port_of, front_of, start_map, is_done}
use Rattle.mq_ledger.specs.State as plain
use Rattle.mq_core.proofs.KnownJournalGrowth.{side_moved}
use Rattle.mq_core.proofs.MachineFacts.{start_facts}
use Rattle.mq_core.proofs.StateBases.{due_homes}
use Rattle.mq_loose.specs.Guards.{IsLooseStart, tx_of, entries_in}
use Rattle.mq_loose.specs.Runs.{LooseEvent, IsAllowed, AreAllowed, IsAlwaysSafe, happens}
use Rattle.mq_loose.specs.Safe.{Facts}
use Rattle.mq_loose.specs.Runs.{Draw, Stage, Flush, Ring, Complete, FailCommand, StoreHead, FlushHead, Acknowledge, WriteHome, HomeDone, StoreBase, FlushBase}
use Rattle.mq_loose.proofs.Closures.{closure_front}
use Rattle.mq_loose.proofs.Homes.{last_within, at_upto}
use Rattle.mq_loose.proofs.Ports.{stage_keeps, flush_keeps, store_head_keeps, ring_keeps, complete_keeps, fail_keeps}
use Rattle.mq_loose.proofs.Events.{draw_keeps, acknowledge_keeps, write_home_keeps, home_done_keeps, store_base_keeps, flush_base_keeps}
use Rattle.mq_loose.proofs.Safe.{safe_from}

pub keeps : (e : Entries) (v : LooseEvent) (s : State) → Facts e s → IsAllowed e v s → Facts e (happens e v s)
keeps e (Draw t) s f may = draw_keeps e s (tx_of t) f refl refl may.fits
keeps e (Stage q) s f may = stage_keeps e s f q may.0 may.1
keeps e (Flush q) s f may = flush_keeps e s f q may.0
keeps e (Ring q) s f may = ring_keeps e s f q may.0 may.1
keeps e (Complete q c) s f may = complete_keeps e s f q may.0 c may.1
keeps e (FailCommand q c) s f may = fail_keeps e s f q may.0 c may.1
keeps e (StoreHead q h) s f may = store_head_keeps e s f q may.0 h may.1
keeps e (FlushHead q) s f may = flush_keeps e s f q may
keeps e (Acknowledge n) s f may = acknowledge_keeps e s n f may
keeps e (WriteHome x) s f may = write_home_keeps e s x f may
keeps e (HomeDone x) s f may = home_done_keeps e s x f may
keeps e (StoreBase b) s f may = store_base_keeps e s b f may
keeps e FlushBase s f may = flush_base_keeps e s f

pub always_safe : (e : Entries) (vs : List LooseEvent) (s : State) → Facts e s → AreAllowed e vs s → IsAlwaysSafe e vs s
always_safe e [] s f may = safe_from e s f
always_safe e (v ∷ vs) s f may = (safe_from e s f, always_safe e vs (happens e v s) (keeps e v s f may.0) may.1)

-- The facts of the journal's machine, where nothing was drawn, are those of the loose one.
loose_facts : (e : Entries) (s : State) → plain.Facts (entries_in e s) s → s.history ≡ [] → s.writing ≡ [] → s.acknowledged ≡ [] → Facts e s
loose_facts e s f none idle quiet =
    let k = known_of (entries_in e s) s in
    record {
      log = record {
        entries = f.log.entries;
        numbers = f.log.numbers;
        limit = f.log.limit;
        word_low = f.log.word_low;
        word_high = f.log.word_high;
        due = λ x v d. absurd (false≢true d);
        each = λ t ts at. (let e = f.log.each t ts at in (e.0, record { free = e.1.free; settled = e.1.settled; hidden = e.1.hidden }));
      };
      plain = λ t ts at. absurd (subst (λ h. IsAt t ts h) none at);
      ports = f.ports;
      sides = λ q own.
          let side = f.sides q own in
          side_moved k q (of_queue q s.history) (port_at s.ports q) s.history k.done (λ x v. false) k.word side (record { part = side.part; fits = side.area.fits; low = omega arith; based = side.based; done = side.done; change = λ x v l. l })
          (λ y v content inside z due there m. absurd (false≢true due));
      root = record { port = f.root.port; posted = f.root.posted; bases = f.root.bases; homes = λ y v content inside z due there m. absurd (false≢true due) };
      reached = f.log.due 0 s.root.stored_base (or_right _ _ (eq-eqb s.root.stored_base s.root.stored_base refl));
      homes = λ x v content inside base there kept.
          let due : k.due x v ≡ true = elim base [
            | inl is ↦ or_left _ _ (eq-eqb v s.root.base is)
            | inr is ↦ or_right (eqb v s.root.base) _ (eq-eqb v s.root.stored_base is)
          ] in
          let low : s.base ≤ v = (let w : s.base ≤ s.root.base = f.log.word_low in let o : s.root.base ≤ s.root.stored_base = f.root.bases.1 in elim base [ inl is ↦ omega (arith, is, w) | inr is ↦ omega (arith, is, w, o) ]) in
          due_homes (entries_in e s) s f (zone_of s.geometry x) x v content inside refl due there (last_within s.base v (upto (front_of s) s.history) x low (λ t ts at ch.
          let m = at_upto (front_of s) t ts s.history s.base f.log.numbers at in
          kept t ts m.0 (closure_front (is_done s.starts s.ports) s.base s.history t.number f.log.numbers m.1) ch));
      writing = λ x h. absurd (false≢true (sym (ap (is_among x) idle) ∙ h));
      acknowledged = λ n h. absurd (false≢true (sym (ap (is_among n) quiet) ∙ h));
    }

pub loose_start : (e : Entries) (s : State) → IsLooseStart e s → Facts e s
loose_start e s start = loose_facts e s (start_facts (entries_in e s) s start) start.history start.writing start.acknowledged

pub run_is_safe : (e : Entries) (s : State) (vs : List LooseEvent) → IsLooseStart e s → AreAllowed e vs s → IsAlwaysSafe e vs s
run_is_safe e s vs start may = always_safe e vs s (loose_start e s start) may
