-- A start state has the facts, and each allowed event keeps them.
use Rattle.std.proofs.Common.{◌≡◌, ℕ, ◌<◌, List, [], ◌∷◌, length, get_or, Some, sym, refl, ap, subst, inl, inr, arith, eqb}
use Rattle.std.proofs.lemmas.Bool.{eqb-true, or_cases, false≢true}
use Rattle.mq_blocks.specs.Drive.{AreFrom, AreCounted}
use Rattle.mq_blocks.specs.declared.command.Command.{Command}
use Rattle.mq_ledger.specs.Items.{Entries}
use Rattle.mq_ledger.specs.Sides.{SideOk, AreOwn, AreNext}
use Rattle.mq_ledger.specs.State.{State, Facts, IsLawful, IsStart, IsStartPort, port_at, from_at, known_of}
use Rattle.mq_core.specs.Machine.{Event, Draw, Stage, Flush, Ring, Complete, FailCommand, StoreHead, FlushHead, Clear, Acknowledge, WriteHome, HomeDone, StoreBase, FlushBase, IsAllowed, AreAllowed, IsAlwaysLawful, happens}
use Rattle.mq_core.proofs.StatePorts.{stage_keeps, flush_keeps, store_head_keeps, ring_keeps, complete_keeps, fail_keeps}
use Rattle.mq_core.proofs.StateEvents.{draw_keeps, clear_keeps, acknowledge_keeps, write_home_keeps, home_done_keeps}
use Rattle.mq_core.proofs.StateSafe.{posted_once, safe_from}
use Rattle.mq_core.proofs.StateBases.{store_base_keeps, flush_base_keeps}

pub keeps : (e : Entries) (v : Event) (s : State) → Facts e s → IsAllowed e v s → Facts e (happens e v s)
keeps e (Draw t) s f may = draw_keeps e s t f may.0 may.1 may.2
keeps e (Stage q) s f may = stage_keeps e s f q may.0 may.1
keeps e (Flush q) s f may = flush_keeps e s f q may.0
keeps e (Ring q) s f may = ring_keeps e s f q may.0 may.1
keeps e (Complete q c) s f may = complete_keeps e s f q may.0 c may.1
keeps e (FailCommand q c) s f may = fail_keeps e s f q may.0 c may.1
keeps e (StoreHead q h) s f may = store_head_keeps e s f q may.0 h may.1
keeps e (FlushHead q) s f may = flush_keeps e s f q may
keeps e (Clear q low) s f may = clear_keeps e s q low f may
keeps e (Acknowledge n) s f may = acknowledge_keeps e s n f may
keeps e (WriteHome x) s f may = write_home_keeps e s x f may
keeps e (HomeDone x) s f may = home_done_keeps e s x f may
keeps e (StoreBase b) s f may = store_base_keeps e s b f may
keeps e FlushBase s f may = flush_base_keeps e s f

pub lawful_from : (e : Entries) (s : State) → Facts e s → IsLawful e s
lawful_from e s f = record { safe = safe_from e s f; facts = f; once = posted_once e s f }

pub always_lawful : (e : Entries) (vs : List Event) (s : State) → Facts e s → AreAllowed e vs s → IsAlwaysLawful e vs s
always_lawful e [] s f may = lawful_from e s f
always_lawful e (v ∷ vs) s f may = (lawful_from e s f, always_lawful e vs (happens e v s) (keeps e v s f may.0) may.1)

-- ---- where it starts

abbrev emptied : State → State
emptied s = record s { history = []; writing = []; acknowledged = [] }

side_start : (e : Entries) (s : State) (q : ℕ) → q < s.geometry.queues → s.root.base ≡ s.base → IsStartPort e (emptied s) (Some q) (from_at s.starts q) (port_at s.ports q) → SideOk (known_of e (emptied s)) q [] (port_at s.ports q)
side_start e s q own word p =
    let doorbell = p.doorbell in
    let head = p.head in
    let stored = p.stored_head in
    let flushed = p.flushed_end in
    let none : length (port_at s.ports q).pending ≡ 0 = ap (λ (cs : List Command). length cs) p.pending in
    record {
      queue = own;
      part = ([], refl);
      port = p.port;
      order = record {
        head_low = omega arith;
        stored = omega arith;
        rung = omega arith;
        flushed = omega arith;
        staged = omega arith;
        drawn = omega arith;
        room = omega arith;
      };
      limit = omega (arith, p.low);
      ends = record { head = omega arith; stored = omega arith; doorbell = omega arith };
      ring = record {
        settled = λ n f. ap (λ (l : List (List ℕ)). get_or l n []) p.staged;
        start = λ some at. p.newest some;
        rung = λ c low near high. absurd (omega arith);
        waits = λ c low high. absurd (omega arith);
      };
      commands = record {
        pending = subst (λ cs. AreOwn e.form s.geometry q (from_at s.starts q) [] cs) (sym p.pending) tt;
        pending_counts = subst (λ cs. AreNext (port_at s.ports q).doorbell cs) (sym p.pending) tt;
        posted = subst (λ cs. AreOwn e.form s.geometry q (from_at s.starts q) [] cs) (sym p.posted) tt;
        posted_counts = subst (λ cs. AreCounted (port_at s.ports q).stored_head (port_at s.ports q).doorbell cs) (sym p.posted) tt;
        failed = subst (λ cs. AreOwn e.form s.geometry q (from_at s.starts q) [] cs) (sym p.failed) tt;
        failed_counts = subst (λ cs. AreFrom (port_at s.ports q).stored_head cs) (sym p.failed) tt;
      };
      area = record {
        fits = omega arith;
        limit = omega arith;
        holds = λ c place low d target. absurd (let r = d.rung in omega arith);
      };
      based = omega arith;
      done = λ t ts at. absurd at;
      direct = λ c x low d. absurd (let r = d.rung in omega arith);
      homes = p.homes;
    }

empty_facts : (e : Entries) (s : State) → IsStart e (emptied s) → Facts e (emptied s)
empty_facts e s st =
    let base = st.base in
    let stored = st.stored_base in
    record {
      form = st.form;
      log = record {
        entries = st.entries;
        numbers = tt;
        limit = omega (arith, st.low);
        word_low = omega arith;
        word_high = omega arith;
        due = λ x v d. elim (or_cases (eqb v s.root.base) (eqb v s.root.stored_base) d) [
          | inl a ↦ (let is = eqb-true _ _ a in omega arith)
          | inr b ↦ (let is = eqb-true _ _ b in omega arith)
        ];
        each = λ t ts at. absurd at;
      };
      ports = st.ports;
      marked = st.marked;
      sides = λ q own. side_start e s q own st.base (st.each q own);
      root = record { port = st.root.port; posted = st.root.posted; bases = (omega arith, omega arith); homes = st.root.homes };
      marks = λ t ts at. absurd at;
      writing = λ x h. absurd (false≢true h);
      acknowledged = λ n h. absurd (false≢true h);
    }

pub start_facts : (e : Entries) (s : State) → IsStart e s → Facts e s
start_facts e s st =
    let same : s ≡ emptied s = λ i. record s { history = st.history i; writing = st.writing i; acknowledged = st.acknowledged i } in
    subst (λ t. Facts e t) (sym same) (empty_facts e s (subst (λ t. IsStart e t) same st))

-- every run of allowed events from a start state is lawful throughout
pub run_is_lawful : (e : Entries) (s : State) (vs : List Event) → IsStart e s → AreAllowed e vs s → IsAlwaysLawful e vs s
run_is_lawful e s vs start may = always_lawful e vs s (start_facts e s start) may
