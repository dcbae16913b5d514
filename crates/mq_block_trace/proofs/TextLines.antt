-- The lines of a text on the machine, one after another.
use Rattle.std.proofs.Common.{◌≡◌, ◌<◌, ◌≤◌, ℕ, zero, suc, ◌+◌, ◌-◌, ◌*◌, ◌^◌, List, [], ◌∷◌, ◌++◌, length, replicate, Some, refl, sym, ◌∙◌, ap, subst, inl, inr, arith}
use Rattle.std.specs.List.{AllByRecursion}
use Rattle.std.proofs.lemmas.Bool.{cases_lt, false≢true}
use Rattle.mq_blocks.specs.Drive.{PortState, after_flush, after_ring, after_store_head}
use Rattle.mq_blocks.specs.declared.command.Command.{Command}
use Rattle.mq_blocks.specs.declared.geometry.Geometry.{Geometry}
use Rattle.mq_block_text.specs.Text.{IsGoodText, places_of, sets_in}
use Rattle.mq_core.proofs.HistoryFronts.{all_of_at}
use Rattle.mq_core.specs.Events.{MayClear, complete_side, stage_side}
use Rattle.mq_core.specs.Machine.{AreAllowed, IsAllowed, happens, run}
use Rattle.mq_core.specs.Start.{fresh_port}
use Rattle.mq_core.specs.declared.event.Event.{Event}
use Rattle.mq_core.specs.declared.event.Event.TheVariants.{Draw, Stage, Flush, Ring, Complete, StoreHead, FlushHead, Acknowledge}
use Rattle.mq_ledger.specs.History.{of_queue}
use Rattle.mq_ledger.specs.Items.{next}
use Rattle.mq_ledger.specs.Plain.{plain}
use Rattle.mq_ledger.specs.State.{is_done}
use Rattle.mq_ledger.specs.declared.tx.Tx.{Tx}
use Rattle.mq_block_trace.specs.Fresh.{IsTextGeometry}
use Rattle.mq_block_trace.specs.Lines.{line_at, map_after}
use Rattle.mq_block_trace.specs.Prefixes.{line_events, places_upto}
use Rattle.mq_block_trace.specs.Traced.{blank_start, completed, cut_after, drawn_at, drawn_upto, events_upto, executed, port_events, text_start, tx_events}
use Rattle.mq_block_trace.proofs.CutOff.{all_cut, cut_past, cut_within, ports_append}
use Rattle.mq_block_trace.proofs.Drawn.{form_is, frees_there}
use Rattle.mq_block_trace.proofs.Fronts.{Lines, all_done, end_is, entries_at, front_whole, length-drawn, next_is, own_all, places_few}
use Rattle.mq_block_trace.proofs.LinesFills.{good_line_at}
use Rattle.mq_block_trace.proofs.OneQueue.{IsIdle, Leads, allowed_append, at, at_start, executes, heads, leads_append, run_append}

pub lines_few : (lines : Lines) → length lines ≤ places_of lines
lines_few [] = omega arith
lines_few (l ∷ ls) = omega (arith, lines_few ls)

-- the entries of a line
abbrev pub entries : Lines → ℕ → ℕ
entries lines n = sets_in (line_at lines n) + 1

-- the events of a line
abbrev pub line_trace : Lines → ℕ → List Event
line_trace lines n = tx_events (drawn_at lines n) (places_upto lines n) (entries lines n)

-- ---- how many events are on ports

ports_stages : (n : ℕ) → port_events (replicate n (Stage 0)) ≡ n
ports_stages zero = refl
ports_stages (suc n) = omega (arith, ports_stages n)

ports_completed : (count n : ℕ) → port_events (completed count n) ≡ n
ports_completed count zero = refl
ports_completed count (suc n) = omega (arith, ports_completed (count + 1) n)

pub ports_executed : (count n : ℕ) → port_events (executed count n) ≡ 2 * n + 2
ports_executed count n = omega (arith, ports_append (replicate n (Stage 0)) (Flush 0 ∷ Ring 0 ∷ completed count n), ports_stages n, ports_completed count n)

pub ports_line : (lines : Lines) (n : ℕ) → port_events (line_trace lines n) ≡ line_events (line_at lines n)
ports_line lines n =
    omega (arith, ports_append (executed (places_upto lines n) (entries lines n)) (StoreHead 0 (places_upto lines n + entries lines n) ∷ FlushHead 0 ∷ Acknowledge (n + 1) ∷ []), ports_executed (places_upto lines n) (entries lines n))

-- ---- a line

module _ (g : Geometry) (lines : Lines) (text : IsTextGeometry g) (good : IsGoodText lines) where
  may_clear : (n : ℕ) (p : PortState) (mark : ℕ) (told : List ℕ) → n ≤ length lines → IsIdle (places_upto lines n) p → MayClear (at g (drawn_upto lines n) p mark told) 0 (n + 1)
  may_clear n p mark told within idle = record {
    queue = omega (arith, text.queues);
    each = λ t ts stands own undone. absurd (false≢true (sym undone ∙ all_of_at (is_done (0 ∷ []) (p ∷ [])) t ts (drawn_upto lines n) (all_done lines good n p within idle.head) stands));
  }

  may_draw : (n : ℕ) (p : PortState) (told : List ℕ) → n < length lines → IsIdle (places_upto lines n) p → IsAllowed plain (Draw (drawn_at lines n)) (at g (drawn_upto lines n) p (n + 1) told)
  may_draw n p told less idle =
      let few = places_few lines good (suc n) less in
      let count = entries_at lines good n less in
      let doorbell = idle.doorbell in
      let head = idle.head in
      let nothing : length p.pending ≡ 0 = ap (λ (cs : List Command). length cs) idle.pending in
      let end = end_is lines good n (omega arith) in
      let place = ap next (own_all lines good n) ∙ next_is lines good n (omega arith) in
      let area = text.area in (
        record {
          form = form_is g (map_after lines n) (n + 1) (line_at lines n) text (good_line_at lines n less good.0);
          number = omega (arith, length-drawn lines good n);
          limit = omega (arith, lines_few lines, good.1);
          freed = λ x e. frees_there g lines n x text e;
          free = λ x e. absurd (false≢true e);
          settled = λ x e. absurd (false≢true e);
          revoked = λ x e. absurd (false≢true e);
        },
        record {
          rung = omega (arith, doorbell, end);
          failed = idle.failed;
          ring = omega (arith, count.0, few, doorbell, head, nothing);
          area = omega (arith, count.1, few, place, area);
          places = omega (arith, count.1, few, place);
          limit = omega (arith, count.0, few, end);
        },
        omega arith,
      )

  -- a line's events are allowed, and the port is idle behind it
  pub record Passes (n : ℕ) (p : PortState) (mark : ℕ) (told : List ℕ) : Type 0 where
    pub allowed : AreAllowed plain (line_trace lines n) (at g (drawn_upto lines n) p mark told)
    pub port : PortState
    pub is : run plain (line_trace lines n) (at g (drawn_upto lines n) p mark told) ≡ at g (drawn_upto lines (suc n)) port (n + 1) ((n + 1) ∷ told)
    pub idle : IsIdle (places_upto lines (suc n)) port

  acknowledges : (n : ℕ) (told : List ℕ) (p : PortState) → n < length lines → IsIdle (places_upto lines (suc n)) p
      → Leads g (drawn_upto lines (suc n)) (n + 1) told ((n + 1) ∷ told) p (Acknowledge (n + 1) ∷ []) (IsIdle (places_upto lines (suc n)))
  acknowledges n told p less idle = record {
    allowed = (omega (arith, front_whole lines good g p (n + 1) told (suc n) less idle.head), tt);
    port = p;
    is = refl;
    then = idle;
  }

  pub passes : (n : ℕ) (p : PortState) (mark : ℕ) (told : List ℕ) → n < length lines → IsIdle (places_upto lines n) p → Passes n p mark told
  passes n p mark told less idle =
      let txs = drawn_upto lines (suc n) in
      let start = places_upto lines n in
      let end = places_upto lines (suc n) in
      let one = text.queues in
      let whole = end_is lines good (suc n) less in
      let body = executes g one txs (n + 1) told start (entries lines n) p idle (omega arith) (sym whole) in
      let all = leads_append g txs (n + 1) told told ((n + 1) ∷ told) p (executed start (entries lines n)) (StoreHead 0 end ∷ FlushHead 0 ∷ Acknowledge (n + 1) ∷ []) body (λ q running.
      leads_append g txs (n + 1) told told ((n + 1) ∷ told) q (StoreHead 0 end ∷ FlushHead 0 ∷ []) (Acknowledge (n + 1) ∷ []) (heads g one txs (n + 1) told start end q running (omega arith) whole) (λ r done. acknowledges n told r less done)) in
      record {
        allowed = (may_clear n p mark told (omega arith) idle, (may_draw n p told less idle, all.allowed));
        port = all.port;
        is = all.is;
        idle = all.then;
      }

  -- ---- the first lines

  pub record After (n : ℕ) : Type 0 where
    pub allowed : AreAllowed plain (events_upto lines n) (text_start g)
    pub port : PortState
    pub mark : ℕ
    pub told : List ℕ
    pub is : run plain (events_upto lines n) (text_start g) ≡ at g (drawn_upto lines n) port mark told
    pub idle : IsIdle (places_upto lines n) port

  pub after_lines : (n : ℕ) → n ≤ length lines → After n
  after_lines zero within = record {
    allowed = tt;
    port = fresh_port g (blank_start g) 0 (Some 0);
    mark = 2 ^ 64 - 1;
    told = [];
    is = at_start g text.queues;
    idle = record { doorbell = refl; pending = refl; posted = refl; failed = refl; head = refl; stored = refl };
  }
  after_lines (suc n) within =
      let old = after_lines n (omega arith) in
      let line = passes n old.port old.mark old.told within old.idle in
      record {
        allowed = allowed_append (events_upto lines n) (line_trace lines n) (text_start g) old.allowed (subst (AreAllowed plain (line_trace lines n)) (sym old.is) line.allowed);
        port = line.port;
        mark = n + 1;
        told = (n + 1) ∷ old.told;
        is = run_append (events_upto lines n) (line_trace lines n) (text_start g) ∙ ap (run plain (line_trace lines n)) old.is ∙ line.is;
        idle = line.idle;
      }

-- ---- a cut in a line

module _ (g : Geometry) (txs : List Tx) (mark : ℕ) (told : List ℕ) where
  -- the event leaves the heads of a port whose stored head is flushed
  abbrev IsStill : Event → Type 0
  IsStill e =
      (p : PortState) → p.stored_head ≡ p.head
      → (q : PortState) × (happens plain e (at g txs p mark told) ≡ at g txs q mark told) × (q.head ≡ p.head) × (q.stored_head ≡ p.head)

  still_stage : IsStill (Stage 0)
  still_stage p same = (stage_side plain g 0 0 (of_queue 0 txs) p, refl, refl, same)

  still_complete : (count : ℕ) → IsStill (Complete 0 count)
  still_complete count p same = (complete_side count p, refl, refl, same)

  still_stages : (n : ℕ) (es : List Event) → AllByRecursion IsStill es → AllByRecursion IsStill (replicate n (Stage 0) ++ es)
  still_stages zero es rest = rest
  still_stages (suc n) es rest = (still_stage, still_stages n es rest)

  still_completed : (count n : ℕ) → AllByRecursion IsStill (completed count n)
  still_completed count zero = tt
  still_completed count (suc n) = (still_complete count, still_completed (count + 1) n)

  still_executed : (count n : ℕ) → AllByRecursion IsStill (executed count n)
  still_executed count n = still_stages n (Flush 0 ∷ Ring 0 ∷ completed count n) (λ p same. (after_flush p, refl, same, same), ((λ p same. (after_ring p, refl, refl, same)), still_completed count n))

  pub record Stays (p : PortState) (es : List Event) : Type 0 where
    pub port : PortState
    pub is : run plain es (at g txs p mark told) ≡ at g txs port mark told
    pub head : port.head ≡ p.head
    pub stored : port.stored_head ≡ p.head

  stays : (es : List Event) (p : PortState) → AllByRecursion IsStill es → p.stored_head ≡ p.head → Stays p es
  stays [] p still same = record { port = p; is = refl; head = refl; stored = same }
  stays (e ∷ es) p still same =
      let one = still.0 p same in
      let rest = stays es one.0 still.1 (one.3 ∙ sym one.2) in
      record {
        port = rest.port;
        is = ap (run plain es) one.1 ∙ rest.is;
        head = rest.head ∙ one.2;
        stored = rest.stored ∙ one.2;
      }

  -- what is left where a transaction is cut
  pub record IsCutOff (end last : ℕ) (p : PortState) (es : List Event) (nearly : Type 0) : Type 0 where
    pub port : PortState
    pub is : run plain es (at g txs p mark told) ≡ at g txs port mark told
    pub head : port.head ≡ end
    pub stored : nearly → port.stored_head ≡ last

  abbrev tail : (end : ℕ) → List Event
  tail end = StoreHead 0 end ∷ FlushHead 0 ∷ Acknowledge mark ∷ []

  cut_tail : (count n left : ℕ) (p : PortState) (nearly : Type 0) → p.head ≡ count → p.stored_head ≡ p.head → left < 2 → (nearly → left ≡ 1)
      → IsCutOff count (count + n) p (executed count n ++ cut_after left (tail (count + n))) nearly
  cut_tail count n zero p nearly head same few is_last =
      let body = stays (executed count n) p (still_executed count n) same in
      record {
        port = body.port;
        is = run_append (executed count n) [] (at g txs p mark told) ∙ body.is;
        head = body.head ∙ head;
        stored = λ at. absurd (omega (arith, is_last at));
      }
  cut_tail count n (suc zero) p nearly head same few is_last =
      let body = stays (executed count n) p (still_executed count n) same in
      record {
        port = after_store_head body.port (count + n);
        is = run_append (executed count n) (StoreHead 0 (count + n) ∷ []) (at g txs p mark told) ∙ ap (happens plain (StoreHead 0 (count + n))) body.is;
        head = body.head ∙ head;
        stored = λ at. refl;
      }
  cut_tail count n (suc (suc left)) p nearly head same few is_last = absurd (omega arith)

  pub cut_executed : (count n j : ℕ) (p : PortState) → p.head ≡ count → p.stored_head ≡ p.head → j < 2 * n + 4 → IsCutOff count (count + n) p (cut_after j (executed count n ++ tail (count + n))) (j + 1 ≡ 2 * n + 4)
  cut_executed count n j p head same few = elim (cases_lt j (port_events (executed count n))) [
    | inl less ↦
        let body = stays (cut_after j (executed count n)) p (all_cut IsStill (executed count n) j (still_executed count n)) same in
        record {
          port = body.port;
          is = ap (λ (es : List Event). run plain es (at g txs p mark told)) (cut_within (executed count n) (tail (count + n)) j less) ∙ body.is;
          head = body.head ∙ head;
          stored = λ last. absurd (omega (arith, less, last, ports_executed count n));
        }
    | inr more ↦
        let rest = cut_tail count n (j - port_events (executed count n)) p (j + 1 ≡ 2 * n + 4) head same (omega (arith, few, more, ports_executed count n)) (λ last. omega (arith, last, ports_executed count n)) in
        record {
          port = rest.port;
          is = ap (λ (es : List Event). run plain es (at g txs p mark told)) (cut_past (executed count n) (tail (count + n)) j more) ∙ rest.is;
          head = rest.head;
          stored = rest.stored;
        }
  ]
