-- The trace of a text, whole or cut, is allowed, and images of its last state reach the lines that stand.
use Rattle.std.proofs.Common.{◌≡◌, ◌<◌, ◌≤◌, ℕ, zero, suc, ◌+◌, ◌-◌, min, List, [], ◌∷◌, ◌++◌, length, Option, Some, None, refl, sym, ◌∙◌, ap, subst, inl, inr, arith}
use Rattle.std.proofs.lemmas.Bool.{cases_lt}
use Rattle.mq_blocks.specs.Drive.{PortState}
use Rattle.mq_blocks.specs.Geometry.{homes_of}
use Rattle.mq_blocks.specs.declared.geometry.Geometry.{Geometry}
use Rattle.mq_block_text.specs.Text.{IsGoodText}
use Rattle.mq_core.proofs.MachineFacts.{keeps, lawful_from, start_facts}
use Rattle.mq_core.proofs.Reach.{greatest, least}
use Rattle.mq_core.specs.Machine.{AreAllowed, happens, run}
use Rattle.mq_core.specs.Reach.{IsReached as IsNumberReached, stored_front}
use Rattle.mq_core.specs.declared.event.Event.{Event}
use Rattle.mq_ledger.specs.History.{map_after as map_of}
use Rattle.mq_ledger.specs.Plain.{plain}
use Rattle.mq_ledger.specs.State.{Facts, IsStart, State, front_of, start_map}
use Rattle.mq_block_trace.specs.Fresh.{IsTextGeometry}
use Rattle.mq_block_trace.specs.Lines.{map_after}
use Rattle.mq_block_trace.specs.Prefixes.{IsReached, events_of, places_upto}
use Rattle.mq_block_trace.specs.Traced.{IsTraceOf, blank_start, cut_after, drawn_upto, events_upto, port_events, text_start, traced}
use Rattle.mq_block_trace.proofs.CutOff.{allowed_cut, cut_none, cut_past, cut_within, ports_append, ports_cut}
use Rattle.mq_block_trace.proofs.Drawn.{map_is}
use Rattle.mq_block_trace.proofs.Fronts.{Lines, front_before, front_whole, stored_whole}
use Rattle.mq_block_trace.proofs.OneQueue.{at, run_append}
use Rattle.mq_block_trace.proofs.TextLines.{After, after_lines, cut_executed, entries, line_trace, ports_line}

-- ---- counts of events

ports_lines : (lines : Lines) (n : ℕ) → port_events (events_upto lines n) ≡ events_of lines n
ports_lines lines zero = refl
ports_lines lines (suc n) = omega (arith, ports_append (events_upto lines n) (line_trace lines n), ports_lines lines n, ports_line lines n)

events_more : (lines : Lines) (n m : ℕ) → n ≤ m → events_of lines n ≤ events_of lines m
events_more lines n zero low = subst (λ (k : ℕ). events_of lines k ≤ 0) (let e : 0 ≡ n = omega arith in e) (omega arith)
events_more lines n (suc m) low = elim (cases_lt n (suc m)) [
  | inl less ↦ (let rest = events_more lines n m (omega arith) in omega arith)
  | inr more ↦ subst (λ (k : ℕ). events_of lines k ≤ events_of lines (suc m)) (let e : suc m ≡ n = omega arith in e) (omega arith)
]

-- the line in which a cut falls
pub record FallsIn (lines : Lines) (events n : ℕ) : Type 0 where
  pub line : ℕ
  pub less : line < n
  pub low : events_of lines line ≤ events
  pub high : events < events_of lines (suc line)

falls_in : (lines : Lines) (events n : ℕ) → events < events_of lines n → FallsIn lines events n
falls_in lines events zero few = absurd (omega arith)
falls_in lines events (suc n) few = elim (cases_lt events (events_of lines n)) [
  | inl less ↦ (let r = falls_in lines events n less in record { line = r.line; less = (let l = r.less in omega arith); low = r.low; high = r.high })
  | inr more ↦ record { line = n; less = omega arith; low = more; high = few }
]

-- a cut in a line leaves the same of all lines up to it
cut_lines : (lines : Lines) (events n m : ℕ) → events < events_of lines n → n ≤ m → cut_after events (events_upto lines m) ≡ cut_after events (events_upto lines n)
cut_lines lines events n zero few low = ap (λ (k : ℕ). cut_after events (events_upto lines k)) (let e : 0 ≡ n = omega arith in e)
cut_lines lines events n (suc m) few low = elim (cases_lt n (suc m)) [
  | inl less ↦ cut_within (events_upto lines m) (line_trace lines m) events (omega (arith, ports_lines lines m, events_more lines n m (omega arith))) ∙ cut_lines lines events n m few (omega arith)
  | inr more ↦ ap (λ (k : ℕ). cut_after events (events_upto lines k)) (let e : suc m ≡ n = omega arith in e)
]

-- what is left where a cut falls in a line
pub cut_there : (lines : Lines) (events n : ℕ) → n < length lines → events_of lines n ≤ events → events < events_of lines (suc n)
    → cut_after events (events_upto lines (length lines)) ≡ events_upto lines n ++ cut_after (events - events_of lines n) (line_trace lines n)
cut_there lines events n less low high =
    cut_lines lines events (suc n) (length lines) high less ∙ cut_past (events_upto lines n) (line_trace lines n) events (omega (arith, ports_lines lines n))
    ∙ ap (λ (m : ℕ). events_upto lines n ++ cut_after (events - m) (line_trace lines n)) (ports_lines lines n)

-- and where it falls behind all
pub cut_nowhere : (lines : Lines) (events : ℕ) → events_of lines (length lines) ≤ events → cut_after events (events_upto lines (length lines)) ≡ events_upto lines (length lines)
cut_nowhere lines events many = cut_none (events_upto lines (length lines)) events (omega (arith, ports_lines lines (length lines)))

-- ---- the numbers that are reached

lawful_run : (es : List Event) (s : State) → Facts plain s → AreAllowed plain es s → Facts plain (run plain es s)
lawful_run [] s facts may = facts
lawful_run (e ∷ es) s facts may = lawful_run es (happens plain e s) (keeps plain e s facts may.0) may.1

module _ (g : Geometry) (lines : Lines) (text : IsTextGeometry g) (good : IsGoodText lines) (begins : IsStart plain (text_start g)) where
  module _ (es : List Event) (may : AreAllowed plain es (text_start g)) (s : State) (is : run plain es (text_start g) ≡ s) (p : ℕ) where
    reached_front : front_of s ≡ p → IsNumberReached plain (run plain es (text_start g)) p
    reached_front front =
        let law = lawful_from plain (run plain es (text_start g)) (lawful_run es (text_start g) (start_facts plain (text_start g) begins) may) in
        subst (IsNumberReached plain (run plain es (text_start g))) (ap front_of is ∙ front) (least plain (run plain es (text_start g)) law)

    reached_stored : stored_front s ≡ p → IsNumberReached plain (run plain es (text_start g)) p
    reached_stored front =
        let law = lawful_from plain (run plain es (text_start g)) (lawful_run es (text_start g) (start_facts plain (text_start g) begins) may) in
        subst (IsNumberReached plain (run plain es (text_start g))) (ap stored_front is ∙ front) (greatest plain (run plain es (text_start g)) law)

  maps_are : (n b : ℕ) → n ≤ length lines → b < homes_of g → map_of (start_map (blank_start g)) (drawn_upto lines n) b ≡ map_after lines n b
  maps_are n b within low = map_is g lines n b text low

  -- ---- the whole trace

  whole : After g lines text good (length lines)
  whole = after_lines g lines text good (length lines) (omega arith)

  whole_reached : IsNumberReached plain (run plain (events_upto lines (length lines)) (text_start g)) (length lines)
  whole_reached = reached_front (events_upto lines (length lines)) whole.allowed (at g (drawn_upto lines (length lines)) whole.port whole.mark whole.told) whole.is (length lines)
      (front_whole lines good g whole.port whole.mark whole.told (length lines) (omega arith) whole.idle.head)

  uncut : IsTraceOf g lines None (events_upto lines (length lines))
  uncut = record {
    allowed = whole.allowed;
    count = ports_lines lines (length lines);
    drawn = length lines;
    within = omega arith;
    history = ap (λ (s : State). s.history) whole.is;
    maps = maps_are;
    reached = λ p all. subst (IsNumberReached plain (run plain (events_upto lines (length lines)) (text_start g))) (sym all) whole_reached;
  }

  -- ---- a trace that is cut

  abbrev Trace : ℕ → List Event
  Trace events = cut_after events (events_upto lines (length lines))

  allowed : (events : ℕ) → AreAllowed plain (Trace events) (text_start g)
  allowed events = allowed_cut (events_upto lines (length lines)) events (text_start g) whole.allowed

  count : (events : ℕ) → port_events (Trace events) ≡ min events (events_of lines (length lines))
  count events = ports_cut (events_upto lines (length lines)) events ∙ ap (min events) (ports_lines lines (length lines))

  -- where the cut falls in a line
  pub record Stops (events n : ℕ) : Type 0 where
    pub port : PortState
    pub mark : ℕ
    pub told : List ℕ
    pub is : run plain (Trace events) (text_start g) ≡ at g (drawn_upto lines (suc n)) port mark told
    pub head : port.head ≡ places_upto lines n
    pub stored : events + 1 ≡ events_of lines (suc n) → port.stored_head ≡ places_upto lines (suc n)

  stops : (events n : ℕ) → n < length lines → events_of lines n ≤ events → events < events_of lines (suc n) → Stops events n
  stops events n less low high =
      let old = after_lines g lines text good n (omega arith) in
      let idle = old.idle in
      let txs = drawn_upto lines (suc n) in
      let left = events - events_of lines n in
      let cut = cut_executed g txs (n + 1) old.told (places_upto lines n) (entries lines n) left old.port idle.head (idle.stored ∙ sym idle.head) (omega arith) in
      let same : Trace events ≡ events_upto lines n ++ cut_after left (line_trace lines n) = cut_there lines events n less low high in
      record {
        port = cut.port;
        mark = n + 1;
        told = old.told;
        is = ap (λ (es : List Event). run plain es (text_start g)) same ∙ run_append (events_upto lines n) (cut_after left (line_trace lines n)) (text_start g)
            ∙ ap (run plain (cut_after left (line_trace lines n))) old.is ∙ cut.is;
        head = cut.head;
        stored = λ last. cut.stored (omega arith);
      }

  cut_in_line : (events : ℕ) → events < events_of lines (length lines) → IsTraceOf g lines (Some events) (Trace events)
  cut_in_line events few =
      let there = falls_in lines events (length lines) few in
      let stop = stops events there.line there.less there.low there.high in
      record {
        allowed = allowed events;
        count = count events;
        drawn = suc there.line;
        within = (let l = there.less in omega arith);
        history = ap (λ (s : State). s.history) stop.is;
        maps = maps_are;
        reached = λ p r. elim r.ends [ inl over ↦ ended p r.within over | inr nearly ↦ last p r.within nearly.0 nearly.1 ];
      }
    where
      ended : (p : ℕ) → p ≤ length lines → (events_of lines p ≤ events) × (p < length lines → events < events_of lines (suc p)) → IsNumberReached plain (run plain (Trace events) (text_start g)) p
      ended p within over = elim (cases_lt p (length lines)) [
        | inl less ↦
            let stop = stops events p less over.0 (over.1 less) in
            reached_front (Trace events) (allowed events) (at g (drawn_upto lines (suc p)) stop.port stop.mark stop.told) stop.is p (front_before lines good g stop.port stop.mark stop.told p less stop.head)
        | inr more ↦ absurd (omega (arith, over.0, events_more lines (length lines) p more))
      ]

      last : (p : ℕ) → p ≤ length lines → 0 < p → events + 1 ≡ events_of lines p → IsNumberReached plain (run plain (Trace events) (text_start g)) p
      last zero within some nearly = absurd (omega arith)
      last (suc p) within some nearly =
          let stop = stops events p within (omega arith) (omega arith) in
          reached_stored (Trace events) (allowed events) (at g (drawn_upto lines (suc p)) stop.port stop.mark stop.told) stop.is (suc p) (stored_whole lines good g stop.port stop.mark stop.told (suc p) within (stop.stored nearly))

  cut_behind : (events : ℕ) → events_of lines (length lines) ≤ events → IsTraceOf g lines (Some events) (Trace events)
  cut_behind events many =
      let same : Trace events ≡ events_upto lines (length lines) = cut_nowhere lines events many in
      record {
        allowed = allowed events;
        count = count events;
        drawn = length lines;
        within = omega arith;
        history = ap (λ (es : List Event). (run plain es (text_start g)).history) same ∙ ap (λ (s : State). s.history) whole.is;
        maps = maps_are;
        reached = λ p r. subst (λ (es : List Event). IsNumberReached plain (run plain es (text_start g)) p) (sym same) (subst (IsNumberReached plain (run plain (events_upto lines (length lines)) (text_start g))) (all p r) whole_reached);
      }
    where
      all : (p : ℕ) → IsReached lines events p → length lines ≡ p
      all p r = elim r.ends [
        | inl over ↦ elim (cases_lt p (length lines)) [
          | inl less ↦ absurd (omega (arith, over.1 less, many, events_more lines (suc p) (length lines) less))
          | inr more ↦ (let low = r.within in omega arith)
        ]
        | inr nearly ↦ absurd (omega (arith, nearly.1, many, events_more lines p (length lines) r.within))
      ]

  pub trace_is : (cut : Option ℕ) → IsTraceOf g lines cut (traced lines cut)
  trace_is None = uncut
  trace_is (Some events) = elim (cases_lt events (events_of lines (length lines))) [ inl few ↦ cut_in_line events few | inr many ↦ cut_behind events many ]
