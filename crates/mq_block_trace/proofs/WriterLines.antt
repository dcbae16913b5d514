-- The lines of a text as the writer of its trace goes through them.
use Rattle.std.proofs.Common.{◌≡◌, ◌<◌, ◌≤◌, ℕ, suc, ◌+◌, ◌-◌, ◌*◌, List, [], ◌++◌, length, get_or, sym, ◌∙◌, ap, subst, arith, append_assoc}
use Rattle.std.proofs.lemmas.List.{get_or_default}
use Rattle.mq_block_text.specs.Text.{AreGoodItems, IsGoodText, sets_in}
use Rattle.mq_block_text.specs.declared.item.BlockItem.{BlockItem}
use Rattle.mq_blocks.specs.declared.geometry.Geometry.{Geometry}
use Rattle.mq_core.specs.declared.event.Event.{Event}
use Rattle.mq_block_trace.specs.Lines.{line_at, map_after}
use Rattle.mq_block_trace.specs.Prefixes.{events_of, places_upto}
use Rattle.mq_block_trace.specs.Traced.{cut_after, drawn_of, events_upto, tx_events}
use Rattle.mq_block_trace.specs.Written.{events_text, head_line, start_line, trace_text}
use Rattle.mq_block_trace.proofs.CutOff.{cut_none}
use Rattle.mq_block_trace.proofs.Fronts.{Lines, places_few}
use Rattle.mq_block_trace.proofs.LinesFills.{good_line_at}
use Rattle.mq_block_trace.proofs.PortSteps.{text_append}
use Rattle.mq_block_trace.proofs.TextLines.{line_trace, ports_line}
use Rattle.mq_block_trace.proofs.Traces.{cut_nowhere, cut_there}

trace_append : (g : Geometry) (es fs : List Event) → trace_text g es ++ events_text fs ≡ trace_text g (es ++ fs)
trace_append g es fs =
    append_assoc (head_line g) (start_line ++ events_text es) (events_text fs)
    ∙ ap (λ (l : List ℕ). head_line g ++ l) (append_assoc start_line (events_text es) (events_text fs) ∙ ap (λ (l : List ℕ). start_line ++ l) (sym (text_append es fs)))

module _ (g : Geometry) (lines : Lines) (cut k left : ℕ) (less : k < length lines) (left_is : left + events_of lines k ≡ cut) (line : List BlockItem) (line_is : line ≡ line_at lines k) (number count entries : ℕ) (number_is : number ≡ k + 1) (count_is : count ≡ places_upto lines k) (entries_is : entries ≡ sets_in line + 1)
    (out new : List ℕ) (written : out ≡ trace_text g (events_upto lines k)) (adds : new ≡ out ++ events_text (cut_after left (tx_events (drawn_of (map_after lines k) number line) count entries))) where
  entries_at : entries ≡ sets_in (line_at lines k) + 1
  entries_at = entries_is ∙ ap (λ (l : List BlockItem). sets_in l + 1) line_is

  added : new ≡ trace_text g (events_upto lines k ++ cut_after left (line_trace lines k))
  added =
      adds
      ∙ (λ i. written i ++ events_text (cut_after left (tx_events (drawn_of (map_after lines k) (number_is i) (line_is i)) (count_is i) (entries_at i))))
      ∙ trace_append g (events_upto lines k) (cut_after left (line_trace lines k))

  pub stopped : left < 2 * entries + 4 → new ≡ trace_text g (cut_after cut (events_upto lines (length lines)))
  stopped few =
      let low : events_of lines k ≤ cut = omega (arith, left_is) in
      let high : cut < events_of lines (suc k) = omega (arith, left_is, few, entries_at) in
      added ∙ ap (λ (n : ℕ). trace_text g (events_upto lines k ++ cut_after n (line_trace lines k))) (let e : left ≡ cut - events_of lines k = omega (arith, left_is) in e)
      ∙ ap (trace_text g) (sym (cut_there lines cut k less low high))

  pub went_on : 2 * entries + 4 ≤ left → new ≡ trace_text g (events_upto lines (k + 1))
  went_on many =
      added ∙ ap (λ (es : List Event). trace_text g (events_upto lines k ++ es)) (cut_none (line_trace lines k) left (omega (arith, many, entries_at, ports_line lines k)))
      ∙ ap (λ (n : ℕ). trace_text g (events_upto lines n)) (let e : suc k ≡ k + 1 = omega arith in e)

  pub left_more : 2 * entries + 4 ≤ left → (left - (2 * entries + 4)) + events_of lines (k + 1) ≡ cut
  left_more many = ap (λ (n : ℕ). (left - (2 * entries + 4)) + events_of lines n) (let e : k + 1 ≡ suc k = omega arith in e) ∙ (let e : (left - (2 * entries + 4)) + events_of lines (suc k) ≡ cut = omega (arith, left_is, many, entries_at) in e)

  pub count_more : count + entries ≡ places_upto lines (k + 1)
  count_more = (let e : count + entries ≡ places_upto lines (suc k) = omega (arith, count_is, entries_at) in e) ∙ ap (places_upto lines) (let e : suc k ≡ k + 1 = omega arith in e)

-- a line's entries are few
pub line_few : (lines : Lines) (k : ℕ) (line : List BlockItem) → IsGoodText lines → k < length lines → line ≡ line_at lines k → places_upto lines k + (sets_in line + 1) ≤ 1024
line_few lines k line good less is = subst (λ (l : List BlockItem). places_upto lines k + (sets_in l + 1) ≤ 1024) (sym is) (places_few lines good (suc k) less)

-- the line that the loop looks at
pub record IsThere (lines : Lines) (k : ℕ) (line : List BlockItem) : Type 0 where
  pub less : k < length lines
  pub is : line ≡ line_at lines k
  pub good : AreGoodItems line
  pub few : places_upto lines k + (sets_in line + 1) ≤ 1024

pub there : (xs lines : Lines) (k : ℕ) (line : List BlockItem) → IsGoodText lines → xs ≡ lines → k < length xs → line ≡ get_or xs k line → IsThere lines k line
there xs lines k line good same inside is =
    let less : k < length lines = omega (arith, ap length same) in
    let at : line ≡ line_at lines k = is ∙ get_or_default xs k line [] inside ∙ ap (λ (l : Lines). get_or l k []) same in
    record {
      less = less;
      is = at;
      good = subst AreGoodItems (sym at) (good_line_at lines k less good.0);
      few = line_few lines k line good less at;
    }

pub all_written : (g : Geometry) (lines : Lines) (cut k left : ℕ) (out : List ℕ) → k ≡ length lines → left + events_of lines k ≡ cut → out ≡ trace_text g (events_upto lines k) → out ≡ trace_text g (cut_after cut (events_upto lines (length lines)))
all_written g lines cut k left out end left_is written =
    written ∙ ap (λ (n : ℕ). trace_text g (events_upto lines n)) end
    ∙ ap (trace_text g) (sym (cut_nowhere lines cut (omega (arith, left_is, ap (events_of lines) end))))
