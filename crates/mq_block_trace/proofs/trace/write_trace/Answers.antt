use Rattle.std.proofs.Common.{◌≡◌, ◌≤◌, ℕ, zero, suc, ◌-◌, ◌*◌, ◌^◌, List, length, Option, Some, None, refl, sym, ◌∙◌, ap, subst, arith}
use Rattle.std.specs.Prelude.{unwrap_or, IfOk, Result, Ok, Err}
use Rattle.mq_audit.specs.Traces.{IsTrace}
use Rattle.mq_block_text.specs.Text.{IsGoodText}
use Rattle.mq_blocks.specs.declared.geometry.Geometry.{Geometry}
use Rattle.mq_block_trace.specs.Prefixes.{events_of, places_upto}
use Rattle.mq_block_trace.specs.Traced.{cut_after, events_upto, traced}
use Rattle.mq_block_trace.specs.Written.{IsTraced, trace_of, trace_text}
use Rattle.mq_block_trace.proofs.Fronts.{Lines, places_few}
use Rattle.mq_block_trace.proofs.Traces.{cut_nowhere}
use Rattle.mq_block_trace.proofs.trace.write_trace.Goals as goal

events_few : (lines : Lines) (n : ℕ) → events_of lines n ≤ 6 * places_upto lines n
events_few lines zero = omega arith
events_few lines (suc n) = omega (arith, events_few lines n)

-- no cut is one behind all events
cut_is : (lines : Lines) (cut : Option ℕ) → IsGoodText lines → cut_after (unwrap_or cut (2 ^ 64 - 1)) (events_upto lines (length lines)) ≡ traced lines cut
cut_is lines None good = cut_nowhere lines (2 ^ 64 - 1) (omega (arith, events_few lines (length lines), places_few lines good (length lines) (omega arith)))
cut_is lines (Some events) good = refl

ok_map : {A E : Type 0} (r : Result A E) (P Q : A → Type 0) → ((x : A) → P x → Q x) → IfOk r P → IfOk r Q
ok_map (Ok x) P Q f holds = f x holds
ok_map (Err e) P Q f holds = tt

pub returns : goal.returns
returns c =
    let g : Geometry = c.args.geometry in
    let lines = c.args.text.now in
    ok_map c.print_trace.result _ (λ v. IsTraced lines c.args.cut v.items) (λ v is. record {
      geometry = g;
      text = c.requires.geometry;
      read = subst (λ (bytes : List ℕ). IsTrace bytes (trace_of g lines c.args.cut)) (sym (is ∙ ap (λ (n : ℕ). trace_text g (cut_after n (events_upto lines (length lines)))) c.unwrap_or.ensures ∙ ap (trace_text g) (cut_is lines c.args.cut c.requires.good)))
          (c.traces_are_read.ensures g lines c.args.cut c.requires.geometry c.requires.good);
      is = c.traces_are_allowed.ensures g lines c.args.cut c.requires.geometry c.requires.good;
    }) c.print_trace.ensures
