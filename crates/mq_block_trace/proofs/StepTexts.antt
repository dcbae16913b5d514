-- The first lines and the lines of events as they are printed.
use Rattle.std.proofs.Common.{◌≡◌, ◌<◌, ◌≤◌, ℕ, ◌+◌, ◌-◌, ◌*◌, List, [], ◌∷◌, ◌++◌, refl, sym, ◌∙◌, ap, arith, append_assoc, append-nil}
use Rattle.std.specs.Prelude.{codes, decimal}
use Rattle.std.proofs.lemmas.Fmt.{decimal_digit}
use Rattle.mq_blocks.specs.declared.geometry.Geometry.{Geometry}
use Rattle.mq_core.specs.declared.event.Event.TheVariants.{Acknowledge, Clear}
use Rattle.mq_block_trace.specs.Written.{event_line, head_line, line_of, start_line, step_at}
use Rattle.mq_block_trace.proofs.PortSteps.{step_complete, step_flush, step_last, step_ring, step_stage, step_store}

-- a verb and the queue
queue_line : (verb : List ℕ) → line_of (verb ∷ decimal 0 ∷ []) ≡ verb ++ 32 ∷ 48 ∷ 10 ∷ []
queue_line verb = ap (λ (d : List ℕ). line_of (verb ∷ d ∷ [])) (decimal_digit 0 (omega arith))

-- a verb, the queue and a number
count_line : (verb : List ℕ) (n : ℕ) → line_of (verb ∷ decimal 0 ∷ decimal n ∷ []) ≡ verb ++ 32 ∷ 48 ∷ 32 ∷ (decimal n ++ 10 ∷ [])
count_line verb n =
    ap (λ (d : List ℕ). line_of (verb ∷ d ∷ decimal n ∷ [])) (decimal_digit 0 (omega arith))
    ∙ ap (λ (d : List ℕ). verb ++ 32 ∷ 48 ∷ 32 ∷ (d ++ 10 ∷ [])) (append-nil (decimal n))

pub clear_text : (n : ℕ) → codes "clear 0 " ++ (decimal n ++ 10 ∷ []) ≡ event_line (Clear 0 n)
clear_text n = sym (count_line (codes "clear") n)

pub ack_text : (n : ℕ) → codes "ack " ++ (decimal n ++ 10 ∷ []) ≡ event_line (Acknowledge n)
ack_text n = sym (ap (λ (d : List ℕ). codes "ack" ++ 32 ∷ (d ++ 10 ∷ [])) (append-nil (decimal n)))

five : (a b c d s : List ℕ) → ((32 ∷ (a ++ 32 ∷ (b ++ 32 ∷ (c ++ 32 ∷ (d ++ 32 ∷ 48 ∷ []))))) ++ 10 ∷ []) ++ s ≡ 32 ∷ (a ++ 32 ∷ (b ++ 32 ∷ (c ++ 32 ∷ (d ++ 32 ∷ 48 ∷ 10 ∷ s))))
five a b c d s = simp append_assoc refl

pub head_text : (g : Geometry) → codes "geometry " ++ (decimal g.queues ++ 32 ∷ (decimal g.area ++ 32 ∷ (decimal g.meta ++ 32 ∷ (decimal g.zone ++ codes " 0\nstart\n")))) ≡ head_line g ++ start_line
head_text g =
    sym (ap (λ (d : List ℕ). (codes "geometry" ++ ((32 ∷ (decimal g.queues ++ 32 ∷ (decimal g.area ++ 32 ∷ (decimal g.meta ++ 32 ∷ (decimal g.zone ++ 32 ∷ (d ++ [])))))) ++ 10 ∷ [])) ++ start_line) (decimal_digit 0 (omega arith))
    ∙ ap (λ (l : List ℕ). codes "geometry" ++ l) (five (decimal g.queues) (decimal g.area) (decimal g.meta) (decimal g.zone) start_line))

module _ (count entries at : ℕ) where
  pub stage_text : at < entries → codes "stage 0\n" ≡ event_line (step_at count entries at)
  stage_text low = sym (ap event_line (step_stage count entries at low) ∙ queue_line (codes "stage"))

  pub flush_text : at ≡ entries → codes "flush 0\n" ≡ event_line (step_at count entries at)
  flush_text is = sym (ap event_line (step_flush count entries at is) ∙ queue_line (codes "flush"))

  pub ring_text : at ≡ entries + 1 → codes "ring 0\n" ≡ event_line (step_at count entries at)
  ring_text is = sym (ap event_line (step_ring count entries at is) ∙ queue_line (codes "ring"))

  pub complete_text : entries + 2 ≤ at → at < 2 * entries + 2 → codes "complete 0 " ++ (decimal (count + at - (entries + 2)) ++ 10 ∷ []) ≡ event_line (step_at count entries at)
  complete_text low high = sym (ap event_line (step_complete count entries at low high) ∙ count_line (codes "complete") (count + at - (entries + 2)))

  pub store_text : at ≡ 2 * entries + 2 → codes "storehead 0 " ++ (decimal (count + entries) ++ 10 ∷ []) ≡ event_line (step_at count entries at)
  store_text is = sym (ap event_line (step_store count entries at is) ∙ count_line (codes "storehead") (count + entries))

  pub last_text : 2 * entries + 3 ≤ at → codes "flushhead 0\n" ≡ event_line (step_at count entries at)
  last_text low = sym (ap event_line (step_last count entries at low) ∙ queue_line (codes "flushhead"))
