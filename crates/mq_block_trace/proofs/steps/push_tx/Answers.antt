use Rattle.std.proofs.Common.{◌≡◌, ℕ, ◌+◌, ◌*◌, ◌++◌, min, List, refl, ◌∙◌, ap, arith}
use Rattle.mq_core.specs.declared.event.Event.TheVariants.{Acknowledge, Clear}
use Rattle.mq_block_trace.specs.Traced.{drawn_of}
use Rattle.mq_block_trace.specs.Written.{event_line}
use Rattle.mq_block_trace.proofs.PortSteps.{tx_text}
use Rattle.mq_block_trace.proofs.steps.push_tx.Goals as goal

pub returns-in_ok-extend_from_slice-2 : goal.returns-in_ok-extend_from_slice-2
returns-in_ok-extend_from_slice-2 c = λ m marks.
    let tx = c.args.tx in
    let out : List ℕ = c.args.out.now.items in
    let first : c.extend_from_slice.new.self.items ≡ out ++ event_line (Clear 0 tx.number) = c.in_ok-extend_from_slice.ensures.items ∙ ap (λ (l : List ℕ). out ++ l) (c.as_bytes.ensures.value ∙ c.in_ok-clear_line.ensures) in
    let told : c.extend_from_slice-then-left-all.new.self.items ≡ c.push_steps.new.out.items ++ event_line (Acknowledge tx.number) =
    c.in_ok-extend_from_slice-2.ensures.items ∙ ap (λ (l : List ℕ). c.push_steps.new.out.items ++ l) (c.as_bytes-then-left-all.ensures.value ∙ c.in_ok-ack_line.ensures) in
    let enough = c.if-left-all.true in
    let events : c.events-all.result ≡ 2 * tx.entries + 4 = c.events-all.ensures in
    tx_text (drawn_of m tx.number c.args.line.now) tx.count tx.entries c.args.left out c.extend_from_slice.new.self.items c.push_draw.new.out.items c.push_steps.new.out.items c.extend_from_slice-then-left-all.new.self.items c.min.result
    first (c.in_ok-push_draw.ensures m tx.number marks) (c.min.ensures ∙ ap (min c.args.left) c.events-all.ensures) c.in_ok-push_steps.ensures (λ many. told) (λ few. absurd (omega (arith, few, enough, events)))

pub returns-else-left-all : goal.returns-else-left-all
returns-else-left-all c = λ m marks.
    let tx = c.args.tx in
    let out : List ℕ = c.args.out.now.items in
    let first : c.extend_from_slice.new.self.items ≡ out ++ event_line (Clear 0 tx.number) = c.in_ok-extend_from_slice.ensures.items ∙ ap (λ (l : List ℕ). out ++ l) (c.as_bytes.ensures.value ∙ c.in_ok-clear_line.ensures) in
    let short = c.if-left-all.false in
    let events : c.events-all.result ≡ 2 * tx.entries + 4 = c.events-all.ensures in
    tx_text (drawn_of m tx.number c.args.line.now) tx.count tx.entries c.args.left out c.extend_from_slice.new.self.items c.push_draw.new.out.items c.push_steps.new.out.items c.push_steps.new.out.items c.min.result
    first (c.in_ok-push_draw.ensures m tx.number marks) (c.min.ensures ∙ ap (min c.args.left) c.events-all.ensures) c.in_ok-push_steps.ensures (λ many. absurd (omega (arith, many, short, events))) (λ few. refl)
