-- The lines of a text, one after another.
use Rattle.std.proofs.Common.{◌≡◌, ◌<◌, ℕ, List, length, get_or, Err, sym, ◌∙◌, ap, subst, arith}
use Rattle.std.specs.Prelude.{Result}
use Rattle.std.proofs.lemmas.List.{get_or_default}
use Rattle.mq_blocks.specs.Drive.{FuseName}
use Rattle.mq_ledger.specs.State.{State}
use Rattle.mq_loose_text.specs.Text.{IsGoodText}
use Rattle.mq_loose_text.specs.declared.line.LooseLine.{LooseLine}
use Rattle.mq_loose_text.specs.declared.line.LooseLine.TheVariants.{Done}
use Rattle.mq_loose_run.specs.Lines.{HasStopped, queues_state}
use Rattle.mq_loose_run.specs.Steps.{IsNext, RunsTo}
use Rattle.mq_loose_run.specs.Texts.{RunsAllTo}
use Rattle.mq_loose_run.specs.declared.running.Running.{Running}
use Rattle.mq_loose_run.specs.declared.running.Stop.{Stop}
use Rattle.mq_loose_run.specs.declared.running.Stop.TheVariants as stop

-- an item of a walk over the lines is the next of them
pub next_at : (xs lines : List LooseLine) (k : ℕ) (l : LooseLine) → IsGoodText lines → xs ≡ lines → k < length xs → l ≡ get_or xs k l → IsNext lines k l
next_at xs lines k l good same inside is = record {
  good = good;
  inside = (let e = ap length same in omega (arith, e, inside));
  is = sym (is ∙ get_or_default xs k l (Done 0) inside ∙ ap (λ (ls : List LooseLine). get_or ls k (Done 0)) same);
}

pub all_fails : (A : Type 0) {B : Type 0} (fuse : FuseName) (start : State) (lines : List LooseLine) (k : ℕ) (e : Stop) (w : Running) (result : Result B Stop) → RunsTo {A = A} fuse start lines k (Err e) w → result ≡ Err e → RunsAllTo fuse start lines result w
all_fails A {B = B} fuse start lines k stop.Off w result stopped is = subst (λ (o : Result B Stop). RunsAllTo fuse start lines o w) (sym is) (k, stopped)
all_fails A {B = B} fuse start lines k stop.OutOfMemory w result stopped is = subst (λ (o : Result B Stop). RunsAllTo fuse start lines o w) (sym is) tt

-- where the stop is for the power
pub all_stopped : (A : Type 0) (fuse : FuseName) (start : State) (lines : List LooseLine) (e : Stop) (w : Running) → e ≡ stop.Off → RunsAllTo {A = A} fuse start lines (Err e) w → (n : ℕ) × HasStopped fuse start lines n (queues_state w.queues)
all_stopped A fuse start lines e w is all = subst (λ (s : Stop). RunsAllTo {A = A} fuse start lines (Err s) w) is all
