-- Lists of events, cut after so many of them that are on ports.
use Rattle.std.proofs.Common.{◌≡◌, ◌<◌, ◌≤◌, ℕ, zero, suc, ◌+◌, ◌-◌, min, Bool, true, false, cond, List, [], ◌∷◌, ◌++◌, refl, ◌∙◌, ap, arith}
use Rattle.std.specs.List.{AllByRecursion}
use Rattle.mq_core.specs.Machine.{AreAllowed, happens}
use Rattle.mq_core.specs.declared.event.Event.{Event}
use Rattle.mq_ledger.specs.Plain.{plain}
use Rattle.mq_ledger.specs.State.{State}
use Rattle.mq_block_trace.specs.Traced.{cut_after, is_on_port, one_more, port_events}

-- an event, and what follows it, by whether it is on a port
abbrev Step : Bool → ℕ → Event → List Event → List Event
Step t n e es = cond t (one_more n e (λ left. cut_after left es)) (e ∷ cut_after n es)

pub ports_append : (es fs : List Event) → port_events (es ++ fs) ≡ port_events es + port_events fs
ports_append [] fs = omega arith
ports_append (e ∷ es) fs = step (is_on_port e) (ports_append es fs)
  where
    step : (t : Bool) → port_events (es ++ fs) ≡ port_events es + port_events fs → cond t (port_events (es ++ fs) + 1) (port_events (es ++ fs)) ≡ cond t (port_events es + 1) (port_events es) + port_events fs
    step true rest = omega (arith, rest)
    step false rest = rest

-- what is cut off has as many as that, if there are so many
pub ports_cut : (es : List Event) (n : ℕ) → port_events (cut_after n es) ≡ min n (port_events es)
ports_cut [] n = omega arith
ports_cut (e ∷ es) n = step (is_on_port e) refl n (ports_cut es)
  where
    step : (t : Bool) → is_on_port e ≡ t → (n : ℕ) → ((m : ℕ) → port_events (cut_after m es) ≡ min m (port_events es)) → port_events (Step t n e es) ≡ min n (cond t (port_events es + 1) (port_events es))
    step true is zero rest = omega arith
    step true is (suc n) rest = rw is (omega (arith, rest n))
    step false is n rest = rw is (rest n)

pub allowed_cut : (es : List Event) (n : ℕ) (s : State) → AreAllowed plain es s → AreAllowed plain (cut_after n es) s
allowed_cut [] n s may = tt
allowed_cut (e ∷ es) n s may = step (is_on_port e) n (λ m. allowed_cut es m (happens plain e s) may.1)
  where
    step : (t : Bool) (n : ℕ) → ((m : ℕ) → AreAllowed plain (cut_after m es) (happens plain e s)) → AreAllowed plain (Step t n e es) s
    step true zero rest = tt
    step true (suc n) rest = (may.0, rest n)
    step false n rest = (may.0, rest n)

pub all_cut : (Has : Event → Type 0) (es : List Event) (n : ℕ) → AllByRecursion Has es → AllByRecursion Has (cut_after n es)
all_cut Has [] n have = tt
all_cut Has (e ∷ es) n have = step (is_on_port e) n (λ m. all_cut Has es m have.1)
  where
    step : (t : Bool) (n : ℕ) → ((m : ℕ) → AllByRecursion Has (cut_after m es)) → AllByRecursion Has (Step t n e es)
    step true zero rest = tt
    step true (suc n) rest = (have.0, rest n)
    step false n rest = (have.0, rest n)

-- a cut in the second of two lists leaves the first whole
pub cut_past : (es fs : List Event) (n : ℕ) → port_events es ≤ n → cut_after n (es ++ fs) ≡ es ++ cut_after (n - port_events es) fs
cut_past [] fs n low = ap (λ (m : ℕ). cut_after m fs) (let e : n ≡ n - 0 = omega arith in e)
cut_past (e ∷ es) fs n low = step (is_on_port e) n low (λ m at. cut_past es fs m at)
  where
    step : (t : Bool) (n : ℕ) → cond t (port_events es + 1) (port_events es) ≤ n → ((m : ℕ) → port_events es ≤ m → cut_after m (es ++ fs) ≡ es ++ cut_after (m - port_events es) fs)
        → Step t n e (es ++ fs) ≡ e ∷ (es ++ cut_after (n - cond t (port_events es + 1) (port_events es)) fs)
    step true zero low rest = absurd (omega arith)
    step true (suc n) low rest = ap (λ (l : List Event). e ∷ l) (rest n (omega arith) ∙ ap (λ (m : ℕ). es ++ cut_after m fs) (let same : n - port_events es ≡ suc n - (port_events es + 1) = omega arith in same))
    step false n low rest = ap (λ (l : List Event). e ∷ l) (rest n low)

-- one in the first leaves nothing of the second
pub cut_within : (es fs : List Event) (n : ℕ) → n < port_events es → cut_after n (es ++ fs) ≡ cut_after n es
cut_within [] fs n few = absurd (omega arith)
cut_within (e ∷ es) fs n few = step (is_on_port e) n few (λ m at. cut_within es fs m at)
  where
    step : (t : Bool) (n : ℕ) → n < cond t (port_events es + 1) (port_events es) → ((m : ℕ) → m < port_events es → cut_after m (es ++ fs) ≡ cut_after m es) → Step t n e (es ++ fs) ≡ Step t n e es
    step true zero few rest = refl
    step true (suc n) few rest = ap (λ (l : List Event). e ∷ l) (rest n (omega arith))
    step false n few rest = ap (λ (l : List Event). e ∷ l) (rest n few)

-- nothing is cut off where there are no more than that
pub cut_none : (es : List Event) (n : ℕ) → port_events es ≤ n → cut_after n es ≡ es
cut_none [] n low = refl
cut_none (e ∷ es) n low = step (is_on_port e) n low (λ m at. cut_none es m at)
  where
    step : (t : Bool) (n : ℕ) → cond t (port_events es + 1) (port_events es) ≤ n → ((m : ℕ) → port_events es ≤ m → cut_after m es ≡ es) → Step t n e es ≡ e ∷ es
    step true zero low rest = absurd (omega arith)
    step true (suc n) low rest = ap (λ (l : List Event). e ∷ l) (rest n (omega arith))
    step false n low rest = ap (λ (l : List Event). e ∷ l) (rest n low)
