-- The events of a port in memory that happened.
use Rattle.std.proofs.Common.{◌≡◌, ◌<◌, ◌≤◌, ◌+◌, ◌-◌, ◌*◌, ◌^◌, ℕ, zero, suc, min, List, [], ◌∷◌, ◌++◌, length, replicate, Option, Some, None, inl, inr, refl, sym, ◌∙◌, ap, arith, length-append}
use Rattle.std.proofs.lemmas.Bool.{cases_lt}
use Rattle.std.specs.Option.{ForSome, option_to_list}
use Rattle.mq_blocks.specs.Drive.{counted}
use Rattle.mq_blocks.specs.declared.command.HomeWrite.{HomeWrite}
use Rattle.mq_blocks.proofs.DriveSaturation.{counted-next}
use Rattle.mq_drive.specs.Emu.{device_state, device_faults}
use Rattle.mq_drive.specs.Failures.{errors_of, unended_of}
use Rattle.mq_drive.specs.Happened.{happened_by, home_errors, happened_in, cut_short}
use Rattle.mq_drive.specs.Steps.{PortFault, PowerOff, CommandError, HomeError}
use Rattle.mq_drive.specs.declared.device.Device.{Device}
use Rattle.mq_drive.specs.declared.failing.Failure.{Failure}
use Rattle.mq_drive.specs.declared.failing.Failure.TheVariants.{Queued, Home}
use Rattle.mq_drive.proofs.Doubts.{none_while}

-- ---- counts that stand still at their end

counted-least : (n k : ℕ) → counted n (suc k) ≡ min (n + suc k) (2 ^ 64 - 1)
counted-least n zero = refl
counted-least n (suc k) =
    let ih = counted-least (min (n + 1) (2 ^ 64 - 1)) k in
    omega (arith, ih)

-- past the end of the count a sum adds nothing
counted-full : (n k : ℕ) → 2 ^ 64 - 1 ≤ k → counted n k ≡ 2 ^ 64 - 1
counted-full n zero most = absurd (omega (arith, most))
counted-full n (suc k) most = let e = counted-least n k in omega (arith, e, most)

none_open : (w : Option HomeWrite) → w ≡ None → length (option_to_list w) ≡ 0
none_open w none = ap (λ (o : Option HomeWrite). length (option_to_list o)) none

-- an event that is no home write's
pub happened-event : (h more e next b offs : ℕ) (w : Option HomeWrite) → ForSome w (λ x. 0 < offs) → offs ≡ 0
    → h ≡ happened_by e b (length (option_to_list w)) → more ≡ counted h 1 → next ≡ counted e 1 → more ≡ happened_by next b (length (option_to_list w))
happened-event h more e next b offs w last on was is_more is_next =
    is_more
    ∙ ap (λ (n : ℕ). counted n 1) was
    ∙ sym (counted-next e (2 * b - length (option_to_list w)))
    ∙ ap (λ (n : ℕ). counted n (2 * b - length (option_to_list w))) (sym is_next)

-- a home write begins, and the power goes off before it ends
pub happened-begin : (h mid e b begun offs : ℕ) (w : Option HomeWrite) (x : HomeWrite) → ForSome w (λ x. 0 < offs) → offs ≡ 0
    → h ≡ happened_by e b (length (option_to_list w)) → mid ≡ counted h 1 → begun ≡ counted b 1 → mid ≡ happened_by e begun (length (option_to_list (Some x)))
happened-begin h mid e b begun offs w x last on was is_mid is_begun =
    let none = none_open w (none_while w offs last on) in
    let before : h ≡ counted e (2 * b) = was ∙ ap (counted e) (let k : 2 * b - length (option_to_list w) ≡ 2 * b = omega (arith, none) in k) in
    elim (cases_lt b (2 ^ 64 - 1)) [
      | inl low ↦
          let k : suc (2 * b) ≡ 2 * begun - 1 = omega (arith, low, is_begun) in
          is_mid ∙ ap (λ (n : ℕ). counted n 1) before ∙ sym (counted-next e (2 * b)) ∙ ap (counted e) k
      | inr full ↦
          let a : counted e (2 * b) ≡ 2 ^ 64 - 1 = counted-full e (2 * b) (omega (arith, full)) in
          let c : counted e (2 * begun - 1) ≡ 2 ^ 64 - 1 = counted-full e (2 * begun - 1) (omega (arith, full, is_begun)) in
          let one : mid ≡ min (h + 1) (2 ^ 64 - 1) = is_mid in
          omega (arith, one, before, a, c)
    ]

-- a home write begins and ends
pub happened-home : (h mid more e b begun offs : ℕ) (w : Option HomeWrite) → ForSome w (λ x. 0 < offs) → offs ≡ 0
    → h ≡ happened_by e b (length (option_to_list w)) → mid ≡ counted h 1 → more ≡ counted mid 1 → begun ≡ counted b 1 → more ≡ happened_by e begun (length (option_to_list w))
happened-home h mid more e b begun offs w last on was is_mid is_more is_begun =
    let none = none_open w (none_while w offs last on) in
    let before : h ≡ counted e (2 * b) = was ∙ ap (counted e) (let k : 2 * b - length (option_to_list w) ≡ 2 * b = omega (arith, none) in k) in
    let now : counted e (2 * begun) ≡ happened_by e begun (length (option_to_list w)) = ap (counted e) (let k : 2 * begun ≡ 2 * begun - length (option_to_list w) = omega (arith, none) in k) in
    elim (cases_lt b (2 ^ 64 - 1)) [
      | inl low ↦
          let k : suc (suc (2 * b)) ≡ 2 * begun = omega (arith, low, is_begun) in
          is_more ∙ ap (λ (n : ℕ). counted n 1) (is_mid ∙ ap (λ (n : ℕ). counted n 1) before ∙ sym (counted-next e (2 * b))) ∙ sym (counted-next e (suc (2 * b))) ∙ ap (counted e) k ∙ now
      | inr full ↦
          let a : counted e (2 * b) ≡ 2 ^ 64 - 1 = counted-full e (2 * b) (omega (arith, full)) in
          let c : counted e (2 * begun) ≡ 2 ^ 64 - 1 = counted-full e (2 * begun) (omega (arith, full, is_begun)) in
          let one : mid ≡ min (h + 1) (2 ^ 64 - 1) = is_mid in
          let two : more ≡ min (mid + 1) (2 ^ 64 - 1) = is_more in
          let end : more ≡ counted e (2 * begun) = omega (arith, one, two, before, a, c) in
          end ∙ now
    ]

-- ---- what the faults say of home writes

errors-append : (xs ys : List PortFault) → home_errors (xs ++ ys) ≡ home_errors xs + home_errors ys
errors-append [] ys = omega arith
errors-append (PowerOff ∷ xs) ys = errors-append xs ys
errors-append (CommandError tx status ∷ xs) ys = errors-append xs ys
errors-append (HomeError lba status ∷ xs) ys = let ih = errors-append xs ys in omega arith

no_errors : (n : ℕ) → home_errors (replicate n PowerOff) ≡ 0
no_errors zero = refl
no_errors (suc n) = no_errors n

failed_home : (failure : Option Failure) → length (unended_of failure) ≡ home_errors (errors_of failure)
failed_home None = refl
failed_home (Some (Queued c)) = refl
failed_home (Some (Home w)) = refl

under_way : (p : Device) → cut_short (device_state p) (device_faults p) ≡ length (option_to_list p.under_way)
under_way p =
    let long = length-append (unended_of p.failure) (option_to_list p.under_way) in
    let sum = errors-append (replicate p.power.offs PowerOff) (errors_of p.failure) in
    let none = no_errors p.power.offs in
    let same = failed_home p.failure in
    omega (arith, long, sum, none, same)

pub happened-is : (p : Device) → p.power.happened ≡ happened_in (device_state p) (device_faults p)
happened-is p = p.sound.counts.events_counted ∙ ap (happened_by p.events p.begins) (sym (under_way p))

pub happened-alone : (p : Device) → p.begins ≡ 0 → p.power.happened ≡ p.events
happened-alone p none =
    p.sound.counts.events_counted
    ∙ ap (counted p.events) (let k : 2 * p.begins - length (option_to_list p.under_way) ≡ 0 = omega (arith, none) in k)
