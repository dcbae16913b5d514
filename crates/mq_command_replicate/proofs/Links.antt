-- One word decides about one sending.
use Rattle.std.proofs.Common.{◌≡◌, ◌≢◌, ◌<◌, ◌≤◌, ℕ, suc, ◌+◌, ◌-◌, ◌%◌, false, cond, refl, sym, ap, ◌∙◌, arith}
use Rattle.std.specs.Prelude.{nat_eq}
use Rattle.std.proofs.lemmas.Bool.Decides.{nat_tests}
use Rattle.rand_pcg.specs.Lcg.{Lcg}
use Rattle.rand_pcg.specs.Pcg.{pcg64}
use Rattle.mq_command_replicate.specs.Links.{arrival_of, arrivals_left, losses_in_a_row}
use Rattle.mq_command_replicate.specs.declared.link.Arrival.{Arrival}
use Rattle.mq_command_replicate.specs.declared.link.Arrival.TheVariants.{Once, Twice}

abbrev Sent : Type 0
Sent = Arrival × Lcg

losses_are : losses_in_a_row ≡ 64
unfolding losses_in_a_row
losses_are = refl

abbrev decided : ℕ → Lcg → (rest : ℕ) → Sent
decided left words rest = cond (nat_eq rest 0) (arrivals_left left words) (cond (nat_eq rest 1) (Twice, words) (Once, words))

-- the generator gave this word, and is then this one
module _ (words new : Lcg) (w : ℕ) (step : (w, new) ≡ pcg64 words) where
  by_word : (left : ℕ) → arrivals_left (suc left) words ≡ decided left new (w % 4)
  by_word left = ap (λ (p : ℕ × Lcg). decided left p.1 (p.0 % 4)) (sym step)

  -- so far this much is left of all
  module _ (start : Lcg) (k : ℕ) (inv : arrivals_left losses_in_a_row start ≡ arrivals_left (losses_in_a_row - k) words) (less : k < 64) where
    next : arrivals_left losses_in_a_row start ≡ decided (losses_in_a_row - (k + 1)) new (w % 4)
    next =
        let e : losses_in_a_row - k ≡ suc (losses_in_a_row - (k + 1)) = (let l = losses_are in omega (arith, less, l)) in
        inv ∙ ap (λ (n : ℕ). arrivals_left n words) e ∙ by_word (losses_in_a_row - (k + 1))

    pub lost : w % 4 ≡ 0 → arrivals_left losses_in_a_row start ≡ arrivals_left (losses_in_a_row - (k + 1)) new
    lost zero = next ∙ ap (decided (losses_in_a_row - (k + 1)) new) zero

    pub twice : w % 4 ≡ 1 → arrival_of start ≡ (Twice, new)
    unfolding arrival_of
    twice one = next ∙ ap (decided (losses_in_a_row - (k + 1)) new) one

    pub once : w % 4 ≢ 0 → w % 4 ≢ 1 → arrival_of start ≡ (Once, new)
    unfolding arrival_of
    once not_lost not_twice =
        let no : nat_eq (w % 4) 0 ≡ false = grind (arith, nat_tests) in
        let none : nat_eq (w % 4) 1 ≡ false = grind (arith, nat_tests) in
        next ∙ (λ i. cond (no i) (arrivals_left (losses_in_a_row - (k + 1)) new) (cond (none i) (Twice, new) (Once, new)))

-- after the last loss
pub at_last : (start words : Lcg) (k : ℕ) → arrivals_left losses_in_a_row start ≡ arrivals_left (losses_in_a_row - k) words → 64 ≤ k → arrival_of start ≡ (Once, words)
unfolding arrival_of
at_last start words k inv past = inv ∙ ap (λ (n : ℕ). arrivals_left n words) (let e : losses_in_a_row - k ≡ 0 = (let l = losses_are in omega (arith, past, l)) in e)
