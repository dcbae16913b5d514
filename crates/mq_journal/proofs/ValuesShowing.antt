-- What a side shows of the reports of its port, from call to call.
use Rattle.std.proofs.Common.{◌≡◌, ◌≢◌, ◌⊎◌, ℕ, ◌≤◌, cond, Bool, List, [], ◌∷◌, ◌++◌, Option, Some, None, sym, refl, ap, subst, ◌∙◌, inl, inr, arith}
use Rattle.std.proofs.lemmas.Bool.{eq-eqb}
use Rattle.mq_blocks.specs.declared.command.Command.{Command}
use Rattle.mq_ledger.specs.History.{IsAt}
use Rattle.mq_ledger.specs.declared.tx.Tx.{Tx}
use Rattle.mq_desk_laws.specs.Faults.{reports_of}
use Rattle.mq_queue_side.specs.Drained.{numbers_of}
use Rattle.mq_queue_side.specs.Side.{HasTx, IsBelow}
use Rattle.mq_queue_side.specs.declared.answers.Why.{Why}
use Rattle.mq_turns.specs.Lists.{Each}
use Rattle.mq_turns.specs.declared.rule.Charge.{Charge}
use Rattle.mq_turns.specs.declared.rule.Report.{Report}
use Rattle.mq_turns.specs.declared.rule.Report.TheVariants as report
use Rattle.mq_turns.specs.declared.turn.Turn.TheVariants.{Side}
use Rattle.mq_turns.proofs.Lists.{each_map}
use Rattle.mq_journal.specs.Values.{IsUnrung, Shows, StaysCut, StaysFailed}

-- ---- commands that failed

has_number : ℕ → List ℕ → Type 0
has_number n [] = ⊥
has_number n (m ∷ ms) = (m ≡ n) ⊎ has_number n ms

number_of : (n : ℕ) (cs : List Command) → HasTx n cs → has_number n (numbers_of cs)
unfolding has_number
number_of n [] has = absurd has
number_of n (c ∷ cs) (inl here) = inl here
number_of n (c ∷ cs) (inr there) = inr (number_of n cs there)

of_number : (n : ℕ) (cs : List Command) → has_number n (numbers_of cs) → HasTx n cs
unfolding has_number
of_number n [] has = absurd has
of_number n (c ∷ cs) (inl here) = inl here
of_number n (c ∷ cs) (inr there) = inr (of_number n cs there)

number_more : (n : ℕ) (ms more : List ℕ) → has_number n ms → has_number n (ms ++ more)
unfolding has_number
number_more n [] more has = absurd has
number_more n (m ∷ ms) more (inl here) = inl here
number_more n (m ∷ ms) more (inr there) = inr (number_more n ms more there)

-- more have failed
pub failed_more : (n : ℕ) (cs ds : List Command) (more : List ℕ) → numbers_of ds ≡ numbers_of cs ++ more → HasTx n cs → HasTx n ds
failed_more n cs ds more is has = of_number n ds (subst (has_number n) (sym is) (number_more n (numbers_of cs) more (number_of n cs has)))

-- ---- one report

module _ (from : ℕ) (us vs : List Tx) (longer : (t : Tx) (ts : List Tx) → IsAt t ts us → IsAt t ts vs) where
  below_still : (d e n : ℕ) → d ≤ e → IsBelow from us d n → IsBelow from vs e n
  below_still d e n up is = record { t = is.t; ts = is.ts; at = longer is.t is.ts is.at; number = is.number; below = let a = is.below in omega arith }

  unrung_still : (d e n : ℕ) → e ≡ d → IsUnrung from us d n → IsUnrung from vs e n
  unrung_still d e n same is = record { t = is.t; ts = is.ts; at = longer is.t is.ts is.at; number = is.number; above = let a = is.above in omega arith }

  module _ (d e : ℕ) (failed failed' : List Command) (kept kept' : Option (ℕ × Why)) (up : d ≤ e) (still : kept ≢ None → (kept' ≢ None) × (e ≡ d) × ((n : ℕ) → HasTx n failed → HasTx n failed')) where
    failed_still : (n : ℕ) → StaysFailed from us d failed kept n → StaysFailed from vs e failed' kept' n
    failed_still n is = let s = still is.0 in (s.0, s.2 n is.1, below_still d e n up is.2)

    cut_still : (n : ℕ) → StaysCut from us d kept n → StaysCut from vs e kept' n
    cut_still n is = let s = still is.0 in (s.0, unrung_still d e n s.1 is.1)

    show_still : (r : Report) → Shows from us d failed kept r → Shows from vs e failed' kept' r
    show_still report.Off is = tt
    show_still (report.Failed tx status) is = failed_still tx is
    show_still (report.FailedHome block status) is = tt
    show_still (report.Stopped tx None) is = cut_still tx is
    show_still (report.Stopped tx (Some status)) is = failed_still tx is
    show_still (report.Sent tx) is = below_still d e tx up is

    pub shows_still : (rs : List Report) → Each (Shows from us d failed kept) rs → Each (Shows from vs e failed' kept') rs
    shows_still rs = each_map _ _ (λ r is. show_still r is) rs

-- ---- one more report

pub reports_next : (q : ℕ) (c : Charge) (cs : List Charge) → c.port ≡ Side q → reports_of (Side q) (c ∷ cs) ≡ c.report ∷ reports_of (Side q) cs
reports_next q c cs mine =
    ap (λ t. reports_of (Side q) (record { port = t; report = c.report } ∷ cs)) mine
    ∙ ap (λ (b : Bool). cond b (c.report ∷ reports_of (Side q) cs) (reports_of (Side q) cs)) (eq-eqb q q refl)
