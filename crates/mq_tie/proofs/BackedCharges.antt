-- A test of equality for reports, and what stands in a list by it.
use Rattle.std.proofs.Common.{◌≡◌, ℕ, zero, suc, ◌<◌, Bool, true, false, cond, List, [], ◌∷◌, length, get_or, Some, None, refl, sym, ap, subst, ◌∙◌, inl, inr, arith, eq-eqb, eqb-true}
use Rattle.std.specs.Prelude.{nat_eq}
use Rattle.std.specs.List.{Contains}
use Rattle.std.proofs.lemmas.Bool.{cases_Bool}
use Rattle.mq_turns.specs.Lists.{Each, tally}
use Rattle.mq_turns.specs.declared.rule.Charge.{Charge}
use Rattle.mq_turns.specs.declared.rule.Report.{Report}
use Rattle.mq_turns.specs.declared.rule.Report.TheVariants as report
use Rattle.mq_turns.specs.declared.turn.Turn.{Turn}
use Rattle.mq_turns.specs.declared.turn.Turn.TheVariants.{Page, Side, Root}

-- ---- numbers that identify a charge

abbrev turn_code : Turn → List ℕ
turn_code Root = []
turn_code (Page b) = b ∷ []
turn_code (Side q) = q ∷ 0 ∷ []

abbrev turn_of : List ℕ → Turn
turn_of [] = Root
turn_of (b ∷ []) = Page b
turn_of (q ∷ _ ∷ _) = Side q

turn-again : (t : Turn) → turn_of (turn_code t) ≡ t
turn-again Root = refl
turn-again (Page b) = refl
turn-again (Side q) = refl

abbrev report_code : Report → List ℕ
report_code report.Off = []
report_code (report.Sent tx) = tx ∷ []
report_code (report.Failed tx status) = tx ∷ status ∷ []
report_code (report.FailedHome block status) = block ∷ status ∷ 0 ∷ []
report_code (report.Stopped tx None) = tx ∷ 0 ∷ 0 ∷ 0 ∷ []
report_code (report.Stopped tx (Some status)) = tx ∷ status ∷ 0 ∷ 0 ∷ 0 ∷ []

abbrev report_from : List ℕ → Report
report_from [] = report.Off
report_from (tx ∷ []) = report.Sent tx
report_from (tx ∷ status ∷ []) = report.Failed tx status
report_from (block ∷ status ∷ _ ∷ []) = report.FailedHome block status
report_from (tx ∷ _ ∷ _ ∷ _ ∷ []) = report.Stopped tx None
report_from (tx ∷ status ∷ _ ∷ _ ∷ _ ∷ _) = report.Stopped tx (Some status)

report-again : (r : Report) → report_from (report_code r) ≡ r
report-again report.Off = refl
report-again (report.Sent tx) = refl
report-again (report.Failed tx status) = refl
report-again (report.FailedHome block status) = refl
report-again (report.Stopped tx None) = refl
report-again (report.Stopped tx (Some status)) = refl

-- ---- the test

abbrev same_numbers : List ℕ → List ℕ → Bool
same_numbers [] [] = true
same_numbers [] (b ∷ ns) = false
same_numbers (a ∷ ms) [] = false
same_numbers (a ∷ ms) (b ∷ ns) = cond (nat_eq a b) (same_numbers ms ns) false

numbers-alike : (ms : List ℕ) → same_numbers ms ms ≡ true
numbers-alike [] = refl
numbers-alike (a ∷ ms) = ap (λ (t : Bool). cond t (same_numbers ms ms) false) (eq-eqb a a refl) ∙ numbers-alike ms

both : (s t : Bool) → cond s t false ≡ true → (s ≡ true) × (t ≡ true)
both true t e = (refl, e)
both false t e = absurd (cc)

numbers-same : (ms ns : List ℕ) → same_numbers ms ns ≡ true → ms ≡ ns
numbers-same [] [] e = refl
numbers-same [] (b ∷ ns) e = absurd (cc)
numbers-same (a ∷ ms) [] e = absurd (cc)
numbers-same (a ∷ ms) (b ∷ ns) e =
    let is = both (nat_eq a b) (same_numbers ms ns) e in
    let head : a ≡ b = eqb-true a b is.0 in
    let rest : ms ≡ ns = numbers-same ms ns is.1 in
    λ i. head i ∷ rest i

abbrev pub same_charge : Charge → Charge → Bool
same_charge c d = cond (same_numbers (turn_code c.port) (turn_code d.port)) (same_numbers (report_code c.report) (report_code d.report)) false

pub charge-alike : (c : Charge) → same_charge c c ≡ true
charge-alike c = ap (λ (t : Bool). cond t (same_numbers (report_code c.report) (report_code c.report)) false) (numbers-alike (turn_code c.port)) ∙ numbers-alike (report_code c.report)

pub charge-same : (c d : Charge) → same_charge c d ≡ true → c ≡ d
charge-same c d e =
    let is = both (same_numbers (turn_code c.port) (turn_code d.port)) (same_numbers (report_code c.report) (report_code d.report)) e in
    let port : c.port ≡ d.port = sym (turn-again c.port) ∙ (ap turn_of (numbers-same (turn_code c.port) (turn_code d.port) is.0) ∙ turn-again d.port) in
    let told : c.report ≡ d.report = sym (report-again c.report) ∙ (ap report_from (numbers-same (report_code c.report) (report_code d.report) is.1) ∙ report-again d.report) in
    λ i. record { port = port i; report = told i }

-- ---- what stands in a list

counts-one : {A : Type 0} (f : A → Bool) (xs : List A) (k : ℕ) (x : A) → k < length xs → get_or xs k x ≡ x → f x ≡ true → 0 < tally f xs
counts-one f [] k x lt at e = absurd (omega arith)
counts-one f (y ∷ ys) zero x lt at e = let hit : cond {A = ℕ} (f y) 1 0 ≡ 1 = ap (λ (t : Bool). cond {A = ℕ} t 1 0) (ap f at ∙ e) in omega arith
counts-one f (y ∷ ys) (suc k) x lt at e = let rest = counts-one f ys k x (omega arith) at e in omega arith

-- where one is counted, what holds of each holds of one that passes the test
counted-each : {A : Type 0} (f : A → Bool) (xs : List A) (P : A → Type 0) → 0 < tally f xs → Each P xs → (x : A) × (f x ≡ true) × P x
counted-each f [] P lt each = absurd (omega arith)
counted-each f (y ∷ ys) P lt each = elim (cases_Bool (f y)) [
  | inl hit ↦ (y, hit, each.0)
  | inr miss ↦
      let none : cond {A = ℕ} (f y) 1 0 ≡ 0 = ap (λ (t : Bool). cond {A = ℕ} t 1 0) miss in
      counted-each f ys P (omega arith) each.1
]

-- a charge that stands in a list is among those of another list that has as many of each
pub holds-of : (xs ys : List Charge) (c : Charge) → ((f : Charge → Bool) → tally f xs ≡ tally f ys) → Contains xs c → (P : Charge → Type 0) → Each P ys → P c
holds-of xs ys c same at P each =
    let many = same (same_charge c) in
    let some : 0 < tally (same_charge c) xs = counts-one (same_charge c) xs at.0 c at.1 at.2 (charge-alike c) in
    let found = counted-each (same_charge c) ys P (omega arith) each in
    subst P (sym (charge-same c found.0 found.1)) found.2
