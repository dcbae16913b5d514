-- Where each group was answered well and each script ends with `fsync`: each group has its line, the last
-- number was acknowledged, and each doorbell was rung for all commits of its queue.
use Rattle.std.proofs.Common.{◌≡◌, ◌⊎◌, ◌∙◌, inl, inr, ℕ, ◌+◌, ◌-◌, ◌<◌, ◌≤◌, Bool, true, false, List, [], ◌∷◌, ◌++◌, length, refl, sym, ap, subst, arith}
use Rattle.std.specs.Prelude.{Some, Result, Ok, Err}
use Rattle.std.specs.List.{AllPairs, Contains}
use Rattle.std.proofs.lemmas.Bool.{cases_lt, true≢false}
use Rattle.mq_blocks.specs.Journal.{Shown}
use Rattle.mq_blocks.specs.declared.geometry.Geometry.{Geometry}
use Rattle.mq_queue_side.specs.declared.answers.Refusal.{Refusal}
use Rattle.mq_command_run.specs.Generated.{AreGood, EndDurable}
use Rattle.mq_run_laws.specs.Answers.{AreAnswered, IsAcknowledged, IsLineOf, IsOf, Names, is_good, number_in}
use Rattle.mq_run_laws.specs.Cuts.{HasEntries, HasShare, IsCut, IsRung, is_on}
use Rattle.mq_run_laws.specs.Groups.{IsGroup, group_at, groups_of}
use Rattle.mq_run_laws.specs.Legal.{IsLegal, newest, next}
use Rattle.mq_run_laws.proofs.LawsSpelled.{has-script}
use Rattle.mq_run_laws.proofs.Pairs.{cons-cases, here, in-right, none-in, pairs-head, pairs-tail, there}
use Rattle.mq_report.specs.Lines.{Line}
use Rattle.mq_report.specs.Sessions.{ends_session}
use Rattle.mq_report.specs.declared.line.Told.{Told}
use Rattle.mq_script.specs.Scripts.{Script}
use Rattle.mq_tree.specs.Volume.{Volume}

-- ---- the last line

-- groups of one session rise
abbrev Rises : Line → Line → Type 0
Rises l m = l.session ≡ m.session → l.group < m.group

-- a line that is the last one, and of the last group of its session that has one
record Ending (base : ℕ) (lines : List Line) : Type 0 where
  line : Line
  inside : Contains lines line
  number : newest base lines ≡ line.number
  others : (m : Line) → Contains lines m → m.session ≡ line.session → (m ≡ line) ⊎ (m.group < line.group)

ending : (base : ℕ) (l : Line) (ls : List Line) → AllPairs Rises (l ∷ ls) → Ending base (l ∷ ls)
ending base l [] pairs = record {
  line = l;
  inside = here l [];
  number = refl;
  others = λ m c same. elim (cons-cases m l [] c) [ inl e ↦ inl (sym e) | inr d ↦ absurd (none-in m d) ];
}
ending base l (k ∷ ks) pairs =
    let rest = ending l.number k ks (pairs-tail Rises l (k ∷ ks) pairs) in
    record {
      line = rest.line;
      inside = there rest.line l (k ∷ ks) rest.inside;
      number = rest.number;
      others = λ m c same. elim (cons-cases m l (k ∷ ks) c) [
        | inl e ↦ inr (subst (λ (x : Line). x.group < rest.line.group) e (pairs-head Rises l (k ∷ ks) rest.line pairs rest.inside (subst (λ (x : Line). x.session ≡ rest.line.session) (sym e) same)))
        | inr d ↦ rest.others m d same
      ];
    }

-- ---- answers

good-number : (a : Result ℕ Refusal) → is_good a ≡ true → (n : ℕ) × (a ≡ Ok n)
good-number (Ok n) good = (n, refl)
good-number (Err r) good = absurd (true≢false (sym good))

good-goes-on : (a : Result ℕ Refusal) → is_good a ≡ true → ends_session a ≡ true → ⊥
good-goes-on (Ok n) good ends = true≢false (sym ends)
good-goes-on (Err r) good ends = true≢false (sym good)

-- a group with its answer and its line
record Has (lines : List Line) (answers : List Told) (s k : ℕ) : Type 0 where
  told : Told
  number : ℕ
  told_there : Contains answers told
  told_of : IsOf told s k
  answer : told.answer ≡ Ok number
  line : Line
  line_there : Contains lines line
  line_of : IsLineOf line s k
  line_number : line.number ≡ number

-- the line of the group that was reported
same-line : (l : Line) (t : Told) (s k : ℕ) → IsLineOf l t.session t.group → IsOf t s k → IsLineOf l s k
same-line l t s k is of = (is.0 ∙ of.0, is.1 ∙ of.1)

module _ (scripts : List Script) (lines : List Line) (answers : List Told) (answered : AreAnswered scripts lines answers) (good : AreGood answers) where
  told-good : (t : Told) → Contains answers t → is_good t.answer ≡ true
  told-good t c = subst (λ (x : Told). is_good x.answer ≡ true) c.2 (good c.0 t c.1)

  -- each group of a script was answered
  all-answered : (s : ℕ) (low : s < length scripts) → length (groups_of scripts s) ≤ (answered.prefixes s low).count
  all-answered s low = elim (cases_lt (answered.prefixes s low).count (length (groups_of scripts s))) [
    | inl less ↦ (let t = (answered.prefixes s low).stopped less in absurd (good-goes-on t.0.answer (told-good t.0 t.1) t.4))
    | inr high ↦ high
  ]

  has : (s k : ℕ) → IsGroup scripts s k → Has lines answers s k
  has s k is =
      let low = has-script scripts s k is in
      let many = all-answered s low in
      let t = (answered.prefixes s low).each k (omega (arith, is, many)) in
      let n = good-number t.0.answer (told-good t.0 t.1) in
      let l : Names lines t.0 (Some n.0) = subst (λ (a : Result ℕ Refusal). Names lines t.0 (number_in a)) n.1 (answered.names t.0 t.1) in
      record {
        told = t.0;
        number = n.0;
        told_there = t.1;
        told_of = t.2;
        answer = n.1;
        line = l.0;
        line_there = l.1;
        line_of = same-line l.0 t.0 s k l.2 t.2;
        line_number = l.3;
      }

  pub each-line : (s k : ℕ) → IsGroup scripts s k → (l : Line) × Contains lines l × IsLineOf l s k
  each-line s k is = let h = has s k is in (h.line, h.line_there, h.line_of)

  -- the last group of a session has a number that was acknowledged
  acknowledged : EndDurable scripts → (s k : ℕ) → k + 1 ≡ length (groups_of scripts s) → (h : Has lines answers s k) → IsAcknowledged scripts answers h.number
  acknowledged durable s k last h = (
    h.told,
    h.told_there,
    h.answer,
    ap (λ (i : ℕ). (group_at scripts i h.told.group).end) h.told_of.0 ∙ ap (λ (i : ℕ). (group_at scripts s i).end) h.told_of.1 ∙ durable s k last,
  )

  -- so was that of the last line
  last-acknowledged : (base : ℕ) → EndDurable scripts → Ending base lines → IsAcknowledged scripts answers (newest base lines)
  last-acknowledged base durable end =
      let t = answered.told end.line end.inside in
      let s = end.line.session in
      let is : IsGroup scripts s end.line.group = subst (λ (i : ℕ). IsGroup scripts s i) t.2.1 (subst (λ (i : ℕ). IsGroup scripts i t.0.group) t.2.0 (answered.of t.0 t.1)) in
      let k : ℕ = length (groups_of scripts s) - 1 in
      let last : k + 1 ≡ length (groups_of scripts s) = omega (arith, is) in
      let h = has s k (omega (arith, is)) in
      let same : h.line ≡ end.line = elim (end.others h.line h.line_there h.line_of.0) [
        | inl e ↦ e
        | inr less ↦ (let at = h.line_of.1 in absurd (omega (arith, less, at, last, is)))
      ] in
      let number : h.number ≡ newest base lines = sym h.line_number ∙ ap (λ (l : Line). l.number) same ∙ sym end.number in
      subst (λ (n : ℕ). IsAcknowledged scripts answers n) number (acknowledged durable s k last h)

  reaches : (g : Geometry) (v : Volume) (base r : ℕ) (i : Shown) → EndDurable scripts → (ls : List Line) → lines ≡ ls → AllPairs Rises ls → IsCut g scripts v base lines answers i r → newest base lines ≤ r
  reaches g v base r i durable [] is pairs cut = let least = cut.least in let none = ap (newest base) is in omega (arith, least, none)
  reaches g v base r i durable (l ∷ ls) is pairs cut =
      cut.acknowledged (newest base lines) (last-acknowledged base durable (subst (λ (ms : List Line). Ending base ms) (sym is) (ending base l ls pairs)))

  -- the image reaches the last number
  pub reaches-last : (g : Geometry) (v : Volume) (base r : ℕ) (i : Shown) → EndDurable scripts → IsLegal g scripts v base lines → IsCut g scripts v base lines answers i r → r ≡ newest base lines
  reaches-last g v base r i durable legal cut =
      let low = reaches g v base r i durable lines refl legal.sessions cut in
      let high = cut.most in
      omega (arith, low, high)

  -- no commit of a queue was left unsent
  none-unsent : (q : ℕ) (unsent : List Line) → ((l : Line) → Contains unsent l → Contains lines l) → ((l : Line) (t : Told) → Contains unsent l → is_on q l ≡ true → Contains answers t → IsOf t l.session l.group → is_good t.answer ≡ false) → (l : Line) → Contains unsent l → is_on q l ≡ false
  none-unsent q unsent inside bad l c = off (is_on q l) refl
    where
      off : (b : Bool) → is_on q l ≡ b → is_on q l ≡ false
      off false e = e
      off true e = let t = answered.told l (inside l c) in absurd (true≢false (sym (told-good t.0 t.1) ∙ bad l t.0 c e t.1 t.2))

-- ---- doorbells

no-entries : (g : Geometry) (ss : List Script) (q : ℕ) (v : Volume) (ls : List Line) → ((l : Line) → Contains ls l → is_on q l ≡ false) → HasEntries g ss q v ls 0
no-entries g ss q v [] off = refl
no-entries g ss q v (l ∷ ls) off = (
  0,
  no-entries g ss q (next g ss v l) ls (λ m c. off m (there m l ls c)),
  subst (λ (b : Bool). HasShare g v (next g ss v l) b 0 0) (sym (off l (here l ls))) refl,
)

more-entries : (g : Geometry) (ss : List Script) (q : ℕ) (v : Volume) (xs ys : List Line) (sum : ℕ) → HasEntries g ss q v xs sum → ((l : Line) → Contains ys l → is_on q l ≡ false) → HasEntries g ss q v (xs ++ ys) sum
more-entries g ss q v [] ys sum none off = subst (λ (n : ℕ). HasEntries g ss q v ys n) (sym none) (no-entries g ss q v ys off)
more-entries g ss q v (x ∷ xs) ys sum h off = (h.0, more-entries g ss q (next g ss v x) xs ys h.0 h.1 off, h.2)

-- a doorbell that was at 0 has gone on by the entries of all commits
pub rung-all : (g : Geometry) (scripts : List Script) (v : Volume) (lines : List Line) (answers : List Told) (q old new : ℕ) → AreAnswered scripts lines answers → AreGood answers → old ≡ 0 → IsRung g scripts v lines answers q old new → HasEntries g scripts q v lines new
rung-all g scripts v lines answers q old new answered good zero_was h =
    let off = none-unsent scripts lines answers answered good q h.unsent (λ l c. subst (λ (ls : List Line). Contains ls l) (sym h.parts) (in-right h.sent h.unsent l c)) h.good in
    let all = more-entries g scripts q v h.sent h.unsent h.sum h.entries off in
    let bell = h.doorbell in
    let is : h.sum ≡ new = omega (arith, bell, zero_was) in
    subst (λ (n : ℕ). HasEntries g scripts q v lines n) is (subst (λ (ls : List Line). HasEntries g scripts q v ls h.sum) (sym h.parts) all)
