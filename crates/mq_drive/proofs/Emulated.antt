-- What an emulated port counts of the commands that it executes.
use Rattle.std.proofs.Common.{◌≡◌, ◌<◌, ◌-◌, ◌+◌, suc, zero, min, eqb, leb, ne_eqb, ◌&&◌, inr, ◌*◌, ◌%◌, ◌^◌, ℕ, Bool, true, false, List, [], ◌∷◌, Option, Some, None, Result, Ok, Err, inl, if◌then◌else◌, refl, sym, ◌∙◌, ap, arith, true≢false}
use Rattle.std.specs.Prelude.{IsErr}
use Rattle.std.specs.Option.{ForSome, option_eq}
use Rattle.std.proofs.lemmas.Bool.{cases_lt, le-leb, lt-leb}
use Rattle.std.proofs.Math.Bool.{and-false}
use Rattle.mq_blocks.specs.Drive.{PortState}
use Rattle.mq_blocks.specs.Limits.{depth}
use Rattle.mq_nvme.specs.Completion.{completion_of, identifier_of}
use Rattle.mq_nvme.specs.declared.completion.Ended.{Ended}
use Rattle.mq_nvme.proofs.CompletionCommands.{identifier_of-completion}
use Rattle.mq_drive.specs.declared.port.Off.{Off}
use Rattle.mq_drive.specs.declared.port.Step.{Step}
use Rattle.mq_drive.specs.declared.port.HomeStep.{HomeStep}
use Rattle.mq_drive.specs.Emulated.{Counts, IsNext, StepCounts, HomeCounts, StepTickets, HomeTickets, phase_after, status_after}
use Rattle.mq_drive.specs.Choices.{Chance, StepChooses, HomeChooses}
use Rattle.mq_drive.specs.Steps.{PortFault}
use Rattle.mq_drive.specs.Limits.{fails_by, fails_next}
use Rattle.mq_drive.specs.Roles.{id_of}
use Rattle.mq_drive.specs.Seats.{IsRefused}

-- equal parts make equal completions
same_completion : (x y : Ended) → x.sq_head ≡ y.sq_head → x.sq_id ≡ y.sq_id → x.cid ≡ y.cid → x.phase ≡ y.phase → x.status ≡ y.status → completion_of x ≡ completion_of y
unfolding completion_of
same_completion x y head id cid phase status =
    let bit : ◌≡◌ {A = ℕ} (if x.phase then 1 else 0) (if y.phase then 1 else 0) = ap (λ (b : Bool). if b then 1 else 0) phase in
    let second : x.sq_head + 65536 * x.sq_id ≡ y.sq_head + 65536 * y.sq_id = omega (arith, head, id) in
    let third : x.cid + 65536 * (if x.phase then 1 else 0) + 131072 * x.status ≡ y.cid + 65536 * (if y.phase then 1 else 0) + 131072 * y.status = omega (arith, cid, bit, status) in
    ap (λ (n : ℕ). 0 ∷ 0 ∷ n ∷ (x.cid + 65536 * (if x.phase then 1 else 0) + 131072 * x.status) ∷ []) second
    ∙ ap (λ (n : ℕ). 0 ∷ 0 ∷ (y.sq_head + 65536 * y.sq_id) ∷ n ∷ []) third

pub next_is : (s : PortState) (n : Counts) (c : List ℕ) (x : Ended) → c ≡ completion_of x → x.cid < 2 ^ 16 → x.sq_head ≡ s.doorbell % depth → x.sq_id ≡ id_of s.queue → x.phase ≡ phase_after n.completed → x.status ≡ status_after s n.executed → IsNext s n c
next_is s n c x is small head id phase status =
    is ∙ same_completion x (record { sq_head = s.doorbell % depth; sq_id = id_of s.queue; cid = identifier_of c; phase = phase_after n.completed; status = status_after s n.executed })
    head id (sym (ap identifier_of is ∙ identifier_of-completion x small)) phase status

pub fails_status : (s : PortState) (executed : ℕ) → fails_next s.fail executed ≡ true → 640 ≡ status_after s executed
fails_status s executed fails = ap (λ (b : Bool). if b then 640 else 0) (sym fails)

pub succeeds_status : (s : PortState) (executed : ℕ) → fails_next s.fail executed ≡ false → 0 ≡ status_after s executed
succeeds_status s executed succeeds = ap (λ (b : Bool). if b then 640 else 0) (sym succeeds)

pub same_counts : (a b x y : ℕ) → a ≡ b → x ≡ y → ◌≡◌ {A = Counts} (record { completed = a; executed = x }) (record { completed = b; executed = y })
same_counts a b x y first second = ap (λ (n : ℕ). record { completed = n; executed = x }) first ∙ ap (λ (n : ℕ). record { completed = b; executed = n }) second

-- ---- where an event was refused

pub refused_counts : (s : PortState) (n : Counts) (r : Result Step Off) (m : Counts) → IsErr r → m ≡ n → StepCounts s n r m
refused_counts s n (Ok x) m bad same = absurd (true≢false (sym bad))
refused_counts s n (Err x) m bad same = same

pub refused_home_counts : (s : PortState) (n : Counts) (r : Result HomeStep Off) (m : Counts) → IsErr r → m ≡ n → HomeCounts s n r m
refused_home_counts s n (Ok x) m bad same = absurd (true≢false (sym bad))
refused_home_counts s n (Err x) m bad same = same

pub refused_tickets : (limit : Option ℕ) (old : List ℕ) (r : Result Step Off) (new : List ℕ) → IsErr r → IsRefused limit old new → StepTickets limit old r new
refused_tickets limit old (Ok x) new bad over = absurd (true≢false (sym bad))
refused_tickets limit old (Err x) new bad over = over

pub refused_home_tickets : (limit : Option ℕ) (old : List ℕ) (r : Result HomeStep Off) (new : List ℕ) → IsErr r → IsRefused limit old new → HomeTickets limit old r new
refused_home_tickets limit old (Ok x) new bad over = absurd (true≢false (sym bad))
refused_home_tickets limit old (Err x) new bad over = inl over

pub refused_chosen : (s new : PortState) (faults more : List PortFault) (n : Chance) (r : Result Step Off) → IsErr r → StepChooses s faults n r new more n
refused_chosen s new faults more n (Ok x) bad = absurd (true≢false (sym bad))
refused_chosen s new faults more n (Err x) bad = refl

pub refused_home_chosen : (s new : PortState) (n : Chance) (lba : ℕ) (block : List ℕ) (r : Result HomeStep Off) → IsErr r → new ≡ s → HomeChooses s n lba block r new n
refused_home_chosen s new n lba block (Ok x) bad same = absurd (true≢false (sym bad))
refused_home_chosen s new n lba block (Err x) bad same = inl (same, refl)

-- ---- which command fails

-- where none has failed, the next one fails exactly where it is the one that is named
pub named_next : (named : Option ℕ) (executed next : ℕ) → ForSome named (λ k. k < 2 ^ 64) → next ≡ min (executed + 1) (2 ^ 64 - 1) → fails_by named executed ≡ false → option_eq eqb named (Some next) ≡ fails_next named executed
named_next None executed next small is none = refl
named_next (Some zero) executed zero small is none = absurd (omega (arith, is))
named_next (Some zero) executed (suc n) small is none = ne_eqb 0 (suc n) (λ e. omega (arith, e)) ∙ sym (ne_eqb 0 (executed + 1) (λ e. omega (arith, e)))
named_next (Some (suc k)) executed next small is none = elim (cases_lt executed (suc k)) [
  | inl above ↦
      let few : suc k < 2 ^ 64 = small (suc k) refl in
      let same : next ≡ executed + 1 = omega (arith, is, above, few) in
      ap (λ (n : ℕ). eqb (suc k) n) same
  | inr passed ↦ absurd (true≢false (sym (ap (λ (b : Bool). b && leb (suc k) executed) (le-leb 1 (suc k) (omega arith)) ∙ le-leb (suc k) executed passed) ∙ none))
]

-- where one has failed, the next one is not the one that is named
pub none_next : (named : Option ℕ) (executed : ℕ) → fails_by named executed ≡ true → fails_next named executed ≡ false
none_next None executed some = refl
none_next (Some k) executed some = ne_eqb k (executed + 1) (λ e.
    true≢false (sym some ∙ ap (λ (b : Bool). leb 1 k && b) (lt-leb k executed (omega (arith, e))) ∙ and-false (leb 1 k)))
