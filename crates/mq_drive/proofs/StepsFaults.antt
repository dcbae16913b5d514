-- The faults of a port in memory.
use Rattle.std.proofs.Common.{◌≡◌, ◌⊎◌, ◌<◌, ◌≤◌, ◌+◌, ◌-◌, ◌^◌, ℕ, zero, suc, Bool, true, false, List, [], ◌∷◌, ◌++◌, length, replicate, All, Option, Some, None, Result, Ok, Err, is_some, inl, inr, refl, sym, ◌∙◌, ap, subst, arith, true≢false, length-append}
use Rattle.std.proofs.lemmas.List.{length-replicate}
use Rattle.std.specs.Prelude.{Contains, IsErr}
use Rattle.std.proofs.lemmas.Bool.{cases_lt, cases_eq}
use Rattle.std.proofs.lemmas.List.Elements.{All-cons, All-rest}
use Rattle.mq_blocks.specs.Drive.{PortState, counted, after_begin}
use Rattle.mq_blocks.proofs.Options.{none-of}
use Rattle.mq_nvme.specs.Completion.{status_of}
use Rattle.mq_drive.specs.declared.port.Step.{Step}
use Rattle.mq_drive.specs.declared.port.Step.TheVariants.{Idle, Done}
use Rattle.mq_drive.specs.declared.port.HomeStep.{HomeStep}
use Rattle.mq_drive.specs.Emu.{device_state, device_faults}
use Rattle.mq_drive.specs.Fuse.{above}
use Rattle.mq_drive.specs.Seats.{tickets_of}
use Rattle.mq_drive.specs.Failures.{errors_of}
use Rattle.mq_drive.specs.Limits.{fails_by}
use Rattle.mq_drive.specs.Steps.{PortFault, PowerOff, CommandError, HomeError, IsWithOneMore, Gains, OffCause, StepGives, HomeGives}
use Rattle.mq_drive.specs.declared.device.Device.{Device}
use Rattle.mq_drive.specs.declared.failing.Failure.{Failure}
use Rattle.mq_drive.specs.declared.failing.Failure.TheVariants.{Queued, Home}
use Rattle.mq_drive.specs.declared.port.Off.{Off}

one_more : (n m : ℕ) (errors : List PortFault) → m ≡ suc n → IsWithOneMore PowerOff (replicate n PowerOff ++ errors) (replicate m PowerOff ++ errors)
one_more n m errors is =
    subst (λ (k : ℕ). IsWithOneMore PowerOff (replicate n PowerOff ++ errors) (replicate k PowerOff ++ errors)) (sym is)
    (record { before = []; after = replicate n PowerOff ++ errors; old_is = refl; new_is = refl })

length-faults : (n : ℕ) (errors : List PortFault) → length (replicate n PowerOff ++ errors) ≡ n + length errors
length-faults n errors = length-append (replicate n PowerOff) errors ∙ ap (λ (k : ℕ). k + length errors) (length-replicate n PowerOff)

pub off_gains : (n m : ℕ) (errors : List PortFault) → n < 2 ^ 64 → m ≡ counted n 1 → Gains PowerOff (replicate n PowerOff ++ errors) (replicate m PowerOff ++ errors)
off_gains n m errors small is = elim (cases_lt n (2 ^ 64 - 1)) [
  | inl below ↦ inl (let e : m ≡ suc n = omega (arith, is, below) in one_more n m errors e)
  | inr end ↦
      let e : m ≡ n = omega (arith, is, end, small) in
      let long = length-faults n errors in
      inr (omega (arith, long, end), ap (λ (k : ℕ). replicate k PowerOff ++ errors) e)
]

pub refused : {A : Type 0} (r : Result A Off) (n m : ℕ) (errors : List PortFault) → IsErr r → n < 2 ^ 64 → m ≡ counted n 1 → OffCause r (replicate n PowerOff ++ errors) (replicate m PowerOff ++ errors)
refused (Ok x) n m errors bad small is = absurd (true≢false (sym bad))
refused (Err x) n m errors bad small is = off_gains n m errors small is

pub refused_step : (s new : PortState) (faults more : List PortFault) (r : Result Step Off) → IsErr r → (s.posted ≡ [] → ⊥) → new ≡ s → Gains PowerOff faults more → StepGives s faults r new more
refused_step s new faults more (Ok x) bad some same gains = absurd (true≢false (sym bad))
refused_step s new faults more (Err x) bad some same gains = (some, same, gains)

pub refused_home : (s new : PortState) (faults more : List PortFault) (lba : ℕ) (block : List ℕ) (r : Result HomeStep Off) → IsErr r → ((new ≡ s) ⊎ (new ≡ after_begin s lba block)) → Gains PowerOff faults more → HomeGives s faults lba block r new more
refused_home s new faults more lba block (Ok x) bad is gains = absurd (true≢false (sym bad))
refused_home s new faults more lba block (Err x) bad is gains = (is, gains)

-- the first error
pub error_gains : (n m : ℕ) (old new : Option Failure) (e : PortFault) → old ≡ None → errors_of new ≡ e ∷ [] → m ≡ n → Gains e (replicate n PowerOff ++ errors_of old) (replicate m PowerOff ++ errors_of new)
error_gains n m old new e none is same = inl (record {
  before = replicate n PowerOff;
  after = [];
  old_is = ap (λ (o : Option Failure). replicate n PowerOff ++ errors_of o) none;
  new_is = ap (λ (k : ℕ). replicate k PowerOff ++ errors_of new) same ∙ ap (λ (l : List PortFault). replicate n PowerOff ++ l) is;
})

-- a step leaves the blocks of the port where they are
pub homes_kept : (s new : PortState) (faults more : List PortFault) (r : Result Step Off) → StepGives s faults r new more → (new.homes_first ≡ s.homes_first) × (new.homes_size ≡ s.homes_size)
homes_kept s new faults more (Ok Idle) gives = (ap (λ (t : PortState). t.homes_first) gives.1, ap (λ (t : PortState). t.homes_size) gives.1)
homes_kept s new faults more (Ok (Done c)) gives = elim (cases_eq (status_of c) 0) [
  | inl good ↦ (ap (λ (t : PortState). t.homes_first) (gives.success good).0, ap (λ (t : PortState). t.homes_size) (gives.success good).0)
  | inr bad ↦ (ap (λ (t : PortState). t.homes_first) (gives.error bad).0, ap (λ (t : PortState). t.homes_size) (gives.error bad).0)
]
homes_kept s new faults more (Err x) gives = (ap (λ (t : PortState). t.homes_first) gives.1, ap (λ (t : PortState). t.homes_size) gives.1)

-- ---- what the faults say

is_off : PortFault → Bool
is_off PowerOff = true
is_off (CommandError tx status) = false
is_off (HomeError lba status) = false

contains_at : (before after : List PortFault) (f : PortFault) → Contains (before ++ f ∷ after) f
contains_at [] after f = (0, omega arith, refl)
contains_at (x ∷ before) after f =
    let rest = contains_at before after f in
    (suc rest.0, (let within = rest.1 in omega (arith, within)), rest.2)

pub contains-more : (f : PortFault) (old new : List PortFault) → IsWithOneMore f old new → Contains new f
contains-more f old new one = subst (λ (l : List PortFault). Contains l f) (sym one.new_is) (contains_at one.before one.after f)

pub few_errors : (failure : Option Failure) → length (errors_of failure) ≤ 1
few_errors None = omega arith
few_errors (Some (Queued c)) = omega arith
few_errors (Some (Home w)) = omega arith

no_off : (failure : Option Failure) → Contains (errors_of failure) PowerOff → ⊥
unfolding is_off
no_off None has = let within = has.1 in omega (arith, within)
no_off (Some (Queued c)) (zero, within, is) = true≢false (sym (ap is_off is))
no_off (Some (Queued c)) (suc k, within, is) = omega (arith, within)
no_off (Some (Home w)) (zero, within, is) = true≢false (sym (ap is_off is))
no_off (Some (Home w)) (suc k, within, is) = omega (arith, within)

pub some_off : (n : ℕ) (failure : Option Failure) → Contains (replicate n PowerOff ++ errors_of failure) PowerOff → 0 < n
some_off zero failure has = absurd (no_off failure has)
some_off (suc n) failure has = omega arith

full_off : (n : ℕ) (failure : Option Failure) → 2 ^ 64 - 1 ≤ length (replicate n PowerOff ++ errors_of failure) → 0 < n
full_off n failure full = let long = length-faults n (errors_of failure) in let few = few_errors failure in omega (arith, long, few, full)

-- an event that did not happen is among the refused ones
pub gained_off : (old : List PortFault) (n : ℕ) (failure : Option Failure) → Gains PowerOff old (replicate n PowerOff ++ errors_of failure) → 0 < n
gained_off old n failure (inl one) = some_off n failure (contains-more PowerOff old _ one)
gained_off old n failure (inr full) =
    full_off n failure (let same : length (replicate n PowerOff ++ errors_of failure) ≡ length old = ap length full.1 in let long = full.0 in omega (arith, same, long))

pub contains_first : (n : ℕ) (errors : List PortFault) → 0 < n → Contains (replicate n PowerOff ++ errors) PowerOff
contains_first zero errors some = absurd (omega (arith, some))
contains_first (suc n) errors some = (0, omega arith, refl)

all_offs : (n : ℕ) → All (λ f. f ≡ PowerOff) (replicate n PowerOff ++ [])
all_offs zero = λ k d less. absurd (omega (arith, less))
all_offs (suc n) = All-cons (λ f. f ≡ PowerOff) PowerOff (replicate n PowerOff ++ []) refl (all_offs n)

all_right : (n : ℕ) (errors : List PortFault) → All (λ f. f ≡ PowerOff) (replicate n PowerOff ++ errors) → All (λ f. f ≡ PowerOff) errors
all_right zero errors all = all
all_right (suc n) errors all = all_right n errors (All-rest (λ f. f ≡ PowerOff) PowerOff (replicate n PowerOff ++ errors) (replicate (suc n) PowerOff ++ errors) refl all)

has_error : (failure : Option Failure) → is_some failure ≡ true → All (λ f. f ≡ PowerOff) (errors_of failure) → ⊥
unfolding is_off
has_error None some all = true≢false (sym some)
has_error (Some (Queued c)) some all = true≢false (sym (ap is_off (all 0 PowerOff (omega arith))))
has_error (Some (Home w)) some all = true≢false (sym (ap is_off (all 0 PowerOff (omega arith))))

pub an_error : (p : Device) → p.failing.failed ≡ true → All (λ f. f ≡ PowerOff) (device_faults p) → ⊥
an_error p is all = has_error p.failure (p.sound.counts.failure_counted ∙ is) (all_right p.power.offs (errors_of p.failure) all)

pub no_error_yet : (p : Device) → p.failing.failed ≡ false → All (λ f. f ≡ PowerOff) (device_faults p)
no_error_yet p is =
    subst (λ (o : Option Failure). All (λ f. f ≡ PowerOff) (replicate p.power.offs PowerOff ++ errors_of o)) (sym (none-of p.failure (p.sound.counts.failure_counted ∙ is))) (all_offs p.power.offs)

no_failure : (p : Device) → (device_state p).fail ≡ None → p.failure ≡ None
no_failure p none = none-of p.failure (p.sound.counts.failure_counted ∙ p.failing.exact ∙ ap (λ (o : Option ℕ). fails_by o p.failing.executed) none)

-- where no command is to fail, all faults are refused events
pub only_offs : (p : Device) → (device_state p).fail ≡ None → All (λ f. f ≡ PowerOff) (device_faults p)
only_offs p none = subst (λ (o : Option Failure). All (λ f. f ≡ PowerOff) (replicate p.power.offs PowerOff ++ errors_of o)) (sym (no_failure p none)) (all_offs p.power.offs)

-- where the power went off, a ticket of the port's seat is at or above the limit
pub off_above : (old : List PortFault) (p : Device) (l : ℕ) → Gains PowerOff old (device_faults p) → (device_state p).fuse.limit ≡ Some l → 0 < above l (tickets_of p.power.seat)
off_above old p l gains is = p.power.off l is (gained_off old p.power.offs p.failure gains)

-- without a limit it does not go off
pub off_unlimited : (old : List PortFault) (p : Device) → Gains PowerOff old (device_faults p) → (device_state p).fuse.limit ≡ None → ⊥
off_unlimited old p gains none =
    let some = gained_off old p.power.offs p.failure gains in
    let zero_offs = p.power.unlimited none in
    omega (arith, some, zero_offs)

-- where no command is to fail, and the power was on before, none gave an error
pub no_error : (old : List PortFault) (p : Device) (f : PortFault) → (f ≡ PowerOff → ⊥) → Gains f old (device_faults p) → (device_state p).fail ≡ None → (Contains old PowerOff → ⊥) → ⊥
no_error old p f other (inl one) none on =
    let has = contains-more f old (device_faults p) one in
    other (sym has.2 ∙ only_offs p none has.0 f has.1)
no_error old p f other (inr full) none on =
    let same : length (device_faults p) ≡ length old = ap length full.1 in
    let long : 2 ^ 64 - 1 ≤ length (device_faults p) = let least = full.0 in omega (arith, same, least) in
    on (subst (λ (l : List PortFault). Contains l PowerOff) full.1 (contains_first p.power.offs (errors_of p.failure) (full_off p.power.offs p.failure long)))

pub command_error_is_none : (tx status : ℕ) → CommandError tx status ≡ PowerOff → ⊥
unfolding is_off
command_error_is_none tx status is = true≢false (sym (ap is_off is))

pub home_error_is_none : (lba status : ℕ) → HomeError lba status ≡ PowerOff → ⊥
unfolding is_off
home_error_is_none lba status is = true≢false (sym (ap is_off is))
