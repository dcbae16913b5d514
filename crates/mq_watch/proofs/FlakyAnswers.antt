-- What a port below answers, under the faults of a port that refuses a call.
use Rattle.std.proofs.Common.{◌≡◌, ◌≢◌, ◌+◌, ℕ, Bool, true, false, List, [], ◌∷◌, length, Result, Ok, Err, Some, inl, inr, refl, sym, ap, subst, arith}
use Rattle.std.proofs.lemmas.Bool.{cases_eq}
use Rattle.mq_blocks.specs.Drive.{PortState}
use Rattle.mq_nvme.specs.Completion.{status_of}
use Rattle.mq_drive.proofs.DriveCommands.{fewer}
use Rattle.mq_drive.specs.Steps.{PortFault, PowerOff, CommandError, HomeError, Gains, OffCause, StepGives, HomeGives}
use Rattle.mq_drive.specs.declared.port.Off.{Off}
use Rattle.mq_drive.specs.declared.port.Step.{Step}
use Rattle.mq_drive.specs.declared.port.Step.TheVariants.{Idle, Done}
use Rattle.mq_drive.specs.declared.port.HomeStep.{HomeStep}
use Rattle.mq_drive.specs.declared.port.HomeStep.TheVariants as home
use Rattle.mq_watch.specs.Flaky.{with_refused}

gains_on : (f : PortFault) (b : Bool) (old new : List PortFault) → Gains f old new → Gains f (with_refused b old) (with_refused b new)
gains_on f false old new gains = gains
gains_on f true old new (inl one) = inl (record {
  before = PowerOff ∷ one.before;
  after = one.after;
  old_is = ap (λ (l : List PortFault). PowerOff ∷ l) one.old_is;
  new_is = ap (λ (l : List PortFault). PowerOff ∷ l) one.new_is;
})
gains_on f true old new (inr (full, same)) = inr (omega (arith, full), ap (λ (l : List PortFault). PowerOff ∷ l) same)

gains_under : (f : PortFault) (b c : Bool) (old new : List PortFault) → c ≡ b → Gains f old new → Gains f (with_refused b old) (with_refused c new)
gains_under f b c old new is gains = subst (λ (d : Bool). Gains f (with_refused b old) (with_refused d new)) (sym is) (gains_on f b old new gains)

same_under : (b c : Bool) (old new : List PortFault) → c ≡ b → new ≡ old → with_refused c new ≡ with_refused b old
same_under b c old new is same = λ i. with_refused (is i) (same i)

pub off_under : (b c : Bool) (old mid new : List PortFault) → c ≡ b → mid ≡ old → Gains PowerOff mid new → Gains PowerOff (with_refused b old) (with_refused c new)
off_under b c old mid new is at gains = gains_under PowerOff b c old new is (subst (λ (l : List PortFault). Gains PowerOff l new) at gains)

cause_on : {A : Type 0} (r : Result A Off) (b c : Bool) (old new : List PortFault) → c ≡ b → OffCause r old new → OffCause r (with_refused b old) (with_refused c new)
cause_on (Ok x) b c old new is cause = same_under b c old new is cause
cause_on (Err x) b c old new is cause = gains_under PowerOff b c old new is cause

pub cause_under : {A : Type 0} (r : Result A Off) (b c : Bool) (old mid new : List PortFault) → c ≡ b → mid ≡ old → OffCause r mid new → OffCause r (with_refused b old) (with_refused c new)
cause_under r b c old mid new is at cause = cause_on r b c old new is (subst (λ (l : List PortFault). OffCause r l new) at cause)

step_on : (s t : PortState) (r : Result Step Off) (b c : Bool) (old new : List PortFault) → c ≡ b → StepGives s old r t new → StepGives s (with_refused b old) r t (with_refused c new)
step_on s t (Ok Idle) b c old new is gives = (gives.0, gives.1, same_under b c old new is gives.2)
step_on s t (Ok (Done d)) b c old new is gives = record {
  at = gives.at;
  command = gives.command;
  posted = gives.posted;
  identifier = gives.identifier;
  success = λ good. ((gives.success good).0, same_under b c old new is (gives.success good).1);
  error = λ bad. ((gives.error bad).0, gains_under (CommandError gives.command.tx (status_of d)) b c old new is (gives.error bad).1);
}
step_on s t (Err x) b c old new is gives = (gives.0, gives.1, gains_under PowerOff b c old new is gives.2)

pub step_under : (s u t : PortState) (r : Result Step Off) (b c : Bool) (old mid new : List PortFault) → c ≡ b → u ≡ s → mid ≡ old → StepGives u mid r t new → StepGives s (with_refused b old) r t (with_refused c new)
step_under s u t r b c old mid new is same at gives =
    step_on s t r b c old new is (subst (λ (v : PortState). StepGives v old r t new) same (subst (λ (l : List PortFault). StepGives u l r t new) at gives))

home_on : (s t : PortState) (lba : ℕ) (block : List ℕ) (r : Result HomeStep Off) (b c : Bool) (old new : List PortFault) → c ≡ b → HomeGives s old lba block r t new → HomeGives s (with_refused b old) lba block r t (with_refused c new)
home_on s t lba block (Ok home.Done) b c old new is gives = (gives.0, same_under b c old new is gives.1)
home_on s t lba block (Ok (home.Error status)) b c old new is gives = (gives.0, gives.1, gains_under (HomeError lba status) b c old new is gives.2)
home_on s t lba block (Err x) b c old new is gives = (gives.0, gains_under PowerOff b c old new is gives.1)

pub home_under : (s u t : PortState) (lba : ℕ) (block : List ℕ) (r : Result HomeStep Off) (b c : Bool) (old mid new : List PortFault) → c ≡ b → u ≡ s → mid ≡ old → HomeGives u mid lba block r t new → HomeGives s (with_refused b old) lba block r t (with_refused c new)
home_under s u t lba block r b c old mid new is same at gives =
    home_on s t lba block r b c old new is (subst (λ (v : PortState). HomeGives v old lba block r t new) same (subst (λ (l : List PortFault). HomeGives u l lba block r t new) at gives))

-- ---- how many are posted after a step

pub record OneEnded (s t : PortState) : Type 0 where
  pub pending : t.pending ≡ s.pending
  pub doorbell : t.doorbell ≡ s.doorbell
  pub posted : length t.posted + 1 ≡ length s.posted

pub step_ends : (s t : PortState) (r : Step) (old new : List PortFault) → s.posted ≢ [] → StepGives s old (Ok r) t new → OneEnded s t
step_ends s t Idle old new some gives = absurd (some gives.0)
step_ends s t (Done d) old new some gives = elim (cases_eq (status_of d) 0) [
  | inl good ↦ subst (OneEnded s) (sym (gives.success good).0) (record { pending = refl; doorbell = refl; posted = fewer s gives.at gives.command gives.posted })
  | inr bad ↦ subst (OneEnded s) (sym (gives.error bad).0) (record { pending = refl; doorbell = refl; posted = fewer s gives.at gives.command gives.posted })
]
