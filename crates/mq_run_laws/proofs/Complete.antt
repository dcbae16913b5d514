-- A run without a cut and without a failing command is complete, where memory ran out for none of its groups.
use Rattle.std.proofs.Common.{◌≡◌, ◌∙◌, ℕ, suc, zero, ◌<◌, false, List, [], ◌∷◌, length, Option, Some, None, inl, inr, refl, sym, ap, subst, arith}
use Rattle.std.specs.Prelude.{Err, Ok, Result}
use Rattle.std.specs.List.{Contains}
use Rattle.std.proofs.lemmas.Bool.{cases_lt, true≢false}
use Rattle.mq_blocks.specs.declared.geometry.Geometry.{Geometry}
use Rattle.mq_queue_side.specs.declared.answers.CallCause.{CallCause}
use Rattle.mq_queue_side.specs.declared.answers.CallCause.TheVariants.{Changes, Drive, OutOfMemory, TooLarge}
use Rattle.mq_queue_side.specs.declared.answers.Refusal.{Refusal}
use Rattle.mq_drive.specs.Steps.{PortFault}
use Rattle.mq_drive.specs.declared.emu.EmuPort.{EmuPort}
use Rattle.mq_run_laws.specs.Answers.{AreAnswered, AreCaused, IsCause, IsLarge, IsLate, IsOf, IsRefusedFor, group_told}
use Rattle.mq_run_laws.specs.Cuts.{IsClean}
use Rattle.mq_run_laws.specs.Groups.{IsGroup, groups_of}
use Rattle.mq_run_laws.specs.Legal.{newest}
use Rattle.mq_run_laws.proofs.LegalFacts.{count-once}
use Rattle.mq_image.specs.File.{DriveImage}
use Rattle.mq_image_ops.specs.Views.{view_of}
use Rattle.mq_run_laws.specs.Endings.{limit_of}
use Rattle.mq_run_laws.specs.declared.options.RunOptions.{RunOptions}
use Rattle.mq_run_laws.specs.declared.ran.ImageRun.{ImageRun}
use Rattle.mq_queue_side.specs.declared.answers.Cause.{Cause}
use Rattle.mq_queue_side.specs.declared.answers.Cause.TheVariants.{Failed, FailedHome, Off, Stopped}
use Rattle.mq_queue_side.specs.declared.answers.Why.TheVariants as why
use Rattle.mq_report.specs.Sessions.{ends_session, is_end}
use Rattle.mq_report.specs.declared.line.Last.TheVariants.{Clean}
use Rattle.mq_report.specs.declared.line.Told.{Told}
use Rattle.mq_script.specs.Scripts.{Script}
use Rattle.mq_script.specs.declared.group.End.{End}
use Rattle.mq_script.specs.declared.group.End.TheVariants.{Ask, Fsync}
use Rattle.mq_tree.specs.Volume.{Volume}
use Rattle.mq_run_laws.specs.Causes.{AreBacked, HasFailed, IsPoweredOff}
use Rattle.mq_run_laws.specs.Complete.{HaveWanted, IsComplete, IsOfGroup, IsSettled, WritesFewThere}

-- a group is of one of the scripts
group-low : (scripts : List Script) (s k : ℕ) → IsGroup scripts s k → s < length scripts
group-low [] s k low = absurd (omega (arith, low))
group-low (x ∷ scripts) zero k low = omega arith
group-low (x ∷ scripts) (suc s) k low = let rest = group-low scripts s k low in omega (arith, rest)

-- a settled answer does not end its session
not-end : (cause : CallCause) → IsOfGroup cause → is_end cause ≡ false
not-end (TooLarge count limit) of = refl
not-end (Changes index) of = refl
not-end OutOfMemory of = absurd of
not-end (Drive cause) of = absurd of

goes-on : (answer : Result ℕ Refusal) → IsSettled answer → ends_session answer ≡ false
goes-on (Ok number) is = refl
goes-on (Err r) is = not-end r.cause is.0

-- a refusal that comes before any draw names no number
none-drawn : (end : End) (cause : CallCause) (drawn : Option ℕ) → IsOfGroup cause → ((n : ℕ) → drawn ≡ Some n → IsLate end n cause) → drawn ≡ None
none-drawn end cause None of late = refl
none-drawn end (TooLarge count limit) (Some n) of late = absurd (late n refl)
none-drawn end (Changes index) (Some n) of late = absurd (late n refl)
none-drawn end OutOfMemory (Some n) of late = absurd of
none-drawn end (Drive cause) (Some n) of late = absurd of

-- ---- no drive's cause

module _ (g : Geometry) (o : RunOptions) (r : ImageRun) (ports : List EmuPort) (powered : limit_of o.ending ≡ None) (none : o.fail ≡ None) (backed : AreBacked g o r ports) where
  never-off : IsPoweredOff o r → ⊥
  never-off off = (let both : Some off.0 ≡ None = sym (ap limit_of off.1) ∙ powered in absurd (cc))

  never-failed : (error : PortFault) → HasFailed o r ports error → ⊥
  never-failed error h = (let both : Some h.command ≡ None = sym h.asked ∙ none in absurd (cc))

  -- where the power stays on and no command is to fail, no group is refused for one
  pub never-drive : (t : Told) (f : Refusal) (cause : Cause) → Contains r.answers.items t → t.answer ≡ Err f → f.cause ≡ Drive cause → ⊥
  never-drive t f Off c bad is = never-off (backed.power t Off c (f, bad, is) tt)
  never-drive t f (Stopped tx why.Off) c bad is = never-off (backed.power t (Stopped tx why.Off) c (f, bad, is) tt)
  never-drive t f (Failed tx status) c bad is = (let h = backed.command t (Failed tx status) tx c (f, bad, is) refl in never-failed _ h.failed)
  never-drive t f (Stopped tx (why.Status status)) c bad is = (let h = backed.command t (Stopped tx (why.Status status)) tx c (f, bad, is) refl in never-failed _ h.failed)
  never-drive t f (FailedHome block status) c bad is = elim (backed.home t block status c (f, bad, is)) [ inl h ↦ never-failed _ h | inr u ↦ never-off u.power ]

-- ---- a run that is complete

module _ (x : DriveImage) (scripts : List Script) (o : RunOptions) (r : ImageRun) (v : Volume) (reached : ℕ) (ports : List EmuPort) (powered : limit_of o.ending ≡ None) (none : o.fail ≡ None) (wanted : HaveWanted r.answers.items → ⊥)
    (answered : AreAnswered scripts r.entries.items r.answers.items) (caused : AreCaused x.geometry scripts v r.base r.entries.items reached r.answers.items) (backed : AreBacked x.geometry o r ports) where
  abbrev g : Geometry
  g = x.geometry

  -- so each is refused for a cause of its own
  of-group : (t : Told) (f : Refusal) (cause : CallCause) → Contains r.answers.items t → t.answer ≡ Err f → f.cause ≡ cause → IsOfGroup cause
  of-group t f OutOfMemory c bad is = wanted (t, c, f, bad, is)
  of-group t f (TooLarge count limit) c bad is = tt
  of-group t f (Changes index) c bad is = tt
  of-group t f (Drive cause) c bad is = never-drive g o r ports powered none backed t f cause c bad is

  settled-by : (t : Told) (answer : Result ℕ Refusal) → Contains r.answers.items t → t.answer ≡ answer → IsSettled answer
  settled-by t (Ok number) c is = tt
  settled-by t (Err f) c is =
      let of = of-group t f f.cause c is refl in
      (of, none-drawn (group_told scripts t).end f.cause f.drawn of ((caused t c).refused f is).late)

  settled : (t : Told) → Contains r.answers.items t → IsSettled t.answer
  settled t c = settled-by t t.answer c refl

  -- ---- each group is answered

  abbrev IsAnsweredWell : (s k : ℕ) → Type 0
  IsAnsweredWell s k = (t : Told) × Contains r.answers.items t × IsOf t s k × IsSettled t.answer

  groups : (s k : ℕ) → IsGroup scripts s k → IsAnsweredWell s k
  groups s k low =
      let p = answered.prefixes s (group-low scripts s k low) in
      elim (cases_lt p.count (length (groups_of scripts s))) [
        | inl less ↦ (let h = p.stopped less in absurd (true≢false (sym h.4 ∙ goes-on h.0.answer (settled h.0 h.1))))
        | inr all ↦ (let t = p.each k (omega arith) in (t.0, t.1, t.2, settled t.0 t.1))
      ]

  -- ---- each that ends with `fsync` is acknowledged

  not-large : (t : Told) (count : ℕ) → WritesFewThere g scripts v r.base r.entries.items t → IsLarge g scripts v r.base r.entries.items t count → ⊥
  not-large t count few large =
      let writes = few large.at large.least large.seen large.most in
      let same : writes.0 ≡ count = count-once g _ _ writes.0 count writes.1 large.writes in
      let most = writes.2 in
      let many = large.many in
      absurd (omega arith)

  abbrev Causes : Told → CallCause → Type 0
  Causes t cause = IsCause g scripts v r.base r.entries.items reached t cause

  not-refused : (t : Told) (cause : CallCause) → (group_told scripts t).end ≡ Fsync → WritesFewThere g scripts v r.base r.entries.items t → IsOfGroup cause → Causes t cause → ⊥
  not-refused t OutOfMemory end few of is = of
  not-refused t (Drive cause) end few of is = of
  not-refused t (TooLarge count limit) end few of is = not-large t count few is.0
  not-refused t (Changes index) end few of is = (let both : Ask ≡ Fsync = sym is.asks ∙ end in absurd (cc))

  durable-by : (t : Told) (answer : Result ℕ Refusal) → Contains r.answers.items t → t.answer ≡ answer → (group_told scripts t).end ≡ Fsync → WritesFewThere g scripts v r.base r.entries.items t → (n : ℕ) × (t.answer ≡ Ok n)
  durable-by t (Ok n) c is end few = (n, is)
  durable-by t (Err f) c is end few =
      let why : IsRefusedFor g scripts v r.base r.entries.items reached t f = (caused t c).refused f is in
      absurd (not-refused t f.cause end few (of-group t f f.cause c is refl) why.cause_is)

  -- ---- the whole

  pub is-complete : (n : ℕ) → r.last ≡ Clean n → (n ≡ newest r.base r.entries.items) × IsClean g (view_of r.image) n → IsComplete x scripts v r
  is-complete n last clean = record {
    groups = groups;
    durable = λ t c end few. durable-by t t.answer c refl end few;
    last = last ∙ ap (λ (m : ℕ). Clean m) clean.0;
    clean = subst (λ (m : ℕ). IsClean g (view_of r.image) m) clean.0 clean.1;
  }
