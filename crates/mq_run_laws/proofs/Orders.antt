-- The lines and the answers of a run stand in the order of a report.
use Rattle.std.proofs.Common.{◌≡◌, ◌⊎◌, ◌∙◌, ℕ, ◌<◌, inl, inr, Bool, List, get_or, map, sym, subst, arith}
use Rattle.std.specs.Prelude.{Some, slice_get}
use Rattle.std.specs.List.{All, AllPairs, Contains}
use Rattle.std.proofs.lemmas.Bool.{cases_Bool}
use Rattle.mq_blocks.specs.Drive.{PortState}
use Rattle.mq_blocks.specs.declared.geometry.Geometry.{Geometry}
use Rattle.mq_drive.specs.Steps.{PortFault}
use Rattle.mq_drive.specs.declared.port.Port.{Ghosts}
use Rattle.mq_drive.specs.declared.port.Ports.{Ports}
use Rattle.mq_recover.specs.declared.standing.Standing.{Standing}
use Rattle.mq_report.specs.Orders.{IsBefore, IsToldBefore, Precedes}
use Rattle.mq_report.specs.declared.line.Line.{Line}
use Rattle.mq_report.specs.declared.line.Told.{Told}
use Rattle.mq_run.proofs.LinesGrowing.{got}
use Rattle.mq_run.proofs.Parts.{image_from}
use Rattle.mq_run.specs.Lines.{IsNotAfter}
use Rattle.mq_run.specs.Playing.{IsShort}
use Rattle.mq_run.specs.Runs.{HasRunScripts, Track}
use Rattle.mq_run.specs.declared.end.RunEnd.{RunEnd}
use Rattle.mq_run_laws.proofs.LinesBuilding.{DifferIn}
use Rattle.mq_run_laws.proofs.Pairs.{in-get, pairs-joined}
use Rattle.mq_run_laws.proofs.RunsWhole.{Session, all-apart, session-of}
use Rattle.mq_script.specs.Scripts.{Script}

-- ---- lines

-- two reads at one number, by session and group
two-reads : (l m : Line) → DifferIn l m → l.number ≡ m.number → l.commit ≡ m.commit → IsBefore l.session l.group m.session m.group → Precedes l m
two-reads l m differ number commit before = elim (cases_Bool l.commit) [
  | inl yea ↦ absurd (differ yea (sym commit ∙ yea) number)
  | inr nay ↦ inr (number, sym commit ∙ nay, inr before)
]

precedes : (l m : Line) → (l.session ≡ m.session → (l.group < m.group) ⊎ (m.group < l.group)) → DifferIn l m → IsNotAfter l m → Precedes l m
precedes l m apart differ (inl low) = inl low
precedes l m apart differ (inr (inl h)) = inr (h.0, h.2, inl h.1)
precedes l m apart differ (inr (inr (inl h))) = two-reads l m differ h.0 h.1 (inl h.2)
precedes l m apart differ (inr (inr (inr h))) = elim (apart h.2) [
  | inl low ↦ two-reads l m differ h.0 h.1 (inr (h.2, low))
  | inr high ↦ let most = h.3 in absurd (omega (arith, high, most))
]

module _ {P : Type 0} (G : Ghosts P) (state : P → PortState) (faults : P → List PortFault) (g : Geometry) (ports : Ports P) (s : Standing) (scripts : List Script) (finish : Bool) (e : RunEnd P)
    (run : HasRunScripts G state faults g ports s scripts finish e) where
  pub lines-order : All (λ script. IsShort script.groups) scripts → AllPairs Precedes e.entries.items
  lines-order short i j d lt within =
      let apart = all-apart G state faults g ports s scripts finish e run short i j d lt within in
      precedes (get_or e.entries.items i d) (get_or e.entries.items j d)
      (λ same. elim (apart.0 same) [ inl a ↦ inl a.0 | inr b ↦ inr b.0 ])
      apart.1 (run.ends.leaves.order i j d lt within)

  -- ---- answers

  abbrev of-session : (i : ℕ) (t : Track P G) → slice_get run.tracks i ≡ Some t → Session G state faults g ports s scripts finish e run i t
  of-session = session-of G state faults g ports s scripts finish e run

  -- an answer of a session is that of its place
  own-answer : (i : ℕ) (ts : List Told) (t : Told) → slice_get (map (λ (u : Track P G). u.told) run.tracks) i ≡ Some ts → Contains ts t → t.session ≡ i
  own-answer i ts t at c =
      let u = image_from (λ (u : Track P G). u.told) run.tracks i ts at in
      let p = in-get u.0.told t (subst (λ (ts : List Told). Contains ts t) (sym u.2) c) in
      ((of-session i u.0 u.1).tells.each p.0 t p.1).session_is

  -- and those of a session stand by group
  own-order : (i : ℕ) (ts : List Told) → slice_get (map (λ (u : Track P G). u.told) run.tracks) i ≡ Some ts → AllPairs IsToldBefore ts
  own-order i ts at =
      let u = image_from (λ (u : Track P G). u.told) run.tracks i ts at in
      let x = of-session i u.0 u.1 in
      subst (λ (ts : List Told). AllPairs IsToldBefore ts) u.2 (λ j k d lt within.
      let a = x.tells.each j (get_or u.0.told j d) (got u.0.told j d (omega arith)) in
      let b = x.tells.each k (get_or u.0.told k d) (got u.0.told k d within) in
      let first = a.group_is in
      let second = b.group_is in
      inr (a.session_is ∙ sym b.session_is, omega (arith, first, second, lt)))

  pub answers-order : AllPairs IsToldBefore e.answers.items
  answers-order =
      subst (λ (ts : List Told). AllPairs IsToldBefore ts) (sym run.ends.leaves.answers)
      (pairs-joined IsToldBefore (map (λ (u : Track P G). u.told) run.tracks) own-order
      (λ i j ts us t u lt at to c d.
      let own = own-answer i ts t at c in
      let other = own-answer j us u to d in
      inl (omega (arith, own, other, lt))))
