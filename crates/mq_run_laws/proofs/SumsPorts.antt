-- The reports of a run are of its ports, and each port has gained a fault for each that charges one to it.
use Rattle.std.proofs.Common.{◌≡◌, ◌⊎◌, ◌∙◌, ℕ, ◌+◌, ◌-◌, ◌<◌, ◌≤◌, ◌^◌, ◌++◌, Bool, cond, List, [], ◌∷◌, length, map, inl, inr, refl, sym, ap, subst, arith, eq-eqb}
use Rattle.std.specs.Prelude.{◌&&◌, Option, Some, None, Result, Ok, Err, slice_get, slice_index_or}
use Rattle.std.specs.List.{All}
use Rattle.std.proofs.lemmas.List.{length-map}
use Rattle.mq_blocks.specs.Drive.{PortState}
use Rattle.mq_blocks.specs.Totals.{total}
use Rattle.mq_blocks.specs.declared.geometry.Geometry.{Geometry}
use Rattle.mq_journal.specs.declared.refusal.CheckpointRefusal.{CheckpointRefusal}
use Rattle.mq_desk_laws.proofs.Opening.{at_map}
use Rattle.mq_desk_laws.specs.Faults.{AreCharged, charged_to, of_kind}
use Rattle.mq_desk_laws.specs.Rule.{IsOfPort, IsPortTurn, IsSide, geometry_of}
use Rattle.mq_desk_laws.specs.Rule as rule
use Rattle.mq_desk_laws.specs.Values.{Values}
use Rattle.mq_drive.specs.Faults.{count_of}
use Rattle.mq_drive.specs.Steps.{PortFault}
use Rattle.mq_drive.specs.declared.port.Port.{Ghosts}
use Rattle.mq_drive.specs.declared.port.Ports.{Ports}
use Rattle.mq_calls.specs.Group.{file_group}
use Rattle.mq_calls.specs.declared.entry.FileEntry.{FileEntry}
use Rattle.mq_journal.specs.Numbers.{Seat, Shared, Start}
use Rattle.mq_journal.specs.Values.{side_values}
use Rattle.mq_queue_side.specs.declared.root.Root.{Root}
use Rattle.mq_queue_side.specs.declared.side.QueueSide.{QueueSide}
use Rattle.mq_recover.specs.Drives.{DriveFaults, faults_of, faults_on}
use Rattle.mq_recover.specs.declared.standing.Standing.{Standing}
use Rattle.mq_report.specs.declared.line.Told.{Told}
use Rattle.mq_run.specs.Ending.{Finishes, HasFinished}
use Rattle.mq_run.specs.Playing.{IsShort}
use Rattle.mq_run.specs.Runs.{HasRunScripts, Track}
use Rattle.mq_run.specs.declared.end.RunEnd.{RunEnd}
use Rattle.mq_run.proofs.RunsHelpers.{all-left}
use Rattle.mq_script.specs.Scripts.{Script}
use Rattle.mq_tie.proofs.EndedParts.{there as found}
use Rattle.mq_tie.proofs.Runs.{same-ports}
use Rattle.mq_tie.specs.Backed.{faults_at, opened_faults}
use Rattle.mq_tie.specs.Runs.{ports_of}
use Rattle.mq_turns.proofs.MarksReadings.{tally_append}
use Rattle.mq_turns.specs.Desk.{charged_of, fresh}
use Rattle.mq_turns.specs.Lists.{Each}
use Rattle.mq_turns.specs.Words.{same_turn}
use Rattle.mq_turns.specs.declared.rule.Charge.{Charge}
use Rattle.mq_turns.specs.declared.turn.Turn.{Turn}
use Rattle.mq_turns.specs.declared.turn.Turn.TheVariants as turn
use Rattle.mq_run_laws.specs.Sums.{AreChargedOnce, charged_answer, charged_end, charges_among, faults_among, one_if}
use Rattle.mq_run_laws.proofs.BackedBlames.{given, taken}
use Rattle.mq_run_laws.proofs.RunsWhole.{session-of, shape-is}
use Rattle.mq_run_laws.proofs.SumsLists.{each-or-one, total-append, total-each, total-joined, total-map, under, under-each, under-list, under-one, under-sum}
use Rattle.mq_run_laws.proofs.SumsPlayed.{charges_in, is_charge, played-counts, stop-counts}

-- ---- reports are of ports

module _ (g : Geometry) (f : PortFault → Bool) (sides : ℕ) where
  -- a report of a port is counted for it
  one-port : (t : Turn) (is : Bool) → IsPortTurn sides t → cond {A = ℕ} is 1 0 ≤ under sides (λ q. cond {A = ℕ} (same_turn (turn.Side q) t && is) 1 0) + cond {A = ℕ} (same_turn turn.Root t && is) 1 0
  one-port (turn.Page b) is of = absurd of
  one-port turn.Root is of = (let own : cond {A = ℕ} (same_turn turn.Root turn.Root && is) 1 0 ≡ cond {A = ℕ} is 1 0 = refl in omega arith)
  one-port (turn.Side q) is of =
      let own : cond {A = ℕ} (same_turn (turn.Side q) (turn.Side q) && is) 1 0 ≡ cond {A = ℕ} is 1 0 = ap (λ (b : Bool). cond {A = ℕ} (b && is) 1 0) (eq-eqb q q refl) in
      let one : cond {A = ℕ} (same_turn (turn.Side q) (turn.Side q) && is) 1 0 ≤ under sides (λ k. cond {A = ℕ} (same_turn (turn.Side k) (turn.Side q) && is) 1 0) = under-one sides (λ k. cond {A = ℕ} (same_turn (turn.Side k) (turn.Side q) && is) 1 0) q of in
      omega arith

  -- so all of them are
  pub of-ports : (cs : List Charge) → Each (IsOfPort sides) cs → charges_in g f cs ≤ under sides (λ q. charged_to g (turn.Side q) f cs) + charged_to g turn.Root f cs
  of-ports [] each = omega arith
  of-ports (c ∷ cs) each =
      let rest = of-ports cs each.1 in
      let one = one-port c.port (is_charge g f c) each.0.0 in
      let both : under sides (λ q. charged_to g (turn.Side q) f (c ∷ cs)) ≡ under sides (λ q. cond {A = ℕ} (same_turn (turn.Side q) c.port && is_charge g f c) 1 0) + under sides (λ q. charged_to g (turn.Side q) f cs) =
      under-sum sides (λ q. cond {A = ℕ} (same_turn (turn.Side q) c.port && is_charge g f c) 1 0) (λ q. charged_to g (turn.Side q) f cs) in
      let root : charged_to g turn.Root f (c ∷ cs) ≡ cond {A = ℕ} (same_turn turn.Root c.port && is_charge g f c) 1 0 + charged_to g turn.Root f cs = refl in
      let all : charges_in g f (c ∷ cs) ≡ cond {A = ℕ} (is_charge g f c) 1 0 + charges_in g f cs = refl in
      omega arith

module _ {P : Type 0} (G : Ghosts P) (state : P → PortState) (faults : P → List PortFault) (g : Geometry) (ports : Ports P) (s : Standing) (scripts : List Script) (finish : Bool) (e : RunEnd P)
    (run : HasRunScripts G state faults g ports s scripts finish e) (short : All (λ script. IsShort script.groups) scripts) (f : PortFault → Bool) where
  abbrev o : Start P FileEntry G
  o = run.opening

  abbrev K : Shared P FileEntry G
  K = run.ends.run.end.known

  abbrev values : Values (QueueSide P FileEntry G) (Root P G) FileEntry
  values = side_values state faults

  abbrev own : Geometry
  own = geometry_of values file_group K

  -- a test on the kinds of faults
  abbrev kind : PortFault → Bool
  kind = of_kind f

  abbrev count : Seat P FileEntry G → ℕ
  count v = charges_in g kind v.reading.charged

  -- ---- what the sessions have reported

  views-count : (vs : List (Seat P FileEntry G)) → charges_in g kind (charged_of vs) ≡ total count vs
  views-count [] = refl
  views-count (v ∷ vs) =
      let rest = views-count vs in
      let parts = tally_append (is_charge g kind) (charged_of vs) v.reading.charged in
      omega arith

  -- each answer of a session that charges a fault was reported
  track-counts : (i : ℕ) (t : Track P G) → slice_get run.tracks i ≡ Some t → charges_among g kind t.told ≤ count t.view
  track-counts i t at =
      let x = session-of G state faults g ports s scripts finish e run i t at in
      played-counts state faults g kind i x.script.groups (fresh o i) (length t.told) t.told t.reads _ _ t.view x.played.plays

  abbrev one_at_end : ℕ
  one_at_end = one_if kind (charged_end g e.finished)

  abbrev fin : HasFinished state faults finish e.finished (map (λ (t : Track P G). t.view) run.tracks) run.ends.sessions
  fin = run.ends.finished

  -- so was a refusal of the checkpoint at the end
  finish-counts : (answer : Option (Result ℕ CheckpointRefusal)) → Finishes state faults answer fin.others fin.first fin.last → one_if kind (charged_end g answer) + count fin.first ≤ count fin.last
  finish-counts None same = (let is = ap count same in omega arith)
  finish-counts (Some (Ok base)) (between, heard, raises) =
      let first : count between ≡ count fin.first = ap count heard.is in
      let last : count fin.last ≡ count between = ap (charges_in g kind) raises.charged in
      omega arith
  finish-counts (Some (Err why)) (between, heard, refused) =
      let first : count between ≡ count fin.first = ap count heard.is in
      let last = stop-counts state faults g kind why between fin.last refused in
      omega arith

  answers-count : charges_among g kind e.answers.items + one_at_end ≤ charges_in g kind K.charges
  answers-count =
      let told : charges_among g kind e.answers.items ≡ total (λ (t : Track P G). charges_among g kind t.told) run.tracks =
      ap (charges_among g kind) run.ends.leaves.answers ∙ total-joined (λ (t : Told). one_if kind (charged_answer g t.answer)) (λ (t : Track P G). t.told) run.tracks in
      let each = total-each (λ (t : Track P G). charges_among g kind t.told) (λ (t : Track P G). count t.view) run.tracks track-counts in
      let views : total count (map (λ (t : Track P G). t.view) run.tracks) ≡ total (λ (t : Track P G). count t.view) run.tracks = total-map count (λ (t : Track P G). t.view) run.tracks in
      let before : total count (map (λ (t : Track P G). t.view) run.tracks) ≡ count fin.first + total count fin.others = ap (total count) fin.before in
      let last = finish-counts e.finished fin.finishes in
      let helpers : List (Seat P FileEntry G) = map (λ (t : Track P G). t.helper) run.tracks in
      let left : total count run.ends.left ≡ count fin.last + total count (fin.others ++ helpers) = ap (total count) (all-left G state faults g ports s scripts finish e run) in
      let parts = total-append count fin.others helpers in
      let counted = views-count run.ends.left in
      let known : charges_in g kind (charged_of run.ends.left) ≡ charges_in g kind K.charges = run.ends.run.end.charges (is_charge g kind) in
      omega arith

  -- ---- what the ports have gained

  abbrev first : DriveFaults
  first = opened_faults G state faults file_group o

  abbrev last : DriveFaults
  last = faults_of faults (ports_of run.ends.end) run.ends.end.root.port

  abbrev sides : ℕ
  sides = length o.sides

  same-shape : own ≡ g
  same-shape = shape-is G state faults g ports s scripts finish e run

  -- it counts no more, or has gained a fault for each report of one
  abbrev Full : ℕ → Type 0
  Full q = 2 ^ 64 - 1 ≤ length (faults_at last q)

  abbrev Gains : ℕ → Type 0
  Gains q = count_of kind (faults_at first q) + charged_to g (turn.Side q) kind K.charges ≤ count_of kind (faults_at last q)

  by-charges : (t : Turn) (old new : List PortFault) → AreCharged own t K.charges old new → (2 ^ 64 - 1 ≤ length new) ⊎ (count_of kind old + charged_to g t kind K.charges ≤ count_of kind new)
  by-charges t old new (inl many) = inl many
  by-charges t old new (inr backed) = inr (subst (λ (z : Geometry). count_of kind old + charged_to z t kind K.charges ≤ count_of kind new) same-shape (backed.counts f))

  last-are : last.queues ≡ map (λ (w : QueueSide P FileEntry G). faults w.pmr.port) run.ends.run.sides
  last-are = ap (map faults) run.ends.run.ports ∙ sym (same-ports faults run.ends.run.sides)

  many : length run.ends.run.sides ≡ sides
  many = run.ends.run.end.all_sides

  at-side : (q : ℕ) → q < sides → Full q ⊎ Gains q
  at-side q low =
      let at = found run.ends.run.sides q (let all = many in omega arith) in
      let side : IsSide values file_group q K at.0 = run.ends.run.end.sides_stand q at.0 at.1 in
      let new : faults_at last q ≡ faults at.0.pmr.port = ap (λ fs. slice_index_or fs q []) last-are ∙ (at_map (λ (w : QueueSide P FileEntry G). faults w.pmr.port) run.ends.run.sides q at.0 [] at.1).0 in
      let old : rule.faults_of values file_group K.opening q ≡ faults_at first q = ap (λ (z : Start P FileEntry G). rule.faults_of values file_group z q) run.ends.run.end.opening in
      subst (λ (z : List PortFault × List PortFault). (2 ^ 64 - 1 ≤ length z.1) ⊎ (count_of kind z.0 + charged_to g (turn.Side q) kind K.charges ≤ count_of kind z.1)) (λ i. (old i, sym new i))
      (by-charges (turn.Side q) (rule.faults_of values file_group K.opening q) (faults at.0.pmr.port) side.charged)

  at-root : (2 ^ 64 - 1 ≤ length last.root) ⊎ (count_of kind first.root + charged_to g turn.Root kind K.charges ≤ count_of kind last.root)
  at-root =
      subst (λ (z : Start P FileEntry G). (2 ^ 64 - 1 ≤ length last.root) ⊎ (count_of kind (faults z.root.port) + charged_to g turn.Root kind K.charges ≤ count_of kind last.root)) run.ends.run.end.opening
      (by-charges turn.Root (faults K.opening.root.port) (faults run.ends.end.root.port) run.ends.run.end.root_stands.charged)

  -- ---- the sum

  all-gained : ((q : ℕ) → q < sides → Gains q) → count_of kind first.root + charged_to g turn.Root kind K.charges ≤ count_of kind last.root → charges_among g kind e.answers.items + one_at_end + faults_among kind first ≤ faults_among kind last
  all-gained each root =
      let answers = answers-count in
      let opening : sides ≡ length K.opening.sides = ap (λ (z : Start P FileEntry G). length z.sides) (sym run.ends.run.end.opening) in
      let reports = of-ports g kind sides K.charges (subst (λ (n : ℕ). Each (IsOfPort n) K.charges) (sym opening) run.ends.run.end.ok.ports) in
      let gained : under sides (λ q. count_of kind (faults_at first q) + charged_to g (turn.Side q) kind K.charges) ≤ under sides (λ q. count_of kind (faults_at last q)) = under-each sides (λ q. count_of kind (faults_at first q) + charged_to g (turn.Side q) kind K.charges) (λ q. count_of kind (faults_at last q)) each in
      let both : under sides (λ q. count_of kind (faults_at first q) + charged_to g (turn.Side q) kind K.charges) ≡ under sides (λ q. count_of kind (faults_at first q)) + under sides (λ q. charged_to g (turn.Side q) kind K.charges) =
      under-sum sides (λ q. count_of kind (faults_at first q)) (λ q. charged_to g (turn.Side q) kind K.charges) in
      let old_many : length first.queues ≡ sides = length-map o.sides (λ (w : QueueSide P FileEntry G). faults w.pmr.port) in
      let new_many : length last.queues ≡ sides = ap length last-are ∙ (length-map run.ends.run.sides (λ (w : QueueSide P FileEntry G). faults w.pmr.port) ∙ many) in
      let old : total (λ fs. count_of kind fs) first.queues ≡ under sides (λ q. count_of kind (faults_at first q)) = under-list (λ (fs : List PortFault). count_of kind fs) first.queues [] ∙ ap (λ (n : ℕ). under n (λ q. count_of kind (faults_at first q))) old_many in
      let new : total (λ fs. count_of kind fs) last.queues ≡ under sides (λ q. count_of kind (faults_at last q)) = under-list (λ (fs : List PortFault). count_of kind fs) last.queues [] ∙ ap (λ (n : ℕ). under n (λ q. count_of kind (faults_at last q))) new_many in
      omega arith

  counted-or-gained : AreChargedOnce g f e.answers.items e.finished first last
  counted-or-gained = elim (each-or-one sides Gains Full at-side) [
    | inl full ↦ (
        let new_many : length last.queues ≡ sides = ap length last-are ∙ (length-map run.ends.run.sides (λ (w : QueueSide P FileEntry G). faults w.pmr.port) ∙ many) in
        let low = full.1 in
        inl (inl (full.0, omega arith, full.2)))
    | inr each ↦ elim at-root [ inl full ↦ inl (inr full) | inr root ↦ inr (all-gained each root) ]
  ]

  pub charged-once : AreChargedOnce g f e.answers.items e.finished (faults_on faults ports) (faults_on faults e.ports)
  charged-once =
      subst (λ (z : DriveFaults × DriveFaults). AreChargedOnce g f e.answers.items e.finished z.0 z.1)
      (λ i. (taken G state faults g ports s scripts finish e run short i, given G state faults g ports s scripts finish e run short i)) counted-or-gained
