-- The helpers of a run at its end.
use Rattle.std.proofs.Common.{◌≡◌, ◌∙◌, ℕ, zero, suc, Bool, List, [], ◌∷◌, ◌++◌, map, refl, ap}
use Rattle.std.specs.Prelude.{Some, slice_get}
use Rattle.mq_blocks.specs.Drive.{PortState}
use Rattle.mq_blocks.specs.declared.geometry.Geometry.{Geometry}
use Rattle.mq_drive.specs.Steps.{PortFault}
use Rattle.mq_drive.specs.declared.port.Port.{Ghosts}
use Rattle.mq_drive.specs.declared.port.Ports.{Ports}
use Rattle.mq_calls.specs.declared.entry.FileEntry.{FileEntry}
use Rattle.mq_journal.specs.Numbers.{Seat}
use Rattle.mq_recover.specs.declared.standing.Standing.{Standing}
use Rattle.mq_script.specs.Scripts.{Script}
use Rattle.mq_turns.specs.Lists.{Each}
use Rattle.mq_run.specs.Runs.{HasRunScripts, Track}
use Rattle.mq_run.specs.declared.end.RunEnd.{RunEnd}
use Rattle.mq_run.proofs.ServedNotices.{keeps-served}

each-image : {A B : Type 0} (f : A → B) (Is : B → Type 0) (xs : List A) → ((i : ℕ) (x : A) → slice_get xs i ≡ Some x → Is (f x)) → Each Is (map f xs)
each-image f Is [] h = tt
each-image f Is (x ∷ xs) h = (h 0 x refl, each-image f Is xs (λ i y at. h (suc i) y at))

module _ {P : Type 0} (G : Ghosts P) (state : P → PortState) (faults : P → List PortFault) (g : Geometry) (ports : Ports P) (s : Standing) (scripts : List Script) (finish : Bool) (e : RunEnd P)
    (run : HasRunScripts G state faults g ports s scripts finish e) where
  abbrev helpers : List (Seat P FileEntry G)
  helpers = map (λ (t : Track P G). t.helper) run.tracks

  -- the chairs at the end: the first session's, those of the other sessions, and those of the helpers
  pub all-left : run.ends.left ≡ run.ends.finished.last ∷ run.ends.finished.others ++ helpers
  all-left = run.ends.left_are ∙ ap (λ vs. vs ++ helpers) run.ends.finished.after

  pub helper-drew : (i : ℕ) (t : Track P G) → slice_get run.tracks i ≡ Some t → t.helper.drawn ≡ []
  helper-drew i t at = (keeps-served state faults i _ _ t.helper (run.helped i t at)).drawn

  pub helpers-drew : Each (λ v. v.drawn ≡ []) helpers
  helpers-drew = each-image (λ (t : Track P G). t.helper) (λ v. v.drawn ≡ []) run.tracks helper-drew
