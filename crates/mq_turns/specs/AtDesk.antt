-- A chair, and the desk that it stands at.
use Rattle.std.specs.Prelude.{◌≡◌, ℕ, Some}
use Rattle.mq_turns.specs.Desk.{opening_of}
use Rattle.mq_turns.specs.declared.rule.Opening.{Opening}
use Rattle.mq_turns.specs.declared.rule.ChairView.{ChairView}
use Rattle.mq_turns.specs.declared.machine.Machine.{Ghosts}
use Rattle.mq_turns.specs.declared.desk.Desk.{Desk}
use Rattle.mq_turns.specs.declared.desk.Chair.{Chair}

module _ {M P Q R E : Type 0} where
  abbrev pub view : {g : Ghosts M P Q R E} → Chair M P Q R E g → ChairView P Q R E
  view c = c.place.me.0

  -- the values that the desk was opened with
  abbrev pub start_of : Desk M P Q R E → Opening P Q R
  start_of d = opening_of d.table.shared.key

  abbrev pub chairs_of : Desk M P Q R E → ℕ
  chairs_of d = d.table.shared.key.chairs

  -- the chair is one of the desk's
  abbrev pub AtDesk : {g : Ghosts M P Q R E} → Desk M P Q R E → Chair M P Q R E g → Type 0
  AtDesk d c = (c.place.table_id ≡ d.table.shared.table_id) × ((view c).opening ≡ Some (start_of d))
