-- What holds of a desk over the ports of a journal, once nobody holds anything, in one statement each.
use Rattle.std.specs.Prelude.{◌≤◌, ◌≡◌, ℕ, false, List}
use Rattle.mq_state_laws.specs.Parts.{AreMarks, AreParts, marks_from}
use Rattle.mq_turns.specs.Marks.{is_claimed, mark_of}
use Rattle.mq_turns.specs.Meaning.{HasNumberAt}
use Rattle.mq_desk_laws.specs.Groups.{GroupView}
use Rattle.mq_desk_laws.specs.Rule.{DeskState, geometry_of}
use Rattle.mq_desk_laws.specs.Values.{Values}
use Rattle.mq_tie.specs.Ended.{HasEnded, parts}

module _ {Q R E : Type 0} (values : Values Q R E) (group : GroupView E) where
  abbrev pub DesksEndAsParts : Type 0
  DesksEndAsParts =
      (K : DeskState values group) (sides : List Q) (root : R) (acknowledged : List ℕ)
      → HasEnded values group K sides root acknowledged
      → AreParts (parts values group K sides root acknowledged)

  -- The words of the marks, where each number that isn't known done is at or above its queue's.
  abbrev pub WordsAreMarks : Type 0
  WordsAreMarks =
      (K : DeskState values group) (sides : List Q) (root : R) (acknowledged : List ℕ)
      → HasEnded values group K sides root acknowledged
      → ((n : ℕ) (e : E)
      → HasNumberAt K.opening.base K.log n e
      → is_claimed (group.tx e).queue n K.claims ≡ false
      → mark_of (group.tx e).queue K.claims ≤ n)
      → AreMarks (parts values group K sides root acknowledged)
      (marks_from (λ q. mark_of q K.claims) 0 (geometry_of values group K).queues)
