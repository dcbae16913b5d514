-- The pages that a session holds are those of the map at the newest number, and a group that is done on them is
-- done there.
use Rattle.std.proofs.Common.{◌≡◌, ℕ, List, sym, ap, subst, ◌∙◌}
use Rattle.std.specs.Prelude.{Some}
use Rattle.mq_blocks.specs.Drive.{PortState}
use Rattle.mq_blocks.specs.declared.geometry.Geometry.{Geometry}
use Rattle.mq_desk_laws.specs.Groups.{GroupView}
use Rattle.mq_desk_laws.specs.Rule.{DeskState, geometry_of, map_now, shape_of}
use Rattle.mq_desk_laws.specs.Values.{Values}
use Rattle.mq_desk_laws.proofs.Meaning.{laws}
use Rattle.mq_desk_laws.proofs.RuleStaying.{good_now}
use Rattle.mq_drive.specs.Steps.{PortFault}
use Rattle.mq_drive.specs.declared.port.Port.{Ghosts}
use Rattle.mq_journal.specs.Machine.{journal}
use Rattle.mq_journal.specs.Values.{side_values}
use Rattle.mq_pages.specs.Held.{Cells}
use Rattle.mq_pages.specs.declared.page.PageCell.{PageCell}
use Rattle.mq_queue_side.specs.declared.root.Root.{Root}
use Rattle.mq_queue_side.specs.declared.side.QueueSide.{QueueSide}
use Rattle.mq_turns.specs.Desk.{Sees}
use Rattle.mq_turns.specs.Meaning.{Meaning}
use Rattle.mq_turns.specs.declared.rule.ChairView.{ChairView}
use Rattle.mq_turns.specs.declared.rule.Opening.{Opening}
use Rattle.mq_turns.proofs.DeskSeen.{opening_seen}
use Rattle.mq_sessions.specs.Executors.{AgreesWith, CallView, DoneGroupsAreOnMaps, IsDoneNow, IsPossible}
use Rattle.mq_sessions.specs.Pages.{HoldsPages, IsSeen}
use Rattle.mq_sessions.proofs.PagesHolding.{cells-now}
use Rattle.mq_sessions.proofs.PagesOfMap.{map-of-cells}

module _ {P E : Type 0} {G : Ghosts P} (state : P → PortState) (faults : P → List PortFault) (group : GroupView E) where
  abbrev V : Values (QueueSide P E G) (Root P G) E
  V = side_values state faults

  abbrev μ : Meaning PageCell (QueueSide P E G) (Root P G) E
  μ = journal state faults group

  module _ (g : Geometry) (o : Opening PageCell (QueueSide P E G) (Root P G)) (cells : Cells) (v : ChairView PageCell (QueueSide P E G) (Root P G) E) (opening : v.opening ≡ Some o) (shape : shape_of V group o ≡ g) (held : HoldsPages μ o cells v) where
    pub shape-is : (K : DeskState V group) → Sees μ v K → geometry_of V group K ≡ g
    shape-is K s = ap (shape_of V group) (opening_seen μ o K v opening s) ∙ shape

    pub agrees-now : (K : DeskState V group) → Sees μ v K → AgreesWith cells (map_now V group K)
    agrees-now K s = map-of-cells V group cells K (λ b c e. cells-now μ (laws V group) o cells v K b c opening held s e)

    pub good-now : (K : DeskState V group) → Sees μ v K → group.good g (map_now V group K)
    good-now K s = subst (λ (x : Geometry). group.good x (map_now V group K)) (shape-is K s) (good_now V group K s.ok)

    pub possible-now : IsSeen μ v → IsPossible group.good g cells
    possible-now seen = (map_now V group seen.0, good-now seen.0 seen.1, agrees-now seen.0 seen.1)

    module _ {Req Rep D : Type 0} (calls : CallView E Req Rep D) (law : DoneGroupsAreOnMaps calls group.good) (q : ℕ) (requests : List Req) (done : D) (on : calls.on_cells g q cells requests done) where
      pub done-now : IsSeen μ v → IsDoneNow V group calls q requests cells v done
      done-now seen = record {
        known = (law g q cells (map_now V group seen.0) requests done (good-now seen.0 seen.1) (agrees-now seen.0 seen.1) on).0;
        does = λ K s. subst (λ (x : Geometry). calls.on_map x q (map_now V group K) requests done) (sym (shape-is K s)) (law g q cells (map_now V group K) requests done (good-now K s) (agrees-now K s) on).1;
      }
