-- What a session knows of a side on which it has drawn a number.
use Rattle.std.proofs.Common.{◌≡◌, ℕ, ◌<◌, List, [], ◌∷◌, Some, subst, arith}
use mathlib.Core.Logic.{dite}
use native.Mathlib.Decide.{ℕ_discrete}
use Rattle.mq_blocks.specs.Drive.{PortState}
use Rattle.mq_drive.specs.Steps.{PortFault}
use Rattle.mq_drive.specs.declared.port.Port.{Ghosts}
use Rattle.mq_pages.specs.declared.page.PageCell.{PageCell}
use Rattle.mq_desk_laws.specs.Groups.{GroupView}
use Rattle.mq_desk_laws.specs.Rule.{IsOk}
use Rattle.mq_desk_laws.proofs.RuleStaying.{side_along}
use Rattle.mq_queue_side.specs.Commits.{NumberedCommit}
use Rattle.mq_queue_side.specs.declared.root.Root.{Root}
use Rattle.mq_queue_side.specs.declared.side.QueueSide.{QueueSide}
use Rattle.mq_turns.specs.Desk.{Sees, Stay, slot_of, turn_at}
use Rattle.mq_turns.specs.Lists.{Each, times}
use Rattle.mq_turns.specs.Meaning.{Meaning}
use Rattle.mq_turns.specs.declared.rule.Known.{Known}
use Rattle.mq_turns.specs.declared.turn.Turn.TheVariants.{Side}
use Rattle.mq_turns.proofs.Lists.{miss}
use Rattle.mq_turns.proofs.DeskSeen.{held_seen, turn_seen}
use Rattle.mq_journal.specs.Numbers
use Rattle.mq_journal.specs.Numbers.{HasNumbered, HoldsNumbered, Seat, Shared, Start}

-- what is held is known of by something
pub held_some : {A B C D : Type 0} (F : Known A B C D → Type 0) (k : ℕ) (l : List (ℕ × Known A B C D)) → 0 < times k l → Each (λ h. h.0 ≡ k → F h.1) l → (K : Known A B C D) × F K
held_some F k [] lt all = absurd (omega arith)
held_some F k (h ∷ hs) lt all = dite (ℕ_discrete h.0 k)
    (λ e. (h.1, all.0 e))
    (λ ne. let z = miss h.0 k ne in held_some F k hs (omega arith) all.1)

module _ {P E : Type 0} {G : Ghosts P} (state : P → PortState) (faults : P → List PortFault) (group : GroupView E) where
  abbrev μ : Meaning PageCell (QueueSide P E G) (Root P G) E
  μ = Numbers.machine state faults group

  -- what is known is what it is, whatever a side says
  still_ok : (n : NumberedCommit) (K : Shared P E G) → μ.ok K → IsOk (Numbers.drawn_values state faults group n) group K
  still_ok n K ok = record { log = ok.log; claims = ok.claims; base = ok.base; legal = ok.legal; ports = ok.ports }

  pub numbered_known : (o : Start P E G) (q : ℕ) (s : QueueSide P E G) (n : NumberedCommit) (v : Seat P E G) → v.opening ≡ Some o → HoldsNumbered state faults group o q s n v → (K : Shared P E G) → Sees μ v K → HasNumbered state faults group q K s n
  numbered_known o q s n v opening h K sees =
      held_seen μ (slot_of o (Side q)) (λ N. HasNumbered state faults group q N s n) (HasNumbered state faults group q K s n) v.held (λ j N. μ.ok N × Stay μ (turn_at K.opening j) N K) h.holds h.has sees.held
      (λ N a b. side_along (Numbers.drawn_values state faults group n) group q N K s (subst (λ t. Stay μ t N K) (turn_seen μ o K v (Side q) opening sees h.turn) a.1) (still_ok n N a.0) (still_ok n K sees.ok) b)
