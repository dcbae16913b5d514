-- What a session knows of a side that it holds, from step to step.
use Rattle.std.proofs.Common.{◌≡◌, ◌≢◌, ℕ, ◌<◌, List, [], ◌∷◌, refl, sym, ap, subst, ◌∙◌, arith}
use Rattle.mq_blocks.specs.Drive.{PortState}
use Rattle.mq_drive.specs.Steps.{PortFault}
use Rattle.mq_drive.specs.declared.port.Port.{Ghosts}
use Rattle.mq_ledger.specs.Sides.{SideOk}
use Rattle.mq_desk_laws.specs.Faults.{AreCharged}
use Rattle.mq_desk_laws.specs.Groups.{GroupView}
use Rattle.mq_desk_laws.specs.Rule
use Rattle.mq_desk_laws.specs.Rule.{IsSide}
use Rattle.mq_desk_laws.specs.Values.{Values}
use Rattle.mq_queue_side.specs.Commits.{NumberedCommit}
use Rattle.mq_queue_side.specs.Side.{SideState, side_state}
use Rattle.mq_queue_side.specs.Stored.{AreStored}
use Rattle.mq_queue_side.specs.declared.root.Root.{Root}
use Rattle.mq_queue_side.specs.declared.side.QueueSide.{QueueSide}
use Rattle.mq_turns.specs.Desk.{slot_of}
use Rattle.mq_turns.specs.Lists.{Each, times}
use Rattle.mq_turns.specs.declared.turn.Turn.TheVariants.{Side}
use Rattle.mq_turns.proofs.Lists.{each_map, each_without, times_without_other}
use Rattle.mq_journal.specs.Laws.{HaveSameParts, NumberedSidesStay, PreparedSidesStay, SendsOutliveRest, SidesStayAtGiveBack, SidesStayAtReads, SidesStayAtTake, without_each}
use Rattle.mq_journal.specs.Numbers
use Rattle.mq_journal.specs.Numbers.{HasNumbered, HoldsNumbered, Seat, Shared, Start}
use Rattle.mq_journal.specs.Values.{IsRecord, IsRungUnlessKept, ShowsAll, entries_in}

-- ---- slots that are given back

module _ {A : Type 0} where
  pub times_without_each : (ks : List ℕ) (k : ℕ) (l : List (ℕ × A)) → Each (λ j. j ≢ k) ks → times k (without_each ks l) ≡ times k l
  times_without_each [] k l apart = refl
  times_without_each (j ∷ js) k l apart = times_without_other j k (without_each js l) (λ e. apart.0 (sym e)) ∙ times_without_each js k l apart.1

  pub each_without_each : (F : ℕ × A → Type 0) (ks : List ℕ) (l : List (ℕ × A)) → Each F l → Each F (without_each ks l)
  each_without_each F [] l all = all
  each_without_each F (k ∷ ks) l all = each_without F k (without_each ks l) (each_without_each F ks l all)

-- ---- sides

module _ {P E : Type 0} {G : Ghosts P} (state : P → PortState) (faults : P → List PortFault) (group : GroupView E) where
  abbrev values : Values (QueueSide P E G) (Root P G) E
  values = Numbers.values state faults group

  pub stays_at_take : (s : QueueSide P E G) → SidesStayAtTake state faults group s
  stays_at_take s o q k K v other h = record { turn = h.turn; holds = let a = h.holds in omega arith; is = ((λ same. absurd (other same)), h.is) }

  pub stays_at_give_back : (s : QueueSide P E G) → SidesStayAtGiveBack state faults group s
  stays_at_give_back s o q k v other h = record {
    turn = h.turn;
    holds = let a = h.holds in let b = times_without_other k (slot_of o (Side q)) v.held (λ e. other (sym e)) in omega arith;
    is = each_without _ k v.held h.is;
  }

  pub numbered_stays : (s : QueueSide P E G) → NumberedSidesStay state faults group s
  numbered_stays s o q k n v other h = record {
    turn = h.turn;
    holds = let a = h.holds in let b = times_without_other k (slot_of o (Side q)) v.held (λ e. other (sym e)) in omega arith;
    has = each_without _ k v.held h.has;
  }

  pub numbered_stays_all : (o : Start P E G) (q : ℕ) (s : QueueSide P E G) (n : NumberedCommit) (ks : List ℕ) (v w : Seat P E G) → Each (λ k. k ≢ slot_of o (Side q)) ks → w.held ≡ without_each ks v.held → HoldsNumbered state faults group o q s n v → HoldsNumbered state faults group o q s n w
  numbered_stays_all o q s n ks v w others left h = record {
    turn = h.turn;
    holds = let a = h.holds in let b = times_without_each ks (slot_of o (Side q)) v.held others in subst (λ l. 0 < times (slot_of o (Side q)) l) (sym left) (omega arith);
    has = subst (Each (λ (x : ℕ × Shared P E G). x.0 ≡ slot_of o (Side q) → HasNumbered state faults group q x.1 s n)) (sym left) (each_without_each _ ks v.held h.has);
  }

  pub sends_outlive_rest : (s : QueueSide P E G) → SendsOutliveRest state faults group s
  sends_outlive_rest s o q e n ks old new w draws others left = numbered_stays_all o q s n ks new w others left draws.side

  pub stays_at_reads : (s : QueueSide P E G) → SidesStayAtReads state faults group s
  stays_at_reads s o q v w same h = record {
    turn = h.turn;
    holds = subst (λ l. 0 < times (slot_of o (Side q)) l) (sym same) h.holds;
    is = subst (λ l. Each (λ (x : ℕ × Shared P E G). x.0 ≡ slot_of o (Side q) → IsSide values group q x.1 s) l) (sym same) h.is;
  }

  -- what a side is depends on its parts alone
  side_same : (q : ℕ) (K : Shared P E G) (s u : QueueSide P E G) → HaveSameParts s u → IsSide values group q K s → IsSide values group q K u
  side_same q K s u same is =
      let part = Rule.part_of values group q K in
      let state_is : side_state state faults s ≡ side_state state faults u = λ i. record {
        geometry = (sym same.pmr i).geometry;
        queue = (sym same.pmr i).queue;
        port = state (sym same.pmr i).port;
        faults = faults (sym same.pmr i).port;
        passed = (sym same.pmr i).done;
        rung = (sym same.pmr i).rung.items;
        done = sym same.done i;
        kept = sym same.kept i;
      } in
      record {
        port = subst (λ (z : SideState). SideOk (Rule.core_of values group K) q (Rule.own_of values group q K) z.port) state_is is.port;
        stored = ap entries_in same.stored ∙ is.stored;
        says = record {
          is = subst (IsRecord part) state_is is.says.is;
          whole = subst (λ (z : SideState). IsRungUnlessKept part z) state_is is.says.whole;
          stored = subst (AreStored part.txs) (sym same.stored) is.says.stored;
          shows = subst (λ (z : SideState). ShowsAll part.start part.txs z part.reports) state_is is.says.shows;
        };
        charged = subst (λ (z : SideState). AreCharged (Rule.geometry_of values group K) (Side q) K.charges (Rule.faults_of values group K.opening q) z.faults) state_is is.charged;
      }

  pub prepared_stays : (s : QueueSide P E G) → PreparedSidesStay state faults group s
  prepared_stays s o q u v same h = record {
    turn = h.turn;
    holds = h.holds;
    is = each_map _ _ (λ x is mine. side_same q x.1 s u same (is mine)) v.held h.is;
  }
