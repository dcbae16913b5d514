-- A draw on a queue whose mark allows it.
use Rattle.std.proofs.Common.{◌≡◌, ℕ, suc, ◌<◌, ◌≤◌, Bool, true, cond, List, [], ◌∷◌, Some, sym, ap, subst, ◌∙◌, arith}
use Rattle.std.proofs.lemmas.Bool.{eq-eqb}
use Rattle.mq_blocks.specs.Drive.{PortState, staged_end}
use Rattle.mq_drive.specs.Steps.{PortFault}
use Rattle.mq_drive.specs.declared.port.Port.{Ghosts}
use Rattle.mq_pages.specs.declared.page.PageCell.{PageCell}
use Rattle.mq_desk_laws.specs.Groups.{GroupView}
use Rattle.mq_desk_laws.specs.Rule.{May, touches}
use Rattle.mq_desk_laws.specs.Values.{Values}
use Rattle.mq_queue_side.specs.Commits.{NumberedCommit, commit_of_tx}
use Rattle.mq_queue_side.specs.declared.root.Root.{Root}
use Rattle.mq_queue_side.specs.declared.side.QueueSide.{QueueSide}
use Rattle.mq_turns.specs.Desk.{Covers, Follows, IsTurn, Sees, after_draw, refreshed, slot_of, turn_at}
use Rattle.mq_turns.specs.Lists.{Each, times}
use Rattle.mq_turns.specs.Marks.{mark_of}
use Rattle.mq_turns.specs.Meaning.{Meaning, drawn, newest}
use Rattle.mq_turns.specs.declared.rule.Known.{Known}
use Rattle.mq_turns.specs.declared.turn.Turn.TheVariants.{Side}
use Rattle.mq_turns.proofs.DeskSeen.{opening_seen}
use Rattle.mq_turns.proofs.DeskTurns.{times_refreshed}
use Rattle.mq_turns.proofs.DeskSlots.{turn_at_slot}
use Rattle.mq_journal.specs.Numbers
use Rattle.mq_journal.specs.Numbers.{Draws, HasNumbered, HoldsNumbered, HoldsSide, Marks, MayCome, MaySend, SameSession, Seat, Shared, Start}
use Rattle.mq_journal.proofs.NumbersMarking.{renewed_twice}

-- what was renewed under a slot is what it was renewed by
renewed_has : {A B C D : Type 0} (F : Known A B C D → Type 0) (touched : ℕ → Bool) (L : Known A B C D) (slot : ℕ) (l : List (ℕ × Known A B C D)) → touched slot ≡ true → F L → Each (λ h. h.0 ≡ slot → F h.1) (refreshed touched L l)
renewed_has F touched L slot [] mine has = tt
renewed_has F touched L slot (h ∷ hs) mine has = ((λ at. subst (λ b. F (cond b L h.1)) (sym (ap touched at ∙ mine)) has), renewed_has F touched L slot hs mine has)

module _ {P E : Type 0} {G : Ghosts P} (state : P → PortState) (faults : P → List PortFault) (group : GroupView E) (o : Start P E G) (q : ℕ) (s : QueueSide P E G) (e : E) (own : (group.tx e).queue ≡ q) where
  abbrev values : Values (QueueSide P E G) (Root P G) E
  values = Numbers.values state faults group

  abbrev μ : Meaning PageCell (QueueSide P E G) (Root P G) E
  μ = Numbers.machine state faults group

  module _ (old mid : Seat P E G) (marks : Marks state faults group o q s old mid) where
    -- as much is held as before
    pub held_still : (k : ℕ) → times k mid.held ≡ times k old.held
    held_still k = ap (times k) marks.held ∙ times_refreshed marks.about marks.by k old.held

    pub covers : MayCome state faults group o q e old → Covers μ e mid
    covers come = record {
      held = λ K sees t turn touched. let m = marks.knows K sees in let h = come.holds K m.sees t turn touched in let same = held_still (slot_of K.opening t) in omega arith;
      may = λ K sees few. come.may K (marks.knows K sees).sees few;
      mark = λ K sees. subst (λ z. mark_of z K.claims ≤ suc (newest K)) (sym own) (marks.knows K sees).mark;
    }

    pub follows : Follows μ e old → Follows μ e mid
    follows f = record {
      session = f.session ∙ sym marks.rest.session;
      drawn = subst (Each (λ d. μ.group d.1 < μ.group e)) (sym marks.drawn) f.drawn;
      read = subst (Each (λ r. μ.group r.0 < μ.group e)) (sym marks.rest.read) f.read;
    }

    module _ (new : Seat P E G) (K : Shared P E G) (opening : old.opening ≡ Some o) (turn : IsTurn o (Side q)) (holds : 0 < times (slot_of o (Side q)) old.held) (sees : Sees μ mid K) (drew : new ≡ after_draw μ e K mid) where
      abbrev touched : ℕ → Bool
      touched k = touches values group K.log e (turn_at K.opening k)

      mine : touched (slot_of o (Side q)) ≡ true
      mine =
          let start = opening_seen μ o K mid (marks.rest.opening ∙ opening) sees in
          ap (λ z. touches values group K.log e (turn_at z (slot_of o (Side q)))) start
          ∙ (ap (touches values group K.log e) (turn_at_slot o (Side q) turn) ∙ eq-eqb (group.tx e).queue q own)

      held_is : new.held ≡ refreshed touched (drawn e K) old.held
      held_is =
          ap (λ (z : Seat P E G). z.held) drew
          ∙ (ap (refreshed touched (drawn e K)) marks.held
          ∙ renewed_twice touched marks.about (drawn e K) marks.by old.held (λ k found. subst (λ j. touched j ≡ true) (sym (marks.alone k found)) mine))

      pub draws : (s' : QueueSide P E G) (n : NumberedCommit) → May values group e K → n.number ≡ suc (newest K) → n.commit ≡ commit_of_tx (group.tx e) → n.queue ≡ q → HasNumbered state faults group q (drawn e K) s' n → MaySend state faults group s' n → s'.pmr ≡ s.pmr → Draws state faults group o q e old new s' n
      draws s' n may number commit queue has sends pmr = record {
        known = K;
        sees = (marks.knows K sees).sees;
        may = may;
        number = number;
        seen = ap (λ (z : Seat P E G). z.seen) drew ∙ sym number;
        past = λ rest. (marks.knows K sees).past (subst (λ r. staged_end (state r.port) ≤ (state r.port).head) pmr rest);
        commit = commit;
        queue = queue;
        held = held_is;
        drawn = ap (λ (z : Seat P E G). z.drawn) drew ∙ (λ i. (sym number i, e) ∷ marks.drawn i);
        side = record {
          turn = turn;
          holds = subst (λ l. 0 < times (slot_of o (Side q)) l) (sym held_is) (let same = times_refreshed touched (drawn e K) (slot_of o (Side q)) old.held in omega arith);
          has = subst (Each (λ h. h.0 ≡ slot_of o (Side q) → HasNumbered state faults group q h.1 s' n)) (sym held_is) (renewed_has (λ M. HasNumbered state faults group q M s' n) touched (drawn e K) (slot_of o (Side q)) old.held mine has);
        };
        sends = sends;
        rest = record {
          parts = ap (λ (z : Seat P E G). z.parts) drew ∙ marks.rest.parts;
          opening = ap (λ (z : Seat P E G). z.opening) drew ∙ marks.rest.opening;
          session = ap (λ (z : Seat P E G). z.session) drew ∙ marks.rest.session;
          read = ap (λ (z : Seat P E G). z.read) drew ∙ marks.rest.read;
          reading = subst (λ (z : Seat P E G). Numbers.ReadOn state faults group old.reading z.reading) (sym drew) marks.rest.reading;
        };
      }
