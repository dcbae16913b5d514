-- What lies on a desk while nobody holds anything are parts of one lawful state.
use Rattle.std.proofs.Common.{◌≡◌, ℕ, zero, suc, ◌+◌, ◌<◌, ◌≤◌, false, List, [], ◌∷◌, length, Some, refl, sym, ap, subst, ◌∙◌, arith}
use Rattle.std.specs.Prelude.{slice_get}
use lib.ListN.{length-map}
use Rattle.mq_ledger.proofs.Written.{form_sound}
use Rattle.mq_ledger.specs.History.{of_queue}
use Rattle.mq_ledger.specs.Sides.{SideOk}
use Rattle.mq_ledger.specs.State.{no_port}
use Rattle.mq_state_laws.specs.Parts.{AreMarks, AreParts, known, marks_from}
use Rattle.mq_state_laws.proofs.PartsMarks.{marks_at, marks_length}
use Rattle.mq_turns.specs.Marks.{is_claimed, mark_of}
use Rattle.mq_turns.specs.Meaning.{HasNumberAt}
use Rattle.mq_desk_laws.specs.Groups.{GroupView}
use Rattle.mq_desk_laws.specs.Rule.{DeskState, core_of, geometry_of, history_of}
use Rattle.mq_desk_laws.specs.Values.{Values}
use Rattle.mq_desk_laws.proofs.Opening.{at_map}
use Rattle.mq_desk_laws.proofs.RuleSettled.{entry_at}
use Rattle.mq_tie.specs.Ended.{HasEnded, parts}

pub there : {A : Type 0} (xs : List A) (i : ℕ) → i < length xs → (x : A) × (slice_get xs i ≡ Some x)
there [] i l = absurd (omega arith)
there (x ∷ xs) zero l = (x, refl)
there (x ∷ xs) (suc i) l = there xs i (omega arith)

module _ {Q R E : Type 0} (values : Values Q R E) (group : GroupView E) (K : DeskState values group) (sides : List Q) (root : R) (acknowledged : List ℕ) (end : HasEnded values group K sides root acknowledged) where
  -- what the parts know is what the journal knows on the desk
  same_known : known (parts values group K sides root acknowledged) ≡ core_of values group K
  same_known = refl

  pub ended_parts : AreParts (parts values group K sides root acknowledged)
  ended_parts = record {
    form = form_sound;
    log = end.ok.log;
    many = length-map sides values.port ∙ end.many;
    sides = λ q own.
        let many = end.many in
        let w = there sides q (omega arith) in
        subst (λ p. SideOk (core_of values group K) q (of_queue q (history_of values group K)) p) (sym (at_map values.port sides q w.0 no_port w.1).0) (let is = end.sides q w.0 w.1 in is.port);
    root = end.root.port;
    acknowledged = end.acknowledged;
  }

  pub ended_marks : ((n : ℕ) (e : E) → HasNumberAt K.opening.base K.log n e → is_claimed (group.tx e).queue n K.claims ≡ false → mark_of (group.tx e).queue K.claims ≤ n) → AreMarks (parts values group K sides root acknowledged) (marks_from (λ q. mark_of q K.claims) 0 (geometry_of values group K).queues)
  ended_marks undone = record {
    many = marks_length (λ q. mark_of q K.claims) 0 (geometry_of values group K).queues;
    above = λ t ts at d.
        let found = entry_at values group K.opening.base K.log t ts at in
        let own = (let each = (end.ok.log.each t ts at).0 in each.queue) in
        let low : mark_of t.queue K.claims ≤ t.number = subst (λ q. mark_of q K.claims ≤ t.number) found.2 (undone t.number found.0 found.1 (subst (λ q. is_claimed q t.number K.claims ≡ false) (sym found.2) d)) in
        let same : 0 + t.queue ≡ t.queue = omega arith in
        let is = marks_at (λ q. mark_of q K.claims) 0 (geometry_of values group K).queues t.queue own ∙ ap (λ q. mark_of q K.claims) same in
        rw is low;
  }
