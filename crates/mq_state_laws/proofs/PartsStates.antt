-- The parts of a state that has the facts.
use Rattle.std.proofs.Common.{◌≡◌, ℕ, ◌≤◌, ◌||◌, true, refl, arith, eqb}
use Rattle.std.proofs.lemmas.Bool.{eq-eqb, or_left, or_right}
use Rattle.mq_ledger.specs.Items.{Entries}
use Rattle.mq_ledger.specs.State.{State, Facts}
use Rattle.mq_desk_laws.proofs.BasesOpenings.{base_due}
use Rattle.mq_state_laws.specs.Parts.{AreParts, AreMarks, parts_of}

-- each state that has the facts is of such parts
pub parts_from : (e : Entries) (s : State) → Facts e s → AreParts (parts_of e s)
parts_from e s f =
    let low : s.base ≤ s.root.base = f.log.word_low in
    let up : s.root.base ≤ s.root.stored_base = f.root.bases.1 in
    let flushed : (x : ℕ) → (eqb s.root.base s.root.base || eqb s.root.base s.root.stored_base) ≡ true = λ x. or_left _ _ (eq-eqb s.root.base s.root.base refl) in
    let stored : (x : ℕ) → (eqb s.root.stored_base s.root.base || eqb s.root.stored_base s.root.stored_base) ≡ true = λ x. or_right _ _ (eq-eqb s.root.stored_base s.root.stored_base refl) in
    record {
      form = f.form;
      log = f.log;
      many = f.ports;
      sides = f.sides;
      root = record {
        port = f.root;
        flushed = base_due _ s.root.base f.log low (f.log.due 0 s.root.base (flushed 0)) flushed;
        stored = base_due _ s.root.stored_base f.log (omega arith) (f.log.due 0 s.root.stored_base (stored 0)) stored;
      };
      acknowledged = f.acknowledged;
    }

-- and its marks are theirs
pub marks_from_facts : (e : Entries) (s : State) → Facts e s → AreMarks (parts_of e s) s.marks
marks_from_facts e s f = record { many = f.marked; above = f.marks }
