use Rattle.std.proofs.Common.{◌≡◌, ◌≤◌, ◌+◌, List, ℕ, length, sym, ap, subst, ◌∙◌}
use Rattle.std.specs.Bool.{IsTrue}
use Rattle.std.proofs.lemmas.Bool.{false≢true}
use Rattle.mq_blocks.specs.Geometry.{homes_of}
use Rattle.mq_blocks.specs.Journal.{number_limit}
use Rattle.mq_blocks.specs.Machine.{Writes}
use Rattle.mq_blocks.specs.declared.geometry.Geometry.{Geometry}
use Rattle.mq_ledger.specs.Form.{IsAscending}
use Rattle.mq_ledger.specs.History.{blocks_of}
use Rattle.mq_ledger.specs.KnownJournal.{IsTx}
use Rattle.mq_ledger.specs.Records.{Ledger, Every, IsTaken, IsOpen}
use Rattle.mq_ledger.proofs.RecordsDraws.{follow_draws, draw_follows}
use Rattle.mq_ledger.proofs.RecordsLists.{rising-ascending}
use Rattle.mq_ledger.proofs.records.Ledger.may_draw.Goals as goal
use Rattle.mq_ledger.proofs.records.Ledger.may_draw.Goals.{then-is_transaction, else-is_transaction, then-is_next, else-is_next}

pub are_open-requires-clause-revoked : goal.are_open-requires-clause-revoked
are_open-requires-clause-revoked c =
    let passed : IsTrue c.if-is_transaction.value = elim c.if-is_next.branch [
      | then-is_next w ↦ w.if-is_next.true
      | else-is_next w ↦ absurd (false≢true (sym w.if-is_next.false ∙ sym w.value-is ∙ c.if-are_taken.true))
    ] in
    let whole : IsTrue c.is_transaction.result = elim c.if-is_transaction.branch [
      | then-is_transaction v ↦ v.if-is_transaction.true
      | else-is_transaction v ↦ absurd (false≢true (sym v.if-is_transaction.false ∙ sym v.value-is ∙ passed))
    ] in
    let form = c.is_transaction.ensures.0 whole in
    subst IsAscending (sym c.as_slice-then-are_taken-2.ensures) (rising-ascending 0 (homes_of c.self.inside.geometry) c.args.tx.now.revoked form.revoked)

pub returns-then-are_taken : goal.returns-then-are_taken
returns-then-are_taken c k is =
    let s = c.args.self.now in
    let t = c.args.tx.now in
    let passed : IsTrue c.if-is_transaction.value = elim c.if-is_next.branch [
      | then-is_next w ↦ w.if-is_next.true
      | else-is_next w ↦ absurd (false≢true (sym w.if-is_next.false ∙ sym w.value-is ∙ c.if-are_taken.true))
    ] in
    let whole : IsTrue c.is_transaction.result = elim c.if-is_transaction.branch [
      | then-is_transaction v ↦ v.if-is_transaction.true
      | else-is_transaction v ↦ absurd (false≢true (sym v.if-is_transaction.false ∙ sym v.value-is ∙ passed))
    ] in
    let number : (t.number ≡ s.base + length s.history + 1) × (t.number ≤ number_limit) = elim c.if-is_transaction.branch [
      | then-is_transaction v ↦ v.is_next.ensures.0 (sym v.value-is ∙ passed)
      | else-is_transaction v ↦ absurd (false≢true (sym v.if-is_transaction.false ∙ sym v.value-is ∙ passed))
    ] in
    let freed : Every (IsTaken s) t.freed = elim c.if-is_next.branch [
      | then-is_next w ↦ subst (Every (IsTaken s)) w.as_slice.ensures (w.are_taken.ensures.0 (sym w.value-is ∙ c.if-are_taken.true))
      | else-is_next w ↦ absurd (false≢true (sym w.if-is_next.false ∙ sym w.value-is ∙ c.if-are_taken.true))
    ] in
    let G : Geometry → Type 0 = λ g. IsTx g t in
    let form = subst G (ap (λ (v : Ledger). v.geometry) c.self.view_is) (c.is_transaction.ensures.0 whole) in
    let D : Writes → Type 0 = λ ws. Every (IsOpen s c.args.word c.as_slice-then-are_taken-2.result.now) (blocks_of ws) in
    let R : List ℕ → Type 0 = λ xs. Every (IsOpen s c.args.word xs) (blocks_of t.direct) in (
      λ v. follow_draws s c.args.word k t is (record { form = form; number = number; freed = freed; direct = subst R c.as_slice-then-are_taken-2.ensures (subst D c.as_slice-then-are_taken.ensures (c.are_open.ensures.0 v)) }),
      λ may. c.are_open.ensures.1 (subst D (sym c.as_slice-then-are_taken.ensures) (subst R (sym c.as_slice-then-are_taken-2.ensures) (draw_follows s c.args.word k t is may).direct)),
    )
