use Rattle.std.proofs.Common.{◌≡◌, ◌++◌, ℕ, Some, All, List, length, subst, sym, ◌∙◌}
use Rattle.std.specs.Bool.{IsTrue}
use Rattle.std.proofs.lemmas.Bool.{false≢true}
use Rattle.mq_blocks.specs.Descriptor.{AreApart}
use Rattle.mq_blocks.specs.Geometry.{homes_of, zone_of}
use Rattle.mq_blocks.specs.Machine.{Writes}
use Rattle.mq_ledger.specs.Form.{IsAscending}
use Rattle.mq_ledger.specs.History.{blocks_of}
use Rattle.mq_ledger.specs.Records.{Every}
use Rattle.mq_ledger.proofs.RecordsLists.{rising-ascending, all-left, all-right}
use Rattle.mq_ledger.proofs.form.fits_together.Goals as goal
use Rattle.mq_ledger.proofs.form.fits_together.Goals.{then-are_whole, else-are_whole, then-are_whole-2, else-are_whole-2, then-are_apart, else-are_apart, then-are_kept, else-are_kept}

pub are_apart-requires : goal.are_apart-requires
are_apart-requires c = let P : Writes → Type 0 = λ ws. IsAscending (blocks_of ws) in subst P (sym c.as_slice-direct.ensures) (rising-ascending 0 (homes_of c.args.geometry) (blocks_of c.args.tx.now.direct) c.requires.direct)

pub are_kept-requires-clause-logged : goal.are_kept-requires-clause-logged
are_kept-requires-clause-logged c = rising-ascending 0 (homes_of c.args.geometry) (blocks_of c.args.tx.now.logged) c.requires.logged

pub are_kept-requires-clause-direct : goal.are_kept-requires-clause-direct
are_kept-requires-clause-direct c = rising-ascending 0 (homes_of c.args.geometry) (blocks_of c.args.tx.now.direct) c.requires.direct

pub are_written-requires : goal.are_written-requires
are_written-requires c = let P : Writes → Type 0 = λ ws. IsAscending (blocks_of ws) in subst P (sym c.as_slice-direct.ensures) (rising-ascending 0 (homes_of c.args.geometry) (blocks_of c.args.tx.now.direct) c.requires.direct)

-- each test before the last holds of what fits together
pub returns-else-are_zoned : goal.returns-else-are_zoned
returns-else-are_zoned c =
    let t = c.args.tx.now in
    let P : ℕ × List ℕ → Type 0 = λ w. length w.1 ≡ 4096 in
    let Whole : Writes → Type 0 = λ ws. All P ws in
    let Apart : Writes → Writes → Type 0 = λ ws vs. AreApart (blocks_of ws) (blocks_of vs) in
    let Kept : List ℕ → Type 0 = λ xs. AreApart xs (blocks_of (t.logged ++ t.direct)) in
    let Zoned : Writes → Type 0 = λ ws. Every (λ x. zone_of c.args.geometry x ≡ Some t.queue) (blocks_of ws) in (
      λ v. absurd (false≢true (sym c.if-are_zoned.false ∙ v)),
      λ f.
          let first : IsTrue c.if-are_whole.value = elim c.if-are_whole.branch [
            | then-are_whole w ↦ w.value-is ∙ w.are_whole-then-are_whole.ensures.1 (subst Whole (sym c.as_slice-direct.ensures) (all-right P t.logged t.direct f.whole))
            | else-are_whole w ↦ w.value-is ∙ c.are_whole.ensures.1 (subst Whole (sym c.as_slice-logged.ensures) (all-left P t.logged t.direct f.whole))
          ] in
          let second : IsTrue c.if-are_whole-2.value = elim c.if-are_whole-2.branch [
            | then-are_whole-2 w ↦ w.value-is ∙ w.are_apart.ensures.1 (subst (λ ws. Apart ws c.as_slice-direct.result.now) (sym c.as_slice-logged.ensures) (subst (Apart t.logged) (sym c.as_slice-direct.ensures) f.apart))
            | else-are_whole-2 w ↦ w.value-is ∙ first
          ] in
          let third : IsTrue c.if-are_apart.value = elim c.if-are_apart.branch [
            | then-are_apart w ↦ w.value-is ∙ w.are_kept.ensures.1 (subst Kept (sym c.as_slice-freed.ensures) f.kept)
            | else-are_apart w ↦ w.value-is ∙ second
          ] in
          elim c.if-are_kept.branch [
            | then-are_kept w ↦ w.value-is ∙ w.are_zoned.ensures.1 (subst Zoned (sym c.as_slice-direct.ensures) f.zoned)
            | else-are_kept w ↦ w.value-is ∙ third
          ],
    )
