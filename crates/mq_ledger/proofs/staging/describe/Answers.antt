use Rattle.std.proofs.Common.{◌≡◌, ◌∙◌, ℕ, List, length, ap, arith}
use Rattle.std.proofs.lemmas.List.{length-map}
use Rattle.mq_ledger.specs.declared.tx.Tx.{Tx}
use Rattle.mq_ledger.proofs.ItemsStagings.{few_named}
use Rattle.mq_ledger.proofs.staging.describe.Goals as goal

-- the revoked blocks are no more than the direct ones
pub write_descriptor-requires : goal.write_descriptor-requires
write_descriptor-requires c =
    let few = few_named c.args.geometry c.args.tx.now c.requires.form in
    let logged : c.as_slice.result.now ≡ c.args.tx.now.logged = c.as_slice.ensures ∙ ap (λ (v : Tx). v.logged) c.tx.view_is in
    let revoked : c.as_slice-2.result.now ≡ c.args.tx.now.revoked = c.as_slice-2.ensures ∙ ap (λ (v : Tx). v.revoked) c.tx.view_is in
    let a : length c.in_ok-logged.logged.items ≡ length c.args.tx.now.logged = ap length c.in_ok-logged.ensures ∙ length-map c.as_slice.result.now (λ (w : ℕ × List ℕ). w.0) ∙ ap length logged in
    let b : length c.in_ok-from_slice.field-0.items ≡ length c.args.tx.now.revoked = ap length (c.in_ok-from_slice.ensures.items ∙ revoked) in
    omega arith
