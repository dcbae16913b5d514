use Rattle.std.proofs.Common.{ℕ, List, [], ◌∷◌, ◌++◌, Bor, get_or, map, ap, ◌∙◌, sym}
use Rattle.std.specs.Option.{ok_or}
use Rattle.std.proofs.lemmas.List.{take_all}
use Rattle.mq_block_text.proofs.TextLines.{map_take_more}
use Rattle.mq_script.specs.declared.refusal.ScriptCause.TheVariants.{Path as not_a_path}
use Rattle.mq_block_text.proofs.TextWhole.{some_byte}
use Rattle.mq_script.proofs.WordsPaths.{after_some, path_some}
use Rattle.mq_script.proofs.path.read_path.Goals as goal

pub loop-part-init : goal.loop-part-init
loop-part-init c = c.new-names.ensures.items

pub loop-part-preserved : goal.loop-part-preserved
loop-part-preserved c =
    let d : Bor (List ℕ) = record { ref_ptr = (0, 0); now = [] } in
    let parts = c.deref-part-items.result.now in
    c.in_ok-push.ensures.items ∙ ap (λ v. c.loop-part.names.items ++ v ∷ []) c.in_ok-from_slice.ensures.items
    ∙ ap (λ t. t ++ (get_or parts c.loop-part.part-index d).now ∷ []) c.loop-part.invariant
    ∙ sym (map_take_more (λ x. x.now) parts c.loop-part.part-index d c.loop-part-test.true)

pub returns : goal.returns
returns c =
    let parts = c.deref-part-items.result.now in
    ap (λ r. ok_or r not_a_path)
    (path_some c.args.text.now c.in-Some.rest.now c.loop-part.names.items
    (after_some (47 ∷ []) c.args.text.now c.as_slice.result.now c.in-Some.rest.now c.as_slice.ensures c.in-Some.ensures.cases.0 c.in-Some.ensures.cases.1)
    (some_byte c.in-Some.rest.now c.is_empty.result c.is_empty.ensures c.if-is_empty.false)
    (c.loop-part.invariant ∙ ap (map (λ x. x.now)) (take_all c.loop-part.part-index parts c.loop-part-test.false ∙ c.deref-part-items.ensures.value) ∙ c.in_ok-parts.ensures))
