use Rattle.std.proofs.Common.{ap, ◌∙◌, sym, Some}
use Rattle.std.specs.Option.{ok_or}
use Rattle.mq_script.specs.declared.refusal.ScriptCause.TheVariants.{Data as not_data}
use Rattle.mq_script.proofs.WordsData.{open_text, twice_text, whole_text}
use Rattle.mq_script.proofs.data.read_quoted.Goals as goal

pub returns-in_default : goal.returns-in_default
returns-in_default c = ap (λ r. ok_or r not_data) (open_text c.args.text.now c.as_slice.result.now c.as_slice.ensures c.in_default.ensures.cases)

pub returns-then-contains : goal.returns-then-contains
returns-then-contains c =
    ap (λ r. ok_or r not_data)
    (twice_text c.args.text.now c.as_slice.result.now c.in-Some.front c.as_slice.ensures c.in-Some.ensures.cases (sym c.contains.ensures.value ∙ c.if-contains.true))

pub returns : goal.returns
returns c =
    ap (λ r. ok_or r not_data)
    (whole_text c.args.text.now c.as_slice.result.now c.in-Some.front c.as_slice.ensures c.in-Some.ensures.cases (sym c.contains.ensures.value ∙ c.if-contains.false)
    ∙ ap Some (sym c.in_ok-from_slice.ensures.items))
