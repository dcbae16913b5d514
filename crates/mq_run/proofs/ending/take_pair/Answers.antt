use Rattle.std.proofs.Common.{◌∙◌, ◌∷◌, ◌++◌, [], ap, map}
use Rattle.std.proofs.lemmas.List.{map_push}
use Rattle.mq_run.proofs.ending.take_pair.Goals as goal

pub returns-clause-served : goal.returns-clause-served
returns-clause-served g c =
    let old = c.args.played.now.records.served.items in
    ap (map (λ v. v.items)) c.in_ok-push-5.ensures.items ∙ map_push (λ v. v.items) old c.close-numbers.result
    ∙ ap (λ ns. map (λ v. v.items) old ++ ns ∷ []) c.close-numbers.ensures.numbers
