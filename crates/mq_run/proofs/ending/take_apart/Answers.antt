use Rattle.std.proofs.Common.{◌≡◌, ◌∙◌, ◌∷◌, ◌++◌, [], ap, append_assoc, map, sym}
use Rattle.std.proofs.lemmas.List.{map_push}
use Rattle.std.specs.List.{All}
use Rattle.std.specs.Vec.Iter.{into_iter_items}
use Rattle.mq_notices.specs.Ends.{announced, served_by_helper, served_by_session}
use Rattle.mq_notices.specs.Notices.{Merged}
use Rattle.mq_run.specs.Pairs.{AreDone}
use Rattle.mq_run.proofs.Parts.{all_next, all_pushed}
use Rattle.mq_run.proofs.ending.take_apart.Goals as goal

pub take_pair-requires : goal.take_pair-requires
take_pair-requires g c =
    let whole = c.loop-pair.invariant.all ∙ ap (λ ps. c.loop-pair.yielded ++ ps) c.in-Some.ensures.steps.0 in
    all_next (λ p. AreDone p.line p.session.announcing p.helper.listening) c.args.pairs.items c.loop-pair.yielded _ c.in-Some.pair whole c.requires

pub loop-pair-preserved : goal.loop-pair-preserved
loop-pair-preserved g c =
    let i = c.loop-pair.invariant in
    let done = c.loop-pair.yielded in
    let pair = c.in-Some.pair in
    let adds = c.in_ok-take_pair.ensures in
    record {
      all = i.all ∙ ap (λ ps. done ++ ps) c.in-Some.ensures.steps.0 ∙ sym (append_assoc done (pair ∷ []) (into_iter_items c.next.new.self));
      sessions = adds.sessions ∙ ap (λ ss. ss ++ pair.session.runner.user ∷ []) i.sessions ∙ sym (map_push (λ p. p.session.runner.user) done pair);
      helpers = adds.helpers ∙ ap (λ ss. ss ++ pair.helper.assistant.helper ∷ []) i.helpers ∙ sym (map_push (λ p. p.helper.assistant.helper) done pair);
      told = adds.told ∙ ap (λ ss. ss ++ pair.session.runner.told ∷ []) i.told ∙ sym (map_push (λ p. p.session.runner.told) done pair);
      reads = adds.reads ∙ ap (λ ss. ss ++ pair.session.runner.reads ∷ []) i.reads ∙ sym (map_push (λ p. p.session.runner.reads) done pair);
      served = adds.served ∙ ap (λ ss. ss ++ announced pair.session.announcing ∷ []) i.served ∙ sym (map_push (λ p. announced p.session.announcing) done pair);
      once = all_pushed (λ p. Merged (served_by_session p.session.announcing) (served_by_helper p.helper.listening) (announced p.session.announcing)) done pair i.once adds.once;
    }
