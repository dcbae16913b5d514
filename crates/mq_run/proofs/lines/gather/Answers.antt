use Rattle.std.proofs.Common.{◌≡◌, ◌++◌, map, ap, sym, ◌∙◌, append_assoc}
use Rattle.std.proofs.lemmas.List.{map_push}
use Rattle.mq_run.specs.Lines.{joined}
use Rattle.mq_run.proofs.LinesJoined.{joined_push}
use Rattle.mq_run.proofs.lines.gather.Goals as goal

pub loop-list-preserved : goal.loop-list-preserved
loop-list-preserved g c =
    let moved : c.append.new.self.items ≡ c.loop-list.all.items ++ c.in-Some.list.items = c.in_ok-append.ensures.items in
    let before = joined (map (λ v. v.items) c.loop-list.yielded) in
    let more = ap joined (map_push (λ v. v.items) c.loop-list.yielded c.in-Some.list) ∙ joined_push (map (λ v. v.items) c.loop-list.yielded) c.in-Some.list.items in
    moved ∙ ap (λ r. r ++ c.in-Some.list.items) c.loop-list.invariant ∙ append_assoc c.args.first.items before c.in-Some.list.items ∙ ap (λ r. c.args.first.items ++ r) (sym more)
