use Rattle.std.proofs.Common.{rules, ◌≡◌, List, [], ◌∷◌, ◌++◌, ◌∙◌, sym, ap}
use Rattle.mq_kv_buckets.specs.declared.operation.KvOp.{KvOp}
use Rattle.mq_kv_text.specs.Files.{lines_so_far}
use Rattle.mq_kv_text.specs.declared.line.Line.{Line}
use Rattle.mq_kv_text.proofs.FilesRead.{asks_more, syncs_more}
use Rattle.mq_kv_text.proofs.read.add_line.Goals as goal

pub returns-in_ok-push-in-Asks-clause-added : goal.returns-in_ok-push-in-Asks-clause-added
returns-in_ok-push-in-Asks-clause-added c =
    let groups = c.args.groups.now.items in
    let ops = c.args.ops.now.items in
    ap (lines_so_far groups) c.in_ok-push-in-Asks.ensures.items ∙ sym (asks_more groups ops c.in-Asks.op)
    ∙ ap (λ (l : Line). lines_so_far groups ops ++ l ∷ []) (sym c.in-Asks.is)

pub returns-in_ok-push-in-Syncs-clause-added : goal.returns-in_ok-push-in-Syncs-clause-added
returns-in_ok-push-in-Syncs-clause-added c =
    let groups = c.args.groups.now.items in
    let ops = c.args.ops.now.items in
    let more : c.push-in-Syncs.new.self.items ≡ groups ++ ops ∷ [] = search rules in
    let none : c.replace-ended.new.dest.items ≡ [] = search rules in
    ap (λ (gs : List (List KvOp)). lines_so_far gs c.replace-ended.new.dest.items) more
    ∙ ap (lines_so_far (groups ++ ops ∷ [])) none ∙ sym (syncs_more groups ops)
    ∙ ap (λ (l : Line). lines_so_far groups ops ++ l ∷ []) (sym c.in-Syncs.is)
