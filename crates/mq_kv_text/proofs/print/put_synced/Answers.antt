use Rattle.std.proofs.Common.{rules, ◌≡◌, ℕ, [], ◌∷◌, ◌++◌, ◌∙◌, List, map, ap}
use Rattle.std.specs.Prelude.{codes, decimal}
use Rattle.mq_block_text.specs.Refusals.{ended}
use Rattle.mq_kv_buckets.specs.declared.operation.KvReply.{KvReply}
use Rattle.mq_kv_text.specs.Reports.{reply_text}
use Rattle.mq_kv_text.proofs.ReportsPrinted.{lines_more}
use Rattle.mq_kv_text.proofs.print.put_synced.Goals as goal

pub returns : goal.returns
returns c =
    let same : c.deref.result.now ≡ c.args.synced.now.replies = search rules in
    let number : c.synced-inside.inside.0.1.0.0 ≡ c.args.synced.now.at = search rules in
    lines_more c.args.out.now.items _ _ (map reply_text c.args.synced.now.replies) ((codes "synced " ++ decimal c.args.synced.now.at) ∷ [])
    (c.in_ok-put_replies.ensures ∙ ap (λ (rs : List KvReply). c.args.out.now.items ++ ended 10 (map reply_text rs)) same)
    (c.in_ok-put_line.ensures ∙ ap (λ (n : ℕ). c.put_replies.new.out.items ++ ended 10 ((codes "synced " ++ decimal n) ∷ [])) number)
