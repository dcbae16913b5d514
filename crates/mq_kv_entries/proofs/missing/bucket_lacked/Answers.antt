use Rattle.std.proofs.Common.{sym, ap, ◌∙◌}
use Rattle.mq_sessions.specs.Pages.{page_in}
use Rattle.mq_kv_entries.proofs.Lacking.{held-looked, looks-none}
use Rattle.mq_kv_entries.proofs.missing.bucket_lacked.Goals as goal

pub returns-in_err-b : goal.returns-in_err-b
returns-in_err-b c = rw c.from_residual.ensures (λ x looks none. looks-none c.args.buckets c.args.op.now c.in_err-b.ensures x looks)

pub returns-in-Some : goal.returns-in-Some
returns-in-Some c =
    held-looked c.args.buckets c.args.held.now.cells c.args.op.now c.in_ok-b.b c.in_ok-b.ensures (λ none. let e = ap page_in c.in-Some.ensures.value ∙ none in absurd (cc))

pub returns-in-None : goal.returns-in-None
returns-in-None c = (c.in_ok-b.ensures, sym (ap page_in c.in-None.ensures.value))
