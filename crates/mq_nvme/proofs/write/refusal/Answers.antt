-- The rules of a block come first, then those of all commands.
use Rattle.std.proofs.Common.{◌++◌, sym, ◌∙◌}
use Rattle.mq_nvme.specs.Entry.{block_rules, common_rules, command_rules, refusal_of}
use Rattle.mq_nvme.proofs.EntryRefusals.{first_refusal-append_some, first_refusal-append_none}
use Rattle.mq_nvme.proofs.write.refusal.Goals as goal

pub returns-in-Some : goal.returns-in-Some
unfolding refusal_of
returns-in-Some c = sym (first_refusal-append_some block_rules (common_rules ++ command_rules) c.args.entry.now c.in-Some.cause (sym c.in-Some.ensures))

pub returns-in-Some-common_refusal : goal.returns-in-Some-common_refusal
unfolding refusal_of
returns-in-Some-common_refusal c =
    let rest = first_refusal-append_some common_rules command_rules c.args.entry.now c.in-Some-common_refusal.cause (sym c.in-Some-common_refusal.ensures) in
    sym (first_refusal-append_none block_rules (common_rules ++ command_rules) c.args.entry.now (sym c.in_default.ensures) ∙ rest)

pub returns : goal.returns
unfolding refusal_of
returns c =
    let rest = first_refusal-append_none common_rules command_rules c.args.entry.now (sym c.in_default-common_refusal.ensures) in
    c.command_refusal.ensures ∙ sym (first_refusal-append_none block_rules (common_rules ++ command_rules) c.args.entry.now (sym c.in_default.ensures) ∙ rest)
