use Rattle.std.proofs.Common.{◌≡◌, ◌∙◌, length, rules, sym, vec_len}
use Rattle.std.proofs.lemmas.Bool.Decides.{Decides-eqb}
use Rattle.std.proofs.lemmas.List.{nil_from_length}
use Rattle.mq_kv_entries.specs.Groups.{held_map}
use Rattle.mq_kv_entries.specs.Working.{now}
use Rattle.mq_kv_entries.proofs.GroupsDone.{done, fresh, held-buckets, held-run, known}
use Rattle.mq_kv_entries.proofs.WorkingStepped.{formed-along}
use Rattle.mq_kv_entries.proofs.group.run.Goals as goal

pub run_all-requires-clause-formed : goal.run_all-requires-clause-formed
run_all-requires-clause-formed c =
    formed-along c.args.buckets (held_map c.args.held.now.cells) (now c.new-working.result) (fresh c.new-working.result c.args.held.now.cells c.new-working.ensures.changed c.new-working.ensures.held)
    (held-buckets c.args.buckets c.args.held.now.cells c.requires.possible)

pub returns : goal.returns
returns c =
    let empty : vec_len c.in_ok-blocks.blocks ≡ 0 = (Decides-eqb (vec_len c.in_ok-blocks.blocks) 0).0 (sym c.is_empty.ensures ∙ c.if-not-is_empty.false) in
    let zero : length c.in_ok-blocks.blocks.items ≡ 0 = search rules in
    let none = nil_from_length c.in_ok-blocks.blocks.items zero in
    let run = held-run c.args.buckets c.args.held.now.cells c.args.ops.now c.in_ok-blocks.blocks.items c.new-working.result c.run_all.new.working c.in_ok-replies.replies.items c.in_ok-writes.writes.items c.in_ok-blocks.ensures none
    c.new-working.ensures.changed c.new-working.ensures.held c.in_ok-replies.ensures.replies c.in_ok-replies.ensures.run c.in_ok-writes.ensures in (
      known c.args.buckets c.args.held.now.cells c.args.ops.now c.in_ok-replies.replies.items c.in_ok-writes.writes.items run,
      λ m all agrees. done c.args.buckets c.args.held.now.cells c.args.ops.now c.in_ok-replies.replies.items c.in_ok-writes.writes.items run m agrees,
    )
