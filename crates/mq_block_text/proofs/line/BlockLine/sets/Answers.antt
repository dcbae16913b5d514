use Rattle.std.proofs.Common.{◌≡◌, sym, ◌∙◌, rules}
use Rattle.std.specs.List.{count_by}
use Rattle.mq_block_text.proofs.TextWhole.{is_set, sets_in_is}
use Rattle.mq_block_text.proofs.line.BlockLine.sets.Goals as goal

pub returns : goal.returns
returns c = let h : c.count.result ≡ count_by is_set c.args.self.now = search rules in h ∙ sym (sets_in_is c.args.self.now)
