use Rattle.std.proofs.Common.{rules, ◌≢◌, ◌%◌, Some, None, get_or, ◌∙◌, ap}
use Rattle.mq_drive.specs.Choices.{next_block}
use Rattle.mq_drive.proofs.Choices.{torn_old, torn_new, torn_next, block_is, block_kept, block_put}
use Rattle.mq_drive.proofs.blocks.Blocks.tear.Goals.{in-1, in_default}
use Rattle.mq_drive.proofs.blocks.Blocks.tear.Goals as goal

pub invariant_of-self-clause-doubtful : goal.invariant_of-self-clause-doubtful
invariant_of-self-clause-doubtful c = c.args.self.now.doubtful

pub returns-in-0-clause-chosen : goal.returns-in-0-clause-chosen
returns-in-0-clause-chosen c =
    let items = c.args.self.now.stored.items in
    block_kept items c.args.k c.args.block c.args.rng.now c.next_word.new.self
    (torn_old next_block (get_or items c.args.k None) (Some c.args.block) c.args.rng.now c.next_word.new.self c.next_word.result c.next_word.ensures c.in-0.is)

pub returns-clause-chosen : goal.returns-clause-chosen
returns-clause-chosen c =
    let items = c.args.self.now.stored.items in
    elim c.match-next_word-rem3.branch [
      | in-1 w ↦
          block_put items c.put_block.new.blocks.items c.args.k c.args.block c.match-next_word-rem3.block c.args.rng.now c.next_word.new.self c.match-next_word-rem3.rng
          c.put_block.ensures w.rng-is
          (ap (λ b. (Some b, c.next_word.new.self)) w.block-is
          ∙ torn_new next_block (get_or items c.args.k None) (Some c.args.block) c.args.rng.now c.next_word.new.self c.next_word.result c.next_word.ensures w.in-1.is)
      | in_default w ↦
          let first : c.next_word.result % 3 ≢ 0 = search (rules, w.in_default) in
          let second : c.next_word.result % 3 ≢ 1 = search (rules, w.in_default) in
          block_put items c.put_block.new.blocks.items c.args.k c.args.block c.match-next_word-rem3.block c.args.rng.now w.next_block-block.new.rng c.match-next_word-rem3.rng
          c.put_block.ensures w.rng-is
          (ap (λ b. (Some b, w.next_block-block.new.rng)) w.block-is
          ∙ torn_next next_block (get_or items c.args.k None) (Some c.args.block) (Some w.next_block-block.result) c.args.rng.now c.next_word.new.self w.next_block-block.new.rng c.next_word.result
          c.next_word.ensures first second (block_is w.next_block-block.result c.next_word.new.self w.next_block-block.new.rng w.next_block-block.ensures))
    ]
