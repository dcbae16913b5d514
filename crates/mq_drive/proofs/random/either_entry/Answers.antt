use Rattle.std.proofs.Common.{rules, ◌≡◌, ◌≢◌, ◌%◌}
use Rattle.mq_drive.specs.Choices.{next_slot}
use Rattle.mq_drive.proofs.Choices.{torn_old, torn_new, torn_next}
use Rattle.mq_drive.proofs.random.either_entry.Goals as goal

pub returns-in-0 : goal.returns-in-0
returns-in-0 c =
    let is : c.next_word.result % 3 ≡ 0 = search rules in
    torn_old next_slot c.args.old c.args.new c.args.rng.now c.next_word.new.self c.next_word.result c.next_word.ensures is

pub returns-in-1 : goal.returns-in-1
returns-in-1 c =
    let is : c.next_word.result % 3 ≡ 1 = search rules in
    torn_new next_slot c.args.old c.args.new c.args.rng.now c.next_word.new.self c.next_word.result c.next_word.ensures is

pub returns-in_default : goal.returns-in_default
returns-in_default c =
    let first : c.next_word.result % 3 ≢ 0 = search rules in
    let second : c.next_word.result % 3 ≢ 1 = search rules in
    torn_next next_slot c.args.old c.args.new c.next_entry.result c.args.rng.now c.next_word.new.self c.next_entry.new.rng c.next_word.result c.next_word.ensures first second c.next_entry.ensures
