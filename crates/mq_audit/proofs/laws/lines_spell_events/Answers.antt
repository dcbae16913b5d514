use Rattle.std.proofs.Common.{ap, ◌∙◌}
use Rattle.mq_block_text.specs.Words.{words_of}
use Rattle.mq_audit.specs.Events.{event_in_words}
use Rattle.mq_audit.proofs.Spelled.{event_again}
use Rattle.mq_audit.proofs.SpelledBack.{event_spelled}
use Rattle.mq_audit.proofs.laws.lines_spell_events.Goals as goal

pub returns-clause-read : goal.returns-clause-read
returns-clause-read c = λ g number line e good are. ap (event_in_words g number) are ∙ event_again g number e good

pub returns-clause-spelled : goal.returns-clause-spelled
returns-clause-spelled c = λ g number line e is. event_spelled g number (words_of line) e is
