use Rattle.std.proofs.Common.{◌≡◌}
use Rattle.std.specs.Prelude.{option_map}
use Rattle.clap.specs.Words.{first_of, found_of, rows_of}
use Rattle.mq_cli.specs.Asked.{number_option}
use Rattle.mq_cli.specs.declared.refusal.WordsRefusal.{WordsRefusal}
use Rattle.mq_cli.specs.declared.refusal.WordsRefusal.TheVariants.{Unknown}
use Rattle.mq_cli.proofs.Asked.{reads_as}
use Rattle.mq_cli.proofs.found.found_number.Goals as goal

pub returns-clause-reads : goal.returns-clause-reads
returns-clause-reads c =
    reads_as c.optional_number.result number_option (option_map (λ s. s.now) c.found_word.result) (first_of c.args.id.now (rows_of (found_of c.args.matches.now))) (λ (e : WordsRefusal). e ≡ Unknown) c.found_word.ensures c.optional_number.ensures.reads
