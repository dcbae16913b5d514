use Rattle.std.proofs.Common.{◌≡◌}
use Rattle.std.specs.Prelude.{option_map}
use Rattle.clap.specs.Words.{first_of, found_of, rows_of}
use Rattle.mq_cli.specs.Asked.{word_in}
use Rattle.mq_cli.specs.declared.refusal.WordsRefusal.{WordsRefusal}
use Rattle.mq_cli.specs.declared.refusal.WordsRefusal.TheVariants.{Unknown}
use Rattle.mq_cli.proofs.Asked.{reads_as}
use Rattle.mq_cli.proofs.read.word.Goals as goal

pub returns : goal.returns
returns c =
    reads_as c.geometry_word.result word_in (option_map (λ s. s.now) c.found_word.result) (first_of c.args.id.now (rows_of (found_of c.args.matches.now))) (λ (e : WordsRefusal). e ≡ Unknown) c.found_word.ensures c.geometry_word.ensures
