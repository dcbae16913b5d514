use Rattle.mq_block_text.proofs.WordsDigits.{number_is}
use Rattle.mq_block_text.proofs.words.number_of.Goals as goal

pub returns : goal.returns
returns c = number_is c.args.word.now c.read_number.result c.read_number.ensures.found c.read_number.ensures.only
