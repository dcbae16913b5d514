use Rattle.mq_block_text.proofs.WordsDigits.{byte_is}
use Rattle.mq_block_text.proofs.words.byte_of.Goals as goal

pub returns : goal.returns
returns c = byte_is c.args.high c.args.low c.read_hex.result c.read_hex.ensures.found c.read_hex.ensures.only
