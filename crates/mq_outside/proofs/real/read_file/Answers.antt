use Rattle.std.proofs.Common.{◌≡◌, ◌++◌, IfSome}
use Rattle.mq_outside.proofs.OutsideLemmas.{opened-some}
use Rattle.mq_outside.proofs.real.read_file.Goals as goal

pub returns-clause-all : goal.returns-clause-all
returns-clause-all g c =
    opened-some c.open.result c.read_opened.result (c.read_opened.new.bytes ≡ c.args.bytes.now)
    (λ opened. IfSome (g.R.File.Read.remaining opened) (λ rest. c.read_opened.new.bytes.items ≡ c.args.bytes.now.items ++ rest)) c.read_opened.ensures.refused c.read_opened.ensures.all
