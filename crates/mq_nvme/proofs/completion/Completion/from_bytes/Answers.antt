-- The dwords that were read are the only ones with these bytes.
use Rattle.std.proofs.Common.{sym, ◌∙◌}
use Rattle.mq_nvme.proofs.DwordsBytes.{dword_bytes-injective}
use Rattle.mq_nvme.proofs.completion.Completion.from_bytes.Goals as goal

pub returns-clause-round_trip : goal.returns-clause-round_trip
returns-clause-round_trip c e are same =
    dword_bytes-injective 4 c.read_dwords.new.into e c.read_dwords.ensures.dwords are (c.read_dwords.ensures.bytes ∙ sym same)
