-- The dwords that were read have the bytes that they were read from.
use Rattle.mq_nvme.specs.Dwords.{dword_bytes}
use Rattle.std.proofs.Common.{arith}
use Rattle.mq_nvme.proofs.DwordsBytes.{bytes_of-read}
use Rattle.mq_nvme.proofs.dwords.read_dwords.Goals as goal

pub returns-clause-bytes : goal.returns-clause-bytes
unfolding dword_bytes
returns-clause-bytes c =
    let kept = c.read_u32_into.auto.dst in
    bytes_of-read c.read_u32_into.new.dst c.args.bytes.now (omega arith) (λ k. omega (arith, c.type_inv.bytes k)) c.read_u32_into.ensures
