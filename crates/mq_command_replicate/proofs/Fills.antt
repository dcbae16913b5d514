-- The writes of a line, block by block, and that they rise.
use Rattle.std.proofs.Common.{◌≡◌, ◌<◌, ◌≤◌, ℕ, zero, suc, ◌+◌, ◌-◌, List, [], ◌∷◌, ◌++◌, Option, Some, None, ◌∙◌, ap, sym, subst, arith, append_assoc, nat_lt, if◌then◌else◌}
use Rattle.mq_blocks.specs.Blocks.{filled}
use Rattle.mq_blocks.specs.Descriptor.{AreRising}
use Rattle.mq_blocks.specs.Geometry.{write_limit}
use Rattle.mq_blocks.specs.Limits.{list_limit}
use Rattle.mq_blocks.specs.Machine.{Writes}
use Rattle.mq_blocks.specs.declared.geometry.Geometry.{Geometry}
use Rattle.mq_block_trace.specs.Lines.{with_write, writes_from, named}
use Rattle.mq_block_trace.proofs.LinesFills.{Fill, length-writes, named_is, writes_at}
use Rattle.mq_ledger.specs.History.{blocks_of}
use Rattle.mq_replica.specs.Updates.{AreBelow, AreWritesFit, AreWritesRising, update_limit}
use Rattle.mq_command_blocks.proofs.ItemsWrites.{rising_from}
use Rattle.mq_command_replicate.specs.Updates.{IsReplicaGeometry}
use Rattle.mq_command_replicate.proofs.HeldLines.{last_is}

-- ---- they rise

pub writes_named : (f : Fill) → AreRising 0 named (blocks_of (writes_from f 0 named))
writes_named f = rising_from f 0 named 0 named (omega arith) (omega arith)

pub writes_rise : (f : Fill) → AreWritesRising (writes_from f 0 named)
writes_rise f = (named, writes_named f)

-- ---- they fit

rising_below : (low high : ℕ) (bs : List ℕ) → AreRising low high bs → AreBelow high bs
rising_below low high [] rising = tt
rising_below low high (b ∷ bs) rising = (rising.1, rising_below (b + 1) high bs rising.2)

room : ℕ → ℕ
room area = if nat_lt area (list_limit + 24) then area - 24 else list_limit

replica_limit : (g : Geometry) → IsReplicaGeometry g → update_limit g ≡ 999
unfolding write_limit room
replica_limit g is = ap (λ (area : ℕ). room area - 1) is.area

pub writes_fit : (g : Geometry) → IsReplicaGeometry g → (f : Fill) → AreWritesFit g (writes_from f 0 named)
writes_fit g is f = record {
  below = subst (λ (high : ℕ). AreBelow high (blocks_of (writes_from f 0 named))) (named_is ∙ sym (last_is g is)) (rising_below 0 named (blocks_of (writes_from f 0 named)) (writes_named f));
  few = (let l = replica_limit g is in let n = length-writes f 0 named in let e = named_is in omega (arith, l, n, e));
}
