use Rattle.std.proofs.Common.{None, arith}
use Rattle.std.proofs.lemmas.List.{length-replicate}
use Rattle.mq_blocks.specs.Geometry.{homes_of}
use Rattle.mq_block_trace.specs.Traced.{blank_start}
use Rattle.mq_block_trace.proofs.Traces.{trace_is}
use Rattle.mq_block_trace.proofs.laws.traces_are_allowed.Goals as goal

pub returns : goal.returns
returns c = λ g lines cut text good. trace_is g lines text good (c.starts.ensures g (blank_start g) 0 (length-replicate (homes_of g) None) (omega arith)) cut
