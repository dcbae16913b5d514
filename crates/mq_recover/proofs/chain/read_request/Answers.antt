use Rattle.std.proofs.Common.{◌≡◌, ◌%◌, [], refl, sym, ◌∙◌, ap}
use Rattle.std.specs.Prelude.{slice_index_or}
use Rattle.mq_blocks.proofs.DriveQuiescent.{quiet-flushed}
use Rattle.mq_blocks.specs.Limits.{depth}
use Rattle.mq_nvme.specs.Entry.{refusal_of}
use Rattle.mq_nvme.specs.Says.{says}
use Rattle.mq_nvme.proofs.Says.{says-of}
use Rattle.mq_recover.proofs.chain.read_request.Goals as goal

pub returns-in-Ok-clause-ok : goal.returns-in-Ok-clause-ok
returns-in-Ok-clause-ok g c =
    let s = g.P.Port.state c.args.port.now in
    let read : c.read_slot-entry.result ≡ slice_index_or s.flushed (c.args.at % depth) [] = c.read_slot-entry.ensures (quiet-flushed s _ c.requires.quiet) in
    ap says (sym read) ∙ says-of c.read_slot-entry.result c.in-Ok.request c.in-Ok.ensures.read

pub returns-in-Err-clause-refused : goal.returns-in-Err-clause-refused
returns-in-Err-clause-refused g c =
    let s = g.P.Port.state c.args.port.now in
    let read : c.read_slot-entry.result ≡ slice_index_or s.flushed (c.args.at % depth) [] = c.read_slot-entry.ensures (quiet-flushed s _ c.requires.quiet) in
    (c.in-Err.cause, refl, ap refusal_of (sym read) ∙ (c.in-Err.ensures.refused c.in-Err.cause).0 refl)
