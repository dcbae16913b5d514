-- What is read of an entry that is not refused has that entry.
use Rattle.std.proofs.Common.{rules, ◌≡◌, ◌∙◌}
use Rattle.mq_nvme.specs.Entry.{request_of, slot_of}
use Rattle.mq_nvme.proofs.FieldReadings.{slot_is}
use Rattle.mq_nvme.proofs.EntryRefusals.{accepted, HasDwords}
use Rattle.mq_nvme.proofs.write.request.Goals as goal

pub returns-clause-write : goal.returns-clause-write
unfolding request_of
returns-clause-write c =
    let are = c.get.ensures.are in
    let slot : c.get.result ≡ slot_of c.args.entry.now = c.get.ensures.is ∙ slot_is 16 c.args.entry.now are in
    let d : HasDwords c.args.entry.now = record { tx_low = are.fit 2; tx_high = are.fit 3; lba_low = are.fit 10; lba_high = are.fit 11 } in
    accepted c.args.entry.now _ are.long d c.requires (search rules)
