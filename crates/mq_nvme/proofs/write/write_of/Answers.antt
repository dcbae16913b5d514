-- The fields that are written one after another are the request's.
use Rattle.std.proofs.Common.{rules, ◌≡◌, not}
use Rattle.mq_nvme.specs.Entry.{IsRequest}
use Rattle.mq_nvme.proofs.FieldWritings.{bit, entry_written}
use Rattle.mq_nvme.proofs.write.write_of.Goals as goal

pub returns-clause-is : goal.returns-clause-is
returns-clause-is c =
    let r = c.args.req.now in
    let mark : c.from.result ≡ bit (not r.commit) = search rules in
    let last : c.from-2.result ≡ bit r.commit = search rules in
    rw (
      c.set-11.ensures.is,
      c.set-10.ensures.is,
      c.set-9.ensures.is,
      c.set-8.ensures.is,
      c.set-7.ensures.is,
      c.set-6.ensures.is,
      c.set-5.ensures.is,
      c.set-4.ensures.is,
      c.set-3.ensures.is,
      c.set-2.ensures.is,
      c.set.ensures.is,
      c.zeroed-entry.ensures,
      c.from-slot.ensures,
      mark,
      last,
    ) (entry_written r c.requires.slot)

pub returns-clause-write : goal.returns-clause-write
returns-clause-write c =
    let request : IsRequest c.args.req.now = record { slot = c.requires.slot; tx_low = c.requires.tx; tx_high = search rules; lba = search rules } in
    record { request = request; is = returns-clause-is c }
