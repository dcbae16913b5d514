-- What is written in the journal's form is read again, and as nothing else.
use Rattle.std.proofs.Common.{◌≤◌}
use Rattle.mq_blocks.specs.Descriptor.{IsReadOnce, IsSound, journal_form}
use Rattle.mq_blocks.specs.Geometry.{homes_of, write_limit}
use Rattle.mq_blocks.proofs.DescriptorLimits.{limit-high, listed-all}
use Rattle.mq_area.proofs.ReadingDescriptors.{accepted-homes, descriptor-placed, descriptor-unique}

pub journal-read : IsReadOnce journal_form
journal-read = record {
  once = λ g block before d e x y. descriptor-unique (write_limit g) (homes_of g) block before d e (limit-high g) (accepted-homes g) x y;
  placed = λ g block before other d e x y. descriptor-placed (write_limit g) (homes_of g) block before other d e (limit-high g) x y;
}

pub journal-sound : IsSound journal_form
journal-sound = record { read = journal-read; lists = listed-all }
