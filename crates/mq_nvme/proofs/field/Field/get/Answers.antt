-- What is shifted and masked is the field.
use Rattle.std.proofs.Common.{◌≤◌, refl, arith}
use Rattle.mq_nvme.specs.Field.{get_field, bits_of}
use Rattle.mq_nvme.proofs.FieldBits.{power}
use Rattle.mq_nvme.proofs.field.Field.get.Goals as goal

pub returns-clause-is : goal.returns-clause-is
unfolding get_field bits_of
returns-clause-is g c =
    let narrow : g.row.WIDTH ≤ 32 = omega (arith, c.requires.bits) in
    let mask = power g.row.WIDTH narrow in
    let read = c.from-dword.ensures in
    let was = c.dword.ensures.is in
    rw (mask, read, was) refl
