-- The dword that is written has the value in the field and is else as it was.
use Rattle.std.proofs.Common.{rules, ◌<◌, ◌^◌, refl, ◌∙◌}
use Rattle.mq_nvme.specs.Field.{place, set_field, with_bits}
use Rattle.mq_nvme.proofs.FieldBits.{with_bits-computed, with_bits-fits, written-value, written-outside}
use Rattle.mq_nvme.proofs.field.Field.set.Goals as goal

pub overflow_cast-above-3 : goal.overflow_cast-above-3
overflow_cast-above-3 g c =
    let read = c.from-dword.ensures in
    let given = c.from.ensures in
    let within = c.requires.within.bits in
    let n_fits : c.dword.result < 2 ^ 32 = c.dword.type_inv in
    let v_fits : c.args.value < 2 ^ 32 = c.ranges.value.fits in
    let is = with_bits-computed g.row.LOW g.row.WIDTH c.args.value c.dword.result within v_fits n_fits in
    let fits : with_bits g.row.LOW g.row.WIDTH c.args.value c.dword.result < 2 ^ 32 =
    with_bits-fits g.row.LOW g.row.WIDTH c.args.value c.dword.result within c.requires.fits n_fits in
    rw (read, given, is) (search rules)

pub returns-clause-is : goal.returns-clause-is
unfolding set_field
returns-clause-is g c =
    let read = c.from-dword.ensures in
    let given = c.from.ensures in
    let was = c.dword.ensures.is in
    let n_fits : c.dword.result < 2 ^ 32 = c.dword.type_inv in
    let v_fits : c.args.value < 2 ^ 32 = c.ranges.value.fits in
    let is = with_bits-computed g.row.LOW g.row.WIDTH c.args.value c.dword.result c.requires.within.bits v_fits n_fits in
    c.set_dword.ensures.is ∙ rw (read, given, is, was) refl

pub returns-clause-value : goal.returns-clause-value
returns-clause-value g c =
    written-value (place g.row.DWORD g.row.LOW g.row.WIDTH) c.args.value _ _ _ c.set_dword.ensures.are c.requires.within c.requires.fits (returns-clause-is g c)

pub returns-clause-others : goal.returns-clause-others
returns-clause-others g c =
    written-outside (place g.row.DWORD g.row.LOW g.row.WIDTH) c.args.value _ _ _ c.set_dword.ensures.are c.requires.within c.requires.fits (returns-clause-is g c)
