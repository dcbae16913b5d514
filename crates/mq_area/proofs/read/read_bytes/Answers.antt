use Rattle.std.proofs.Common.{◌≡◌, ◌≤◌, ◌+◌, ◌*◌, ℕ, refl, arith}
use Rattle.mq_blocks.proofs.DescriptorLimits.{limit-high}
use Rattle.mq_blocks.specs.Limits.{list_limit}
use Rattle.mq_area.proofs.ReadingSound.{few-along, counts-fit, accepts-along}
use Rattle.mq_area.proofs.read.read_bytes.Goals as goal

pub read_list-requires-clause-inside : goal.read_list-requires-clause-inside
read_list-requires-clause-inside c =
    let most : c.write_limit.result ≤ list_limit = omega (arith, c.write_limit.ensures, limit-high c.args.geometry) in
    let few = counts-fit c.area.result c.write_limit.result c.args.at.now c.read_header-header.result most c.in_ok-check_header.ensures in
    omega arith

pub read_list-requires-2-clause-inside : goal.read_list-requires-2-clause-inside
read_list-requires-2-clause-inside c =
    let most : c.write_limit.result ≤ list_limit = omega (arith, c.write_limit.ensures, limit-high c.args.geometry) in
    let few = counts-fit c.area.result c.write_limit.result c.args.at.now c.read_header-header.result most c.in_ok-check_header.ensures in
    omega arith

pub check_rest-requires-clause-inside : goal.check_rest-requires-clause-inside
check_rest-requires-clause-inside c =
    let most : c.write_limit.result ≤ list_limit = omega (arith, c.write_limit.ensures, limit-high c.args.geometry) in
    let few = counts-fit c.area.result c.write_limit.result c.args.at.now c.read_header-header.result most c.in_ok-check_header.ensures in
    omega arith

pub check_lists-requires : goal.check_lists-requires
check_lists-requires c =
    let most : c.write_limit.result ≤ list_limit = omega (arith, c.write_limit.ensures, limit-high c.args.geometry) in
    few-along c.area.result c.write_limit.result c.args.at.now c.read_header-header.result _ _ _ _ _ _ most c.in_ok-check_header.ensures c.deref.ensures.value c.deref-2.ensures.value c.in_ok-logged.ensures c.in_ok-revoked.ensures

pub returns-clause-sound : goal.returns-clause-sound
returns-clause-sound c =
    accepts-along c.args.geometry c.args.at.now c.args.block.now c.args.before.now c.read_header-header.result c.area.result c.write_limit.result c.homes.result (c.read_header-header.result.logged + c.read_header-header.result.revoked) c.deref.result.now c.deref-2.result.now
    c.in_ok-logged.logged.items c.in_ok-revoked.revoked.items c.requires.whole c.requires.further c.read_header-header.ensures.bytes c.are_bytes.ensures c.read_header-header.ensures.is c.area.ensures c.write_limit.ensures c.homes.ensures refl
    c.deref.ensures.value c.deref-2.ensures.value c.in_ok-logged.ensures c.in_ok-revoked.ensures c.in_ok-check_header.ensures c.in_ok-check_lists.ensures c.in_ok-check_rest.ensures
