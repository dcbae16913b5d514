use Rattle.std.proofs.Common.{◌≡◌, length, refl, ap, ◌∙◌, arith}
use Rattle.std.proofs.lemmas.Result.{err_from_is_err_and}
use Rattle.mq_blocks.proofs.WindowsReadings.{length-numbers}
use Rattle.mq_loose_recover.proofs.Numbers.{length-wide}
use Rattle.mq_loose_recover.proofs.ReadingSound.{refused-deps, refused-list, refused-rest, sound-along}
use Rattle.mq_loose_recover.proofs.read.read_bytes.Goals as goal

pub check_lists-requires : goal.check_lists-requires
check_lists-requires c =
    let few = c.in_ok-check_header.ensures.1.0 in
    let long : length c.deref.result.now ≡ c.read_header-header.result.logged = ap length (c.deref.ensures.value ∙ c.in_ok-logged.ensures) ∙ length-numbers c.read_header-header.result.logged _ in
    omega (arith, few, long)

pub check_deps-requires : goal.check_deps-requires
check_deps-requires c =
    let few = c.in_ok-check_header.ensures.1.0 in
    let many = c.in_ok-check_header.ensures.1.1 in
    let long : length c.deref-2.result.now ≡ c.read_header-header.result.revoked = ap length (c.deref-2.ensures.value ∙ c.in_ok-deps.ensures) ∙ length-wide c.read_header-header.result.revoked _ in
    omega (arith, few, many, long)

pub returns-in_err-check_lists-clause-refused : goal.returns-in_err-check_lists-clause-refused
returns-in_err-check_lists-clause-refused c =
    let p = err_from_is_err_and c.from_residual-in_err-check_lists.result c.from_residual-in_err-check_lists.ensures.1 in
    rw (p.1, p.2) (
    refused-list c.args.geometry c.args.at.now c.args.block.now c.read_header-header.result c.area.result c.homes.result c.in_ok-logged.logged.items c.deref.result.now c.in_err-check_lists.field-0.0
    c.requires c.read_header-header.ensures.is c.area.ensures c.homes.ensures c.deref.ensures.value c.in_ok-logged.ensures c.in_ok-check_header.ensures c.in_err-check_lists.ensures
    )

pub returns-in_err-check_deps-clause-refused : goal.returns-in_err-check_deps-clause-refused
returns-in_err-check_deps-clause-refused c =
    let p = err_from_is_err_and c.from_residual-in_err-check_deps.result c.from_residual-in_err-check_deps.ensures.1 in
    rw (p.1, p.2) (
    refused-deps c.args.geometry c.args.at.now c.args.block.now c.read_header-header.result c.area.result c.homes.result c.read_header-header.result.logged c.in_ok-logged.logged.items c.in_ok-deps.deps.items c.deref.result.now c.deref-2.result.now c.in_err-check_deps.field-0.0
    c.requires c.read_header-header.ensures.is c.area.ensures c.homes.ensures refl c.deref.ensures.value c.deref-2.ensures.value c.in_ok-logged.ensures c.in_ok-deps.ensures c.in_ok-check_header.ensures c.in_ok-check_lists.ensures.0 c.in_err-check_deps.ensures
    )

pub returns-in_err-check_rest-clause-refused : goal.returns-in_err-check_rest-clause-refused
returns-in_err-check_rest-clause-refused c =
    let p = err_from_is_err_and c.from_residual-in_err-check_rest.result c.from_residual-in_err-check_rest.ensures.1 in
    rw (p.1, p.2) (
    refused-rest c.args.geometry c.args.at.now c.args.block.now c.read_header-header.result c.area.result c.homes.result c.in_ok-logged.logged.items c.in_ok-deps.deps.items c.deref.result.now c.deref-2.result.now c.in_err-check_rest.field-0.0
    c.requires c.read_header-header.ensures.is c.area.ensures c.homes.ensures c.deref.ensures.value c.deref-2.ensures.value c.in_ok-logged.ensures c.in_ok-deps.ensures c.in_ok-check_header.ensures c.in_ok-check_lists.ensures.0 c.in_ok-check_deps.ensures c.in_err-check_rest.ensures
    )

pub returns-clause-sound : goal.returns-clause-sound
returns-clause-sound c =
    sound-along c.args.geometry c.args.at.now c.args.block.now c.read_header-header.result c.area.result c.homes.result c.in_ok-logged.logged.items c.in_ok-deps.deps.items c.deref.result.now c.deref-2.result.now c.new.result.items
    c.requires c.read_header-header.ensures.bytes c.read_header-header.ensures.is c.area.ensures c.homes.ensures c.deref.ensures.value c.deref-2.ensures.value c.new.ensures.items c.in_ok-logged.ensures c.in_ok-deps.ensures c.in_ok-check_header.ensures c.in_ok-check_lists.ensures.0 c.in_ok-check_deps.ensures c.in_ok-check_rest.ensures
