use Rattle.std.proofs.Common.{◌≡◌, ◌≤◌, ◌<◌, ◌+◌, ◌∙◌, ℕ, length, subst, arith, rules}
use Rattle.mq_blocks.specs.Descriptor.{Descriptor}
use Rattle.mq_blocks.proofs.DescriptorLimits.{further-none, further-one}
use Rattle.mq_area.proofs.write.write_descriptor.Goals as goal

pub returns-then-len-gt-ENTRIES-clause-kept : goal.returns-then-len-gt-ENTRIES-clause-kept
returns-then-len-gt-ENTRIES-clause-kept c none =
    let l : c.len.result ≡ length c.d.inside.logged.items = search rules in
    let r : c.len-2.result ≡ length c.d.inside.revoked.items = search rules in
    let i = c.d.inside in
    let d : Descriptor = record { queue = i.queue; number = i.number; place = i.place; prev_place = i.prev_place; prev_number = i.prev_number; logged = i.logged.items; revoked = i.revoked.items } in
    let here : 1010 < length d.logged + length d.revoked = omega (arith, c.if-len-gt-ENTRIES.true) in
    let M : Descriptor → Type 0 = λ x. 1010 < length x.logged + length x.revoked in
    let many : 1010 < length c.args.d.now.logged + length c.args.d.now.revoked = subst M c.d.view_is here in
    absurd (omega (arith, none, further-one (length c.args.d.now.logged + length c.args.d.now.revoked) many))

pub returns-else-len-gt-ENTRIES-clause-rest : goal.returns-else-len-gt-ENTRIES-clause-rest
returns-else-len-gt-ENTRIES-clause-rest c one =
    let l : c.len.result ≡ length c.d.inside.logged.items = search rules in
    let r : c.len-2.result ≡ length c.d.inside.revoked.items = search rules in
    let i = c.d.inside in
    let d : Descriptor = record { queue = i.queue; number = i.number; place = i.place; prev_place = i.prev_place; prev_number = i.prev_number; logged = i.logged.items; revoked = i.revoked.items } in
    let here : length d.logged + length d.revoked ≤ 1010 = omega (arith, c.if-len-gt-ENTRIES.false) in
    let M : Descriptor → Type 0 = λ x. length x.logged + length x.revoked ≤ 1010 in
    let few : length c.args.d.now.logged + length c.args.d.now.revoked ≤ 1010 = subst M c.d.view_is here in
    absurd (omega (arith, one, further-none (length c.args.d.now.logged + length c.args.d.now.revoked) few))
