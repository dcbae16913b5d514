use Rattle.std.proofs.Common.{rules, ◌≡◌, ◌≤◌, ℕ, ◌+◌, ◌-◌, List, [], ◌∷◌, ◌++◌, length, get_or, Option, None, sym, ◌∙◌, ap, subst, arith}
use Rattle.mq_blocks.specs.Descriptor.{journal_form, last_block}
use Rattle.mq_blocks.specs.Limits.{newest_version}
use Rattle.mq_blocks.specs.Geometry.{area_lba}
use Rattle.mq_command_blocks.specs.Commits.{blocks_in, copies_from}
use Rattle.mq_block_trace.specs.Lines.{set_in, writes_from, named}
use Rattle.mq_command_blocks.proofs.LinesFills.{length-blocks_few, items_made}
use Rattle.mq_command_blocks.proofs.items.items_of_line.Goals as goal

pub write_descriptor-requires : goal.write_descriptor-requires
write_descriptor-requires c =
    let none : length c.new.result.items ≡ 0 = ap length c.new.ensures.items in
    let few : length c.in_ok-logged.logged.items ≤ 256 = subst (λ (l : List ℕ). length l ≤ 256) (sym c.in_ok-logged.ensures) (length-blocks_few (λ b. get_or c.deref.result.now b None)) in
    omega (arith, none, few)

pub returns : goal.returns
returns c =
    let fills : List (Option ℕ) = c.in_ok-fills.fills.items in
    let logged : List ℕ = c.in_ok-logged.logged.items in
    let count : c.len.result ≡ length logged = search rules in
    let none : c.new.result.items ≡ [] = c.new.ensures.items in
    let is_logged : logged ≡ blocks_in (writes_from (λ b. get_or fills b None) 0 named) =
    c.in_ok-logged.ensures ∙ ap (λ (l : List (Option ℕ)). blocks_in (writes_from (λ b. get_or l b None) 0 named)) c.deref.ensures.value in
    let last : c.area_lba.result ≡ area_lba c.args.geometry 0 (c.args.next + length logged) = c.area_lba.ensures ∙ ap (λ (n : ℕ). area_lba c.args.geometry 0 (c.args.next + n)) count in
    let block : c.write_descriptor.new.into ≡ last_block journal_form newest_version record { queue = 0; number = c.args.number; place = c.args.next + length logged; prev_place = c.args.last; prev_number = c.args.number - 1; logged = logged; revoked = [] } =
    c.write_descriptor.ensures.last ∙ (λ i. last_block journal_form newest_version record { queue = 0; number = c.args.number; place = c.args.next + count i; prev_place = c.args.last; prev_number = c.args.number - 1; logged = logged; revoked = none i }) in
    items_made c.args.geometry fills (set_in c.args.line.now) c.args.number c.args.next c.args.last logged c.in_ok-items.items.items c.push.new.self.items
    is_logged (c.in_ok-items.ensures ∙ ap (λ (l : List (Option ℕ)). copies_from c.args.geometry c.args.next (writes_from (λ b. get_or l b None) 0 named)) c.deref-2.ensures.value) c.in_ok-fills.ensures.1
    (c.in_ok-push.ensures.items ∙ (λ i. c.in_ok-items.items.items ++ (last i, block i) ∷ []))
