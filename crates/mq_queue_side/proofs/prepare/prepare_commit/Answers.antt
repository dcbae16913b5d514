use Rattle.std.proofs.Common.{◌≡◌, ℕ, ◌+◌, ◌≤◌, List, length, map, sym, ap, subst, ◌∙◌, arith, rules, vec_capacity}
use Rattle.mq_pages.specs.Shadows.{shadow_of}
use Rattle.mq_pages.specs.declared.page.ShadowPage.{ShadowPage}
use Rattle.mq_pages.specs.declared.page.Write.{Write}
use Rattle.mq_revoke.specs.Placed.{Placed}
use Rattle.mq_queue_side.specs.Parts.{pages_in, pages_out, AreLeft, HasFurther}
use Rattle.mq_queue_side.proofs.Parts.{are_left, commit_is, parts, placed_lists, placed_sizes}
use Rattle.mq_queue_side.proofs.prepare.prepare_commit.Goals as goal

pub part-requires : goal.part-requires
part-requires c =
    let plan : Placed = c.args.plan.now in
    let listed : c.deref.result.now ≡ plan.logged = c.deref.ensures.value ∙ ap (λ (p : Placed). p.logged) c.plan.view_is in
    subst (λ (pages : List ShadowPage). AreLeft c.deref.result.now pages) (sym c.in_ok-pages.ensures)
    (subst (λ (blocks : List ℕ). AreLeft blocks (map shadow_of c.args.writes.now)) (sym listed) (are_left c.requires.plan.0 c.args.writes.now plan c.requires.plan.1))

pub invariant_of-result : goal.invariant_of-result
invariant_of-result c =
    let plan : Placed = c.args.plan.now in
    let ws : List Write = c.args.writes.now in
    let listed : c.deref.result.now ≡ plan.logged = c.deref.ensures.value ∙ ap (λ (p : Placed). p.logged) c.plan.view_is in
    let in_listed : c.in_ok-parted.parted.listed.items ≡ pages_in plan.logged (map shadow_of ws) = c.in_ok-parted.ensures.listed ∙ (λ i. pages_in (listed i) (c.in_ok-pages.ensures i)) in
    let in_others : c.in_ok-parted.parted.others.items ≡ pages_out plan.logged (map shadow_of ws) = c.in_ok-parted.ensures.others ∙ (λ i. pages_out (listed i) (c.in_ok-pages.ensures i)) in
    let blocks : c.in_ok-from_slice.field-0.items ≡ plan.logged = c.in_ok-from_slice.ensures.items ∙ c.deref-2.ensures.value ∙ ap (λ (p : Placed). p.logged) c.plan.view_is in
    let revoked : c.in_ok-from_slice-2.field-0.items ≡ plan.revoked = c.in_ok-from_slice-2.ensures.items ∙ c.deref-3.ensures.value ∙ ap (λ (p : Placed). p.revoked) c.plan.view_is in
    let exact = c.in_ok-with_capacity.ensures.exact in
    let room : length ws + 2 ≤ vec_capacity c.in_ok-with_capacity.field-0 = omega (arith, exact) in
    let logged_held : c.len.result ≡ length c.plan.inside.logged.items = search rules in
    let revoked_held : c.len-2.result ≡ length c.plan.inside.revoked.items = search rules in
    let logged_many : c.len.result ≡ length plan.logged = logged_held ∙ ap (λ (p : Placed). length p.logged) c.plan.view_is in
    let revoked_many : c.len-2.result ≡ length plan.revoked = revoked_held ∙ ap (λ (p : Placed). length p.revoked) c.plan.view_is in
    let further : HasFurther (length plan.logged + length plan.revoked) c.in_ok-take_further.field-0 =
    subst (λ (n : ℕ). HasFurther n c.in_ok-take_further.field-0) (omega (arith, logged_many, revoked_many)) c.in_ok-take_further.ensures in
    parts c.requires.plan.0 ws plan c.requires.plan.1 _ _ in_listed in_others _ _ _ _ _ c.requires.few blocks revoked further c.in_ok-with_capacity.ensures.items room

pub returns-clause-commit : goal.returns-clause-commit
returns-clause-commit c =
    let plan : Placed = c.args.plan.now in
    let ws : List Write = c.args.writes.now in
    let listed : c.deref.result.now ≡ plan.logged = c.deref.ensures.value ∙ ap (λ (p : Placed). p.logged) c.plan.view_is in
    let in_listed : c.in_ok-parted.parted.listed.items ≡ pages_in plan.logged (map shadow_of ws) = c.in_ok-parted.ensures.listed ∙ (λ i. pages_in (listed i) (c.in_ok-pages.ensures i)) in
    let in_others : c.in_ok-parted.parted.others.items ≡ pages_out plan.logged (map shadow_of ws) = c.in_ok-parted.ensures.others ∙ (λ i. pages_out (listed i) (c.in_ok-pages.ensures i)) in
    let revoked : c.in_ok-from_slice-2.field-0.items ≡ plan.revoked = c.in_ok-from_slice-2.ensures.items ∙ c.deref-3.ensures.value ∙ ap (λ (p : Placed). p.revoked) c.plan.view_is in
    commit_is c.requires.plan.0 ws plan c.requires.plan.1 c.in_ok-parted.parted.listed.items c.in_ok-parted.parted.others.items in_listed in_others c.in_ok-from_slice-2.field-0.items revoked

pub returns-clause-placed : goal.returns-clause-placed
returns-clause-placed c =
    let plan : Placed = c.args.plan.now in
    let ws : List Write = c.args.writes.now in
    let listed : c.deref.result.now ≡ plan.logged = c.deref.ensures.value ∙ ap (λ (p : Placed). p.logged) c.plan.view_is in
    let in_listed : c.in_ok-parted.parted.listed.items ≡ pages_in plan.logged (map shadow_of ws) = c.in_ok-parted.ensures.listed ∙ (λ i. pages_in (listed i) (c.in_ok-pages.ensures i)) in
    let in_others : c.in_ok-parted.parted.others.items ≡ pages_out plan.logged (map shadow_of ws) = c.in_ok-parted.ensures.others ∙ (λ i. pages_out (listed i) (c.in_ok-pages.ensures i)) in
    placed_lists c.requires.plan.0 ws plan c.requires.plan.1 c.in_ok-parted.parted.listed.items c.in_ok-parted.parted.others.items in_listed in_others

pub returns-clause-size : goal.returns-clause-size
returns-clause-size c =
    let plan : Placed = c.args.plan.now in
    let ws : List Write = c.args.writes.now in
    let listed : c.deref.result.now ≡ plan.logged = c.deref.ensures.value ∙ ap (λ (p : Placed). p.logged) c.plan.view_is in
    let in_listed : c.in_ok-parted.parted.listed.items ≡ pages_in plan.logged (map shadow_of ws) = c.in_ok-parted.ensures.listed ∙ (λ i. pages_in (listed i) (c.in_ok-pages.ensures i)) in
    let in_others : c.in_ok-parted.parted.others.items ≡ pages_out plan.logged (map shadow_of ws) = c.in_ok-parted.ensures.others ∙ (λ i. pages_out (listed i) (c.in_ok-pages.ensures i)) in
    placed_sizes c.requires.plan.0 ws plan c.requires.plan.1 c.in_ok-parted.parted.listed.items c.in_ok-parted.parted.others.items in_listed in_others
