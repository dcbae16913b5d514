use Rattle.std.proofs.Common.{◌≡◌, ◌+◌, ℕ, true, length, refl, ap, subst, ◌∙◌, arith, rules, length-append, vec_len}
use Rattle.std.proofs.lemmas.List.{length-map}
use Rattle.mq_blocks.specs.Journal.{is_among}
use Rattle.mq_blocks.specs.Copies.{copies_at, directs_of}
use Rattle.mq_ledger.specs.History.{blocks_of}
use Rattle.mq_pages.specs.declared.page.ShadowPage.{ShadowPage}
use Rattle.mq_pmr.specs.Runs.{Items}
use Rattle.mq_queue_side.specs.Commits.{NumberedCommit, items_of}
use Rattle.mq_queue_side.specs.Parts.{bytes_in, commit_with, writes_of, numbered_by}
use Rattle.mq_queue_side.proofs.CommitsItems.{length_copies, length_directs, items_made}
use Rattle.mq_queue_side.proofs.CommitsNumbered.{counted}
use Rattle.mq_queue_side.proofs.SentReady.{zone_home}
use Rattle.mq_queue_side.proofs.commit.Numbered.into_items.Goals as goal

pub add_directs-requires-clause-room : goal.add_directs-requires-clause-room
add_directs-requires-clause-room c =
    let n = c.self.inside in
    let copies : Items = copies_at c.args.geometry n.at.queue n.at.first (writes_of n.logged.items) in
    let none : length n.items.items ≡ 0 = ap length c.self.invariant.none in
    let all : length c.add_copies.new.items.items ≡ length n.items.items + length copies = ap length c.add_copies.ensures.items ∙ length-append n.items.items copies in
    let size = length_copies c.args.geometry n.at.queue n.at.first (writes_of n.logged.items) in
    let direct : length (writes_of n.direct.items) ≡ length n.direct.items = length-map n.direct.items (λ (p : ShadowPage). (p.block, p.content)) in
    let room = c.self.invariant.room in
    let more = c.add_copies.ensures.capacity in
    omega (arith, none, all, size, direct, room, more)

pub add_directs-requires-clause-home : goal.add_directs-requires-clause-home
add_directs-requires-clause-home c x among =
    let zone = c.requires.direct x (subst (λ (n : NumberedCommit). is_among x (blocks_of n.commit.direct) ≡ true) c.self.view_is among) in
    zone_home c.args.geometry c.args.self.queue x c.requires.queue zone

pub add_descriptor-requires-clause-room : goal.add_descriptor-requires-clause-room
add_descriptor-requires-clause-room c =
    let n = c.self.inside in
    let copies : Items = copies_at c.args.geometry n.at.queue n.at.first (writes_of n.logged.items) in
    let directs : Items = directs_of c.args.geometry (writes_of n.direct.items) in
    let none : length n.items.items ≡ 0 = ap length c.self.invariant.none in
    let all : length c.add_copies.new.items.items ≡ length n.items.items + length copies = ap length c.add_copies.ensures.items ∙ length-append n.items.items copies in
    let both : length c.add_directs.new.items.items ≡ length c.add_copies.new.items.items + length directs = ap length c.add_directs.ensures.items ∙ length-append c.add_copies.new.items.items directs in
    let size = length_copies c.args.geometry n.at.queue n.at.first (writes_of n.logged.items) in
    let home = length_directs c.args.geometry (writes_of n.direct.items) in
    let long : vec_len c.add_directs.new.items ≡ length c.add_directs.new.items.items = search rules in
    let room = c.self.invariant.room in
    let more = c.add_copies.ensures.capacity in
    let most = c.add_directs.ensures.capacity in
    omega (arith, none, all, both, size, home, long, room, more, most)

pub add_descriptor-requires-clause-places : goal.add_descriptor-requires-clause-places
add_descriptor-requires-clause-places c =
    let n = c.self.inside in
    let inv = c.self.invariant in
    let copies : c.len-copies.result ≡ length n.logged.items = search rules in
    let logged : length (writes_of n.logged.items) ≡ length n.logged.items = length-map n.logged.items (λ (p : ShadowPage). (p.block, p.content)) in
    let count = counted (length (writes_of n.logged.items) + length n.descriptor.revoked) n.further inv.count in
    let fits = inv.place_fits in
    omega (arith, copies, logged, count, fits)

pub returns : goal.returns
returns c =
    let n = c.self.inside in
    let inv = c.self.invariant in
    let copies : c.len-copies.result ≡ length n.logged.items = search rules in
    let logged : length (writes_of n.logged.items) ≡ length n.logged.items = length-map n.logged.items (λ (p : ShadowPage). (p.block, p.content)) in
    let place : n.at.first + c.len-copies.result ≡ n.at.first + length (writes_of n.logged.items) = omega (arith, copies, logged) in
    let count = counted (length (writes_of n.logged.items) + length n.descriptor.revoked) n.further inv.count in
    let P : NumberedCommit → Type 0 = λ x. c.add_descriptor.new.items.items ≡ items_of c.args.geometry x in
    subst P c.self.view_is (items_made c.args.geometry (numbered_by (commit_with n.logged.items n.direct.items n.descriptor.revoked) n.number n.at n.block (bytes_in n.further)) n.items.items c.add_copies.new.items.items c.add_directs.new.items.items _ _ _ _ _
    inv.none c.add_copies.ensures.items c.add_directs.ensures.items c.add_descriptor.ensures place count refl refl)
