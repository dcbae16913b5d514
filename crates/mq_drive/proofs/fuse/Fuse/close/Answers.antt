use Rattle.std.proofs.Common.{rules, ◌≡◌, ◌<◌, ◌+◌, ℕ, [], ◌∷◌, length, min, Some, subst, sym, ◌∙◌, ap, arith, length-append}
use Rattle.mq_drive.specs.Fuse.{above, below}
use Rattle.mq_drive.specs.Seats.{tickets_of}
use Rattle.mq_drive.proofs.FuseSteps.{ends}
use Rattle.mq_blocks.proofs.Totals.{total_last}
use Rattle.mq_drive.proofs.Totals.{total_contains}
use Rattle.mq_drive.proofs.fuse.Fuse.close.Goals as goal

-- all seats are one
whole : (c : goal.After-min) → c.join_all.new.place.me.0.seats ≡ c.args.self.table.shared.key.seats
whole c =
    let count = c.join_all.ensures.seats in
    let few : length c.args.seats.items ≡ length c.pop.new.self.items + 1 = ap length c.in-Some.ensures.items ∙ length-append c.pop.new.self.items (c.in-Some.seat ∷ []) in
    let one = c.in-Some.seat.one in
    let all = c.requires.all in
    omega (arith, count, few, one, all)

-- what the joined seat's tickets say, where the limit is l
ended : (c : goal.After-min) (l : ℕ) → c.args.self.limit ≡ Some l
    → (below l c.join_all.new.place.me.0.drawn ≡ min l c.word-drawn.result) × (0 < above l c.join_all.new.place.me.0.drawn → l < c.word-drawn.result) × (c.in-Some-limit.limit ≡ l)
ended c l is =
    let key = c.args.self.rated l is in
    let end = ends c.args.self.table.shared.key.limit c.args.self.table.shared.key.seats _ _ _ _ c.word-drawn.result c.close_with-closed.ensures.values.2 (whole c) c.word-drawn.ensures in (
      ap (λ (n : ℕ). below n c.join_all.new.place.me.0.drawn) (sym key) ∙ end.0 ∙ ap (λ (n : ℕ). min n c.word-drawn.result) key,
      (λ over. let more = end.1 (subst (λ (n : ℕ). 0 < above n c.join_all.new.place.me.0.drawn) (sym key) over) in omega (arith, more, key)),
      search rules,
    )

pub returns-in-Some-limit-clause-happened : goal.returns-in-Some-limit-clause-happened
returns-in-Some-limit-clause-happened c = λ l is.
    let end = ended c l is in
    let mine = end.0 in
    let same = end.2 in
    let joined = c.join_all.ensures.below l in
    let sum = total_last (λ s. below l (tickets_of s)) c.args.seats.items c.pop.new.self.items c.in-Some.seat c.in-Some.ensures.items in
    let least : c.min.result ≡ min c.word-drawn.result c.in-Some-limit.limit = c.min.ensures in
    omega (arith, mine, same, joined, sum, least)

pub returns-in-Some-limit-clause-off : goal.returns-in-Some-limit-clause-off
returns-in-Some-limit-clause-off c = λ l s is has over.
    let end = ended c l is in
    let same = end.2 in
    let joined = c.join_all.ensures.above l in
    let sum = total_last (λ s. above l (tickets_of s)) c.args.seats.items c.pop.new.self.items c.in-Some.seat c.in-Some.ensures.items in
    let one = total_contains (λ s. above l (tickets_of s)) c.args.seats.items s has in
    let more = end.1 (omega (arith, joined, sum, one, over)) in
    let least : c.min.result ≡ min c.word-drawn.result c.in-Some-limit.limit = c.min.ensures in
    omega (arith, same, more, least)
