use Rattle.std.proofs.Common.{rules, ◌≡◌, ◌+◌, [], ◌∷◌, length, Some, ◌∙◌, ap, arith, length-append}
use Rattle.std.proofs.lemmas.List.Elements.{All-pop}
use Rattle.mq_drive.specs.Fuse.{above, below}
use Rattle.mq_drive.proofs.FuseCounts.{below-append, above-append}
use Rattle.mq_drive.proofs.FuseSteps.{joins}
use Rattle.mq_blocks.proofs.Totals.{total_last}
use Rattle.mq_drive.proofs.fuse.join_all.Goals as goal

pub join_seat-requires : goal.join_seat-requires
join_seat-requires c =
    let both = All-pop (λ s. s.place.table_id ≡ c.args.shared.now.table_id) c.loop-other.seats.items c.pop.new.self.items (Some c.in-Some.field-0) c.in-Some.ensures.items c.loop-other.invariant.theirs in
    (c.loop-other.invariant.table.0 ∙ c.requires.table.0, both.1, c.in-Some.field-0.bare, c.requires.table.1, joins c.args.shared.now.key.limit c.args.shared.now.key.seats _ _ _ _)

pub loop-other-preserved : goal.loop-other-preserved
loop-other-preserved c =
    let both = All-pop (λ s. s.place.table_id ≡ c.args.shared.now.table_id) c.loop-other.seats.items c.pop.new.self.items (Some c.in-Some.field-0) c.in-Some.ensures.items c.loop-other.invariant.theirs in
    let now = c.join_seat.ensures.2 in
    let was = c.loop-other.invariant in
    let few : length c.loop-other.seats.items ≡ length c.pop.new.self.items + 1 = ap length c.in-Some.ensures.items ∙ length-append c.pop.new.self.items (c.in-Some.field-0 ∷ []) in
    record {
      table = (search rules, search rules, search rules);
      theirs = both.0;
      count = let many = ap (λ m. m.0.seats) now in let one = c.in-Some.field-0.one in let count = was.count in omega (arith, many, one, few, count);
      below = λ n.
          let seat = ap (λ m. below n m.0.drawn) now in
          let sum = below-append n c.loop-other.place.me.0.drawn c.in-Some.field-0.place.me.0.drawn in
          let rest = total_last (λ s. below n s.place.me.0.drawn) c.loop-other.seats.items c.pop.new.self.items c.in-Some.field-0 c.in-Some.ensures.items in
          let old = was.below n in
          omega (arith, seat, sum, rest, old);
      above = λ n.
          let seat = ap (λ m. above n m.0.drawn) now in
          let sum = above-append n c.loop-other.place.me.0.drawn c.in-Some.field-0.place.me.0.drawn in
          let rest = total_last (λ s. above n s.place.me.0.drawn) c.loop-other.seats.items c.pop.new.self.items c.in-Some.field-0 c.in-Some.ensures.items in
          let old = was.above n in
          omega (arith, seat, sum, rest, old);
    }
