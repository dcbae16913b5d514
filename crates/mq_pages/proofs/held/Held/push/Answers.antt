use Rattle.std.proofs.Common.{◌≡◌, ◌++◌, ◌∷◌, [], rules, subst, sym, arith}
use Rattle.std.proofs.lemmas.List.{length_push}
use Rattle.mq_pages.specs.Held.{HeldCells, IsAboveLast}
use Rattle.mq_pages.proofs.HeldCells.{rising-push}
use Rattle.mq_pages.proofs.held.Held.push.Goals as goal

pub invariant_of-self : goal.invariant_of-self
invariant_of-self c =
    let items : c.push.new.self.items ≡ c.self.inside.cells.items ++ (c.args.b, c.args.cell) ∷ [] = search rules in
    let above = subst (λ (h : HeldCells). IsAboveLast c.args.b h.cells) (sym c.self.view_is) c.requires.above in
    record {
      fits = rw items (grind (arith, length_push c.self.inside.cells.items (c.args.b, c.args.cell), c.requires.room, c.self.view_is));
      reserved = omega (arith, c.in-Ok.ensures.capacity, c.self.invariant.reserved);
      rising = rw items (rising-push c.args.b c.args.cell _ c.self.invariant.rising above);
    }
