use Rattle.std.proofs.Common.{◌≡◌, ◌+◌, List, length, sym, ap, subst, ◌∙◌, arith}
use Rattle.std.specs.List.{All}
use Rattle.std.proofs.lemmas.List.{length_push}
use Rattle.std.proofs.lemmas.List.Elements.{All-push}
use Rattle.mq_pages.specs.declared.held.Held.{Held}
use Rattle.mq_revoke.specs.declared.placement.Placement.{Placement}
use Rattle.mq_sessions.specs.Seats.{IsEquipped}
use Rattle.mq_sessions.proofs.seats.equip.Goals as goal

pub loop-preserved : goal.loop-preserved
loop-preserved c =
    let i = c.loop.invariant in
    let more : length c.push_reserved.new.self.items ≡ length c.loop.kits.items + 1 = ap length c.push_reserved.ensures.items ∙ length_push c.loop.kits.items _ in
    let same = c.push_reserved.ensures.capacity in
    let room = c.in_ok-held.ensures.room in
    let homes = c.homes.ensures in
    let equipped : IsEquipped c.args.geometry c.in_ok-held.held = record { none = c.in_ok-held.ensures.empty; room = omega arith } in
    record {
      count = let k = i.count in omega arith;
      room = let k = i.room in omega arith;
      each = subst (λ (kits : List (Held × Placement)). All (λ kit. IsEquipped c.args.geometry kit.0) kits) (sym c.push_reserved.ensures.items) (All-push (λ (kit : Held × Placement). IsEquipped c.args.geometry kit.0) c.loop.kits.items _ i.each equipped);
    }
