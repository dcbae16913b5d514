use Rattle.std.proofs.Common.{rules, arith, ◌∷◌, suc, ap, ◌∙◌, subst, Some}
use Rattle.atomic_table.specs.Table.{rest}
use Rattle.mq_turns.specs.Desk.{Sees}
use Rattle.mq_turns.proofs.DeskSeen.{sees_hand}
use Rattle.mq_turns.proofs.DeskKeeping.{reaches, frees_turn}
use Rattle.mq_turns.proofs.steps.give_back.Goals as goal

pub load-requires : goal.load-requires
load-requires g c = (search rules, omega arith, reaches g.M.Machine.meaning _ _ _ _ _ _ c.requires.table.1 c.requires.holds.0 c.requires.holds.3 c.requires.holds.1)

pub store-requires : goal.store-requires
store-requires g c =
    let was = c.load.ensures.2 in
    let now = c.exchange-empty.ensures.3 in
    let view = ap (λ m. m.0) now ∙ ap (λ m. m.0) was in
    let parts = ap (λ v. v.parts) view in
    let live = c.requires.holds.2 in (
      search rules,
      omega arith,
      frees_turn g.M.Machine.meaning _ _ _ _ _ _ c.args.item c.requires.table.1 (ap (λ v. v.hand) view) (omega arith)
          (λ K s. c.requires.stands K (sees_hand g.M.Machine.meaning (suc c.args.slot) K c.args.place.now.me.0 (subst (λ v. Sees g.M.Machine.meaning v K) view s)))
          (ap (λ m. m.1) now ∙ ap (λ m. (c.args.slot, Some c.args.item) ∷ rest m.1) was),
    )
