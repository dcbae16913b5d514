use Rattle.std.proofs.Common.{rules, arith, ◌≡◌, ◌∷◌, [], sym, ap, ◌∙◌, subst, Some, None}
use Rattle.atomic_table.specs.Table.{rest}
use Rattle.mq_turns.specs.Desk.{opening_of, turn_at, Stands}
use Rattle.mq_turns.proofs.DeskKeeping.{takes_turn, settles}
use Rattle.mq_turns.proofs.steps.try_take.Goals as goal

pub swap-requires : goal.swap-requires
swap-requires g c = (search rules, omega arith, takes_turn g.M.Machine.meaning _ _ _ _ _ _ c.requires.table.1 c.requires.idle.0 c.requires.idle.1 c.requires.idle.2)

pub exchange-requires : goal.exchange-requires
exchange-requires g c = let t = c.swap.ensures.2.0 c.if-swap-eq0.true in let carried = ap (λ m. m.1) t.2 in
    (search rules, (Some t.0, carried ∙ ap (λ cs. (c.args.slot, Some t.0) ∷ rest cs) (sym carried)))

pub load-requires : goal.load-requires
load-requires g c = let t = c.swap.ensures.2.0 c.if-swap-eq0.true in let now = c.exchange.ensures.3 in (
  search rules,
  omega arith,
  settles g.M.Machine.meaning (opening_of c.args.top.now.key) _ _ _ _ _ c.requires.table.1 (ap (λ m. m.0.hand) now ∙ ap (λ m. m.0.hand) t.2) (ap (λ m. m.1) now ∙ ap (λ m. (c.args.slot, None) ∷ rest m.1) t.2),
)

pub returns-then-swap-eq0-clause-some : goal.returns-then-swap-eq0-clause-some
returns-then-swap-eq0-clause-some g c =
    let t = c.swap.ensures.2.0 c.if-swap-eq0.true in
    let view = ap (λ m. m.0) c.exchange.ensures.3 ∙ ap (λ m. m.0) t.2 in
    let same : t.0 ≡ c.unwrap-item.result = search rules in (
      t.1,
      c.load.ensures.2 ∙ ap (λ v. (record v { hand = 0 }, [])) view,
      t.3,
      subst (Stands g.M.Machine.meaning (turn_at t.1.opening c.args.slot) t.1) same t.4,
    )
