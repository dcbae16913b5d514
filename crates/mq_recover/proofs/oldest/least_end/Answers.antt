use Rattle.std.proofs.Common.{◌≡◌, ◌+◌, Option, MatchOption, sym, ◌∙◌, subst}
use Rattle.mq_recover.specs.Recover.{chain_at}
use Rattle.mq_recover.specs.Ends.{AreEmpty, IsLeast, EndsWith}
use Rattle.mq_recover.specs.declared.oldest.Least.{Least}
use Rattle.mq_recover.proofs.Ends.{read-chain, read-end, read-empty, first-end, skip-empty}
use Rattle.mq_recover.proofs.oldest.least_end.Goals as goal
use Rattle.mq_recover.proofs.oldest.least_end.Goals.{in-Some, in-None, in-Some-least, in_default}

pub loop-q-preserved : goal.loop-q-preserved
loop-q-preserved c =
    let chains = c.args.chains.now in
    let k = c.loop-q.q in
    let inv = c.loop-q.invariant in
    let read : c.deref.result.now ≡ chain_at chains k = read-chain chains k c.index-chains-q.result c.deref.result.now c.loop-q-test.true c.index-chains-q.is (c.deref.ensures.value ∙ c.chain.view_is) in
    let Ends : Option Least → _ = λ (o : Option Least). MatchOption o (AreEmpty (k + 1) chains) (IsLeast (k + 1) chains) in
    elim c.match-last.branch [
      | in-Some w ↦
          let ends : EndsWith (chain_at chains k) w.end.inside.number = read-end chains k c.deref.result.now w.in-Some.end.now _ read w.in-Some.ensures.value w.end.view_is in
          elim w.match-least.branch [
            | in-None w' ↦
                let empty : AreEmpty k chains = subst (λ (o : Option Least). MatchOption o (AreEmpty k chains) (IsLeast k chains)) w'.in-None.is inv in
                subst Ends (sym w.least-is) (subst (IsLeast (k + 1) chains) (sym w'.least-is) (first-end chains k w.end.inside.number empty ends))
            | in-Some-least w' ↦
                let least : IsLeast k chains w'.in-Some-least.least = subst (λ (o : Option Least). MatchOption o (AreEmpty k chains) (IsLeast k chains)) w'.in-Some-least.is inv in
                subst Ends (sym w.least-is) (subst (IsLeast (k + 1) chains) (sym w'.least-is) (w'.join.ensures chains least ends))
          ]
      | in_default w ↦
          subst Ends (sym w.least-is) (skip-empty chains k c.loop-q.least (read-empty chains k c.deref.result.now read w.in_default.ensures.value) inv)
    ]
