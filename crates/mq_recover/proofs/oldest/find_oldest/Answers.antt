use Rattle.std.proofs.Common.{Option, MatchOption, length, subst, ℕ}
use Rattle.mq_recover.specs.Ends.{IsAlone, IsNext, IsLeast}
use Rattle.mq_recover.proofs.oldest.find_oldest.Goals as goal

pub returns-in-None-clause-oldest : goal.returns-in-None-clause-oldest
returns-in-None-clause-oldest c =
    let chains = c.args.chains.now in
    let l = c.in-Some.least in
    let is : IsLeast (length chains) chains l = c.in-Some.ensures in
    record {
      number = l.number;
      within = is.within;
      ends = is.ends;
      least = is.least;
      alone = subst (λ (o : Option ℕ). MatchOption o (IsAlone (length chains) chains l.number l.first) (IsNext (length chains) chains l.number l.first)) c.in-None.is is.second;
    }

pub returns-in-Some-second-clause-twice : goal.returns-in-Some-second-clause-twice
returns-in-Some-second-clause-twice c =
    let chains = c.args.chains.now in
    let l = c.in-Some.least in
    let is : IsLeast (length chains) chains l = c.in-Some.ensures in
    record {
      ends = is.ends;
      least = is.least;
      next = subst (λ (o : Option ℕ). MatchOption o (IsAlone (length chains) chains l.number l.first) (IsNext (length chains) chains l.number l.first)) c.in-Some-second.is is.second;
    }
