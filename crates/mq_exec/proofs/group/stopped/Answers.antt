use Rattle.std.proofs.Common.{ℕ, List, sym, subst}
use Rattle.std.proofs.lemmas.List.Filters.{dedup_is}
use Rattle.std.proofs.lemmas.List.Kept.{AllPairs-from_increasing, Contains-dedup_nat, Contains-from_dedup}
use Rattle.std.proofs.lemmas.List.Sorted.{Contains-permutation, IsPermutation-sym}
use Rattle.std.proofs.lemmas.Map.Keys.{IsStrictlyIncreasing-dedup}
use Rattle.mq_exec.specs.Outcomes.{AreEachOnce, NeedsOf}
use Rattle.mq_exec.specs.declared.outcome.Outcome.TheVariants.{Need}
use Rattle.mq_inodes.specs.declared.lack.Missing.{Missing}
use Rattle.mq_exec.proofs.group.stopped.Goals as goal

pub returns-in-Need : goal.returns-in-Need
returns-in-Need c =
    let is = dedup_is _ _ _ c.dedup.ensures.filtered in
    let moved = c.sort_unstable.ensures.permutation in
    let once : AreEachOnce c.append.new.self.items c.dedup.new.self.items = record {
      rise = rw is (AllPairs-from_increasing _ (IsStrictlyIncreasing-dedup _ c.sort_unstable.ensures.sorted));
      all = λ b h. rw is (Contains-dedup_nat _ b (Contains-permutation _ _ b moved h));
      only = λ b h. Contains-permutation _ _ b (IsPermutation-sym _ _ moved) (Contains-from_dedup _ _ b (rw is at h));
    } in
    subst (λ (lack : Missing). NeedsOf lack c.args.ahead.items (Need c.dedup.new.self)) (sym c.in-Need.is) (subst (λ (xs : List ℕ). AreEachOnce xs c.dedup.new.self.items) c.in_ok-append-in-Need.ensures.items once)
