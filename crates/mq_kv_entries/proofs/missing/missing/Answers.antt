use Rattle.std.proofs.lemmas.List.Filters.{dedup_is}
use Rattle.std.proofs.lemmas.List.Kept.{AllPairs-from_increasing, Contains-dedup_nat, Contains-from_dedup}
use Rattle.std.proofs.lemmas.List.Sorted.{Contains-permutation, IsPermutation-sym}
use Rattle.std.proofs.lemmas.Map.Keys.{IsStrictlyIncreasing-dedup}
use Rattle.mq_kv_entries.proofs.missing.missing.Goals as goal

pub returns : goal.returns
returns c =
    let is = dedup_is _ _ _ c.dedup.ensures.filtered in
    let moved = c.sort_unstable.ensures.permutation in
    let lacking = c.in_ok-blocks.ensures in
    record {
      rise = rw is (AllPairs-from_increasing _ (IsStrictlyIncreasing-dedup _ c.sort_unstable.ensures.sorted));
      lacking = record {
        all = λ b looks none. rw is (Contains-dedup_nat _ b (Contains-permutation _ _ b moved (lacking.all b looks none)));
        only = λ b h. lacking.only b (Contains-permutation _ _ b (IsPermutation-sym _ _ moved) (Contains-from_dedup _ _ b (rw is at h)));
      };
    }
