use Rattle.std.proofs.Common.{◌≡◌, ◌++◌, List, ℕ, sym, subst}
use Rattle.std.specs.List.{Contains}
use Rattle.std.proofs.lemmas.List.Elements.{Contains-append_cases, Contains-append_left, Contains-append_right}
use Rattle.std.proofs.lemmas.List.Filters.{dedup_is}
use Rattle.std.proofs.lemmas.List.Kept.{AllPairs-from_increasing, Contains-dedup_nat, Contains-from_dedup}
use Rattle.std.proofs.lemmas.List.Sorted.{Contains-permutation, IsPermutation-sym}
use Rattle.std.proofs.lemmas.Map.Keys.{IsStrictlyIncreasing-dedup}
use Rattle.mq_sessions.proofs.wanted.add.Goals as goal

pub returns-clause-ok : goal.returns-clause-ok
returns-clause-ok c =
    let is = dedup_is _ _ _ c.dedup.ensures.filtered in
    let moved = c.sort_unstable.ensures.permutation in
    let put : c.extend_from_slice.new.self.items ≡ c.args.wanted.now.items ++ c.args.blocks.now = c.in_ok-extend_from_slice.ensures.items in
    let into : (b : ℕ) → Contains (c.args.wanted.now.items ++ c.args.blocks.now) b → Contains c.dedup.new.self.items b = λ b h. rw is (Contains-dedup_nat _ b (Contains-permutation _ _ b moved (subst (λ (xs : List ℕ). Contains xs b) (sym put) h))) in
    record {
      rise = rw is (AllPairs-from_increasing _ (IsStrictlyIncreasing-dedup _ c.sort_unstable.ensures.sorted));
      first = λ b h. into b (Contains-append_left c.args.wanted.now.items c.args.blocks.now b h);
      second = λ b h. into b (Contains-append_right c.args.wanted.now.items c.args.blocks.now b h);
      only = λ b h. Contains-append_cases c.args.wanted.now.items c.args.blocks.now b (subst (λ (xs : List ℕ). Contains xs b) put (Contains-permutation _ _ b (IsPermutation-sym _ _ moved) (Contains-from_dedup _ _ b (rw is at h))));
    }
