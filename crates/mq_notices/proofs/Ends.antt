-- At the end nothing is left.
use Rattle.std.proofs.Common.{◌≡◌, ◌⊎◌, ℕ, ◌+◌, ◌<◌, List, [], ◌∷◌, ◌++◌, length, refl, ap, sym, subst, ◌∙◌, arith, ⊎_elim, inl, inr, append-nil, length-append}
use Rattle.std.proofs.lemmas.List.{length-map}
use Rattle.std.specs.Prelude.{Option, Some, None, true}
use Rattle.crossbeam_queue.specs.Passes.{view}
use Rattle.mq_notices.specs.Ends.{HasFinished, HasHelped, announced, pushed_by}
use Rattle.mq_notices.specs.Notices.{HasLast, Merged, all_of, notices_from, numbers_in, numbers_of, some_of}
use Rattle.mq_notices.specs.Rule.{AreTaken, log}
use Rattle.mq_notices.specs.declared.helper.HelperEnd.{HelperEnd}
use Rattle.mq_notices.specs.declared.line.Line.{Line}
use Rattle.mq_notices.specs.declared.notice.Notice.{Notice}
use Rattle.mq_notices.specs.declared.rule.Log.{Log}
use Rattle.mq_notices.specs.declared.session.SessionEnd.{SessionEnd}
use Rattle.mq_notices.proofs.Lists.{empty-of, last-is-last, merged-last, merged-length, merged-numbers, notices-length, numbers-from}

-- ---- what was pushed

all-length : (ns : List ℕ) → length (all_of ns) ≡ length ns + 1
all-length ns = length-append (some_of ns) (None ∷ []) ∙ ap (λ (k : ℕ). k + 1) (length-map ns (λ n. Some n))

pub some-length : (ns : List ℕ) → length (some_of ns) ≡ length ns
some-length ns = length-map ns (λ n. Some n)

pub numbers-all : (ns : List ℕ) → numbers_in (all_of ns) ≡ ns
numbers-all [] = refl
numbers-all (n ∷ ns) = ap (λ (l : List ℕ). n ∷ l) (numbers-all ns)

-- ---- what was taken

nothing-left : (ns : List ℕ) (mine theirs items : List Notice) (t : AreTaken (all_of ns) mine theirs items) → HasLast theirs ⊎ (length ns < length theirs) → items ≡ []
nothing-left ns mine theirs items t ended = ⊎_elim (λ l. last-is-last 0 ns t.taken items t.whole (merged-last t.merged l))
    (λ (most : length ns < length theirs).
    let a = merged-length t.merged in
    let b : length t.taken + length items ≡ length (notices_from 0 (all_of ns)) = sym (length-append t.taken items) ∙ ap length t.whole in
    let c = notices-length 0 (all_of ns) in
    let d = all-length ns in
    empty-of items (omega arith)) ended

pub all-taken : (ns : List ℕ) (mine theirs items : List Notice) → AreTaken (all_of ns) mine theirs items → HasLast theirs ⊎ (length ns < length theirs) → Merged mine theirs (notices_from 0 (all_of ns))
all-taken ns mine theirs items t ended =
    let none : items ≡ [] = nothing-left ns mine theirs items t ended in
    let whole : t.taken ≡ notices_from 0 (all_of ns) = sym (append-nil t.taken) ∙ ap (λ (l : List Notice). t.taken ++ l) (sym none) ∙ t.whole in
    subst (λ (l : List Notice). Merged mine theirs l) whole t.merged

pub taken-length : (ns : List ℕ) (mine theirs : List Notice) → Merged mine theirs (notices_from 0 (all_of ns)) → length mine + length theirs ≡ length ns + 1
taken-length ns mine theirs merged = merged-length merged ∙ notices-length 0 (all_of ns) ∙ all-length ns

pub numbers-taken : (ns : List ℕ) (mine theirs : List Notice) → Merged mine theirs (notices_from 0 (all_of ns)) → Merged (numbers_of mine) (numbers_of theirs) ns
numbers-taken ns mine theirs merged = subst (λ (l : List ℕ). Merged (numbers_of mine) (numbers_of theirs) l) (numbers-from 0 (all_of ns) ∙ numbers-all ns) (merged-numbers merged)

-- what is learned once the two passes are one
pub ended-merged : (l : Line) (s : SessionEnd) (h : HelperEnd) (items : List Notice) (p : Log) → HasFinished l s → HasHelped l h → p ≡ log true true (view s.pass).pushed (view s.pass).mine (view h.pass).theirs → AreTaken p.pushed p.mine p.theirs items → Merged s.taken.items h.taken.items (notices_from 0 (all_of (announced s)))
ended-merged l s h items p finished helped both taken =
    let seen : AreTaken (pushed_by s) (view s.pass).mine (view h.pass).theirs items = subst (λ (v : Log). AreTaken v.pushed v.mine v.theirs items) both taken in
    let whole : AreTaken (all_of (announced s)) (view s.pass).mine (view h.pass).theirs items = subst (λ (os : List (Option ℕ)). AreTaken os (view s.pass).mine (view h.pass).theirs items) finished.pushed seen in
    let mine : AreTaken (all_of (announced s)) s.taken.items (view h.pass).theirs items = subst (λ (xs : List Notice). AreTaken (all_of (announced s)) xs (view h.pass).theirs items) finished.work.taken whole in
    let theirs : AreTaken (all_of (announced s)) s.taken.items h.taken.items items = subst (λ (xs : List Notice). AreTaken (all_of (announced s)) s.taken.items xs items) helped.helping.taken mine in
    let few = finished.few in
    let ended : HasLast h.taken.items ⊎ (length (announced s) < length h.taken.items) = ⊎_elim (λ last. inl last) (λ most. inr (omega arith)) helped.ended in
    all-taken (announced s) s.taken.items h.taken.items items theirs ended
