-- Commands in order of count.
use Rattle.std.proofs.Common.{◌≡◌, ◌<◌, ◌≤◌, ℕ, ◌+◌, List, [], ◌∷◌, ◌++◌, length, zero, suc, All, Option, Some, None, is_some, refl, sym, ap, subst, arith, true≢false}
use Rattle.std.proofs.lemmas.List.{append-nil}
use Rattle.std.proofs.lemmas.List.Edits.{length-remove}
use Rattle.std.proofs.lemmas.List.Elements.{All-cons, All-rest}
use Rattle.std.proofs.lemmas.Option.{slice_get_within}
use Rattle.std.specs.List.{remove}
use Rattle.std.specs.Prelude.{slice_get}
use Rattle.mq_blocks.specs.Drive.{AreCounted, PortState}
use Rattle.mq_blocks.specs.declared.command.Command.{Command}
use Rattle.mq_blocks.proofs.DriveCounts.{counted_high, counted_append}

pub counted_one : (low at : ℕ) (cs : List Command) (c : Command) → low ≤ at → c.count ≡ at → AreCounted low at cs → AreCounted low (at + 1) (cs ++ c ∷ [])
counted_one low at cs c below is counted = counted_append low at (at + 1) cs (c ∷ []) below (omega arith) counted (omega arith, (omega arith, tt))

pub counted_ring : (low mid : ℕ) (xs ys : List Command) → (0 < length ys → low ≤ mid) → AreCounted low mid xs → AreCounted mid (mid + length ys) ys → AreCounted low (mid + length ys) (xs ++ ys)
counted_ring low mid xs [] below first second = subst (AreCounted low (mid + 0)) (sym (append-nil xs)) (counted_high low mid (mid + 0) xs (omega arith) first)
counted_ring low mid xs (y ∷ ys) below first second =
    counted_append low mid (mid + length (y ∷ ys)) xs (y ∷ ys) (below (omega arith)) (omega arith) first second

-- ---- one command is taken out

pub fewer : (s : PortState) (i : ℕ) (c : Command) → slice_get s.posted i ≡ Some c → length (remove s.posted i) + 1 ≡ length s.posted
fewer s i c is = length-remove s.posted i (slice_get_within s.posted i c is)

pub all_remove : (P : Command → Type 0) (at : ℕ) (cs : List Command) → All P cs → All P (remove cs at)
all_remove P zero [] all = all
all_remove P zero (c ∷ cs) all = All-rest P c cs (c ∷ cs) refl all
all_remove P (suc at) [] all = all
all_remove P (suc at) (c ∷ cs) all = All-cons P c (remove cs at) (all 0 c (omega arith)) (all_remove P at cs (All-rest P c cs (c ∷ cs) refl all))

value_or : Command → Option Command → Command
value_or d None = d
value_or d (Some c) = c

pub all_at : (P : Command → Type 0) (cs : List Command) (at : ℕ) (x : Command) → slice_get cs at ≡ Some x → All P cs → P x
unfolding value_or
all_at P [] at x is all = absurd (true≢false (sym (ap is_some is)))
all_at P (c ∷ cs) zero x is all = subst P (ap (value_or c) is) (all 0 c (omega arith))
all_at P (c ∷ cs) (suc at) x is all = all_at P cs at x is (All-rest P c cs (c ∷ cs) refl all)
