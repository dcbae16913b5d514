-- The order in which commands end does not matter where they write different blocks.
use Rattle.std.proofs.Common.{◌≡◌, ◌≢◌, ℕ, zero, suc, Bool, true, List, [], ◌∷◌, length, set, Option, Some, sym, ◌∙◌, ap, subst, arith}
use Rattle.std.specs.Prelude.{slice_get}
use Rattle.std.specs.List.{remove}
use Rattle.mq_blocks.specs.Drive.{PortState, counted, index_of, after_done}
use Rattle.mq_blocks.specs.declared.command.Command.{Command}
use Rattle.mq_drive.proofs.DriveCommands.{fewer}
use Rattle.mq_command_blocks.specs.Runs.{blocks_with, certain_with, IsApart, AreApart, after_all}
use Rattle.mq_command_blocks.proofs.Lists.{set-swap}

-- a command of the list is apart from what the whole list is apart from
pub apart_at : (at : ℕ → ℕ) (k : ℕ) (cs : List Command) (i : ℕ) (c : Command) → slice_get cs i ≡ Some c → IsApart at k cs → k ≢ at c.lba
apart_at at k [] i c is apart = cc
apart_at at k (d ∷ cs) zero c is apart = let same : d ≡ c = cc in λ equal. apart.0 (equal ∙ ap (λ (x : Command). at x.lba) (sym same))
apart_at at k (d ∷ cs) (suc i) c is apart = apart_at at k cs i c is apart.1

pub blocks_with-remove : (at : ℕ → ℕ) (blocks : List (Option (List ℕ))) (cs : List Command) (i : ℕ) (c : Command) → slice_get cs i ≡ Some c → AreApart at cs
    → blocks_with at (set blocks (at c.lba) (Some c.block)) (remove cs i) ≡ blocks_with at blocks cs
blocks_with-remove at blocks [] i c is apart = cc
blocks_with-remove at blocks (d ∷ cs) zero c is apart = let same : c ≡ d = cc in ap (λ (x : Command). blocks_with at (set blocks (at x.lba) (Some x.block)) cs) same
blocks_with-remove at blocks (d ∷ cs) (suc i) c is apart =
    ap (λ (l : List (Option (List ℕ))). blocks_with at l (remove cs i)) (set-swap blocks (at c.lba) (at d.lba) (Some c.block) (Some d.block) (λ same. apart_at at (at d.lba) cs i c is apart.0 (sym same)))
    ∙ blocks_with-remove at (set blocks (at d.lba) (Some d.block)) cs i c is apart.1

pub certain_with-remove : (at : ℕ → ℕ) (certain : List Bool) (cs : List Command) (i : ℕ) (c : Command) → slice_get cs i ≡ Some c → AreApart at cs
    → certain_with at (set certain (at c.lba) true) (remove cs i) ≡ certain_with at certain cs
certain_with-remove at certain [] i c is apart = cc
certain_with-remove at certain (d ∷ cs) zero c is apart = let same : c ≡ d = cc in ap (λ (x : Command). certain_with at (set certain (at x.lba) true) cs) same
certain_with-remove at certain (d ∷ cs) (suc i) c is apart =
    ap (λ (l : List Bool). certain_with at l (remove cs i)) (set-swap certain (at c.lba) (at d.lba) true true (λ same. apart_at at (at d.lba) cs i c is apart.0 (sym same)))
    ∙ certain_with-remove at (set certain (at d.lba) true) cs i c is apart.1

pub apart_from-remove : (at : ℕ → ℕ) (k : ℕ) (cs : List Command) (i : ℕ) → IsApart at k cs → IsApart at k (remove cs i)
apart_from-remove at k [] zero apart = tt
apart_from-remove at k [] (suc i) apart = tt
apart_from-remove at k (d ∷ cs) zero apart = apart.1
apart_from-remove at k (d ∷ cs) (suc i) apart = (apart.0, apart_from-remove at k cs i apart.1)

pub apart-remove : (at : ℕ → ℕ) (cs : List Command) (i : ℕ) → AreApart at cs → AreApart at (remove cs i)
apart-remove at [] zero apart = tt
apart-remove at [] (suc i) apart = tt
apart-remove at (d ∷ cs) zero apart = apart.1
apart-remove at (d ∷ cs) (suc i) apart = (apart_from-remove at (at d.lba) cs i apart.0, apart-remove at cs i apart.1)

-- what is left leads to the same end
pub after_all-done : (s : PortState) (i : ℕ) (c : Command) → slice_get s.posted i ≡ Some c → AreApart (index_of s) s.posted → after_all (after_done s i c) ≡ after_all s
after_all-done s i c is apart =
    let blocks = blocks_with-remove (index_of s) s.blocks s.posted i c is apart in
    let certain = certain_with-remove (index_of s) s.certain s.posted i c is apart in
    let left : suc (length (remove s.posted i)) ≡ length s.posted = omega (arith, fewer s i c is) in
    let events = ap (counted s.events) left in
    λ k. record s { posted = []; blocks = blocks k; certain = certain k; events = events k }

pub after_all-idle : (s : PortState) → s.posted ≡ [] → after_all s ≡ s
after_all-idle s none =
    let back = sym none in
    λ k. record s { posted = back k; blocks = blocks_with (index_of s) s.blocks (none k); certain = certain_with (index_of s) s.certain (none k); events = counted s.events (length (none k)) }

-- a state from which what is posted leads where it leads from the start
pub record Goes (start now : PortState) : Type 0 where
  pub end : after_all now ≡ after_all start
  pub apart : AreApart (index_of now) now.posted

pub goes_on : (start now new : PortState) (i : ℕ) (c : Command) → Goes start now → slice_get now.posted i ≡ Some c → new ≡ after_done now i c → Goes start new
goes_on start now new i c goes is moved = subst (Goes start) (sym moved) (record {
  end = after_all-done now i c is goes.apart ∙ goes.end;
  apart = apart-remove (index_of now) now.posted i goes.apart;
})
