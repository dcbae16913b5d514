-- Posted commands that have ended, and what they leave as it was.
use Rattle.std.proofs.Common.{◌≡◌, ◌≢◌, ℕ, ◌+◌, Bool, true, false, List, [], ◌∷◌, ◌++◌, length, set, get_or, Option, Some, refl, sym, ◌∙◌, ap, subst, arith}
use Rattle.std.specs.Prelude.{slice_get}
use Rattle.std.specs.List.{remove}
use Rattle.std.proofs.Math.ListN.{length-set}
use Rattle.std.proofs.lemmas.List.{get_or-set_other}
use Rattle.mq_blocks.specs.Blocks.{block_at}
use Rattle.mq_blocks.specs.Drive.{PortState, counted, index_of, after_done, after_failed}
use Rattle.mq_blocks.specs.declared.command.Command.{Command}
use Rattle.mq_drive.proofs.DriveCommands.{fewer}
use Rattle.mq_command_blocks.specs.Cuts.{HasEnded}
use Rattle.mq_command_blocks.specs.Runs.{IsApart, blocks_with, certain_with, after_all}
use Rattle.mq_command_blocks.proofs.CutsEvents.{counted-counted}
use Rattle.mq_command_blocks.proofs.RunsEnding.{apart_at, apart_from-remove}
use Rattle.mq_command_blocks.proofs.RunsJournalItems.{block_at-set_other, length-blocks_with, length-certain_with}

pub ended_none : (s : PortState) → HasEnded s s 0
ended_none s = record {
  is = refl;
  left = omega arith;
  posted = λ k apart. apart;
  blocks = λ k apart. refl;
  certain = λ k apart. refl;
  blocks_len = refl;
  certain_len = refl;
}

-- what a command that ends leaves as it was
ended_other : (s t : PortState) (n i k : ℕ) (c : Command) → HasEnded s t n → slice_get t.posted i ≡ Some c → IsApart (index_of s) k s.posted → k ≢ index_of t c.lba
ended_other s t n i k c ended is apart =
    let at : index_of t ≡ index_of s = ap index_of ended.is in
    subst (λ (f : ℕ → ℕ). k ≢ f c.lba) (sym at) (apart_at (index_of s) k t.posted i c is (ended.posted k apart))

pub ended_done : (s t u : PortState) (n i : ℕ) (c : Command) → HasEnded s t n → slice_get t.posted i ≡ Some c → u ≡ after_done t i c → HasEnded s u (n + 1)
ended_done s t u n i c ended is moved =
    let rest : List Command = remove t.posted i in
    let blocks : List (Option (List ℕ)) = set t.blocks (index_of t c.lba) (Some c.block) in
    let certain : List Bool = set t.certain (index_of t c.lba) true in
    let less : length rest + 1 ≡ length t.posted = fewer t i c is in
    subst (λ (v : PortState). HasEnded s v (n + 1)) (sym moved) (record {
      is = ap (λ (v : PortState). record v { posted = rest; failed = t.failed; blocks = blocks; certain = certain; events = counted v.events 1 }) ended.is
          ∙ ap (λ (m : ℕ). record s { posted = rest; failed = t.failed; blocks = blocks; certain = certain; events = m }) (counted-counted s.events n 1);
      left = omega (arith, less, ended.left);
      posted = λ k apart. apart_from-remove (index_of s) k t.posted i (ended.posted k apart);
      blocks = λ k apart. block_at-set_other t.blocks (index_of t c.lba) c.block k (ended_other s t n i k c ended is apart) ∙ ended.blocks k apart;
      certain = λ k apart. get_or-set_other t.certain (index_of t c.lba) k true false (ended_other s t n i k c ended is apart) ∙ ended.certain k apart;
      blocks_len = length-set t.blocks (index_of t c.lba) (Some c.block) ∙ ended.blocks_len;
      certain_len = length-set t.certain (index_of t c.lba) true ∙ ended.certain_len;
    })

pub ended_failed : (s t u : PortState) (n i : ℕ) (c : Command) → HasEnded s t n → slice_get t.posted i ≡ Some c → u ≡ after_failed t i c → HasEnded s u (n + 1)
ended_failed s t u n i c ended is moved =
    let rest : List Command = remove t.posted i in
    let certain : List Bool = set t.certain (index_of t c.lba) false in
    let less : length rest + 1 ≡ length t.posted = fewer t i c is in
    subst (λ (v : PortState). HasEnded s v (n + 1)) (sym moved) (record {
      is = ap (λ (v : PortState). record v { posted = rest; failed = t.failed ++ c ∷ []; blocks = t.blocks; certain = certain; events = counted v.events 1 }) ended.is
          ∙ ap (λ (m : ℕ). record s { posted = rest; failed = t.failed ++ c ∷ []; blocks = t.blocks; certain = certain; events = m }) (counted-counted s.events n 1);
      left = omega (arith, less, ended.left);
      posted = λ k apart. apart_from-remove (index_of s) k t.posted i (ended.posted k apart);
      blocks = ended.blocks;
      certain = λ k apart. get_or-set_other t.certain (index_of t c.lba) k false false (ended_other s t n i k c ended is apart) ∙ ended.certain k apart;
      blocks_len = ended.blocks_len;
      certain_len = length-set t.certain (index_of t c.lba) false ∙ ended.certain_len;
    })

blocks_apart : (at : ℕ → ℕ) (blocks : List (Option (List ℕ))) (cs : List Command) (k : ℕ) → IsApart at k cs → block_at (blocks_with at blocks cs) k ≡ block_at blocks k
blocks_apart at blocks [] k apart = refl
blocks_apart at blocks (c ∷ cs) k apart = blocks_apart at (set blocks (at c.lba) (Some c.block)) cs k apart.1 ∙ block_at-set_other blocks (at c.lba) c.block k apart.0

certain_apart : (at : ℕ → ℕ) (certain : List Bool) (cs : List Command) (k : ℕ) → IsApart at k cs → get_or (certain_with at certain cs) k false ≡ get_or certain k false
certain_apart at certain [] k apart = refl
certain_apart at certain (c ∷ cs) k apart = certain_apart at (set certain (at c.lba) true) cs k apart.1 ∙ get_or-set_other certain (at c.lba) k true false apart.0

pub ended_all : (s : PortState) → HasEnded s (after_all s) (length s.posted)
ended_all s = record {
  is = refl;
  left = omega arith;
  posted = λ k apart. tt;
  blocks = blocks_apart (index_of s) s.blocks s.posted;
  certain = certain_apart (index_of s) s.certain s.posted;
  blocks_len = length-blocks_with (index_of s) s.blocks s.posted;
  certain_len = length-certain_with (index_of s) s.certain s.posted;
}
