-- What the entries of a transaction say once they are rung.
use Rattle.std.proofs.Common.{◌≡◌, ◌≢◌, ◌<◌, ◌≤◌, ◌⊎◌, inl, inr, ⊎_elim, ℕ, ◌+◌, ◌-◌, ◌%◌, List, [], ◌∷◌, length, set, get_or, Some, sym, ◌∙◌, ap, arith}
use Rattle.std.proofs.Math.ListN.{length-set}
use Rattle.std.proofs.lemmas.Bool.{cases_eq}
use Rattle.std.proofs.lemmas.Grind.{get_or-set_at}
use Rattle.std.proofs.lemmas.Nat.{mod_below}
use Rattle.mq_nvme.proofs.Says.{says-entry}
use Rattle.mq_nvme.specs.Says.{says}
use Rattle.mq_blocks.specs.Drive.{PortState, IsQuiescent, staged_end}
use Rattle.mq_blocks.specs.Limits.{depth}
use Rattle.mq_blocks.specs.Geometry.{area_lba}
use Rattle.mq_blocks.specs.Journal.{number_limit}
use Rattle.mq_blocks.specs.Machine.{Writes}
use Rattle.mq_blocks.specs.declared.geometry.Geometry.{Geometry}
use Rattle.mq_drive.specs.Start.{IsPortOf}
use Rattle.mq_drive.specs.declared.role.Role.TheVariants.{Queue}
use Rattle.mq_command_blocks.specs.Commits.{items_from}
use Rattle.mq_command_blocks.specs.Cuts.{IsRung}
use Rattle.mq_pmr.specs.Runs.{Items, is_last, entry_at, slots_with}
use Rattle.mq_command_blocks.proofs.Cuts.{slots_other, few_commands, start}
use Rattle.mq_command_blocks.proofs.RunsJournalItems.{length-items, last_lba, last_slot}
use Rattle.mq_command_blocks.proofs.CommitsShows.{AreReadable}

-- an entry of the transaction
abbrev IsEntry : Geometry → ℕ → ℕ → List ℕ → Type 0
IsEntry g tx c entry = (place : ℕ) × (rest : Items) × (entry ≡ entry_at tx c (area_lba g 0 place) rest)

-- each slot that the items take has the entry of one
each_slot : (g : Geometry) (slots : List (List ℕ)) (tx at place : ℕ) (block : List ℕ) (ws : Writes) (c : ℕ) → length slots ≡ depth → length ws ≤ 256 → at ≤ c → c ≤ at + length ws
    → IsEntry g tx c (get_or (slots_with slots tx at (length (items_from g place block ws)) (items_from g place block ws)) (c % depth) [])
each_slot g slots tx at place block [] c ring few low high =
    let here : c ≡ at = omega arith in (
      place,
      [],
      get_or-set_at slots (at % depth) (c % depth) (entry_at tx at (area_lba g 0 place) []) [] (ap (λ (n : ℕ). n % depth) here) (omega arith)
          ∙ (λ i. entry_at tx (sym here i) (area_lba g 0 place) []),
    )
each_slot g slots tx at place block (w ∷ ws) c ring few low high = ⊎_elim
    (λ here.
    let rest : Items = items_from g (place + 1) block ws in
    let first : List ℕ = entry_at tx at (area_lba g 0 place) rest in
    let more = few_commands tx (at + 1) (length rest) rest in
    let long = length-items g (place + 1) block ws in
    let same : c ≡ at = here in (
      place,
      rest,
      slots_other (set slots (at % depth) first) tx (at + 1) (length rest) (c % depth) rest (λ d above below clash. omega arith)
          ∙ get_or-set_at slots (at % depth) (c % depth) first [] (ap (λ (n : ℕ). n % depth) same) (omega arith)
          ∙ (λ i. entry_at tx (sym same i) (area_lba g 0 place) rest),
    ))
    (λ later. let ne : c ≢ at = later in
    each_slot g (set slots (at % depth) (entry_at tx at (area_lba g 0 place) (items_from g (place + 1) block ws))) tx (at + 1) (place + 1) block ws c
    (length-set slots (at % depth) (entry_at tx at (area_lba g 0 place) (items_from g (place + 1) block ws)) ∙ ring) (omega arith) (omega arith) (omega arith))
    (cases_eq c at)

says_entry : (g : Geometry) (tx c place : ℕ) (rest : Items) → 1 ≤ tx → tx ≤ number_limit → says (entry_at tx c (area_lba g 0 place) rest) ≡ Some (tx, area_lba g 0 place, is_last rest)
says_entry g tx c place rest low high = says-entry _ record {
  slot = mod_below c depth (omega arith);
  tx_low = low;
  tx_high = omega arith;
  lba = let small : place % g.area < g.area = mod_below place g.area (let area = g.area_low in omega arith) in let area = g.area_high in omega arith;
}

-- nothing is rung above the head
pub readable_still : (s new : PortState) → s.head ≡ s.doorbell → s.doorbell ≤ number_limit → new.doorbell ≡ s.doorbell → AreReadable s new
readable_still s new done low same = record {
  order = omega arith;
  few = omega arith;
  low = omega arith;
  flushed = λ c from below. absurd (omega arith);
  each = λ c from below. absurd (omega arith);
  last = λ more. absurd (omega arith);
}

-- between a ring of the transaction and the store of the head its entries are readable
pub readable : (g : Geometry) (s new : PortState) (tx place : ℕ) (block : List ℕ) (ws : Writes) → IsPortOf g (Queue 0) s → IsQuiescent s → s.head ≡ s.doorbell → 1 ≤ tx → tx ≤ number_limit → length ws ≤ 256
    → s.doorbell + length ws + 1 ≤ number_limit → (new.doorbell ≡ s.doorbell) ⊎ IsRung s new tx (items_from g place block ws) → AreReadable s new
readable g s new tx place block ws port quiet done low high few end (inl same) = readable_still s new done (omega arith) same
readable g s new tx place block ws port quiet done low high few end (inr rung) =
    let items : Items = items_from g place block ws in
    let at : staged_end s ≡ s.doorbell = start s tx items quiet in
    let bell : new.doorbell ≡ s.doorbell + length items = rung.doorbell in
    let long : length items ≡ length ws + 1 = length-items g place block ws in
    record {
      order = omega arith;
      few = omega arith;
      low = omega arith;
      flushed = λ c from below. rung.flushed (c % depth);
      each = λ c from below.
          let entry = each_slot g s.staged tx (staged_end s) place block ws c port.staged few (omega arith) (omega arith) in
          ((tx, area_lba g 0 entry.0, is_last entry.1), ap (λ (slots : List (List ℕ)). says (get_or slots (c % depth) [])) rung.slots ∙ ap says entry.2 ∙ says_entry g tx c entry.0 entry.1 low high, high);
      last = λ more.
          let before : new.doorbell - 1 ≡ staged_end s + length ws = omega arith in (
            tx,
            last_lba g place ws,
            (λ i. says (get_or (rung.slots i) (before i % depth) [])) ∙ ap says (last_slot g s.staged tx (staged_end s) place block ws port.staged)
                ∙ says_entry g tx (staged_end s + length ws) (place + length ws) [] low high,
          );
    }
