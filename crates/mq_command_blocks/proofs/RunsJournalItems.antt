-- The items of a transaction: where they go, and what they leave there.
use Rattle.std.proofs.Common.{◌≡◌, ◌≢◌, ◌<◌, ◌≤◌, inl, ⊎_elim, ℕ, zero, suc, ◌+◌, ◌*◌, ◌%◌, Bool, true, false, List, [], ◌∷◌, length, set, get_or, Option, Some, None, refl, sym, ◌∙◌, ap, subst, arith, add-zero}
use Rattle.std.proofs.Math.ListN.{length-set}
use Rattle.std.proofs.Math.Nat.{mod-eq_of_lt}
use Rattle.std.proofs.lemmas.Bool.{cases_eq}
use Rattle.std.proofs.lemmas.Bool.Decides.{nat_tests}
use Rattle.std.proofs.lemmas.Grind.{get_or-set_at}
use Rattle.std.proofs.lemmas.List.{get_or-set_other}
use Rattle.mq_blocks.specs.Blocks.{content, block_at}
use Rattle.mq_blocks.specs.Limits.{depth}
use Rattle.mq_blocks.specs.Drive.{PortState, index_of}
use Rattle.mq_blocks.specs.Geometry.{area_lba}
use Rattle.mq_blocks.specs.Machine.{Writes}
use Rattle.mq_blocks.specs.declared.geometry.Geometry.{Geometry}
use Rattle.mq_blocks.specs.declared.command.Command.{Command}
use Rattle.mq_drive.specs.Start.{IsPortOf}
use Rattle.mq_drive.specs.declared.role.Role.TheVariants.{Queue}
use Rattle.mq_pmr.specs.Runs.{Items, commands_of, slots_with, entry_at, OwnsAll}
use Rattle.mq_command_blocks.specs.Runs.{blocks_with, certain_with, IsNewIn, AreDistinct}
use Rattle.mq_command_blocks.specs.Commits.{items_from}

pub mod_small : (a n : ℕ) → a < n → a % n ≡ a
mod_small a n less = mod-eq_of_lt less

-- a place of the first lap is an Lba of the area
pub record AtPlace (g : Geometry) (s : PortState) (place : ℕ) : Type 0 where
  pub low : s.area_first ≤ area_lba g 0 place
  pub high : area_lba g 0 place < s.area_first + s.area_size
  pub index : index_of s (area_lba g 0 place) ≡ place

pub at_place : (g : Geometry) (s : PortState) (place : ℕ) → IsPortOf g (Queue 0) s → g.queues ≡ 1 → place < g.area → AtPlace g s place
at_place g s place port one within =
    let small : place % g.area ≡ place = mod_small place g.area within in
    let first : s.area_first ≡ 0 = omega (arith, port.area_first) in
    let all : g.queues * g.area ≡ g.area = ap (λ (n : ℕ). n * g.area) one ∙ omega arith in
    let homes : g.area ≤ s.homes_first = omega (arith, port.homes_first, all) in
    let lba : area_lba g 0 place ≡ place = omega (arith, small) in
    let size : s.area_size ≡ g.area = port.area_size in
    record {
      low = omega arith;
      high = omega arith;
      index = ap (index_of s) lba ∙ grind (arith, nat_tests);
    }

pub length-items : (g : Geometry) (place : ℕ) (block : List ℕ) (ws : Writes) → length (items_from g place block ws) ≡ length ws + 1
length-items g place block [] = refl
length-items g place block (w ∷ ws) = omega (arith, length-items g (place + 1) block ws)

pub own_items : (g : Geometry) (s : PortState) (place : ℕ) (block : List ℕ) (ws : Writes) → IsPortOf g (Queue 0) s → g.queues ≡ 1 → place + length ws < g.area → OwnsAll s (items_from g place block ws)
own_items g s place block [] port one fits = let at = at_place g s place port one (omega arith) in (inl (at.low, at.high), tt)
own_items g s place block (w ∷ ws) port one fits =
    let at = at_place g s place port one (omega arith) in
    (inl (at.low, at.high), own_items g s (place + 1) block ws port one (omega arith))

-- what is below the places of the items is none of them
pub new_below : (g : Geometry) (s : PortState) (place k : ℕ) (block : List ℕ) (ws : Writes) → IsPortOf g (Queue 0) s → g.queues ≡ 1 → k < place → place + length ws < g.area → IsNewIn (index_of s) k (items_from g place block ws)
new_below g s place k block [] port one less fits = let at = at_place g s place port one (omega arith) in ((λ same. omega (arith, at.index, same)), tt)
new_below g s place k block (w ∷ ws) port one less fits =
    let at = at_place g s place port one (omega arith) in
    ((λ same. omega (arith, at.index, same)), new_below g s (place + 1) k block ws port one (omega arith) (omega arith))

pub distinct_items : (g : Geometry) (s : PortState) (place : ℕ) (block : List ℕ) (ws : Writes) → IsPortOf g (Queue 0) s → g.queues ≡ 1 → place + length ws < g.area → AreDistinct (index_of s) (items_from g place block ws)
distinct_items g s place block [] port one fits = (tt, tt)
distinct_items g s place block (w ∷ ws) port one fits =
    let at = at_place g s place port one (omega arith) in (
      subst (λ (k : ℕ). IsNewIn (index_of s) k (items_from g (place + 1) block ws)) (sym at.index) (new_below g s (place + 1) place block ws port one (omega arith) (omega arith)),
      distinct_items g s (place + 1) block ws port one (omega arith),
    )

-- ---- blocks

pub block_at-set_same : (blocks : List (Option (List ℕ))) (k : ℕ) (v : List ℕ) (j : ℕ) → j ≡ k → k < length blocks → block_at (set blocks k (Some v)) j ≡ v
block_at-set_same blocks k v j is within = ap content (get_or-set_at blocks k j (Some v) None is within)

pub block_at-set_other : (blocks : List (Option (List ℕ))) (k : ℕ) (v : List ℕ) (j : ℕ) → j ≢ k → block_at (set blocks k (Some v)) j ≡ block_at blocks j
block_at-set_other blocks k v j other = ap content (get_or-set_other blocks k j (Some v) None other)

pub items_apart : (at : ℕ → ℕ) (blocks : List (Option (List ℕ))) (tx n : ℕ) (items : Items) (j : ℕ) → IsNewIn at j items → block_at (blocks_with at blocks (commands_of tx n (length items) items)) j ≡ block_at blocks j
items_apart at blocks tx n [] j new = refl
items_apart at blocks tx n (i ∷ is) j new = items_apart at (set blocks (at i.0) (Some i.1)) tx (n + 1) is j new.1 ∙ block_at-set_other blocks (at i.0) i.1 j new.0

pub length-blocks_with : (at : ℕ → ℕ) (blocks : List (Option (List ℕ))) (cs : List Command) → length (blocks_with at blocks cs) ≡ length blocks
length-blocks_with at blocks [] = refl
length-blocks_with at blocks (c ∷ cs) = length-blocks_with at (set blocks (at c.lba) (Some c.block)) cs ∙ length-set blocks (at c.lba) (Some c.block)

pub length-certain_with : (at : ℕ → ℕ) (certain : List Bool) (cs : List Command) → length (certain_with at certain cs) ≡ length certain
length-certain_with at certain [] = refl
length-certain_with at certain (c ∷ cs) = length-certain_with at (set certain (at c.lba) true) cs ∙ length-set certain (at c.lba) true

abbrev pub AreSure : List Bool → Type 0
AreSure certain = (k : ℕ) → k < length certain → get_or certain k false ≡ true

certain_set : (certain : List Bool) (k : ℕ) → AreSure certain → AreSure (set certain k true)
certain_set certain k all j within =
    let inside : j < length certain = omega (arith, within, length-set certain k true) in
    ⊎_elim
    (λ here. get_or-set_at certain k j true false here (omega arith))
    (λ other. get_or-set_other certain k j true false other ∙ all j inside)
    (cases_eq j k)

pub certain_all : (at : ℕ → ℕ) (certain : List Bool) (cs : List Command) → AreSure certain → AreSure (certain_with at certain cs)
certain_all at certain [] all = all
certain_all at certain (c ∷ cs) all = certain_all at (set certain (at c.lba) true) cs (certain_set certain (at c.lba) all)

-- ---- slots

pub length-slots_with : (slots : List (List ℕ)) (tx at k : ℕ) (items : Items) → length (slots_with slots tx at k items) ≡ length slots
length-slots_with slots tx at zero items = refl
length-slots_with slots tx at (suc k) [] = refl
length-slots_with slots tx at (suc k) (i ∷ is) = length-slots_with (set slots (at % depth) (entry_at tx at i.0 is)) tx (at + 1) k is ∙ length-set slots (at % depth) (entry_at tx at i.0 is)

-- the Lba of the last item
abbrev pub last_lba : Geometry → ℕ → Writes → ℕ
last_lba g place ws = area_lba g 0 (place + length ws)

-- the slot before the new end has the entry of the last item
pub last_slot : (g : Geometry) (slots : List (List ℕ)) (tx at place : ℕ) (block : List ℕ) (ws : Writes) → length slots ≡ depth
    → get_or (slots_with slots tx at (length (items_from g place block ws)) (items_from g place block ws)) ((at + length ws) % depth) [] ≡ entry_at tx (at + length ws) (last_lba g place ws) []
last_slot g slots tx at place block [] ring =
    get_or-set_at slots (at % depth) ((at + 0) % depth) (entry_at tx at (area_lba g 0 place) []) [] (ap (λ (n : ℕ). n % depth) (add-zero at)) (omega arith)
    ∙ (λ i. entry_at tx (sym (add-zero at) i) (area_lba g 0 (sym (add-zero place) i)) [])
last_slot g slots tx at place block (w ∷ ws) ring =
    let items : Items = items_from g place block (w ∷ ws) in
    let more_at : at + suc (length ws) ≡ at + 1 + length ws = omega arith in
    let more_place : place + suc (length ws) ≡ place + 1 + length ws = omega arith in
    ap (λ (n : ℕ). get_or (slots_with slots tx at (length items) items) (n % depth) []) more_at
    ∙ last_slot g (set slots (at % depth) (entry_at tx at (area_lba g 0 place) (items_from g (place + 1) block ws))) tx (at + 1) (place + 1) block ws
    (length-set slots (at % depth) (entry_at tx at (area_lba g 0 place) (items_from g (place + 1) block ws)) ∙ ring)
    ∙ (λ i. entry_at tx (sym more_at i) (area_lba g 0 (sym more_place i)) [])
