-- A transaction more is kept.
use Rattle.std.proofs.Common.{◌≡◌, ◌<◌, ◌≤◌, ℕ, suc, ◌+◌, ◌-◌, ◌%◌, ◌^◌, true, cond, List, [], ◌∷◌, ◌++◌, length, set, get_or, inl, inr, Option, Some, refl, sym, ◌∙◌, ap, subst, arith, add-zero, eqb}
use Rattle.std.proofs.Math.ListN.{length-set}
use Rattle.std.proofs.lemmas.Bool.{cases_eq, eq-eqb, ne_eqb}
use Rattle.mq_blocks.proofs.DescriptorLimits.{further-none, limit-low}
use Rattle.mq_nvme.specs.Says.{says}
use Rattle.mq_nvme.proofs.Says.{says-entry}
use Rattle.mq_blocks.specs.Blocks.{block_at}
use Rattle.mq_blocks.specs.Limits.{depth, newest_version}
use Rattle.mq_blocks.specs.Descriptor.{Descriptor, DescriptorForm, IsDescriptor, IsGood, AreRising, journal_form, last_block, first_place, further, most_listed}
use Rattle.mq_blocks.specs.Drive.{PortState, IsQuiescent, index_of, staged_end}
use Rattle.mq_blocks.specs.Geometry.{area_lba, homes_of, write_limit}
use Rattle.mq_blocks.specs.Journal.{Shown, IsChain, logged_copy}
use Rattle.mq_blocks.specs.Machine.{Writes, Transaction, write_of}
use Rattle.mq_blocks.specs.declared.geometry.Geometry.{Geometry}
use Rattle.mq_blocks.specs.declared.command.Command.{Command}
use Rattle.mq_blocks.proofs.Ports.{parts_of}
use Rattle.mq_drive.specs.Start.{IsPortOf}
use Rattle.mq_drive.specs.declared.role.Role.TheVariants.{Queue}
use Rattle.mq_drive.proofs.StartRolePorts.{port_of-along}
use Rattle.mq_pmr.specs.Runs.{Items, commands_of, slots_with, entry_at, after_some}
use Rattle.mq_command_blocks.specs.Runs.{blocks_with, after_line}
use Rattle.mq_command_blocks.specs.Commits.{items_from, items_of, descriptor_for, blocks_in, Agrees, AllCarry, Keeps}
use Rattle.mq_command_blocks.proofs.RunsJournalItems.{mod_small, at_place, length-items, new_below, block_at-set_same, items_apart, length-blocks_with, length-certain_with, certain_all, length-slots_with, last_lba, last_slot}
use Rattle.mq_command_blocks.proofs.RunsLines.{staged_all}

pub length-blocks_in : (ws : Writes) → length (blocks_in ws) ≡ length ws
length-blocks_in [] = refl
length-blocks_in (w ∷ ws) = ap suc (length-blocks_in ws)

-- a version lists at least so many
listed_low : (limit version : ℕ) → 1000 ≤ limit → 1000 ≤ most_listed limit version
listed_low limit version l = elim (cases_eq version 1) [ inl e ↦ rw (eq-eqb version 1 e) (omega arith) | inr n ↦ rw (ne_eqb version 1 n) l ]

-- each item stands in these blocks, from a place on
abbrev Stand : (ℕ → List ℕ) → ℕ → List ℕ → Writes → Type 0
Stand area place block [] = area place ≡ block
Stand area place block (w ∷ ws) = (area place ≡ w.1) × Stand area (place + 1) block ws

stand-along : (f g : ℕ → List ℕ) (place : ℕ) (block : List ℕ) (ws : Writes) → ((k : ℕ) → place ≤ k → k < place + length ws + 1 → g k ≡ f k) → Stand f place block ws → Stand g place block ws
stand-along f g place block [] same stands = same place (omega arith) (omega arith) ∙ stands
stand-along f g place block (w ∷ ws) same stands =
    (same place (omega arith) (omega arith) ∙ stands.0, stand-along f g (place + 1) block ws (λ k low high. same k (omega arith) (omega arith)) stands.1)

-- what the commands of the items leave
items_stand : (g : Geometry) (s : PortState) (blocks : List (Option (List ℕ))) (tx n place : ℕ) (block : List ℕ) (ws : Writes) → IsPortOf g (Queue 0) s → g.queues ≡ 1
    → place + length ws < g.area → g.area ≤ length blocks
    → Stand (block_at (blocks_with (index_of s) blocks (commands_of tx n (length (items_from g place block ws)) (items_from g place block ws)))) place block ws
items_stand g s blocks tx n place block [] port one fits room =
    let at = at_place g s place port one (omega arith) in
    block_at-set_same blocks (index_of s (area_lba g 0 place)) block place (sym at.index) (omega (arith, at.index))
items_stand g s blocks tx n place block (w ∷ ws) port one fits room =
    let at = at_place g s place port one (omega arith) in
    let here : index_of s (area_lba g 0 place) < length blocks = omega (arith, at.index) in
    let next = set blocks (index_of s (area_lba g 0 place)) (Some w.1) in
    let long : length next ≡ length blocks = length-set blocks (index_of s (area_lba g 0 place)) (Some w.1) in (
      items_apart (index_of s) next tx (n + 1) (items_from g (place + 1) block ws) place (new_below g s (place + 1) place block ws port one (omega arith) (omega arith))
          ∙ block_at-set_same blocks (index_of s (area_lba g 0 place)) w.1 place (sym at.index) here,
      items_stand g s next tx (n + 1) (place + 1) block ws port one (omega arith) (omega (arith, long)),
    )

-- the copies that are read are what was written
copies_read : (area : ℕ → List ℕ) (size place : ℕ) (block : List ℕ) (ws : Writes) (b : ℕ) → place + length ws < size → Stand area place block ws → logged_copy area size place (blocks_in ws) b ≡ write_of ws b
copies_read area size place block [] b fits stands = refl
copies_read area size place block (w ∷ ws) b fits stands =
    let first : area (place % size) ≡ w.1 = ap area (mod_small place size (omega arith)) ∙ stands.0 in
    let rest = copies_read area size (place + 1) block ws b (omega arith) stands.1 in
    λ i. cond (eqb w.0 b) (Some (first i)) (rest i)

descriptor_stands : (area : ℕ → List ℕ) (place : ℕ) (block : List ℕ) (ws : Writes) → Stand area place block ws → area (place + length ws) ≡ block
descriptor_stands area place block [] stands = ap area (add-zero place) ∙ stands
descriptor_stands area place block (w ∷ ws) stands =
    let more : place + suc (length ws) ≡ place + 1 + length ws = omega arith in
    ap area more ∙ descriptor_stands area (place + 1) block ws stands.1

-- The next transaction on a port that keeps some.
module _ (g : Geometry) (s : PortState) (next place : ℕ) (ds : List Descriptor) (ts : List Transaction) (keeps : Keeps g s next place ds ts) (one : g.queues ≡ 1)
    (t : Transaction) (number : t.number ≡ length ds + 1) (small : length ds < 2 ^ 63) (low : next < 2 ^ 61) (fits : next + length t.writes < g.area)
    (few : length t.writes ≤ 256) (rising : AreRising 0 (homes_of g) (blocks_in t.writes)) where
  abbrev pub next_descriptor : Descriptor
  next_descriptor = descriptor_for (length ds + 1) next place t.writes

  abbrev pub next_items : Items
  next_items = items_of g (length ds + 1) next place t.writes

  abbrev pub after_it : PortState
  after_it = after_line s (length ds + 1) next_items

  -- the blocks that it lists fit its last block
  no_further : further next_descriptor ≡ 0
  no_further = further-none (length (blocks_in t.writes) + 0) (omega (arith, length-blocks_in t.writes))

  good : (0 < length ds → place + 1 ≤ next) → IsGood (most_listed (write_limit g) newest_version) (homes_of g) next_descriptor
  good before =
      let logged = length-blocks_in t.writes in
      let none = no_further in
      let most = listed_low (write_limit g) newest_version (limit-low g) in
      record {
        queue = omega arith;
        number = omega arith;
        place = omega arith;
        falls = omega arith;
        first = λ none. keeps.first (omega arith);
        before = λ some. let b : place + 1 ≤ next = before (omega arith) in omega arith;
        counts = omega arith;
        fits = omega arith;
        logged = rising;
        revoked = tt;
        apart = tt;
      }

  blocks_are : after_it.blocks ≡ blocks_with (index_of s) s.blocks (commands_of (length ds + 1) (staged_end s) (length next_items) next_items)
  unfolding after_line
  blocks_are = λ i. blocks_with (index_of s) s.blocks (keeps.quiet.posted i ++ (keeps.quiet.pending i ++ commands_of (length ds + 1) (staged_end s) (length next_items) next_items))

  room : g.area ≤ length s.blocks
  room = let size = keeps.port.blocks in omega arith

  all_stand : Stand (block_at after_it.blocks) next (last_block journal_form newest_version next_descriptor) t.writes
  all_stand =
      subst (λ (l : List (Option (List ℕ))). Stand (block_at l) next (last_block journal_form newest_version next_descriptor) t.writes) (sym blocks_are)
      (items_stand g s s.blocks (length ds + 1) (staged_end s) next (last_block journal_form newest_version next_descriptor) t.writes keeps.port one fits room)

  below_same : (k : ℕ) → k < next → block_at after_it.blocks k ≡ block_at s.blocks k
  below_same k less =
      ap (λ (l : List (Option (List ℕ))). block_at l k) blocks_are
      ∙ items_apart (index_of s) s.blocks (length ds + 1) (staged_end s) next_items k (new_below g s next k (last_block journal_form newest_version next_descriptor) t.writes keeps.port one less fits)

  before_it : (i : Shown) → Agrees (next + length t.writes + 1) after_it i → Agrees next s i
  before_it i agrees = record {
    form = agrees.form;
    base = agrees.base;
    area = λ k less. agrees.area k (omega arith) ∙ below_same k less;
  }

  stand_in : (i : Shown) → Agrees (next + length t.writes + 1) after_it i → Stand (i.area 0) next (last_block journal_form newest_version next_descriptor) t.writes
  stand_in i agrees = stand-along (block_at after_it.blocks) (i.area 0) next (last_block journal_form newest_version next_descriptor) t.writes (λ k first last. agrees.area k (omega arith)) all_stand

  new_chain : (0 < length ds → place + 1 ≤ next) → (i : Shown) → Agrees (next + length t.writes + 1) after_it i → IsChain g i 0 (length ds + 1) (next + length t.writes) (next_descriptor ∷ ds)
  new_chain before i agrees =
      let at : (next + length t.writes) % g.area ≡ next + length t.writes = mod_small (next + length t.writes) g.area fits in
      let base : i.base ≡ 0 = agrees.base in (
        omega arith,
        record {
          is = subst (λ (f : DescriptorForm). IsDescriptor f (write_limit g) (homes_of g) (i.area 0 ((next + length t.writes) % g.area)) (i.area 0 ((next + length t.writes - 1) % g.area)) next_descriptor) (sym agrees.form) (record {
            version = newest_version;
            known = inr refl;
            last = ap (i.area 0) at ∙ descriptor_stands (i.area 0) next (last_block journal_form newest_version next_descriptor) t.writes (stand_in i agrees);
            rest = λ one. absurd (omega (arith, one, no_further));
            good = good before;
          });
          queue_is = refl;
          number_is = refl;
          place_is = refl;
        },
        subst (λ (n : ℕ). IsChain g i 0 n place ds) (let back : length ds ≡ length ds + 1 - 1 = omega arith in back) (keeps.chain i (before_it i agrees)),
      )

  new_carry : (i : Shown) → Agrees (next + length t.writes + 1) after_it i → AllCarry g i (next_descriptor ∷ ds) (t ∷ ts)
  new_carry i agrees =
      let logged = length-blocks_in t.writes in
      let first : first_place next_descriptor ≡ next = omega (arith, no_further, logged) in (
        record {
          copies = λ b.
              ap (λ (p : ℕ). logged_copy (i.area 0) g.area p (blocks_in t.writes) b) first
              ∙ copies_read (i.area 0) g.area next (last_block journal_form newest_version next_descriptor) t.writes b fits (stand_in i agrees);
          revoked = refl;
        },
        keeps.carry i (before_it i agrees),
      )

  start : staged_end s ≡ s.doorbell
  start = ap (λ (l : List Command). s.doorbell + length l) keeps.quiet.pending ∙ add-zero s.doorbell

  count : length next_items ≡ length t.writes + 1
  count = length-items g next (last_block journal_form newest_version next_descriptor) t.writes

  all : staged_end (after_some s (length ds + 1) (length next_items) next_items) ≡ s.doorbell + length next_items
  all = staged_all s (length ds + 1) next_items keeps.quiet

  pub doorbell_is : after_it.doorbell ≡ s.doorbell + (length t.writes + 1)
  unfolding after_line
  doorbell_is = all ∙ ap (λ (n : ℕ). s.doorbell + n) count

  head_is : after_it.head ≡ s.doorbell + (length t.writes + 1)
  unfolding after_line
  head_is = (λ i. start i + count i)

  abbrev ended : List Command
  ended = s.posted ++ (s.pending ++ commands_of (length ds + 1) (staged_end s) (length next_items) next_items)

  now_quiet : IsQuiescent after_it
  unfolding after_line
  now_quiet = record {
    flushed_end = add-zero _;
    pending = refl;
    posted = refl;
    failed = keeps.quiet.failed;
    head = refl;
    base = refl;
    certain = certain_all (index_of s) s.certain ended keeps.quiet.certain;
  }

  now_port : IsPortOf g (Queue 0) after_it
  unfolding after_line
  now_port =
      let slots : length (slots_with s.staged (length ds + 1) (staged_end s) (length next_items) next_items) ≡ length s.staged =
      length-slots_with s.staged (length ds + 1) (staged_end s) (length next_items) next_items in
      port_of-along keeps.port (λ i. record (parts_of s) {
        flushed = (slots ∙ (keeps.port.staged ∙ sym keeps.port.flushed)) i;
        staged = slots i;
        blocks = length-blocks_with (index_of s) s.blocks ended i;
        certain = length-certain_with (index_of s) s.certain ended i;
      }) (λ k within flushed. refl)

  flushed_is : after_it.flushed ≡ slots_with s.staged (length ds + 1) (staged_end s) (length next_items) next_items
  unfolding after_line
  flushed_is = refl

  slot_is : get_or after_it.flushed ((after_it.head - 1) % depth) [] ≡ entry_at (length ds + 1) (staged_end s + length t.writes) (last_lba g next t.writes) []
  slot_is =
      let at : after_it.head - 1 ≡ staged_end s + length t.writes = omega (arith, head_is, start) in
      (λ i. get_or (flushed_is i) (at i % depth) [])
      ∙ last_slot g s.staged (length ds + 1) (staged_end s) next (last_block journal_form newest_version next_descriptor) t.writes keeps.port.staged

  newest : (lba : ℕ) × (says (get_or after_it.flushed ((after_it.head - 1) % depth) []) ≡ Some (length ds + 1, lba, true)) × (0 < length ds + 1 → lba ≡ area_lba g 0 (next + length t.writes))
  newest = (
    last_lba g next t.writes,
    ap says slot_is ∙ says-entry _ record {
      slot = omega arith;
      tx_low = omega arith;
      tx_high = omega arith;
      lba = let at : (next + length t.writes) % g.area ≡ next + length t.writes = mod_small (next + length t.writes) g.area fits in omega arith;
    },
    λ some. refl,
  )

  -- after it the port keeps it too
  pub kept : (0 < length ds → place + 1 ≤ next) → Keeps g after_it (next + length t.writes + 1) (next + length t.writes) (next_descriptor ∷ ds) (t ∷ ts)
  kept before =
      let more : length ds + 1 ≡ suc (length ds) = omega arith in
      record {
        quiet = now_quiet;
        port = now_port;
        done = head_is ∙ sym doorbell_is;
        chain = λ i agrees. subst (λ (n : ℕ). IsChain g i 0 n (next + length t.writes) (next_descriptor ∷ ds)) more (new_chain before i agrees);
        carry = new_carry;
        row = (omega arith, keeps.row);
        none = λ none. absurd (omega (arith, head_is, none));
        newest = λ some. (newest.0, subst (λ (n : ℕ). says (get_or after_it.flushed ((after_it.head - 1) % depth) []) ≡ Some (n, newest.0, true)) more newest.1, λ newer. newest.2 (omega arith));
        below = λ some. omega arith;
        first = λ none. absurd (omega arith);
      }
