-- What the lines of a text of the loose order come to, where the power goes off after some events.
use Rattle.std.specs.Prelude.{◌≡◌, ◌≤◌, ◌<◌, ◌⊎◌, ℕ, zero, suc, ◌+◌, Bool, true, false, ◌&&◌, List, [], ◌∷◌, length, Option, Some, None, slice_index_or, nat_eq, nat_le, is_some, if◌then◌else◌}
use Rattle.mq_block_text.specs.Text.{sets_in}
use Rattle.mq_block_text.specs.declared.item.BlockItem.{BlockItem}
use Rattle.mq_block_trace.specs.Lines.{empty_map, freed_in, live_from, named, set_in, writes_from}
use Rattle.mq_blocks.specs.Journal.{is_among}
use Rattle.mq_blocks.specs.Machine.{Map}
use Rattle.mq_ledger.specs.History.{map_after}
use Rattle.mq_ledger.specs.declared.tx.Tx.{Tx}
use Rattle.mq_loose_order.specs.Dependence.{closure, kept}
use Rattle.mq_loose_text.specs.Text.{printed}
use Rattle.mq_loose_text.specs.declared.line.LooseLine.{LooseLine}
use Rattle.mq_loose_text.specs.declared.line.LooseLine.TheVariants.{Commit, Done}

abbrev pub line_at : List LooseLine → ℕ → LooseLine
line_at lines k = slice_index_or lines k (Done 0)

-- ---- the transactions

-- of the blocks from `b` on, so many, those that the items free and that are in the map, rising
abbrev pub freed_from : Map → List BlockItem → ℕ → ℕ → List ℕ
freed_from m is b zero = []
freed_from m is b (suc n) =
    if is_among b (freed_in is) && is_some (m b) then b ∷ freed_from m is (b + 1) n
    else freed_from m is (b + 1) n

-- The transaction of a commit after these: it writes the blocks that the items set, and frees those of the map
-- that they free.
abbrev pub tx_of : List Tx → ℕ → List BlockItem → Tx
tx_of h q is = record {
  number = length h + 1;
  queue = q;
  logged = writes_from (set_in is) 0 named;
  direct = [];
  revoked = [];
  freed = freed_from (map_after empty_map h) is 0 named;
}

abbrev pub after_line : LooseLine → List Tx → List Tx
after_line (Commit q is) h = tx_of h q is ∷ h
after_line (Done q) h = h

-- the transactions of the first n lines, newest first, numbered from 1
abbrev pub drawn_by : List LooseLine → ℕ → List Tx
drawn_by lines zero = []
drawn_by lines (suc n) = after_line (line_at lines n) (drawn_by lines n)

abbrev pub drawn_in : List LooseLine → List Tx
drawn_in lines = drawn_by lines (length lines)

-- ---- the events

-- the entries of the queue that wait behind a line, where so many waited before it
abbrev pub waiting_after : ℕ → LooseLine → ℕ → ℕ
waiting_after q (Commit r is) n = if nat_eq r q then n + (sets_in is + 1) else n
waiting_after q (Done r) n = if nat_eq r q then 0 else n

abbrev pub waiting_on : ℕ → List LooseLine → ℕ → ℕ
waiting_on q lines zero = 0
waiting_on q lines (suc n) = waiting_after q (line_at lines n) (waiting_on q lines n)

-- A commit stages its entries, flushes and rings. A drain completes each entry that waits, and stores and
-- flushes the head, where one waits.
abbrev pub events_of_line : List LooseLine → ℕ → LooseLine → ℕ
events_of_line lines n (Commit q is) = sets_in is + 3
events_of_line lines n (Done q) =
    if nat_eq (waiting_on q lines n) 0 then 0 else waiting_on q lines n + 2

-- the events of the first n lines
abbrev pub events_upto : List LooseLine → ℕ → ℕ
events_upto lines zero = 0
events_upto lines (suc n) = events_upto lines n + events_of_line lines n (line_at lines n)

-- so many events all happen before the power goes off
abbrev pub happens : (cut : Option ℕ) → ℕ → Bool
happens None events = true
happens (Some k) events = nat_le events k

-- ---- what is done

-- the number of the newest of these on the queue, else 0
abbrev pub newest_on : ℕ → List Tx → ℕ
newest_on q [] = 0
newest_on q (t ∷ ts) = if nat_eq t.queue q then t.number else newest_on q ts

-- what is done on the queue by a line, where the drain's events all happen
abbrev pub done_by_line : (cut : Option ℕ) → ℕ → List LooseLine → ℕ → LooseLine → ℕ → ℕ
done_by_line cut q lines n (Commit r is) before = before
done_by_line cut q lines n (Done r) before =
    if nat_eq r q && happens cut (events_upto lines (suc n)) then newest_on q (drawn_by lines n) else before

-- All numbers of the queue up to this one are done by the first n lines.
abbrev pub done_on : (cut : Option ℕ) → ℕ → List LooseLine → ℕ → ℕ
done_on cut q lines zero = 0
done_on cut q lines (suc n) = done_by_line cut q lines n (line_at lines n) (done_on cut q lines n)

abbrev pub is_done : (cut : Option ℕ) → List LooseLine → Tx → List Tx → Bool
is_done cut lines t ts = nat_le t.number (done_on cut t.queue lines (length lines))

-- it and all on which it depends, step by step, are done
abbrev pub settled_in : (cut : Option ℕ) → List LooseLine → ℕ → Bool
settled_in cut lines n = closure (is_done cut lines) 0 (drawn_in lines) n

-- ---- the set of the image

-- the cut is between the last two events of a drain
abbrev pub EndsWithin : List LooseLine → Option ℕ → Type 0
EndsWithin lines None = ⊥
EndsWithin lines (Some k) =
    (n q : ℕ) × (n < length lines) × (line_at lines n ≡ Done q) × (0 < waiting_on q lines n)
    × (events_upto lines (suc n) ≡ k + 1)

-- one event more
abbrev pub with_one_more : Option ℕ → Option ℕ
with_one_more None = None
with_one_more (Some k) = Some (k + 1)

-- The set has the settled numbers. Where the cut is between the last two events of a drain, what that drain
-- ends may count as done.
abbrev pub IsSetIn : (cut : Option ℕ) → List LooseLine → (ℕ → Bool) → Type 0
IsSetIn cut lines set =
    (set ≡ settled_in cut lines) ⊎ (EndsWithin lines cut × (set ≡ settled_in (with_one_more cut) lines))

-- the numbers of a set from n on, so many
abbrev pub numbers_from : (ℕ → Bool) → ℕ → ℕ → List ℕ
numbers_from set n zero = []
numbers_from set n (suc count) =
    if set n then n ∷ numbers_from set (n + 1) count else numbers_from set (n + 1) count

-- those of the transactions of the lines
abbrev pub numbers_in : (ℕ → Bool) → List LooseLine → List ℕ
numbers_in set lines = numbers_from set 1 (length (drawn_in lines))

-- the map after the transactions of a set
abbrev pub map_in : (ℕ → Bool) → List LooseLine → Map
map_in set lines = map_after empty_map (kept set (drawn_in lines))

-- what is printed of a set
abbrev pub output_of : (cut : Option ℕ) → List LooseLine → (ℕ → Bool) → List ℕ
output_of cut lines set =
    printed (numbers_in (settled_in cut lines) lines) (numbers_in set lines) (live_from (map_in set lines) 0 named)

-- ---- the doorbells

-- the entries of the queue that a line has rung, where all its events happen
abbrev pub rung_by_line : (cut : Option ℕ) → ℕ → List LooseLine → ℕ → LooseLine → ℕ
rung_by_line cut q lines n (Commit r is) =
    if nat_eq r q && happens cut (events_upto lines (suc n)) then sets_in is + 1 else 0
rung_by_line cut q lines n (Done r) = 0

abbrev pub rung_upto : (cut : Option ℕ) → ℕ → List LooseLine → ℕ → ℕ
rung_upto cut q lines zero = 0
rung_upto cut q lines (suc n) = rung_upto cut q lines n + rung_by_line cut q lines n (line_at lines n)

-- how many entries of the queue the lines have rung before the power goes off
abbrev pub rung_on : (cut : Option ℕ) → ℕ → List LooseLine → ℕ
rung_on cut q lines = rung_upto cut q lines (length lines)
