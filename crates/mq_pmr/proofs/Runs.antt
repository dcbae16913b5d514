-- Staging one entry more.
use Rattle.std.proofs.Common.{◌≡◌, ◌≢◌, ◌<◌, ◌≤◌, ◌-◌, ℕ, suc, ◌+◌, ◌%◌, false, List, [], ◌∷◌, ◌++◌, length, set, refl, sym, ◌∙◌, ap, subst, arith, append_assoc, length-append, inl, inr, ⊎_elim}
use Rattle.std.proofs.lemmas.List.{append-nil}
use Rattle.std.proofs.lemmas.Bool.Decides.{nat_tests}
use Rattle.std.specs.Prelude.{◌==◌}
use Rattle.mq_blocks.specs.Drive.{PortState, counted, staged_end, after_stage, Owns}
use Rattle.mq_blocks.specs.Limits.{depth, usable_depth}
use Rattle.mq_blocks.specs.declared.command.Command.{Command}
use Rattle.mq_pmr.specs.Runs.{Items, OwnsAll, entry_at, slots_with, commands_of, after_some, is_last}

pub end_more : (s : PortState) (e : List ℕ) (tx lba : ℕ) (b : List ℕ) → staged_end (after_stage s e tx lba b) ≡ staged_end s + 1
end_more s e tx lba b = omega (arith, length-append s.pending (record { count = staged_end s; tx = tx; lba = lba; block = b } ∷ []))

pub staged : (s : PortState) (tx lba : ℕ) (block : List ℕ) (rest : Items) (j : ℕ)
    → after_some (after_stage s (entry_at tx (staged_end s) lba rest) tx lba block) tx j rest ≡ after_some s tx (suc j) ((lba, block) ∷ rest)
staged s tx lba block rest j =
    let e : List ℕ = entry_at tx (staged_end s) lba rest in
    let command : Command = record { count = staged_end s; tx = tx; lba = lba; block = block } in
    let more = end_more s e tx lba block in
    let slots = ap (λ (at : ℕ). slots_with (set s.staged (staged_end s % depth) e) tx at j rest) more in
    let pending : (s.pending ++ command ∷ []) ++ commands_of tx (staged_end (after_stage s e tx lba block)) j rest ≡ s.pending ++ (command ∷ commands_of tx (staged_end s + 1) j rest) =
    append_assoc s.pending (command ∷ []) (commands_of tx (staged_end (after_stage s e tx lba block)) j rest)
    ∙ (λ i. s.pending ++ (command ∷ commands_of tx (more i) j rest)) in
    λ i. record s { staged = slots i; pending = pending i; events = counted (counted s.events 1) j }

-- what a stage leaves as it was
pub record PortStays (start now : PortState) : Type 0 where
  pub queue : now.queue ≡ start.queue
  pub doorbell : now.doorbell ≡ start.doorbell
  pub head : now.head ≡ start.head
  pub stored : now.stored_head ≡ start.stored_head
  pub area_first : now.area_first ≡ start.area_first
  pub area_size : now.area_size ≡ start.area_size
  pub homes_first : now.homes_first ≡ start.homes_first
  pub homes_size : now.homes_size ≡ start.homes_size

pub stays-refl : (s : PortState) → PortStays s s
stays-refl s = record { queue = refl; doorbell = refl; head = refl; stored = refl; area_first = refl; area_size = refl; homes_first = refl; homes_size = refl }

pub stays_staged : (start now new : PortState) (e : List ℕ) (tx lba : ℕ) (block : List ℕ) → PortStays start now → new ≡ after_stage now e tx lba block → PortStays start new
stays_staged start now new e tx lba block same moved = subst (PortStays start) (sym moved) (record {
  queue = same.queue;
  doorbell = same.doorbell;
  head = same.head;
  stored = same.stored;
  area_first = same.area_first;
  area_size = same.area_size;
  homes_first = same.homes_first;
  homes_size = same.homes_size;
})

pub owns-along : (start now : PortState) (lba : ℕ) → PortStays start now → Owns start lba → Owns now lba
owns-along start now lba same own = ⊎_elim
    (λ area. let low = area.0 in let high = area.1 in inl (omega (arith, same.area_first, low), omega (arith, same.area_first, same.area_size, high)))
    (λ homes. let low = homes.0 in let high = homes.1 in inr (omega (arith, same.homes_first, low), omega (arith, same.homes_first, same.homes_size, high)))
    own

-- the state after one stage
pub record Next (now new : PortState) (tx lba : ℕ) (block : List ℕ) (rest : Items) : Type 0 where
  pub goes_on : (j : ℕ) → after_some new tx j rest ≡ after_some now tx (suc j) ((lba, block) ∷ rest)
  pub end : staged_end new ≡ staged_end now + 1

pub next : (now new : PortState) (tx lba : ℕ) (block : List ℕ) (rest : Items) (entry : List ℕ) (t l : ℕ) → entry ≡ entry_at tx (staged_end now) lba rest → t ≡ tx → l ≡ lba
    → new ≡ after_stage now entry t l block → Next now new tx lba block rest
next now new tx lba block rest entry t l is tx_is lba_is moved =
    let staged_now : new ≡ after_stage now (entry_at tx (staged_end now) lba rest) tx lba block = moved ∙ (λ i. after_stage now (is i) (tx_is i) (lba_is i) block) in
    record {
      goes_on = λ j. ap (λ (s : PortState). after_some s tx j rest) staged_now ∙ staged now tx lba block rest j;
      end = ap staged_end staged_now ∙ end_more now (entry_at tx (staged_end now) lba rest) tx lba block;
    }

pub is_last_by_length : (is : Items) → (length is == 0) ≡ is_last is
is_last_by_length [] = refl
is_last_by_length (i ∷ is) = grind (arith, nat_tests)

pub not_last : (is : Items) → 0 < length is → is_last is ≡ false
not_last [] some = absurd (omega (arith, some))
not_last (i ∷ is) some = refl

-- a state is what no more stages make of it
pub none_more : (s : PortState) (tx : ℕ) (items : Items) → after_some s tx 0 items ≡ s
none_more s tx items = ap (λ (p : List Command). record s { pending = p }) (append-nil s.pending)

-- a count of the ring's next usable slots has another slot than the one before them
pub other_slot : (head c : ℕ) → 0 < head → head ≤ c → c < head + usable_depth → c % depth ≢ (head - 1) % depth
other_slot head c some low high same = omega (arith, some, low, high, same)

pub own_more : (s : PortState) (items : Items) (item : ℕ × List ℕ) → OwnsAll s items → Owns s item.0 → OwnsAll s (items ++ item ∷ [])
own_more s [] item own more = (more, tt)
own_more s (i ∷ is) item own more = (own.0, own_more s is item own.1 more)

pub length-commands : (tx at : ℕ) (items : Items) → length (commands_of tx at (length items) items) ≡ length items
length-commands tx at [] = refl
length-commands tx at (i ∷ is) = ap suc (length-commands tx (at + 1) is)

-- all items are staged
pub end_all : (s : PortState) (tx : ℕ) (items : Items) → staged_end (after_some s tx (length items) items) ≡ staged_end s + length items
end_all s tx items = omega (arith, length-append s.pending (commands_of tx (staged_end s) (length items) items), length-commands tx (staged_end s) items)
