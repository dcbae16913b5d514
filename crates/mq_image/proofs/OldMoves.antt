-- Where the entries of a ring of version 1 stand in today's ring.
use Rattle.std.proofs.Common.{get_or, set, ◌≡◌, ◌≢◌, ◌≤◌, ◌<◌, ℕ, inl, inr, ◌+◌, ◌-◌, ◌%◌, ◌^◌, zero, suc, true, List, [], ◌∷◌, ◌++◌, length, refl, sym, ap, subst, ◌∙◌, arith, get_or-set_same, get_or-set_other}
use Rattle.std.specs.Prelude.{nat_lt}
use Rattle.std.specs.List.{All}
use Rattle.std.proofs.lemmas.Bool.{and_parts, cases_Bool, cases_eq, eqb-true, lt-ltb, ltb-true}
use Rattle.std.proofs.lemmas.List.{length-set}
use Rattle.std.proofs.lemmas.List.FromFn.{length-map-range_with_len, get_or-map-range_with_len, map-range_with_len_more}
use Rattle.mq_blocks.specs.Drive.{PortImage}
use Rattle.mq_blocks.specs.Journal.{no_image}
use Rattle.mq_nvme.specs.Dwords.{AreDwords}
use Rattle.mq_nvme.specs.Entry.{blank}
use Rattle.mq_image.specs.File.{is_blank}
use Rattle.mq_image.specs.Old.{AreMoved, AreOldWords, count_of, moved, moved_entry, moved_slots}

-- ---- counts

-- the count that has a slot is one of the 4,096 from the first on
pub count-slot : (first slot : ℕ) → slot < 4096 → (count_of first slot % 4096 ≡ slot) × (first ≤ count_of first slot) × (count_of first slot < first + 4096)
count-slot first slot l = (omega arith, omega arith, omega arith)

-- and each of them is that of its slot
pub count-is : (first c : ℕ) → first ≤ c → c < first + 4096 → count_of first (c % 4096) ≡ c
count-is first c l h = omega arith

-- ---- slots

pub moved-none : (head doorbell : ℕ) (slots : List (List ℕ)) → moved_slots head doorbell slots 0 ≡ []
unfolding moved_slots
moved-none head doorbell slots = refl

pub moved-more : (head doorbell : ℕ) (slots : List (List ℕ)) (k : ℕ) → moved_slots head doorbell slots (k + 1) ≡ moved_slots head doorbell slots k ++ moved_entry head doorbell slots k ∷ []
unfolding moved_slots
moved-more head doorbell slots k = map-range_with_len_more (moved_entry head doorbell slots) 0 k k (omega arith)

pub length-moved : (head doorbell : ℕ) (slots : List (List ℕ)) (count : ℕ) → length (moved_slots head doorbell slots count) ≡ count
unfolding moved_slots
length-moved head doorbell slots count = length-map-range_with_len (moved_entry head doorbell slots) 0 count

pub slot-moved : (head doorbell : ℕ) (slots : List (List ℕ)) (count k : ℕ) (d : List ℕ) → k < count → get_or (moved_slots head doorbell slots count) k d ≡ moved_entry head doorbell slots k
unfolding moved_slots
slot-moved head doorbell slots count k d l = get_or-map-range_with_len (moved_entry head doorbell slots) 0 count k k d l (omega arith)

-- ---- the entries of a port

-- the entry of each count from the one before the head on is in the slot of its count
pub entry-moved : (p : PortImage) → AreOldWords p → (c : ℕ) → p.head ≤ c + 1 → c < p.doorbell → get_or (moved p).slots (c % 4096) [] ≡ get_or p.slots (c % 1024) []
entry-moved p w c low high =
    let o = w.order in
    let f = w.few in
    let is : count_of (p.head - 1) (c % 4096) ≡ c = count-is (p.head - 1) c (omega arith) (omega arith) in
    slot-moved p.head p.doorbell p.slots 4096 (c % 4096) [] (omega arith) ∙ rw is (rw (lt-ltb c p.doorbell high) refl)

-- and a slot of no such count is blank
pub blank-moved : (p : PortImage) (k : ℕ) → k < 4096 → ((c : ℕ) → p.head ≤ c + 1 → c < p.doorbell → c % 4096 ≢ k) → get_or (moved p).slots k [] ≡ blank
blank-moved p k l none = slot-moved p.head p.doorbell p.slots 4096 k [] l ∙ elim (cases_Bool (nat_lt (count_of (p.head - 1) k) p.doorbell)) [
  | inl below ↦
      let s = count-slot (p.head - 1) k l in
      let low = s.1 in
      absurd (none (count_of (p.head - 1) k) (omega arith) (ltb-true _ _ below) s.0)
  | inr past ↦ rw past refl
]

-- ---- dwords

zeros-low : (xs : List ℕ) (k : ℕ) → is_blank xs ≡ true → get_or xs k 0 < 2 ^ 32
zeros-low [] k e = omega arith
zeros-low (x ∷ xs) zero e = let z : x ≡ 0 = eqb-true x 0 (and_parts _ _ e).0 in omega arith
zeros-low (x ∷ xs) (suc k) e = zeros-low xs k (and_parts _ _ e).1

blank-dwords : AreDwords 16 blank
unfolding blank
blank-dwords = record { long = refl; fit = λ k. zeros-low blank k refl }

moved-dwords : (head doorbell : ℕ) (slots : List (List ℕ)) → length slots ≡ 1024 → All (λ e. AreDwords 16 e) slots → (k : ℕ) → AreDwords 16 (moved_entry head doorbell slots k)
moved-dwords head doorbell slots n h k = elim (cases_Bool (nat_lt (count_of (head - 1) k) doorbell)) [
  | inl below ↦ rw below (h (count_of (head - 1) k % 1024) [] (omega arith))
  | inr past ↦ rw past blank-dwords
]

pub slots-dwords : (head doorbell : ℕ) (slots : List (List ℕ)) (count : ℕ) → length slots ≡ 1024 → All (λ e. AreDwords 16 e) slots → All (λ e. AreDwords 16 e) (moved_slots head doorbell slots count)
slots-dwords head doorbell slots count n h k d l =
    let low : k < count = omega (arith, l, length-moved head doorbell slots count) in
    subst (λ (e : List ℕ). AreDwords 16 e) (sym (slot-moved head doorbell slots count k d low)) (moved-dwords head doorbell slots n h k)

-- ---- ports

pub moved-first : (ports : List PortImage) → AreMoved 0 ports ports
moved-first ports = record { count_is = refl; done = λ k l. absurd (omega arith); rest = λ k l. refl }

-- the ring of one more port
pub moved-next : (n : ℕ) (old now new : List PortImage) → AreMoved n old now → n < length old → new ≡ set now n (moved (get_or now n no_image)) → AreMoved (n + 1) old new
moved-next n old now new m l e = rw e (record {
  count_is = length-set now n (moved (get_or now n no_image)) ∙ m.count_is;
  done = λ k low. elim (cases_eq k n) [
    | inl same ↦
        ap (λ (j : ℕ). get_or (set now n (moved (get_or now n no_image))) j no_image) same ∙ get_or-set_same now n (moved (get_or now n no_image)) no_image (omega (arith, m.count_is)) ∙ ap moved (m.rest n (omega arith))
        ∙ ap (λ (j : ℕ). moved (get_or old j no_image)) (sym same)
    | inr apart ↦ get_or-set_other now n k (moved (get_or now n no_image)) no_image apart ∙ m.done k (omega arith)
  ];
  rest = λ k high. let apart : k ≢ n = omega arith in get_or-set_other now n k (moved (get_or now n no_image)) no_image apart ∙ m.rest k (omega arith);
})
