-- The numbers that are told.
use Rattle.std.proofs.Common.{◌≡◌, ℕ, zero, suc, Bool, true, false, cond, ◌+◌, ◌<◌, List, [], ◌∷◌, ◌++◌, length, get_or, drop, replicate, sym, ◌∙◌, ap, arith, drop-cons, append-nil}
use Rattle.std.specs.Prelude.{filter, not}
use Rattle.std.specs.List.{range_with_len}
use Rattle.std.proofs.lemmas.List.{get_or-replicate, length-replicate}
use Rattle.std.proofs.lemmas.List.Elements.{filter-append}
use Rattle.mq_blocks.specs.Journal.{is_among}
use Rattle.mq_core.specs.declared.event.Event.{Event}
use Rattle.mq_audit.specs.Findings.{HasTold, told_after, told_more}

pub told_none : (base n : ℕ) → HasTold base [] (replicate n false)
told_none base n k low = get_or-replicate n k false false (let long = length-replicate n false in omega (arith, low, long))

-- the events from one on tell what is left
pub told_next : (events : List Event) (d : Event) (i : ℕ) (ns : List ℕ) → i < length events → told_after (drop i events) ns ≡ told_after (drop (i + 1) events) (told_more (get_or events i d) ns)
told_next events d i ns inside = (let e : suc i ≡ i + 1 = omega arith in ap (λ (vs : List Event). told_after vs ns) (drop-cons events i d inside) ∙ ap (λ (n : ℕ). told_after (drop n events) (told_more (get_or events i d) ns)) e)

range_more : (a n : ℕ) → range_with_len a (suc n) ≡ range_with_len a n ++ (a + n) ∷ []
range_more a zero = (let e : a ≡ a + 0 = omega arith in ap (λ (m : ℕ). m ∷ []) e)
range_more a (suc n) =
    let e : a + 1 + n ≡ a + suc n = omega arith in
    ap (λ (l : List ℕ). a ∷ l) (range_more (a + 1) n ∙ ap (λ (m : ℕ). range_with_len (a + 1) n ++ m ∷ []) e)

pub waiting_more : (p : ℕ → Bool) (a n : ℕ) → filter p (range_with_len a (n + 1)) ≡ filter p (range_with_len a n) ++ filter p ((a + n) ∷ [])
waiting_more p a n = (let e : n + 1 ≡ suc n = omega arith in ap (λ (m : ℕ). filter p (range_with_len a m)) e ∙ ap (filter p) (range_more a n) ∙ filter-append p (range_with_len a n) ((a + n) ∷ []))

-- ---- one number more

pub taken : (p : ℕ → Bool) (a n m : ℕ) (xs ys : List ℕ) → xs ≡ filter p (range_with_len a n) → p (a + n) ≡ true → m ≡ a + n → ys ≡ xs ++ m ∷ [] → ys ≡ filter p (range_with_len a (n + 1))
taken p a n m xs ys so_far told same grown =
    grown ∙ ap (λ (l : List ℕ). l ++ m ∷ []) so_far ∙ ap (λ (k : ℕ). filter p (range_with_len a n) ++ k ∷ []) same
    ∙ ap (λ (t : Bool). filter p (range_with_len a n) ++ cond t ((a + n) ∷ []) []) (sym told) ∙ sym (waiting_more p a n)

pub left_out : (p : ℕ → Bool) (a n : ℕ) (xs : List ℕ) → xs ≡ filter p (range_with_len a n) → p (a + n) ≡ false → xs ≡ filter p (range_with_len a (n + 1))
left_out p a n xs so_far told =
    so_far ∙ sym (append-nil (filter p (range_with_len a n))) ∙ ap (λ (t : Bool). filter p (range_with_len a n) ++ cond t ((a + n) ∷ []) []) (sym told) ∙ sym (waiting_more p a n)

-- what the table says of a number
pub told_is : (base k : ℕ) (ns : List ℕ) (told : List Bool) (b : Bool) → HasTold base ns told → k < length told → get_or told k false ≡ b → not (is_among (base + 1 + k) ns) ≡ not b
told_is base k ns told b table inside is =
    let e : base + 1 + k ≡ base + k + 1 = omega arith in
    ap (λ (n : ℕ). not (is_among n ns)) e ∙ ap not (sym (table k inside) ∙ is)
