-- The forms of data.
use Rattle.std.proofs.Common.{◌≡◌, ◌≢◌, ℕ, Bool, true, false, eqb, cond, Option, Some, None, ◌+◌, ◌-◌, ◌*◌, ◌/◌, ◌%◌, ◌<◌, ◌≤◌, List, [], ◌∷◌, ◌++◌, length, get_or, take, drop, Bor, sym, ◌∙◌, ap, refl, arith, append_assoc, append-nil}
use Rattle.std.specs.Prelude.{◌||◌, bytes_eq}
use Rattle.std.specs.List.{list_any}
use Rattle.std.specs.Option.{option_map}
use Rattle.std.proofs.lemmas.Bool.{eqb-true, or_parts}
use Rattle.std.proofs.lemmas.Bool.Decides.{Decides-eqb}
use Rattle.std.proofs.lemmas.List.{drop_more, drop_all}
use Rattle.std.proofs.lemmas.Slice.Eq.{strip_suffix_is}
use Rattle.mq_block_text.specs.Words.{byte_in}
use Rattle.mq_script.specs.Words.{quoted_in, onto, pairs_in}

-- ---- pairs of digits

onto_none : (byte : Option ℕ) (bytes : Option (List ℕ)) → bytes ≡ None → onto byte bytes ≡ None
onto_none None bytes e = refl
onto_none (Some b) bytes e = ap (option_map (λ t. b ∷ t)) e

pub pairs_odd : (digits : List ℕ) → (length digits % 2 ≡ 0 → ⊥) → pairs_in digits ≡ None
pairs_odd [] h = absurd (h refl)
pairs_odd (a ∷ []) h = refl
pairs_odd (a ∷ b ∷ digits) h = onto_none (byte_in a b) (pairs_in digits) (pairs_odd digits (λ e. h (omega (arith, e))))

-- these bytes, and then those
abbrev pub with_front : List ℕ → Option (List ℕ) → Option (List ℕ)
with_front bytes more = option_map (λ t. bytes ++ t) more

pub front_none : (more : Option (List ℕ)) → with_front [] more ≡ more
front_none None = refl
front_none (Some t) = refl

front_push : (bytes : List ℕ) (b : ℕ) (more : Option (List ℕ)) → with_front bytes (onto (Some b) more) ≡ with_front (bytes ++ b ∷ []) more
front_push bytes b None = refl
front_push bytes b (Some t) = ap Some (sym (append_assoc bytes (b ∷ []) t))

pair_at : (digits : List ℕ) (i : ℕ) → i < length digits / 2 → pairs_in (drop (2 * i) digits) ≡ onto (byte_in (get_or digits (2 * i) 0) (get_or digits (2 * i + 1) 0)) (pairs_in (drop (2 * (i + 1)) digits))
pair_at digits i h =
    let e : 2 * i + 1 + 1 ≡ 2 * (i + 1) = omega arith in
    ap pairs_in
    (drop_more digits (2 * i) 0 (omega (arith, h))
    ∙ ap (λ t. get_or digits (2 * i) 0 ∷ t) (drop_more digits (2 * i + 1) 0 (omega (arith, h)) ∙ ap (λ (n : ℕ). get_or digits (2 * i + 1) 0 ∷ drop n digits) e))

-- a pair that is a byte
pub pair_some :
    (digits bytes : List ℕ) (i b : ℕ) → i < length digits / 2 → with_front bytes (pairs_in (drop (2 * i) digits)) ≡ pairs_in digits
    → Some b ≡ byte_in (get_or digits (2 * i) 0) (get_or digits (2 * i + 1) 0)
    → with_front (bytes ++ b ∷ []) (pairs_in (drop (2 * (i + 1)) digits)) ≡ pairs_in digits
pair_some digits bytes i b h so byte =
    sym (front_push bytes b (pairs_in (drop (2 * (i + 1)) digits)))
    ∙ ap (λ o. with_front bytes (onto o (pairs_in (drop (2 * (i + 1)) digits)))) byte
    ∙ ap (with_front bytes) (sym (pair_at digits i h)) ∙ so

-- a pair that is none
pub pair_none :
    (digits bytes : List ℕ) (i : ℕ) → i < length digits / 2 → with_front bytes (pairs_in (drop (2 * i) digits)) ≡ pairs_in digits
    → None ≡ byte_in (get_or digits (2 * i) 0) (get_or digits (2 * i + 1) 0)
    → pairs_in digits ≡ None
pair_none digits bytes i h so byte =
    sym so ∙ ap (with_front bytes) (pair_at digits i h)
    ∙ ap (λ o. with_front bytes (onto o (pairs_in (drop (2 * (i + 1)) digits)))) (sym byte)

-- all pairs are read
pub pairs_all :
    (digits bytes : List ℕ) (i : ℕ) → length digits / 2 ≤ i → length digits % 2 ≡ 0 → with_front bytes (pairs_in (drop (2 * i) digits)) ≡ pairs_in digits
    → pairs_in digits ≡ Some bytes
pairs_all digits bytes i h even so =
    sym so ∙ ap (λ t. with_front bytes (pairs_in t)) (drop_all (2 * i) digits (omega (arith, h, even))) ∙ ap Some (append-nil bytes)

-- ---- quotes

ends_in : (text p : List ℕ) (front : Bor (List ℕ)) → (bytes_eq (drop (length text - length p) text) p ≡ true) × (front.now ≡ take (length text - length p) text) × (length front.now + length p ≡ length text) → text ≡ front.now ++ p
ends_in text p front h = strip_suffix_is Decides-eqb text p (Some front) h

abbrev pub is_quote : ℕ → Bool
is_quote b = eqb b 34

quote_at : (b c : ℕ) (text : List ℕ) (t : Bool) → eqb b 34 ≡ t → quoted_in (b ∷ c ∷ text) ≡ cond t None (option_map (λ u. b ∷ u) (quoted_in (c ∷ text)))
quote_at b c text t e = ap (λ (x : Bool). cond x None (option_map (λ u. b ∷ u) (quoted_in (c ∷ text)))) e

-- text with no quote in it, before a quote
pub quoted_whole : (front : List ℕ) → list_any is_quote front ≡ false → quoted_in (front ++ 34 ∷ []) ≡ Some front
quoted_whole [] h = refl
quoted_whole (b ∷ []) h = quote_at b 34 [] false (or_parts (is_quote b) false h).0
quoted_whole (b ∷ c ∷ front) h =
    quote_at b c (front ++ 34 ∷ []) false (or_parts (is_quote b) (list_any is_quote (c ∷ front)) h).0
    ∙ ap (option_map (λ u. b ∷ u)) (quoted_whole (c ∷ front) (or_parts (is_quote b) (list_any is_quote (c ∷ front)) h).1)

later_quote : (b c : ℕ) (text : List ℕ) (t : Bool) → is_quote b ≡ t → (t ≡ false → quoted_in (c ∷ text) ≡ None) → quoted_in (b ∷ c ∷ text) ≡ None
later_quote b c text true e more = quote_at b c text true e
later_quote b c text false e more = quote_at b c text false e ∙ ap (option_map (λ u. b ∷ u)) (more refl)

or_second : (a b : Bool) → (a || b) ≡ true → a ≡ false → b ≡ true
or_second true b e f = absurd (no f) where
  no : true ≡ false → ⊥
  no e = cc
or_second false b e f = e

-- text with a quote in it, before a quote
pub quoted_twice : (front : List ℕ) → list_any is_quote front ≡ true → quoted_in (front ++ 34 ∷ []) ≡ None
quoted_twice [] h = absurd (no h) where
  no : false ≡ true → ⊥
  no e = cc
quoted_twice (b ∷ []) h = later_quote b 34 [] (is_quote b) refl (λ f. absurd (no (or_second (is_quote b) false h f))) where
  no : false ≡ true → ⊥
  no e = cc
quoted_twice (b ∷ c ∷ front) h =
    later_quote b c (front ++ 34 ∷ []) (is_quote b) refl (λ f. quoted_twice (c ∷ front) (or_second (is_quote b) (list_any is_quote (c ∷ front)) h f))

last_step : (b : ℕ) (t : Bool) → is_quote b ≡ t → ((front : List ℕ) → b ∷ [] ≢ front ++ 34 ∷ []) → cond {A = Option (List ℕ)} t (Some []) None ≡ None
last_step b true e h = absurd (h [] (ap (λ (n : ℕ). n ∷ []) (eqb-true b 34 e)))
last_step b false e h = refl

-- text that does not end in a quote
pub quoted_open : (text : List ℕ) → ((front : List ℕ) → text ≢ front ++ 34 ∷ []) → quoted_in text ≡ None
quoted_open [] h = refl
quoted_open (b ∷ []) h = last_step b (is_quote b) refl h
quoted_open (b ∷ c ∷ text) h = later_quote b c text (is_quote b) refl (λ f. quoted_open (c ∷ text) (λ front e. h (b ∷ front) (ap (λ t. b ∷ t) e)))

-- the same of what `strip_suffix` returns

pub open_text : (text p : List ℕ) → p ≡ 34 ∷ [] → bytes_eq (drop (length text - length p) text) p ≡ false → quoted_in text ≡ None
open_text text p is none = quoted_open text (λ front e. strip_suffix_is Decides-eqb text p None none front (e ∙ ap (λ q. front ++ q) (sym is)))

pub twice_text :
    (text p : List ℕ) (front : Bor (List ℕ)) → p ≡ 34 ∷ []
    → (bytes_eq (drop (length text - length p) text) p ≡ true) × (front.now ≡ take (length text - length p) text) × (length front.now + length p ≡ length text)
    → list_any is_quote front.now ≡ true → quoted_in text ≡ None
twice_text text p front is ends again = ap quoted_in (ends_in text p front ends ∙ ap (λ q. front.now ++ q) is) ∙ quoted_twice front.now again

pub whole_text :
    (text p : List ℕ) (front : Bor (List ℕ)) → p ≡ 34 ∷ []
    → (bytes_eq (drop (length text - length p) text) p ≡ true) × (front.now ≡ take (length text - length p) text) × (length front.now + length p ≡ length text)
    → list_any is_quote front.now ≡ false → quoted_in text ≡ Some front.now
whole_text text p front is ends alone = ap quoted_in (ends_in text p front ends ∙ ap (λ q. front.now ++ q) is) ∙ quoted_whole front.now alone
