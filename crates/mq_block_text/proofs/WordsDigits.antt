-- Words of digits: the numbers and bytes that they write.
use Rattle.std.proofs.Common.{◌≡◌, ℕ, Bool, true, false, cond, Option, Some, None, ◌+◌, ◌*◌, ◌/◌, ◌%◌, ◌^◌, ◌<◌, ◌≤◌, List, [], ◌∷◌, get_or, sym, ◌∙◌, ap, subst, refl, arith}
use Rattle.std.specs.Prelude.{◌&&◌, nat_lt, bytes_eq, IfSome}
use Rattle.std.specs.Fmt.{decimal}
use Rattle.std.specs.Str.Parse.{digits_value}
use Rattle.std.proofs.lemmas.Bool.{ltb-true, lt-ltb, and_from, and_parts}
use Rattle.std.proofs.lemmas.Fmt.{decimal_is_IsNumeral}
use Rattle.std.proofs.lemmas.Slice.Eq.{bytes_eq-Decides}
use Rattle.mq_block_text.specs.Text.{hex_digit, hex_text}
use Rattle.mq_block_text.specs.Words.{number_in, digit_in, byte_of, byte_in}

-- ---- numbers

abbrev is_written : List ℕ → ℕ → Bool
is_written text n = bytes_eq text (decimal n) && nat_lt n (2 ^ 64)

test_none : (b : Bool) (n : ℕ) → (b ≡ true → ⊥) → ◌≡◌ {A = Option ℕ} None (cond b (Some n) None)
test_none true n h = absurd (h refl)
test_none false n h = refl

-- a number's own digits
pub number_again : (n : ℕ) → n < 2 ^ 64 → number_in (decimal n) ≡ Some n
number_again n small =
    let value : digits_value 10 (decimal n) ≡ n = (decimal_is_IsNumeral n small).1 in
    let written : is_written (decimal n) n ≡ true = and_from (bytes_eq (decimal n) (decimal n)) (nat_lt n (2 ^ 64)) ((bytes_eq-Decides (decimal n) (decimal n)).1 refl) (lt-ltb n (2 ^ 64) small) in
    ap (λ (m : ℕ). cond (is_written (decimal n) m) (Some m) None) value ∙ ap (λ (b : Bool). cond b (Some n) None) written

pub number_is : (text : List ℕ) (r : Option ℕ) → IfSome r (λ n. (n < 2 ^ 64) × (text ≡ decimal n)) → ((n : ℕ) → n < 2 ^ 64 → text ≡ decimal n → r ≡ Some n) → r ≡ number_in text
number_is text (Some n) found only =
    let value : digits_value 10 text ≡ n = ap (digits_value 10) found.1 ∙ (decimal_is_IsNumeral n found.0).1 in
    let written : is_written text n ≡ true = and_from (bytes_eq text (decimal n)) (nat_lt n (2 ^ 64)) ((bytes_eq-Decides text (decimal n)).1 found.1) (lt-ltb n (2 ^ 64) found.0) in
    ap (λ (b : Bool). cond b (Some n) None) (sym written) ∙ ap (λ (m : ℕ). cond (is_written text m) (Some m) None) (sym value)
number_is text None found only =
    test_none (is_written text (digits_value 10 text)) (digits_value 10 text)
    (λ yes. none_some (digits_value 10 text)
    (only (digits_value 10 text)
    (ltb-true (digits_value 10 text) (2 ^ 64) (and_parts (bytes_eq text (decimal (digits_value 10 text))) (nat_lt (digits_value 10 text) (2 ^ 64)) yes).1)
    ((bytes_eq-Decides text (decimal (digits_value 10 text))).0 (and_parts (bytes_eq text (decimal (digits_value 10 text))) (nat_lt (digits_value 10 text) (2 ^ 64)) yes).0))) where
      none_some : (n : ℕ) → ◌≡◌ {A = Option ℕ} None (Some n) → ⊥
      none_some n e = cc

-- a word that is read as a number is its own digits
pub number_spelled : (word : List ℕ) (n : ℕ) → number_in word ≡ Some n → (n < 2 ^ 64) × (word ≡ decimal n)
number_spelled word n e = step (bytes_eq word (decimal (digits_value 10 word)) && nat_lt (digits_value 10 word) (2 ^ 64)) refl e
  where
    step : (t : Bool) → (bytes_eq word (decimal (digits_value 10 word)) && nat_lt (digits_value 10 word) (2 ^ 64)) ≡ t → cond t (Some (digits_value 10 word)) None ≡ Some n → (n < 2 ^ 64) × (word ≡ decimal n)
    step true is p =
        let same : digits_value 10 word ≡ n = cc in
        let small : digits_value 10 word < 2 ^ 64 = ltb-true (digits_value 10 word) (2 ^ 64) (and_parts (bytes_eq word (decimal (digits_value 10 word))) (nat_lt (digits_value 10 word) (2 ^ 64)) is).1 in
        let text : word ≡ decimal (digits_value 10 word) = (bytes_eq-Decides word (decimal (digits_value 10 word))).0 (and_parts (bytes_eq word (decimal (digits_value 10 word))) (nat_lt (digits_value 10 word) (2 ^ 64)) is).0 in
        (subst (λ (m : ℕ). m < 2 ^ 64) same small, text ∙ ap decimal same)
    step false is p = absurd (cc)

-- ---- hexadecimal digits

digit_of : (d : ℕ) → d < 16 → digit_in (hex_digit d) ≡ Some d
digit_of d h = grind arith

-- two digits write their byte
pub byte_written : (v high low : ℕ) → v < 256 → hex_text v ≡ high ∷ low ∷ [] → Some v ≡ byte_in high low
byte_written v high low small e =
    let h : hex_digit (v / 16) ≡ high = ap (λ (l : List ℕ). get_or l 0 0) e in
    let l : hex_digit (v % 16) ≡ low = ap (λ (l : List ℕ). get_or l 1 0) e in
    let value : v / 16 * 16 + v % 16 ≡ v = omega arith in
    ap Some (sym value)
    ∙ sym (ap (λ (r : Option ℕ). byte_of r (Some (v % 16))) (digit_of (v / 16) (omega arith)))
    ∙ sym (ap (λ (r : Option ℕ). byte_of (digit_in (hex_digit (v / 16))) r) (digit_of (v % 16) (omega arith)))
    ∙ ap (λ (n : ℕ). byte_of (digit_in n) (digit_in (hex_digit (v % 16)))) h ∙ ap (λ (n : ℕ). byte_in high n) l

-- a digit that is read is that of its value
digit_back : (c d : ℕ) → digit_in c ≡ Some d → (d < 16) × (hex_digit d ≡ c)
digit_back c d e = grind arith

-- the byte of two digits is written by them
pub byte_read : (high low v : ℕ) → byte_in high low ≡ Some v → (v < 256) × (high ∷ low ∷ [] ≡ hex_text v)
byte_read high low v e = step (digit_in high) (digit_in low) refl refl e
  where
    step : (h l : Option ℕ) → digit_in high ≡ h → digit_in low ≡ l → byte_of h l ≡ Some v → (v < 256) × (high ∷ low ∷ [] ≡ hex_text v)
    step None l p q r = absurd (cc)
    step (Some h) None p q r = absurd (cc)
    step (Some h) (Some l) p q r =
        let a = digit_back high h p in
        let b = digit_back low l q in
        let same : h * 16 + l ≡ v = cc in
        let quotient : v / 16 ≡ h = omega (arith, b.0, same) in
        let rest : v % 16 ≡ l = omega (arith, b.0, same) in (
          omega (arith, a.0, b.0, same),
          ap (λ (n : ℕ). n ∷ low ∷ []) (sym a.1 ∙ ap hex_digit (sym quotient)) ∙ ap (λ (n : ℕ). hex_digit (v / 16) ∷ n ∷ []) (sym b.1 ∙ ap hex_digit (sym rest)),
        )

byte_back : (high low : ℕ) (h l : Option ℕ) → digit_in high ≡ h → digit_in low ≡ l → ((v : ℕ) → v < 256 → high ∷ low ∷ [] ≡ hex_text v → ⊥) → None ≡ byte_of h l
byte_back high low None l p q none = refl
byte_back high low (Some h) None p q none = refl
byte_back high low (Some h) (Some l) p q none =
    let a = digit_back high h p in
    let b = digit_back low l q in
    let quotient : (h * 16 + l) / 16 ≡ h = omega (arith, b.0) in
    let rest : (h * 16 + l) % 16 ≡ l = omega (arith, b.0) in
    absurd (none (h * 16 + l) (omega (arith, a.0, b.0))
    (λ i. (sym a.1 ∙ ap hex_digit (sym quotient)) i ∷ (sym b.1 ∙ ap hex_digit (sym rest)) i ∷ []))

pub byte_is :
    (high low : ℕ) (r : Option ℕ) → IfSome r (λ v. (v ≤ 255) × (hex_text v ≡ high ∷ low ∷ [])) → ((v : ℕ) → v < 256 → high ∷ low ∷ [] ≡ hex_text v → r ≡ Some v)
    → r ≡ byte_in high low
byte_is high low (Some v) found only = byte_written v high low (omega (arith, found.0)) found.1
byte_is high low None found only = byte_back high low (digit_in high) (digit_in low) refl refl (λ v small e. none_some v (only v small e)) where
  none_some : (n : ℕ) → ◌≡◌ {A = Option ℕ} None (Some n) → ⊥
  none_some n e = cc
