-- The texts of numbers.
use Rattle.std.proofs.Common.{◌≡◌, ℕ, zero, suc, ◌+◌, ◌-◌, ◌*◌, ◌^◌, ◌<◌, ◌≤◌, List, length, get_or, take, sym, ◌∙◌, ap, subst, arith}
use Rattle.std.specs.Int.{IsInRange}
use Rattle.std.specs.Fmt.{decimal}
use Rattle.std.specs.Str.Parse.{digits_value}
use Rattle.std.specs.Char.{digit_value}
use Rattle.std.proofs.lemmas.Int.Digits.{digits_value_more}
use Rattle.std.proofs.lemmas.Str.{digit_value_digit}
use Rattle.std.proofs.lemmas.List.{get_or_default, take_all}
use Rattle.std.proofs.lemmas.Str.Parse.{IsNumeralModel, numerals_by_value, tells_by_index, digits_value-take-le}
use Rattle.std.proofs.lemmas.Fmt.{decimal_digit, digits_decimal, digits_value-decimal, decimal-digits_value, decimal_nonempty, first_decimal}

abbrev pub AreDigits : List ℕ → Type 0
AreDigits ds = (i : ℕ) → i < length ds → IsInRange 48 57 (get_or ds i 0)

abbrev pub IsNumeral : List ℕ → Type 0
IsNumeral t = (0 < length t) × (get_or t 0 0 ≡ 48 → length t ≡ 1) × AreDigits t

pub own : IsNumeralModel AreDigits (digits_value 10)
own = numerals_by_value _ tells_by_index

-- of the written numbers only 0 begins with a zero
lone_zero : (n : ℕ) → n < 2 ^ 64 → get_or (decimal n) 0 0 ≡ 48 → length (decimal n) ≡ 1
lone_zero zero small e = ap length (decimal_digit 0 (omega arith))
lone_zero (suc n) small e = absurd (omega (arith, first_decimal (suc n) (omega arith) small))

-- what a number is written by
pub numeral_of : (text : List ℕ) (n : ℕ) → n < 2 ^ 64 → text ≡ decimal n → IsNumeral text
numeral_of text n small e =
    let P : List ℕ → Type 0 = λ t. IsNumeral t in
    subst P (sym e) (decimal_nonempty n small, lone_zero n small, digits_decimal own n small)

-- such digits are those of their value
pub numeral_is : (text : List ℕ) (number index : ℕ) → IsNumeral text → number < 2 ^ 64 → number ≡ digits_value 10 (take index text) → length text ≤ index → text ≡ decimal number
numeral_is text number index h small e end =
    let f : number ≡ digits_value 10 text = e ∙ ap (digits_value 10) (take_all index text end) in
    sym (ap decimal f ∙ decimal-digits_value own text h.2 h.0 h.1 (omega arith))

pub value_is : (text : List ℕ) (number index n : ℕ) → number ≡ digits_value 10 (take index text) → length text ≤ index → n < 2 ^ 64 → text ≡ decimal n → number ≡ n
value_is text number index n v end small e = v ∙ ap (digits_value 10) (take_all index text end ∙ e) ∙ digits_value-decimal own n small

-- the number of the digits so far, with one more digit
pub with_more : (text : List ℕ) (number index : ℕ) → AreDigits text → number ≡ digits_value 10 (take index text) → index < length text → number * 10 + (get_or text index 0 - 48) ≡ digits_value 10 (take (index + 1) text)
with_more text number index digits e inside =
    let digit : digit_value (get_or text index 0) + 48 ≡ get_or text index 0 = digit_value_digit (get_or text index 0) (digits index inside) in
    let more = digits_value_more 10 text index inside in
    omega (arith, e, digit, more)

-- digits whose front is too large write no number below the end
pub too_large : (text : List ℕ) (number index n : ℕ) → number ≡ digits_value 10 (take index text) → index < length text → 2 ^ 64 ≤ number * 10 + (get_or text index 0 - 48) → n < 2 ^ 64 → text ≡ decimal n → ⊥
too_large text number index n e inside large small is =
    let value : digits_value 10 text ≡ n = ap (digits_value 10) is ∙ digits_value-decimal own n small in
    let more = with_more text number index (numeral_of text n small is).2 e inside in
    let front = digits_value-take-le 10 text (index + 1) (omega arith) in
    omega arith

-- the digits of a number
pub decimal_digits : (n : ℕ) → n < 2 ^ 64 → (k d : ℕ) → k < length (decimal n) → 48 ≤ get_or (decimal n) k d
decimal_digits n small k d h =
    let digit = digits_decimal own n small k h in
    rw (get_or_default (decimal n) k d 0 h) digit.0
