-- Lines and words: where texts are cut, and what words of digits write.
use Rattle.std.specs.Prelude.{◌≡◌, ◌⊎◌, ℕ, ◌+◌, ◌-◌, ◌*◌, ◌^◌, Bool, ◌&&◌, ◌==◌, nat_lt, nat_le, if◌then◌else◌, Option, Some, None, List, [], ◌∷◌, ◌++◌, length, take, drop, codes, bytes_eq, decimal}
use Rattle.std.specs.List.{slice_split}
use Rattle.std.specs.Str.Parse.{digits_value}
use Rattle.mq_block_text.specs.Refusals.{ended}

-- ---- lines

-- the text without the line feed at its end, where it has one
abbrev pub without_line_feed : List ℕ → List ℕ
without_line_feed text =
    if bytes_eq (drop (length text - 1) text) (codes "\n") then take (length text - 1) text else text

-- the lines, each ended by a line feed, which may be missing from the last
abbrev pub lines_of : List ℕ → List (List ℕ)
lines_of [] = []
lines_of (b ∷ bs) = slice_split (λ c. c == 10) (without_line_feed (b ∷ bs))

-- each line ends with a line feed, which may be missing from the last
abbrev pub AreLines : List ℕ → List (List ℕ) → Type 0
AreLines text lines = (text ≡ ended 10 lines) ⊎ (text ++ 10 ∷ [] ≡ ended 10 lines)

-- a visible character of ASCII
abbrev pub is_visible : ℕ → Bool
is_visible b = nat_le 33 b && nat_le b 126

-- a space, or a visible character of ASCII
abbrev pub is_plain : ℕ → Bool
is_plain b = nat_le 32 b && nat_le b 126

-- ---- words

-- the words between the spaces
abbrev pub words_of : List ℕ → List (List ℕ)
words_of line = slice_split (λ b. b == 32) line

abbrev pub one_of : List (List ℕ) → Option (List ℕ)
one_of (a ∷ []) = Some a
one_of words = None

abbrev pub two_of : List (List ℕ) → Option (List ℕ × List ℕ)
two_of (a ∷ b ∷ []) = Some (a, b)
two_of words = None

-- ---- numbers

-- below 2^64, and written by its own digits: no zero stands before others
abbrev pub number_in : List ℕ → Option ℕ
number_in text =
    if bytes_eq text (decimal (digits_value 10 text)) && nat_lt (digits_value 10 text) (2 ^ 64)
    then Some (digits_value 10 text) else None

-- ---- bytes

-- a digit from 0 to 9 or from a to f
abbrev pub digit_in : ℕ → Option ℕ
digit_in d =
    if nat_le 48 d && nat_le d 57 then Some (d - 48) else if nat_le 97 d && nat_le d 102
    then Some (d - 87) else None

abbrev pub byte_of : Option ℕ → Option ℕ → Option ℕ
byte_of None low = None
byte_of (Some high) None = None
byte_of (Some high) (Some low) = Some (high * 16 + low)

-- the byte of two digits
abbrev pub byte_in : (high low : ℕ) → Option ℕ
byte_in high low = byte_of (digit_in high) (digit_in low)
