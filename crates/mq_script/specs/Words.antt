-- The words of lines: paths and data.
use Rattle.std.specs.Prelude.{ℕ, ◌==◌, nat_le, if◌then◌else◌, Option, Some, None, List, [], ◌∷◌, length, drop, take, replicate, codes, bytes_eq}
use Rattle.std.specs.List.{slice_split, join_with_byte}
use Rattle.std.specs.Option.{option_map}
use Rattle.mq_block_text.specs.Words.{byte_in, number_in, words_of}
use denote.Ref.{Bor}

-- ---- where a line is cut

-- the words of what follows a space, if one is there
abbrev pub words_after : Option (Bor (List ℕ)) → List (List ℕ)
words_after None = []
words_after (Some text) = words_of text.now

abbrev pub three_of : List (List ℕ) → Option (List ℕ × List ℕ × List ℕ)
three_of (a ∷ b ∷ c ∷ []) = Some (a, b, c)
three_of words = None

-- two words, and the rest of the line, with its spaces
abbrev pub rest_of : List (List ℕ) → Option (List ℕ × List ℕ × List ℕ)
rest_of (a ∷ b ∷ c ∷ more) = Some (a, b, join_with_byte 32 (c ∷ more))
rest_of words = None

-- what follows this in a text that begins with it
abbrev pub after : List ℕ → List ℕ → Option (List ℕ)
after front text =
    if bytes_eq (take (length front) text) front then Some (drop (length front) text) else None

-- ---- paths

-- the names between the slashes; the root has none
abbrev pub names_in : List ℕ → List (List ℕ)
names_in [] = []
names_in (b ∷ bs) = slice_split (λ c. c == 47) (b ∷ bs)

-- That a word of a line has bytes from 21h to 7Eh alone is known before.
abbrev pub path_in : List ℕ → Option (List (List ℕ))
path_in text = option_map names_in (after (codes "/") text)

-- ---- data

-- what stands before a quote that ends the text, and is the only one
abbrev pub quoted_in : List ℕ → Option (List ℕ)
quoted_in [] = None
quoted_in (b ∷ []) = if b == 34 then Some [] else None
quoted_in (b ∷ c ∷ text) = if b == 34 then None else option_map (λ t. b ∷ t) (quoted_in (c ∷ text))

abbrev pub onto : Option ℕ → Option (List ℕ) → Option (List ℕ)
onto None bytes = None
onto (Some b) bytes = option_map (λ t. b ∷ t) bytes

-- the bytes of pairs of digits
abbrev pub pairs_in : List ℕ → Option (List ℕ)
pairs_in [] = Some []
pairs_in (high ∷ []) = None
pairs_in (high ∷ low ∷ digits) = onto (byte_in high low) (pairs_in digits)

-- the given number of bytes of this value
abbrev pub filled : Option ℕ → Option ℕ → Option (List ℕ)
filled None count = None
filled (Some b) None = None
filled (Some b) (Some n) = if nat_le n 4243456 then Some (replicate n b) else None

-- a byte's two digits, a colon and a count
abbrev pub fill_in : List ℕ → Option (List ℕ)
fill_in (high ∷ low ∷ colon ∷ count) =
    if colon == 58 then filled (byte_in high low) (number_in count) else None
fill_in text = None

-- the form that the text begins as, if it is one
abbrev pub form_in : (quoted digits fill : Option (List ℕ)) → Option (List ℕ)
form_in (Some text) digits fill = quoted_in text
form_in None (Some text) fill = pairs_in text
form_in None None (Some text) = fill_in text
form_in None None None = None

abbrev pub data_in : List ℕ → Option (List ℕ)
data_in text = form_in (after (codes "\"") text) (after (codes "hex:") text) (after (codes "fill:") text)
