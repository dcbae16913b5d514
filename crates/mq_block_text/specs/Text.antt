-- Block texts. A line is one transaction, and its items are separated by one space.
use Rattle.std.specs.Prelude.{◌≡◌, ◌≢◌, ◌<◌, ◌≤◌, ◌⊎◌, ℕ, ◌+◌, ◌^◌, ◌/◌, ◌%◌, List, [], ◌∷◌, ◌++◌, nat_lt, if◌then◌else◌, codes}
use Rattle.std.specs.Fmt.{decimal}
use Rattle.mq_block_text.specs.declared.item.BlockItem.{BlockItem}
use Rattle.mq_block_text.specs.declared.item.BlockItem.TheVariants.{Set, Free}

-- the decimal digits of a number, the highest first, and `0` for 0
abbrev pub number_text : ℕ → List ℕ
number_text n = decimal n

-- the lower-case hexadecimal digit of a number below 16
abbrev pub hex_digit : ℕ → ℕ
hex_digit d = if nat_lt d 10 then 48 + d else 87 + d

-- the two hexadecimal digits of a byte
abbrev pub hex_text : ℕ → List ℕ
hex_text v = hex_digit (v / 16) ∷ hex_digit (v % 16) ∷ []

-- `5=ab` sets block 5 to bytes 0xab
abbrev pub set_text : (b v : ℕ) → List ℕ
set_text b v = number_text b ++ 61 ∷ hex_text v

-- `-5` frees block 5
abbrev pub free_text : ℕ → List ℕ
free_text b = 45 ∷ number_text b

abbrev pub item_text : BlockItem → List ℕ
item_text (Set b v) = set_text b v
item_text (Free b) = free_text b

-- the items, with one space between each two
abbrev pub line_text : List BlockItem → List ℕ
line_text [] = []
line_text (i ∷ []) = item_text i
line_text (i ∷ j ∷ is) = item_text i ++ 32 ∷ line_text (j ∷ is)

-- the lines, each with a line feed at its end
abbrev pub text_of : List (List BlockItem) → List ℕ
text_of [] = []
text_of (l ∷ ls) = line_text l ++ 10 ∷ text_of ls

-- there is a last line, and it has an item
abbrev pub EndsInItem : List (List BlockItem) → Type 0
EndsInItem [] = ⊥
EndsInItem ([] ∷ []) = ⊥
EndsInItem ((i ∷ is) ∷ []) = Unit {0}
EndsInItem (l ∷ m ∷ ls) = EndsInItem (m ∷ ls)

-- the bytes spell the lines; the last line feed may be missing if the last line has an item
abbrev pub IsTextOf : List ℕ → List (List BlockItem) → Type 0
IsTextOf bytes lines = (bytes ≡ text_of lines) ⊎ ((bytes ++ 10 ∷ [] ≡ text_of lines) × EndsInItem lines)

abbrev pub block_of : BlockItem → ℕ
block_of (Set b v) = b
block_of (Free b) = b

-- an item in the form, which may name any block below 2^64
abbrev pub HasForm : BlockItem → Type 0
HasForm (Set b v) = (b < 2 ^ 64) × (v ≤ 255)
HasForm (Free b) = b < 2 ^ 64

-- block texts name the blocks up to 255 alone
abbrev pub IsGoodItem : BlockItem → Type 0
IsGoodItem (Set b v) = (b ≤ 255) × (v ≤ 255)
IsGoodItem (Free b) = b ≤ 255

-- none of the items names the block
abbrev pub IsUnnamed : ℕ → List BlockItem → Type 0
IsUnnamed b [] = Unit {0}
IsUnnamed b (i ∷ is) = (b ≢ block_of i) × IsUnnamed b is

-- good items, no two of one block
abbrev pub AreGoodItems : List BlockItem → Type 0
AreGoodItems [] = Unit {0}
AreGoodItems (i ∷ is) = IsGoodItem i × IsUnnamed (block_of i) is × AreGoodItems is

-- a good line has an item
abbrev pub IsGoodLine : List BlockItem → Type 0
IsGoodLine [] = ⊥
IsGoodLine (i ∷ is) = AreGoodItems (i ∷ is)

abbrev pub AreGoodLines : List (List BlockItem) → Type 0
AreGoodLines [] = Unit {0}
AreGoodLines (l ∷ ls) = IsGoodLine l × AreGoodLines ls

-- the items that set a block
abbrev pub sets_in : List BlockItem → ℕ
sets_in [] = 0
sets_in (Set b v ∷ is) = 1 + sets_in is
sets_in (Free b ∷ is) = sets_in is

-- the places of a journal area that the lines take: one for each item that sets a block, and one
-- for each line's descriptor
abbrev pub places_of : List (List BlockItem) → ℕ
places_of [] = 0
places_of (l ∷ ls) = sets_in l + 1 + places_of ls

-- good lines, which fit the smallest journal area
abbrev pub IsGoodText : List (List BlockItem) → Type 0
IsGoodText lines = AreGoodLines lines × (places_of lines ≤ 1024)

-- the lines of blocks and their bytes, as `5 ab`
abbrev pub live_text : List (ℕ × ℕ) → List ℕ
live_text [] = []
live_text (e ∷ es) = number_text e.0 ++ 32 ∷ hex_text e.1 ++ 10 ∷ live_text es

-- what is printed of the blocks that are not free, after the number of lines that count
abbrev pub printed : ℕ → List (ℕ × ℕ) → List ℕ
printed prefix live = codes "prefix " ++ number_text prefix ++ 10 ∷ live_text live
