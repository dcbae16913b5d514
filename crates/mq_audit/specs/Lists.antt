-- Lists of words: blocks with their bytes, blocks alone, and the parts between words.
use Rattle.std.specs.Prelude.{ℕ, ◌+◌, nat_le, if◌then◌else◌, Option, Some, None, List, [], ◌∷◌, bytes_eq, replicate}
use Rattle.std.specs.Option.{option_map}
use Rattle.mq_blocks.specs.declared.geometry.Geometry.{Geometry}
use Rattle.mq_audit.specs.Answers.{and_then}
use Rattle.mq_audit.specs.Words.{block_in, set_in}

-- What is read of these words, each by its own, with numbers in rising order from one on.
abbrev pub rising_in : {A : Type 0} → (A → ℕ) → (List ℕ → Option A) → ℕ → List (List ℕ) → Option (List A)
rising_in key read low [] = Some []
rising_in key read low (w ∷ ws) =
    and_then (read w) (λ x. if nat_le low (key x)
    then option_map (λ xs. x ∷ xs) (rising_in key read (key x + 1) ws) else None)

-- a block with 4,096 times its byte
abbrev pub content_in : Geometry → List ℕ → Option (ℕ × List ℕ)
content_in g word = option_map (λ s. (s.0, replicate 4096 s.1)) (set_in g word)

-- blocks in rising order, with their contents
abbrev pub sets_in : Geometry → ℕ → List (List ℕ) → Option (List (ℕ × List ℕ))
sets_in g low words = rising_in (λ s. s.0) (content_in g) low words

-- blocks in rising order
abbrev pub blocks_in : Geometry → ℕ → List (List ℕ) → Option (List ℕ)
blocks_in g low words = rising_in (λ b. b) (block_in g) low words

-- what follows this word, where it is the first
abbrev pub headed : List ℕ → List (List ℕ) → Option (List (List ℕ))
headed word [] = None
headed word (w ∷ ws) = if bytes_eq w word then Some ws else None

-- the words before this one, where it first stands, and those after it
abbrev pub cut_by : List ℕ → List (List ℕ) → Option (List (List ℕ) × List (List ℕ))
cut_by word [] = None
cut_by word (w ∷ ws) =
    if bytes_eq w word then Some ([], ws)
    else option_map (λ parts. (w ∷ parts.0, parts.1)) (cut_by word ws)
