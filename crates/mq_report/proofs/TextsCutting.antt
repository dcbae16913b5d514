-- The lines of a report, and the words of each line, are cut where they were joined.
use Rattle.std.proofs.Common.{◌≡◌, ◌∙◌, ℕ, eqb, List, [], ◌∷◌, ◌++◌, length, refl, sym, ap, arith}
use Rattle.std.specs.List.{slice_split}
use Rattle.std.proofs.lemmas.Bool.{eq-eqb}
use Rattle.std.proofs.lemmas.List.{append-nil}
use Rattle.std.proofs.lemmas.List.Splits.{slice_split_none, slice_split_at}
use Rattle.mq_report.specs.Texts.{Words, after_spaces, spaced, spelled}
use Rattle.mq_block_text.proofs.TextParts.{Avoids}

-- a line has a word, and no word has a space
abbrev pub IsLine : Words → Type 0
IsLine [] = ⊥
IsLine (w ∷ []) = Avoids 32 w
IsLine (w ∷ v ∷ ws) = Avoids 32 w × IsLine (v ∷ ws)

words-from : (w : List ℕ) (ws : Words) → IsLine (w ∷ ws) → slice_split (λ b. eqb b 32) (w ++ after_spaces ws) ≡ w ∷ ws
words-from w [] h = ap (slice_split (λ b. eqb b 32)) (append-nil w) ∙ slice_split_none (λ b. eqb b 32) w h
words-from w (v ∷ ws) h = slice_split_at (λ b. eqb b 32) w 32 (v ++ after_spaces ws) h.0 (eq-eqb 32 32 refl) ∙ ap (λ t. w ∷ t) (words-from v ws h.1)

words-of : (ws : Words) → IsLine ws → slice_split (λ b. eqb b 32) (spaced ws) ≡ ws
words-of [] h = absurd h
words-of (w ∷ ws) h = words-from w ws h

-- each line is one, and has no line feed
abbrev pub AreLines : List Words → Type 0
AreLines [] = Unit {0}
AreLines (l ∷ ls) = IsLine l × Avoids 10 (spaced l) × AreLines ls

-- the lines of a text, and an empty rest
abbrev cut : List Words → Words
cut [] = [] ∷ []
cut (l ∷ ls) = spaced l ∷ cut ls

lines-of : (ls : List Words) → AreLines ls → slice_split (λ b. eqb b 10) (spelled ls) ≡ cut ls
lines-of [] h = refl
lines-of (l ∷ ls) h = slice_split_at (λ b. eqb b 10) (spaced l) 10 (spelled ls) h.1 (eq-eqb 10 10 refl) ∙ ap (λ t. spaced l ∷ t) (lines-of ls h.2)

abbrev head : Words → List ℕ
head [] = []
head (w ∷ ws) = w

abbrev tail : Words → Words
tail [] = []
tail (w ∷ ws) = ws

-- the same texts have the same words, line by line
same-cut : (ls ms : List Words) → AreLines ls → AreLines ms → cut ls ≡ cut ms → ls ≡ ms
same-cut [] [] h k e = refl
same-cut [] (m ∷ []) h k e = absurd (omega (arith, ap length e))
same-cut [] (m ∷ n ∷ ms) h k e = absurd (omega (arith, ap length e))
same-cut (l ∷ []) [] h k e = absurd (omega (arith, ap length e))
same-cut (l ∷ n ∷ ls) [] h k e = absurd (omega (arith, ap length e))
same-cut (l ∷ ls) (m ∷ ms) h k e =
    let first : l ≡ m = sym (words-of l h.0) ∙ ap (λ t. slice_split (λ b. eqb b 32) (head t)) e ∙ words-of m k.0 in
    let rest : ls ≡ ms = same-cut ls ms h.2 k.2 (ap tail e) in
    ap (λ t. t ∷ ls) first ∙ ap (λ t. m ∷ t) rest

pub same-words : (ls ms : List Words) → AreLines ls → AreLines ms → spelled ls ≡ spelled ms → ls ≡ ms
same-words ls ms h k e = same-cut ls ms h k (sym (lines-of ls h) ∙ ap (slice_split (λ b. eqb b 10)) e ∙ lines-of ms k)
