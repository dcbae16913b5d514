-- Printed words are read again.
use Rattle.std.proofs.Common.{◌≡◌, ◌≢◌, ℕ, Bool, true, false, eqb, cond, Some, ◌/◌, ◌%◌, List, [], ◌∷◌, ◌++◌, sym, ◌∙◌, ap, refl, arith, append-nil}
use Rattle.std.specs.Prelude.{◌||◌, codes}
use Rattle.std.specs.List.{AllByRecursion, list_all, list_any, slice_split}
use Rattle.std.proofs.lemmas.List.Splits.{slice_split_none, slice_split_at}
use Rattle.std.proofs.lemmas.Bool.{and_parts}
use Rattle.mq_block_text.specs.Text.{hex_digit}
use Rattle.mq_block_text.proofs.TextParts.{Avoids}
use Rattle.mq_block_text.proofs.WordsDigits.{byte_written}
use Rattle.mq_block_text.proofs.WordsLines.{avoids}
use Rattle.mq_script.specs.Grammar.{is_letter, IsPath, AreBytes}
use Rattle.mq_script.specs.Printing.{pairs_text, is_quotable, data_text}
use Rattle.mq_script.specs.Words.{data_in, names_in, onto, pairs_in, path_in}
use Rattle.mq_script.proofs.WordsData.{is_quote, quoted_whole}
use Rattle.mq_tree.specs.Listings.{names_text, path_text}

-- ---- paths

letter_slash : (b : ℕ) → is_letter b ≡ true → eqb b 47 ≡ false
letter_slash b h = grind arith

no_slash : (name : List ℕ) → list_all is_letter name ≡ true → Avoids 47 name
no_slash name h = avoids is_letter 47 letter_slash name h

names_split : (name : List ℕ) (names : List (List ℕ)) → AllByRecursion (λ n. list_all is_letter n ≡ true) (name ∷ names) → slice_split (λ b. eqb b 47) (name ++ names_text names) ≡ name ∷ names
names_split name [] h = ap (slice_split (λ b. eqb b 47)) (append-nil name) ∙ slice_split_none (λ b. eqb b 47) name (no_slash name h.0)
names_split name (next ∷ names) h =
    slice_split_at (λ b. eqb b 47) name 47 (next ++ names_text names) (no_slash name h.0) refl ∙ ap (λ t. name ∷ t) (names_split next names h.1)

names_of : (name : List ℕ) (names : List (List ℕ)) → (name ∷ names ≢ [] ∷ []) → names_in (name ++ names_text names) ≡ slice_split (λ b. eqb b 47) (name ++ names_text names)
names_of [] [] h = absurd (h refl)
names_of [] (next ∷ names) h = refl
names_of (b ∷ name) names h = refl

pub path_again : (names : List (List ℕ)) → IsPath names → path_in (path_text names) ≡ Some names
path_again [] is = refl
path_again (name ∷ names) is = ap Some (names_of name names is.not_root ∙ names_split name names is.letters)

-- ---- data

quotable_other : (b : ℕ) → is_quotable b ≡ true → is_quote b ≡ false
quotable_other b h = grind arith

neither : (a b : Bool) → a ≡ false → b ≡ false → (a || b) ≡ false
neither a b p q = rw (p, q) refl

no_quote : (bytes : List ℕ) → list_all is_quotable bytes ≡ true → list_any is_quote bytes ≡ false
no_quote [] h = refl
no_quote (b ∷ bytes) h =
    neither (is_quote b) (list_any is_quote bytes) (quotable_other b (and_parts (is_quotable b) (list_all is_quotable bytes) h).0) (no_quote bytes (and_parts (is_quotable b) (list_all is_quotable bytes) h).1)

pairs_again : (bytes : List ℕ) → AreBytes bytes → pairs_in (pairs_text bytes) ≡ Some bytes
pairs_again [] h = refl
pairs_again (b ∷ bytes) h =
    ap (λ o. onto o (pairs_in (pairs_text bytes))) (sym (byte_written b (hex_digit (b / 16)) (hex_digit (b % 16)) h.0 refl))
    ∙ ap (λ o. onto (Some b) o) (pairs_again bytes h.1)

data_step : (bytes : List ℕ) (t : Bool) → list_all is_quotable bytes ≡ t → AreBytes bytes → data_in (cond t (34 ∷ bytes ++ 34 ∷ []) (codes "hex:" ++ pairs_text bytes)) ≡ Some bytes
data_step bytes true e h = quoted_whole bytes (no_quote bytes e)
data_step bytes false e h = pairs_again bytes h

pub data_again : (bytes : List ℕ) → AreBytes bytes → data_in (data_text bytes) ≡ Some bytes
data_again bytes h = data_step bytes (list_all is_quotable bytes) refl h
