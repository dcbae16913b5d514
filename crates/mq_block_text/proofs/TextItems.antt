-- The texts of items: where they are cut, and that no two items have one text.
use Rattle.std.proofs.Common.{◌≡◌, ℕ, Option, Some, None, ◌-◌, ◌^◌, ◌/◌, ◌%◌, ◌<◌, ◌≤◌, List, [], ◌∷◌, ◌++◌, length, get_or, take, drop, sym, ◌∙◌, ap, subst, refl, arith, length-append}
use Rattle.std.proofs.Math.ListN.{get_or-append}
use Rattle.std.proofs.Math.Seq.{take-append_seam, drop-append_seam}
use Rattle.std.proofs.lemmas.Fmt.{decimal_injective, decimal_nonempty}
use Rattle.mq_block_text.specs.declared.item.BlockItem.{BlockItem}
use Rattle.mq_block_text.specs.declared.item.BlockItem.TheVariants.{Set, Free}
use Rattle.mq_block_text.specs.declared.refusal.BlockTextCause.{BlockTextCause}
use Rattle.mq_block_text.specs.declared.refusal.BlockTextCause.TheVariants.{Block}
use Rattle.mq_block_text.specs.Refusals.{RefusesWord}
use Rattle.mq_block_text.specs.Text.{block_of, number_text, hex_digit, hex_text, set_text, free_text, item_text, HasForm, IsGoodItem}
use Rattle.mq_block_text.proofs.TextNumbers.{decimal_digits}

-- three bytes at the end of a text are cut off
pub cut : (text ds tail : List ℕ) → text ≡ ds ++ tail → length tail ≡ 3 → (take (length text - 3) text ≡ ds) × (drop (length text - 3) text ≡ tail)
cut text ds tail e three =
    let n : length text - 3 ≡ length ds = omega (arith, ap length e, length-append ds tail) in
    rw (n, e) (take-append_seam ds tail, drop-append_seam ds tail)

pub number_at : (text front : List ℕ) (b v : ℕ) → front ≡ take (length text - 3) text → text ≡ set_text b v → front ≡ number_text b
number_at text front b v f e = f ∙ (cut text (number_text b) (61 ∷ hex_text v) e refl).0

pub hex_at : (text back : List ℕ) (b v : ℕ) → back ≡ drop (length text - 3) text → text ≡ set_text b v → get_or back 1 0 ∷ get_or back 2 0 ∷ [] ≡ hex_text v
hex_at text back b v f e =
    let g : back ≡ 61 ∷ hex_text v = f ∙ (cut text (number_text b) (61 ∷ hex_text v) e refl).1 in
    ap (λ (l : List ℕ). get_or l 1 0 ∷ get_or l 2 0 ∷ []) g

pub none-some : {A : Type 0} (x : A) → ◌≡◌ {A = Option A} None (Some x) → ⊥
none-some x e = cc

-- a text that is no item
pub no_item :
    (text : List ℕ) (r : Option (ℕ × ℕ)) (f : Option ℕ) → ((b v : ℕ) → b < 2 ^ 64 → v ≤ 255 → text ≡ set_text b v → r ≡ Some (b, v)) → ((b : ℕ) → b < 2 ^ 64 → text ≡ free_text b → f ≡ Some b)
    → r ≡ None → f ≡ None → (i : BlockItem) → HasForm i → text ≡ item_text i → ⊥
no_item text r f sets frees no_set no_free (Set b v) form e = none-some (b, v) (sym no_set ∙ sets b v form.0 form.1 e)
no_item text r f sets frees no_set no_free (Free b) form e = none-some b (sym no_free ∙ frees b form e)

hex_digit_injective : (c d : ℕ) → c < 16 → d < 16 → hex_digit c ≡ hex_digit d → c ≡ d
hex_digit_injective c d x y e = grind arith

hex_text_injective : (v w : ℕ) → v < 256 → w < 256 → hex_text v ≡ hex_text w → v ≡ w
hex_text_injective v w x y e =
    let high : v / 16 ≡ w / 16 = hex_digit_injective (v / 16) (w / 16) (omega arith) (omega arith) (ap (λ (l : List ℕ). get_or l 0 0) e) in
    let low : v % 16 ≡ w % 16 = hex_digit_injective (v % 16) (w % 16) (omega arith) (omega arith) (ap (λ (l : List ℕ). get_or l 1 0) e) in
    omega arith

-- what begins with a number begins with no minus
no_minus : (b : ℕ) (more rest : List ℕ) → b < 2 ^ 64 → number_text b ++ more ≡ 45 ∷ rest → ⊥
no_minus b more rest small e =
    let some = decimal_nonempty b small in
    let first = get_or-append (number_text b) more 0 0 some in
    let digit = decimal_digits b small 0 0 some in
    let minus : get_or (number_text b ++ more) 0 0 ≡ 45 = ap (λ (l : List ℕ). get_or l 0 0) e in
    omega arith

-- no two items have one text
pub item_text_injective : (i j : BlockItem) → HasForm i → HasForm j → item_text i ≡ item_text j → i ≡ j
item_text_injective (Set b v) (Set c w) x y e =
    let one = cut (set_text b v) (number_text b) (61 ∷ hex_text v) refl refl in
    let other = cut (set_text b v) (number_text c) (61 ∷ hex_text w) e refl in
    let same_block : b ≡ c = decimal_injective b c x.0 y.0 (sym one.0 ∙ other.0) in
    let same_hex : hex_text v ≡ hex_text w = ap (drop 1) (sym one.1 ∙ other.1) in
    let same_byte : v ≡ w = hex_text_injective v w (omega arith) (omega arith) same_hex in
    cc
item_text_injective (Set b v) (Free c) x y e = absurd (no_minus b (61 ∷ hex_text v) (number_text c) x.0 e)
item_text_injective (Free b) (Set c w) x y e = absurd (no_minus c (61 ∷ hex_text w) (number_text b) y.0 (sym e))
item_text_injective (Free b) (Free c) x y e = ap Free (decimal_injective b c x y (ap (drop 1) e))

pub good_form : (i : BlockItem) → IsGoodItem i → HasForm i
good_form (Set b v) good = (omega arith, good.1)
good_form (Free b) good = omega arith

pub block_low : (i : BlockItem) → IsGoodItem i → block_of i ≤ 255
block_low (Set b v) good = good.0
block_low (Free b) good = good

-- an item has bytes
pub item_some : (i : BlockItem) → HasForm i → item_text i ≡ [] → ⊥
item_some (Set b v) form e =
    let none : length (number_text b ++ 61 ∷ hex_text v) ≡ 0 = ap length e in
    omega (arith, length-append (number_text b) (61 ∷ hex_text v))
item_some (Free b) form e = let none : length (free_text b) ≡ 0 = ap length e in omega arith

-- an item of a block that is too high is refused for it
pub block_refused : (text : List ℕ) (cause : BlockTextCause) (i : BlockItem) → HasForm i → 255 < block_of i → text ≡ item_text i → cause ≡ Block → (before : List BlockItem) → RefusesWord before text cause
block_refused text cause i form high is e before = let P : BlockTextCause → Type 0 = λ c. RefusesWord before text c in subst P (sym e) (i, form, high, is)
