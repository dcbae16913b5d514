-- The items of lines: one more item, and the table of the blocks that they name.
use Rattle.std.proofs.Common.{◌≡◌, ◌≢◌, ℕ, Bool, true, false, ◌+◌, ◌<◌, List, [], ◌∷◌, ◌++◌, length, get_or, set, take, drop, sym, ◌∙◌, ap, subst, refl, inl, inr, arith, length-set, get_or-set_other, get_or-set_same, zero, suc}
use Rattle.std.specs.Prelude.{map, replicate}
use Rattle.std.proofs.lemmas.Bool.{cases_eq, false≢true}
use Rattle.std.proofs.lemmas.List.{map-append, take-append-drop, take_more, drop_more}
use Rattle.mq_block_text.specs.declared.item.BlockItem.{BlockItem}
use Rattle.mq_block_text.specs.Text.{block_of, IsGoodItem, IsUnnamed, AreGoodItems}
use Rattle.mq_block_text.proofs.TextItems.{block_low}

-- a list at an index: what is before it, the element, and what is after it
pub map_parts : {A B : Type 0} (f : A → B) (xs : List A) (i : ℕ) (d : A) → i < length xs → map f xs ≡ map f (take i xs) ++ f (get_or xs i d) ∷ map f (drop (i + 1) xs)
map_parts f xs i d h =
    ap (map f) (sym (take-append-drop i xs)) ∙ map-append f (take i xs) (drop i xs) ∙ ap (λ t. map f (take i xs) ++ map f t) (drop_more xs i d h)

-- the same where what is before it is given
pub told_parts :
    {A B W : Type 0} (now : W → B) (f : A → B) (words : List W) (i : ℕ) (d : W) (xs : List A) → i < length words → map now (take i words) ≡ map f xs
    → map now words ≡ map f xs ++ now (get_or words i d) ∷ map now (drop (i + 1) words)
told_parts now f words i d xs h told = map_parts now words i d h ∙ ap (λ t. t ++ now (get_or words i d) ∷ map now (drop (i + 1) words)) told

pub map_take_more : {A B : Type 0} (f : A → B) (xs : List A) (i : ℕ) (d : A) → i < length xs → map f (take (i + 1) xs) ≡ map f (take i xs) ++ f (get_or xs i d) ∷ []
map_take_more f xs i d h = ap (map f) (take_more xs i d h) ∙ map-append f (take i xs) (get_or xs i d ∷ [])

-- a step of a loop over words, or over lines
pub told_push :
    {A W : Type 0} (now : W → List ℕ) (f : A → List ℕ) (words : List W) (k : ℕ) (d : W) (xs : List A) (x : A) → k < length words
    → map now (take k words) ≡ map f xs → now (get_or words k d) ≡ f x
    → map now (take (k + 1) words) ≡ map f (xs ++ x ∷ [])
told_push now f words k d xs x h told e =
    map_take_more now words k d h ∙ ap (λ t. t ++ now (get_or words k d) ∷ []) told
    ∙ ap (λ t. map f xs ++ t ∷ []) e ∙ sym (map-append f xs (x ∷ []))

pub unnamed_push : (b : ℕ) (items : List BlockItem) (i : BlockItem) → IsUnnamed b items → b ≢ block_of i → IsUnnamed b (items ++ i ∷ [])
unnamed_push b [] i u n = (n, tt)
unnamed_push b (j ∷ items) i u n = (u.0, unnamed_push b items i u.1 n)

pub unnamed_at : (b : ℕ) (items : List BlockItem) (i : BlockItem) (rest : List BlockItem) → IsUnnamed b (items ++ i ∷ rest) → b ≢ block_of i
unnamed_at b [] i rest u = u.0
unnamed_at b (j ∷ items) i rest u = unnamed_at b items i rest u.1

pub unnamed_front : (b : ℕ) (items rest : List BlockItem) → IsUnnamed b (items ++ rest) → IsUnnamed b items
unnamed_front b [] rest u = tt
unnamed_front b (j ∷ items) rest u = (u.0, unnamed_front b items rest u.1)

-- no item before this one names its block
pub unnamed_before : (items : List BlockItem) (i : BlockItem) (rest : List BlockItem) → AreGoodItems (items ++ i ∷ rest) → IsUnnamed (block_of i) items
unnamed_before [] i rest good = tt
unnamed_before (j ∷ items) i rest good = (λ e. unnamed_at (block_of j) items i rest good.1 (sym e), unnamed_before items i rest good.2)

pub good_at : (items : List BlockItem) (i : BlockItem) (rest : List BlockItem) → AreGoodItems (items ++ i ∷ rest) → IsGoodItem i
good_at [] i rest good = good.0
good_at (j ∷ items) i rest good = good_at items i rest good.2

pub good_push : (items : List BlockItem) (i : BlockItem) → AreGoodItems items → IsGoodItem i → IsUnnamed (block_of i) items → AreGoodItems (items ++ i ∷ [])
good_push [] i good h u = (h, tt, tt)
good_push (j ∷ items) i good h u = (good.0, unnamed_push (block_of j) items i good.1 (λ e. u.0 (sym e)), good_push items i good.2 h u.1)

-- a table of the blocks that items name
pub record IsTable (named : List Bool) (items : List BlockItem) : Type 0 where
  pub long : length named ≡ 256
  pub marked : (k : ℕ) → get_or named k false ≡ true → IsUnnamed k items → ⊥
  pub unmarked : (k : ℕ) → k < 256 → get_or named k false ≡ false → IsUnnamed k items

no_mark : (n k : ℕ) → get_or (replicate n false) k false ≡ true → ⊥
no_mark zero k h = false≢true h
no_mark (suc n) zero h = false≢true h
no_mark (suc n) (suc k) h = no_mark n k h

pub table_none : IsTable (replicate 256 false) []
table_none = record {
  long = refl;
  marked = λ k h u. no_mark 256 k h;
  unmarked = λ k h e. tt;
}

pub table_push :
    (named : List Bool) (items : List BlockItem) (b : ℕ) (i : BlockItem) → IsTable named items → IsGoodItem i → b ≡ block_of i
    → IsTable (set named b true) (items ++ i ∷ [])
table_push named items b i t h e =
    let small : b < length named = omega (arith, block_low i h, t.long) in
    record {
      long = length-set named b true ∙ t.long;
      marked = λ k m u.
          elim (cases_eq k b) [
            | inl same ↦ unnamed_at k items i [] u (same ∙ e)
            | inr other ↦ t.marked k (sym (get_or-set_other named b k true false other) ∙ m) (unnamed_front k items (i ∷ []) u)
          ];
      unmarked = λ k low m.
          elim (cases_eq k b) [
            | inl same ↦ absurd (false≢true (sym m ∙ ap (λ j. get_or (set named b true) j false) same ∙ get_or-set_same named b true false small))
            | inr other ↦ unnamed_push k items i (t.unmarked k low (sym (get_or-set_other named b k true false other) ∙ m)) (λ q. other (q ∙ sym e))
          ];
    }

-- a block in the table is named
pub named_twice : (named : List Bool) (items : List BlockItem) (b : ℕ) (i : BlockItem) → IsTable named items → get_or named b false ≡ true → b ≡ block_of i → IsUnnamed (block_of i) items → ⊥
named_twice named items b i t m e unnamed = t.marked b m (rw e unnamed)

-- a block that is not in the table is new
pub unnamed_new :
    (named : List Bool) (items : List BlockItem) (b : ℕ) (i : BlockItem) → IsTable named items → IsGoodItem i → get_or named b false ≡ false
    → b ≡ block_of i → IsUnnamed (block_of i) items
unnamed_new named items b i t h m e =
    let P : ℕ → Type 0 = λ k. IsUnnamed k items in
    let small : b < 256 = omega (arith, block_low i h) in
    subst P e (t.unmarked b small m)
