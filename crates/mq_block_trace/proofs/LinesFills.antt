-- What the lines of a text write: the blocks that they set, by rising number.
use Rattle.std.proofs.Common.{◌≡◌, ◌≢◌, ◌<◌, ◌≤◌, ⊎_elim, ℕ, zero, suc, ◌+◌, ◌-◌, List, [], ◌∷◌, length, get_or, Option, Some, None, refl, sym, ◌∙◌, ap, subst, arith}
use Rattle.std.proofs.lemmas.Bool.{cases_eq}
use Rattle.std.proofs.lemmas.Bool.Decides.{nat_tests}
use Rattle.mq_blocks.specs.Machine.{Writes}
use Rattle.mq_block_text.specs.Text.{AreGoodItems, AreGoodLines, IsGoodItem, IsUnnamed, sets_in}
use Rattle.mq_block_text.specs.declared.item.BlockItem.{BlockItem}
use Rattle.mq_block_text.specs.declared.item.BlockItem.TheVariants.{Set, Free}
use Rattle.mq_block_trace.specs.Lines.{set_in, with_write, writes_from, named}

abbrev pub Fill : Type 0
Fill = ℕ → Option ℕ

pub named_is : named ≡ 256
unfolding named
named_is = refl

pub writes_at : (f : Fill) (n b : ℕ) → b < n → writes_from f b (n - b) ≡ with_write b (f b) (writes_from f (b + 1) (n - (b + 1)))
writes_at f n b less = ap (writes_from f b) (let e : n - b ≡ suc (n - (b + 1)) = omega arith in e)

pub writes_first : (f : Fill) → writes_from f 0 named ≡ writes_from f 0 (named - 0)
writes_first f = ap (writes_from f 0) (let e : named ≡ named - 0 = omega arith in e)

pub writes_last : (f : Fill) (b : ℕ) → 256 ≤ b → writes_from f b (named - b) ≡ []
writes_last f b past = ap (writes_from f b) (let e : named - b ≡ 0 = omega (arith, named_is) in e)

-- fills that agree write the same
pub writes-along : (f g : Fill) (b n : ℕ) → ((k : ℕ) → b ≤ k → k < b + n → f k ≡ g k) → writes_from f b n ≡ writes_from g b n
writes-along f g b zero same = refl
writes-along f g b (suc n) same =
    let here = same b (omega arith) (omega arith) in
    let rest = writes-along f g (b + 1) n (λ k low high. same k (omega arith) (omega arith)) in
    λ i. with_write b (here i) (rest i)

length_step : (b : ℕ) (o : Option ℕ) (ws : Writes) → length (with_write b o ws) ≤ length ws + 1
length_step b None ws = omega arith
length_step b (Some v) ws = omega arith

pub length-writes : (f : Fill) (b n : ℕ) → length (writes_from f b n) ≤ n
length-writes f b zero = omega arith
length-writes f b (suc n) = omega (arith, length_step b (f b) (writes_from f (b + 1) n), length-writes f (b + 1) n)

pub good_at : (is : List BlockItem) (k : ℕ) (d : BlockItem) → k < length is → AreGoodItems is → IsGoodItem (get_or is k d)
good_at [] k d less good = absurd (omega arith)
good_at (i ∷ is) zero d less good = good.0
good_at (i ∷ is) (suc k) d less good = good_at is k d (omega arith) good.2

pub good_set : (i : BlockItem) (b v : ℕ) → i ≡ Set b v → IsGoodItem i → b < 256
good_set i b v is good = let at : IsGoodItem (Set b v) = subst IsGoodItem is good in let low : b ≤ 255 = at.0 in omega arith

past_set : (is : List BlockItem) (c v b n : ℕ) → c < b → writes_from (set_in (Set c v ∷ is)) b n ≡ writes_from (set_in is) b n
past_set is c v b n past = writes-along (set_in (Set c v ∷ is)) (set_in is) b n (λ k low high. grind (arith, nat_tests))

pub not_set : (is : List BlockItem) (c : ℕ) → IsUnnamed c is → set_in is c ≡ None
not_set [] c unnamed = refl
not_set (Set d v ∷ is) c unnamed = let ne : c ≢ d = unnamed.0 in let rest : set_in is c ≡ None = not_set is c unnamed.1 in grind (arith, nat_tests)
not_set (Free d ∷ is) c unnamed = not_set is c unnamed.1

-- a write more, and one write more before it
one_there : (b v : ℕ) (o p : Option ℕ) (ws txs : Writes) → o ≡ Some v → p ≡ None → ws ≡ txs → length (with_write b o ws) ≡ length (with_write b p txs) + 1
one_there b v None p ws txs some none same = cc
one_there b v (Some w) None ws txs some none same = let e : length ws ≡ length txs = ap length same in omega arith
one_there b v (Some w) (Some x) ws txs some none same = cc

one_later : (b : ℕ) (o : Option ℕ) (ws txs : Writes) → length ws ≡ length txs + 1 → length (with_write b o ws) ≡ length (with_write b o txs) + 1
one_later b None ws txs more = more
one_later b (Some v) ws txs more = omega arith

set_more : (is : List BlockItem) (c v b n : ℕ) → IsUnnamed c is → b ≤ c → c < b + n → length (writes_from (set_in (Set c v ∷ is)) b n) ≡ length (writes_from (set_in is) b n) + 1
set_more is c v b zero unnamed low high = absurd (omega arith)
set_more is c v b (suc n) unnamed low high = ⊎_elim
    (λ here.
    let none : set_in is b ≡ None = ap (set_in is) (sym here) ∙ not_set is c unnamed in
    let some : set_in (Set c v ∷ is) b ≡ Some v = let e : c ≡ b = here in grind (arith, nat_tests) in
    one_there b v (set_in (Set c v ∷ is) b) (set_in is b) (writes_from (set_in (Set c v ∷ is)) (b + 1) n) (writes_from (set_in is) (b + 1) n) some none (past_set is c v (b + 1) n (omega arith)))
    (λ other.
    let ne : c ≢ b = other in
    let same : set_in (Set c v ∷ is) b ≡ set_in is b = grind (arith, nat_tests) in
    ap (λ (o : Option ℕ). length (with_write b o (writes_from (set_in (Set c v ∷ is)) (b + 1) n))) same
    ∙ one_later b (set_in is b) (writes_from (set_in (Set c v ∷ is)) (b + 1) n) (writes_from (set_in is) (b + 1) n) (set_more is c v (b + 1) n unnamed (omega arith) (omega arith)))
    (cases_eq c b)

none_written : (b n : ℕ) → length (writes_from (set_in []) b n) ≡ 0
none_written b zero = refl
none_written b (suc n) = none_written (b + 1) n

pub length-writes_sets : (is : List BlockItem) → AreGoodItems is → length (writes_from (set_in is) 0 named) ≡ sets_in is
length-writes_sets [] good = none_written 0 named
length-writes_sets (Set c v ∷ is) good =
    let small : c ≤ 255 = good.0.0 in
    let more = set_more is c v 0 named good.1 (omega arith) (omega (arith, named_is)) in
    omega (arith, more, length-writes_sets is good.2)
length-writes_sets (Free c ∷ is) good = length-writes_sets is good.2

pub good_line_at : (lines : List (List BlockItem)) (n : ℕ) → n < length lines → AreGoodLines lines → AreGoodItems (get_or lines n [])
good_line_at [] n less good = absurd (omega arith)
good_line_at ([] ∷ ls) zero less good = absurd good.0
good_line_at ((i ∷ is) ∷ ls) zero less good = good.0
good_line_at (l ∷ ls) (suc n) less good = good_line_at ls n (omega arith) good.1
