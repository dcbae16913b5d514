-- What a commit's line writes and frees, block by block.
use Rattle.std.proofs.Common.{◌≡◌, ◌<◌, ◌≤◌, ℕ, zero, suc, ◌+◌, ◌-◌, Bool, true, false, ◌&&◌, not, cond, List, [], ◌∷◌, ◌++◌, Option, Some, None, refl, sym, ◌∙◌, ap, subst, inl, inr, arith, append_assoc}
use Rattle.std.specs.Prelude.{is_some}
use Rattle.std.proofs.lemmas.Bool.{cases_eq, eq-eqb, ne_eqb}
use Rattle.std.proofs.lemmas.List.{append-nil}
use Rattle.mq_block_text.specs.Text.{AreGoodItems, IsUnnamed}
use Rattle.mq_block_text.specs.declared.item.BlockItem.{BlockItem}
use Rattle.mq_block_text.specs.declared.item.BlockItem.TheVariants.{Set, Free}
use Rattle.mq_block_trace.specs.Lines.{freed_in, named, with_write, writes_from}
use Rattle.mq_block_trace.specs.Marks.{AreMarked, AreMarks, dropped_from, marked}
use Rattle.mq_block_trace.proofs.LinesFills.{Fill, named_is, writes_at}
use Rattle.mq_block_trace.proofs.Pushed.{is_dropped}
use Rattle.mq_blocks.specs.Blocks.{filled}
use Rattle.mq_blocks.specs.Journal.{is_among}
use Rattle.mq_blocks.specs.Machine.{Map, Writes}
use Rattle.mq_loose_text.specs.Meaning.{freed_from}

-- ---- what a loop over the blocks has so far

dropped_at : (before after : List Bool) (b : ℕ) → b < 256
    → dropped_from before after b (named - b) ≡ cond (is_dropped before after b) (b ∷ dropped_from before after (b + 1) (named - (b + 1))) (dropped_from before after (b + 1) (named - (b + 1)))
dropped_at before after b less = ap (dropped_from before after b) (let e : named - b ≡ suc (named - (b + 1)) = omega (arith, named_is) in e)

pub drop_none : (before after : List Bool) (b : ℕ) (so_far all : List ℕ) → b < 256 → is_dropped before after b ≡ false → all ≡ so_far ++ dropped_from before after b (named - b) → all ≡ so_far ++ dropped_from before after (b + 1) (named - (b + 1))
drop_none before after b so_far all less none is =
    is ∙ ap (λ (bs : List ℕ). so_far ++ bs) (dropped_at before after b less ∙ ap (λ (t : Bool). cond t (b ∷ dropped_from before after (b + 1) (named - (b + 1))) (dropped_from before after (b + 1) (named - (b + 1)))) none)

pub drop_some : (before after : List Bool) (b : ℕ) (so_far all : List ℕ) → b < 256 → is_dropped before after b ≡ true → all ≡ so_far ++ dropped_from before after b (named - b)
    → all ≡ (so_far ++ b ∷ []) ++ dropped_from before after (b + 1) (named - (b + 1))
drop_some before after b so_far all less some is =
    is ∙ ap (λ (bs : List ℕ). so_far ++ bs) (dropped_at before after b less ∙ ap (λ (t : Bool). cond t (b ∷ dropped_from before after (b + 1) (named - (b + 1))) (dropped_from before after (b + 1) (named - (b + 1)))) some)
    ∙ sym (append_assoc so_far (b ∷ []) (dropped_from before after (b + 1) (named - (b + 1))))

pub drop_last : (before after : List Bool) (b : ℕ) (so_far all : List ℕ) → 256 ≤ b → all ≡ so_far ++ dropped_from before after b (named - b) → all ≡ so_far
drop_last before after b so_far all past is =
    is ∙ ap (λ (n : ℕ). so_far ++ dropped_from before after b n) (let e : named - b ≡ 0 = omega (arith, named_is, past) in e) ∙ append-nil so_far

-- ---- what is dropped is what is freed

unfreed : (is : List BlockItem) (c : ℕ) → IsUnnamed c is → is_among c (freed_in is) ≡ false
unfreed [] c un = refl
unfreed (Set d v ∷ is) c un = unfreed is c un.1
unfreed (Free d ∷ is) c un = ap (λ (t : Bool). cond t true (is_among c (freed_in is))) (ne_eqb d c (λ e. un.0 (sym e))) ∙ unfreed is c un.1

nothing : (t : Bool) → (t && not t) ≡ false
nothing true = refl
nothing false = refl

never : (t : Bool) → (t && not true) ≡ false
never true = refl
never false = refl

always : (t : Bool) → (t && not false) ≡ t
always true = refl
always false = refl

freed_mark : (is : List BlockItem) (b : ℕ) (t : Bool) → AreGoodItems is → (t && not (marked is b t)) ≡ (is_among b (freed_in is) && t)
freed_mark [] b t good = nothing t
freed_mark (Set c v ∷ is) b t good = elim (cases_eq c b) [
  | inl same ↦
      ap (λ (u : Bool). t && not (cond u true (marked is b t))) (eq-eqb c b same) ∙ never t
      ∙ sym (ap (λ (u : Bool). u && t) (subst (λ (k : ℕ). is_among k (freed_in is) ≡ false) same (unfreed is c good.1)))
  | inr other ↦ ap (λ (u : Bool). t && not (cond u true (marked is b t))) (ne_eqb c b other) ∙ freed_mark is b t good.2
]
freed_mark (Free c ∷ is) b t good = elim (cases_eq c b) [
  | inl same ↦
      ap (λ (u : Bool). t && not (cond u false (marked is b t))) (eq-eqb c b same) ∙ always t
      ∙ sym (ap (λ (u : Bool). cond u true (is_among b (freed_in is)) && t) (eq-eqb c b same))
  | inr other ↦
      ap (λ (u : Bool). t && not (cond u false (marked is b t))) (ne_eqb c b other) ∙ freed_mark is b t good.2
      ∙ sym (ap (λ (u : Bool). cond u true (is_among b (freed_in is)) && t) (ne_eqb c b other))
]

dropped_freed : (m : Map) (is : List BlockItem) (before after : List Bool) (b n : ℕ) → b + n ≤ 256 → AreGoodItems is → AreMarks m before → AreMarked is before after → dropped_from before after b n ≡ freed_from m is b n
dropped_freed m is before after b zero low good marks line = refl
dropped_freed m is before after b (suc n) low good marks line =
    let here : is_dropped before after b ≡ (is_among b (freed_in is) && is_some (m b)) =
    (let less : b < 256 = omega (arith, low) in (λ i. marks b less i && not ((line b less ∙ ap (marked is b) (marks b less)) i)) ∙ freed_mark is b (is_some (m b)) good) in
    let rest = dropped_freed m is before after (b + 1) n (omega (arith, low)) good marks line in
    λ i. cond (here i) (b ∷ rest i) (rest i)

pub frees_all : (m : Map) (is : List BlockItem) (before after : List Bool) → AreGoodItems is → AreMarks m before → AreMarked is before after → dropped_from before after 0 named ≡ freed_from m is 0 named
frees_all m is before after good marks line = dropped_freed m is before after 0 named (omega (arith, named_is)) good marks line
