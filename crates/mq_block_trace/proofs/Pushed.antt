-- What the writer of a trace has added so far.
use Rattle.std.proofs.Common.{◌≡◌, ◌<◌, ◌≤◌, ℕ, zero, suc, ◌+◌, ◌-◌, Bool, true, false, cond, not, List, [], ◌∷◌, ◌++◌, get_or, map, Option, Some, None, refl, sym, ◌∙◌, ap, subst, inl, inr, arith, append_assoc, append-nil}
use Rattle.std.specs.Prelude.{◌&&◌, codes, decimal, is_some, slice_index}
use Rattle.std.proofs.lemmas.Bool.{cases_eq, eq-eqb, ne_eqb}
use Rattle.std.proofs.lemmas.Fmt.{decimal_digit}
use Rattle.mq_audit.specs.Spelled.{set_word}
use Rattle.mq_block_text.specs.Text.{AreGoodItems, IsUnnamed, set_text}
use Rattle.mq_block_text.specs.declared.item.BlockItem.{BlockItem}
use Rattle.mq_block_text.specs.declared.item.BlockItem.TheVariants.{Set, Free}
use Rattle.mq_blocks.specs.Blocks.{filled}
use Rattle.mq_blocks.specs.Journal.{is_among}
use Rattle.mq_blocks.specs.Machine.{Map, Writes}
use Rattle.mq_core.specs.declared.event.Event.TheVariants.{Draw}
use Rattle.mq_block_trace.specs.Lines.{freed_in, named, set_in, with_write, writes_from}
use Rattle.mq_block_trace.specs.Marks.{AreMarked, AreMarks, dropped_from, marked}
use Rattle.mq_block_trace.specs.Traced.{drawn_of, freed_from}
use Rattle.mq_block_trace.specs.Written.{event_line, spaced}
use Rattle.mq_block_trace.proofs.LinesFills.{Fill, named_is, writes_at, writes-along}

-- ---- the blocks that are set

abbrev pub sets_text : Fill → (b n : ℕ) → List ℕ
sets_text f b n = spaced (map set_word (writes_from f b n))

first_byte : (v : ℕ) → slice_index (filled v) 0 ≡ v
unfolding filled
first_byte v = refl

pub sets_none : (f : Fill) (b : ℕ) (out all : List ℕ) → b < 256 → f b ≡ None → out ++ sets_text f b (named - b) ≡ all → out ++ sets_text f (b + 1) (named - (b + 1)) ≡ all
sets_none f b out all less none is =
    sym (ap (λ (ws : Writes). out ++ spaced (map set_word ws)) (writes_at f named b (omega (arith, named_is)) ∙ ap (λ (o : Option ℕ). with_write b o (writes_from f (b + 1) (named - (b + 1)))) none)) ∙ is

pub sets_some : (f : Fill) (b v : ℕ) (out all : List ℕ) → b < 256 → f b ≡ Some v → out ++ sets_text f b (named - b) ≡ all → (out ++ 32 ∷ set_text b v) ++ sets_text f (b + 1) (named - (b + 1)) ≡ all
sets_some f b v out all less some is =
    append_assoc out (32 ∷ set_text b v) (sets_text f (b + 1) (named - (b + 1)))
    ∙ ap (λ (w : ℕ). out ++ 32 ∷ (set_text b w ++ sets_text f (b + 1) (named - (b + 1)))) (sym (first_byte v))
    ∙ sym (ap (λ (ws : Writes). out ++ spaced (map set_word ws)) (writes_at f named b (omega (arith, named_is)) ∙ ap (λ (o : Option ℕ). with_write b o (writes_from f (b + 1) (named - (b + 1)))) some)) ∙ is

pub sets_last : (f : Fill) (b : ℕ) (out all : List ℕ) → 256 ≤ b → out ++ sets_text f b (named - b) ≡ all → out ≡ all
sets_last f b out all past is = sym (append-nil out) ∙ ap (λ (n : ℕ). out ++ sets_text f b n) (let e : 0 ≡ named - b = omega (arith, named_is) in e) ∙ is

-- ---- the blocks that are freed

abbrev pub drops_text : (before after : List Bool) → (b n : ℕ) → List ℕ
drops_text before after b n = spaced (map decimal (dropped_from before after b n))

abbrev pub is_dropped : (before after : List Bool) → ℕ → Bool
is_dropped before after b = get_or before b false && not (get_or after b false)

dropped_at : (before after : List Bool) (b : ℕ) → b < 256 → dropped_from before after b (named - b)
    ≡ cond (is_dropped before after b) (b ∷ dropped_from before after (b + 1) (named - (b + 1))) (dropped_from before after (b + 1) (named - (b + 1)))
dropped_at before after b less = ap (dropped_from before after b) (let e : named - b ≡ suc (named - (b + 1)) = omega (arith, named_is) in e)

pub drops_none : (before after : List Bool) (b : ℕ) (out all : List ℕ) → b < 256 → is_dropped before after b ≡ false → out ++ drops_text before after b (named - b) ≡ all → out ++ drops_text before after (b + 1) (named - (b + 1)) ≡ all
drops_none before after b out all less none is =
    sym (ap (λ (bs : List ℕ). out ++ spaced (map decimal bs)) (dropped_at before after b less
    ∙ ap (λ (t : Bool). cond t (b ∷ dropped_from before after (b + 1) (named - (b + 1))) (dropped_from before after (b + 1) (named - (b + 1)))) none)) ∙ is

pub drops_some : (before after : List Bool) (b : ℕ) (out all : List ℕ) → b < 256 → is_dropped before after b ≡ true → out ++ drops_text before after b (named - b) ≡ all → (out ++ 32 ∷ decimal b) ++ drops_text before after (b + 1) (named - (b + 1)) ≡ all
drops_some before after b out all less some is =
    append_assoc out (32 ∷ decimal b) (drops_text before after (b + 1) (named - (b + 1)))
    ∙ sym (ap (λ (bs : List ℕ). out ++ spaced (map decimal bs)) (dropped_at before after b less
    ∙ ap (λ (t : Bool). cond t (b ∷ dropped_from before after (b + 1) (named - (b + 1))) (dropped_from before after (b + 1) (named - (b + 1)))) some)) ∙ is

pub drops_last : (before after : List Bool) (b : ℕ) (out all : List ℕ) → 256 ≤ b → out ++ drops_text before after b (named - b) ≡ all → out ≡ all
drops_last before after b out all past is = sym (append-nil out) ∙ ap (λ (n : ℕ). out ++ drops_text before after b n) (let e : 0 ≡ named - b = omega (arith, named_is) in e) ∙ is

-- whether a block is dropped, by both marks
pub dropped_yes : (before after : List Bool) (b : ℕ) → get_or before b false ≡ true → get_or after b false ≡ false → is_dropped before after b ≡ true
dropped_yes before after b p q = λ i. p i && not (q i)

pub dropped_kept : (before after : List Bool) (b : ℕ) → get_or before b false ≡ true → get_or after b false ≡ true → is_dropped before after b ≡ false
dropped_kept before after b p q = λ i. p i && not (q i)

pub dropped_free : (before after : List Bool) (b : ℕ) → get_or before b false ≡ false → is_dropped before after b ≡ false
dropped_free before after b p = λ i. p i && not (get_or after b false)

unnamed_freed : (is : List BlockItem) (b : ℕ) → IsUnnamed b is → is_among b (freed_in is) ≡ false
unnamed_freed [] b apart = refl
unnamed_freed (Set c v ∷ is) b apart = unnamed_freed is b apart.1
unnamed_freed (Free c ∷ is) b apart = rw (ne_eqb c b (λ same. apart.0 (sym same))) (unnamed_freed is b apart.1)

-- a live block isn't live after a line exactly where the line frees it
unmarked : (is : List BlockItem) (b : ℕ) → AreGoodItems is → not (marked is b true) ≡ is_among b (freed_in is)
unmarked [] b good = refl
unmarked (Set c v ∷ is) b good = elim (cases_eq c b) [
  | inl same ↦ rw (eq-eqb c b same) (sym (unnamed_freed is b (subst (λ (x : ℕ). IsUnnamed x is) same good.1)))
  | inr other ↦ rw (ne_eqb c b other) (unmarked is b good.2)
]
unmarked (Free c ∷ is) b good = elim (cases_eq c b) [
  | inl same ↦ rw (eq-eqb c b same) refl
  | inr other ↦ rw (ne_eqb c b other) (unmarked is b good.2)
]

drop_is : (is : List BlockItem) (b : ℕ) (t : Bool) → AreGoodItems is → (t && not (marked is b t)) ≡ (t && is_among b (freed_in is))
drop_is is b true good = unmarked is b good
drop_is is b false good = refl

module _ (m : Map) (line : List BlockItem) (before after : List Bool) (good : AreGoodItems line) (marks : AreMarks m before) (now : AreMarked line before after) where
  dropped_here : (b : ℕ) → b < 256 → is_dropped before after b ≡ (is_some (m b) && is_among b (freed_in line))
  dropped_here b less =
      ap (λ (t : Bool). get_or before b false && not t) (now b less) ∙ drop_is line b (get_or before b false) good ∙ ap (λ (t : Bool). t && is_among b (freed_in line)) (marks b less)

  dropped_rest : (b n : ℕ) → b + n ≤ 256 → dropped_from before after b n ≡ freed_from m line b n
  dropped_rest b zero few = refl
  dropped_rest b (suc n) few =
      let here = dropped_here b (omega arith) in
      let rest = dropped_rest (b + 1) n (omega arith) in
      λ i. cond (here i) (b ∷ rest i) (rest i)

  pub dropped_is : dropped_from before after 0 named ≡ freed_from m line 0 named
  dropped_is = dropped_rest 0 named (omega (arith, named_is))

-- ---- the draw

spaced_append : (ws vs : List (List ℕ)) → spaced (ws ++ vs) ≡ spaced ws ++ spaced vs
spaced_append [] vs = refl
spaced_append (w ∷ ws) vs = ap (λ (l : List ℕ). 32 ∷ (w ++ l)) (spaced_append ws vs) ∙ ap (λ (l : List ℕ). 32 ∷ l) (sym (append_assoc w (spaced ws) (spaced vs)))

draw_line : (m : Map) (number : ℕ) (line : List BlockItem) → event_line (Draw (drawn_of m number line))
    ≡ codes "draw 0 logged" ++ (spaced (map set_word (writes_from (set_in line) 0 named)) ++ (codes " direct revoked freed" ++ (spaced (map decimal (freed_from m line 0 named)) ++ 10 ∷ [])))
draw_line m number line =
    let sets = map set_word (writes_from (set_in line) 0 named) in
    let frees = map decimal (freed_from m line 0 named) in
    let rest = codes "direct" ∷ codes "revoked" ∷ codes "freed" ∷ frees in
    ap (λ (d : List ℕ). codes "draw" ++ ((32 ∷ (d ++ 32 ∷ (codes "logged" ++ spaced (sets ++ rest)))) ++ 10 ∷ [])) (decimal_digit 0 (omega arith))
    ∙ ap (λ (l : List ℕ). codes "draw 0 logged" ++ (l ++ 10 ∷ [])) (spaced_append sets rest)
    ∙ ap (λ (l : List ℕ). codes "draw 0 logged" ++ l) (append_assoc (spaced sets) (spaced rest) (10 ∷ []))

pub draw_text : (m : Map) (number : ℕ) (line : List BlockItem) (f : Fill) (before after : List Bool) (out a b c d : List ℕ) → AreGoodItems line → AreMarks m before → AreMarked line before after
    → ((x : ℕ) → x < 256 → f x ≡ set_in line x) → a ≡ out ++ codes "draw 0 logged" → b ≡ a ++ sets_text f 0 named → c ≡ b ++ codes " direct revoked freed" → d ≡ c ++ drops_text before after 0 named
    → d ++ 10 ∷ [] ≡ out ++ event_line (Draw (drawn_of m number line))
draw_text m number line f before after out a b c d good marks now fills first sets words frees =
    let along : writes_from f 0 named ≡ writes_from (set_in line) 0 named = writes-along f (set_in line) 0 named (λ k low high. fills k (omega (arith, named_is))) in
    let dropped = dropped_is m line before after good marks now in
    let s = spaced (map set_word (writes_from (set_in line) 0 named)) in
    let r = spaced (map decimal (freed_from m line 0 named)) in
    ap (λ (l : List ℕ). l ++ 10 ∷ []) (frees ∙ ap (λ (l : List ℕ). l ++ drops_text before after 0 named) (words ∙ ap (λ (l : List ℕ). l ++ codes " direct revoked freed") (sets ∙ ap (λ (l : List ℕ). l ++ sets_text f 0 named) first)))
    ∙ append_assoc (((out ++ codes "draw 0 logged") ++ sets_text f 0 named) ++ codes " direct revoked freed") (drops_text before after 0 named) (10 ∷ [])
    ∙ (λ i. (((out ++ codes "draw 0 logged") ++ spaced (map set_word (along i))) ++ codes " direct revoked freed") ++ (spaced (map decimal (dropped i)) ++ 10 ∷ []))
    ∙ joined s r
    ∙ ap (λ (l : List ℕ). out ++ l) (sym (draw_line m number line))
  where
    joined : (s r : List ℕ) → (((out ++ codes "draw 0 logged") ++ s) ++ codes " direct revoked freed") ++ (r ++ 10 ∷ []) ≡ out ++ (codes "draw 0 logged" ++ (s ++ (codes " direct revoked freed" ++ (r ++ 10 ∷ []))))
    joined s r =
        append_assoc ((out ++ codes "draw 0 logged") ++ s) (codes " direct revoked freed") (r ++ 10 ∷ [])
        ∙ append_assoc (out ++ codes "draw 0 logged") s (codes " direct revoked freed" ++ (r ++ 10 ∷ []))
        ∙ append_assoc out (codes "draw 0 logged") (s ++ (codes " direct revoked freed" ++ (r ++ 10 ∷ [])))
