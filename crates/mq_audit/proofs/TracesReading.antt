-- The lines of traces, read one after another.
use Rattle.std.proofs.Common.{◌≡◌, ℕ, suc, Bool, true, false, cond, Option, Some, None, ◌+◌, ◌<◌, List, [], ◌∷◌, ◌++◌, length, get_or, set, replicate, leb, map, drop, subst, inl, inr, sym, ◌∙◌, ap, refl, arith, append_assoc, drop-cons}
use Rattle.std.specs.Option.{option_map}
use Rattle.std.proofs.lemmas.List.{length-set}
use Rattle.std.proofs.lemmas.Option.{same_Some}
use Rattle.mq_block_text.specs.Words.{number_in}
use Rattle.mq_blocks.specs.Geometry.{homes_of}
use Rattle.std.specs.Prelude.{Result, Ok, Err}
use Rattle.mq_blocks.specs.declared.geometry.Geometry.{Geometry}
use Rattle.mq_core.specs.declared.event.Event.{Event}
use Rattle.mq_audit.specs.Answers.{and_then, refusal_at}
use Rattle.mq_audit.specs.Events.{event_in}
use Rattle.mq_audit.specs.Traces.{onto, stepped, steps_in, last_after, numbers_in, before_last, last_of, placed, AreBelow, Trace, IsHead, IsReading, Gives, rest_in, lines_of, tail_of}
use Rattle.mq_audit.specs.Lists.{content_in, sets_in}
use Rattle.mq_audit.specs.declared.refusal.Misread.{Misread}
use Rattle.mq_audit.specs.declared.refusal.Misread.TheVariants.{Form, OutOfMemory as LineMemory}
use Rattle.mq_audit.specs.declared.refusal.TraceRefusal.{TraceRefusal}
use Rattle.mq_audit.specs.declared.refusal.TraceRefusal.TheVariants.{Line, OutOfMemory as NoMemory}
use Rattle.mq_audit.specs.Words.{set_in}
use Rattle.mq_audit.proofs.ListsReading.{before, set_low}

abbrev pub onto_all : List Event → Result (List Event) ℕ → Result (List Event) ℕ
onto_all es (Ok more) = Ok (es ++ more)
onto_all es (Err line) = Err line

onto_more : (es : List Event) (e : Event) (more : Result (List Event) ℕ) → onto_all es (onto e more) ≡ onto_all (es ++ e ∷ []) more
onto_more es e (Ok more) = ap Ok (sym (append_assoc es (e ∷ []) more))
onto_more es e (Err line) = refl

pub onto_none : (more : Result (List Event) ℕ) → more ≡ onto_all [] more
onto_none (Ok more) = refl
onto_none (Err line) = refl

module _ {B : Type 0} (g : Geometry) (text : B → List ℕ) (all : Result (List Event) ℕ) (lines : List B) (d : B) (i : ℕ) (inside : i < length lines) (last line : ℕ) (es : List Event) (so_far : all ≡ onto_all es (steps_in g last line (map text (drop i lines)))) where
  rest : map text (drop i lines) ≡ text (get_or lines i d) ∷ map text (drop (i + 1) lines)
  rest = (let e : suc i ≡ i + 1 = omega arith in ap (map text) (drop-cons lines i d inside) ∙ ap (λ (n : ℕ). text (get_or lines i d) ∷ map text (drop n lines)) e)

  pub step_more : (e : Event) → event_in g (last + 1) (text (get_or lines i d)) ≡ Some e → all ≡ onto_all (es ++ e ∷ []) (steps_in g (last_after e last) (line + 1) (map text (drop (i + 1) lines)))
  step_more e is =
      so_far ∙ ap (λ ws. onto_all es (steps_in g last line ws)) rest
      ∙ ap (λ o. onto_all es (stepped line o (λ v. steps_in g (last_after v last) (line + 1) (map text (drop (i + 1) lines))))) is
      ∙ onto_more es e (steps_in g (last_after e last) (line + 1) (map text (drop (i + 1) lines)))

  pub step_none : event_in g (last + 1) (text (get_or lines i d)) ≡ None → all ≡ Err line
  step_none is =
      so_far ∙ ap (λ ws. onto_all es (steps_in g last line ws)) rest
      ∙ ap (λ o. onto_all es (stepped line o (λ v. steps_in g (last_after v last) (line + 1) (map text (drop (i + 1) lines))))) is

-- ---- numbers

module _ {B : Type 0} (text : B → List ℕ) (all : Option (List ℕ)) (words : List B) (d : B) (i : ℕ) (inside : i < length words) (ns : List ℕ) (so_far : all ≡ before ns (numbers_in (map text (drop i words)))) where
  words_rest : map text (drop i words) ≡ text (get_or words i d) ∷ map text (drop (i + 1) words)
  words_rest = (let e : suc i ≡ i + 1 = omega arith in ap (map text) (drop-cons words i d inside) ∙ ap (λ (n : ℕ). text (get_or words i d) ∷ map text (drop n words)) e)

  pub number_none : number_in (text (get_or words i d)) ≡ None → all ≡ None
  number_none is = so_far ∙ ap (λ ws. before ns (numbers_in ws)) words_rest ∙ ap (λ o. before ns (and_then o (λ n. option_map (λ ms. n ∷ ms) (numbers_in (map text (drop (i + 1) words)))))) is

-- ---- the last part

pub before_last_is : (xs : List (List ℕ)) (x : List ℕ) → before_last (xs ++ x ∷ []) ≡ xs
before_last_is [] x = refl
before_last_is (y ∷ []) x = refl
before_last_is (y ∷ z ∷ xs) x = ap (λ (l : List (List ℕ)). y ∷ l) (before_last_is (z ∷ xs) x)

pub last_of_is : (xs : List (List ℕ)) (x : List ℕ) → last_of (xs ++ x ∷ []) ≡ x
last_of_is [] x = refl
last_of_is (y ∷ []) x = refl
last_of_is (y ∷ z ∷ xs) x = last_of_is (z ∷ xs) x

-- ---- the start

content_low : (g : Geometry) (word : List ℕ) (s : ℕ × List ℕ) → content_in g word ≡ Some s → s.0 < homes_of g
content_low g word s e = step (set_in g word) refl e
  where
    step : (o : Option (ℕ × ℕ)) → set_in g word ≡ o → option_map (λ (t : ℕ × ℕ). (t.0, replicate 4096 t.1)) o ≡ Some s → s.0 < homes_of g
    step None is p = absurd (cc)
    step (Some t) is p = (let same : t.0 ≡ s.0 = ap (λ (v : ℕ × List ℕ). v.0) (same_Some (t.0, replicate 4096 t.1) s p) in let low = set_low g word t is in omega (arith, low, same))

pub sets_below : (g : Geometry) (low : ℕ) (words : List (List ℕ)) (sets : List (ℕ × List ℕ)) → sets_in g low words ≡ Some sets → AreBelow (homes_of g) sets
sets_below g low [] sets e = subst (AreBelow (homes_of g)) (same_Some [] sets e) tt
sets_below g low (w ∷ ws) sets e = step (λ n xs more. sets_below g n ws xs more) (content_in g w) refl e
  where
    last : ((n : ℕ) (xs : List (ℕ × List ℕ)) → sets_in g n ws ≡ Some xs → AreBelow (homes_of g) xs) → (s : ℕ × List ℕ) → content_in g w ≡ Some s → (o : Option (List (ℕ × List ℕ))) → sets_in g (s.0 + 1) ws ≡ o → option_map (λ xs. s ∷ xs) o ≡ Some sets → AreBelow (homes_of g) sets
    last again s is None more p = absurd (cc)
    last again s is (Some xs) more p = subst (AreBelow (homes_of g)) (same_Some (s ∷ xs) sets p) (content_low g w s is, again (s.0 + 1) xs more)

    rising : ((n : ℕ) (xs : List (ℕ × List ℕ)) → sets_in g n ws ≡ Some xs → AreBelow (homes_of g) xs) → (s : ℕ × List ℕ) → content_in g w ≡ Some s → (t : Bool) → cond t (option_map (λ xs. s ∷ xs) (sets_in g (s.0 + 1) ws)) None ≡ Some sets → AreBelow (homes_of g) sets
    rising again s is true p = last again s is (sets_in g (s.0 + 1) ws) refl p
    rising again s is false p = absurd (cc)

    step : ((n : ℕ) (xs : List (ℕ × List ℕ)) → sets_in g n ws ≡ Some xs → AreBelow (homes_of g) xs) → (o : Option (ℕ × List ℕ)) → content_in g w ≡ o → and_then o (λ s. cond (leb low s.0) (option_map (λ xs. s ∷ xs) (sets_in g (s.0 + 1) ws)) None) ≡ Some sets → AreBelow (homes_of g) sets
    step again None is p = absurd (cc)
    step again (Some s) is p = rising again s is (leb low s.0) p

pub length_placed : (sets : List (ℕ × List ℕ)) (blocks : List (Option (List ℕ))) → length (placed sets blocks) ≡ length blocks
length_placed [] blocks = refl
length_placed (s ∷ sets) blocks = length_placed sets (set blocks s.0 (Some s.1)) ∙ length-set blocks s.0 (Some s.1)

-- ---- whole traces

pub reading_is : (bytes : List ℕ) (r : Result Trace TraceRefusal) (head : List ℕ) (lines : List (List ℕ)) (g : Geometry) (base : ℕ) → lines_of bytes ≡ head ∷ lines → IsHead head g base → Gives (rest_in g base lines (tail_of bytes)) r → IsReading bytes r
reading_is bytes (Ok t) head lines g base are is gives = record { head = head; lines = lines; geometry = g; base = base; are = are; is = is; rest = gives }
reading_is bytes (Err (Line line)) head lines g base are is gives = inr (record { head = head; lines = lines; geometry = g; base = base; are = are; is = is; rest = gives })
reading_is bytes (Err NoMemory) head lines g base are is gives = tt

pub misread_head : (bytes : List ℕ) (m : Misread) (head : List ℕ) (lines : List (List ℕ)) → lines_of bytes ≡ head ∷ lines → (m ≡ Form → (g : Geometry) (base : ℕ) → IsHead head g base → ⊥) → IsReading bytes (Err (refusal_at 1 m))
misread_head bytes Form head lines are none = inl (refl, λ other rest g base e is. none refl g base (subst (λ h. IsHead h g base) (sym (heads head other lines rest (sym are ∙ e))) is))
  where
    heads : (x y : List ℕ) (xs ys : List (List ℕ)) → x ∷ xs ≡ y ∷ ys → x ≡ y
    heads x y xs ys e = cc
misread_head bytes LineMemory head lines are none = tt

pub head_numbers : (o : Option (List (List ℕ))) (words : List (List ℕ)) (ns ms : List ℕ) → Some words ≡ o → numbers_in words ≡ Some ns → and_then o (λ ws. numbers_in ws) ≡ Some ms → ns ≡ ms
head_numbers o words ns ms e read all = same_Some ns ms (sym read ∙ ap (λ t. and_then t (λ ws. numbers_in ws)) e ∙ all)
