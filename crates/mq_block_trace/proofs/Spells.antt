-- The events of a trace are those that lines can spell, with the numbers that they have.
use Rattle.std.proofs.Common.{◌≡◌, ◌<◌, ◌≤◌, ℕ, zero, suc, ◌+◌, ◌^◌, Bool, true, false, cond, eqb, List, [], ◌∷◌, ◌++◌, length, replicate, Option, Some, None, refl, sym, ◌∙◌, ap, subst, arith}
use Rattle.std.specs.List.{AllByRecursion}
use Rattle.mq_audit.specs.Spelled.{IsEvent, IsFilled}
use Rattle.mq_audit.specs.Traces.{last_after}
use Rattle.mq_blocks.specs.Blocks.{filled}
use Rattle.mq_blocks.specs.Geometry.{homes_of}
use Rattle.mq_blocks.specs.declared.geometry.Geometry.{Geometry}
use Rattle.mq_block_text.specs.Text.{AreGoodItems, IsGoodText}
use Rattle.mq_block_text.specs.declared.item.BlockItem.{BlockItem}
use Rattle.mq_block_text.specs.declared.item.BlockItem.TheVariants.{Set, Free}
use Rattle.mq_core.specs.declared.event.Event.{Event}
use Rattle.mq_core.specs.declared.event.Event.TheVariants.{Draw, Stage, Flush, Ring, StoreHead, FlushHead, Acknowledge}
use Rattle.mq_block_trace.specs.Fresh.{IsTextGeometry}
use Rattle.mq_block_trace.specs.Lines.{line_at, map_after, named, set_in, with_write, writes_from}
use Rattle.mq_block_trace.specs.Prefixes.{places_upto}
use Rattle.mq_block_trace.specs.Traced.{completed, cut_after, drawn_at, events_upto, executed, is_on_port, one_more, traced}
use Rattle.mq_block_trace.proofs.Drawn.{homes_are, rising_freed, rising_writes}
use Rattle.mq_block_trace.proofs.Fronts.{Lines, places_few}
use Rattle.mq_block_trace.proofs.LinesFills.{Fill, good_line_at, named_is}
use Rattle.mq_block_trace.proofs.TextLines.{entries, line_trace, lines_few}

-- these events follow a draw of the number `last`
abbrev pub AreEvents : Geometry → ℕ → List Event → Type 0
AreEvents g last [] = Unit {0}
AreEvents g last (e ∷ es) = IsEvent g (last + 1) e × AreEvents g (last_after e last) es

abbrev pub last_in : List Event → ℕ → ℕ
last_in [] last = last
last_in (e ∷ es) last = last_in es (last_after e last)

events_append : (g : Geometry) (last : ℕ) (es fs : List Event) → AreEvents g last es → AreEvents g (last_in es last) fs → AreEvents g last (es ++ fs)
events_append g last [] fs first second = second
events_append g last (e ∷ es) fs first second = (first.0, events_append g (last_after e last) es fs first.1 second)

last_append : (es fs : List Event) (last : ℕ) → last_in (es ++ fs) last ≡ last_in fs (last_in es last)
last_append [] fs last = refl
last_append (e ∷ es) fs last = last_append es fs (last_after e last)

events_cut : (g : Geometry) (es : List Event) (n last : ℕ) → AreEvents g last es → AreEvents g last (cut_after n es)
events_cut g [] n last are = tt
events_cut g (e ∷ es) n last are = step (is_on_port e) n (λ m. events_cut g es m (last_after e last) are.1)
  where
    step : (t : Bool) (n : ℕ) → ((m : ℕ) → AreEvents g (last_after e last) (cut_after m es)) → AreEvents g last (cond t (one_more n e (λ left. cut_after left es)) (e ∷ cut_after n es))
    step true zero rest = tt
    step true (suc n) rest = (are.0, rest n)
    step false n rest = (are.0, rest n)

-- ---- events that are no draws

abbrev IsOther : Geometry → Event → Type 0
IsOther g e = ((number : ℕ) → IsEvent g number e) × ((last : ℕ) → last_after e last ≡ last)

others_are : (g : Geometry) (last : ℕ) (es : List Event) → AllByRecursion (IsOther g) es → AreEvents g last es
others_are g last [] other = tt
others_are g last (e ∷ es) other = (other.0.0 (last + 1), subst (λ (n : ℕ). AreEvents g n es) (sym (other.0.1 last)) (others_are g last es other.1))

others_last : (g : Geometry) (es : List Event) (last : ℕ) → AllByRecursion (IsOther g) es → last_in es last ≡ last
others_last g [] last other = refl
others_last g (e ∷ es) last other = ap (last_in es) (other.0.1 last) ∙ others_last g es last other.1

others_append : (g : Geometry) (es fs : List Event) → AllByRecursion (IsOther g) es → AllByRecursion (IsOther g) fs → AllByRecursion (IsOther g) (es ++ fs)
others_append g [] fs first second = second
others_append g (e ∷ es) fs first second = (first.0, others_append g es fs first.1 second)

module _ (g : Geometry) (text : IsTextGeometry g) where
  stages : (n : ℕ) → AllByRecursion (IsOther g) (replicate n (Stage 0))
  stages zero = tt
  stages (suc n) = ((λ number. omega (arith, text.queues), λ last. refl), stages n)

  completions : (count n : ℕ) → count + n < 2 ^ 64 → AllByRecursion (IsOther g) (completed count n)
  completions count zero low = tt
  completions count (suc n) low = ((λ number. (omega (arith, text.queues), omega arith), λ last. refl), completions (count + 1) n (omega arith))

  executions : (count n : ℕ) → count + n < 2 ^ 64 → AllByRecursion (IsOther g) (executed count n)
  executions count n low =
      others_append g (replicate n (Stage 0)) (Flush 0 ∷ Ring 0 ∷ completed count n) (stages n)
      ((λ number. omega (arith, text.queues), λ last. refl), ((λ number. omega (arith, text.queues), λ last. refl), completions count n low))

  rest_of : (count n number : ℕ) → count + n < 2 ^ 64 → number < 2 ^ 64 → AllByRecursion (IsOther g) (executed count n ++ StoreHead 0 (count + n) ∷ FlushHead 0 ∷ Acknowledge number ∷ [])
  rest_of count n number low small =
      others_append g (executed count n) (StoreHead 0 (count + n) ∷ FlushHead 0 ∷ Acknowledge number ∷ []) (executions count n low) (
        (λ m. (omega (arith, text.queues), low), λ last. refl),
        ((λ m. omega (arith, text.queues), λ last. refl), ((λ m. small, λ last. refl), tt)),
      )

-- ---- draws

byte_case : (c b w v : ℕ) (rest : Option ℕ) (t : Bool) → w ≤ 255 → (rest ≡ Some v → v ≤ 255) → cond t (Some w) rest ≡ Some v → v ≤ 255
byte_case c b w v rest true small later is = let same : w ≡ v = cc in omega arith
byte_case c b w v rest false small later is = later is

set_byte : (is : List BlockItem) (b v : ℕ) → AreGoodItems is → set_in is b ≡ Some v → v ≤ 255
set_byte [] b v good is = absurd (cc)
set_byte (Set c w ∷ is) b v good at = byte_case c b w v (set_in is b) (eqb c b) good.0.1 (set_byte is b v good.2) at
set_byte (Free c ∷ is) b v good at = set_byte is b v good.2 at

is_filled : (v : ℕ) → v ≤ 255 → IsFilled (filled v)
unfolding filled
is_filled v small = (v, omega arith, refl)

filled_writes : (f : Fill) (b n : ℕ) → ((x v : ℕ) → f x ≡ Some v → v ≤ 255) → AllByRecursion (λ (s : ℕ × List ℕ). IsFilled s.1) (writes_from f b n)
filled_writes f b zero bytes = tt
filled_writes f b (suc n) bytes = step (f b) refl (filled_writes f (b + 1) n bytes)
  where
    step : (o : Option ℕ) → f b ≡ o → AllByRecursion (λ (s : ℕ × List ℕ). IsFilled s.1) (writes_from f (b + 1) n) → AllByRecursion (λ (s : ℕ × List ℕ). IsFilled s.1) (with_write b o (writes_from f (b + 1) n))
    step None is rest = rest
    step (Some v) is rest = (is_filled v (bytes b v is), rest)

module _ (g : Geometry) (lines : Lines) (text : IsTextGeometry g) (good : IsGoodText lines) where
  draws : (n : ℕ) → n < length lines → IsEvent g (n + 1) (Draw (drawn_at lines n))
  draws n less =
      let homes = homes_are g text in
      let line = good_line_at lines n less good.0 in
      record {
        number_is = refl;
        queue = omega (arith, text.queues);
        logged = (rising_writes (homes_of g) (set_in (line_at lines n)) 0 named 0 (omega (arith, homes, named_is)) (omega arith), filled_writes (set_in (line_at lines n)) 0 named (λ x v is. set_byte (line_at lines n) x v line is));
        direct = (tt, tt);
        revoked = tt;
        freed = rising_freed (map_after lines n) (line_at lines n) (homes_of g) 0 named 0 (omega (arith, homes, named_is)) (omega arith);
      }

  small_at : (n : ℕ) → n < length lines → n + 1 < 2 ^ 64
  small_at n less = omega (arith, lines_few lines, good.1)

  rest_at : (n : ℕ) → n < length lines → AllByRecursion (IsOther g) (executed (places_upto lines n) (entries lines n) ++ StoreHead 0 (places_upto lines n + entries lines n) ∷ FlushHead 0 ∷ Acknowledge (n + 1) ∷ [])
  rest_at n less = rest_of g text (places_upto lines n) (entries lines n) (n + 1) (omega (arith, places_few lines good (suc n) less)) (small_at n less)

  line_are : (n : ℕ) → n < length lines → AreEvents g n (line_trace lines n)
  line_are n less = ((omega (arith, text.queues), small_at n less), (draws n less, others_are g (n + 1) _ (rest_at n less)))

  line_last : (n : ℕ) → n < length lines → last_in (line_trace lines n) n ≡ suc n
  line_last n less = others_last g _ (n + 1) (rest_at n less) ∙ (let e : n + 1 ≡ suc n = omega arith in e)

  lines_last : (n : ℕ) → n ≤ length lines → last_in (events_upto lines n) 0 ≡ n
  lines_last zero within = refl
  lines_last (suc n) within = last_append (events_upto lines n) (line_trace lines n) 0 ∙ ap (last_in (line_trace lines n)) (lines_last n (omega arith)) ∙ line_last n within

  lines_are : (n : ℕ) → n ≤ length lines → AreEvents g 0 (events_upto lines n)
  lines_are zero within = tt
  lines_are (suc n) within =
      events_append g 0 (events_upto lines n) (line_trace lines n) (lines_are n (omega arith))
      (subst (λ (m : ℕ). AreEvents g m (line_trace lines n)) (sym (lines_last n (omega arith))) (line_are n within))

  pub traced_are : (cut : Option ℕ) → AreEvents g 0 (traced lines cut)
  traced_are None = lines_are (length lines) (omega arith)
  traced_are (Some events) = events_cut g (events_upto lines (length lines)) events 0 (lines_are (length lines) (omega arith))
