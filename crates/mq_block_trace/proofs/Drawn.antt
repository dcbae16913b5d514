-- The transactions of lines: each may be drawn, and they make of the empty map what the block machine does.
use Rattle.std.proofs.Common.{◌≡◌, ◌≢◌, ◌<◌, ◌≤◌, inl, inr, ℕ, zero, suc, ◌+◌, ◌-◌, ◌*◌, Bool, true, false, cond, ltb, All, List, [], ◌∷◌, ◌++◌, length, Option, Some, None, refl, sym, ◌∙◌, ap, subst, arith, append-nil}
use Rattle.std.specs.Prelude.{◌&&◌, is_some}
use Rattle.std.proofs.lemmas.Bool.{cases_eq, ne_eqb, false≢true, and_parts}
use Rattle.std.proofs.lemmas.Bool.Decides.{nat_tests}
use Rattle.std.proofs.lemmas.List.{get_or-replicate, length-replicate}
use Rattle.std.proofs.lemmas.List.Elements.{All-cons, All-nil}
use Rattle.mq_blocks.proofs.JournalAmong.{among-cons, among-here, apart-from}
use Rattle.mq_blocks.specs.Blocks.{filled}
use Rattle.mq_blocks.specs.Descriptor.{AreApart, AreRising, further_for}
use Rattle.mq_blocks.specs.Geometry.{homes_of, write_limit}
use Rattle.mq_blocks.specs.Journal.{is_among}
use Rattle.mq_blocks.specs.Machine.{Map, Writes, after, or_kept, write_of}
use Rattle.mq_blocks.specs.declared.geometry.Geometry.{Geometry}
use Rattle.mq_block_text.specs.Text.{AreGoodItems, IsUnnamed, sets_in}
use Rattle.mq_block_text.specs.declared.item.BlockItem.{BlockItem}
use Rattle.mq_block_text.specs.declared.item.BlockItem.TheVariants.{Set, Free}
use Rattle.mq_ledger.specs.History.{blocks_of, writes, map_after as map_of}
use Rattle.mq_ledger.specs.Items.{descriptor_blocks}
use Rattle.mq_ledger.specs.KnownJournal.{IsTx}
use Rattle.mq_ledger.specs.State.{start_map}
use Rattle.mq_block_trace.specs.Fresh.{IsTextGeometry}
use Rattle.mq_block_trace.specs.Lines.{set_in, freed_in, with_write, writes_from, named, line_at, map_after, transaction_of}
use Rattle.mq_block_trace.specs.Traced.{blank_start, drawn_of, drawn_at, drawn_upto, freed_from}
use Rattle.mq_block_trace.proofs.LinesFills.{Fill, named_is, length-writes, length-writes_sets, not_set}

-- ---- the blocks that are written

rising_step : (homes low b : ℕ) (o : Option ℕ) (ws : Writes) → low ≤ b → b < homes → ((m : ℕ) → m ≤ b + 1 → AreRising m homes (blocks_of ws)) → AreRising low homes (blocks_of (with_write b o ws))
rising_step homes low b None ws below small rest = rest low (omega arith)
rising_step homes low b (Some v) ws below small rest = (below, small, rest (b + 1) (omega arith))

pub rising_writes : (homes : ℕ) (f : Fill) (b n low : ℕ) → b + n ≤ homes → low ≤ b → AreRising low homes (blocks_of (writes_from f b n))
rising_writes homes f b zero low small below = tt
rising_writes homes f b (suc n) low small below = rising_step homes low b (f b) (writes_from f (b + 1) n) below (omega arith) (λ m at. rising_writes homes f (b + 1) n m (omega arith) at)

abbrev IsWhole : ℕ × List ℕ → Type 0
IsWhole w = length w.1 ≡ 4096

long : (v : ℕ) → length (filled v) ≡ 4096
unfolding filled
long v = length-replicate 4096 v

whole_writes : (f : Fill) (b n : ℕ) → All IsWhole (writes_from f b n)
whole_writes f b zero = All-nil IsWhole
whole_writes f b (suc n) = step (f b) (whole_writes f (b + 1) n)
  where
    step : (o : Option ℕ) → All IsWhole (writes_from f (b + 1) n) → All IsWhole (with_write b o (writes_from f (b + 1) n))
    step None rest = rest
    step (Some v) rest = All-cons IsWhole (b, filled v) (writes_from f (b + 1) n) (long v) rest

apart_nothing : (xs : List ℕ) → AreApart xs []
apart_nothing [] = tt
apart_nothing (x ∷ xs) = (tt, apart_nothing xs)

-- a block that is not filled is not written
not_written : (f : Fill) (x b n : ℕ) → f x ≡ None → is_among x (blocks_of (writes_from f b n)) ≡ false
not_written f x b zero none = refl
not_written f x b (suc n) none = step (f b) refl (not_written f x (b + 1) n none)
  where
    clash : (v : ℕ) → f b ≡ Some v → b ≡ x → ⊥
    clash v is same = let e : f b ≡ f x = ap f same in cc

    step : (o : Option ℕ) → f b ≡ o → is_among x (blocks_of (writes_from f (b + 1) n)) ≡ false → is_among x (blocks_of (with_write b o (writes_from f (b + 1) n))) ≡ false
    step None is rest = rest
    step (Some v) is rest = elim (cases_eq b x) [
      | inl same ↦ absurd (clash v is same)
      | inr other ↦ rw (ne_eqb b x other) rest
    ]

-- ---- the blocks that are freed

abbrev IsFreed : Map → List BlockItem → (x end : ℕ) → Type 0
IsFreed m line x end = (x < end) × (is_among x (freed_in line) ≡ true) × (is_some (m x) ≡ true)

freed_within : (m : Map) (line : List BlockItem) (x b n : ℕ) → is_among x (freed_from m line b n) ≡ true → IsFreed m line x (b + n)
freed_within m line x b zero among = absurd (false≢true among)
freed_within m line x b (suc n) among = step (is_some (m b) && is_among b (freed_in line)) refl (λ more. (let r = freed_within m line x (b + 1) n more in (omega (arith, r.0), r.1, r.2))) among
  where
    step : (t : Bool) → (is_some (m b) && is_among b (freed_in line)) ≡ t → (is_among x (freed_from m line (b + 1) n) ≡ true → IsFreed m line x (b + suc n))
        → is_among x (cond t (b ∷ freed_from m line (b + 1) n) (freed_from m line (b + 1) n)) ≡ true → IsFreed m line x (b + suc n)
    step true is later at = elim (among-cons b x (freed_from m line (b + 1) n) at) [
      | inl here ↦
          let both = and_parts _ _ is in
          (omega (arith, here), ap (λ (y : ℕ). is_among y (freed_in line)) here ∙ both.1, ap (λ (y : ℕ). is_some (m y)) here ∙ both.0)
      | inr more ↦ later more
    ]
    step false is later at = later at

freed_low : (m : Map) (line : List BlockItem) (x b n : ℕ) → x < b → is_among x (freed_from m line b n) ≡ false
freed_low m line x b zero low = refl
freed_low m line x b (suc n) low = step (is_some (m b) && is_among b (freed_in line)) (freed_low m line x (b + 1) n (omega arith))
  where
    step : (t : Bool) → is_among x (freed_from m line (b + 1) n) ≡ false → is_among x (cond t (b ∷ freed_from m line (b + 1) n) (freed_from m line (b + 1) n)) ≡ false
    step true rest = rw (ne_eqb b x (λ (same : b ≡ x). absurd (omega arith))) rest
    step false rest = rest

freed_is : (m : Map) (line : List BlockItem) (x b n : ℕ) → b ≤ x → x < b + n → is_among x (freed_from m line b n) ≡ (is_some (m x) && is_among x (freed_in line))
freed_is m line x b zero low high = absurd (omega arith)
freed_is m line x b (suc n) low high = elim (cases_eq b x) [
  | inl here ↦ subst (λ (y : ℕ). is_among y (freed_from m line b (suc n)) ≡ (is_some (m y) && is_among y (freed_in line))) here (first (is_some (m b) && is_among b (freed_in line)))
  | inr other ↦ later (is_some (m b) && is_among b (freed_in line)) other (freed_is m line x (b + 1) n (omega (arith, other)) (omega arith))
]
  where
    first : (t : Bool) → is_among b (cond t (b ∷ freed_from m line (b + 1) n) (freed_from m line (b + 1) n)) ≡ t
    first true = among-here b (freed_from m line (b + 1) n)
    first false = freed_low m line b (b + 1) n (omega arith)

    later : (t : Bool) → b ≢ x → is_among x (freed_from m line (b + 1) n) ≡ (is_some (m x) && is_among x (freed_in line))
        → is_among x (cond t (b ∷ freed_from m line (b + 1) n) (freed_from m line (b + 1) n)) ≡ (is_some (m x) && is_among x (freed_in line))
    later true other rest = rw (ne_eqb b x other) rest
    later false other rest = rest

pub rising_freed : (m : Map) (line : List BlockItem) (homes b n low : ℕ) → b + n ≤ homes → low ≤ b → AreRising low homes (freed_from m line b n)
rising_freed m line homes b zero low small below = tt
rising_freed m line homes b (suc n) low small below = step (is_some (m b) && is_among b (freed_in line)) (λ l at. rising_freed m line homes (b + 1) n l (omega arith) at)
  where
    step : (t : Bool) → ((l : ℕ) → l ≤ b + 1 → AreRising l homes (freed_from m line (b + 1) n)) → AreRising low homes (cond t (b ∷ freed_from m line (b + 1) n) (freed_from m line (b + 1) n))
    step true rest = (below, omega arith, rest (b + 1) (omega arith))
    step false rest = rest low (omega arith)

pub unnamed_freed : (is : List BlockItem) (c x : ℕ) → IsUnnamed c is → is_among x (freed_in is) ≡ true → c ≢ x
unnamed_freed [] c x apart among = absurd (false≢true among)
unnamed_freed (Set d v ∷ is) c x apart among = unnamed_freed is c x apart.1 among
unnamed_freed (Free d ∷ is) c x apart among = elim (among-cons d x (freed_in is) among) [
  | inl here ↦ λ same. apart.0 (same ∙ here)
  | inr more ↦ unnamed_freed is c x apart.1 more
]

-- a line sets no block that it frees
freed_not_set : (is : List BlockItem) (x : ℕ) → AreGoodItems is → is_among x (freed_in is) ≡ true → set_in is x ≡ None
freed_not_set [] x good among = refl
freed_not_set (Set c v ∷ is) x good among = rw (ne_eqb c x (unnamed_freed is c x good.1 among)) (freed_not_set is x good.2 among)
freed_not_set (Free c ∷ is) x good among = elim (among-cons c x (freed_in is) among) [
  | inl here ↦ not_set is x (subst (λ (y : ℕ). IsUnnamed y is) (sym here) good.1)
  | inr more ↦ freed_not_set is x good.2 more
]

-- ---- the maps

freed_none : (a : Bool) (o : Option (List ℕ)) → cond (is_some o && a) None o ≡ cond a None o
freed_none true None = refl
freed_none true (Some v) = refl
freed_none false None = refl
freed_none false (Some v) = refl

pub homes_are : (g : Geometry) → IsTextGeometry g → homes_of g ≡ 256
homes_are g text = (λ i. text.meta i + text.queues i * text.zone i)

map_more : (m h : Map) (number : ℕ) (line : List BlockItem) (b : ℕ) → b < 256 → h b ≡ m b
    → after h (record { number = number; writes = writes_from (set_in line) 0 named ++ []; freed = freed_from m line 0 named }) b ≡ after m (transaction_of number line) b
unfolding after
map_more m h number line b low before =
    (λ i. or_kept (write_of (append-nil (writes_from (set_in line) 0 named) i) b) (cond (freed_is m line b 0 named (omega arith) (omega (arith, named_is)) i) None (before i)))
    ∙ ap (or_kept (write_of (writes_from (set_in line) 0 named) b)) (freed_none (is_among b (freed_in line)) (m b))

pub map_is : (g : Geometry) (lines : List (List BlockItem)) (n b : ℕ) → IsTextGeometry g → b < homes_of g → map_of (start_map (blank_start g)) (drawn_upto lines n) b ≡ map_after lines n b
map_is g lines zero b text low = get_or-replicate (homes_of g) b None None low
map_is g lines (suc n) b text low =
    map_more (map_after lines n) (map_of (start_map (blank_start g)) (drawn_upto lines n)) (n + 1) (line_at lines n) b (omega (arith, low, homes_are g text)) (map_is g lines n b text low)

-- ---- a transaction by itself

some_is : (o : Option (List ℕ)) → is_some o ≡ true → (block : List ℕ) × (o ≡ Some block)
some_is None e = absurd (false≢true e)
some_is (Some v) e = (v, refl)

-- what it frees is in the map
pub frees_there : (g : Geometry) (lines : List (List BlockItem)) (n x : ℕ) → IsTextGeometry g → is_among x (drawn_at lines n).freed ≡ true → (block : List ℕ) × (map_of (start_map (blank_start g)) (drawn_upto lines n) x ≡ Some block)
frees_there g lines n x text among =
    let r = freed_within (map_after lines n) (line_at lines n) x 0 named among in
    let there = some_is (map_after lines n x) r.2 in
    (there.0, map_is g lines n x text (omega (arith, r.0, named_is, homes_are g text)) ∙ there.1)

limit_is : (g : Geometry) → IsTextGeometry g → 256 ≤ write_limit g
unfolding write_limit
limit_is g text = subst (λ (a : ℕ). 256 ≤ cond (ltb a 2024) (a - 24) 2000) (sym text.area) (omega arith)

pub form_is : (g : Geometry) (m : Map) (number : ℕ) (line : List BlockItem) → IsTextGeometry g → AreGoodItems line → IsTx g (drawn_of m number line)
form_is g m number line text good =
    let homes = homes_are g text in
    let ws = writes_from (set_in line) 0 named in
    let same : ws ++ [] ≡ ws = append-nil ws in
    record {
      queue = (let one = text.queues in omega arith);
      logged = rising_writes (homes_of g) (set_in line) 0 named 0 (omega (arith, homes, named_is)) (omega arith);
      direct = tt;
      revoked = tt;
      freed = rising_freed m line (homes_of g) 0 named 0 (omega (arith, homes, named_is)) (omega arith);
      whole = subst (All IsWhole) (sym same) (whole_writes (set_in line) 0 named);
      few = omega (arith, limit_is g text, length-writes (set_in line) 0 named, named_is);
      apart = apart_nothing (blocks_of ws);
      kept = apart-from (freed_from m line 0 named) (blocks_of (ws ++ [])) (λ x among.
          ap (λ (l : Writes). is_among x (blocks_of l)) same
          ∙ not_written (set_in line) x 0 named (freed_not_set line x good (freed_within m line x 0 named among).1));
      zoned = λ x e. absurd (false≢true e);
      revokes = λ x e. absurd (false≢true e);
    }

-- it has an entry for each block that the line sets, and one for its descriptor
pub entries_are : (m : Map) (number : ℕ) (line : List BlockItem) → AreGoodItems line → (writes (drawn_of m number line) + descriptor_blocks (drawn_of m number line) ≡ sets_in line + 1) × (length (drawn_of m number line).logged + descriptor_blocks (drawn_of m number line) ≡ sets_in line + 1)
unfolding further_for
entries_are m number line good =
    let ws = writes_from (set_in line) 0 named in
    let count = length-writes_sets line good in
    let few = length-writes (set_in line) 0 named in
    let one = over (length ws + 0) (omega (arith, few, named_is)) in
    (omega (arith, count, one), omega (arith, count, one))
  where
    no_more : ℕ
    no_more = 0

    over : (n : ℕ) → n ≤ 256 → cond (ltb 1010 n) 1 0 ≡ no_more
    over n few = grind (arith, nat_tests)
