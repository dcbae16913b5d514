-- A commit's line is a request that may be committed.
use Rattle.std.proofs.Common.{◌≡◌, ◌≢◌, ◌⊎◌, ◌<◌, ◌≤◌, ℕ, zero, suc, ◌+◌, ◌*◌, Bool, true, false, ◌&&◌, cond, eqb, List, [], ◌∷◌, length, Option, Some, None, refl, sym, ◌∙◌, ap, subst, inl, inr, arith}
use Rattle.std.specs.Prelude.{is_some}
use Rattle.std.proofs.lemmas.Bool.{eq-eqb, ne_eqb, cases_eq, false≢true, false_from_ne_true}
use Rattle.mq_block_text.specs.Text.{AreGoodItems, IsUnnamed, sets_in}
use Rattle.mq_block_text.specs.declared.item.BlockItem.{BlockItem}
use Rattle.mq_block_text.specs.declared.item.BlockItem.TheVariants.{Set, Free}
use Rattle.mq_block_trace.specs.Lines.{empty_map, freed_in, named, set_in, with_write, writes_from}
use Rattle.mq_block_trace.proofs.LinesFills.{Fill, length-writes_sets, named_is, not_set}
use Rattle.mq_blocks.specs.Descriptor.{AreApart, AreRising, IsNoneOf}
use Rattle.mq_blocks.specs.Drive.{FuseName}
use Rattle.mq_blocks.specs.Geometry.{homes_of}
use Rattle.mq_blocks.specs.Journal.{is_among}
use Rattle.mq_blocks.specs.Machine.{Map, Writes, after, or_kept, write_of}
use Rattle.mq_blocks.specs.declared.geometry.Geometry.{Geometry}
use Rattle.mq_ledger.specs.History.{blocks_of, change_of, map_after, of_queue}
use Rattle.mq_ledger.specs.Items.{next, total}
use Rattle.mq_ledger.specs.State.{State, start_map}
use Rattle.mq_ledger.specs.declared.tx.Tx.{Tx}
use Rattle.mq_loose_queues.specs.Changes.{change_at}
use Rattle.mq_loose_queues.specs.Commits.{IsRequest, MayCommit}
use Rattle.mq_loose_queues.specs.Queues.{QueuesState, at_queue}
use Rattle.mq_loose_text.specs.Meaning.{after_line, drawn_by, freed_from, line_at, rung_upto, tx_of}
use Rattle.mq_loose_text.specs.Text.{queue_count}
use Rattle.mq_loose_text.specs.declared.line.LooseLine.{LooseLine}
use Rattle.mq_loose_text.specs.declared.line.LooseLine.TheVariants.{Commit, Done}
use Rattle.mq_queue_side.specs.Stored.{next_in, rows_for}
use Rattle.mq_command_blocks.proofs.ItemsWrites.{rising_from}
use Rattle.mq_loose_run.specs.Lines.{HasRun}
use Rattle.mq_loose_run.specs.Runs.{IsRunGeometry}
use Rattle.mq_loose_run.specs.Steps.{IsNext}
use Rattle.mq_loose_run.proofs.AllSides.{base_is, bell_end, none_pending, own_queue}
use Rattle.mq_loose_run.proofs.Counts.{part, rung_few, rung_next, waits_rung}

-- ---- the lists rise

freed_one : (low high b : ℕ) (t : Bool) (bs : List ℕ) → low ≤ b → b < high → ((m : ℕ) → m ≤ b + 1 → AreRising m high bs) → AreRising low high (cond t (b ∷ bs) bs)
freed_one low high b true bs from below rest = (from, below, rest (b + 1) (omega arith))
freed_one low high b false bs from below rest = rest low (omega arith)

rising_freed : (m : Map) (is : List BlockItem) (b n low high : ℕ) → low ≤ b → b + n ≤ high → AreRising low high (freed_from m is b n)
rising_freed m is b zero low high from below = tt
rising_freed m is b (suc n) low high from below = freed_one low high b (is_among b (freed_in is) && is_some (m b)) (freed_from m is (b + 1) n) from (omega arith) (λ k at. rising_freed m is (b + 1) n k high at (omega arith))

-- ---- what is freed is not written

-- what an item names once, no other does
freed_unset : (is : List BlockItem) (b : ℕ) → AreGoodItems is → is_among b (freed_in is) ≡ true → set_in is b ≡ None
freed_unset [] b good among = refl
freed_unset (Set c v ∷ is) b good among = elim (cases_eq c b) [
  | inl same ↦ absurd (false≢true (sym (unnamed is c good.1) ∙ ap (λ (k : ℕ). is_among k (freed_in is)) same ∙ among))
  | inr other ↦ ap (λ (t : Bool). cond t (Some v) (set_in is b)) (ne_eqb c b other) ∙ freed_unset is b good.2 among
]
  where
    unnamed : (is : List BlockItem) (c : ℕ) → IsUnnamed c is → is_among c (freed_in is) ≡ false
    unnamed [] c un = refl
    unnamed (Set d v ∷ is) c un = unnamed is c un.1
    unnamed (Free d ∷ is) c un = ap (λ (t : Bool). cond t true (is_among c (freed_in is))) (ne_eqb d c (λ e. un.0 (sym e))) ∙ unnamed is c un.1
freed_unset (Free c ∷ is) b good among = elim (cases_eq c b) [
  | inl same ↦ subst (λ (k : ℕ). set_in is k ≡ None) same (not_set is c good.1)
  | inr other ↦ freed_unset is b good.2 (sym (ap (λ (t : Bool). cond t true (is_among b (freed_in is))) (ne_eqb c b other)) ∙ among)
]

-- the blocks that are written from one on, so many
among_with : (x b : ℕ) (o : Option ℕ) (ws : Writes) → is_among x (blocks_of (with_write b o ws)) ≡ true → ((b ≡ x) × (o ≢ None)) ⊎ (is_among x (blocks_of ws) ≡ true)
among_with x b None ws among = inr among
among_with x b (Some v) ws among = elim (cases_eq b x) [
  | inl same ↦ inl (same, λ e. cc)
  | inr other ↦ inr (sym (ap (λ (t : Bool). cond t true (is_among x (blocks_of ws))) (ne_eqb b x other)) ∙ among)
]

pub written_set : (f : Fill) (b n x : ℕ) → is_among x (blocks_of (writes_from f b n)) ≡ true → (x < b + n) × (f x ≢ None)
written_set f b zero x among = absurd (false≢true among)
written_set f b (suc n) x among = elim (among_with x b (f b) (writes_from f (b + 1) n) among) [
  | inl here ↦ (let e = here.0 in omega (arith, e), λ none. here.1 (ap f here.0 ∙ none))
  | inr later ↦ (let r = written_set f (b + 1) n x later in (let l = r.0 in omega (arith, l), r.1))
]

pub freed_is : (m : Map) (is : List BlockItem) (b n x : ℕ) → is_among x (freed_from m is b n) ≡ true → (x < b + n) × (is_among x (freed_in is) ≡ true) × (is_some (m x) ≡ true)
freed_is m is b zero x among = absurd (false≢true among)
freed_is m is b (suc n) x among = go (is_among b (freed_in is)) (is_some (m b)) refl refl among (freed_is m is (b + 1) n x)
  where
    go : (s t : Bool) → is_among b (freed_in is) ≡ s → is_some (m b) ≡ t → is_among x (cond (s && t) (b ∷ freed_from m is (b + 1) n) (freed_from m is (b + 1) n)) ≡ true
        → (is_among x (freed_from m is (b + 1) n) ≡ true → (x < b + 1 + n) × (is_among x (freed_in is) ≡ true) × (is_some (m x) ≡ true))
        → (x < b + suc n) × (is_among x (freed_in is) ≡ true) × (is_some (m x) ≡ true)
    go true true s t in_list rest = elim (cases_eq b x) [
      | inl same ↦ (omega (arith, same), ap (λ (k : ℕ). is_among k (freed_in is)) (sym same) ∙ s, ap (λ (k : ℕ). is_some (m k)) (sym same) ∙ t)
      | inr other ↦ (let r = rest (sym (ap (λ (u : Bool). cond u true (is_among x (freed_from m is (b + 1) n))) (ne_eqb b x other)) ∙ in_list) in (let l = r.0 in omega (arith, l), r.1, r.2))
    ]
    go true false s t in_list rest = (let r = rest in_list in (let l = r.0 in omega (arith, l), r.1, r.2))
    go false t s u in_list rest = (let r = rest in_list in (let l = r.0 in omega (arith, l), r.1, r.2))

none_of : (x : ℕ) (ys : List ℕ) → is_among x ys ≡ false → IsNoneOf x ys
none_of x [] out = tt
none_of x (y ∷ ys) out = elim (cases_eq y x) [
  | inl same ↦ absurd (false≢true (sym out ∙ ap (λ (t : Bool). cond t true (is_among x ys)) (eq-eqb y x same)))
  | inr other ↦ (λ e. other (sym e), none_of x ys (sym (ap (λ (t : Bool). cond t true (is_among x ys)) (ne_eqb y x other)) ∙ out))
]

apart_all : (xs ys : List ℕ) → ((x : ℕ) → is_among x xs ≡ true → is_among x ys ≡ true → ⊥) → AreApart xs ys
apart_all [] ys none = tt
apart_all (x ∷ xs) ys none = (
  none_of x ys (false_from_ne_true _ (λ e. none x (ap (λ (t : Bool). cond t true (is_among x xs)) (eq-eqb x x refl)) e)),
  apart_all xs ys (λ y among e. none y (later y among) e),
)
  where
    later : (y : ℕ) → is_among y xs ≡ true → is_among y (x ∷ xs) ≡ true
    later y among = elim (cases_eq x y) [
      | inl same ↦ ap (λ (t : Bool). cond t true (is_among y xs)) (eq-eqb x y same)
      | inr other ↦ ap (λ (t : Bool). cond t true (is_among y xs)) (ne_eqb x y other) ∙ among
    ]

-- ---- few blocks are named

few_with : (b k : ℕ) (o : Option ℕ) (t : Bool) (ws : Writes) (bs : List ℕ) → (t ≡ true → o ≡ None) → length ws + length bs ≤ k → length (with_write b o ws) + length (cond t (b ∷ bs) bs) ≤ k + 1
few_with b k None true ws bs apart few = omega (arith, few)
few_with b k None false ws bs apart few = omega (arith, few)
few_with b k (Some v) true ws bs apart few = absurd (let e = apart refl in cc)
few_with b k (Some v) false ws bs apart few = omega (arith, few)

and_first : (s t : Bool) → (s && t) ≡ true → s ≡ true
and_first true t e = refl
and_first false t e = e

pub few_named : (m : Map) (is : List BlockItem) (b n : ℕ) → AreGoodItems is → length (writes_from (set_in is) b n) + length (freed_from m is b n) ≤ n
few_named m is b zero good = omega arith
few_named m is b (suc n) good =
    let rest = few_named m is (b + 1) n good in
    let one = few_with b n (set_in is b) (is_among b (freed_in is) && is_some (m b)) (writes_from (set_in is) (b + 1) n) (freed_from m is (b + 1) n) (λ e. freed_unset is b good (and_first _ _ e)) rest in
    omega (arith, one)

-- ---- what is in the map from the empty one on is in each

map_grows : (m : Map) (h : List Tx) (x : ℕ) → is_some (map_after empty_map h x) ≡ true → is_some (map_after m h x) ≡ true
unfolding after
map_grows m [] x e = absurd (false≢true e)
map_grows m (t ∷ ts) x e = go (write_of (change_of t).writes x) (is_among x t.freed) e (map_grows m ts x)
  where
    go : (o : Option (List ℕ)) (f : Bool) → is_some (or_kept o (cond f None (map_after empty_map ts x))) ≡ true → (is_some (map_after empty_map ts x) ≡ true → is_some (map_after m ts x) ≡ true) → is_some (or_kept o (cond f None (map_after m ts x))) ≡ true
    go (Some w) f e rest = refl
    go None true e rest = absurd (false≢true e)
    go None false e rest = rest e

-- ---- the place behind the queue's transactions

next_line : (q : ℕ) (l : LooseLine) (h : List Tx) → next (of_queue q h) ≡ total (of_queue q h) → next (of_queue q (after_line l h)) ≡ total (of_queue q (after_line l h))
next_line q (Commit r is) h before = go (eqb r q)
  where
    go : (b : Bool) → next (cond b (tx_of h r is ∷ of_queue q h) (of_queue q h)) ≡ total (cond b (tx_of h r is ∷ of_queue q h) (of_queue q h))
    go true = omega (arith, before)
    go false = before
next_line q (Done r) h before = before

next_total : (q n : ℕ) (lines : List LooseLine) → next (of_queue q (drawn_by lines n)) ≡ total (of_queue q (drawn_by lines n))
next_total q zero lines = refl
next_total q (suc n) lines = next_line q (line_at lines n) (drawn_by lines n) (next_total q n lines)

next_rows : (us : List Tx) → next_in (rows_for us) ≡ next us
next_rows [] = refl
next_rows (t ∷ ts) = refl

pub homes_are : (g : Geometry) → IsRunGeometry g → homes_of g ≡ 256
homes_are g is = (λ i. is.meta i + is.queues i * is.zone i)

-- ---- the request

module _ (fuse : FuseName) (start : State) (lines : List LooseLine) (n q : ℕ) (is : List BlockItem) (v : QueuesState) (next_is : IsNext lines n (Commit q is)) (r : HasRun fuse start lines n v) (low : q < queue_count) (good : AreGoodItems is) (ws : Writes) (frees : List ℕ) (ws_are : ws ≡ writes_from (set_in is) 0 named)
    (frees_are : frees ≡ freed_from (map_after empty_map (drawn_by lines n)) is 0 named) where
  abbrev h : List Tx
  h = drawn_by lines n

  abbrev m : Map
  m = map_after empty_map h

  homes : homes_of v.geometry ≡ 256
  homes = ap homes_of r.drawn.journal.geometry ∙ homes_are start.geometry r.drawn.start_is.geometry_is

  homes_start : homes_of start.geometry ≡ 256
  homes_start = homes_are start.geometry r.drawn.start_is.geometry_is

  pub request : IsRequest v q ws frees
  request = record {
    queue = (let e = ap (λ (g : Geometry). g.queues) r.drawn.journal.geometry in let o = own_queue fuse start lines n v r q low in omega (arith, e, o));
    writes = subst (λ (us : Writes). AreRising 0 (homes_of v.geometry) (blocks_of us)) (sym ws_are) (rising_from (set_in is) 0 named 0 (homes_of v.geometry) (omega arith) (omega (arith, homes, named_is)));
    frees_rise = subst (AreRising 0 (homes_of v.geometry)) (sym frees_are) (rising_freed m is 0 named 0 (homes_of v.geometry) (omega arith) (omega (arith, homes, named_is)));
    apart = apart_all frees (blocks_of ws) (λ x among written. (written_set (set_in is) 0 named x (ap (λ (us : Writes). is_among x (blocks_of us)) (sym ws_are) ∙ written)).1 (freed_unset is x good (freed_is m is 0 named x (ap (is_among x) (sym frees_are) ∙ among)).1));
    there = λ x among.
        let f = freed_is m is 0 named x (ap (is_among x) (sym frees_are) ∙ among) in
        let l = f.0 in
        let table = r.drawn.journal.changes in
        ap (λ (b : ℕ). (change_at b v.changes x).is_there) (base_is fuse start lines n v r ∙ sym r.drawn.start_is.base)
        ∙ table.there x (omega (arith, l, homes_start, named_is)) ∙ map_grows (start_map start.start) h x f.2;
  }

  pub may : MayCommit v q (length ws) (length frees)
  may = record {
    runs = (r.sides q low).kept;
    few = (let f = few_named m is 0 named good in let a = ap length ws_are in let b = ap length frees_are in omega (arith, f, a, b, named_is));
    area = (let rows = ap next_in (r.drawn.journal.stored q (own_queue fuse start lines n v r q low)) ∙ next_rows (of_queue q h) ∙ next_total q n lines in let bell = bell_end fuse start lines n v r q low in let from = r.drawn.start_is.starts q in let rung = (r.sides q low).rung in let a = full in let g = ap (λ (g : Geometry). g.area) r.drawn.journal.geometry ∙ r.drawn.start_is.geometry_is.area in let s = sets in omega (arith, rows, bell, from, rung, a, g, s));
    ring = (let none : length (at_queue v q).side.port.pending ≡ 0 = ap length (none_pending fuse start lines n v r q low) in let w = (r.sides q low).waits in let a = full in let b = waits_rung q n lines in let s = sets in omega (arith, none, w, a, b, s));
  }
    where
      sets : length ws ≡ sets_in is
      sets = ap length ws_are ∙ length-writes_sets is good

      full : rung_upto None q lines n + (sets_in is + 1) ≤ 1024
      full =
          let inside = next_is.inside in
          let a = rung_few q (suc n) lines next_is.good low (omega (arith, inside)) in
          let b = rung_next q n lines in
          let c : part q (line_at lines n) ≡ sets_in is + 1 = ap (part q) next_is.is ∙ ap (λ (t : Bool). cond t (sets_in is + 1) 0) (eq-eqb q q refl) in
          omega (arith, a, b, c)
