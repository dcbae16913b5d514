-- The marks of the blocks after some of the commits of a text.
use Rattle.std.proofs.Common.{◌≡◌, ◌<◌, ℕ, zero, suc, ◌+◌, Bool, true, false, ◌&&◌, cond, eqb, List, [], ◌∷◌, ◌++◌, length, set, get_or, drop, replicate, Option, Some, None, refl, sym, ◌∙◌, ap, subst, inl, inr, arith}
use Rattle.std.specs.Prelude.{is_some}
use Rattle.std.proofs.lemmas.Bool.{cases_eq, eq-eqb, ne_eqb}
use Rattle.std.proofs.lemmas.List.{append-nil, at_drop_more, get_or-replicate, get_or-set_other, get_or-set_same, length-replicate}
use Rattle.mq_block_text.specs.Text.{AreGoodItems}
use Rattle.mq_block_text.specs.declared.item.BlockItem.{BlockItem}
use Rattle.mq_block_trace.specs.Lines.{empty_map, freed_in, named, set_in, with_write, writes_from}
use Rattle.mq_block_trace.specs.Marks.{AreMarks}
use Rattle.mq_block_trace.proofs.LinesFills.{Fill, named_is}
use Rattle.mq_blocks.specs.Journal.{is_among}
use Rattle.mq_blocks.specs.Machine.{Map, Writes, after, or_kept, write_of}
use Rattle.mq_ledger.specs.History.{blocks_of, map_after}
use Rattle.mq_ledger.specs.declared.tx.Tx.{Tx}
use Rattle.mq_loose_order.specs.Dependence.{kept}
use Rattle.mq_loose_order.proofs.Closed.{kept-in, kept-out}
use Rattle.mq_loose_text.specs.Meaning.{freed_from, tx_of}
use Rattle.mq_loose_run.specs.Items.{AreItems}
use Rattle.mq_loose_run.specs.Markings.{AreMarkedTo, AreNamed, IsMarking}
use Rattle.mq_loose_run.specs.declared.items.Items.{Items}
use Rattle.mq_loose_run.specs.declared.marks.Marking.{Marking}
use Rattle.mq_loose_run.proofs.LineSteps.{marks_line}

-- ---- some blocks after another

same_either : {A : Type 0} (t : Bool) (x : A) → cond t x x ≡ x
same_either true x = refl
same_either false x = refl

-- one of the blocks is set
pub set_next : (to : Bool) (x : ℕ) (rest : List ℕ) (marks : List Bool) (b : ℕ) → x < length marks → cond (is_among b (x ∷ rest)) to (get_or marks b false) ≡ cond (is_among b rest) to (get_or (set marks x to) b false)
set_next to x rest marks b inside = elim (cases_eq x b) [
  | inl same ↦
      ap (λ (t : Bool). cond (cond t true (is_among b rest)) to (get_or marks b false)) (eq-eqb x b same)
      ∙ sym (ap (λ (m : Bool). cond (is_among b rest) to m) (ap (λ (k : ℕ). get_or (set marks x to) k false) (sym same) ∙ get_or-set_same marks x to false inside) ∙ same_either (is_among b rest) to)
  | inr other ↦
      ap (λ (t : Bool). cond (cond t true (is_among b rest)) to (get_or marks b false)) (ne_eqb x b other)
      ∙ sym (ap (λ (m : Bool). cond (is_among b rest) to m) (get_or-set_other marks x b to false (λ e. other (sym e))))
]

-- a block at a place is one of them
among_block : (xs : List ℕ) (k x : ℕ) → k < length xs → x ≡ get_or xs k x → is_among x xs ≡ true
among_block [] k x low is = absurd (omega (arith, low))
among_block (y ∷ ys) zero x low is = ap (λ (t : Bool). cond t true (is_among x ys)) (eq-eqb y x (sym is))
among_block (y ∷ ys) (suc k) x low is = ap (cond (eqb y x) true) (among_block ys k x (omega (arith, low)) is) ∙ same_either (eqb y x) true

among_write : (ws : Writes) (k : ℕ) (w : ℕ × List ℕ) → k < length ws → w ≡ get_or ws k w → is_among w.0 (blocks_of ws) ≡ true
among_write [] k w low is = absurd (omega (arith, low))
among_write (v ∷ vs) zero w low is = ap (λ (t : Bool). cond t true (is_among w.0 (blocks_of vs))) (eq-eqb v.0 w.0 (sym (ap (λ (u : ℕ × List ℕ). u.0) is)))
among_write (v ∷ vs) (suc k) w low is = ap (cond (eqb v.0 w.0) true) (among_write vs k w (omega (arith, low)) is) ∙ same_either (eqb v.0 w.0) true

pub block_named : (xs : List ℕ) (k x : ℕ) → AreNamed xs → k < length xs → x ≡ get_or xs k x → x < 256
block_named xs k x named low is = named x (among_block xs k x low is)

pub write_named : (ws : Writes) (k : ℕ) (w : ℕ × List ℕ) → AreNamed (blocks_of ws) → k < length ws → w ≡ get_or ws k w → w.0 < 256
write_named ws k w named low is = named w.0 (among_write ws k w low is)

pub unmark_step : (xs : List ℕ) (k y x : ℕ) (marks : List Bool) (b : ℕ) → k < length xs → y ≡ get_or xs k y → x ≡ y → x < length marks → cond (is_among b (drop k xs)) false (get_or marks b false) ≡ cond (is_among b (drop (k + 1) xs)) false (get_or (set marks x false) b false)
unmark_step xs k y x marks b low is same inside =
    at_drop_more (λ (ys : List ℕ). cond (is_among b ys) false (get_or marks b false)) xs k y low
    ∙ ap (λ (z : ℕ). cond (is_among b (z ∷ drop (k + 1) xs)) false (get_or marks b false)) (sym is ∙ sym same)
    ∙ set_next false x (drop (k + 1) xs) marks b inside

pub mark_step : (ws : Writes) (k : ℕ) (w : ℕ × List ℕ) (x : ℕ) (marks : List Bool) (b : ℕ) → k < length ws → w ≡ get_or ws k w → x ≡ w.0 → x < length marks → cond (is_among b (blocks_of (drop k ws))) true (get_or marks b false) ≡ cond (is_among b (blocks_of (drop (k + 1) ws))) true (get_or (set marks x true) b false)
mark_step ws k w x marks b low is same inside =
    at_drop_more (λ (us : Writes). cond (is_among b (blocks_of us)) true (get_or marks b false)) ws k w low
    ∙ ap (λ (z : ℕ). cond (is_among b (z ∷ blocks_of (drop (k + 1) ws))) true (get_or marks b false)) (sym (ap (λ (u : ℕ × List ℕ). u.0) is) ∙ sym same)
    ∙ set_next true x (blocks_of (drop (k + 1) ws)) marks b inside

-- some map has these marks
some_if : Bool → Option (List ℕ)
some_if true = Some []
some_if false = None

is_some_if : (t : Bool) → t ≡ is_some (some_if t)
unfolding some_if
is_some_if true = refl
is_some_if false = refl

pub some_map : (marks : List Bool) → (m : Map) × AreMarks m marks
some_map marks = (λ b. some_if (get_or marks b false), λ b low. is_some_if (get_or marks b false))

-- nothing is marked
pub none_marking : (set : List ℕ) (m : Marking) → m.number ≡ 0 → m.all.items ≡ replicate 256 false → m.kept.items ≡ replicate 256 false → IsMarking set [] m
none_marking set m number all kept_none = record {
  number = number;
  all_whole = ap length all ∙ length-replicate 256 false;
  all = λ b low. ap (λ (l : List Bool). get_or l b false) all ∙ get_or-replicate 256 b false false low;
  kept_whole = ap length kept_none ∙ length-replicate 256 false;
  kept_are = λ b low. ap (λ (l : List Bool). get_or l b false) kept_none ∙ get_or-replicate 256 b false false low;
}

-- ---- what a commit writes and frees

among_with : (b x : ℕ) (o : Option ℕ) (ws : Writes) (high : ℕ) → b < high → (is_among x (blocks_of ws) ≡ true → x < high) → is_among x (blocks_of (with_write b o ws)) ≡ true → x < high
among_with b x None ws high low rest e = rest e
among_with b x (Some v) ws high low rest e = elim (cases_eq b x) [
  | inl same ↦ omega (arith, same, low)
  | inr other ↦ rest (sym (ap (λ (t : Bool). cond t true (is_among x (blocks_of ws))) (ne_eqb b x other)) ∙ e)
]

among_writes : (f : Fill) (b n x : ℕ) → is_among x (blocks_of (writes_from f b n)) ≡ true → x < b + n
among_writes f b zero x e = absurd (cc)
among_writes f b (suc n) x e = among_with b x (f b) (writes_from f (b + 1) n) (b + suc n) (omega arith) (λ r. let l = among_writes f (b + 1) n x r in omega (arith, l)) e

among_freed : (m : Map) (is : List BlockItem) (b n x : ℕ) → is_among x (freed_from m is b n) ≡ true → x < b + n
among_freed m is b zero x e = absurd (cc)
among_freed m is b (suc n) x e = go (λ r. let l = among_freed m is (b + 1) n x r in omega (arith, l)) (is_among b (freed_in is) && is_some (m b)) e
  where
    go : (is_among x (freed_from m is (b + 1) n) ≡ true → x < b + suc n) → (t : Bool) → is_among x (cond t (b ∷ freed_from m is (b + 1) n) (freed_from m is (b + 1) n)) ≡ true → x < b + suc n
    go rest false r = rest r
    go rest true r = elim (cases_eq b x) [
      | inl same ↦ omega (arith, same)
      | inr other ↦ rest (sym (ap (λ (t : Bool). cond t true (is_among x (freed_from m is (b + 1) n))) (ne_eqb b x other)) ∙ r)
    ]

module _ (line : List BlockItem) (marks : List Bool) (i : Items) (are : AreItems line marks i) where
  pub writes_named : AreNamed (blocks_of i.writes.items)
  writes_named b e = (let l = among_writes (set_in line) 0 named b (sym (ap (λ (ws : Writes). is_among b (blocks_of ws)) are.writes) ∙ e) in omega (arith, l, named_is))

  pub frees_named : (m : Map) → AreMarks m marks → AreNamed i.frees.items
  frees_named m old b e = (let l = among_freed m line 0 named b (sym (ap (is_among b) (are.frees m old)) ∙ e) in omega (arith, l, named_is))

-- ---- what it does to the map

written : (ws : Writes) (b : ℕ) → is_some (write_of ws b) ≡ is_among b (blocks_of ws)
written [] b = refl
written (w ∷ ws) b = go (written ws b) (eqb w.0 b)
  where
    go : is_some (write_of ws b) ≡ is_among b (blocks_of ws) → (t : Bool) → is_some (cond t (Some w.1) (write_of ws b)) ≡ cond t true (is_among b (blocks_of ws))
    go rest true = refl
    go rest false = rest

some_kept : (o : Option (List ℕ)) (freed : Bool) (old : Option (List ℕ)) → is_some (or_kept o (cond freed None old)) ≡ cond (is_some o) true (cond freed false (is_some old))
some_kept (Some v) freed old = refl
some_kept None true old = refl
some_kept None false old = refl

map_next : (h hs : List Tx) (q : ℕ) (is : List BlockItem) (b : ℕ) → is_some (map_after empty_map (tx_of h q is ∷ hs) b) ≡ cond (is_among b (blocks_of (writes_from (set_in is) 0 named))) true (cond (is_among b (freed_from (map_after empty_map h) is 0 named)) false (is_some (map_after empty_map hs b)))
unfolding after
map_next h hs q is b =
    some_kept (write_of (writes_from (set_in is) 0 named ++ []) b) (is_among b (tx_of h q is).freed) (map_after empty_map hs b)
    ∙ ap (λ (t : Bool). cond t true (cond (is_among b (tx_of h q is).freed) false (is_some (map_after empty_map hs b)))) (ap (λ (ws : Writes). is_some (write_of ws b)) (append-nil (writes_from (set_in is) 0 named)) ∙ written (writes_from (set_in is) 0 named) b)

-- the marks that a commit's changes leave
pub marks_next : (h hs : List Tx) (q : ℕ) (is : List BlockItem) (i : Items) (before between now : List Bool) (all : List Bool) → AreItems is all i → AreMarks (map_after empty_map h) all → AreMarks (map_after empty_map hs) before
    → AreMarkedTo false i.frees.items before between → AreMarkedTo true (blocks_of i.writes.items) between now → AreMarks (map_after empty_map (tx_of h q is ∷ hs)) now
marks_next h hs q is i before between now all are marks old freed wrote b low =
    wrote b low
    ∙ (λ j. cond (is_among b (blocks_of (are.writes j))) true ((freed b low ∙ (λ k. cond (is_among b (are.frees (map_after empty_map h) marks k)) false (old b low k))) j))
    ∙ sym (map_next h hs q is b)

-- ---- one commit more

module _ (numbers : List ℕ) (h : List Tx) (q : ℕ) (line : List BlockItem) (good : AreGoodItems line) (m : Marking) (is : IsMarking numbers h m) (i : Items) (are : AreItems line m.all.items i) where
  abbrev kept_in : List Tx → List Tx
  kept_in ts = kept (λ (n : ℕ). is_among n numbers) ts

  all_then : AreMarks (map_after empty_map (tx_of h q line ∷ h)) i.marks.items
  all_then = marks_line h q line m.all.items i.marks.items good is.all are.marked

  number_then : m.number + 1 ≡ length h + 1
  number_then = (let e = is.number in omega (arith, e))

  pub marked_in : (w : Marking) (between : List Bool) → w.number ≡ m.number + 1 → w.all.items ≡ i.marks.items → is_among (m.number + 1) numbers ≡ true → length w.kept.items ≡ 256 → AreMarkedTo false i.frees.items m.kept.items between → AreMarkedTo true (blocks_of i.writes.items) between w.kept.items
      → IsMarking numbers (tx_of h q line ∷ h) w
  marked_in w between number all member whole freed wrote = record {
    number = (let e = is.number in omega (arith, number, e));
    all_whole = ap length all ∙ are.whole;
    all = subst (AreMarks (map_after empty_map (tx_of h q line ∷ h))) (sym all) all_then;
    kept_whole = whole;
    kept_are =
        subst (λ (ts : List Tx). AreMarks (map_after empty_map ts) w.kept.items) (sym (kept-in (λ (n : ℕ). is_among n numbers) (tx_of h q line) h (ap (λ (n : ℕ). is_among n numbers) (sym number_then) ∙ member)))
        (marks_next h (kept_in h) q line i m.kept.items between w.kept.items m.all.items are is.all is.kept_are freed wrote);
  }

  pub marked_out : (w : Marking) → w.number ≡ m.number + 1 → w.all.items ≡ i.marks.items → is_among (m.number + 1) numbers ≡ false → w.kept.items ≡ m.kept.items → IsMarking numbers (tx_of h q line ∷ h) w
  marked_out w number all out same = record {
    number = (let e = is.number in omega (arith, number, e));
    all_whole = ap length all ∙ are.whole;
    all = subst (AreMarks (map_after empty_map (tx_of h q line ∷ h))) (sym all) all_then;
    kept_whole = ap length same ∙ is.kept_whole;
    kept_are =
        subst (λ (ts : List Tx). AreMarks (map_after empty_map ts) w.kept.items) (sym (kept-out (λ (n : ℕ). is_among n numbers) (tx_of h q line) h (ap (λ (n : ℕ). is_among n numbers) (sym number_then) ∙ out)))
        (subst (AreMarks (map_after empty_map (kept_in h))) (sym same) is.kept_are);
  }
