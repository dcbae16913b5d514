-- Lines of a tree, name by name.
use Rattle.std.proofs.Common.{get_or, ◌≡◌, ℕ, zero, suc, ◌+◌, ◌-◌, ◌<◌, ◌≤◌, List, [], ◌∷◌, ◌++◌, length, map, take, drop, reverse, Bool, true, cond, refl, sym, ap, subst, ◌∙◌, arith, Vec, codes, drop_at, inl, inr, length-append, append_assoc, take_all}
use Rattle.std.specs.Prelude.{Option, Some, slice_range}
use Rattle.std.specs.Cmp.Lexicographic.{slice_cmp}
use Rattle.std.specs.List.{AllByRecursion}
use Rattle.std.specs.List.Sorted.{IsStrictlySortedBy}
use Rattle.std.specs.Map.{keys_of}
use Rattle.std.specs.Ordering.{is_lt, nat_cmp}
use Rattle.std.specs.declared.cmp.Ordering.TheVariants.{Less}
use Rattle.std.proofs.lemmas.Bool.{cases_Bool}
use Rattle.mq_layout.specs.Slots.{Entry}
use Rattle.mq_tree.specs.Directories.{as_slots}
use Rattle.mq_tree.specs.ListText.{AreIn, IsIn, Item, entries_in, entry_of_link, insert_entry, item_in, items_of, line_of, lines, list_text, name_count, path_of, slot_count, todo_in}
use Rattle.std.proofs.lemmas.List.{append-nil, drop-append-le, drop_all, drop_more, length-drop, length-map, map-append, reverse-append, take-append-le}
use Rattle.std.proofs.lemmas.Option.{same_Some}
use Rattle.mq_tree.specs.Volume.{Volume, body, free_node, slots_of}
use Rattle.mq_tree.specs.declared.slots.Link.{Link}
use Rattle.mq_tree.specs.declared.listing.Step.{Step}

-- ---- the links of a directory

abbrev as_some : List Entry → List (Option Entry)
as_some es = map (λ (e : Entry). Some e) es

head-same : {X : Type 0} (x y : X) (xs ys : List X) → x ∷ xs ≡ y ∷ ys → x ≡ y
head-same x y xs ys e = cc

tail-same : {X : Type 0} (x y : X) (xs ys : List X) → x ∷ xs ≡ y ∷ ys → xs ≡ ys
tail-same x y xs ys e = cc

insert-first : {A : Type 0} (e : Vec ℕ A × ℕ) (es : List (Vec ℕ A × ℕ)) (xs : List Entry) → AllByRecursion (λ k. slice_cmp nat_cmp e.0.items k.items ≡ Less) (keys_of es) → as_some xs ≡ as_slots es
    → insert_entry (record { inode = e.1; name = e.0.items }) xs ≡ record { inode = e.1; name = e.0.items } ∷ xs
insert-first e [] [] s same = refl
insert-first e [] (x ∷ xs) s same = absurd (cc)
insert-first e (f ∷ es) [] s same = absurd (cc)
insert-first e (f ∷ es) (x ∷ xs) s same =
    let is : x ≡ record { inode = f.1; name = f.0.items } = same_Some x _ (head-same _ _ _ _ same) in
    let less : is_lt (slice_cmp nat_cmp e.0.items x.name) ≡ true = ap (λ (y : Entry). is_lt (slice_cmp nat_cmp e.0.items y.name)) is ∙ ap is_lt s.0 in
    ap (λ (c : Bool). cond c (record { inode = e.1; name = e.0.items } ∷ x ∷ xs) (x ∷ insert_entry (record { inode = e.1; name = e.0.items }) xs)) less

sorted-links : {A : Type 0} (es : List (Vec ℕ A × ℕ)) (xs : List Entry) → IsStrictlySortedBy (λ x y. slice_cmp nat_cmp x.items y.items) (keys_of es) → as_some xs ≡ as_slots es → entries_in (as_slots es) ≡ xs
unfolding IsStrictlySortedBy
sorted-links [] [] s same = refl
sorted-links [] (x ∷ xs) s same = absurd (cc)
sorted-links (e ∷ es) [] s same = absurd (cc)
sorted-links (e ∷ es) (x ∷ xs) s same =
    let is : x ≡ record { inode = e.1; name = e.0.items } = same_Some x _ (head-same _ _ _ _ same) in
    let rest : as_some xs ≡ as_slots es = tail-same _ _ _ _ same in
    ap (insert_entry (record { inode = e.1; name = e.0.items })) (sorted-links es xs s.1 rest) ∙ insert-first e es xs s.0 rest ∙ ap (λ (y : Entry). y ∷ xs) (sym is)

pub links-sorted : {A : Type 0} (es : List (Vec ℕ A × ℕ)) (xs : List Entry) (v rest : List (Option Entry)) → IsStrictlySortedBy (λ x y. slice_cmp nat_cmp x.items y.items) (keys_of es) → as_slots es ≡ v → as_some xs ++ rest ≡ v → rest ≡ [] → xs ≡ entries_in v
links-sorted es xs v rest sorted view all none =
    let whole : as_some xs ≡ v = sym (append-nil (as_some xs)) ∙ ap (λ (r : List (Option Entry)). as_some xs ++ r) (sym none) ∙ all in
    sym (sorted-links es xs sorted (whole ∙ sym view)) ∙ ap entries_in view

length-insert : (e : Entry) (es : List Entry) → length (insert_entry e es) ≡ suc (length es)
length-insert e [] = refl
length-insert e (f ∷ fs) = elim (cases_Bool (is_lt (slice_cmp nat_cmp e.name f.name))) [
  | inl less ↦ ap (λ (b : Bool). length (cond b (e ∷ f ∷ fs) (f ∷ insert_entry e fs))) less
  | inr more ↦ ap (λ (b : Bool). length (cond b (e ∷ f ∷ fs) (f ∷ insert_entry e fs))) more ∙ ap (λ (n : ℕ). suc n) (length-insert e fs)
]

pub names-counted : {A : Type 0} (es : List (Vec ℕ A × ℕ)) → length (entries_in (as_slots es)) ≡ length es
names-counted [] = refl
names-counted (e ∷ es) = length-insert (record { inode = e.1; name = e.0.items }) (entries_in (as_slots es)) ∙ ap (λ (n : ℕ). suc n) (names-counted es)

-- ---- items in the text so far

range-kept : (text more : List ℕ) (from to : ℕ) → from ≤ to → to ≤ length text → slice_range (text ++ more) from to ≡ slice_range text from to
range-kept text more from to low high = ap (take (to - from)) (drop-append-le from text more (omega arith)) ∙ take-append-le (to - from) (drop from text) more (let l = length-drop from text in omega arith)

item-kept : (text more : List ℕ) (s : Step) → IsIn text s → item_in (text ++ more) s ≡ item_in text s
item-kept text more s h = ap (λ (p : List ℕ). record { above = p; entry = record { inode = s.link.inode; name = s.link.name.now } }) (range-kept text more s.from s.to h.0 h.1)

items-kept : (text more : List ℕ) (steps : List Step) → AreIn text steps → map (item_in (text ++ more)) steps ≡ map (item_in text) steps
items-kept text more [] h = refl
items-kept text more (s ∷ steps) h = ap (λ (x : Item). x ∷ map (item_in (text ++ more)) steps) (item-kept text more s h.0) ∙ ap (λ (xs : List Item). item_in text s ∷ xs) (items-kept text more steps h.1)

pub todo-kept : (text more : List ℕ) (steps : List Step) → AreIn text steps → todo_in (text ++ more) steps ≡ todo_in text steps
todo-kept text more steps h = ap reverse (items-kept text more steps h)

pub in-kept : (text more : List ℕ) (steps : List Step) → AreIn text steps → AreIn (text ++ more) steps
in-kept text more [] h = tt
in-kept text more (s ∷ steps) h = ((h.0.0, let l = h.0.1 in let n = length-append text more in omega arith), in-kept text more steps h.1)

in-push : (text : List ℕ) (steps : List Step) (s : Step) → AreIn text steps → IsIn text s → AreIn text (steps ++ s ∷ [])
in-push text [] s h i = (i, tt)
in-push text (r ∷ steps) s h i = (h.0, in-push text steps s h.1 i)

pub in-pop : (text : List ℕ) (steps : List Step) (s : Step) → AreIn text (steps ++ s ∷ []) → AreIn text steps × IsIn text s
in-pop text [] s h = (tt, h.0)
in-pop text (r ∷ steps) s h = let t = in-pop text steps s h.1 in ((h.0, t.0), t.1)

pub todo-push : (text : List ℕ) (steps : List Step) (s : Step) → todo_in text (steps ++ s ∷ []) ≡ item_in text s ∷ todo_in text steps
todo-push text steps s = ap reverse (map-append (item_in text) steps (s ∷ [])) ∙ reverse-append (map (item_in text) steps) (item_in text s ∷ [])

-- ---- the names of one directory

link-at : (links : List Link) (i : ℕ) (d : Entry) (l : Link) → i < length links → l ≡ get_or links i l → get_or (map entry_of_link links) i d ≡ entry_of_link l
link-at [] i d l low is = absurd (omega arith)
link-at (x ∷ links) zero d l low is = ap entry_of_link (sym is)
link-at (x ∷ links) (suc i) d l low is = link-at links i d l (omega arith) is

-- the last links, from this one on, were pushed in reverse
pub record Pushed (from to : ℕ) (links : List Link) (i : ℕ) (old new : List Step) : Type 0 where
  pub todo : (text : List ℕ) → todo_in text new ≡ items_of (slice_range text from to) (drop i (map entry_of_link links)) ++ todo_in text old
  pub inside : (text : List ℕ) → to ≤ length text → AreIn text old → AreIn text new

pub pushed-start : (from to : ℕ) (links : List Link) (i : ℕ) (old : List Step) → i ≡ length links → Pushed from to links i old old
pushed-start from to links i old e = record {
  todo = λ text. let none : drop i (map entry_of_link links) ≡ [] = drop_all i (map entry_of_link links) (let n = length-map links entry_of_link in omega arith) in ap (λ (es : List Entry). items_of (slice_range text from to) es ++ todo_in text old) (sym none);
  inside = λ text low h. h;
}

pub pushed-more : (from to : ℕ) (links : List Link) (i j : ℕ) (old new next : List Step) (l : Link) → from ≤ to → Pushed from to links i old new → j < length links → i ≡ j + 1 → l ≡ get_or links j l → next ≡ new ++ record { from = from; to = to; link = l } ∷ [] → Pushed from to links j old next
pushed-more from to links i j old new next l ordered p low e is now = record {
  todo = λ text.
      let first : drop j (map entry_of_link links) ≡ entry_of_link l ∷ drop i (map entry_of_link links) =
      drop_more (map entry_of_link links) j (entry_of_link l) (let n = length-map links entry_of_link in omega arith) ∙ ap (λ (x : Entry). x ∷ drop (j + 1) (map entry_of_link links)) (link-at links j (entry_of_link l) l low is)
      ∙ ap (λ (m : ℕ). entry_of_link l ∷ drop m (map entry_of_link links)) (sym e) in
      ap (todo_in text) now ∙ todo-push text new (record { from = from; to = to; link = l }) ∙ ap (λ (xs : List Item). record { above = slice_range text from to; entry = entry_of_link l } ∷ xs) (p.todo text) ∙ ap (λ (es : List Entry). items_of (slice_range text from to) es ++ todo_in text old) (sym first);
  inside = λ text small h. subst (AreIn text) (sym now) (in-push text new (record { from = from; to = to; link = l }) (p.inside text small h) (ordered, small));
}

pub pushed-all : (from to : ℕ) (links : List Link) (i : ℕ) (old new : List Step) (slots : List (Option Entry)) → Pushed from to links i old new → i ≡ 0 → map entry_of_link links ≡ entries_in slots → (text : List ℕ) → todo_in text new ≡ items_of (slice_range text from to) (entries_in slots) ++ todo_in text old
pushed-all from to links i old new slots p e is text =
    p.todo text ∙ ap (λ (m : ℕ). items_of (slice_range text from to) (drop m (map entry_of_link links)) ++ todo_in text old) e ∙ ap (λ (es : List Entry). items_of (slice_range text from to) es ++ todo_in text old) is

-- ---- the text so far

-- with the lines of what waits it is the whole
pub record Listed (v : Volume) (left : ℕ) (text : List ℕ) (todo : List Step) : Type 0 where
  pub whole : text ++ lines left v (todo_in text todo) ≡ list_text v
  pub inside : AreIn text todo

pub listed-start : (v : Volume) (text : List ℕ) (todo : List Step) → text ≡ line_of (codes "/") (body v 0) → todo_in text todo ≡ items_of [] (entries_in (slots_of (body v 0))) → AreIn text todo → Listed v (slot_count v) text todo
listed-start v text todo e is inside = record { whole = ap (λ (xs : List Item). text ++ lines (slot_count v) v xs) is ∙ ap (λ (t : List ℕ). t ++ lines (slot_count v) v (items_of [] (entries_in (slots_of (body v 0))))) e; inside = inside }

lines-next : (v : Volume) (left : ℕ) (x : Item) (todo : List Item) → lines (suc left) v (x ∷ todo) ≡ line_of (path_of x) (body v x.entry.inode) ++ lines left v (items_of (path_of x) (entries_in (slots_of (body v x.entry.inode))) ++ todo)
unfolding lines
lines-next v left x todo = refl

lines-none : (v : Volume) (left : ℕ) → lines left v [] ≡ []
unfolding lines
lines-none v zero = refl
lines-none v (suc left) = refl

lines-zero : (v : Volume) (todo : List Item) → lines zero v todo ≡ []
unfolding lines
lines-zero v todo = refl

pub listed-more : (v : Volume) (left more : ℕ) (text next : List ℕ) (todo rest new : List Step) (s : Step) → Listed v left text todo → todo ≡ rest ++ s ∷ [] → left ≡ suc more → next ≡ text ++ line_of (path_of (item_in text s)) (body v s.link.inode)
    → todo_in next new ≡ items_of (path_of (item_in text s)) (entries_in (slots_of (body v s.link.inode))) ++ todo_in text rest → AreIn next new → Listed v more next new
listed-more v left more text next todo rest new s h e one now is inside =
    let x = item_in text s in
    let line = line_of (path_of x) (body v s.link.inode) in
    let after = items_of (path_of x) (entries_in (slots_of (body v s.link.inode))) ++ todo_in text rest in
    let waits : todo_in text todo ≡ x ∷ todo_in text rest = ap (todo_in text) e ∙ todo-push text rest s in
    let was : text ++ lines left v (todo_in text todo) ≡ text ++ (line ++ lines more v after) =
    ap (λ (n : ℕ). text ++ lines n v (todo_in text todo)) one ∙ ap (λ (xs : List Item). text ++ lines (suc more) v xs) waits ∙ ap (λ (t : List ℕ). text ++ t) (lines-next v more x (todo_in text rest)) in
    record {
      whole = ap (λ (xs : List Item). next ++ lines more v xs) is ∙ ap (λ (t : List ℕ). t ++ lines more v after) now ∙ append_assoc text line (lines more v after) ∙ sym was ∙ h.whole;
      inside = inside;
    }

-- where nothing waits
pub listed-none : (v : Volume) (left more : ℕ) (text : List ℕ) (todo rest : List Step) → Listed v left text todo → length todo ≡ 0 → length rest ≡ 0 → Listed v more text rest
listed-none v left more text [] [] h e f = record { whole = ap (λ (t : List ℕ). text ++ t) (lines-none v more ∙ sym (lines-none v left)) ∙ h.whole; inside = h.inside }
listed-none v left more text [] (r ∷ rest) h e f = absurd (omega arith)
listed-none v left more text (s ∷ todo) rest h e f = absurd (omega arith)

-- the slots of one inode, and those of the inodes after it
slots-split : (v : Volume) (i : ℕ) → i < length v → slot_count (drop i v) ≡ name_count (body v i) + slot_count (drop (i + 1) v)
slots-split v i low = ap slot_count (drop_more v i free_node low)

pub listed-inode : (v : Volume) (i : ℕ) (text : List ℕ) (todo : List Step) → i < length v → Listed v (slot_count (drop i v)) text todo → Listed v (name_count (body v i) - 0 + slot_count (drop (i + 1) v)) text todo
listed-inode v i text todo low h =
    let split = slots-split v i low in
    let e : slot_count (drop i v) ≡ name_count (body v i) - 0 + slot_count (drop (i + 1) v) = omega arith in
    subst (λ n. Listed v n text todo) e h

pub listed-next : (v : Volume) (i k : ℕ) (text : List ℕ) (todo : List Step) → name_count (body v i) ≤ k → Listed v (name_count (body v i) - k + slot_count (drop (i + 1) v)) text todo → Listed v (slot_count (drop (i + 1) v)) text todo
listed-next v i k text todo past h = let e : name_count (body v i) - k + slot_count (drop (i + 1) v) ≡ slot_count (drop (i + 1) v) = omega arith in subst (λ n. Listed v n text todo) e h

pub slots-past : (v : Volume) (i : ℕ) → length v ≤ i → slot_count (drop i v) ≡ 0
slots-past v i past = ap slot_count (drop_all i v past)

pub listed-all : (v : Volume) (left : ℕ) (text : List ℕ) (todo : List Step) → Listed v left text todo → left ≡ 0 → text ≡ list_text v
listed-all v left text todo h e = sym (append-nil text) ∙ ap (λ (t : List ℕ). text ++ t) (sym (ap (λ (n : ℕ). lines n v (todo_in text todo)) e ∙ lines-zero v (todo_in text todo))) ∙ h.whole

pub listed-step : (text : List ℕ) (steps todo : List Step) (s : Step) → AreIn text todo → todo ≡ steps ++ s ∷ [] → AreIn text steps × IsIn text s
listed-step text steps todo s h e = in-pop text steps s (subst (AreIn text) e h)

-- ---- one line more

-- what is written in turn: the head of a line, the path, and the end of the line
pub record Written (text head last t1 t2 t3 : List ℕ) (s : Step) : Type 0 where
  pub first : t1 ≡ text ++ head
  pub second : t2 ≡ t1 ++ path_of (item_in t1 s)
  pub third : t3 ≡ t2 ++ last
  pub inside : IsIn text s

written-path : (text head last t1 t2 t3 : List ℕ) (s : Step) → Written text head last t1 t2 t3 s → path_of (item_in t1 s) ≡ path_of (item_in text s)
written-path text head last t1 t2 t3 s w = ap (λ (t : List ℕ). path_of (item_in t s)) w.first ∙ ap path_of (item-kept text head s w.inside)

pub written-text : (text head last t1 t2 t3 : List ℕ) (s : Step) → Written text head last t1 t2 t3 s → t3 ≡ text ++ (head ++ (path_of (item_in text s) ++ last))
written-text text head last t1 t2 t3 s w =
    let path = path_of (item_in text s) in
    let two : t2 ≡ (text ++ head) ++ path = w.second ∙ ap (λ (p : List ℕ). t1 ++ p) (written-path text head last t1 t2 t3 s w) ∙ ap (λ (t : List ℕ). t ++ path) w.first in
    w.third ∙ ap (λ (t : List ℕ). t ++ last) two ∙ append_assoc (text ++ head) path last ∙ append_assoc text head (path ++ last)

pub written-todo : (text head last t1 t2 t3 : List ℕ) (s : Step) (from to : ℕ) (es : List Entry) (old new : List Step) → Written text head last t1 t2 t3 s → from ≡ length t1 → to ≡ length t2 → AreIn text old → ((x : List ℕ) → todo_in x new ≡ items_of (slice_range x from to) es ++ todo_in x old)
    → todo_in t3 new ≡ items_of (path_of (item_in text s)) es ++ todo_in text old
written-todo text head last t1 t2 t3 s from to es old new w e f inside pushed =
    let n = ap length w.second ∙ length-append t1 (path_of (item_in t1 s)) in
    let start : from ≤ to = omega arith in
    let end : to ≤ length t2 = omega arith in
    let path : slice_range t3 from to ≡ path_of (item_in text s) =
    ap (λ (t : List ℕ). slice_range t from to) w.third ∙ range-kept t2 last from to start end ∙ ap (λ (t : List ℕ). slice_range t from to) w.second ∙ ap (take (to - from)) (drop_at t1 (path_of (item_in t1 s)) from (sym e)) ∙ take_all (to - from) (path_of (item_in t1 s)) (omega arith)
    ∙ written-path text head last t1 t2 t3 s w in
    let kept : todo_in t3 old ≡ todo_in text old =
    ap (λ (t : List ℕ). todo_in t old) (written-text text head last t1 t2 t3 s w) ∙ todo-kept text (head ++ (path_of (item_in text s) ++ last)) old inside in
    pushed t3 ∙ ap (λ (p : List ℕ). items_of p es ++ todo_in t3 old) path ∙ ap (λ (xs : List Item). items_of (path_of (item_in text s)) es ++ xs) kept

pub written-inside : (text head last t1 t2 t3 : List ℕ) (s : Step) (to : ℕ) (old new : List Step) → Written text head last t1 t2 t3 s → to ≡ length t2 → AreIn text old → ((x : List ℕ) → to ≤ length x → AreIn x old → AreIn x new) → AreIn t3 new
written-inside text head last t1 t2 t3 s to old new w f inside pushed =
    let n = ap length w.third ∙ length-append t2 last in
    pushed t3 (omega arith) (subst (λ t. AreIn t old) (sym (written-text text head last t1 t2 t3 s w)) (in-kept text (head ++ (path_of (item_in text s) ++ last)) old inside))
