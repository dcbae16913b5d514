-- Slots, one after another.
use Rattle.std.proofs.Common.{get_or, ◌≡◌, ℕ, suc, ◌+◌, ◌<◌, ◌≤◌, Bool, true, false, cond, List, [], ◌∷◌, length, drop, sym, ap, ◌∙◌, arith, drop-cons}
use Rattle.std.specs.Prelude.{Option, Some, None}
use Rattle.std.proofs.lemmas.List.{drop_all}
use Rattle.std.specs.Str.{bytes_eq}
use Rattle.mq_layout.specs.Slots.{Entry}
use Rattle.mq_inodes.specs.Dirs.{names_of, slots_in}
use Rattle.mq_tree.specs.Decoded.{slot_of}
use Rattle.mq_tree.specs.Requests.{count_names, unused}
use Rattle.mq_tree.specs.Volume.{find, slot_number}
use Rattle.mq_tree.proofs.Decoded.{length-table, table-at}

pub length-slots_in : (page : List ℕ) → length (slots_in page) ≡ 15
unfolding slots_in
length-slots_in page = length-table 15 (slot_of page)

pub slots_in-at : (page : List ℕ) (at : ℕ) (d : Option Entry) → at < 15 → get_or (slots_in page) at d ≡ slot_of page at
unfolding slots_in
slots_in-at page at d l = table-at 15 (slot_of page) at d l

slots_in-next : (page : List ℕ) (at : ℕ) → at < 15 → drop at (slots_in page) ≡ slot_of page at ∷ drop (at + 1) (slots_in page)
slots_in-next page at l =
    let n = length-slots_in page in
    let e : at + 1 ≡ suc at = omega arith in
    drop-cons (slots_in page) at None (omega arith) ∙ ap (λ (o : Option Entry). o ∷ drop (suc at) (slots_in page)) (slots_in-at page at None l) ∙ ap (λ (k : ℕ). slot_of page at ∷ drop k (slots_in page)) (sym e)

-- ---- a name

pub find-unused : (name : List ℕ) (page : List ℕ) (at : ℕ) → at < 15 → slot_of page at ≡ None → find name (drop at (slots_in page)) ≡ find name (drop (at + 1) (slots_in page))
find-unused name page at l e = ap (λ (s : List (Option Entry)). find name s) (slots_in-next page at l ∙ ap (λ (o : Option Entry). o ∷ drop (at + 1) (slots_in page)) e)

find-used : (name : List ℕ) (page : List ℕ) (at : ℕ) (e : Entry) → at < 15 → slot_of page at ≡ Some e → find name (drop at (slots_in page)) ≡ cond (bytes_eq e.name name) (Some e.inode) (find name (drop (at + 1) (slots_in page)))
find-used name page at e l is = ap (λ (s : List (Option Entry)). find name s) (slots_in-next page at l ∙ ap (λ (o : Option Entry). o ∷ drop (at + 1) (slots_in page)) is)

pub count-unused : (page : List ℕ) (at : ℕ) → at < 15 → slot_of page at ≡ None → count_names (drop at (slots_in page)) ≡ count_names (drop (at + 1) (slots_in page))
count-unused page at l e = ap (λ (s : List (Option Entry)). count_names s) (slots_in-next page at l ∙ ap (λ (o : Option Entry). o ∷ drop (at + 1) (slots_in page)) e)

pub count-used : (page : List ℕ) (at : ℕ) (e : Entry) → at < 15 → slot_of page at ≡ Some e → count_names (drop at (slots_in page)) ≡ suc (count_names (drop (at + 1) (slots_in page)))
count-used page at e l is = ap (λ (s : List (Option Entry)). count_names s) (slots_in-next page at l ∙ ap (λ (o : Option Entry). o ∷ drop (at + 1) (slots_in page)) is)

pub find-hit : (name : List ℕ) (page : List ℕ) (at : ℕ) (e : Entry) → at < 15 → slot_of page at ≡ Some e → bytes_eq e.name name ≡ true → find name (drop at (slots_in page)) ≡ Some e.inode
find-hit name page at e l is same = find-used name page at e l is ∙ ap (λ (b : Bool). cond b (Some e.inode) (find name (drop (at + 1) (slots_in page)))) same

pub find-pass : (name : List ℕ) (page : List ℕ) (at : ℕ) (e : Entry) → at < 15 → slot_of page at ≡ Some e → bytes_eq e.name name ≡ false → find name (drop at (slots_in page)) ≡ find name (drop (at + 1) (slots_in page))
find-pass name page at e l is other = find-used name page at e l is ∙ ap (λ (b : Bool). cond b (Some e.inode) (find name (drop (at + 1) (slots_in page)))) other

pub drop-all : (page : List ℕ) (at : ℕ) → 15 ≤ at → drop at (slots_in page) ≡ []
drop-all page at l = drop_all at (slots_in page) (let n = length-slots_in page in omega arith)

pub names-unused : (page : List ℕ) (at : ℕ) → at < 15 → slot_of page at ≡ None → names_of (drop at (slots_in page)) ≡ names_of (drop (at + 1) (slots_in page))
names-unused page at l e = ap (λ (s : List (Option Entry)). names_of s) (slots_in-next page at l ∙ ap (λ (o : Option Entry). o ∷ drop (at + 1) (slots_in page)) e)

pub names-used : (page : List ℕ) (at : ℕ) (e : Entry) → at < 15 → slot_of page at ≡ Some e → names_of (drop at (slots_in page)) ≡ e.name ∷ names_of (drop (at + 1) (slots_in page))
names-used page at e l is = ap (λ (s : List (Option Entry)). names_of s) (slots_in-next page at l ∙ ap (λ (o : Option Entry). o ∷ drop (at + 1) (slots_in page)) is)

-- ---- the place of a slot

pub unused-free : (page : List ℕ) (at : ℕ) → at < 15 → slot_of page at ≡ None → unused at (drop at (slots_in page)) ≡ Some at
unused-free page at l e = ap (λ (s : List (Option Entry)). unused at s) (slots_in-next page at l ∙ ap (λ (o : Option Entry). o ∷ drop (at + 1) (slots_in page)) e)

pub unused-used : (page : List ℕ) (at : ℕ) (e : Entry) → at < 15 → slot_of page at ≡ Some e → unused at (drop at (slots_in page)) ≡ unused (at + 1) (drop (at + 1) (slots_in page))
unused-used page at e l is =
    let n : suc at ≡ at + 1 = omega arith in
    ap (λ (s : List (Option Entry)). unused at s) (slots_in-next page at l ∙ ap (λ (o : Option Entry). o ∷ drop (at + 1) (slots_in page)) is) ∙ ap (λ (k : ℕ). unused k (drop (at + 1) (slots_in page))) n

pub number-unused : (name page : List ℕ) (at : ℕ) → at < 15 → slot_of page at ≡ None → slot_number at name (drop at (slots_in page)) ≡ slot_number (at + 1) name (drop (at + 1) (slots_in page))
number-unused name page at l e = ap (λ (s : List (Option Entry)). slot_number at name s) (slots_in-next page at l ∙ ap (λ (o : Option Entry). o ∷ drop (at + 1) (slots_in page)) e)

number-used : (name page : List ℕ) (at : ℕ) (e : Entry) → at < 15 → slot_of page at ≡ Some e → slot_number at name (drop at (slots_in page)) ≡ cond (bytes_eq e.name name) (Some at) (slot_number (at + 1) name (drop (at + 1) (slots_in page)))
number-used name page at e l is = ap (λ (s : List (Option Entry)). slot_number at name s) (slots_in-next page at l ∙ ap (λ (o : Option Entry). o ∷ drop (at + 1) (slots_in page)) is)

pub number-hit : (name page : List ℕ) (at : ℕ) (e : Entry) → at < 15 → slot_of page at ≡ Some e → bytes_eq e.name name ≡ true → slot_number at name (drop at (slots_in page)) ≡ Some at
number-hit name page at e l is same = number-used name page at e l is ∙ ap (λ (b : Bool). cond b (Some at) (slot_number (at + 1) name (drop (at + 1) (slots_in page)))) same

pub number-pass : (name page : List ℕ) (at : ℕ) (e : Entry) → at < 15 → slot_of page at ≡ Some e → bytes_eq e.name name ≡ false → slot_number at name (drop at (slots_in page)) ≡ slot_number (at + 1) name (drop (at + 1) (slots_in page))
number-pass name page at e l is other = number-used name page at e l is ∙ ap (λ (b : Bool). cond b (Some at) (slot_number (at + 1) name (drop (at + 1) (slots_in page)))) other
