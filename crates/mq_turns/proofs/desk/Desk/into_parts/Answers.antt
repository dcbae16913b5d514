use Rattle.std.proofs.Common.{arith, ◌≡◌, ℕ, suc, ap, sym, refl, subst, ◌∙◌, map, ◌+◌, ◌<◌, ◌≤◌, length}
use Rattle.std.specs.Slots.{slots_items, slots_counts}
use lib.ListN.{get_elem?}
use Rattle.mq_turns.specs.Desk.{slots}
use Rattle.mq_turns.specs.AtDesk.{view, start_of}
use Rattle.mq_turns.specs.Closing.{AreSides}
use Rattle.mq_turns.proofs.DeskEnding.{ends, has_pages, has_sides, has_root, ended}
use Rattle.mq_turns.proofs.desk.Desk.into_parts.Goals as goal

-- a table's slots are those of its pages, its sides and the root
all_slots : (len deep n m p s : ℕ) → len ≡ deep → deep ≡ suc (p + s) → n ≡ p → m ≡ s → len ≡ n + m + 1
all_slots len deep n m p s is slots pages sides = omega arith

first_inside : (len n m : ℕ) → len ≡ n + m + 1 → n < len
first_inside len n m is = omega arith

last_inside : (len n m : ℕ) → len ≡ n + m + 1 → n + m < len
last_inside len n m is = omega arith

from_none : (n : ℕ) → 0 ≤ n
from_none n = omega arith

at_least : (n : ℕ) → n ≤ n
at_least n = omega arith

-- the counter, a mark for each side, and the base
counter_inside : (count deep len m : ℕ) → count ≡ deep → len ≡ deep + m + 2 → count < len
counter_inside count deep len m is words = omega arith

words_inside : (len words deep n m : ℕ) → len ≡ words → words ≡ deep + m + 2 → deep ≡ n + m + 1 → (n + m + 1 < len) × (n + m + m + 2 < len)
words_inside len words deep n m is all slots = (omega arith, omega arith)

base_word : (n m s : ℕ) → m ≡ s → suc (n + m + 1 + s) ≡ n + m + m + 2
base_word n m s sides = omega arith

pub gather-one-requires-clause-counter : goal.gather-one-requires-clause-counter
gather-one-requires-clause-counter g c = (c.slot_count.ensures, counter_inside _ _ _ _ c.slot_count.ensures c.args.self.words)

pub gather-one-requires-clause-some : goal.gather-one-requires-clause-some
gather-one-requires-clause-some g c = subst (λ (n : ℕ). 0 < n) (sym c.requires.all) c.args.self.some

pub gather-one-requires-clause-theirs : goal.gather-one-requires-clause-theirs
gather-one-requires-clause-theirs g c = λ k d lt. let h = c.requires.theirs k d lt in (h.0.0, h.1)

pub word-next-requires : goal.word-next-requires
word-next-requires g c =
    let deep = all_slots _ _ _ _ _ _ refl c.args.self.slots c.args.self.all_pages c.args.self.all_sides in
    ((words_inside _ _ _ _ _ c.close_with-closed.ensures.counts.0 c.args.self.words deep).0, c.close_with-closed.ensures.values.0)

pub word-base-requires : goal.word-base-requires
word-base-requires g c =
    let deep = all_slots _ _ _ _ _ _ refl c.args.self.slots c.args.self.all_pages c.args.self.all_sides in
    ((words_inside _ _ _ _ _ c.close_with-closed.ensures.counts.0 c.args.self.words deep).1, c.close_with-closed.ensures.values.0)

pub unload_pages-pages-requires-clause-room : goal.unload_pages-pages-requires-clause-room
unload_pages-pages-requires-clause-room g c =
    let deep = all_slots _ _ _ _ _ _ c.close_with-closed.ensures.counts.1 c.args.self.slots c.args.self.all_pages c.args.self.all_sides in
    (c.in-Ok.ensures.items, c.in-Ok.ensures.capacity, first_inside _ _ _ deep)

pub unload_pages-pages-requires-clause-full : goal.unload_pages-pages-requires-clause-full
unload_pages-pages-requires-clause-full g c = λ j lt. c.close_with-closed.ensures.values.1 j (from_none j) lt

pub unload_pages-pages-requires-clause-home : goal.unload_pages-pages-requires-clause-home
unload_pages-pages-requires-clause-home g c =
    let h = ends g.M.Machine.meaning (start_of c.args.self) _ _ _ _ (slots_items c.close_with-closed.result.slots) c.close_with-closed.ensures.values.2 (c.gather-one.ensures.parts ∙ c.requires.all) c.gather-one.ensures.seat.2 in
    let deep : length (slots_items c.close_with-closed.result.slots) ≡ slots (start_of c.args.self) = sym (slots_counts c.close_with-closed.result.slots).0 ∙ (c.close_with-closed.ensures.counts.1 ∙ c.args.self.slots) in
    let all = has_pages g.M.Machine.meaning (start_of c.args.self) _ _ _ _ h deep in
    λ i lt. all i (subst (λ (n : ℕ). i < n) c.args.self.all_pages lt)

pub unload_sides-sides-requires-clause-home : goal.unload_sides-sides-requires-clause-home
unload_sides-sides-requires-clause-home g c =
    let h = ends g.M.Machine.meaning (start_of c.args.self) _ _ _ _ (slots_items c.close_with-closed.result.slots) c.close_with-closed.ensures.values.2 (c.gather-one.ensures.parts ∙ c.requires.all) c.gather-one.ensures.seat.2 in
    let deep : length (slots_items c.close_with-closed.result.slots) ≡ slots (start_of c.args.self) = sym (slots_counts c.close_with-closed.result.slots).0 ∙ (c.close_with-closed.ensures.counts.1 ∙ c.args.self.slots) in
    let all = has_sides g.M.Machine.meaning (start_of c.args.self) _ _ _ _ h deep in
    let xs = sym c.unload_pages-pages.ensures.same.0 in
    λ i lt. let x = all i (subst (λ (n : ℕ). i < n) c.args.self.all_sides lt) in
    (x.0, ap (λ l. get_elem? l (c.args.self.pages + i)) (sym xs) ∙ (ap (λ m. get_elem? (slots_items c.close_with-closed.result.slots) (m + i)) c.args.self.all_pages ∙ x.1))

pub unload_root-root-requires-clause-home : goal.unload_root-root-requires-clause-home
unload_root-root-requires-clause-home g c =
    let h = ends g.M.Machine.meaning (start_of c.args.self) _ _ _ _ (slots_items c.close_with-closed.result.slots) c.close_with-closed.ensures.values.2 (c.gather-one.ensures.parts ∙ c.requires.all) c.gather-one.ensures.seat.2 in
    let deep : length (slots_items c.close_with-closed.result.slots) ≡ slots (start_of c.args.self) = sym (slots_counts c.close_with-closed.result.slots).0 ∙ (c.close_with-closed.ensures.counts.1 ∙ c.args.self.slots) in
    let x = has_root g.M.Machine.meaning (start_of c.args.self) _ _ _ _ h deep in
    let same = c.unload_sides-sides.ensures.same.0 ∙ c.unload_pages-pages.ensures.same.0 in
    let last : c.args.self.pages + c.args.self.sides ≡ length c.args.self.table.shared.key.pages.value.items + length c.args.self.table.shared.key.sides.value.items = λ i. c.args.self.all_pages i + c.args.self.all_sides i in
    (x.0, ap (λ l. get_elem? l (c.args.self.pages + c.args.self.sides)) same ∙ (ap (get_elem? (slots_items c.close_with-closed.result.slots)) last ∙ x.1))

pub returns-clause-ok : goal.returns-clause-ok
returns-clause-ok g c =
    let h = ends g.M.Machine.meaning (start_of c.args.self) _ _ _ _ (slots_items c.close_with-closed.result.slots) c.close_with-closed.ensures.values.2 (c.gather-one.ensures.parts ∙ c.requires.all) c.gather-one.ensures.seat.2 in
    let xs = slots_items c.close_with-closed.result.slots in
    let pages_is = c.args.self.all_pages in
    let deep : length xs ≡ slots (start_of c.args.self) = sym (slots_counts c.close_with-closed.result.slots).0 ∙ (c.close_with-closed.ensures.counts.1 ∙ c.args.self.slots) in
    let last : c.args.self.pages + c.args.self.sides ≡ length c.args.self.table.shared.key.pages.value.items + length c.args.self.table.shared.key.sides.value.items = λ i. c.args.self.all_pages i + c.args.self.all_sides i in
    let word : suc (c.args.self.pages + c.args.self.sides + 1 + length c.args.self.table.shared.key.sides.value.items) ≡ c.args.self.pages + c.args.self.sides + c.args.self.sides + 2 = base_word c.args.self.pages c.args.self.sides _ c.args.self.all_sides in
    let pages : length c.unload_pages-pages.result.items ≡ length c.args.self.table.shared.key.pages.value.items = sym c.unload_pages-pages.result.ok.0 ∙ (c.unload_pages-pages.ensures.pages.0 ∙ c.args.self.all_pages) in
    let sides : length c.unload_sides-sides.result.items ≡ length c.args.self.table.shared.key.sides.value.items = sym c.unload_sides-sides.result.ok.0 ∙ (c.unload_sides-sides.ensures.sides.0 ∙ c.args.self.all_sides) in
    let mine : AreSides c.args.self.pages xs c.unload_sides-sides.result.items = λ i x there. ap (λ l. get_elem? l (c.args.self.pages + i)) (sym c.unload_pages-pages.ensures.same.0) ∙ c.unload_sides-sides.ensures.sides.1 i x there in
    let are_sides : AreSides (length c.args.self.table.shared.key.pages.value.items) xs c.unload_sides-sides.result.items = λ i x there. ap (λ m. get_elem? xs (m + i)) (sym pages_is) ∙ mine i x there in
    let root = ap (get_elem? xs) (sym last) ∙ (ap (λ l. get_elem? l (c.args.self.pages + c.args.self.sides)) (sym (c.unload_sides-sides.ensures.same.0 ∙ c.unload_pages-pages.ensures.same.0)) ∙ c.unload_root-root.ensures.root) in
    ended g.M.Machine.meaning (start_of c.args.self) _ _ _ xs h deep
    (map (λ ch. view ch) c.args.chairs.items) c.unload_pages-pages.result.items c.unload_sides-sides.result.items c.unload_root-root.result (c.args.self.pages + c.args.self.sides + 1) c.word-next.result c.word-base.result (sym (all_slots _ _ _ _ _ _ deep refl c.args.self.all_pages c.args.self.all_sides)) c.word-next.ensures (ap (λ i. get_elem? (slots_items c.close_with-closed.result.words) i) word ∙ c.word-base.ensures)
    pages c.unload_pages-pages.ensures.pages.1 sides are_sides root
    c.gather-one.ensures.all.0 c.gather-one.ensures.all.1 c.gather-one.ensures.order c.gather-one.ensures.charged c.gather-one.ensures.done c.gather-one.ensures.based c.gather-one.ensures.seen

pub unload_sides-sides-requires-clause-room : goal.unload_sides-sides-requires-clause-room
unload_sides-sides-requires-clause-room g c =
    let deep = all_slots _ _ _ _ _ _ (c.unload_pages-pages.ensures.same.1 ∙ c.close_with-closed.ensures.counts.1) c.args.self.slots c.args.self.all_pages c.args.self.all_sides in
    (c.in-Ok-with_capacity.ensures.items, c.in-Ok-with_capacity.ensures.capacity, last_inside _ _ _ deep)

pub unload_sides-sides-requires-clause-full : goal.unload_sides-sides-requires-clause-full
unload_sides-sides-requires-clause-full g c = λ j lo lt. c.unload_pages-pages.ensures.left j lo (subst (λ (n : ℕ). j < n) c.unload_pages-pages.ensures.same.1 lt)

pub unload_sides-sides-requires-clause-empty : goal.unload_sides-sides-requires-clause-empty
unload_sides-sides-requires-clause-empty g c = c.unload_pages-pages.ensures.gone

pub unload_root-root-requires-clause-count : goal.unload_root-root-requires-clause-count
unload_root-root-requires-clause-count g c = all_slots _ _ _ _ _ _ (c.unload_sides-sides.ensures.same.1 ∙ (c.unload_pages-pages.ensures.same.1 ∙ c.close_with-closed.ensures.counts.1)) c.args.self.slots c.args.self.all_pages c.args.self.all_sides

pub unload_root-root-requires-clause-full : goal.unload_root-root-requires-clause-full
unload_root-root-requires-clause-full g c =
    let deep = all_slots _ _ _ _ _ _ (c.unload_pages-pages.ensures.same.1 ∙ c.close_with-closed.ensures.counts.1) c.args.self.slots c.args.self.all_pages c.args.self.all_sides in
    c.unload_sides-sides.ensures.left (c.args.self.pages + c.args.self.sides) (at_least _) (last_inside _ _ _ deep)

pub unload_root-root-requires-clause-empty : goal.unload_root-root-requires-clause-empty
unload_root-root-requires-clause-empty g c = c.unload_sides-sides.ensures.gone
