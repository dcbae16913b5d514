-- An inode grows by the blocks that were picked, one after another.
use Rattle.std.proofs.Common.{get_or, ◌≡◌, ◌≢◌, ℕ, zero, suc, ◌+◌, ◌-◌, ◌<◌, ◌≤◌, ◌⊎◌, inl, inr, List, [], ◌∷◌, ◌++◌, length, Bool, true, false, refl, sym, ap, subst, ◌∙◌, arith}
use Rattle.std.specs.Prelude.{Option, Some, None, ◌&&◌, is_none, is_some, if◌then◌else◌, nat_eq, nat_le, nat_lt}
use Rattle.std.specs.List.{All}
use Rattle.std.proofs.lemmas.Bool.{cases_eq, eq-eqb, le-ltb, lt-ltb, ltb-false, ltb-true, ne_eqb, true≢false}
use Rattle.std.proofs.lemmas.Bool.Decides.{nat_tests}
use Rattle.std.proofs.lemmas.List.{get_or_default, length-append}
use Rattle.mq_blocks.proofs.JournalAmong.{at-among}
use Rattle.mq_blocks.specs.Geometry.{queues_of}
use Rattle.mq_blocks.specs.Journal.{is_among}
use Rattle.mq_blocks.specs.declared.geometry.Geometry.{Geometry}
use Rattle.mq_inodes.specs.Changes.{zone_in}
use Rattle.mq_inodes.specs.Edits.{Becomes, Carries, IsOver}
use Rattle.mq_inodes.specs.Growing.{HasGot, HoldsIndirect, KeepsOthers, MayGet, with_one}
use Rattle.mq_inodes.specs.Opened.{HasGrown, HoldsPointers, IsOpened, IsTakeable, IsWithin, MayGrow}
use Rattle.mq_inodes.specs.Pages.{IsHeld, Pages, pages_of}
use Rattle.mq_inodes.specs.Picks.{ArePicked}
use Rattle.mq_inodes.specs.declared.opened.Opened.{Opened}
use Rattle.mq_inodes.specs.declared.working.Working.{Working}
use Rattle.mq_inodes.proofs.EditsBecoming.{becomes-self, becomes-then}
use Rattle.mq_inodes.proofs.GrowingByOne.{indirect-high, more-within, no-indirect, some-indirect}
use Rattle.mq_inodes.proofs.ChangesTaken.{longer, with_indirect}
use Rattle.mq_inodes.proofs.ChangesVolumes.{one_more-is, pointed-is, pointed-not}
use Rattle.mq_inodes.proofs.Picks.{IsTakenMore, block-more, picks-apart, picks-first, picks-free, picks-rest, pointers-more}
use Rattle.mq_layout.specs.Places.{inode_block, inodes_of, zone_bitmap}
use Rattle.mq_layout.specs.declared.inode.Inode.{Inode}
use Rattle.mq_tree.specs.Free.{first_of, grown, needs, one_more, order, with_block, with_pointers}
use Rattle.mq_tree.specs.Laid.{inode_of, or_zero}
use Rattle.mq_tree.specs.Volume.{Node, Volume, body, node}
use Rattle.mq_tree.proofs.FreeUses.{node-here}

-- ---- one block

one-pointed : (v : Volume) (i b : ℕ) → length (node v i).blocks ≡ 12 → (node v i).indirect ≡ None → with_one v i b ≡ with_pointers v i (Some b)
one-pointed v i b twelve none =
    ap (λ (t : Bool). if t && is_none (node v i).indirect then with_pointers v i (Some b) else with_block v i (Some b)) (eq-eqb (length (node v i).blocks) 12 twelve)
    ∙ ap (λ (o : Option ℕ). if is_none o then with_pointers v i (Some b) else with_block v i (Some b)) none

one-block : (v : Volume) (i b : ℕ) → (length (node v i).blocks ≡ 12 → (node v i).indirect ≢ None) → with_one v i b ≡ with_block v i (Some b)
one-block v i b not = elim (cases_eq (length (node v i).blocks) 12) [
  | inl e ↦
      ap (λ (t : Bool). if t && is_none (node v i).indirect then with_pointers v i (Some b) else with_block v i (Some b)) (eq-eqb (length (node v i).blocks) 12 e)
      ∙ ap (λ (t : Bool). if t then with_pointers v i (Some b) else with_block v i (Some b)) (there (node v i).indirect (not e))
  | inr n ↦ ap (λ (t : Bool). if t && is_none (node v i).indirect then with_pointers v i (Some b) else with_block v i (Some b)) (ne_eqb (length (node v i).blocks) 12 n)
]
  where
    there : (o : Option ℕ) → o ≢ None → is_none o ≡ false
    there None other = absurd (other refl)
    there (Some x) other = refl

pub far-indirect : (g : Geometry) (pages : Pages) (v : Volume) (o : Opened) (b : ℕ) → Carries g pages v → MayGet g v o b → (length o.blocks.items ≡ 12 → o.inode.indirect ≢ 0) → 12 ≤ length o.blocks.items → o.inode.indirect ≢ 0
far-indirect g pages v o b c m not many none =
    let few = m.near (no-indirect g v o.number c.uses (sym (ap (λ (x : Inode). x.indirect) m.inode) ∙ none)) in
    not (omega arith) none

pub got-pointed : (g : Geometry) (pages : Pages) (v : Volume) (o : Opened) (b : ℕ) → Carries g pages v → MayGet g v o b → length o.blocks.items ≡ 12 → o.inode.indirect ≡ 0 → with_one v o.number b ≡ with_pointers v o.number (Some b)
got-pointed g pages v o b c m twelve none =
    one-pointed v o.number b (sym (ap (λ (xs : List ℕ). length xs) m.blocks) ∙ twelve) (no-indirect g v o.number c.uses (sym (ap (λ (x : Inode). x.indirect) m.inode) ∙ none))

pub got-block : (g : Geometry) (v : Volume) (o : Opened) (b : ℕ) → MayGet g v o b → (length o.blocks.items ≡ 12 → o.inode.indirect ≢ 0) → with_one v o.number b ≡ with_block v o.number (Some b)
got-block g v o b m not =
    one-block v o.number b (λ e none. not (ap (λ (xs : List ℕ). length xs) m.blocks ∙ e) (ap (λ (x : Inode). x.indirect) m.inode ∙ ap or_zero none))

-- ---- the rest of the growth

-- `left` blocks more, where the block of pointers may be there right before the thirteenth
abbrev finish : Geometry → (queue : ℕ) → Volume → ℕ → (left : ℕ) → Volume
finish g q v i zero = v
finish g q v i (suc left) = if nat_eq (length (node v i).blocks) 12 && is_some (node v i).indirect then grown g q (one_more g q v i) i left else grown g q v i (suc left)

finish-grown : (g : Geometry) (q : ℕ) (v : Volume) (i left : ℕ) → (length (node v i).blocks ≡ 12 → (node v i).indirect ≡ None) → finish g q v i left ≡ grown g q v i left
finish-grown g q v i zero none = refl
finish-grown g q v i (suc left) none = elim (cases_eq (length (node v i).blocks) 12) [
  | inl e ↦
      ap (λ (t : Bool). if t && is_some (node v i).indirect then grown g q (one_more g q v i) i left else grown g q v i (suc left)) (eq-eqb (length (node v i).blocks) 12 e)
      ∙ ap (λ (o : Option ℕ). if is_some o then grown g q (one_more g q v i) i left else grown g q v i (suc left)) (none e)
  | inr n ↦ ap (λ (t : Bool). if t && is_some (node v i).indirect then grown g q (one_more g q v i) i left else grown g q v i (suc left)) (ne_eqb (length (node v i).blocks) 12 n)
]

finish-pointed : (g : Geometry) (q : ℕ) (v : Volume) (i left : ℕ) → length (node v i).blocks ≡ 12 → is_some (node v i).indirect ≡ true → finish g q v i (suc left) ≡ grown g q (one_more g q v i) i left
finish-pointed g q v i left e there =
    ap (λ (t : Bool). if t && is_some (node v i).indirect then grown g q (one_more g q v i) i left else grown g q v i (suc left)) (eq-eqb (length (node v i).blocks) 12 e)
    ∙ ap (λ (t : Bool). if t then grown g q (one_more g q v i) i left else grown g q v i (suc left)) there

-- a block of pointers is taken
rest-pointed : (g : Geometry) (q : ℕ) (v : Volume) (i b left : ℕ) → i < length v → length (node v i).blocks ≡ 12 → (node v i).indirect ≡ None → first_of v (order g q) ≡ Some b → finish g q (with_pointers v i (Some b)) i (suc left) ≡ finish g q v i (suc left)
rest-pointed g q v i b left low e none first =
    let w = with_pointers v i (Some b) in
    let here : node w i ≡ with_indirect (node v i) b = node-here v i (with_indirect (node v i) b) low in
    finish-pointed g q w i left (ap (λ (n : Node). length n.blocks) here ∙ e) (ap (λ (n : Node). is_some n.indirect) here)
    ∙ sym (finish-grown g q v i (suc left) (λ h. none) ∙ ap (λ (x : Volume). grown g q (one_more g q x i) i left) (pointed-is g q v i b e first))

-- the next block is taken
rest-block : (g : Geometry) (q : ℕ) (v : Volume) (i b left : ℕ) → i < length v → (length (node v i).blocks ≡ 12 → (node v i).indirect ≢ None) → (length (node v i).blocks < 12 → (node v i).indirect ≡ None) → first_of v (order g q) ≡ Some b
    → finish g q (with_block v i (Some b)) i left ≡ finish g q v i (suc left)
rest-block g q v i b left low far near first =
    let w = with_block v i (Some b) in
    let here : node w i ≡ longer (node v i) b = node-here v i (longer (node v i) b) low in
    let count : length (node w i).blocks ≡ length (node v i).blocks + 1 = ap (λ (n : Node). length n.blocks) here ∙ length-append (node v i).blocks (b ∷ []) in
    let next : one_more g q v i ≡ w = one_more-is g q v i b first in
    finish-grown g q w i left (λ e. ap (λ (n : Node). n.indirect) here ∙ near (omega arith))
    ∙ sym (elim (cases_eq (length (node v i).blocks) 12) [
      | inl e ↦ finish-pointed g q v i left e (there (node v i).indirect (far e)) ∙ ap (λ (x : Volume). grown g q x i left) next
      | inr n ↦ finish-grown g q v i (suc left) (λ e. absurd (n e)) ∙ ap (λ (x : Volume). grown g q (one_more g q x i) i left) (pointed-not g q v i n) ∙ ap (λ (x : Volume). grown g q x i left) next
    ])
  where
    there : (o : Option ℕ) → o ≢ None → is_some o ≡ true
    there None other = absurd (other refl)
    there (Some x) other = refl

-- ---- how many picks that takes

abbrev extra : ℕ → ℕ
extra total = if nat_lt 12 total then 1 else 0

-- the picks are for `left` blocks more, and for a block of pointers that is not there yet
record IsPlanned (n : Node) (left picks : ℕ) : Type 0 where
  few : length n.blocks + left ≤ 1036
  none : n.indirect ≡ None → (length n.blocks ≤ 12) × (picks ≡ left + extra (length n.blocks + left))
  some : n.indirect ≢ None → (12 ≤ length n.blocks) × (12 < length n.blocks + left) × (picks ≡ left)

extra-one : (total : ℕ) → 12 < total → extra total ≡ 1
extra-one total l = ap (λ (t : Bool). if t then 1 else 0) (lt-ltb 12 total l)

extra-none : (total : ℕ) → total ≤ 12 → extra total ≡ 0
extra-none total l = ap (λ (t : Bool). if t then 1 else 0) (le-ltb 12 total l)

plan-start : (n : Node) (count picks : ℕ) → length n.blocks + count ≤ 1036 → is_some n.indirect ≡ nat_lt 12 (length n.blocks) → picks ≡ needs (length n.blocks) (length n.blocks + count) → IsPlanned n count picks
plan-start n count picks few is e =
    let have = length n.blocks in
    let left : have + count - have ≡ count = omega arith in
    record {
      few = few;
      none = λ none.
          let short : have ≤ 12 = ltb-false 12 have (sym is ∙ ap is_some none) in
          (short, e ∙ ap (λ (k : ℕ). k + (if nat_le have 12 && nat_lt 12 (have + count) then 1 else 0)) left ∙ ap (λ (t : Bool). count + (if t && nat_lt 12 (have + count) then 1 else 0)) (short-true have short));
      some = λ some.
          let long : 12 < have = ltb-true 12 have (sym is ∙ there n.indirect some) in
          let exact : picks ≡ count + 0 = e ∙ ap (λ (k : ℕ). k + (if nat_le have 12 && nat_lt 12 (have + count) then 1 else 0)) left ∙ ap (λ (t : Bool). count + (if t && nat_lt 12 (have + count) then 1 else 0)) (long-false have long) in
          (omega arith, omega arith, omega arith);
    }
  where
    there : (o : Option ℕ) → o ≢ None → is_some o ≡ true
    there None other = absurd (other refl)
    there (Some x) other = refl

    short-true : (k : ℕ) → k ≤ 12 → nat_le k 12 ≡ true
    short-true k l = grind (arith, nat_tests)

    long-false : (k : ℕ) → 12 < k → nat_le k 12 ≡ false
    long-false k l = grind (arith, nat_tests)

-- a pick that is left is for a block, if not for the pointers
plan-some : (n : Node) (left picks : ℕ) → IsPlanned n left (suc picks) → (l : ℕ) × (left ≡ suc l)
plan-some n zero picks p = absurd (none-left n.indirect refl)
  where
    none-left : (o : Option ℕ) → n.indirect ≡ o → ⊥
    none-left None e = let h = p.none e in let x = extra-none (length n.blocks + zero) (omega arith) in absurd (omega arith)
    none-left (Some b) e = let h = p.some (λ f. (let g : Some b ≡ None = sym e ∙ f in absurd (cc))) in absurd (omega arith)
plan-some n (suc left) picks p = (left, refl)

plan-pointed : (n : Node) (left picks b : ℕ) → length n.blocks ≡ 12 → n.indirect ≡ None → IsPlanned n (suc left) (suc picks) → IsPlanned (with_indirect n b) (suc left) picks
plan-pointed n left picks b twelve none p =
    let h = p.none none in
    let x = extra-one (length n.blocks + suc left) (omega arith) in
    let few = p.few in
    record { few = few; none = λ e. absurd (cc); some = λ e. (omega arith, omega arith, omega arith) }

plan-block : (n : Node) (left picks b : ℕ) → (length n.blocks ≡ 12 → n.indirect ≢ None) → IsPlanned n (suc left) (suc picks) → IsPlanned (longer n b) left picks
plan-block n left picks b not p =
    let count : length (n.blocks ++ b ∷ []) ≡ length n.blocks + 1 = length-append n.blocks (b ∷ []) in
    let same : length (n.blocks ++ b ∷ []) + left ≡ length n.blocks + suc left = omega arith in
    let few = p.few in
    record {
      few = omega arith;
      none = λ e. let h = p.none e in (short (h.0) (cases_eq (length n.blocks) 12) e, (let x = ap extra same in omega arith));
      some = λ e. let h = p.some e in (omega arith, omega arith, omega arith);
    }
  where
    short : length n.blocks ≤ 12 → (length n.blocks ≡ 12) ⊎ (length n.blocks ≢ 12) → n.indirect ≡ None → length (n.blocks ++ b ∷ []) ≤ 12
    short l (inl e) none = absurd (not e none)
    short l (inr other) none = let count = length-append n.blocks (b ∷ []) in omega arith

-- no pick is left
plan-end : (n : Node) (left : ℕ) → IsPlanned n left 0 → (left ≡ 0) × (is_some n.indirect ≡ nat_lt 12 (length n.blocks))
plan-end n left p = at n.indirect refl
  where
    at : (o : Option ℕ) → n.indirect ≡ o → (left ≡ 0) × (is_some o ≡ nat_lt 12 (length n.blocks))
    at None e = let h = p.none e in (omega arith, sym (le-ltb 12 (length n.blocks) h.0))
    at (Some b) e =
        let h = p.some (λ f. (let g : Some b ≡ None = sym e ∙ f in absurd (cc))) in
        (omega arith, sym (lt-ltb 12 (length n.blocks) (omega arith)))

-- ---- some of the picks are taken

-- The pages carry a volume in which an inode has some of the picks, and the others are picked there.
pub record IsOnWay (g : Geometry) (q : ℕ) (v : Volume) (count i : ℕ) (old now : Working) (o : Opened) (rest : List ℕ) : Type 0 where
  pub mid : Volume
  left : ℕ
  grows : finish g q mid i left ≡ grown g q v i count
  becomes : Becomes g v mid old now
  number : o.number ≡ i
  low : i < inodes_of g
  queue : q < queues_of g
  inode : o.inode ≡ inode_of (node mid i)
  blocks : o.blocks.items ≡ (node mid i).blocks
  within : IsWithin (body mid i) (length o.blocks.items)
  plan : IsPlanned (node mid i) left (length rest)
  picked : ArePicked g q mid (length rest) rest

pub way-start : (g : Geometry) (q : ℕ) (v : Volume) (count : ℕ) (now : Working) (o : Opened) (picks : List ℕ) → Carries g (pages_of now) v → MayGrow g q v o picks count → IsOnWay g q v count o.number now now o picks
way-start g q v count now o picks c m =
    let n = node v o.number in
    let same : length o.blocks.items ≡ length n.blocks = ap (λ (xs : List ℕ). length xs) m.opened.blocks in
    let k = m.picked.enough in
    record {
      mid = v;
      left = count;
      grows = finish-grown g q v o.number count (λ twelve. none n.indirect (m.opened.indirect ∙ le-ltb 12 (length n.blocks) (omega arith)));
      becomes = becomes-self g v now c;
      number = refl;
      low = m.opened.low;
      queue = m.queue;
      inode = m.opened.inode;
      blocks = m.opened.blocks;
      within = m.within;
      plan = plan-start n count (length picks) (subst (λ (h : ℕ). h + count ≤ 1036) same m.few) m.opened.indirect (k ∙ ap (λ (h : ℕ). needs h (h + count)) same);
      picked = subst (λ (h : ℕ). ArePicked g q v h picks) (sym k) m.picked;
    }
  where
    none : (x : Option ℕ) → is_some x ≡ false → x ≡ None
    none None e = refl
    none (Some b) e = absurd (true≢false e)

-- the next pick may be taken
way-may : (g : Geometry) (q : ℕ) (v : Volume) (count i : ℕ) (old now : Working) (o : Opened) (b : ℕ) (rest : List ℕ) (w : IsOnWay g q v count i old now o (b ∷ rest)) → MayGet g w.mid o b
way-may g q v count i old now o b rest w =
    let n = node w.mid i in
    let same : length o.blocks.items ≡ length n.blocks = ap (λ (xs : List ℕ). length xs) w.blocks in
    let f = picks-free g q w.mid (length rest) b rest w.queue w.picked in
    let s = plan-some n w.left (length rest) w.plan in
    let more = s.1 in
    let few = w.plan.few in
    let number = w.number in
    let low = w.low in
    record {
      low = omega arith;
      inode = w.inode ∙ ap (λ (j : ℕ). inode_of (node w.mid j)) (sym w.number);
      blocks = w.blocks ∙ ap (λ (j : ℕ). (node w.mid j).blocks) (sym w.number);
      within = subst (λ (j : ℕ). IsWithin (body w.mid j) (length o.blocks.items)) (sym w.number) w.within;
      few = omega arith;
      near = λ e. let h = (w.plan.none (ap (λ (j : ℕ). (node w.mid j).indirect) (sym w.number) ∙ e)).0 in omega arith;
      free = f.free;
      high = f.high;
      home = f.home;
    }

-- the volume with one block more
record IsNext (g : Geometry) (q : ℕ) (mid next : Volume) (i left after picks b : ℕ) : Type 0 where
  grows : finish g q next i after ≡ finish g q mid i left
  within : IsWithin (body next i) (length (node next i).blocks)
  plan : IsPlanned (node next i) after picks
  more : IsTakenMore mid next b

way-next : (g : Geometry) (q : ℕ) (v next : Volume) (count i left : ℕ) (old now new : Working) (o after : Opened) (b : ℕ) (rest : List ℕ) (w : IsOnWay g q v count i old now o (b ∷ rest)) → with_one w.mid o.number b ≡ next → IsNext g q w.mid next i w.left left (length rest) b
    → IsOver old now → HasGot g w.mid (with_one w.mid o.number b) now new o after → IsOnWay g q v count i old new after rest
way-next g q v next count i left old now new o after b rest w e n over got =
    let blocks : after.blocks.items ≡ (node next i).blocks = got.blocks ∙ ap (λ (x : Volume). (node x o.number).blocks) e ∙ ap (λ (j : ℕ). (node next j).blocks) w.number in
    record {
      mid = next;
      left = left;
      grows = n.grows ∙ w.grows;
      becomes = becomes-then g v w.mid next old now new over w.becomes (subst (λ (x : Volume). Becomes g w.mid x now new) e got.becomes);
      number = got.number ∙ w.number;
      low = w.low;
      queue = w.queue;
      inode = got.inode ∙ ap (λ (x : Volume). inode_of (node x o.number)) e ∙ ap (λ (j : ℕ). inode_of (node next j)) w.number;
      blocks = blocks;
      within = subst (λ (xs : List ℕ). IsWithin (body next i) (length xs)) (sym blocks) n.within;
      plan = n.plan;
      picked = picks-rest g q w.mid next (length rest) b rest w.queue w.picked n.more;
    }

-- whether a block of pointers comes next
comes-next : (n : Node) → ((length n.blocks ≡ 12) × (n.indirect ≡ None)) ⊎ (length n.blocks ≡ 12 → n.indirect ≢ None)
comes-next n = elim (cases_eq (length n.blocks) 12) [
  | inl e ↦ at e n.indirect refl
  | inr other ↦ inr (λ e. absurd (other e))
]
  where
    at : length n.blocks ≡ 12 → (o : Option ℕ) → n.indirect ≡ o → ((length n.blocks ≡ 12) × (n.indirect ≡ None)) ⊎ (length n.blocks ≡ 12 → n.indirect ≢ None)
    at e None is = inl (e, is)
    at e (Some x) is = inr (λ f none. (let g : Some x ≡ None = sym is ∙ none in absurd (cc)))

pub way-step : (g : Geometry) (q : ℕ) (v : Volume) (count i : ℕ) (old now new : Working) (o after : Opened) (b : ℕ) (rest : List ℕ) (w : IsOnWay g q v count i old now o (b ∷ rest)) → IsOver old now → HasGot g w.mid (with_one w.mid o.number b) now new o after
    → IsOnWay g q v count i old new after rest
way-step g q v count i old now new o after b rest w over got =
    let mid = w.mid in
    let n = node mid i in
    let s = plan-some n w.left (length rest) w.plan in
    let more = s.1 in
    let plan : IsPlanned n (suc s.0) (suc (length rest)) = subst (λ (k : ℕ). IsPlanned n k (suc (length rest))) more w.plan in
    let count_in = w.becomes.carries.count in
    let inside = w.low in
    let low : i < length mid = omega arith in
    let first = picks-first g q mid (length rest) b rest w.picked in
    let within : IsWithin n.body (length n.blocks) = subst (λ (xs : List ℕ). IsWithin n.body (length xs)) w.blocks w.within in
    elim (comes-next n) [
      | inl next ↦
          let u = with_pointers mid i (Some b) in
          let here : node u i ≡ with_indirect n b = node-here mid i (with_indirect n b) low in
          way-next g q v u count i (suc s.0) old now new o after b rest w (ap (λ (j : ℕ). with_one mid j b) w.number ∙ one-pointed mid i b next.0 next.1) (record {
            grows = rest-pointed g q mid i b s.0 low next.0 next.1 first ∙ ap (λ (k : ℕ). finish g q mid i k) (sym more);
            within = subst (λ (x : Node). IsWithin x.body (length x.blocks)) (sym here) within;
            plan = subst (λ (x : Node). IsPlanned x (suc s.0) (length rest)) (sym here) (plan-pointed n s.0 (length rest) b next.0 next.1 plan);
            more = pointers-more mid i b low next.1;
          }) over got
      | inr not ↦
          let u = with_block mid i (Some b) in
          let here : node u i ≡ longer n b = node-here mid i (longer n b) low in
          way-next g q v u count i s.0 old now new o after b rest w (ap (λ (j : ℕ). with_one mid j b) w.number ∙ one-block mid i b not) (record {
            grows = rest-block g q mid i b s.0 low not (early n plan) first ∙ ap (λ (k : ℕ). finish g q mid i k) (sym more);
            within = subst (λ (x : Node). IsWithin x.body (length x.blocks)) (sym here) (subst (λ (k : ℕ). IsWithin n.body k) (sym (length-append n.blocks (b ∷ []))) (more-within n.body (length n.blocks) within));
            plan = subst (λ (x : Node). IsPlanned x s.0 (length rest)) (sym here) (plan-block n s.0 (length rest) b not plan);
            more = block-more mid i b low;
          }) over got
    ]
  where
    early : (n : Node) {left picks : ℕ} → IsPlanned n left picks → length n.blocks < 12 → n.indirect ≡ None
    early n p near = at n.indirect refl
      where
        at : (x : Option ℕ) → n.indirect ≡ x → n.indirect ≡ None
        at None e = e
        at (Some y) e = let h = p.some (λ f. (let g : Some y ≡ None = sym e ∙ f in absurd (cc))) in absurd (omega arith)

-- ---- where the geometry is that of the pages now

pub way-possible : (g h : Geometry) (q : ℕ) (v : Volume) (count i : ℕ) (old now : Working) (o : Opened) (b : ℕ) (rest : List ℕ) → h ≡ g → IsOnWay g q v count i old now o (b ∷ rest) → (x : Volume) × Carries h (pages_of now) x × MayGet h x o b
way-possible g h q v count i old now o b rest e w =
    (w.mid, subst (λ (k : Geometry). Carries k (pages_of now) w.mid) (sym e) w.becomes.carries, subst (λ (k : Geometry). MayGet k w.mid o b) (sym e) (way-may g q v count i old now o b rest w))

pub way-got : (g h : Geometry) (q : ℕ) (v : Volume) (count i : ℕ) (old now new : Working) (o after : Opened) (b : ℕ) (rest : List ℕ) → h ≡ g → (w : IsOnWay g q v count i old now o (b ∷ rest)) → ((x : Volume) → Carries h (pages_of now) x → MayGet h x o b → HasGot h x (with_one x o.number b) now new o after)
    → HasGot g w.mid (with_one w.mid o.number b) now new o after
way-got g h q v count i old now new o after b rest e w got =
    let p = subst (λ (k : Geometry). Carries k (pages_of now) w.mid) (sym e) w.becomes.carries in
    let m = subst (λ (k : Geometry). MayGet k w.mid o b) (sym e) (way-may g q v count i old now o b rest w) in
    subst (λ (k : Geometry). HasGot k w.mid (with_one w.mid o.number b) now new o after) e (got w.mid p m)

-- no pick is left
pub way-end : (g : Geometry) (q : ℕ) (v : Volume) (count : ℕ) (old now : Working) (before o : Opened) → IsOnWay g q v count before.number old now o [] → HasGrown g q v old now before o count
way-end g q v count old now before o w =
    let i = before.number in
    let last = plan-end (node w.mid i) w.left w.plan in
    let is : w.mid ≡ grown g q v i count = ap (λ (k : ℕ). finish g q w.mid i k) (sym last.0) ∙ w.grows in
    let opened : IsOpened g w.mid o = record {
      low = subst (λ (j : ℕ). j < inodes_of g) (sym w.number) w.low;
      inode = w.inode ∙ ap (λ (j : ℕ). inode_of (node w.mid j)) (sym w.number);
      blocks = w.blocks ∙ ap (λ (j : ℕ). (node w.mid j).blocks) (sym w.number);
      indirect = subst (λ (j : ℕ). is_some (node w.mid j).indirect ≡ nat_lt 12 (length (node w.mid j).blocks)) (sym w.number) last.1;
    } in
    record {
      number = w.number;
      becomes = subst (λ (x : Volume). Becomes g v x old now) is w.becomes;
      opened = subst (λ (x : Volume). IsOpened g x o) is opened;
    }

-- ---- the pages with some of the picks taken

-- the other picks may be taken, and what is written with them is held
pub record AreReady (g : Geometry) (now : Working) (o : Opened) (rest : List ℕ) : Type 0 where
  pub picks : All (IsTakeable g (pages_of now)) rest
  pub table : IsHeld (pages_of now) (inode_block g o.number)
  pub pointers : HoldsIndirect (pages_of now) o.inode

not-among : (b : ℕ) (xs : List ℕ) (k d : ℕ) → is_among b xs ≡ false → k < length xs → get_or xs k d ≢ b
not-among b xs k d out l e = true≢false (sym (at-among xs k l) ∙ ap (λ (x : ℕ). is_among x xs) (get_or_default xs k 0 d l ∙ e) ∙ out)

pub ready-step : (g : Geometry) (q : ℕ) (v : Volume) (count i : ℕ) (old now new : Working) (o after : Opened) (b : ℕ) (rest : List ℕ) → IsOnWay g q v count i old now o (b ∷ rest) → AreReady g now o (b ∷ rest) → after.number ≡ o.number
    → KeepsOthers (pages_of now) (pages_of new) b → HoldsIndirect (pages_of new) after.inode → AreReady g new after rest
ready-step g q v count i old now new o after b rest w r number k indirect =
    let apart = picks-apart g q w.mid (length rest) b rest w.queue w.picked in
    record {
      picks = λ j d l.
          let t = r.picks (suc j) d (omega arith) in
          record {
            marks = record { high = t.marks.high; home = t.marks.home; marks = k.held (zone_bitmap (zone_in g (get_or rest j d))) t.marks.marks };
            free = k.free (get_or rest j d) (not-among b rest j d apart l) t.free;
          };
      table = subst (λ (j : ℕ). IsHeld (pages_of new) (inode_block g j)) (sym number) (k.held (inode_block g o.number) r.table);
      pointers = indirect;
    }

pub ready-pick : (g h : Geometry) (now : Working) (o : Opened) (b : ℕ) (rest : List ℕ) → h ≡ g → AreReady g now o (b ∷ rest) → IsTakeable h (pages_of now) b
ready-pick g h now o b rest e r = subst (λ (k : Geometry). IsTakeable k (pages_of now) b) (sym e) (r.picks 0 b (omega arith))

-- where there is a block of pointers, there are more than twelve blocks
pub holds-start : (g : Geometry) (pages : Pages) (v : Volume) (o : Opened) → IsOpened g v o → HoldsPointers pages o → HoldsIndirect pages o.inode
holds-start g pages v o is held other =
    let some = some-indirect (node v o.number).indirect o.inode.indirect (ap (λ (x : Inode). x.indirect) is.inode) other in
    let many = ltb-true 12 (length (node v o.number).blocks) (sym is.indirect ∙ ap is_some some) in
    held (subst (λ (xs : List ℕ). 12 < length xs) (sym is.blocks) many)

pub holds-end : (g : Geometry) (pages : Pages) (v : Volume) (o : Opened) → Carries g pages v → IsOpened g v o → HoldsIndirect pages o.inode → HoldsPointers pages o
holds-end g pages v o c is held many =
    let count : 12 < length (node v o.number).blocks = subst (λ (xs : List ℕ). 12 < length xs) is.blocks many in
    held (there (node v o.number).indirect refl (is.indirect ∙ lt-ltb 12 (length (node v o.number).blocks) count))
  where
    there : (x : Option ℕ) → (node v o.number).indirect ≡ x → is_some x ≡ true → o.inode.indirect ≢ 0
    there None e some = absurd (true≢false (sym some))
    there (Some p) e some = λ none. indirect-high g v o.number p c.uses e (sym (ap (λ (x : Inode). x.indirect) is.inode ∙ ap or_zero e) ∙ none)
