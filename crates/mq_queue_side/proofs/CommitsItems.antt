-- Items that stand at their counts: staging them keeps a side.
use Rattle.std.proofs.Common.{◌≡◌, ℕ, zero, suc, ◌+◌, ◌-◌, ◌<◌, ◌≤◌, ◌%◌, true, false, List, [], ◌∷◌, ◌++◌, length, sym, refl, ap, subst, ◌∙◌, arith, length-append}
use Rattle.std.proofs.lemmas.Bool.{lt-ltb, lt-leb}
use Rattle.std.proofs.lemmas.List.{append_assoc}
use Rattle.mq_blocks.proofs.DescriptorLimits.{further-most}
use Rattle.mq_blocks.specs.Limits.{depth}
use Rattle.mq_blocks.specs.Descriptor.{DescriptorForm, further_block, last_block}
use Rattle.mq_blocks.specs.Drive.{PortState, staged_end, after_stage}
use Rattle.mq_blocks.specs.Geometry.{area_lba, home_lba}
use Rattle.mq_blocks.specs.Machine.{Writes}
use Rattle.mq_blocks.specs.declared.geometry.Geometry.{Geometry}
use Rattle.mq_blocks.specs.Copies.{copies_at, directs_of}
use Rattle.mq_nvme.specs.Entry.{entry_of}
use Rattle.mq_ledger.specs.History.{writes}
use Rattle.mq_ledger.specs.Items.{Entries, Item, item_at, item_of, copy_item, direct_item, descriptor_item, commit_item, end_of, total, next, write_at, place_for, further_blocks, descriptor_for, bytes_of}
use Rattle.mq_ledger.specs.KnownJournal.{KnownJournal, LogOk}
use Rattle.mq_ledger.specs.Sides.{SideOk}
use Rattle.mq_ledger.specs.declared.tx.Tx.{Tx}
use Rattle.mq_ledger.proofs.Items.{item_at-in, item-logged, item-direct, item-descriptor, item-commit}
use Rattle.mq_core.specs.Events.{stage_side, MayStage}
use Rattle.mq_core.proofs.EventsSides.{side_stage}
use Rattle.mq_pmr.specs.Runs.{Items, is_last, entry_at, after_some}
use Rattle.mq_pmr.proofs.Runs.{staged, none_more, end_more}
use Rattle.mq_ledger.specs.Written.{entries_of}
use Rattle.mq_queue_side.specs.Commits.{NumberedCommit, commit_of, descriptor_at, descriptor_items, further_of, items_of, size_of, further_where}
use Rattle.mq_queue_side.specs.Sent.{IsItem, AreItems}

pub items_end : (form : DescriptorForm) (g : Geometry) (q from : ℕ) (us : List Tx) (tx c : ℕ) (items : Items) → AreItems form g q from us tx c items → c + length items ≡ end_of from us
items_end form g q from us tx c [] are = omega (arith, are)
items_end form g q from us tx c (i ∷ is) are = omega (arith, items_end form g q from us tx (c + 1) is are.1)

-- ---- how many there are

pub length_copies : (g : Geometry) (q place : ℕ) (ws : Writes) → length (copies_at g q place ws) ≡ length ws
length_copies g q place [] = refl
length_copies g q place (w ∷ ws) = ap suc (length_copies g q (place + 1) ws)

pub length_directs : (g : Geometry) (ws : Writes) → length (directs_of g ws) ≡ length ws
length_directs g [] = refl
length_directs g (w ∷ ws) = ap suc (length_directs g ws)

length_at : (g : Geometry) (q first count : ℕ) (further last : List ℕ) → count ≤ 1 → length (descriptor_at g q first count further last) ≡ count + 1
length_at g q first zero further last l = refl
length_at g q first (suc count) further last l = omega (arith, l)

length_descriptor : (g : Geometry) (n : NumberedCommit) → length (descriptor_items g n) ≡ further_of n.commit + 1
length_descriptor g n = length_at g n.queue (n.first + length n.commit.logged) (further_of n.commit) _ _ (further-most (length n.commit.logged + length n.commit.revoked))

-- as the code makes them, where the further block counts only if there is one
further_along : (g : Geometry) (q first count : ℕ) (further last : List ℕ) → descriptor_at g q first count further last ≡ descriptor_at g q first count (further_where count further) last
further_along g q first zero further last = refl
further_along g q first (suc count) further last = refl

pub items_made : (g : Geometry) (n : NumberedCommit) (none copied placed made : Items) (place count : ℕ) (block further : List ℕ) → none ≡ [] → copied ≡ none ++ copies_at g n.queue n.first n.commit.logged → placed ≡ copied ++ directs_of g n.commit.direct
    → made ≡ placed ++ descriptor_at g n.queue place count further block → place ≡ n.first + length n.commit.logged → count ≡ further_of n.commit
    → block ≡ n.last → further_where (further_of n.commit) further ≡ n.further → made ≡ items_of g n
items_made g n none copied placed made place count block further e c d m p k b f =
    let cs : Items = copies_at g n.queue n.first n.commit.logged in
    let ds : Items = directs_of g n.commit.direct in
    let last : Items = descriptor_items g n in
    let x : descriptor_at g n.queue place count further block ≡ last =
    (λ i. descriptor_at g n.queue (p i) (k i) further (b i)) ∙ further_along g n.queue (n.first + length n.commit.logged) (further_of n.commit) further n.last
    ∙ ap (λ (y : List ℕ). descriptor_at g n.queue (n.first + length n.commit.logged) (further_of n.commit) y n.last) f in
    let y : placed ≡ cs ++ ds = d ∙ ap (λ (l : Items). l ++ ds) (c ∙ ap (λ (l : Items). l ++ cs) e) in
    m ∙ (λ i. y i ++ x i) ∙ append_assoc cs ds last

pub length_items : (g : Geometry) (n : NumberedCommit) → length (items_of g n) ≡ size_of n
length_items g n =
    let copies : Items = copies_at g n.queue n.first n.commit.logged in
    let directs : Items = directs_of g n.commit.direct in
    let last : Items = descriptor_items g n in
    let a = length-append copies (directs ++ last) in
    let b = length-append directs last in
    omega (arith, a, b, length_copies g n.queue n.first n.commit.logged, length_directs g n.commit.direct, length_descriptor g n)

pub items_some : (g : Geometry) (n : NumberedCommit) → 0 < length (items_of g n)
items_some g n = (let l = length_items g n in omega (arith, l))

-- ---- staging

item_staged : (k : KnownJournal) (q : ℕ) (us : List Tx) (p : PortState) (tx : ℕ) (i : ℕ × List ℕ) (rest : Items) → k.entries ≡ entries_of k.entries.form → IsItem k.entries.form k.geometry q tx (item_at (k.from q) us (staged_end p)) i (is_last rest)
    → stage_side k.entries k.geometry q (k.from q) us p ≡ after_stage p (entry_at tx (staged_end p) i.0 rest) tx i.0 i.1
item_staged k q us p tx i rest e m =
    ap (λ (es : Entries). stage_side es k.geometry q (k.from q) us p) e
    ∙ (λ j. after_stage p (entry_of (record { tx = m.number j; slot = staged_end p % depth; lba = m.lba j; commit = m.commit j })) (m.number j) (m.lba j) (m.content j))

pub staged_some : (k : KnownJournal) (q : ℕ) (us : List Tx) (p : PortState) (tx j : ℕ) (items : Items) → LogOk k → k.entries ≡ entries_of k.entries.form → SideOk k q us p → AreItems k.entries.form k.geometry q (k.from q) us tx (staged_end p) items → j ≤ length items
    → SideOk k q us (after_some p tx j items)
staged_some k q us p tx zero items log e s are l = subst (λ (r : PortState). SideOk k q us r) (sym (none_more p tx items)) s
staged_some k q us p tx (suc j) [] log e s are l = absurd (omega arith)
staged_some k q us p tx (suc j) (i ∷ is) log e s are l =
    let whole : staged_end p + length (i ∷ is) ≡ end_of (k.from q) us = items_end k.entries.form k.geometry q (k.from q) us tx (staged_end p) (i ∷ is) are in
    let may : MayStage (k.from q) us p = omega (arith, whole) in
    let r : PortState = after_stage p (entry_at tx (staged_end p) i.0 is) tx i.0 i.1 in
    let one : SideOk k q us r = subst (λ (r : PortState). SideOk k q us r) (item_staged k q us p tx i is e are.0) (side_stage k q us p log s may) in
    let more : staged_end r ≡ staged_end p + 1 = end_more p (entry_at tx (staged_end p) i.0 is) tx i.0 i.1 in
    let rest : AreItems k.entries.form k.geometry q (k.from q) us tx (staged_end r) is = subst (λ (n : ℕ). AreItems k.entries.form k.geometry q (k.from q) us tx n is) (sym more) are.1 in
    subst (λ (r : PortState). SideOk k q us r) (staged p tx i.0 i.1 is j) (staged_some k q us r tx j is log e one rest (omega (arith, l)))

-- ---- the items of a transaction

last_more : (xs tail : Items) → is_last tail ≡ false → is_last (xs ++ tail) ≡ false
last_more [] tail some = some
last_more (x ∷ xs) tail some = refl

module _ (form : DescriptorForm) (g : Geometry) (from : ℕ) (t : Tx) (us : List Tx) where
  abbrev q : ℕ
  q = t.queue

  abbrev Are : ℕ → Items → Type 0
  Are c items = AreItems form g q from (t ∷ us) t.number c items

  at_index : (c n : ℕ) → c ≡ end_of from us + n → item_at from (t ∷ us) c ≡ item_of t us n
  at_index c n e = item_at-in from t us c (omega (arith, e)) ∙ ap (item_of t us) (let m : c - (from + total us) ≡ n = omega (arith, e) in m)

  copies_are : (n c : ℕ) (ws : Writes) (tail : Items) → c ≡ end_of from us + n → ((j : ℕ) → j < length ws → write_at t.logged (n + j) ≡ write_at ws j) → n + length ws ≡ length t.logged → is_last tail ≡ false
      → Are (end_of from us + length t.logged) tail → Are c (copies_at g q (next us + n) ws ++ tail)
  copies_are n c [] tail e each all some rest = subst (λ (m : ℕ). Are m tail) (let m : end_of from us + length t.logged ≡ c = omega (arith, e, all) in m) rest
  copies_are n c (w ∷ ws) tail e each all some rest =
      let is : item_at from (t ∷ us) c ≡ copy_item t us n = at_index c n e ∙ item-logged t us n (omega (arith, all)) in
      let here : write_at t.logged n ≡ w = ap (write_at t.logged) (let m : n ≡ n + 0 = omega arith in m) ∙ each 0 (omega arith) in
      let on : (j : ℕ) → j < length ws → write_at t.logged (n + 1 + j) ≡ write_at ws j = λ j less. ap (write_at t.logged) (let m : n + 1 + j ≡ n + suc j = omega arith in m) ∙ each (suc j) (omega (arith, less)) in
      let next_place : next us + (n + 1) ≡ next us + n + 1 = omega arith in
      let later : Are (c + 1) (copies_at g q (next us + (n + 1)) ws ++ tail) = copies_are (n + 1) (c + 1) ws tail (omega (arith, e)) on (omega (arith, all)) some rest in (
        subst (λ (i : Item). IsItem form g q t.number i (area_lba g q (next us + n), w.1) (is_last (copies_at g q (next us + n + 1) ws ++ tail))) (sym is) (record {
          number = refl;
          lba = refl;
          content = ap (λ (v : ℕ × List ℕ). v.1) here;
          commit = sym (last_more (copies_at g q (next us + n + 1) ws) tail some);
        }),
        subst (λ (m : ℕ). Are (c + 1) (copies_at g q m ws ++ tail)) next_place later,
      )

  directs_are : (n c : ℕ) (ws : Writes) (tail : Items) → c ≡ end_of from us + (length t.logged + n) → ((j : ℕ) → j < length ws → write_at t.direct (n + j) ≡ write_at ws j) → n + length ws ≡ length t.direct → is_last tail ≡ false
      → Are (end_of from us + writes t) tail → Are c (directs_of g ws ++ tail)
  directs_are n c [] tail e each all some rest = subst (λ (m : ℕ). Are m tail) (let m : end_of from us + writes t ≡ c = omega (arith, e, all) in m) rest
  directs_are n c (w ∷ ws) tail e each all some rest =
      let back : length t.logged + n - length t.logged ≡ n = omega arith in
      let is : item_at from (t ∷ us) c ≡ direct_item t n = at_index c (length t.logged + n) e ∙ item-direct t us (length t.logged + n) (omega arith) (omega (arith, all)) ∙ ap (direct_item t) back in
      let here : write_at t.direct n ≡ w = ap (write_at t.direct) (let m : n ≡ n + 0 = omega arith in m) ∙ each 0 (omega arith) in
      let on : (j : ℕ) → j < length ws → write_at t.direct (n + 1 + j) ≡ write_at ws j = λ j less. ap (write_at t.direct) (let m : n + 1 + j ≡ n + suc j = omega arith in m) ∙ each (suc j) (omega (arith, less)) in (
        subst (λ (i : Item). IsItem form g q t.number i (home_lba g w.0, w.1) (is_last (directs_of g ws ++ tail))) (sym is) (record {
          number = refl;
          lba = ap (λ (v : ℕ × List ℕ). home_lba g v.0) here;
          content = ap (λ (v : ℕ × List ℕ). v.1) here;
          commit = sym (last_more (directs_of g ws) tail some);
        }),
        directs_are (n + 1) (c + 1) ws tail (omega (arith, e)) on (omega (arith, all)) some rest,
      )

  -- the descriptor's blocks
  last_are : (c : ℕ) → c ≡ end_of from us + (writes t + further_blocks t) → Are c ((area_lba g q (place_for t us), last_block form form.version (descriptor_for t us)) ∷ [])
  last_are c e = (
    subst (λ (i : Item). IsItem form g q t.number i (area_lba g q (place_for t us), last_block form form.version (descriptor_for t us)) true) (sym (at_index c (writes t + further_blocks t) e ∙ item-commit t us (writes t + further_blocks t) refl)) (record { number = refl; lba = refl; content = refl; commit = refl }),
    omega (arith, e),
  )

  blocks_are : (f : ℕ) → f ≡ further_blocks t → Are (end_of from us + writes t) (descriptor_at g q (next us + length t.logged) f (further_where f (further_block form form.version (descriptor_for t us))) (last_block form form.version (descriptor_for t us)))
  blocks_are zero e =
      let P : ℕ → Type 0 = λ n. Are (end_of from us + writes t) ((area_lba g q n, last_block form form.version (descriptor_for t us)) ∷ []) in
      let place : place_for t us ≡ next us + length t.logged = omega arith in
      subst P place (last_are (end_of from us + writes t) (omega arith))
  blocks_are (suc f) e =
      let most = further-most (length t.logged + length t.revoked) in
      let none : writes t - writes t ≡ 0 = omega arith in
      let place : next us + (length t.logged + 0) ≡ next us + length t.logged = omega arith in
      let at : item_at from (t ∷ us) (end_of from us + writes t) ≡ descriptor_item t us 0 = at_index (end_of from us + writes t) (writes t) refl ∙ item-descriptor t us (writes t) (omega arith) ∙ ap (descriptor_item t us) none in
      let content : bytes_of form (descriptor_item t us 0).content ≡ further_block form form.version (descriptor_for t us) = rw (lt-ltb 0 (further_blocks t) (omega arith)) refl in
      let plain : (descriptor_item t us 0).commit ≡ false = lt-leb (further_blocks t) 0 (omega arith) in
      let P : ℕ → Type 0 = λ n. Are (end_of from us + writes t + 1) ((area_lba g q n, last_block form form.version (descriptor_for t us)) ∷ []) in
      let last : place_for t us ≡ next us + length t.logged + suc f = omega arith in (
        subst (λ (i : Item). IsItem form g q t.number i (area_lba g q (next us + length t.logged), further_block form form.version (descriptor_for t us)) false) (sym at)
            (record { number = refl; lba = ap (area_lba g q) place; content = content; commit = plain }),
        subst P last (last_are (end_of from us + writes t + 1) (omega arith)),
      )

  descriptor_are : Are (end_of from us + writes t) (descriptor_items g (commit_of form t us))
  descriptor_are = blocks_are (further_blocks t) refl

  some_at : (first count : ℕ) (a b : List ℕ) → is_last (descriptor_at g q first count a b) ≡ false
  some_at first zero a b = refl
  some_at first (suc count) a b = refl

  descriptor_some : is_last (descriptor_items g (commit_of form t us)) ≡ false
  descriptor_some = some_at _ (further_blocks t) _ _

  pub items_are : Are (end_of from us) (items_of g (commit_of form t us))
  items_are =
      let last : Items = descriptor_items g (commit_of form t us) in
      let directs : Are (end_of from us + length t.logged) (directs_of g t.direct ++ last) =
      directs_are 0 (end_of from us + length t.logged) t.direct last (omega arith) (λ j less. ap (write_at t.direct) (let m : 0 + j ≡ j = omega arith in m)) (omega arith) descriptor_some descriptor_are in
      let copies : Are (end_of from us) (copies_at g q (next us + 0) t.logged ++ (directs_of g t.direct ++ last)) =
      copies_are 0 (end_of from us) t.logged (directs_of g t.direct ++ last) (omega arith) (λ j less. ap (write_at t.logged) (let m : 0 + j ≡ j = omega arith in m)) (omega arith) (last_more (directs_of g t.direct) last descriptor_some) directs in
      subst (λ (m : ℕ). Are (end_of from us) (copies_at g q m t.logged ++ (directs_of g t.direct ++ last))) (let m : next us + 0 ≡ next us = omega arith in m) copies
