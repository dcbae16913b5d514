-- What a commit takes before it is drawn.
use Rattle.std.specs.Prelude.{IfOk, OnOk, slice_get}
use Rattle.std.proofs.Common.{Result, Ok, Err, Some, suc, zero, set, ◌≡◌, ℕ, ◌+◌, ◌<◌, ◌≤◌, ◌^◌, All, true, List, [], ◌∷◌, ◌++◌, length, map, None, sym, refl, ap, subst, ◌∙◌, inl, inr, arith}
use Rattle.std.proofs.Math.Logic.{∥∥₁_elim}
use Rattle.std.proofs.lemmas.Bool.{false≢true}
use Rattle.std.proofs.lemmas.Option.{same_Some}
use Rattle.std.proofs.lemmas.List.{length-map}
use Rattle.std.proofs.lemmas.List.Elements.{All-map}
use Rattle.std.specs.Coded.{Coded-set, coded_ℕ, le_prop, ×_prop}
use Rattle.mq_blocks.specs.Descriptor.{AreRising}
use Rattle.mq_blocks.specs.Drive.{PortState, staged_end}
use Rattle.mq_blocks.specs.Geometry.{homes_of}
use Rattle.mq_blocks.specs.Journal.{is_among, number_limit}
use Rattle.mq_blocks.specs.Machine.{Writes}
use Rattle.mq_blocks.specs.declared.geometry.Geometry.{Geometry}
use Rattle.mq_blocks.proofs.JournalAmong.{among-behind, among-here}
use Rattle.mq_ledger.specs.History.{blocks_of, last, of_queue}
use Rattle.mq_ledger.specs.Items.{end_of, next, number_before}
use Rattle.mq_ledger.specs.State.{State, from_at}
use Rattle.mq_ledger.specs.declared.tx.Tx.{Tx}
use Rattle.mq_loose.specs.Rows.{row_for, with_lasts}
use Rattle.mq_loose.proofs.Lasts.{lasts-all, lasts-both}
use Rattle.mq_loose.specs.declared.machine.rows.LooseRow.{LooseRow}
use Rattle.mq_loose.proofs.RowLists.{length-rows}
use Rattle.mq_loose_order.specs.Dependence.{last_of_each, with_last}
use Rattle.mq_loose_order.specs.Form.{loose_limit}
use Rattle.mq_loose_order.proofs.Dependences.{deps_few}
use Rattle.mq_pages.specs.declared.page.Write.{Write}
use Rattle.mq_queue_side.proofs.SideDraws.{next_is}
use Rattle.mq_queue_side.proofs.SideSends.{none_kept}
use Rattle.mq_queue_side.specs.Commits.{Commit, IsPlanOf, commit_by, written_in}
use Rattle.mq_queue_side.specs.Stored.{newest_in, next_in}
use Rattle.mq_revoke.specs.Placed.{Placed}
use Rattle.mq_loose_queues.specs.Changes.{change_at, with_changed}
use Rattle.mq_loose_queues.specs.Draws.{written_as}
use Rattle.mq_loose_queues.specs.Journal.{IsJournal, loose_tx}
use Rattle.mq_loose_queues.specs.Queues.{QueuesState, at_queue}
use Rattle.mq_loose_queues.specs.declared.changes.Change.{Change}
use Rattle.mq_loose_queues.proofs.Drawn.{apart_none}

pub if_ok : {E A : Type 0} (r : Result A E) (P Q : A → Type 0) → IfOk r P → ((x : A) → P x → Q x) → IfOk r Q
if_ok (Ok v) P Q p each = each v p
if_ok (Err x) P Q p each = tt

pub on_ok : {E A : Type 0} (r : Result A E) (P : Type 0) → P → OnOk r P
on_ok (Ok v) P p = p
on_ok (Err x) P p = tt

-- ---- the plan

abbrev pub blocks_in : List Write → List ℕ
blocks_in ws = map (λ w. w.block) ws

abbrev pub plan_for : List ℕ → Placed
plan_for blocks = record { logged = blocks; direct = []; revoked = [] }

pub blocks_same : (ws : List Write) → blocks_of (map written_as ws) ≡ blocks_in ws
blocks_same [] = refl
blocks_same (w ∷ ws) = ap (λ (xs : List ℕ). w.block ∷ xs) (blocks_same ws)

plan_is : (homes : ℕ) (blocks : List ℕ) → AreRising 0 homes blocks → IsPlanOf homes blocks (plan_for blocks)
plan_is homes blocks rising = record {
  rising = rising;
  logged = rising;
  direct = tt;
  revoked = tt;
  each = λ x. (λ y. inl y, λ cases. elim cases [ inl y ↦ y | inr n ↦ absurd (false≢true n) ]);
  apart = apart_none blocks;
  revokes = λ x n. absurd (false≢true n);
}

-- of copies of these writes
pub planned : (homes : ℕ) (copies : List Write) (ws : Writes) (blocks : List ℕ) (plan : Placed) → map written_as copies ≡ ws → blocks ≡ blocks_of ws → plan ≡ plan_for blocks → AreRising 0 homes blocks → IsPlanOf homes (blocks_in copies) plan
planned homes copies ws blocks plan copied are is rising =
    let same : blocks ≡ blocks_in copies = are ∙ (ap blocks_of (sym copied) ∙ blocks_same copies) in
    subst (λ (p : Placed). IsPlanOf homes (blocks_in copies) p) (sym is) (subst (λ (bs : List ℕ). IsPlanOf homes bs (plan_for blocks)) same (plan_is homes blocks rising))

written_sub : (listed : List ℕ) (ws : List Write) → ((x : ℕ) → is_among x (blocks_in ws) ≡ true → is_among x listed ≡ true) → written_in listed ws ≡ map written_as ws
written_sub listed [] sub = refl
written_sub listed (w ∷ ws) sub = rw (sub w.block (among-here w.block (blocks_in ws))) (ap (λ (r : Writes). (w.block, w.content) ∷ r) (written_sub listed ws (λ x there. sub x (among-behind w.block x (blocks_in ws) there))))

written_none : (ws : List Write) → written_in [] ws ≡ []
written_none [] = refl
written_none (w ∷ ws) = written_none ws

-- all of them are logged by it
pub prepared_is : (copies : List Write) (ws : Writes) (blocks : List ℕ) (plan : Placed) (c : Commit) → map written_as copies ≡ ws → blocks ≡ blocks_of ws → plan ≡ plan_for blocks → c ≡ commit_by plan copies → c ≡ record { logged = ws; direct = []; revoked = [] }
prepared_is copies ws blocks plan c copied are is by =
    let same : blocks ≡ blocks_in copies = are ∙ (ap blocks_of (sym copied) ∙ blocks_same copies) in
    by ∙ (ap (λ (p : Placed). commit_by p copies) (is ∙ ap plan_for same)
    ∙ (λ i. record { logged = (written_sub (blocks_in copies) copies (λ x there. there) ∙ copied) i; direct = written_none copies i; revoked = [] }))

pub whole_writes : (copies : List Write) (ws : Writes) → map written_as copies ≡ ws → All (λ w. length w.content ≡ 4096) copies → All (λ w. length w.1 ≡ 4096) ws
whole_writes copies ws copied whole = subst (λ (xs : Writes). All (λ w. length w.1 ≡ 4096) xs) copied (All-map (λ w. length w.1 ≡ 4096) written_as copies whole)

-- ---- the row

-- the table's last changes are those of the history
changed_are : (base : ℕ) (table : List Change) (h : List Tx) (homes low : ℕ) (xs : List ℕ) (ns ms : List ℕ) → ((x : ℕ) → x < homes → (change_at base table x).number ≡ last base h x) → AreRising low homes xs → ns ≡ ms → with_changed base table xs ns ≡ with_lasts base xs h ms
changed_are base table h homes low [] ns ms each rising same = same
changed_are base table h homes low (x ∷ xs) ns ms each rising same =
    λ i. with_last base (each x rising.1 i) (changed_are base table h homes (x + 1) xs ns ms each rising.2 same i)

pub depends_are : (base : ℕ) (table : List Change) (h : List Tx) (homes : ℕ) (xs ys : List ℕ) → ((x : ℕ) → x < homes → (change_at base table x).number ≡ last base h x) → AreRising 0 homes xs → AreRising 0 homes ys → with_changed base table xs (with_changed base table ys []) ≡ last_of_each base (xs ++ ys) h
depends_are base table h homes xs ys each rising others =
    changed_are base table h homes 0 xs (with_changed base table ys []) (last_of_each base ys h) each rising (changed_are base table h homes 0 ys [] [] each others refl ∙ lasts-all base ys h) ∙ lasts-both base xs ys h

-- ---- what any journal of the queues says

abbrev pub HasJournal : QueuesState → Type 0
HasJournal v = ∥ ((s : State) × (h : List Tx) × IsJournal s h v) ∥₁

pub homes_any : (v : QueuesState) → HasJournal v → length v.changes ≡ homes_of v.geometry
homes_any v is = ∥∥₁_elim is (Coded-set coded_ℕ _ _) (λ r. r.2.changes.whole ∙ sym (ap homes_of r.2.geometry))

pub flags_any : (v : QueuesState) → HasJournal v → length v.rows ≡ length v.flags
flags_any v is = ∥∥₁_elim is (Coded-set coded_ℕ _ _) (λ r. length-rows r.0.base r.0.starts r.1 v.rows r.2.rows ∙ sym r.2.flags.whole)

pub own_any : (v : QueuesState) (q : ℕ) → HasJournal v → q < v.geometry.queues → q < length v.sides
own_any v q is own = ∥∥₁_elim is le_prop (λ r. (let c = r.2.count in let g = ap (λ (x : Geometry). x.queues) r.2.geometry in omega (arith, c, g, own)))

-- numbers of a side's geometry are those of the queues'
pub sizes_any : (v : QueuesState) (q : ℕ) → HasJournal v → q < length v.sides → (f : Geometry → ℕ) → f (at_queue v q).side.geometry ≡ f v.geometry
sizes_any v q is own f = ∥∥₁_elim is (Coded-set coded_ℕ _ _) (λ r. ap f ((r.2.sides q (let c = r.2.count in omega (arith, c, own))).geometry ∙ sym r.2.geometry))

pub end_any : (v : QueuesState) (q : ℕ) → HasJournal v → q < length v.sides → staged_end (at_queue v q).side.port ≤ number_limit
end_any v q is own = ∥∥₁_elim is le_prop (λ r. (let side = (r.2.sides q (let c = r.2.count in omega (arith, c, own))).side in let drawn = side.order.drawn in let limit = side.limit in omega (arith, drawn, limit)))

pub place_any : (v : QueuesState) (q : ℕ) → HasJournal v → q < length v.sides → next_in (at_queue v q).rows ≤ 2 ^ 62
place_any v q is own = ∥∥₁_elim is le_prop (λ r.
    let inside : q < r.0.geometry.queues = (let c = r.2.count in omega (arith, c, own)) in
    let stored : next_in (at_queue v q).rows ≡ next (of_queue q r.1) = ap next_in (r.2.stored q inside) ∙ next_is (of_queue q r.1) in
    let limit = (r.2.sides q inside).side.area.limit in
    omega (arith, stored, limit))

-- what a queue's next row lists
pub row_few : (v : QueuesState) (q number : ℕ) (ws : Writes) (frees : List ℕ) (r : LooseRow) → HasJournal v → ((s : State) (h : List Tx) → IsJournal s h v → r ≡ row_for s.base s.starts (loose_tx number q ws frees) h) → length ws + length frees ≤ loose_limit → (length r.descriptor.logged ≤ loose_limit) × (length r.deps ≤ loose_limit)
row_few v q number ws frees r is each few = ∥∥₁_elim is (×_prop le_prop le_prop) (λ j.
    let row = each j.0 j.1 j.2 in
    let logged = ap (λ (x : LooseRow). length x.descriptor.logged) row in
    let deps = ap (λ (x : LooseRow). length x.deps) row in
    let long : length (blocks_of ws) ≡ length ws = length-map ws (λ (w : ℕ × List ℕ). w.0) in
    let low = deps_few j.0.base (loose_tx number q ws frees) j.1 in
    (omega (arith, logged, long, few), omega (arith, deps, low, few)))

-- what stands where it was put
pub got_set : {A : Type 0} (xs : List A) (n : ℕ) (x y : A) → slice_get (set xs n x) n ≡ Some y → x ≡ y
got_set [] n x y e = absurd (cc)
got_set (z ∷ zs) zero x y e = same_Some x y e
got_set (z ∷ zs) (suc n) x y e = got_set zs n x y e

-- ---- the row

module _ (s : State) (h : List Tx) (v : QueuesState) (q number : ℕ) (j : IsJournal s h v) (own : q < length v.sides) (runs : (at_queue v q).side.kept ≡ None) (blocks frees : List ℕ) where
  abbrev us : List Tx
  us = of_queue q h

  inside : q < s.geometry.queues
  inside = (let c = j.count in omega (arith, c, own))

  word : v.root.base ≡ s.base
  word = ap (λ (p : PortState). p.base) j.root_is ∙ j.start.base

  -- what the next row is made of
  pub record IsRowOf (base end place newest : ℕ) (deps : List ℕ) : Type 0 where
    pub end_is : end ≡ end_of (from_at s.starts q) us
    pub place_is : place ≡ next us
    pub newest_is : newest ≡ number_before us
    pub deps_are : deps ≡ last_of_each s.base (blocks ++ frees) h

  pub row_of : (base end place newest : ℕ) (deps : List ℕ) (table : List Change) → base ≡ v.root.base → table ≡ v.changes → end ≡ staged_end (at_queue v q).side.port → place ≡ next_in (at_queue v q).rows → newest ≡ newest_in (at_queue v q).rows → AreRising 0 (homes_of v.geometry) blocks → AreRising 0 (homes_of v.geometry) frees
      → deps ≡ with_changed base table blocks (with_changed base table frees []) → IsRowOf base end place newest deps
  row_of base end place newest deps table base_is table_is ends places newests rising others are =
      let quiet = none_kept (from_at s.starts q) us (at_queue v q).side.port.failed (at_queue v q).side.port.pending (at_queue v q).side.port.doorbell (at_queue v q).side.kept runs (j.sides q inside).kept in
      let empty : length (at_queue v q).side.port.pending ≡ 0 = ap length quiet.1 in
      let rung = j.rung q inside runs in
      let homes = ap homes_of j.geometry in
      record {
        end_is = omega (arith, ends, empty, rung);
        place_is = places ∙ (ap next_in (j.stored q inside) ∙ Rattle.mq_queue_side.proofs.SideDraws.next_is us);
        newest_is = newests ∙ (ap newest_in (j.stored q inside) ∙ Rattle.mq_queue_side.proofs.SideDraws.newest_is us);
        deps_are = are ∙ ((λ i. with_changed ((base_is ∙ word) i) (table_is i) blocks (with_changed ((base_is ∙ word) i) (table_is i) frees []))
            ∙ depends_are s.base v.changes h (homes_of s.geometry) blocks frees j.changes.number (subst (λ n. AreRising 0 n blocks) homes rising) (subst (λ n. AreRising 0 n frees) homes others));
      }
