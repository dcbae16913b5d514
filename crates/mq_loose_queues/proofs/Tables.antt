-- The table of the home blocks after one more commit.
use Rattle.std.proofs.Common.{◌≡◌, ℕ, ◌≤◌, cond, eqb, true, false, List, [], ◌∷◌, ◌++◌, append-nil, length, set, get_or, is_some, Option, None, sym, refl, ap, ◌∙◌, inl, inr, arith}
use Rattle.std.proofs.lemmas.Bool.{cases_Bool, eq-eqb, eqb-true, false≢true}
use Rattle.std.proofs.lemmas.List.{length-set, get_or-set_same, get_or-set_other}
use Rattle.mq_blocks.specs.Descriptor.{AreApart, AreRising}
use Rattle.mq_blocks.specs.Geometry.{homes_of}
use Rattle.mq_blocks.specs.Journal.{is_among}
use Rattle.mq_blocks.specs.Machine.{Writes, write_of}
use Rattle.mq_blocks.specs.Machine.{after}
use Rattle.mq_blocks.proofs.JournalAmong.{apart-not_among}
use Rattle.mq_blocks.specs.declared.geometry.Geometry.{Geometry}
use Rattle.mq_ledger.specs.History.{blocks_of, changes, map_after}
use Rattle.mq_ledger.specs.State.{start_map}
use Rattle.mq_ledger.specs.declared.tx.Tx.{Tx}
use Rattle.mq_ledger.proofs.History.{changes_logged, last-changed, last-same, map_written, unchanged, unwritten, written_among}
use Rattle.mq_loose_queues.specs.Changes.{AreChanges, after_commit, change_at, first_change, with_changes}
use Rattle.mq_loose_queues.specs.Journal.{loose_tx}
use Rattle.mq_loose_queues.specs.declared.changes.Change.{Change}

pub length-changes : (xs : List ℕ) (c : Change) (table : List Change) → length (with_changes xs c table) ≡ length table
length-changes [] c table = refl
length-changes (x ∷ xs) c table = length-changes xs c (set table x c) ∙ length-set table x c

changed_at : (xs : List ℕ) (low high : ℕ) (c d : Change) (table : List Change) (x : ℕ) → AreRising low high xs → high ≤ length table → get_or (with_changes xs c table) x d ≡ cond (is_among x xs) c (get_or table x d)
changed_at [] low high c d table x rising fits = refl
changed_at (y ∷ ys) low high c d table x rising fits =
    let rest = changed_at ys _ high c d (set table y c) x rising.2 (let l = length-set table y c in omega (arith, fits, l)) in
    rest ∙ elim (cases_Bool (eqb y x)) [
      | inl same ↦
          let own : get_or (set table y c) x d ≡ c = ap (λ z. get_or (set table y c) z d) (sym (eqb-true _ _ same)) ∙ get_or-set_same table y c d (omega (arith, rising.1, fits)) in
          rw same (elim (cases_Bool (is_among x ys)) [ inl m ↦ rw m refl | inr n ↦ rw n own ])
      | inr other ↦ rw other (ap (cond (is_among x ys) c) (get_or-set_other table y x c d (λ e. false≢true (sym other ∙ eq-eqb y x (sym e)))))
    ]

module _ (g : Geometry) (start : List (Option (List ℕ))) (base : ℕ) (h : List Tx) (table : List Change) (are : AreChanges g start base h table) (n q : ℕ) (ws : Writes) (frees : List ℕ) (rising : AreRising 0 (homes_of g) (blocks_of ws)) (frees_rise : AreRising 0 (homes_of g) frees) (apart : AreApart frees (blocks_of ws)) where
  abbrev t : Tx
  t = loose_tx n q ws frees

  abbrev wrote : Change
  wrote = record { number = n; is_there = true }

  abbrev freed : Change
  freed = record { number = n; is_there = false }

  at_block : (x : ℕ) → change_at base (after_commit n ws frees table) x ≡ cond (is_among x frees) freed (cond (is_among x (blocks_of ws)) wrote (change_at base table x))
  at_block x =
      let long = length-changes (blocks_of ws) wrote table in
      changed_at frees 0 (homes_of g) freed (first_change base) (with_changes (blocks_of ws) wrote table) x frees_rise (omega (arith, long, are.whole))
      ∙ ap (cond (is_among x frees) freed) (changed_at (blocks_of ws) 0 (homes_of g) wrote (first_change base) table x rising (omega (arith, are.whole)))

  -- what stands where the block isn't freed
  abbrev kept : ℕ → Change
  kept x = cond (is_among x (blocks_of ws)) wrote (change_at base table x)

  none_written : (x : ℕ) → is_among x (blocks_of ws) ≡ false → write_of (ws ++ []) x ≡ None
  none_written x out = ap (λ (xs : Writes). write_of xs x) (append-nil ws) ∙ unwritten ws x out

  changes_freed : (x : ℕ) → is_among x frees ≡ true → changes t x ≡ true
  changes_freed x among = elim (cases_Bool (is_some (write_of (ws ++ []) x))) [
    | inl some ↦ rw some refl
    | inr none ↦ rw none among
  ]

  changes_none : (x : ℕ) → is_among x frees ≡ false → is_among x (blocks_of ws) ≡ false → changes t x ≡ false
  changes_none x out none = rw (none_written x none) out

  freed_gone : (x : ℕ) → is_among x frees ≡ true → is_among x (blocks_of ws) ≡ false → map_after (start_map start) (t ∷ h) x ≡ None
  unfolding after
  freed_gone x among none = rw (none_written x none, among) refl

  pub table_then : AreChanges g start base (t ∷ h) (after_commit n ws frees table)
  table_then = record {
    whole = length-changes frees freed (with_changes (blocks_of ws) wrote table) ∙ (length-changes (blocks_of ws) wrote table ∙ are.whole);
    number = λ x inside. ap (λ (c : Change). c.number) (at_block x) ∙ elim (cases_Bool (is_among x frees)) [
      | inl f ↦ ap (λ b. (cond b freed (kept x)).number) f ∙ sym (last-changed base t h x (changes_freed x f))
      | inr f ↦ ap (λ b. (cond b freed (kept x)).number) f ∙ elim (cases_Bool (is_among x (blocks_of ws))) [
        | inl w ↦ ap (λ b. (cond b wrote (change_at base table x)).number) w ∙ sym (last-changed base t h x (changes_logged t x w))
        | inr w ↦ ap (λ b. (cond b wrote (change_at base table x)).number) w ∙ (are.number x inside ∙ sym (last-same base t h x (changes_none x f w)))
      ]
    ];
    there = λ x inside. ap (λ (c : Change). c.is_there) (at_block x) ∙ elim (cases_Bool (is_among x frees)) [
      | inl f ↦ (let w : is_among x (blocks_of ws) ≡ false = apart-not_among frees (blocks_of ws) x apart f in ap (λ b. (cond b freed (kept x)).is_there) f ∙ sym (ap (λ (o : Option (List ℕ)). is_some o) (freed_gone x f w)))
      | inr f ↦ ap (λ b. (cond b freed (kept x)).is_there) f ∙ elim (cases_Bool (is_among x (blocks_of ws))) [
        | inl w ↦
            let block = written_among ws x w in
            let there = map_written (start_map start) t h x block.0 (ap (λ (xs : Writes). write_of xs x) (append-nil ws) ∙ block.1) in
            ap (λ b. (cond b wrote (change_at base table x)).is_there) w ∙ sym (ap (λ (o : Option (List ℕ)). is_some o) there)
        | inr w ↦ ap (λ b. (cond b wrote (change_at base table x)).is_there) w ∙ (are.there x inside ∙ sym (ap (λ (o : Option (List ℕ)). is_some o) (unchanged (start_map start) t h x (changes_none x f w))))
      ]
    ];
  }
