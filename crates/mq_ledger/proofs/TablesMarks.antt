-- What a table of the home blocks says after one more transaction.
use Rattle.std.proofs.Common.{◌≡◌, ℕ, suc, ◌+◌, ◌<◌, ◌≤◌, eqb, Bool, true, false, List, [], ◌∷◌, ◌++◌, length, Option, Some, None, is_some, cond, sym, refl, ap, subst, ◌∙◌, inl, inr, arith}
use Rattle.std.proofs.lemmas.Bool.{cases_Bool, false≢true, eqb-true, eqb-false}
use Rattle.std.proofs.lemmas.List.{length-set, get_or-set_same, get_or-set_other, get_or_append_left, get_or-append-add}
use Rattle.mq_blocks.specs.Descriptor.{AreRising}
use Rattle.mq_blocks.specs.Geometry.{homes_of}
use Rattle.mq_blocks.specs.Journal.{is_among}
use Rattle.mq_blocks.specs.Machine.{Writes, write_of, or_kept, after}
use Rattle.mq_blocks.specs.declared.geometry.Geometry.{Geometry}
use Rattle.mq_ledger.specs.History.{blocks_of, changes, map_after, last_logged, upto, IsAt, AreNumbered}
use Rattle.mq_ledger.specs.Items.{write_at, no_write}
use Rattle.mq_ledger.specs.KnownJournal.{IsTx}
use Rattle.mq_ledger.specs.State.{start_map}
use Rattle.mq_ledger.specs.Tables.{Stands, IsLatest, AreLatest, latest_at, put_mark, after_freed, after_writes, after_tx}
use Rattle.mq_ledger.specs.declared.latest.Latest.{Latest}
use Rattle.mq_ledger.specs.declared.latest.Place.{Place}
use Rattle.mq_ledger.specs.declared.latest.Place.TheVariants.{Free, Start, Written}
use Rattle.mq_ledger.specs.declared.tx.Tx.{Tx}
use Rattle.mq_blocks.proofs.JournalAmong.{among-low}
use Rattle.mq_ledger.proofs.History.{written_among, unwritten, write_of-append, changes_logged, changes_direct, last-changed, last-same, unchanged, map_written, upto_number, upto_newer, upto_all, at_numbered}

-- ---- tables keep their length

pub length-freed : (n : ℕ) (xs : List ℕ) (table : List Latest) → length (after_freed n xs table) ≡ length table
length-freed n [] table = refl
length-freed n (x ∷ xs) table = length-freed n xs (put_mark n false Free x table) ∙ length-set table x _

pub length-writes : (n : ℕ) (copied : Bool) (i : ℕ) (ws : Writes) (table : List Latest) → length (after_writes n copied i ws table) ≡ length table
length-writes n copied i [] table = refl
length-writes n copied i (w ∷ ws) table = length-writes n copied (i + 1) ws (put_mark n copied (Written n i) w.0 table) ∙ length-set table w.0 _

pub length-tx : (t : Tx) (table : List Latest) → length (after_tx t table) ≡ length table
length-tx t table = length-writes t.number true 0 t.logged _ ∙ length-writes t.number false (length t.logged) t.direct _ ∙ length-freed t.number t.freed table

-- ---- freed blocks

freed_other : (n x : ℕ) (xs : List ℕ) (table : List Latest) → is_among x xs ≡ false → latest_at (after_freed n xs table) x ≡ latest_at table x
freed_other n x [] table e = refl
freed_other n x (y ∷ ys) table e = elim (cases_Bool (eqb y x)) [
  | inl same ↦ absurd (false≢true (sym (rw same at e)))
  | inr other ↦ freed_other n x ys (put_mark n false Free y table) (rw other at e) ∙ get_or-set_other table y x _ _ (λ k. eqb-false _ _ other (sym k))
]

abbrev freed_from : ℕ → Latest → Latest
freed_from n l = record { change = n; logged = l.logged; place = Free }

freed_in : (n x : ℕ) (xs : List ℕ) (table : List Latest) → is_among x xs ≡ true → x < length table → latest_at (after_freed n xs table) x ≡ freed_from n (latest_at table x)
freed_in n x [] table e l = absurd (false≢true e)
freed_in n x (y ∷ ys) table e l = elim (cases_Bool (eqb y x)) [
  | inl same ↦ (let is : y ≡ x = eqb-true _ _ same in
      let bound : y < length table = omega arith in
      let here : latest_at (put_mark n false Free y table) y ≡ freed_from n (latest_at table y) = get_or-set_same table y _ _ bound in
      let P : ℕ → Type 0 = λ z. latest_at (put_mark n false Free y table) z ≡ freed_from n (latest_at table z) in
      let now : latest_at (put_mark n false Free y table) x ≡ freed_from n (latest_at table x) = subst P is here in
      elim (cases_Bool (is_among x ys)) [
        | inl more ↦ freed_in n x ys (put_mark n false Free y table) more (rw length-set l) ∙ ap (freed_from n) now
        | inr none ↦ freed_other n x ys (put_mark n false Free y table) none ∙ now
      ])
  | inr other ↦ (let rest = freed_in n x ys (put_mark n false Free y table) (rw other at e) (rw length-set l) in
      rest ∙ ap (freed_from n) (get_or-set_other table y x _ _ (λ k. eqb-false _ _ other (sym k))))
]

freed_logged : (n x : ℕ) (xs : List ℕ) (table : List Latest) → x < length table → (latest_at (after_freed n xs table) x).logged ≡ (latest_at table x).logged
freed_logged n x xs table l = elim (cases_Bool (is_among x xs)) [
  | inl is ↦ ap (λ (v : Latest). v.logged) (freed_in n x xs table is l)
  | inr not ↦ ap (λ (v : Latest). v.logged) (freed_other n x xs table not)
]

-- ---- written blocks

writes_other : (n : ℕ) (copied : Bool) (i x : ℕ) (ws : Writes) (table : List Latest) → is_among x (blocks_of ws) ≡ false → latest_at (after_writes n copied i ws table) x ≡ latest_at table x
writes_other n copied i x [] table e = refl
writes_other n copied i x (w ∷ ws) table e = elim (cases_Bool (eqb w.0 x)) [
  | inl same ↦ absurd (false≢true (sym (rw same at e)))
  | inr other ↦ writes_other n copied (i + 1) x ws (put_mark n copied (Written n i) w.0 table) (rw other at e) ∙ get_or-set_other table w.0 x _ _ (λ k. eqb-false _ _ other (sym k))
]

abbrev written_from : ℕ → Bool → ℕ → Latest → Latest
written_from n copied i l = record { change = n; logged = cond copied n l.logged; place = Written n i }

-- the k-th of these writes is of this content, and the table says so
record IsMarked (n : ℕ) (copied : Bool) (i x : ℕ) (c : List ℕ) (ws : Writes) (table : List Latest) : Type 0 where
  pub k : ℕ
  pub bound : k < length ws
  pub content : (write_at ws k).1 ≡ c
  pub is : latest_at (after_writes n copied i ws table) x ≡ written_from n copied (i + k) (latest_at table x)

writes_in : (n : ℕ) (copied : Bool) (i x low high : ℕ) (c : List ℕ) (ws : Writes) (table : List Latest) → AreRising low high (blocks_of ws) → x < length table → write_of ws x ≡ Some c → IsMarked n copied i x c ws table
writes_in n copied i x low high c [] table r l e = absurd (cc)
writes_in n copied i x low high c (w ∷ ws) table r l e = elim (cases_Bool (eqb w.0 x)) [
  | inl same ↦ (let is : w.0 ≡ x = eqb-true _ _ same in
      let content : Some w.1 ≡ Some c = rw same at e in
      let bound : w.0 < length table = omega arith in
      let here : latest_at (put_mark n copied (Written n i) w.0 table) w.0 ≡ written_from n copied i (latest_at table w.0) = get_or-set_same table w.0 _ _ bound in
      let P : ℕ → Type 0 = λ z. latest_at (put_mark n copied (Written n i) w.0 table) z ≡ written_from n copied i (latest_at table z) in
      let none : is_among x (blocks_of ws) ≡ false = elim (cases_Bool (is_among x (blocks_of ws))) [
        | inl more ↦ (let up = among-low (w.0 + 1) high (blocks_of ws) x r.2 more in absurd (omega arith))
        | inr nor ↦ nor
      ] in
      let zero_more : i ≡ i + 0 = omega arith in
      record {
        k = 0;
        bound = omega arith;
        content = cc;
        is = writes_other n copied (i + 1) x ws (put_mark n copied (Written n i) w.0 table) none ∙ subst P is here ∙ ap (λ (j : ℕ). written_from n copied j (latest_at table x)) zero_more;
      })
  | inr other ↦ (let m = writes_in n copied (i + 1) x (w.0 + 1) high c ws (put_mark n copied (Written n i) w.0 table) r.2 (rw length-set l) (rw other at e) in
      let more : i + 1 + m.k ≡ i + suc m.k = omega arith in
      record {
        k = suc m.k;
        bound = (let b = m.bound in omega arith);
        content = m.content;
        is = m.is ∙ ap (written_from n copied (i + 1 + m.k)) (get_or-set_other table w.0 x _ _ (λ k. eqb-false _ _ other (sym k))) ∙ ap (λ (j : ℕ). written_from n copied j (latest_at table x)) more;
      })
]

-- ---- one more transaction

pub stands_more : (start : List (Option (List ℕ))) (u : Tx) (h : List Tx) (x : ℕ) (p : Place) (c : Option (List ℕ)) → Stands start h x p c → Stands start (u ∷ h) x p c
stands_more start u h x Free c s = s
stands_more start u h x Start c s = s
stands_more start u h x (Written n i) c s = (s.0, s.1, inr s.2, s.3, s.4, s.5)

last_logged-in : (base : ℕ) (t : Tx) (ts : List Tx) (x : ℕ) (c : List ℕ) → write_of t.logged x ≡ Some c → last_logged base (t ∷ ts) x ≡ t.number
last_logged-in base t ts x c e = rw e refl

last_logged-out : (base : ℕ) (t : Tx) (ts : List Tx) (x : ℕ) → write_of t.logged x ≡ None → last_logged base (t ∷ ts) x ≡ last_logged base ts x
last_logged-out base t ts x e = rw e refl

pub last_logged_le : (base : ℕ) (h : List Tx) (x : ℕ) → AreNumbered base h → last_logged base h x ≤ base + length h
last_logged_le base [] x n = omega arith
last_logged_le base (t ∷ ts) x n = elim (cases_Bool (is_some (write_of t.logged x))) [
  | inl is ↦ rw is (omega (arith, n.0))
  | inr not ↦ rw not (omega (arith, last_logged_le base ts x n.1))
]

freed_changes : (t : Tx) (x : ℕ) → write_of (t.logged ++ t.direct) x ≡ None → is_among x t.freed ≡ true → changes t x ≡ true
freed_changes t x e f = rw e f

kept_unchanged : (t : Tx) (x : ℕ) → write_of (t.logged ++ t.direct) x ≡ None → is_among x t.freed ≡ false → changes t x ≡ false
kept_unchanged t x e f = rw e f

map_freed : (start : ℕ → Option (List ℕ)) (t : Tx) (ts : List Tx) (x : ℕ) → write_of (t.logged ++ t.direct) x ≡ None → is_among x t.freed ≡ true → map_after start (t ∷ ts) x ≡ None
unfolding after
map_freed start t ts x e f = rw (e, f) refl

module _ (start : List (Option (List ℕ))) (base : ℕ) (h : List Tx) (g : Geometry) (t : Tx) (table : List Latest) (form : IsTx g t) (x : ℕ) (size : x < length table) (old : IsLatest start base h x (latest_at table x)) where
  abbrev freed_table : List Latest
  freed_table = after_freed t.number t.freed table

  abbrev direct_table : List Latest
  direct_table = after_writes t.number false (length t.logged) t.direct freed_table

  freed_size : x < length freed_table
  freed_size = rw length-freed size

  direct_size : x < length direct_table
  direct_size = rw (length-writes, length-freed) size

  in_logged : (c : List ℕ) → is_among x (blocks_of t.logged) ≡ true → write_of t.logged x ≡ Some c → IsLatest start base (t ∷ h) x (latest_at (after_tx t table) x)
  in_logged c among e =
      let m = writes_in t.number true 0 x 0 (homes_of g) c t.logged direct_table form.logged direct_size e in
      let bound = m.bound in
      let whole : write_of (t.logged ++ t.direct) x ≡ Some c = write_of-append t.logged t.direct x ∙ ap (λ o. or_kept o (write_of t.direct x)) e in
      let place : 0 + m.k ≡ m.k = omega arith in
      let content : (write_at (t.logged ++ t.direct) (0 + m.k)).1 ≡ c = ap (λ (j : ℕ). (write_at (t.logged ++ t.direct) j).1) place ∙ ap (λ (w : ℕ × List ℕ). w.1) (get_or_append_left t.logged t.direct no_write m.k m.bound) ∙ m.content in
      let new : IsLatest start base (t ∷ h) x (written_from t.number true (0 + m.k) (latest_at direct_table x)) = record {
        change = sym (last-changed base t h x (changes_logged t x among));
        logged = sym (last_logged-in base t h x c e);
        place = (t, h, inl (refl, refl), refl, omega arith, map_written (start_map start) t h x c whole ∙ ap (λ (v : List ℕ). Some v) (sym content));
      } in
      subst (IsLatest start base (t ∷ h) x) (sym m.is) new

  in_direct : (c : List ℕ) → is_among x (blocks_of t.logged) ≡ false → is_among x (blocks_of t.direct) ≡ true → write_of t.direct x ≡ Some c → IsLatest start base (t ∷ h) x (latest_at (after_tx t table) x)
  in_direct c out among e =
      let m = writes_in t.number false (length t.logged) x 0 (homes_of g) c t.direct freed_table form.direct freed_size e in
      let bound = m.bound in
      let nor = unwritten t.logged x out in
      let whole : write_of (t.logged ++ t.direct) x ≡ Some c = write_of-append t.logged t.direct x ∙ ap (λ o. or_kept o (write_of t.direct x)) nor ∙ e in
      let content : (write_at (t.logged ++ t.direct) (length t.logged + m.k)).1 ≡ c = ap (λ (w : ℕ × List ℕ). w.1) (get_or-append-add t.logged t.direct m.k no_write) ∙ m.content in
      let new : IsLatest start base (t ∷ h) x (written_from t.number false (length t.logged + m.k) (latest_at freed_table x)) = record {
        change = sym (last-changed base t h x (changes_direct t x among));
        logged = freed_logged t.number x t.freed table size ∙ old.logged ∙ sym (last_logged-out base t h x nor);
        place = (t, h, inl (refl, refl), refl, omega arith, map_written (start_map start) t h x c whole ∙ ap (λ (v : List ℕ). Some v) (sym content));
      } in
      subst (IsLatest start base (t ∷ h) x) (sym (writes_other t.number true 0 x t.logged direct_table out ∙ m.is)) new

  unwritten_both : is_among x (blocks_of t.logged) ≡ false → is_among x (blocks_of t.direct) ≡ false → write_of (t.logged ++ t.direct) x ≡ None
  unwritten_both out nor = write_of-append t.logged t.direct x ∙ ap (λ o. or_kept o (write_of t.direct x)) (unwritten t.logged x out) ∙ unwritten t.direct x nor

  past_writes : is_among x (blocks_of t.logged) ≡ false → is_among x (blocks_of t.direct) ≡ false → latest_at (after_tx t table) x ≡ latest_at freed_table x
  past_writes out nor = writes_other t.number true 0 x t.logged direct_table out ∙ writes_other t.number false (length t.logged) x t.direct freed_table nor

  in_freed : is_among x (blocks_of t.logged) ≡ false → is_among x (blocks_of t.direct) ≡ false → is_among x t.freed ≡ true → IsLatest start base (t ∷ h) x (latest_at (after_tx t table) x)
  in_freed out nor free =
      let none = unwritten_both out nor in
      let new : IsLatest start base (t ∷ h) x (freed_from t.number (latest_at table x)) = record {
        change = sym (last-changed base t h x (freed_changes t x none free));
        logged = old.logged ∙ sym (last_logged-out base t h x (unwritten t.logged x out));
        place = map_freed (start_map start) t h x none free;
      } in
      subst (IsLatest start base (t ∷ h) x) (sym (past_writes out nor ∙ freed_in t.number x t.freed table free size)) new

  in_none : is_among x (blocks_of t.logged) ≡ false → is_among x (blocks_of t.direct) ≡ false → is_among x t.freed ≡ false → IsLatest start base (t ∷ h) x (latest_at (after_tx t table) x)
  in_none out nor kept =
      let none = unwritten_both out nor in
      let still = kept_unchanged t x none kept in
      let P : Option (List ℕ) → Type 0 = λ c. Stands start (t ∷ h) x (latest_at table x).place c in
      let new : IsLatest start base (t ∷ h) x (latest_at table x) = record {
        change = old.change ∙ sym (last-same base t h x still);
        logged = old.logged ∙ sym (last_logged-out base t h x (unwritten t.logged x out));
        place = subst P (sym (unchanged (start_map start) t h x still)) (stands_more start t h x (latest_at table x).place _ old.place);
      } in
      subst (IsLatest start base (t ∷ h) x) (sym (past_writes out nor ∙ freed_other t.number x t.freed table kept)) new

  pub latest-tx : IsLatest start base (t ∷ h) x (latest_at (after_tx t table) x)
  latest-tx = elim (cases_Bool (is_among x (blocks_of t.logged))) [
    | inl copied ↦ (let w = written_among t.logged x copied in in_logged w.0 copied w.1)
    | inr out ↦ elim (cases_Bool (is_among x (blocks_of t.direct))) [
      | inl direct ↦ (let w = written_among t.direct x direct in in_direct w.0 out direct w.1)
      | inr nor ↦ elim (cases_Bool (is_among x t.freed)) [ inl free ↦ in_freed out nor free | inr kept ↦ in_none out nor kept ]
    ]
  ]

pub latest_more : (start : List (Option (List ℕ))) (base : ℕ) (h : List Tx) (g : Geometry) (homes : ℕ) (t : Tx) (table : List Latest) → IsTx g t → AreLatest start base h homes table → AreLatest start base (t ∷ h) homes (after_tx t table)
latest_more start base h g homes t table form a = record {
  size = length-tx t table ∙ a.size;
  each = λ x l. latest-tx start base h g t table form x (let s = a.size in omega arith) (a.each x l);
}

-- ---- the front goes past one more

pub upto_next : (base f : ℕ) (t : Tx) (ts h : List Tx) → AreNumbered base h → IsAt t ts h → t.number ≡ f + 1 → upto (f + 1) h ≡ t ∷ upto f h
upto_next base f t ts h n at is =
    let low = (at_numbered base t ts h n at).0 in
    let rest : upto f h ≡ ts = upto_newer base f t ts h n at (omega arith) ∙ upto_all base f ts (at_numbered base t ts h n at).1 (omega arith) in
    ap (λ (m : ℕ). upto m h) (sym is) ∙ upto_number base t ts h n at ∙ ap (λ txs. t ∷ txs) (sym rest)
