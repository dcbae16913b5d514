-- StoreBase and FlushBase keep the facts of the whole state.
use Rattle.std.proofs.Common.{◌≡◌, ℕ, ◌<◌, ◌≤◌, ◌||◌, true, false, Bool, List, [], ◌∷◌, length, get_or, Option, Some, None, sym, refl, ap, subst, ◌∙◌, inl, inr, arith, eqb}
use Rattle.std.proofs.lemmas.Bool.{cases_lt, cases_Bool, eqb-true, eq-eqb, or_cases, or_left, or_right, false≢true}
use Rattle.mq_blocks.specs.Drive.{PortState, IsApartFrom, holds_write}
use Rattle.mq_blocks.specs.Geometry.{homes_of, home_lba, zone_of}
use Rattle.mq_blocks.specs.Journal.{is_among}
use Rattle.mq_blocks.specs.Machine.{Map, write_of, or_kept}
use Rattle.mq_blocks.proofs.Ports.{parts_of, port-along}
use Rattle.mq_ledger.specs.History.{blocks_of, changes, map_after, last, upto, of_queue, AreNumbered, IsAt}
use Rattle.mq_ledger.specs.Items.{Entries}
use Rattle.mq_ledger.specs.KnownJournal.{KnownJournal, front}
use Rattle.mq_ledger.specs.Sides.{RootOk, AreHome, IsKept, home_index}
use Rattle.mq_ledger.specs.State.{State, Facts, IsUnder, port_at, port_of, known_of, front_of, start_map}
use Rattle.mq_ledger.specs.declared.tx.Tx.{Tx}
use Rattle.mq_ledger.proofs.History.{last-changed, last-same, last_settled, value_settled, unchanged, map_written, write_of-append, written_among}
use Rattle.mq_core.specs.Events.{store_base, flush_base, MayStoreBase}
use Rattle.mq_core.proofs.HistoryBases.{log_based, side_based}
use Rattle.mq_core.proofs.StateEvents.{zone-queue}

-- a block whose last change, above the base, logged it is in the map
pub logged_value : (start : Map) (base x : ℕ) (h : List Tx) → AreNumbered base h → base < last base h x → ((t : Tx) (ts : List Tx) → IsAt t ts h → t.number ≡ last base h x → is_among x (blocks_of t.logged) ≡ true) → (block : List ℕ) × (map_after start h x ≡ Some block)
logged_value start base x [] n l logged = absurd (omega arith)
logged_value start base x (t ∷ ts) n l logged = elim (cases_Bool (changes t x)) [
  | inl c ↦
      let w = written_among t.logged x (logged t ts (inl (refl, refl)) (sym (last-changed base t ts x c))) in
      (w.0, map_written start t ts x w.0 (write_of-append t.logged t.direct x ∙ ap (λ o. or_kept o (write_of t.direct x)) w.1))
  | inr c ↦
      let same = last-same base t ts x c in
      let r = logged_value start base x ts n.1 (omega (arith, same)) (λ u txs at number. logged u txs (inr at) (number ∙ sym same)) in
      (r.0, unchanged start t ts x c ∙ r.1)
]

-- the state with other bases at the root
module _ (e : Entries) (s : State) (f : Facts e s) (base stored : ℕ) (flushed : List (List ℕ)) (events flushed_end head : ℕ) where
  abbrev due : ℕ → ℕ → Bool
  due x v = eqb v base || eqb v stored

  abbrev k : KnownJournal
  k = known_of e s

  -- the root as it is later
  abbrev later : PortState
  later = record s.root { flushed = flushed; flushed_end = flushed_end; head = head; base = base; stored_base = stored; events = events }

  abbrev then : State
  then = record s { root = later }

  -- what is due then is at home
  abbrev pub AreDue : Option ℕ → Type 0
  AreDue z = AreHome (known_of e then) z (port_of s z)

  homes_root : RootOk k s.root → AreDue None → AreHome (known_of e then) None later
  homes_root r homes x v content inside z d there m =
      let c = homes x v content inside z d there m in
      record {
        certain = record { certain = c.certain.certain; apart = subst (λ cs. IsApartFrom later (home_index s.geometry x) cs) (sym r.posted) tt };
        is = c.is;
      }

  go_certain : (x : ℕ) → IsUnder s x → (z : Option ℕ) → zone_of s.geometry x ≡ z → get_or (port_of then z).certain (home_index s.geometry x) false ≡ false
  go_certain x u None z = ap (λ (w : PortState). get_or w.certain (home_index s.geometry x) false) (sym (ap (port_of s) z)) ∙ u.loose
  go_certain x u (Some r) z = ap (λ (w : PortState). get_or w.certain (home_index s.geometry x) false) (sym (ap (port_of s) z)) ∙ u.loose

  go_begun : (x : ℕ) → IsUnder s x → (z : Option ℕ) → zone_of s.geometry x ≡ z → holds_write (home_lba s.geometry x) (port_of then z).begun ≡ true
  go_begun x u None z = ap (λ (w : PortState). holds_write (home_lba s.geometry x) w.begun) (sym (ap (port_of s) z)) ∙ u.begun
  go_begun x u (Some r) z = ap (λ (w : PortState). holds_write (home_lba s.geometry x) w.begun) (sym (ap (port_of s) z)) ∙ u.begun

  pub bases_keep : s.root.base ≤ base → base ≤ stored → stored ≤ front_of s → length flushed ≡ 0 → ((z : Option ℕ) → AreDue z) → ((x : ℕ) → is_among x s.writing ≡ true → IsUnder s x → stored < last s.base s.history x) → Facts e then
  bases_keep up order reached slots homes above =
      let top : base ≤ front k = (let r : stored ≤ front k = reached in omega arith) in
      let low : (x v : ℕ) → due x v ≡ true → v ≤ front k = λ x v d. elim (or_cases (eqb v base) (eqb v stored) d) [
        | inl a ↦ (let is = eqb-true _ _ a in omega arith)
        | inr b ↦ (let is = eqb-true _ _ b in let r : stored ≤ front k = reached in omega arith)
      ] in
      record {
        form = f.form;
        log = log_based k due base f.log up top low;
        ports = f.ports;
        marked = f.marked;
        sides = λ q own. side_based k due base f.log up top q (of_queue q s.history) (port_at s.ports q) (f.sides q own) (homes (Some q));
        root = record {
          port = port-along f.root.port (λ i. record (parts_of s.root) { flushed = (slots ∙ sym f.root.port.flushed) i });
          posted = f.root.posted;
          bases = (omega arith, order);
          homes = homes_root f.root (homes None);
        };
        marks = f.marks;
        writing = λ x h.
            let u = f.writing x h in
            record {
              block = u.block;
              low = above x h u;
              high = u.high;
              logged = u.logged;
              loose = go_certain x u (zone_of s.geometry x) refl;
              begun = go_begun x u (zone_of s.geometry x) refl;
            };
        acknowledged = f.acknowledged;
      }

-- what is due at the root's bases is at home
pub due_homes : (e : Entries) (s : State) → Facts e s → (z : Option ℕ) (x v : ℕ) (content : List ℕ) → x < homes_of s.geometry → zone_of s.geometry x ≡ z → (known_of e s).due x v ≡ true → map_after (start_map s.start) (upto v s.history) x ≡ Some content → IsKept (known_of e s) (port_of s z) x v content
due_homes e s f None x v content inside zone due there = f.root.homes x v content inside zone due there
due_homes e s f (Some q) x v content inside zone due there = (f.sides q (zone-queue s.geometry q x inside zone)).homes x v content inside zone due there

pub store_base_keeps : (e : Entries) (s : State) (b : ℕ) → Facts e s → MayStoreBase e s b → Facts e (store_base b s)
store_base_keeps e s b f may =
    let o = f.root.bases.1 in
    let a = may.above in
    bases_keep e s f s.root.base b s.root.flushed (Rattle.mq_blocks.specs.Drive.counted s.root.events 1) s.root.flushed_end s.root.head (omega arith) (omega arith) may.reached f.root.port.flushed
    (λ z x v content inside zone due there. elim (or_cases (eqb v s.root.base) (eqb v b) due) [
      | inl is ↦ due_homes e s f z x v content inside zone (or_left _ _ is) there
      | inr is ↦
          let at : v ≡ b = eqb-true _ _ is in
          let there' : map_after (start_map s.start) (upto b s.history) x ≡ Some content = subst (λ n. map_after (start_map s.start) (upto n s.history) x ≡ Some content) at there in
          subst (λ n. IsKept (known_of e s) (port_of s z) x n content) (sym at) (subst (λ w. IsKept (known_of e s) (port_of s w) x b content) zone (may.home x content inside there'))
    ])
    (λ x h u. elim (cases_lt b (last s.base s.history x)) [
      | inl above ↦ above
      | inr low ↦
          let base : s.base ≤ s.root.base = f.log.word_low in
          let first : s.base < last s.base s.history x = (let l = u.low in omega arith) in
          let w = logged_value (start_map s.start) s.base x s.history f.log.numbers first u.logged in
          let there = sym (value_settled (start_map s.start) s.base b s.history x low) ∙ w.1 in
          let settled = last_settled s.base (front_of s) s.history x f.log.numbers u.high in
          let c = may.home x w.0 u.block there (omega (arith, settled, low)) in
          absurd (false≢true (sym u.loose ∙ c.certain.certain))
    ])

pub flush_base_keeps : (e : Entries) (s : State) → Facts e s → Facts e (flush_base s)
flush_base_keeps e s f =
    bases_keep e s f s.root.stored_base s.root.stored_base s.root.staged (Rattle.mq_blocks.specs.Drive.counted s.root.events 1) (Rattle.mq_blocks.specs.Drive.staged_end s.root) s.root.stored_head f.root.bases.1 (omega arith)
    (f.log.due 0 s.root.stored_base (or_right _ _ (eq-eqb s.root.stored_base s.root.stored_base refl))) f.root.port.staged
    (λ z x v content inside zone due there. elim (or_cases (eqb v s.root.stored_base) (eqb v s.root.stored_base) due) [
      | inl is ↦ due_homes e s f z x v content inside zone (or_right (eqb v s.root.base) _ is) there
      | inr is ↦ due_homes e s f z x v content inside zone (or_right (eqb v s.root.base) _ is) there
    ])
    (λ x h u. u.low)
