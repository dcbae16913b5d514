-- Draw, Clear, Acknowledge, home writes and bases keep the facts of the whole state.
use Rattle.std.proofs.Common.{◌≡◌, ◌≢◌, ℕ, ◌+◌, ◌-◌, ◌/◌, ◌<◌, ◌≤◌, ◌||◌, true, false, List, [], ◌∷◌, ◌++◌, length, get_or, set, Option, Some, None, sym, refl, ap, subst, ◌∙◌, inl, inr, arith, eqb}
use Rattle.std.proofs.lemmas.Bool.{cases_lt, cases_eq, cases_Bool, lt-leb, lt-ltb, le-ltb, eqb-true, eq-eqb, ne_eqb, or_cases, false≢true}
use Rattle.std.proofs.lemmas.List.{length-set, get_or-set_same, get_or-set_other}
use Rattle.std.proofs.lemmas.Nat.{div_below}
use Rattle.mq_blocks.specs.Drive.{PortState, holds_write, without_last, index_of}
use Rattle.mq_blocks.specs.Geometry.{homes_of, zone_of, home_lba}
use Rattle.mq_blocks.specs.Journal.{is_among}
use Rattle.mq_blocks.specs.declared.command.HomeWrite.{HomeWrite}
use Rattle.mq_blocks.specs.declared.geometry.Geometry.{Geometry}
use Rattle.mq_blocks.proofs.DriveBegun.{begun_new}
use Rattle.mq_ledger.specs.History.{blocks_of, changes, last, of_queue, IsAt}
use Rattle.mq_ledger.specs.Items.{Entries}
use Rattle.mq_ledger.specs.KnownJournal.{LogOk, front, draw_known, MayDraw}
use Rattle.mq_ledger.specs.Sides.{SideOk, RootOk, home_index}
use Rattle.mq_ledger.specs.State.{State, Facts, IsUnder, port_at, port_of, from_at, known_of, front_of}
use Rattle.mq_ledger.specs.declared.tx.Tx.{Tx}
use Rattle.mq_ledger.proofs.History.{last_le, last-same}
use Rattle.mq_ledger.proofs.Items.{of_queue-own, of_queue-other}
use Rattle.mq_core.specs.Events.{with_port, us_of, draw, clear, acknowledge, write_home, home_done, begin_home, end_home, content_at, unchanged_by, without, HasRoom, MayClear, MayWriteHome}
use Rattle.mq_core.proofs.EventsPorts.{index-zone, index-root, zone-apart}
use Rattle.mq_core.proofs.KnownJournalGrowth.{front_drawn, side_drawn, root_drawn, log_drawn, side_extends}
use Rattle.mq_core.specs.Homes.{IsLoggedLast}
use Rattle.mq_core.proofs.Homes.{side_written, root-apart, root_written, else_begin, else_end}
use Rattle.mq_core.proofs.StatePorts.{port_keeps, port_front, port_same, root_along}

-- ---- a draw

pub unchanged_among : (t : Tx) (xs : List ℕ) (x : ℕ) → is_among x (unchanged_by t xs) ≡ true → (is_among x xs ≡ true) × (changes t x ≡ false)
unchanged_among t [] x e = absurd (false≢true e)
unchanged_among t (y ∷ ys) x e = elim (cases_Bool (changes t y)) [
  | inl c ↦ (let r = unchanged_among t ys x (rw c at e) in (elim (cases_Bool (eqb y x)) [ inl s ↦ rw s refl | inr o ↦ rw o r.0 ], r.1))
  | inr c ↦ (let e' = rw c at e in elim (cases_Bool (eqb y x)) [
    | inl s ↦ (rw s refl, subst (λ z. changes t z ≡ false) (eqb-true _ _ s) c)
    | inr o ↦ (let r = unchanged_among t ys x (rw o at e') in (rw o r.0, r.1))
  ])
]

pub draw_keeps : (e : Entries) (s : State) (t : Tx) → Facts e s → MayDraw (known_of e s) t → HasRoom s.geometry (from_at s.starts t.queue) s.root.base (us_of s t.queue) t (port_at s.ports t.queue) → get_or s.marks t.queue 0 ≤ t.number → Facts e (draw t s)
draw_keeps e s t f may room mark =
    let k = known_of e s in
    let own = may.form.queue in
    let mine = f.sides t.queue own in
    let new : k.done t s.history ≡ false = (let o = mine.order in let rung = room.rung in lt-leb _ _ (omega (arith, o.stored, o.rung))) in
    let same = front_drawn k t f.log may.number new in
    let low = f.log.word_high in
    let base = f.log.word_low in
    let past : s.root.base < t.number = (let w : k.word ≤ k.base + length k.history = omega (arith, low, Rattle.mq_core.proofs.KnownJournalGrowth.front_low k) in omega (arith, may.number)) in
    record {
      form = f.form;
      log = log_drawn k t f.log may new;
      ports = f.ports;
      marked = f.marked;
      sides = λ r inside. elim (cases_eq t.queue r) [
        | inl is ↦
            let grown : of_queue r (t ∷ s.history) ≡ t ∷ of_queue r s.history = of_queue-own r t s.history is in
            let there = side_drawn k t f.log may.number new r (of_queue r s.history) (port_at s.ports r) (f.sides r inside) in
            let room' : HasRoom s.geometry (from_at s.starts r) s.root.base (of_queue r s.history) t (port_at s.ports r) = subst (λ n. HasRoom s.geometry (from_at s.starts n) s.root.base (of_queue n s.history) t (port_at s.ports n)) is room in
            subst (λ txs. SideOk (draw_known t k) r txs (port_at s.ports r)) (sym grown) (side_extends (draw_known t k) r t (of_queue r s.history) (port_at s.ports r) ([], grown) past there room')
        | inr not ↦ subst (λ txs. SideOk (draw_known t k) r txs (port_at s.ports r)) (sym (of_queue-other r t s.history not)) (side_drawn k t f.log may.number new r (of_queue r s.history) (port_at s.ports r) (f.sides r inside))
      ];
      root = root_drawn k t f.log may.number new s.root f.root;
      marks = λ u txs at undone. elim at [
        | inl here ↦ subst (λ (w : Tx). get_or s.marks w.queue 0 ≤ w.number) here.0 mark
        | inr deeper ↦ f.marks u txs deeper undone
      ];
      writing = λ x h.
          let r = unchanged_among t s.writing x h in
          let u = f.writing x r.0 in
          let kept : last s.base (t ∷ s.history) x ≡ last s.base s.history x = last-same s.base t s.history x r.1 in
          let high : last s.base s.history x ≤ front k = u.high in
          record {
            block = u.block;
            low = rw kept u.low;
            high = omega (arith, kept, high, same);
            logged = λ v vs at number. elim at [
              | inl here ↦
                  let n : t.number ≡ v.number = ap (λ (w : Tx). w.number) here.0 in
                  let number' : v.number ≡ last s.base (t ∷ s.history) x = number in
                  absurd (omega (arith, n, number', kept, may.number, last_le s.base s.history x f.log.numbers))
              | inr deeper ↦ (let number' : v.number ≡ last s.base (t ∷ s.history) x = number in u.logged v vs deeper (omega (arith, number', kept)))
            ];
            loose = u.loose;
            begun = u.begun;
          };
      acknowledged = λ n h. (let l : n ≤ front k = f.acknowledged n h in omega (arith, l, same));
    }

-- ---- marks and acknowledgements

pub clear_keeps : (e : Entries) (s : State) (q low : ℕ) → Facts e s → MayClear s q low → Facts e (clear q low s)
clear_keeps e s q low f may =
    record {
      form = f.form;
      log = f.log;
      ports = f.ports;
      marked = length-set s.marks q low ∙ f.marked;
      sides = f.sides;
      root = f.root;
      marks = λ t ts at undone. elim (cases_eq t.queue q) [
        | inl same ↦
            let within : q < length s.marks = omega (arith, f.marked, may.queue) in
            let is : get_or (set s.marks q low) t.queue 0 ≡ low = ap (λ n. get_or (set s.marks q low) n 0) same ∙ get_or-set_same s.marks q low 0 within in
            let m = may.each t ts at same undone in
            omega arith
        | inr other ↦ rw (get_or-set_other s.marks q t.queue low 0 other) (f.marks t ts at undone)
      ];
      writing = λ x h. (let u = f.writing x h in record { block = u.block; low = u.low; high = u.high; logged = u.logged; loose = u.loose; begun = u.begun });
      acknowledged = f.acknowledged;
    }

pub acknowledge_keeps : (e : Entries) (s : State) (n : ℕ) → Facts e s → n ≤ front_of s → Facts e (acknowledge n s)
acknowledge_keeps e s n f may =
    record {
      form = f.form;
      log = f.log;
      ports = f.ports;
      marked = f.marked;
      sides = f.sides;
      root = f.root;
      marks = f.marks;
      writing = λ x h. (let u = f.writing x h in record { block = u.block; low = u.low; high = u.high; logged = u.logged; loose = u.loose; begun = u.begun });
      acknowledged = λ m h. elim (cases_Bool (eqb n m)) [
        | inl same ↦ (let is = eqb-true _ _ same in omega arith)
        | inr other ↦ f.acknowledged m (rw other at h)
      ];
    }

-- the state with other blocks under way, each of which is
pub under_keeps : (e : Entries) (s : State) (xs : List ℕ) → Facts e s → ((x : ℕ) → is_among x xs ≡ true → IsUnder s x) → Facts e (record s { writing = xs })
under_keeps e s xs f each =
    record {
      form = f.form;
      log = f.log;
      ports = f.ports;
      marked = f.marked;
      sides = f.sides;
      root = f.root;
      marks = f.marks;
      writing = λ x h. (let u = each x h in record { block = u.block; low = u.low; high = u.high; logged = u.logged; loose = u.loose; begun = u.begun });
      acknowledged = f.acknowledged;
    }

-- ---- home writes

pub zone-queue : (g : Geometry) (q x : ℕ) → x < homes_of g → zone_of g x ≡ Some q → q < g.queues
zone-queue g q x inside e = elim (cases_lt x g.meta) [
  | inl low ↦ absurd (let k = rw (lt-ltb _ _ low) at e in none k)
  | inr high ↦
      let k = rw (le-ltb _ _ high) at e in
      let row : (x - g.meta) / g.zone ≡ q = inj k in
      let less : (x - g.meta) / g.zone < g.queues = div_below (x - g.meta) g.zone g.queues (let z = g.zone_low in omega arith) (omega arith) in
      omega arith
]
  where
    none : {n : ℕ} → None ≡ Some n → ⊥
    none k = cc

    inj : {m n : ℕ} → Some m ≡ Some n → m ≡ n
    inj k = cc

-- the root with other blocks and home writes
root_keeps : (e : Entries) (s : State) (p : PortState) → Facts e s → p.base ≡ s.root.base → p.stored_base ≡ s.root.stored_base → RootOk (known_of e s) p
    → ((x : ℕ) → is_among x s.writing ≡ true → zone_of s.geometry x ≡ None → IsUnder s x → (get_or p.certain (home_index s.geometry x) false ≡ false) × (holds_write (home_lba s.geometry x) p.begun ≡ true)) → Facts e (record s { root = p })
root_keeps e s p f base stored root writing =
    record {
      form = f.form;
      log = subst (λ k. LogOk k) same f.log;
      ports = f.ports;
      marked = f.marked;
      sides = λ q own. subst (λ k. SideOk k q (of_queue q s.history) (port_at s.ports q)) same (f.sides q own);
      root = subst (λ k. RootOk k p) same root;
      marks = f.marks;
      writing = λ x h.
          let u = f.writing x h in
          record {
            block = u.block;
            low = rw stored u.low;
            high = u.high;
            logged = u.logged;
            loose = root_along (λ w. get_or w.certain (home_index s.geometry x) false ≡ false) s p (zone_of s.geometry x) (λ z c. (writing x h z u).0) u.loose;
            begun = root_along (λ w. holds_write (home_lba s.geometry x) w.begun ≡ true) s p (zone_of s.geometry x) (λ z b. (writing x h z u).1) u.begun;
          };
      acknowledged = f.acknowledged;
    }
  where
    same : known_of e s ≡ known_of e (record s { root = p })
    same = λ i. record (known_of e s) { due = λ x v. eqb v (sym base i) || eqb v (sym stored i); word = sym base i }

pub begun_append : (lba : ℕ) (ws : List HomeWrite) (w : HomeWrite) → holds_write lba ws ≡ true → holds_write lba (ws ++ w ∷ []) ≡ true
begun_append lba [] w h = absurd (false≢true h)
begun_append lba (v ∷ ws) w h = elim (cases_Bool (eqb v.lba lba)) [
  | inl same ↦ rw same refl
  | inr other ↦ rw other (begun_append lba ws w (rw other at h))
]

pub begun_left : (lba other : ℕ) (ws : List HomeWrite) → lba ≢ other → holds_write lba ws ≡ true → holds_write lba (without_last other ws) ≡ true
begun_left lba other [] apart h = h
begun_left lba other (w ∷ ws) apart h =
    elim (cases_Bool (holds_write other ws)) [
      | inl more ↦ rw more (first (λ r. begun_left lba other ws apart r))
      | inr last ↦ rw last (elim (cases_Bool (eqb w.lba other)) [
        | inl same ↦ rw same (let is = eqb-true _ _ same in rw (ne_eqb w.lba lba (λ e. apart (sym e ∙ is))) at h)
        | inr not ↦ rw not h
      ])
    ]
  where
    first : (holds_write lba ws ≡ true → holds_write lba (without_last other ws) ≡ true) → holds_write lba (w ∷ without_last other ws) ≡ true
    first rest = elim (cases_Bool (eqb w.lba lba)) [
      | inl same ↦ rw same refl
      | inr not ↦ rw not (rest (rw not at h))
    ]

-- the last change of such a block is above all that is due
logged_last : (e : Entries) (s : State) (x : ℕ) → Facts e s → s.root.stored_base < last s.base s.history x → last s.base s.history x ≤ front_of s → ((t : Tx) (ts : List Tx) → IsAt t ts s.history → t.number ≡ last s.base s.history x → is_among x (blocks_of t.logged) ≡ true) → IsLoggedLast (known_of e s) x
logged_last e s x f low high logged =
    record {
      due = λ v d. elim (or_cases (eqb v s.root.base) (eqb v s.root.stored_base) d) [
        | inl a ↦ (let is = eqb-true _ _ a in let o : s.root.base ≤ s.root.stored_base = f.root.bases.1 in let goal : v < last s.base s.history x = omega arith in goal)
        | inr b ↦ (let is = eqb-true _ _ b in let goal : v < last s.base s.history x = omega arith in goal)
      ];
      high = high;
      logged = logged;
    }

-- a home write begins
pub record HasBegun (e : Entries) (s : State) (x : ℕ) : Type 0 where
  pub facts : Facts e s
  pub writing : IsUnder s x

begun_keeps : (e : Entries) (s : State) (x : ℕ) (block : List ℕ) (z : Option ℕ) → zone_of s.geometry x ≡ z → Facts e s → MayWriteHome s x → HasBegun e (with_port s z (begin_home s.geometry x block (port_of s z))) x
begun_keeps e s x block (Some q) zone f may =
    let u = logged_last e s x f may.low may.high may.logged in
    let own = zone-queue s.geometry q x may.block zone in
    let side = f.sides q own in
    let p = port_at s.ports q in
    let at = index-zone s.geometry q x p side.port zone in
    let long = side.port.certain in
    let fresh : get_or (begin_home s.geometry x block p).certain (home_index s.geometry x) false ≡ false =
    ap (λ n. get_or (set p.certain n false) (home_index s.geometry x) false) at.0 ∙ get_or-set_same p.certain (home_index s.geometry x) false false (omega (arith, at.2)) in
    let written = side_written (known_of e s) q (us_of s q) p x p.blocks (begin_home s.geometry x block p).certain (begin_home s.geometry x block p).begun (begin_home s.geometry x block p).begins f.log side zone u (else_begin s.geometry x block p at.0) in
    let stays : (y : ℕ) → is_among y s.writing ≡ true → zone_of s.geometry y ≡ Some q → IsUnder s y → (get_or p.certain (home_index s.geometry y) false ≡ false → get_or (begin_home s.geometry x block p).certain (home_index s.geometry y) false ≡ false)
    × (holds_write (home_lba s.geometry y) p.begun ≡ true → holds_write (home_lba s.geometry y) (begin_home s.geometry x block p).begun ≡ true) = λ y among z v. (
      λ h. elim (cases_eq (home_index s.geometry y) (home_index s.geometry x)) [
        | inl same ↦ ap (λ n. get_or (begin_home s.geometry x block p).certain n false) same ∙ fresh
        | inr other ↦ get_or-set_other p.certain (index_of p (home_lba s.geometry x)) (home_index s.geometry y) false false (λ n. other (n ∙ at.0)) ∙ h
      ],
      λ h. begun_append (home_lba s.geometry y) p.begun _ h,
    ) in
    let s' = with_port s (Some q) (begin_home s.geometry x block p) in
    let is : port_at s'.ports q ≡ begin_home s.geometry x block p = port_same s.ports q (begin_home s.geometry x block p) (omega (arith, f.ports, own)) in
    let front = port_front e s f q own (begin_home s.geometry x block p) written (omega arith) stays in
    record {
      facts = port_keeps e s f q own (begin_home s.geometry x block p) written (omega arith) stays;
      writing = record {
        block = may.block;
        low = may.low;
        high = omega (arith, may.high, front);
        logged = may.logged;
        loose = ap (λ w. get_or (port_of s' w).certain (home_index s.geometry x) false) zone ∙ ap (λ (w : PortState). get_or w.certain (home_index s.geometry x) false) is ∙ fresh;
        begun = ap (λ w. holds_write (home_lba s.geometry x) (port_of s' w).begun) zone ∙ ap (λ (w : PortState). holds_write (home_lba s.geometry x) w.begun) is ∙ begun_new (home_lba s.geometry x) p.begun _ refl;
      };
    }
begun_keeps e s x block None zone f may =
    let u = logged_last e s x f may.low may.high may.logged in
    let p = s.root in
    let at = index-root s.geometry x p f.root.port zone may.block in
    let long = f.root.port.certain in
    let fresh : get_or (begin_home s.geometry x block p).certain (home_index s.geometry x) false ≡ false =
    ap (λ n. get_or (set p.certain n false) (home_index s.geometry x) false) at.0 ∙ get_or-set_same p.certain (home_index s.geometry x) false false (omega (arith, at.1)) in
    let s' = with_port s None (begin_home s.geometry x block p) in
    record {
      facts = root_keeps e s (begin_home s.geometry x block p) f refl refl
          (root_written (known_of e s) p x p.blocks (begin_home s.geometry x block p).certain (begin_home s.geometry x block p).begun (begin_home s.geometry x block p).begins f.log f.root zone may.block u (else_begin s.geometry x block p at.0))
          (λ y among z v. (
            elim (cases_eq (home_index s.geometry y) (home_index s.geometry x)) [
              | inl same ↦ ap (λ n. get_or (begin_home s.geometry x block p).certain n false) same ∙ fresh
              | inr other ↦
                  get_or-set_other p.certain (index_of p (home_lba s.geometry x)) (home_index s.geometry y) false false (λ n. other (n ∙ at.0))
                  ∙ (ap (λ (w : PortState). get_or w.certain (home_index s.geometry y) false) (sym (ap (port_of s) z)) ∙ v.loose)
            ],
            begun_append (home_lba s.geometry y) p.begun _ (ap (λ (w : PortState). holds_write (home_lba s.geometry y) w.begun) (sym (ap (port_of s) z)) ∙ v.begun),
          ));
      writing = record {
        block = may.block;
        low = may.low;
        high = may.high;
        logged = may.logged;
        loose = ap (λ w. get_or (port_of s' w).certain (home_index s.geometry x) false) zone ∙ fresh;
        begun = ap (λ w. holds_write (home_lba s.geometry x) (port_of s' w).begun) zone ∙ begun_new (home_lba s.geometry x) p.begun _ refl;
      };
    }

begun_among : (e : Entries) (s s' : State) (x : ℕ) → s'.writing ≡ s.writing → HasBegun e s' x → Facts e (record s' { writing = x ∷ s.writing })
begun_among e s s' x same b = under_keeps e s' (x ∷ s.writing) b.facts (λ y h. elim (cases_Bool (eqb x y)) [
  | inl is ↦ subst (λ n. IsUnder s' n) (eqb-true _ _ is) b.writing
  | inr other ↦ b.facts.writing y (ap (is_among y) same ∙ rw other at h)
])

pub write_home_keeps : (e : Entries) (s : State) (x : ℕ) → Facts e s → MayWriteHome s x → Facts e (write_home x s)
write_home_keeps e s x f may = go (zone_of s.geometry x) refl
  where
    go : (z : Option ℕ) → zone_of s.geometry x ≡ z → Facts e (record (with_port s z (begin_home s.geometry x (content_at s x) (port_of s z))) { writing = x ∷ s.writing })
    go (Some q) zone = begun_among e s (with_port s (Some q) (begin_home s.geometry x (content_at s x) (port_at s.ports q))) x refl (begun_keeps e s x (content_at s x) (Some q) zone f may)
    go None zone = begun_among e s (with_port s None (begin_home s.geometry x (content_at s x) s.root)) x refl (begun_keeps e s x (content_at s x) None zone f may)

-- ---- it ends

pub without_among : (x : ℕ) (ys : List ℕ) (y : ℕ) → is_among y (without x ys) ≡ true → (is_among y ys ≡ true) × (y ≢ x)
without_among x [] y h = absurd (false≢true h)
without_among x (z ∷ zs) y h = elim (cases_Bool (eqb z x)) [
  | inl c ↦ (let r = without_among x zs y (rw c at h) in (elim (cases_Bool (eqb z y)) [ inl s ↦ rw s refl | inr o ↦ rw o r.0 ], r.1))
  | inr c ↦ (let h' = rw c at h in elim (cases_Bool (eqb z y)) [
    | inl s ↦ (rw s refl, λ k. false≢true (sym c ∙ eq-eqb z x (eqb-true _ _ s ∙ k)))
    | inr o ↦ (let r = without_among x zs y (rw o at h') in (rw o r.0, r.1))
  ])
]

-- no home write of the block is under way any more
pub ended_keeps : (e : Entries) (s : State) (x : ℕ) (block : List ℕ) (z : Option ℕ) → zone_of s.geometry x ≡ z → Facts e s → x < homes_of s.geometry → IsLoggedLast (known_of e s) x → ((y : ℕ) → is_among y s.writing ≡ true → y ≢ x)
    → Facts e (with_port s z (end_home s.geometry x block (port_of s z)))
ended_keeps e s x block (Some q) zone f inside u apart =
    let own = zone-queue s.geometry q x inside zone in
    let side = f.sides q own in
    let p = port_at s.ports q in
    let at = index-zone s.geometry q x p side.port zone in
    port_keeps e s f q own (end_home s.geometry x block p)
    (side_written (known_of e s) q (us_of s q) p x (end_home s.geometry x block p).blocks (end_home s.geometry x block p).certain (end_home s.geometry x block p).begun (end_home s.geometry x block p).begins f.log side zone u (else_end s.geometry x block p at.0)) (omega arith)
    (λ y among z v. (
      λ h. get_or-set_other p.certain (index_of p (home_lba s.geometry x)) (home_index s.geometry y) true false (λ n. apart y among (zone-apart s.geometry q y x z zone (n ∙ at.0))) ∙ h,
      λ h. begun_left (home_lba s.geometry y) (home_lba s.geometry x) p.begun (λ n. apart y among (omega (arith, n))) h,
    ))
ended_keeps e s x block None zone f inside u apart =
    let p = s.root in
    let at = index-root s.geometry x p f.root.port zone inside in
    root_keeps e s (end_home s.geometry x block p) f refl refl
    (root_written (known_of e s) p x (end_home s.geometry x block p).blocks (end_home s.geometry x block p).certain (end_home s.geometry x block p).begun (end_home s.geometry x block p).begins f.log f.root zone inside u (else_end s.geometry x block p at.0))
    (λ y among z v. (
      get_or-set_other p.certain (index_of p (home_lba s.geometry x)) (home_index s.geometry y) true false (λ n. apart y among (root-apart s.geometry x y zone z (n ∙ at.0)))
          ∙ (ap (λ (w : PortState). get_or w.certain (home_index s.geometry y) false) (sym (ap (port_of s) z)) ∙ v.loose),
      begun_left (home_lba s.geometry y) (home_lba s.geometry x) p.begun (λ n. apart y among (omega (arith, n))) (ap (λ (w : PortState). holds_write (home_lba s.geometry y) w.begun) (sym (ap (port_of s) z)) ∙ v.begun),
    ))

pub home_done_keeps : (e : Entries) (s : State) (x : ℕ) → Facts e s → is_among x s.writing ≡ true → Facts e (home_done x s)
home_done_keeps e s x f is = go (zone_of s.geometry x) refl
  where
    u : IsUnder s x
    u = f.writing x is

    fewer : Facts e (record s { writing = without x s.writing })
    fewer = under_keeps e s (without x s.writing) f (λ y h. f.writing y (without_among x s.writing y h).0)

    go : (z : Option ℕ) → zone_of s.geometry x ≡ z → Facts e (record (with_port s z (end_home s.geometry x (content_at s x) (port_of s z))) { writing = without x s.writing })
    go (Some q) zone = ended_keeps e (record s { writing = without x s.writing }) x (content_at s x) (Some q) zone fewer u.block (logged_last e s x f u.low u.high u.logged) (λ y h. (without_among x s.writing y h).1)
    go None zone = ended_keeps e (record s { writing = without x s.writing }) x (content_at s x) None zone fewer u.block (logged_last e s x f u.low u.high u.logged) (λ y h. (without_among x s.writing y h).1)
