-- Draw, Acknowledge, home writes and bases keep the facts of the whole loose state.
use Rattle.std.proofs.Common.{◌≡◌, ◌≢◌, ℕ, ◌<◌, ◌≤◌, true, false, Bool, List, [], ◌∷◌, length, get_or, set, Option, Some, None, sym, refl, ap, subst, ◌∙◌, inl, inr, arith, eqb}
use Rattle.std.proofs.lemmas.Bool.{cases_lt, cases_eq, cases_Bool, lt-leb, eqb-true, false≢true}
use Rattle.std.proofs.lemmas.List.{get_or-set_same, get_or-set_other}
use Rattle.mq_blocks.specs.Drive.{PortState, after_flush, after_store_base, holds_write, index_of}
use Rattle.mq_blocks.specs.Geometry.{homes_of, zone_of, home_lba}
use Rattle.mq_blocks.specs.Journal.{is_among}
use Rattle.mq_blocks.specs.declared.command.HomeWrite.{HomeWrite}
use Rattle.mq_blocks.proofs.DriveBegun.{begun_new}
use Rattle.mq_ledger.specs.History.{map_after, last, upto, of_queue}
use Rattle.mq_ledger.specs.Items.{Entries}
use Rattle.mq_ledger.specs.KnownJournal.{front, draw_known, MayDraw}
use Rattle.mq_ledger.specs.Sides.{SideOk, Certainly, home_index}
use Rattle.mq_ledger.specs.State.{State, is_done, port_at, port_of, from_at, front_of, start_map}
use Rattle.mq_ledger.specs.declared.tx.Tx.{Tx}
use Rattle.mq_ledger.proofs.History.{last_le, last-same, last_upto_le, upto-past, value_settled}
use Rattle.mq_ledger.proofs.Items.{of_queue-own, of_queue-other}
use Rattle.mq_core.specs.Events.{with_port, us_of, draw, acknowledge, write_home, home_done, store_base, flush_base, begin_home, end_home, content_at, without, HasRoom, MayStoreBase}
use Rattle.mq_core.proofs.EventsPorts.{certainly_along, index-zone, index-root, zone-apart}
use Rattle.mq_core.proofs.KnownJournalGrowth.{front_drawn, front_low, side_drawn, root_drawn, log_drawn, side_extends}
use Rattle.mq_core.proofs.HistoryBases.{log_based, side_based}
use Rattle.mq_core.proofs.Homes.{AreElse, certainly_else, written_to, root-apart, root_free, side_free, else_begin, else_end}
use Rattle.mq_core.proofs.StateEvents.{begun_append, begun_left, unchanged_among, without_among, zone-queue}
use Rattle.mq_core.proofs.StateBases.{logged_value}
use Rattle.mq_loose.specs.Safe.{NoneChanges}
use Rattle.mq_loose.specs.Guards.{entries_in, side_known, settled, IsDrawable, MayWriteHome}
use Rattle.mq_loose.specs.Safe.{IsABase, IsPlain, IsUnder, Facts}
use Rattle.mq_loose.proofs.Closures.{closure_front}
use Rattle.mq_loose_order.proofs.Closed.{closure_still}
use Rattle.mq_loose.proofs.Homes.{last_from, last_within, at_upto, free_always}
use Rattle.mq_core.proofs.StatePorts.{port_same, root_along}
use Rattle.mq_ledger.specs.History.{AreNumbered}
use Rattle.mq_ledger.specs.Items.{descriptor_for}
use Rattle.mq_ledger.proofs.History.{at_most}
use Rattle.mq_loose_order.specs.Dependence.{deps_of}
use Rattle.mq_loose_order.specs.Form.{loose_text}
use Rattle.mq_loose_order.proofs.Closed.{deps-other}
use Rattle.mq_loose_order.proofs.FormSound.{text-along}
use Rattle.mq_loose.proofs.Forms.{AreSameTexts, formed, side_formed, root_formed, log_formed}
use Rattle.mq_loose.proofs.Ports.{port_keeps, port_settles}

-- ---- a draw

base_low : (e : Entries) (s : State) (v : ℕ) → Facts e s → IsABase s v → v ≤ front_of s
base_low e s v f (inl is) = (let o = f.root.bases.1 in omega (arith, is, o, f.reached))
base_low e s v f (inr is) = omega (arith, is, f.reached)

-- one more transaction leaves the bytes of the others' descriptors
pub more_texts : (e : Entries) (s : State) (t : Tx) → AreNumbered s.base (t ∷ s.history) → AreSameTexts (entries_in e s).form (entries_in e (draw t s)).form s.history
more_texts e s t numbers = record {
  version = refl;
  texts = λ u us txs at.
      let most = at_most s.base u us s.history numbers.1 at in
      let other : u.number ≢ t.number = (λ is. absurd (omega (arith, is, most, numbers.0))) in
      go u txs (sym (deps-other s.base t s.history u.number other));
}
  where
    go : (u : Tx) (txs : List Tx) → deps_of s.base s.history u.number ≡ deps_of s.base (t ∷ s.history) u.number → loose_text (deps_of s.base s.history) 1 (descriptor_for u txs) ≡ loose_text (deps_of s.base (t ∷ s.history)) 1 (descriptor_for u txs)
    go u txs is = text-along (deps_of s.base s.history) (deps_of s.base (t ∷ s.history)) 1 (descriptor_for u txs) is

pub draw_keeps : (e : Entries) (s : State) (t : Tx) → Facts e s → t.direct ≡ [] → t.revoked ≡ [] → IsDrawable e s t → Facts e (draw t s)
draw_keeps e s t f direct revoked allowed =
    let m = allowed.may in
    let plain : IsPlain t = record { direct = direct; revoked = revoked; few = allowed.few } in
    let room = allowed.room in
    let form = (entries_in e (draw t s)).form in
    let numbers : AreNumbered s.base (t ∷ s.history) = (m.number, f.log.numbers) in
    let texts = more_texts e s t numbers in
    let k = formed form (side_known e s) in
    let log = log_formed (side_known e s) form texts f.log in
    let sides : (r : ℕ) → r < s.geometry.queues → SideOk k r (of_queue r s.history) (port_at s.ports r) = λ r inside. side_formed (side_known e s) form texts r (of_queue r s.history) (port_at s.ports r) (f.sides r inside) in
    let may : MayDraw k t = record { form = m.form; number = m.number; limit = m.limit; freed = m.freed; free = m.free; settled = m.settled; revoked = m.revoked } in
    let own = may.form.queue in
    let mine = sides t.queue own in
    let new : k.done t s.history ≡ false = (let o = mine.order in let rung = room.rung in lt-leb _ _ (omega (arith, o.stored, o.rung))) in
    let same = front_drawn k t log may.number new in
    let low = log.word_high in
    let top = front_low k in
    let past : s.root.base < t.number = omega (arith, low, top, may.number) in
    record {
      log = log_drawn k t log may new;
      plain = λ u us at. elim at [
        | inl here ↦ subst (λ w. IsPlain w) here.0 plain
        | inr deeper ↦ f.plain u us deeper
      ];
      ports = f.ports;
      sides = λ r inside. elim (cases_eq t.queue r) [
        | inl is ↦
            let grown : of_queue r (t ∷ s.history) ≡ t ∷ of_queue r s.history = of_queue-own r t s.history is in
            let there = side_drawn k t log may.number new r (of_queue r s.history) (port_at s.ports r) (sides r inside) in
            let room' : HasRoom s.geometry (from_at s.starts r) s.root.base (of_queue r s.history) t (port_at s.ports r) = subst (λ n. HasRoom s.geometry (from_at s.starts n) s.root.base (of_queue n s.history) t (port_at s.ports n)) is room in
            subst (λ txs. SideOk (draw_known t k) r txs (port_at s.ports r)) (sym grown) (side_extends (draw_known t k) r t (of_queue r s.history) (port_at s.ports r) ([], grown) past there room')
        | inr not ↦ subst (λ txs. SideOk (draw_known t k) r txs (port_at s.ports r)) (sym (of_queue-other r t s.history not)) (side_drawn k t log may.number new r (of_queue r s.history) (port_at s.ports r) (sides r inside))
      ];
      root = root_drawn k t log may.number new s.root (root_formed (side_known e s) form texts s.root f.root);
      reached = (let r : s.root.stored_base ≤ front k = f.reached in omega (arith, r, same));
      homes = λ x v content inside base there none.
          let l : v ≤ front k = base_low e s v f base in
          let skips : upto v (t ∷ s.history) ≡ upto v s.history = upto-past v t s.history (omega (arith, l, top, may.number)) in
          f.homes x v content inside base (subst (λ txs. map_after (start_map s.start) txs x ≡ Some content) skips there)
          (λ u us at st ch. none u us (inr at) (closure_still (is_done s.starts s.ports) s.base t s.history u.number numbers st) ch);
      writing = λ x h.
          let r = unchanged_among t s.writing x h in
          let u = f.writing x r.0 in
          let kept : last s.base (t ∷ s.history) x ≡ last s.base s.history x = last-same s.base t s.history x r.1 in
          record {
            block = u.block;
            low = rw kept u.low;
            settled_is = subst (λ n. settled (draw t s) n ≡ true) (sym kept) (closure_still (is_done s.starts s.ports) s.base t s.history (last s.base s.history x) numbers u.settled_is);
            logged = λ v vs at number. elim at [
              | inl here ↦
                  let n : t.number ≡ v.number = ap (λ (w : Tx). w.number) here.0 in
                  let number' : v.number ≡ last s.base (t ∷ s.history) x = number in
                  absurd (omega (arith, n, number', kept, may.number, last_le s.base s.history x f.log.numbers))
              | inr deeper ↦ (let number' : v.number ≡ last s.base (t ∷ s.history) x = number in u.logged v vs deeper (omega (arith, number', kept)))
            ];
            loose = u.loose;
            begun = u.begun;
          };
      acknowledged = λ n h. closure_still (is_done s.starts s.ports) s.base t s.history n numbers (f.acknowledged n h);
    }

-- ---- acknowledgements

pub acknowledge_keeps : (e : Entries) (s : State) (n : ℕ) → Facts e s → settled s n ≡ true → Facts e (acknowledge n s)
acknowledge_keeps e s n f may =
    record {
      log = f.log;
      plain = f.plain;
      ports = f.ports;
      sides = f.sides;
      root = f.root;
      reached = f.reached;
      homes = f.homes;
      writing = λ x h. (let u = f.writing x h in record { block = u.block; low = u.low; settled_is = u.settled_is; logged = u.logged; loose = u.loose; begun = u.begun });
      acknowledged = λ m h. elim (cases_Bool (eqb n m)) [
        | inl same ↦ subst (λ z. settled s z ≡ true) (eqb-true _ _ same) may
        | inr other ↦ f.acknowledged m (rw other at h)
      ];
    }

-- the state with other blocks under way, each of which is
under_keeps : (e : Entries) (s : State) (xs : List ℕ) → Facts e s → ((x : ℕ) → is_among x xs ≡ true → IsUnder s x) → Facts e (record s { writing = xs })
under_keeps e s xs f each =
    record {
      log = f.log;
      plain = f.plain;
      ports = f.ports;
      sides = f.sides;
      root = f.root;
      reached = f.reached;
      homes = f.homes;
      writing = λ x h. (let u = each x h in record { block = u.block; low = u.low; settled_is = u.settled_is; logged = u.logged; loose = u.loose; begun = u.begun });
      acknowledged = f.acknowledged;
    }

-- ---- home writes

-- no base needs the content of such a block
abbrev IsExempt : State → ℕ → Type 0
IsExempt s x = (v : ℕ) → IsABase s v → NoneChanges (settled s) s.history x v → ⊥

exempt : (e : Entries) (s : State) (x : ℕ) → Facts e s → s.root.stored_base < last s.base s.history x → settled s (last s.base s.history x) ≡ true → IsExempt s x
exempt e s x f low st v base none =
    let b : s.base ≤ s.root.base = f.log.word_low in
    let o : s.root.base ≤ s.root.stored_base = f.root.bases.1 in
    let r = last_from s.base s.history x (omega (arith, b, o)) in
    let l = none r.t r.ts r.at (subst (λ n. settled s n ≡ true) (sym r.number) st) r.changes_it in
    let high : v ≤ s.root.stored_base = elim base [
      | inl is ↦ omega (arith, is, o)
      | inr is ↦ omega (arith, is)
    ] in
    absurd (omega (arith, l, r.number, high))

-- what home writes under way see of a port whose blocks changed
abbrev StaysLoose : State → Option ℕ → List Bool → List HomeWrite → Type 0
StaysLoose s z certain begun =
    (y : ℕ) → is_among y s.writing ≡ true → zone_of s.geometry y ≡ z → (get_or (port_of s z).certain (home_index s.geometry y) false ≡ false → get_or certain (home_index s.geometry y) false ≡ false)
    × (holds_write (home_lba s.geometry y) (port_of s z).begun ≡ true → holds_write (home_lba s.geometry y) begun ≡ true)

-- the root with other blocks
root_keeps : (e : Entries) (s : State) (x : ℕ) (blocks : List (Option (List ℕ))) (certain : List Bool) (begun : List HomeWrite) (begins : ℕ) → zone_of s.geometry x ≡ None → Facts e s → IsExempt s x → AreElse s.root (home_index s.geometry x) blocks certain → StaysLoose s None certain begun
    → Facts e (record s { root = written_to s.root blocks certain begun begins })
root_keeps e s x blocks certain begun begins zone f free els stays =
    record {
      log = f.log;
      plain = f.plain;
      ports = f.ports;
      sides = f.sides;
      root = root_free (side_known e s) s.root x blocks certain begun begins f.root zone (free_always (side_known e s) x f.plain (λ y v. refl)) els;
      reached = f.reached;
      homes = λ y v content inside base there none.
          root_along (λ w. Certainly w (home_index s.geometry y) content) s (written_to s.root blocks certain begun begins) (zone_of s.geometry y)
          (λ z c. certainly_else s.root (home_index s.geometry x) (home_index s.geometry y) content blocks certain begun begins els (λ same. free v base (subst (λ n. NoneChanges (settled s) s.history n v) (root-apart s.geometry x y zone z same) none)) c)
          (f.homes y v content inside base there none);
      writing = λ y h.
          let u = f.writing y h in
          record {
            block = u.block;
            low = u.low;
            settled_is = u.settled_is;
            logged = u.logged;
            loose = root_along (λ w. get_or w.certain (home_index s.geometry y) false ≡ false) s (written_to s.root blocks certain begun begins) (zone_of s.geometry y) (λ z. (stays y h z).0) u.loose;
            begun = root_along (λ w. holds_write (home_lba s.geometry y) w.begun ≡ true) s (written_to s.root blocks certain begun begins) (zone_of s.geometry y) (λ z. (stays y h z).1) u.begun;
          };
      acknowledged = f.acknowledged;
    }

-- the port of a block, with other blocks
pub home_keeps : (e : Entries) (s : State) (x : ℕ) (z : Option ℕ) (blocks : List (Option (List ℕ))) (certain : List Bool) (begun : List HomeWrite) (begins : ℕ) → zone_of s.geometry x ≡ z → x < homes_of s.geometry → Facts e s → IsExempt s x → AreElse (port_of s z) (home_index s.geometry x) blocks certain → StaysLoose s z certain begun
    → Facts e (with_port s z (written_to (port_of s z) blocks certain begun begins)) × ((n : ℕ) → settled s n ≡ true → settled (with_port s z (written_to (port_of s z) blocks certain begun begins)) n ≡ true)
home_keeps e s x None blocks certain begun begins zone inside f free els stays = (root_keeps e s x blocks certain begun begins zone f free els stays, λ n st. st)
home_keeps e s x (Some q) blocks certain begun begins zone inside f free els stays =
    let own = zone-queue s.geometry q x inside zone in
    let p = port_at s.ports q in
    let side = side_free (side_known e s) q (us_of s q) p x blocks certain begun begins f.log (f.sides q own) zone (free_always (side_known e s) x f.plain (λ y v. refl)) els in
    let homes : (y v : ℕ) (content : List ℕ) → y < homes_of s.geometry → zone_of s.geometry y ≡ Some q → IsABase s v → NoneChanges (settled s) s.history y v → Certainly p (home_index s.geometry y) content → Certainly (written_to p blocks certain begun begins) (home_index s.geometry y) content = λ y v content low z base none c. certainly_else p (home_index s.geometry x) (home_index s.geometry y) content blocks certain begun begins els (λ same. free v base (subst (λ n. NoneChanges (settled s) s.history n v) (zone-apart s.geometry q y x z zone same) none)) c in (
      port_keeps e s f q own (written_to p blocks certain begun begins) side (omega arith) homes stays,
      port_settles e s f q own (written_to p blocks certain begun begins) side (omega arith) homes stays,
    )

-- where the block stands on its port
record StandsAt (s : State) (x : ℕ) (z : Option ℕ) : Type 0 where
  pub index : index_of (port_of s z) (home_lba s.geometry x) ≡ home_index s.geometry x
  pub within : home_index s.geometry x < length (port_of s z).certain

stands_at : (e : Entries) (s : State) (x : ℕ) (z : Option ℕ) → Facts e s → zone_of s.geometry x ≡ z → x < homes_of s.geometry → StandsAt s x z
stands_at e s x None f zone inside =
    let at = index-root s.geometry x s.root f.root.port zone inside in
    let long = f.root.port.certain in
    record { index = at.0; within = omega (arith, at.1, long) }
stands_at e s x (Some q) f zone inside =
    let side = f.sides q (zone-queue s.geometry q x inside zone) in
    let at = index-zone s.geometry q x (port_at s.ports q) side.port zone in
    let long = side.port.certain in
    record { index = at.0; within = omega (arith, at.2, long) }

-- two blocks of one port
home-apart : (s : State) (x y : ℕ) (z : Option ℕ) → zone_of s.geometry x ≡ z → zone_of s.geometry y ≡ z → home_index s.geometry y ≡ home_index s.geometry x → y ≡ x
home-apart s x y None zx zy same = root-apart s.geometry x y zx zy same
home-apart s x y (Some q) zx zy same = zone-apart s.geometry q y x zy zx same

port_is : (s : State) (z : Option ℕ) (p : PortState) → ((q : ℕ) → z ≡ Some q → q < length s.ports) → port_of (with_port s z p) z ≡ p
port_is s None p within = refl
port_is s (Some q) p within = port_same s.ports q p (within q refl)

-- a home write of the block is under way on its port, which is like this now
under_at : (s : State) (x : ℕ) (z : Option ℕ) (b : PortState) → (z ≡ None → b.stored_base ≡ s.root.stored_base) → zone_of s.geometry x ≡ z → MayWriteHome s x → ((n : ℕ) → settled s n ≡ true → settled (with_port s z b) n ≡ true) → port_of (with_port s z b) z ≡ b → get_or b.certain (home_index s.geometry x) false ≡ false → holds_write (home_lba s.geometry x) b.begun ≡ true
    → IsUnder (with_port s z b) x
under_at s x None b kept zone may settles is fresh begun =
    record {
      block = may.block;
      low = (let k = kept refl in let l = may.low in omega (arith, k, l));
      settled_is = settles (last s.base s.history x) may.settled_is;
      logged = may.logged;
      loose = ap (λ w. get_or (port_of (with_port s None b) w).certain (home_index s.geometry x) false) zone ∙ (ap (λ (w : PortState). get_or w.certain (home_index s.geometry x) false) is ∙ fresh);
      begun = ap (λ w. holds_write (home_lba s.geometry x) (port_of (with_port s None b) w).begun) zone ∙ (ap (λ (w : PortState). holds_write (home_lba s.geometry x) w.begun) is ∙ begun);
    }
under_at s x (Some q) b kept zone may settles is fresh begun =
    record {
      block = may.block;
      low = may.low;
      settled_is = settles (last s.base s.history x) may.settled_is;
      logged = may.logged;
      loose = ap (λ w. get_or (port_of (with_port s (Some q) b) w).certain (home_index s.geometry x) false) zone ∙ (ap (λ (w : PortState). get_or w.certain (home_index s.geometry x) false) is ∙ fresh);
      begun = ap (λ w. holds_write (home_lba s.geometry x) (port_of (with_port s (Some q) b) w).begun) zone ∙ (ap (λ (w : PortState). holds_write (home_lba s.geometry x) w.begun) is ∙ begun);
    }

more_under : (e : Entries) (s : State) (x : ℕ) (z : Option ℕ) (b : PortState) → Facts e (with_port s z b) → IsUnder (with_port s z b) x → Facts e (record (with_port s z b) { writing = x ∷ s.writing })
more_under e s x None b f u = under_keeps e (with_port s None b) (x ∷ s.writing) f (λ y h. elim (cases_Bool (eqb x y)) [
  | inl same ↦ subst (λ n. IsUnder (with_port s None b) n) (eqb-true _ _ same) u
  | inr other ↦ f.writing y (rw other at h)
])
more_under e s x (Some q) b f u = under_keeps e (with_port s (Some q) b) (x ∷ s.writing) f (λ y h. elim (cases_Bool (eqb x y)) [
  | inl same ↦ subst (λ n. IsUnder (with_port s (Some q) b) n) (eqb-true _ _ same) u
  | inr other ↦ f.writing y (rw other at h)
])

pub write_home_keeps : (e : Entries) (s : State) (x : ℕ) → Facts e s → MayWriteHome s x → Facts e (write_home x s)
write_home_keeps e s x f may = go (zone_of s.geometry x) refl
  where
    go : (z : Option ℕ) → zone_of s.geometry x ≡ z → Facts e (record (with_port s z (begin_home s.geometry x (content_at s x) (port_of s z))) { writing = x ∷ s.writing })
    go z zone =
        let at = stands_at e s x z f zone may.block in
        let p = port_of s z in
        let b = begin_home s.geometry x (content_at s x) p in
        let free = exempt e s x f may.low may.settled_is in
        let fresh : get_or b.certain (home_index s.geometry x) false ≡ false = ap (λ n. get_or (set p.certain n false) (home_index s.geometry x) false) at.index ∙ get_or-set_same p.certain (home_index s.geometry x) false false at.within in
        let k = home_keeps e s x z b.blocks b.certain b.begun b.begins zone may.block f free (else_begin s.geometry x (content_at s x) p at.index) (λ y among zy. (
          λ h. elim (cases_eq (home_index s.geometry y) (home_index s.geometry x)) [
            | inl same ↦ ap (λ n. get_or b.certain n false) same ∙ fresh
            | inr other ↦ get_or-set_other p.certain (index_of p (home_lba s.geometry x)) (home_index s.geometry y) false false (λ n. other (n ∙ at.index)) ∙ h
          ],
          λ h. begun_append (home_lba s.geometry y) p.begun _ h,
        )) in
        let is : port_of (with_port s z b) z ≡ b = port_is s z b (λ q zq. (let own = zone-queue s.geometry q x may.block (zone ∙ zq) in let n = f.ports in omega (arith, own, n))) in
        more_under e s x z b k.0 (under_at s x z b (λ none. ap (λ w. (port_of s w).stored_base) none) zone may k.1 is fresh (begun_new (home_lba s.geometry x) p.begun _ refl))

pub home_done_keeps : (e : Entries) (s : State) (x : ℕ) → Facts e s → is_among x s.writing ≡ true → Facts e (home_done x s)
home_done_keeps e s x f is = go (zone_of s.geometry x) refl
  where
    u : IsUnder s x
    u = f.writing x is

    before : State
    before = record s { writing = without x s.writing }

    fewer : Facts e (record s { writing = without x s.writing })
    fewer = under_keeps e s (without x s.writing) f (λ y h. f.writing y (without_among x s.writing y h).0)

    go : (z : Option ℕ) → zone_of s.geometry x ≡ z → Facts e (record (with_port s z (end_home s.geometry x (content_at s x) (port_of s z))) { writing = without x s.writing })
    go z zone =
        let at = stands_at e s x z f zone u.block in
        let p = port_of s z in
        let d = end_home s.geometry x (content_at s x) p in
        let free = exempt e (record s { writing = without x s.writing }) x fewer u.low u.settled_is in
        let k = home_keeps e (record s { writing = without x s.writing }) x z d.blocks d.certain d.begun d.begins zone u.block fewer free (else_end s.geometry x (content_at s x) p at.index) (λ y among zy. (
          λ h. get_or-set_other p.certain (index_of p (home_lba s.geometry x)) (home_index s.geometry y) true false (λ n. (without_among x s.writing y among).1 (home-apart s x y z zone zy (n ∙ at.index))) ∙ h,
          λ h. begun_left (home_lba s.geometry y) (home_lba s.geometry x) p.begun (λ n. (without_among x s.writing y among).1 (omega (arith, n))) h,
        )) in
        done z k.0
      where
        done : (w : Option ℕ) → Facts e (with_port (record s { writing = without x s.writing }) w (end_home s.geometry x (content_at s x) (port_of s w))) → Facts e (record (with_port s w (end_home s.geometry x (content_at s x) (port_of s w))) { writing = without x s.writing })
        done None g = g
        done (Some q) g = g

-- ---- bases

-- it is below the last change of each block with a home write under way
low_enough : (e : Entries) (s : State) (b x : ℕ) → Facts e s → MayStoreBase e s b → IsUnder s x → b < last s.base s.history x
low_enough e s b x f may u = elim (cases_lt b (last s.base s.history x)) [
  | inl above ↦ above
  | inr low ↦
      let base : s.base ≤ s.root.base = f.log.word_low in
      let o : s.root.base ≤ s.root.stored_base = f.root.bases.1 in
      let first : s.base < last s.base s.history x = (let l = u.low in omega (arith, base, o, l)) in
      let w = logged_value (start_map s.start) s.base x s.history f.log.numbers first u.logged in
      let there = sym (value_settled (start_map s.start) s.base b s.history x low) ∙ w.1 in
      let less = last_upto_le s.base (front_of s) s.history x f.log.numbers in
      let c = may.home x w.0 u.block there (omega (arith, less)) in
      absurd (false≢true (sym u.loose ∙ c.certain.certain))
]

pub store_base_keeps : (e : Entries) (s : State) (b : ℕ) → Facts e s → MayStoreBase e s b → Facts e (store_base b s)
store_base_keeps e s b f may =
    let o : s.root.base ≤ s.root.stored_base = f.root.bases.1 in
    let a = may.above in
    let w : (side_known e s).word ≤ s.root.base = f.root.bases.0 in
    let base : s.base ≤ s.root.base = f.log.word_low in
    record {
      log = f.log;
      plain = f.plain;
      ports = f.ports;
      sides = f.sides;
      root = record {
        port = record {
          queue = f.root.port.queue;
          area_first = f.root.port.area_first;
          area_size = f.root.port.area_size;
          homes_first = f.root.port.homes_first;
          homes_size = f.root.port.homes_size;
          flushed = f.root.port.flushed;
          staged = f.root.port.staged;
          blocks = f.root.port.blocks;
          certain = f.root.port.certain;
        };
        posted = f.root.posted;
        bases = (w, omega (arith, o, a));
        homes = λ y v content inside z due there m. absurd (false≢true due);
      };
      reached = may.reached;
      homes = λ x v content inside is there none.
          root_along (λ w. Certainly w (home_index s.geometry x) content) s (after_store_base s.root b) (zone_of s.geometry x) (λ z c. certainly_along s.root (after_store_base s.root b) (home_index s.geometry x) content (λ lba. refl) refl refl refl c) (elim is [
            | inl old ↦ f.homes x v content inside (inl old) there none
            | inr new ↦
                let there' : map_after (start_map s.start) (upto b s.history) x ≡ Some content = subst (λ n. map_after (start_map s.start) (upto n s.history) x ≡ Some content) new there in
                may.home x content inside there' (last_within s.base b (upto (front_of s) s.history) x (omega (arith, base, o, a)) (λ t ts at ch.
                let m = at_upto (front_of s) t ts s.history s.base f.log.numbers at in
                let l = none t ts m.0 (closure_front (is_done s.starts s.ports) s.base s.history t.number f.log.numbers m.1) ch in
                omega (arith, l, new)))
          ]);
      writing = λ x h.
          let u = f.writing x h in
          record {
            block = u.block;
            low = low_enough e s b x f may u;
            settled_is = u.settled_is;
            logged = u.logged;
            loose = root_along (λ w. get_or w.certain (home_index s.geometry x) false ≡ false) s (after_store_base s.root b) (zone_of s.geometry x) (λ z c. c) u.loose;
            begun = root_along (λ w. holds_write (home_lba s.geometry x) w.begun ≡ true) s (after_store_base s.root b) (zone_of s.geometry x) (λ z c. c) u.begun;
          };
      acknowledged = f.acknowledged;
    }

pub flush_base_keeps : (e : Entries) (s : State) → Facts e s → Facts e (flush_base s)
flush_base_keeps e s f =
    let k = side_known e s in
    let o : s.root.base ≤ s.root.stored_base = f.root.bases.1 in
    let w : k.word ≤ s.root.base = f.root.bases.0 in
    let up : k.word ≤ s.root.stored_base = omega (arith, o) in
    let top : s.root.stored_base ≤ front k = f.reached in
    record {
      log = log_based k (λ x v. false) s.root.stored_base f.log up top (λ x v d. absurd (false≢true d));
      plain = f.plain;
      ports = f.ports;
      sides = λ q own. side_based k (λ x v. false) s.root.stored_base f.log up top q (of_queue q s.history) (port_at s.ports q) (f.sides q own) (λ y v content inside z due there m. absurd (false≢true due));
      root = record {
        port = record {
          queue = f.root.port.queue;
          area_first = f.root.port.area_first;
          area_size = f.root.port.area_size;
          homes_first = f.root.port.homes_first;
          homes_size = f.root.port.homes_size;
          flushed = f.root.port.staged;
          staged = f.root.port.staged;
          blocks = f.root.port.blocks;
          certain = f.root.port.certain;
        };
        posted = f.root.posted;
        bases = (omega arith, omega arith);
        homes = λ y v content inside z due there m. absurd (false≢true due);
      };
      reached = f.reached;
      homes = λ x v content inside is there none.
          root_along (λ w. Certainly w (home_index s.geometry x) content) s (after_flush s.root) (zone_of s.geometry x) (λ z c. certainly_along s.root (after_flush s.root) (home_index s.geometry x) content (λ lba. refl) refl refl refl c) (f.homes x v content inside (elim is [ inl a ↦ inr a | inr a ↦ inr a ]) there none);
      writing = λ x h.
          let u = f.writing x h in
          record {
            block = u.block;
            low = u.low;
            settled_is = u.settled_is;
            logged = u.logged;
            loose = root_along (λ w. get_or w.certain (home_index s.geometry x) false ≡ false) s (after_flush s.root) (zone_of s.geometry x) (λ z c. c) u.loose;
            begun = root_along (λ w. holds_write (home_lba s.geometry x) w.begun ≡ true) s (after_flush s.root) (zone_of s.geometry x) (λ z c. c) u.begun;
          };
      acknowledged = f.acknowledged;
    }
