-- A base may be stored exactly where no posted command writes a block that is due, and each such block
-- holds at home what is due there.
use Rattle.std.proofs.Common.{◌≡◌, ℕ, suc, zero, ◌-◌, ◌*◌, ◌%◌, ◌<◌, ◌≤◌, true, false, Bool, List, [], ◌∷◌, length, Option, Some, None, sym, refl, ap, subst, ◌∙◌, inl, inr, arith, is_some, eqb}
use Rattle.std.proofs.lemmas.Bool.{cases_Bool, cases_lt, lt-ltb, le-ltb, le-leb, lt-leb, eq-eqb, false≢true}
use Rattle.std.proofs.lemmas.Nat.{mod_below}
use Rattle.mq_blocks.specs.Drive.{PortState, IsApartFrom, index_of}
use Rattle.mq_blocks.specs.Geometry.{homes_of, zone_of, home_lba, area_lba}
use Rattle.mq_blocks.specs.declared.command.Command.{Command}
use Rattle.mq_blocks.specs.declared.geometry.Geometry.{Geometry}
use Rattle.mq_ledger.specs.History.{map_after, last, upto}
use Rattle.mq_ledger.specs.Items.{Entries, Target, AtPlace, AtHome, lba_of, command_of, item_at}
use Rattle.mq_ledger.specs.KnownJournal.{KnownJournal}
use Rattle.mq_ledger.specs.Plain.{plain}
use Rattle.mq_ledger.specs.Sides.{AreOwn, Certainly, holds_count, home_index}
use Rattle.mq_ledger.specs.State.{State, front_of, from_at, port_at, port_of, start_map}
use Rattle.mq_ledger.specs.declared.tx.Tx.{Tx}
use Rattle.mq_ledger.proofs.History.{value_settled, upto-upto}
use Rattle.mq_core.specs.Bases.{due_at, home_of, is_due, writes_none, post_none, Holds}
use Rattle.mq_core.specs.Events.{MayStoreBase, us_of, command_with}
use Rattle.mq_core.proofs.SidesCommands.{own_with, apart_own, apart_with}
use Rattle.mq_core.proofs.EventsPorts.{index-place, index-zone, index-root, zone-apart, row-below}
use Rattle.mq_core.proofs.EventsSideCommands.{IsLate, posted_late, late_direct}
use Rattle.mq_core.proofs.KnownJournalSources.{direct-zone}
use Rattle.mq_core.proofs.StateEvents.{zone-queue}
use Rattle.mq_core.proofs.StateSides.{HasSides, known_with}

-- a block that is due
pub record IsDue (s : State) (b x : ℕ) (content : List ℕ) : Type 0 where
  pub block : x < homes_of s.geometry
  pub kept : last s.base (upto (front_of s) s.history) x ≤ b
  pub there : map_after (start_map s.start) (upto (front_of s) s.history) x ≡ Some content

none≢some : {A B : Type 0} {x : A} → None ≡ Some x → B
none≢some e = cc

due_is : (s : State) (b x : ℕ) (content : List ℕ) → due_at s b x ≡ Some content → IsDue s b x content
due_is s b x content e = elim (cases_lt x (homes_of s.geometry)) [
  | inr past ↦ none≢some (rw (le-ltb _ _ past) at e)
  | inl inside ↦ (let e' = rw (lt-ltb _ _ inside) at e in elim (cases_lt b (last s.base (upto (front_of s) s.history) x)) [
    | inl later ↦ none≢some (rw (lt-leb _ _ later) at e')
    | inr kept ↦ record { block = inside; kept = kept; there = rw (le-leb _ _ kept) at e' }
  ])
]

is_due-at : (s : State) (b x : ℕ) (content : List ℕ) → IsDue s b x content → due_at s b x ≡ Some content
is_due-at s b x content d = rw (lt-ltb _ _ d.block, le-leb _ _ d.kept) d.there

-- what a command of a queue writes
home-place : (g : Geometry) (q place : ℕ) (c : Command) → q < g.queues → c.lba ≡ area_lba g q place → home_of g c ≡ None
home-place g q place c own is =
    let size = g.area_low in
    let small : place % g.area < g.area = mod_below place g.area (omega arith) in
    let room = row-below q g.queues g.area (place % g.area) own small in
    rw (lt-ltb c.lba (g.queues * g.area) (omega (arith, is))) refl

home-home : (g : Geometry) (x : ℕ) (c : Command) → c.lba ≡ home_lba g x → home_of g c ≡ Some x
home-home g x c is =
    let back : c.lba - g.queues * g.area ≡ x = omega (arith, is) in
    rw (le-ltb c.lba (g.queues * g.area) (omega (arith, is))) (ap Some back)

-- none of the commands of a list, by their counts
none_with : (s : State) (b n : ℕ) (cs : List Command) → writes_none s b cs ≡ true → holds_count n cs ≡ true → is_due s b (home_of s.geometry (command_with n cs)) ≡ false
none_with s b n [] none held = absurd (false≢true held)
none_with s b n (c ∷ cs) none held = elim (cases_Bool (is_due s b (home_of s.geometry c))) [
  | inl due ↦ absurd (false≢true (rw due at none))
  | inr not ↦ (let rest = rw not at none in elim (cases_Bool (eqb c.count n)) [
    | inl same ↦ rw same not
    | inr other ↦ rw other (none_with s b n cs rest (rw other at held))
  ])
]

none_own : (entries : Entries) (s : State) (b q from : ℕ) (txs : List Tx) (cs : List Command) → AreOwn entries.form s.geometry q from txs cs → ((n : ℕ) → holds_count n cs ≡ true → is_due s b (home_of s.geometry (command_of entries.form s.geometry q n (item_at from txs n))) ≡ false) → writes_none s b cs ≡ true
none_own entries s b q from txs [] own each = refl
none_own entries s b q from txs (c ∷ cs) own each =
    let here : is_due s b (home_of s.geometry c) ≡ false = ap (λ (d : Command). is_due s b (home_of s.geometry d)) own.0 ∙ each c.count (rw (eq-eqb c.count c.count refl) refl) in
    rw here (none_own entries s b q from txs cs own.1 (λ n held. each n (behind n held)))
  where
    behind : (n : ℕ) → holds_count n cs ≡ true → holds_count n (c ∷ cs) ≡ true
    behind n held = elim (cases_Bool (eqb c.count n)) [
      | inl e ↦ rw e refl
      | inr e ↦ rw e held
    ]

-- the ports, one by one
pub post_none-at : (s : State) (b q : ℕ) (ports : List PortState) → post_none s b ports ≡ true → q < length ports → writes_none s b (port_at ports q).posted ≡ true
post_none-at s b q [] none inside = absurd (omega arith)
post_none-at s b zero (p ∷ ps) none inside = elim (cases_Bool (writes_none s b p.posted)) [
  | inr some ↦ absurd (false≢true (rw some at none))
  | inl here ↦ here
]
post_none-at s b (suc q) (p ∷ ps) none inside = elim (cases_Bool (writes_none s b p.posted)) [
  | inr some ↦ absurd (false≢true (rw some at none))
  | inl here ↦ post_none-at s b q ps (rw here at none) (omega arith)
]

pub post_none-each : (s : State) (b : ℕ) (ports : List PortState) → ((q : ℕ) → q < length ports → writes_none s b (port_at ports q).posted ≡ true) → post_none s b ports ≡ true
post_none-each s b [] each = refl
post_none-each s b (p ∷ ps) each = rw (each zero (omega arith)) (post_none-each s b ps (λ q inside. each (suc q) (omega arith)))

module _ {entries : Entries} {due : ℕ → ℕ → Bool} (s : State) (f : HasSides entries due s) (b : ℕ) (reached : b ≤ front_of s) where
  abbrev k : KnownJournal
  k = known_with entries due s

  -- what a late entry of a queue writes to the home block x
  writes_home : (q n x : ℕ) → (own : q < s.geometry.queues) → IsLate k q (us_of s q) (port_at s.ports q) f.log (f.sides q own) n → zone_of s.geometry x ≡ Some q → index_of (port_at s.ports q) (lba_of s.geometry q (item_at (from_at s.starts q) (us_of s q) n).target) ≡ home_index s.geometry x
      → (item_at (from_at s.starts q) (us_of s q) n).target ≡ AtHome x
  writes_home q n x own late zone same = go (item_at (from_at s.starts q) (us_of s q) n).target refl
    where
      p : PortState
      p = port_at s.ports q

      go : (target : Target) → (item_at (from_at s.starts q) (us_of s q) n).target ≡ target → (item_at (from_at s.starts q) (us_of s q) n).target ≡ AtHome x
      go (AtPlace r) e =
          let i = index-place s.geometry q r (port_at s.ports q) (f.sides q own).port own in
          let j = index-zone s.geometry q x (port_at s.ports q) (f.sides q own).port zone in
          let same' = rw e at same in
          absurd (omega (arith, i.0, i.1, j.1))
      go (AtHome y) e =
          let z = direct-zone k q (us_of s q) n y f.log (late_direct k q (us_of s q) (port_at s.ports q) f.log (f.sides q own) n y late e) in
          let i = index-zone s.geometry q y (port_at s.ports q) (f.sides q own).port z.0 in
          let same' = rw e at same in
          e ∙ ap AtHome (zone-apart s.geometry q y x z.0 zone (sym i.0 ∙ same'))

  -- a due block that holds its content, where no posted command writes one
  pub home_kept : post_none s b s.ports ≡ true → (x : ℕ) (content : List ℕ) → due_at s b x ≡ Some content → Holds (port_of s (zone_of s.geometry x)) (home_lba s.geometry x) content → Certainly (port_of s (zone_of s.geometry x)) (home_index s.geometry x) content
  home_kept none x content due holds = go (zone_of s.geometry x) refl holds
    where
      inside : x < homes_of s.geometry
      inside = (due_is s b x content due).block

      go : (z : Option ℕ) → zone_of s.geometry x ≡ z → Holds (port_of s z) (home_lba s.geometry x) content → Certainly (port_of s z) (home_index s.geometry x) content
      go None zone h =
          let at = (index-root s.geometry x s.root f.root.port zone inside).0 in
          record {
            certain = record { certain = rw at at h.certain; apart = subst (λ cs. IsApartFrom s.root (home_index s.geometry x) cs) (sym f.root.posted) tt };
            is = rw at at h.is;
          }
      go (Some q) zone h =
          let own = zone-queue s.geometry q x inside zone in
          let side = f.sides q own in
          let p = port_at s.ports q in
          let at = (index-zone s.geometry q x p side.port zone).0 in
          let clear = post_none-at s b q s.ports none (omega (arith, own, f.ports)) in
          record {
            certain = record {
              certain = rw at at h.certain;
              apart = apart_own entries.form p s.geometry q (from_at s.starts q) (us_of s q) (home_index s.geometry x) p.posted side.commands.posted (λ n held same.
                  let late = posted_late k q (us_of s q) p f.log side n held in
                  let to = writes_home q n x own late.0 zone same in
                  let is : home_of s.geometry (command_with n p.posted) ≡ Some x = home-home s.geometry x (command_with n p.posted) (ap (λ (c : Command). c.lba) (own_with entries.form s.geometry q (from_at s.starts q) n (us_of s q) p.posted side.commands.posted held) ∙ ap (lba_of s.geometry q) to) in
                  let not = none_with s b n p.posted clear held in
                  false≢true (sym not ∙ ap (is_due s b) is ∙ ap is_some due));
            };
            is = rw at at h.is;
          }

  -- it may be stored
  pub tests_allow : s.root.stored_base ≤ b → post_none s b s.ports ≡ true → ((x : ℕ) (content : List ℕ) → x < homes_of s.geometry → due_at s b x ≡ Some content → Holds (port_of s (zone_of s.geometry x)) (home_lba s.geometry x) content) → MayStoreBase plain s b
  tests_allow above none home =
      record {
        above = above;
        reached = reached;
        home = λ x content inside there kept.
            let low : last s.base (upto (front_of s) s.history) x ≤ b = kept in
            let now : map_after (start_map s.start) (upto (front_of s) s.history) x ≡ Some content = value_settled (start_map s.start) s.base b (upto (front_of s) s.history) x low ∙ ap (λ h. map_after (start_map s.start) h x) (upto-upto b (front_of s) s.history reached) ∙ there in
            let due = is_due-at s b x content (record { block = inside; kept = low; there = now }) in
            home_kept none x content due (home x content inside due);
      }

  -- what is due is certainly at home
  due_kept : MayStoreBase plain s b → (x : ℕ) (content : List ℕ) → due_at s b x ≡ Some content → Certainly (port_of s (zone_of s.geometry x)) (home_index s.geometry x) content
  due_kept may x content due =
      let d = due_is s b x content due in
      let then : map_after (start_map s.start) (upto b s.history) x ≡ Some content = ap (λ h. map_after (start_map s.start) h x) (sym (upto-upto b (front_of s) s.history reached)) ∙ sym (value_settled (start_map s.start) s.base b (upto (front_of s) s.history) x d.kept) ∙ d.there in
      may.home x content d.block then d.kept

  pub allowed_holds : MayStoreBase plain s b → (x : ℕ) (content : List ℕ) → x < homes_of s.geometry → due_at s b x ≡ Some content → Holds (port_of s (zone_of s.geometry x)) (home_lba s.geometry x) content
  allowed_holds may x content inside due = go (zone_of s.geometry x) refl (due_kept may x content due)
    where
      go : (z : Option ℕ) → zone_of s.geometry x ≡ z → Certainly (port_of s z) (home_index s.geometry x) content → Holds (port_of s z) (home_lba s.geometry x) content
      go None zone c =
          let at = (index-root s.geometry x s.root f.root.port zone inside).0 in
          record { certain = rw at c.certain.certain; is = rw at c.is }
      go (Some q) zone c =
          let own = zone-queue s.geometry q x inside zone in
          let at = (index-zone s.geometry q x (port_at s.ports q) (f.sides q own).port zone).0 in
          record { certain = rw at c.certain.certain; is = rw at c.is }

  pub allowed_none : MayStoreBase plain s b → post_none s b s.ports ≡ true
  allowed_none may = post_none-each s b s.ports (λ q inside.
      let own : q < s.geometry.queues = omega (arith, inside, f.ports) in
      let side = f.sides q own in
      let p = port_at s.ports q in
      none_own entries s b q (from_at s.starts q) (us_of s q) p.posted side.commands.posted (λ n held. not_due q own n held))
    where
      not_due : (q : ℕ) (own : q < s.geometry.queues) (n : ℕ) → holds_count n (port_at s.ports q).posted ≡ true → is_due s b (home_of s.geometry (command_of entries.form s.geometry q n (item_at (from_at s.starts q) (us_of s q) n))) ≡ false
      not_due q own n held = go (item_at (from_at s.starts q) (us_of s q) n).target refl
        where
          p : PortState
          p = port_at s.ports q

          go : (target : Target) → (item_at (from_at s.starts q) (us_of s q) n).target ≡ target → is_due s b (home_of s.geometry (command_of entries.form s.geometry q n (item_at (from_at s.starts q) (us_of s q) n))) ≡ false
          go (AtPlace r) e = ap (is_due s b) (home-place s.geometry q r (command_of entries.form s.geometry q n (item_at (from_at s.starts q) (us_of s q) n)) own (ap (lba_of s.geometry q) e))
          go (AtHome y) e = ap (is_due s b) (home-home s.geometry y (command_of entries.form s.geometry q n (item_at (from_at s.starts q) (us_of s q) n)) (ap (lba_of s.geometry q) e)) ∙ none (due_at s b y) refl
            where
              none : (o : Option (List ℕ)) → due_at s b y ≡ o → is_some o ≡ false
              none None due = refl
              none (Some content) due =
                  let side = f.sides q own in
                  let late = posted_late k q (us_of s q) p f.log side n held in
                  let z = (direct-zone k q (us_of s q) n y f.log (late_direct k q (us_of s q) p f.log side n y late.0 e)).0 in
                  let kept : Certainly p (home_index s.geometry y) content = subst (λ w. Certainly (port_of s w) (home_index s.geometry y) content) z (due_kept may y content due) in
                  let lba : (command_with n p.posted).lba ≡ home_lba s.geometry y = ap (λ (c : Command). c.lba) (own_with entries.form s.geometry q (from_at s.starts q) n (us_of s q) p.posted side.commands.posted held) ∙ ap (lba_of s.geometry q) e in
                  absurd (apart_with p (home_index s.geometry y) n p.posted kept.certain.apart held (ap (index_of p) lba ∙ (index-zone s.geometry q y p side.port z).0))
