-- The base is raised.
use Rattle.std.proofs.Common.{◌≡◌, ℕ, ◌<◌, ◌≤◌, max, true, cond, List, [], ◌∷◌, sym, refl, ap, subst, ◌∙◌, inl, inr, arith}
use Rattle.std.specs.Prelude.{Bool, Some, Result, Ok, Err, OnOk, OnErr}
use Rattle.std.proofs.lemmas.Bool.{eq-eqb}
use Rattle.mq_blocks.specs.Drive.{PortState, IsBoundKept}
use Rattle.mq_desk_laws.specs.Bases.{BaseOk, RootStands}
use Rattle.mq_desk_laws.proofs.BasesRoots.{stands_flushed, stands_stored}
use Rattle.mq_drive.specs.Faults.{AreMore, count_of}
use Rattle.mq_drive.specs.Steps.{PortFault, Gains, PowerOff}
use Rattle.mq_drive.specs.declared.port.Off.{Off}
use Rattle.mq_drive.specs.declared.port.Port.{Ghosts}
use Rattle.mq_journal.specs.Numbers
use Rattle.mq_journal.specs.Numbers.{Seat, Shared, Start}
use Rattle.mq_journal.proofs.Sent.{gained_more, off_backed}
use Rattle.mq_ledger.specs.KnownJournal.{KnownJournal}
use Rattle.mq_pages.specs.declared.page.PageCell.{PageCell}
use Rattle.mq_desk_laws.specs.Groups.{GroupView}
use Rattle.mq_desk_laws.specs.Rule
use Rattle.mq_desk_laws.specs.Rule.{IsOk, IsPage, IsRoot}
use Rattle.mq_desk_laws.specs.Values.{Values}
use Rattle.mq_desk_laws.proofs.Faults.{charged_more}
use Rattle.mq_desk_laws.proofs.RuleTelling.{ok_raised, root_charged, root_raised}
use Rattle.mq_desk_laws.proofs.Meaning.{laws}
use Rattle.mq_queue_side.specs.Roots.{IsRaiseCut, after_raise}
use Rattle.mq_queue_side.specs.declared.answers.Cause.TheVariants as cause
use Rattle.mq_queue_side.specs.declared.root.Root.{Root}
use Rattle.mq_queue_side.specs.declared.side.QueueSide.{QueueSide}
use Rattle.mq_queue_side.proofs.DrainedCompletes.{bound_now, bound_then, gains_rises}
use Rattle.mq_turns.specs.Chairs.{giving, holding}
use Rattle.mq_turns.specs.Desk.{Sees, refreshed, slot_of, turn_at}
use Rattle.mq_turns.specs.Lists.{Each, times, without}
use Rattle.mq_turns.specs.Meaning.{Meaning, charged, raised}
use Rattle.mq_turns.specs.Words
use Rattle.mq_turns.specs.Words.{MayRaise, after_notice, same_turn}
use Rattle.mq_turns.specs.declared.rule.Charge.{Charge}
use Rattle.mq_turns.specs.declared.rule.Known.{Known}
use Rattle.mq_turns.specs.declared.rule.Notice.TheVariants as notice
use Rattle.mq_turns.specs.declared.rule.Report.TheVariants as report
use Rattle.mq_turns.specs.declared.turn.Item.TheVariants as item
use Rattle.mq_turns.specs.declared.turn.Turn.TheVariants as turn
use Rattle.mq_turns.proofs.Lists.{hit}
use Rattle.mq_turns.proofs.DeskSeen.{opening_seen, sees_before, stands_held, stands_renewed}
use Rattle.mq_turns.proofs.DeskSlots.{turn_at_slot}
use Rattle.mq_journal.specs.Ports.{IsCharged, charge_of}
use Rattle.mq_journal.specs.Raised.{HasRaised, IsStored, KeepsStanding}
use Rattle.mq_journal.specs.Steps.{IsRefusedBy, at_root}
use Rattle.mq_journal.proofs.RaisedHomeSide.{backed_by}
use Rattle.mq_journal.proofs.PagesHomeViews.{known_seen}
use Rattle.mq_journal.proofs.Steps.{moves_report}

-- ---- the root's port

stands_raised : (old : PortState) (base : ℕ) (k : KnownJournal) → BaseOk k base → RootStands k old → RootStands k (after_raise old (max base old.stored_base))
stands_raised old base k ok stood = stands_flushed k _ (stands_stored k old base stood ok)

stands_cut : (old new : PortState) (base : ℕ) → IsRaiseCut old (max base old.stored_base) new → KeepsStanding base old new
stands_cut old new base (inl is) = record {
  stands = λ k ok stood. subst (RootStands k) (sym is) stood;
  bound = subst (IsBoundKept old) (sym is) (bound_now old);
}
stands_cut old new base (inr is) = record {
  stands = λ k ok stood. subst (RootStands k) (sym is) (stands_stored k old base stood ok);
  bound = subst (IsBoundKept old) (sym is) (record { fuse = refl; fail = refl });
}

pub stands_after : (old new : PortState) (base m : ℕ) (r : Result (Unit {0}) Off) → m ≡ max base old.stored_base → OnOk r (new ≡ after_raise old m) → OnErr r (IsRaiseCut old m new) → KeepsStanding base old new
stands_after old new base m (Ok x) is done cut = record {
  stands = λ k ok stood. subst (RootStands k) (sym (done ∙ ap (after_raise old) is)) (stands_raised old base k ok stood);
  bound = subst (IsBoundKept old) (sym done) (record { fuse = refl; fail = refl });
}
stands_after old new base m (Err e) is done cut = stands_cut old new base (subst (λ n. IsRaiseCut old n new) is cut)

pub raised_after : {P : Type 0} {G : Ghosts P} (state : P → PortState) (s u : Root P G) (base m : ℕ) (r : Result (Unit {0}) Off) → m ≡ max base (state s.port).stored_base → (state s.port).base < base → OnOk r (state u.port ≡ after_raise (state s.port) m) → OnOk r (HasRaised state (state u.port).base s u)
raised_after state s u base m (Ok x) is below done =
    let now : (state u.port).base ≡ m = ap (λ (p : PortState). p.base) done in
    inr (omega arith, done ∙ ap (after_raise (state s.port)) (sym now))
raised_after state s u base m (Err e) is below done = tt

-- ---- the root is taken by a session that holds nothing

gone : {P Q R E : Type 0} (slot : ℕ) (f : ℕ → Bool) (L K : Known P Q R E) (held : List (ℕ × Known P Q R E)) → held ≡ [] → without slot (refreshed f L ((slot, K) ∷ held)) ≡ held
gone slot f L K held none = subst (λ l. without slot (refreshed f L ((slot, K) ∷ l)) ≡ l) (sym none) (ap (λ y. cond y [] ((slot, cond (f slot) L K) ∷ [])) (eq-eqb slot slot refl))

module _ {P E : Type 0} {G : Ghosts P} (state : P → PortState) (faults : P → List PortFault) (group : GroupView E)
    (o : Start P E G) (v v1 : Seat P E G) (opening : v.opening ≡ Some o) (idle : v.held ≡ []) (K1 : Shared P E G) (took : v1 ≡ holding (slot_of o turn.Root) K1 v) (sees1 : Sees (Numbers.machine state faults group) v K1)
    (s u : Root P G) (is : IsRoot (Numbers.values {P = P} {E = E} {G = G} state faults group) group K1 s) (base : ℕ) (stands : KeepsStanding base (state s.port) (state u.port))
    (bases : (K : Shared P E G) → Sees (Numbers.machine state faults group) v K → BaseOk (Rule.core_of (Numbers.values {P = P} {E = E} {G = G} state faults group) group K) base) where
  abbrev values : Values (QueueSide P E G) (Root P G) E
  values = Numbers.values state faults group

  abbrev μ : Meaning PageCell (QueueSide P E G) (Root P G) E
  μ = Numbers.machine state faults group

  abbrev slot : ℕ
  slot = slot_of o turn.Root

  held_is : v1.held ≡ (slot, K1) ∷ []
  held_is = ap (λ (w : Seat P E G). w.held) took ∙ ap (λ l. (slot, K1) ∷ l) idle

  opening_is : v1.opening ≡ Some o
  opening_is = ap (λ (w : Seat P E G). w.opening) took ∙ opening

  pub holds : 0 < times slot v1.held
  holds = subst (λ l. 0 < times slot l) (sym held_is) (let a = hit slot slot refl in omega arith)

  before : (K : Shared P E G) → Sees μ v1 K → Sees μ v K
  before K sees = sees_before μ slot K1 K v (subst (λ w. Sees μ w K) took sees)

  root_now : (K : Shared P E G) → Sees μ v1 K → IsRoot values group K s
  root_now K sees =
      stands_held {M = ℕ} μ (laws values group) o turn.Root v1 (item.Root s) opening_is tt holds
      (subst (Each (λ y. y.0 ≡ slot → IsRoot values group y.1 s)) (sym held_is) ((λ e. is), tt)) K sees

  -- with the base stored, or not, the root is what the rule says, whatever is known by now
  root_after : AreMore (faults s.port) (faults u.port) → (K : Shared P E G) → Sees μ v1 K → IsRoot values group K u
  root_after more K sees =
      let was = root_now K sees in
      record {
        says = tt;
        port = stands.stands (Rule.core_of values group K) (bases K (before K sees)) was.port;
        bound = bound_then (state K.opening.root.port) (state s.port) (state u.port) was.bound stands.bound;
        charged = charged_more (Rule.geometry_of values group K) turn.Root K.charges (faults K.opening.root.port) (faults s.port) (faults u.port) more was.charged;
      }

  same_more : faults u.port ≡ faults s.port → AreMore (faults s.port) (faults u.port)
  same_more same f = let e : count_of f (faults u.port) ≡ count_of f (faults s.port) = ap (count_of f) same in omega arith

  -- ---- the base word is raised

  module _ (same : faults u.port ≡ faults s.port) (b : ℕ) (b_is : b ≡ (state u.port).base) where
    pub may_raise : MayRaise μ b v1
    may_raise K sees =
        let now = root_after (same_more same) K sees in
        let up : K.word ≤ b = let l = now.port.port.bases.0 in omega arith in
        (up, ok_raised values group b K sees.ok (subst (BaseOk (Rule.core_of values group K)) (sym b_is) now.port.flushed) up)

    module _ (K3 : Shared P E G) (v2 : Seat P E G) (was : v2 ≡ Words.after_raise b K3 v1) (sees3 : Sees μ v1 K3) where
      up3 : K3.word ≤ b
      up3 = (may_raise K3 sees3).0

      root_then : IsRoot values group (raised b K3) u
      root_then = root_raised values group b K3 u sees3.ok (root_after (same_more same) K3 sees3) up3 (omega arith)

      pub raised_root : (K : Shared P E G) → Sees μ v2 K → IsRoot values group K u
      raised_root K sees =
          let start = opening_seen μ o K3 v1 opening_is sees3 in
          let there = turn_at_slot o turn.Root tt in
          let mine : same_turn turn.Root (turn_at K3.opening slot) ≡ true = ap (λ z. same_turn turn.Root (turn_at z slot)) start ∙ ap (same_turn turn.Root) there in
          let now = opening_seen μ o K v2 (ap (λ (w : Seat P E G). w.opening) was ∙ opening_is) sees in
          stands_renewed {M = ℕ} μ (laws values group) (λ k. same_turn turn.Root (turn_at K3.opening k)) (raised b K3) K v1 v2 turn.Root slot (item.Root u) (ap (λ (w : Seat P E G). w.held) was) mine holds (ap (λ z. turn_at z slot) now ∙ there) sees root_then

      pub stored_base : (w : Seat P E G) → w ≡ giving slot v2 → HasRaised state (state u.port).base s u → IsStored state faults group b v w
      stored_base w gave raise =
          let whole : w ≡ giving slot (Words.after_raise b K3 (holding slot K1 v)) = gave ∙ (ap (giving slot) was ∙ ap (λ z. giving slot (Words.after_raise b K3 z)) took) in
          let rest = gone slot (λ k. same_turn turn.Root (turn_at K3.opening k)) (raised b K3) K1 v.held idle in
          record {
            raised_to = record {
              taken = K1;
              from = known_seen state faults group v K1 sees1;
              before = s;
              lay = is;
              known = K3;
              since = known_seen state faults group v K3 (before K3 sees3);
              ok = (may_raise K3 sees3).1;
              root = u;
              raise = subst (λ n. HasRaised state n s u) (sym b_is) raise;
              flushed = sym b_is;
              stood = root_then;
            };
            is = whole ∙ ap (λ h. record v { hand = 0; held = h; reading = record v.reading { base = b } }) rest;
          }

  -- ---- or its port refused

  abbrev off_charge : Charge
  off_charge = charge_of turn.Root cause.Off

  module _ (gains : Gains PowerOff (faults s.port) (faults u.port)) where
    pub off_root : (K : Shared P E G) → Sees μ v1 K → IsRoot values group (charged off_charge K) u
    off_root K sees =
        root_charged values group off_charge K s u refl (root_after (gained_more (faults s.port) (faults u.port) PowerOff gains) K sees) (root_now K sees).charged
        (backed_by (Rule.geometry_of values group K) turn.Root K.charges (faults K.opening.root.port) (faults s.port) (faults u.port) report.Off PowerOff (off_backed (Rule.geometry_of values group K)) gains (root_now K sees).charged)

    module _ (w : Seat P E G) (n : IsCharged state faults group o off_charge v1 w) where
      whole : w ≡ giving slot (after_notice μ (notice.Charge off_charge) n.known (holding slot K1 v))
      whole = n.is ∙ ap (λ z. giving slot (after_notice μ (notice.Charge off_charge) n.known z)) took

      pub off_refused : IsRefusedBy state faults group [] cause.Off v w
      off_refused = record {
        port = turn.Root;
        moves = moves_report v w 0 _ off_charge whole;
        caused = at_root K1 s u tt (known_seen state faults group v K1 sees1) is (gains_rises PowerOff (faults s.port) (faults u.port) gains);
      }
