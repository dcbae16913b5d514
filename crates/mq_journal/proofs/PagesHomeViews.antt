-- A session that holds a page takes the port of its block, writes the page home by it, notes that or reports
-- of the port, and gives the port back.
use Rattle.std.proofs.Common.{◌≡◌, ◌≢◌, ℕ, ◌==◌, ◌<◌, ◌≤◌, true, false, cond, List, [], ◌∷◌, length, Option, sym, refl, ap, subst, ◌∙◌, arith}
use Rattle.std.specs.Prelude.{None, Some, Result, Ok, Err}
use Rattle.std.proofs.lemmas.Bool.{eq-eqb, eqb-true, false≢true, ne_eqb}
use Rattle.mq_blocks.specs.Drive.{PortState}
use Rattle.mq_blocks.specs.Geometry.{homes_of, home_lba, queues_of, zone_of}
use Rattle.mq_blocks.specs.declared.geometry.Geometry.{Geometry}
use Rattle.mq_desk_laws.specs.Pages.{IsToBring}
use Rattle.mq_core.proofs.StateEvents.{zone-queue}
use Rattle.mq_drive.specs.Steps.{PortFault}
use Rattle.mq_drive.specs.declared.port.HomeStep.{HomeStep}
use Rattle.mq_drive.specs.declared.port.Off.{Off}
use Rattle.mq_drive.specs.declared.port.Port.{Ghosts}
use Rattle.mq_journal.specs.Numbers
use Rattle.mq_journal.specs.Numbers.{Seat, Shared, Start}
use Rattle.mq_journal.proofs.DrainingRefusing.{taken_seen}
use Rattle.mq_ledger.specs.KnownJournal.{front}
use Rattle.mq_pages.specs.declared.page.PageCell.{PageCell}
use Rattle.mq_desk_laws.specs.Groups.{GroupView}
use Rattle.mq_desk_laws.specs.Rule
use Rattle.mq_desk_laws.specs.Rule.{IsPage, IsPortTurn, same_port}
use Rattle.mq_desk_laws.specs.Values.{Values}
use Rattle.mq_desk_laws.proofs.FaultsAdded.{same_port-same}
use Rattle.mq_desk_laws.proofs.RuleSettled.{front_claimed}
use Rattle.mq_desk_laws.proofs.RuleTelling.{ok_written, page_waits, page_written}
use Rattle.mq_desk_laws.proofs.Meaning.{laws}
use Rattle.mq_queue_side.specs.declared.answers.Cause.{Cause}
use Rattle.mq_queue_side.specs.declared.root.Root.{Root}
use Rattle.mq_queue_side.specs.declared.side.QueueSide.{QueueSide}
use Rattle.mq_turns.specs.Chairs.{giving, holding}
use Rattle.mq_turns.specs.Desk.{IsTurn, Sees, Stands, refreshed, slot_of, turn_at}
use Rattle.mq_turns.specs.Lists.{Each, times, without}
use Rattle.mq_turns.specs.Meaning.{Meaning, charged, written}
use Rattle.mq_turns.specs.Words.{MayNote, after_notice, same_turn}
use Rattle.mq_turns.specs.declared.rule.Notice.TheVariants as notice
use Rattle.mq_turns.specs.declared.rule.Opening.{Opening}
use Rattle.mq_turns.specs.declared.turn.Item.{Item}
use Rattle.mq_turns.specs.declared.turn.Item.TheVariants as item
use Rattle.mq_turns.specs.declared.turn.Turn.{Turn}
use Rattle.mq_turns.specs.declared.turn.Turn.TheVariants.{Page, Side}
use Rattle.mq_turns.specs.declared.turn.Turn.TheVariants as turn
use Rattle.mq_turns.proofs.Lists.{hit}
use Rattle.mq_turns.proofs.DeskSeen.{opening_seen, sees_before, stands_held}
use Rattle.mq_turns.proofs.DeskSlots.{turn_at_slot}
use Rattle.mq_journal.specs.Pages.{HoldsOnlyPage, IsDue, at_home}
use Rattle.mq_journal.specs.Ports.{IsCharged, IsHomeOf, ShowsCharge, WritesHome, answer_of, charge_of, port_of}
use Rattle.mq_journal.specs.Steps.{IsCaused, IsKnownFrom, IsRefusedBy, MovesOn}
use Rattle.mq_journal.proofs.RaisedHomeSide.{port_caused, port_home, port_refused, port_written}
use Rattle.mq_journal.proofs.Steps.{moves_report, moves_turn}

-- ---- the turn of the port that has a zone

is_port : (z : Option ℕ) (r : ℕ) → same_port z (Some r) ≡ true → Side r ≡ port_of z
is_port (Some q) r e = ap Side (sym (eqb-true q r e))
is_port None r e = absurd (false≢true e)

is_root : (z : Option ℕ) → same_port z None ≡ true → turn.Root ≡ port_of z
is_root (Some q) e = absurd (false≢true e)
is_root None e = refl

not_page : (z : Option ℕ) (b : ℕ) → same_turn (port_of z) (Page b) ≡ false
not_page (Some q) b = refl
not_page None b = refl

-- it is one of the desk's, and comes after those of all pages
port_turn : (n : ℕ) (g : Geometry) (b : ℕ) → n ≡ queues_of g → b < homes_of g → (z : Option ℕ) → zone_of g b ≡ z → IsPortTurn n (port_of z)
port_turn n g b sides inside (Some q) zone = let low = zone-queue g q b inside zone in omega arith
port_turn n g b sides inside None zone = tt

pub is_turn : {P Q R : Type 0} (o : Opening P Q R) (t : Turn) → IsPortTurn (length o.sides) t → IsTurn o t
is_turn o (Page b) port = absurd port
is_turn o (Side q) port = port
is_turn o turn.Root port = tt

after_pages : {P Q R : Type 0} (o : Opening P Q R) (b : ℕ) (t : Turn) → b < length o.pages → IsPortTurn (length o.sides) t → b < slot_of o t
after_pages o b (Page x) low port = absurd port
after_pages o b (Side q) low port = omega arith
after_pages o b turn.Root low port = omega arith

module _ {P E : Type 0} {G : Ghosts P} (state : P → PortState) (faults : P → List PortFault) (group : GroupView E) where
  abbrev values : Values (QueueSide P E G) (Root P G) E
  values = Numbers.values state faults group

  abbrev μ : Meaning PageCell (QueueSide P E G) (Root P G) E
  μ = Numbers.machine state faults group

  -- what the session knows to be done is not above the front
  pub done_front : (v : Seat P E G) (K : Shared P E G) (n : ℕ) → Sees μ v K → n ≤ v.reading.done → n ≤ front (Rule.core_of values group K)
  done_front v K n sees le = front_claimed values group n K sees.ok (let l = sees.reader.last in omega arith) (λ m e at low. sees.reader.done m e at (omega arith))

  -- the cell in hand is what the rule says, whatever is known by now
  pub page_seen : (o : Start P E G) (b : ℕ) (c : PageCell) (v : Seat P E G) → v.opening ≡ Some o → HoldsOnlyPage state faults group o b c v → (K : Shared P E G) → Sees μ v K → IsPage values group b K c
  page_seen o b c v opening h K sees =
      stands_held {M = ℕ} μ (laws values group) o (Page b) v (item.Page c) opening h.turn
      (subst (λ l. 0 < times b l) (sym h.held) (let z = hit b b refl in omega arith))
      (subst (Each (λ x. x.0 ≡ b → IsPage values group b x.1 c)) (sym h.held) ((λ e. h.is), tt)) K sees

  pub bring_seen : (o : Start P E G) (b : ℕ) (c : PageCell) (v : Seat P E G) → v.opening ≡ Some o → HoldsOnlyPage state faults group o b c v → IsDue c v → (K : Shared P E G) → Sees μ v K → IsToBring (Rule.core_of values group K) K.ended b c.version c.last_logged c.home_version
  bring_seen o b c v opening h due K sees = page_waits values group b K c (page_seen o b c v opening h K sees) due.last due.waits (done_front v K c.version sees due.done)

  pub known_seen : (v : Seat P E G) (K : Shared P E G) → Sees μ v K → IsKnownFrom state faults group v K
  known_seen v K sees = record { opening = sees.opening; ok = sees.ok; seen = sees.seen; drew = sees.drew }

  -- ---- the session holds the page of the block alone, and this is the turn of the block's port

  pub record HasPage (o : Start P E G) (b : ℕ) (c : PageCell) (g : Geometry) (t : Turn) (v : Seat P E G) : Type 0 where
    pub opening : v.opening ≡ Some o
    pub page : HoldsOnlyPage state faults group o b c v
    pub shape : g ≡ Rule.shape_of values group o
    pub inside : b < homes_of g
    pub zone : t ≡ port_of (zone_of g b)
    pub port : IsPortTurn (length o.sides) t

  pub has_page : (o : Start P E G) (b : ℕ) (c : PageCell) (g : Geometry) (t : Turn) (v : Seat P E G) → v.opening ≡ Some o → HoldsOnlyPage state faults group o b c v → g ≡ Rule.shape_of values group o → length o.sides ≡ queues_of g → b < homes_of g → t ≡ port_of (zone_of g b) → HasPage o b c g t v
  has_page o b c g t v opening page shape sides inside zone = record {
    opening = opening;
    page = page;
    shape = shape;
    inside = inside;
    zone = zone;
    port = subst (IsPortTurn (length o.sides)) (sym zone) (port_turn (length o.sides) g b sides inside (zone_of g b) refl);
  }

  module _ {o : Start P E G} {b : ℕ} {c : PageCell} {g : Geometry} {t : Turn} {v : Seat P E G} (k : HasPage o b c g t v) where
    abbrev slot : ℕ
    slot = slot_of o t

    pub mine : IsTurn o t
    mine = is_turn o t k.port

    low : b < slot
    low = after_pages o b t k.page.turn k.port

    apart : b ≢ slot
    apart e = let l = low in omega arith

    zone_start : t ≡ port_of (zone_of (Rule.shape_of values group o) b)
    zone_start = k.zone ∙ ap (λ y. port_of (zone_of y b)) k.shape

    -- the port may be taken
    pub above : Each (λ y. y.0 < slot) v.held
    above = subst (Each (λ y. y.0 < slot)) (sym k.page.held) (low, tt)

    -- ---- and is

    module _ {M : Type 0} (v1 : Seat P E G) (x : Item M PageCell (QueueSide P E G) (Root P G) E) (took : (K : Shared P E G) × (v1 ≡ holding slot K v) × Sees μ v K × Stands μ t K x) where
      took_opening : v1.opening ≡ Some o
      took_opening = ap (λ (w : Seat P E G). w.opening) took.1 ∙ k.opening

      took_held : v1.held ≡ (slot, took.0) ∷ (b, k.page.known) ∷ []
      took_held = ap (λ (w : Seat P E G). w.held) took.1 ∙ ap (λ l. (slot, took.0) ∷ l) k.page.held

      took_before : (K : Shared P E G) → Sees μ v1 K → Sees μ v K
      took_before K sees = sees_before μ slot took.0 K v (subst (λ w. Sees μ w K) took.1 sees)

      -- something may be known by now
      took_sees : Sees μ v1 took.0
      took_sees = subst (λ w. Sees μ w took.0) (sym took.1) (taken_seen state faults group slot took.0 v took.2)

      pub holds_port : 0 < times slot v1.held
      holds_port = subst (λ l. 0 < times slot l) (sym took_held) (let a = hit slot slot refl in omega arith)

      holds_page : 0 < times b v1.held
      holds_page = subst (λ l. 0 < times b l) (sym took_held) (let a = hit b b refl in omega arith)

      shape_now : (K : Shared P E G) → Sees μ v1 K → g ≡ Rule.geometry_of values group K
      shape_now K sees = k.shape ∙ ap (Rule.shape_of values group) (sym (opening_seen μ o K v1 took_opening sees))

      zone_now : (K : Shared P E G) → Sees μ v1 K → t ≡ port_of (zone_of (Rule.geometry_of values group K) b)
      zone_now K sees = k.zone ∙ ap (λ y. port_of (zone_of y b)) (shape_now K sees)

      -- what was taken is what the rule says, whatever is known by now
      port_seen : (K : Shared P E G) → Sees μ v1 K → Stands μ (port_of (zone_of (Rule.geometry_of values group K) b)) K x
      port_seen K sees =
          subst (λ y. Stands μ y K x) (zone_now K sees)
          (stands_held {M = M} μ (laws values group) o t v1 x took_opening mine holds_port
          (subst (Each (λ y. y.0 ≡ slot → Stands μ t y.1 x)) (sym took_held) ((λ e. took.3), ((λ e. absurd (apart e)), tt))) K sees)

      -- the block is one of the port
      pub is_home : (lba : ℕ) → lba ≡ home_lba g b → IsHomeOf state x lba
      is_home lba lba_is =
          subst (IsHomeOf state x) (sym (lba_is ∙ ap (λ y. home_lba y b) (shape_now took.0 took_sees)))
          (port_home state faults group took.0 b (zone_of (Rule.geometry_of values group took.0) b) refl x (port_seen took.0 took_sees))

      -- the home write may be noted
      pub may_home : IsDue c v → MayNote μ (notice.Home b c.version) v1
      may_home due K sees =
          let before = took_before K sees in
          let start : K.opening ≡ o = opening_seen μ o K v1 took_opening sees in (
            ok_written values group b c.version c.last_logged c.home_version K before.ok (bring_seen o b c v k.opening k.page due K before),
            λ u is about.
                subst (λ (s : Start P E G). 0 < times (slot_of s u) v1.held) (sym start) (go u (subst (λ (s : Start P E G). Rule.lies values group s (b, c.version) u ≡ true) start about)),
          )
        where
          there : (u : Turn) → u ≡ port_of (zone_of (Rule.shape_of values group o) b) → 0 < times (slot_of o u) v1.held
          there u e = subst (λ w. 0 < times (slot_of o w) v1.held) (sym (e ∙ sym zone_start)) holds_port

          go : (u : Turn) → Rule.lies values group o (b, c.version) u ≡ true → 0 < times (slot_of o u) v1.held
          go (Page y) e = subst (λ n. 0 < times n v1.held) (eqb-true b y e) holds_page
          go (Side r) e = there (Side r) (is_port (zone_of (Rule.shape_of values group o) b) r e)
          go turn.Root e = there turn.Root (is_root (zone_of (Rule.shape_of values group o) b) e)

      -- ---- the home write came to this

      module _ (due : IsDue c v) (u : Item M PageCell (QueueSide P E G) (Root P G) E) (r : Result HomeStep Off) (lba : ℕ) (lba_is : lba ≡ home_lba g b) (copy : List ℕ) (w : WritesHome state faults lba copy r x u) where
        -- where it was refused, and is reported, the port is what the rule says
        pub refused_port : (c1 : Cause) → answer_of b r ≡ Err c1 → ShowsCharge state faults group (charge_of t c1) u v1
        refused_port c1 e K sees =
            let before = took_before K sees in
            let shaped = shape_now K sees in
            subst (λ y. Stands μ y (charged (charge_of y c1) K) u) (sym (zone_now K sees))
            (port_refused state faults group K before.ok b c copy (bring_seen o b c v k.opening k.page due K before) (subst (λ y. b < homes_of y) shaped k.inside) lba (lba_is ∙ ap (λ y. home_lba y b) shaped) r (zone_of (Rule.geometry_of values group K) b) refl x u (port_seen K sees) w c1 e)

        written_port : answer_of b r ≡ Ok tt → c.content ≡ Some copy → (K : Shared P E G) → Sees μ v1 K → Stands μ t (written (b, c.version) K) u
        written_port e there K sees =
            let before = took_before K sees in
            let shaped = shape_now K sees in
            subst (λ y. Stands μ y (written (b, c.version) K) u) (sym (zone_now K sees))
            (port_written state faults group K before.ok b c copy (bring_seen o b c v k.opening k.page due K before) (subst (λ y. b < homes_of y) shaped k.inside) lba (lba_is ∙ ap (λ y. home_lba y b) shaped) r (zone_of (Rule.geometry_of values group K) b) refl x u (port_seen K sees) w e (page_seen o b c v k.opening k.page K before) there)

      module _ (K3 : Shared P E G) (sees3 : Sees μ v1 K3) where
        start3 : K3.opening ≡ o
        start3 = opening_seen μ o K3 v1 took_opening sees3

        at_port : turn_at K3.opening slot ≡ t
        at_port = ap (λ s. turn_at s slot) start3 ∙ turn_at_slot o t mine

        at_page : turn_at K3.opening b ≡ Page b
        at_page = ap (λ s. turn_at s b) start3 ∙ turn_at_slot o (Page b) k.page.turn

        lies_port : (y : Option ℕ) → zone_of (Rule.shape_of values group o) b ≡ y → Rule.lies values group o (b, c.version) (port_of y) ≡ true
        lies_port (Some q) e = ap (λ y. same_port y (Some q)) e ∙ same_port-same (Some q)
        lies_port None e = ap (λ y. same_port y None) e

        about_port : Rule.lies values group K3.opening (b, c.version) (turn_at K3.opening slot) ≡ true
        about_port =
            ap (λ (s : Start P E G). Rule.lies values group s (b, c.version) (turn_at K3.opening slot)) start3
            ∙ (ap (Rule.lies values group o (b, c.version)) (at_port ∙ zone_start) ∙ lies_port (zone_of (Rule.shape_of values group o) b) refl)

        about_page : Rule.lies values group K3.opening (b, c.version) (turn_at K3.opening b) ≡ true
        about_page = ap (Rule.lies values group K3.opening (b, c.version)) at_page ∙ eq-eqb b b refl

        other : same_turn t (turn_at K3.opening b) ≡ false
        other = ap (same_turn t) at_page ∙ (ap (λ y. same_turn y (Page b)) k.zone ∙ not_page (zone_of g b) b)

      left : (L N : Shared P E G) → without slot ((slot, L) ∷ (b, N) ∷ []) ≡ (b, N) ∷ []
      left L N = ap (λ y. cond y (cond (b == slot) [] ((b, N) ∷ [])) ((slot, L) ∷ cond (b == slot) [] ((b, N) ∷ []))) (eq-eqb slot slot refl) ∙ ap (λ y. cond y [] ((b, N) ∷ [])) (ne_eqb b slot apart)

      -- ---- it is noted, and the port given back

      module _ (v2 : Seat P E G) (noted : (K : Shared P E G) × (v2 ≡ after_notice μ (notice.Home b c.version) K v1) × Sees μ v1 K) where
        abbrev L : Shared P E G
        L = written (b, c.version) noted.0

        noted_held : v2.held ≡ (slot, L) ∷ (b, L) ∷ []
        noted_held =
            ap (λ (w : Seat P E G). w.held) noted.1
            ∙ (ap (λ l. refreshed (λ n. Rule.lies values group noted.0.opening (b, c.version) (turn_at noted.0.opening n)) L l) took_held
            ∙ (λ i. (slot, cond (about_port noted.0 noted.2 i) L took.0) ∷ (b, cond (about_page noted.0 noted.2 i) L k.page.known) ∷ []))

        pub noted_holds : 0 < times slot v2.held
        noted_holds = subst (λ l. 0 < times slot l) (sym noted_held) (let a = hit slot slot refl in omega arith)

        -- the port is what the rule says, whatever is known by then
        pub noted_port : (due : IsDue c v) (u : Item M PageCell (QueueSide P E G) (Root P G) E) (r : Result HomeStep Off) (lba : ℕ) (lba_is : lba ≡ home_lba g b) (copy : List ℕ) (w : WritesHome state faults lba copy r x u) → answer_of b r ≡ Ok tt → c.content ≡ Some copy → (K : Shared P E G) → Sees μ v2 K → Stands μ t K u
        noted_port due u r lba lba_is copy w e there K sees =
            stands_held {M = M} μ (laws values group) o t v2 u (ap (λ (w : Seat P E G). w.opening) noted.1 ∙ took_opening) mine noted_holds
            (subst (Each (λ y. y.0 ≡ slot → Stands μ t y.1 u)) (sym noted_held) ((λ same. written_port due u r lba lba_is copy w e there noted.0 noted.2), ((λ same. absurd (apart same)), tt))) K sees

        module _ (v3 : Seat P E G) (gave : v3 ≡ giving slot v2) where
          pub home_held : IsDue c v → HoldsOnlyPage state faults group o b (at_home c) v3
          home_held due =
              let before = took_before noted.0 noted.2 in
              record {
                known = L;
                turn = k.page.turn;
                held = ap (λ (w : Seat P E G). w.held) gave ∙ (ap (without slot) noted_held ∙ left L L);
                is = page_written values group b noted.0 c (page_seen o b c v k.opening k.page noted.0 before) (bring_seen o b c v k.opening k.page due noted.0 before);
              }

          pub home_moves : MovesOn [] [] v v3
          home_moves = moves_turn v v3 0 _ (gave ∙ ap (giving slot) (noted.1 ∙ ap (after_notice μ (notice.Home b c.version) noted.0) took.1))

      -- ---- or a refusal is reported, and it is given back

      module _ (c1 : Cause) (v3 : Seat P E G) (n : IsCharged state faults group o (charge_of t c1) v1 v3) where
        abbrev N : Shared P E G
        N = charged (charge_of t c1) n.known

        pub report_held : HoldsOnlyPage state faults group o b c v3
        report_held = record {
          known = k.page.known;
          turn = k.page.turn;
          held =
              ap (λ (w : Seat P E G). w.held) n.is
              ∙ (ap (λ l. without slot (refreshed (λ y. same_turn t (turn_at n.known.opening y)) N l)) took_held
              ∙ (left (cond (same_turn t (turn_at n.known.opening slot)) N took.0) (cond (same_turn t (turn_at n.known.opening b)) N k.page.known)
              ∙ (λ i. (b, cond (other n.known n.sees i) N k.page.known) ∷ [])));
          is = k.page.is;
        }

        pub report_refused : (u : Item M PageCell (QueueSide P E G) (Root P G) E) (r : Result HomeStep Off) (lba : ℕ) (copy : List ℕ) → WritesHome state faults lba copy r x u → answer_of b r ≡ Err c1 → IsRefusedBy state faults group [] c1 v v3
        report_refused u r lba copy w e = record {
          port = t;
          moves = moves_report v v3 0 _ (charge_of t c1) (n.is ∙ ap (λ y. giving slot (after_notice μ (notice.Charge (charge_of t c1)) n.known y)) took.1);
          caused = subst (λ y. IsCaused state faults group v y c1) (sym k.zone) (port_caused state faults group took.0 lba copy r (zone_of g b) x u (subst (λ y. Stands μ y took.0 x) k.zone took.3) w v (known_seen v took.0 took.2) b c1 e);
        }
