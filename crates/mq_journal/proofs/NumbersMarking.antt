-- Before a draw: the queue's mark is not above the next number.
use Rattle.std.proofs.Common.{◌≡◌, ℕ, suc, ◌+◌, ◌-◌, ◌<◌, ◌≤◌, Bool, true, false, cond, min, List, [], ◌∷◌, length, nat_le, Some, None, sym, refl, ap, subst, ◌∙◌, inl, inr, arith, eqb}
use Rattle.std.proofs.lemmas.Bool.{cases_Bool, cases_eq, cases_lt, eq-eqb, ne_eqb, eqb-true, lt-ltb, le-ltb, false≢true}
use Rattle.mq_blocks.specs.Drive.{PortState, staged_end}
use Rattle.mq_drive.specs.Steps.{PortFault}
use Rattle.mq_drive.specs.declared.port.Port.{Ghosts}
use Rattle.mq_ledger.specs.History.{writes, of_queue, IsAt}
use Rattle.mq_ledger.specs.Items.{descriptor_blocks, end_of, total}
use Rattle.mq_ledger.specs.declared.tx.Tx.{Tx}
use Rattle.mq_ledger.proofs.Items.{of_queue-own, of_queue-other}
use Rattle.mq_ledger.proofs.HistoryQueues.{at_end, at_own}
use Rattle.mq_pages.specs.declared.page.PageCell.{PageCell}
use Rattle.mq_desk_laws.specs.Groups.{GroupView}
use Rattle.mq_desk_laws.specs.Rule
use Rattle.mq_desk_laws.specs.Rule.{IsSide}
use Rattle.mq_desk_laws.specs.Values.{Values}
use Rattle.mq_desk_laws.proofs.RuleTelling.{ok_claimed, side_claimed}
use Rattle.mq_desk_laws.proofs.Meaning.{laws}
use Rattle.mq_queue_side.specs.declared.root.Root as side
use Rattle.mq_queue_side.specs.declared.side.QueueSide.{QueueSide}
use Rattle.mq_queue_side.proofs.SideSends.{none_kept}
use Rattle.mq_turns.specs.Desk.{Sees, Stay, after_look, refreshed, slot_of, turn_at}
use Rattle.mq_turns.specs.Lists.{Each, times, without}
use Rattle.mq_turns.specs.Marks.{Marked, claim_of, is_claimed, mark_of, passed, queues_of, shown}
use Rattle.mq_turns.specs.Meaning as history
use Rattle.mq_turns.specs.Meaning.{Grows, Meaning, claimed, newest}
use Rattle.mq_turns.specs.Words.{MayClear, after_clear, same_turn}
use Rattle.mq_turns.specs.declared.rule.Claim.{Claim}
use Rattle.mq_turns.specs.declared.rule.Known.{Known}
use Rattle.mq_turns.specs.declared.rule.Opening.{Opening}
use Rattle.mq_turns.specs.declared.rule.Reading.{Reading}
use Rattle.mq_turns.specs.declared.turn.Item.TheVariants as item
use Rattle.mq_turns.specs.declared.turn.Turn.TheVariants.{Side}
use Rattle.mq_turns.proofs.MarksClaims.{reader_grows}
use Rattle.mq_turns.proofs.Lists.{each_without}
use Rattle.mq_turns.proofs.DeskSeen.{mark_stays, opening_seen, sees_look, stands_held, stay_renewed}
use Rattle.mq_turns.proofs.DeskSlots.{turn_at_slot}
use Rattle.mq_journal.specs.Numbers
use Rattle.mq_journal.specs.Numbers.{Seat, Shared, Start}

-- ---- slots

-- the turn of no other slot is the side's
pub side_alone : {P Q R : Type 0} (o : Opening P Q R) (q k : ℕ) → same_turn (Side q) (turn_at o k) ≡ true → k ≡ slot_of o (Side q)
side_alone o q k same = let n : ℕ = length o.pages in let m : ℕ = length o.sides in elim (cases_lt k n) [
  | inl page ↦ absurd (false≢true (rw (lt-ltb k n page) at same))
  | inr above ↦ elim (cases_lt k (n + m)) [
    | inl side ↦ let e : q ≡ k - n = eqb-true q (k - n) (rw (le-ltb k n above, lt-ltb k (n + m) side) at same) in omega arith
    | inr last ↦ absurd (false≢true (rw (le-ltb k n above, le-ltb k (n + m) last) at same))
  ]
]

-- ---- lists of what is held

module _ {A B C D : Type 0} where
  renewed_none : (L : Known A B C D) (l : List (ℕ × Known A B C D)) → refreshed (λ k. false) L l ≡ l
  renewed_none L [] = refl
  renewed_none L (h ∷ hs) = ap (λ t. h ∷ t) (renewed_none L hs)

  -- what is held besides a slot that alone was renewed
  each_left : (F : ℕ × Known A B C D → Type 0) (about : ℕ → Bool) (L : Known A B C D) (slot : ℕ) (l : List (ℕ × Known A B C D)) → ((k : ℕ) → about k ≡ true → k ≡ slot) → Each F (refreshed about L l) → Each F (without slot l)
  each_left F about L slot [] alone all = tt
  each_left F about L slot (h ∷ hs) alone all = elim (cases_eq h.0 slot) [
    | inl mine ↦ subst (λ b. Each F (cond b (without slot hs) (h ∷ without slot hs))) (sym (eq-eqb h.0 slot mine)) (each_left F about L slot hs alone all.1)
    | inr other ↦ elim (cases_Bool (about h.0)) [
      | inl found ↦ absurd (other (alone h.0 found))
      | inr apart ↦ subst (λ b. Each F (cond b (without slot hs) (h ∷ without slot hs))) (sym (ne_eqb h.0 slot other)) (subst (λ b. F (h.0, cond b L h.1)) apart all.0, each_left F about L slot hs alone all.1)
    ]
  ]

  -- of two renewals, the second of all that the first was about
  pub renewed_twice : (f g : ℕ → Bool) (L M : Known A B C D) (l : List (ℕ × Known A B C D)) → ((k : ℕ) → g k ≡ true → f k ≡ true) → refreshed f L (refreshed g M l) ≡ refreshed f L l
  renewed_twice f g L M [] more = refl
  renewed_twice f g L M (h ∷ hs) more = elim (cases_Bool (g h.0)) [
    | inl found ↦ rw (more h.0 found) (ap (λ t. (h.0, L) ∷ t) (renewed_twice f g L M hs more))
    | inr apart ↦ rw apart (ap (λ t. (h.0, cond (f h.0) L h.1) ∷ t) (renewed_twice f g L M hs more))
  ]

-- ---- what was read

module _ {A B C D : Type 0} where
  read_passed : (queues n low : ℕ) (r : Reading A B C D) → (r.done ≤ (passed queues n low r).done) × ((passed queues n low r).base ≡ r.base) × ((passed queues n low r).pages ≡ r.pages) × ((passed queues n low r).answers ≡ r.answers) × ((passed queues n low r).charged ≡ r.charged)
  read_passed queues n low r = elim (cases_Bool (nat_le queues n)) [
    | inl all ↦ (rw all (omega arith), refl, refl, refl, refl)
    | inr few ↦ (rw few (omega arith), refl, refl, refl, refl)
  ]

  pub read_shown : (queues q n : ℕ) (r : Reading A B C D) → (r.done ≤ (shown queues q n r).done) × ((shown queues q n r).base ≡ r.base) × ((shown queues q n r).pages ≡ r.pages) × ((shown queues q n r).answers ≡ r.answers) × ((shown queues q n r).charged ≡ r.charged)
  read_shown queues q n r = elim (cases_Bool (eqb q 0)) [
    | inl first ↦ rw first (read_passed queues 1 n r)
    | inr later ↦ elim (cases_Bool (eqb q r.swept)) [
      | inl next ↦ rw (later, next) (read_passed queues (suc q) (min r.low n) r)
      | inr other ↦ rw (later, other) (omega arith, refl, refl, refl, refl)
    ]
  ]

-- ---- the newest of a queue

module _ {Q R E : Type 0} (values : Values Q R E) (group : GroupView E) where
  abbrev hist : ℕ → List E → List Tx
  hist = Rule.history values group

  -- of an entry of the queue: its place in the history, and what stands there before it
  record NewestOwn (q base : ℕ) (es : List E) (t : Tx) (ts : List Tx) : Type 0 where
    pub n : ℕ
    pub e : E
    pub at : history.HasNumberAt base es n e
    pub own : (group.tx e).queue ≡ q
    pub h : List Tx
    pub there : IsAt t h (hist base es)
    pub rest : of_queue q h ≡ ts
    pub number : t.number ≡ n
    pub queue : t.queue ≡ q
    pub low : n ≤ base + length es

  newest_own : (q base : ℕ) (es : List E) (t : Tx) (ts : List Tx) → of_queue q (hist base es) ≡ t ∷ ts → NewestOwn q base es t ts
  newest_own q base [] t ts e = absurd cc
  newest_own q base (x ∷ xs) t ts e =
      let u : Tx = Rule.numbered (base + length xs + 1) (group.tx x) in
      elim (cases_eq u.queue q) [
        | inl own ↦
            let both : u ∷ of_queue q (hist base xs) ≡ t ∷ ts = sym (of_queue-own q u (hist base xs) own) ∙ e in
            let one : u ≡ t = cc in
            let rest : of_queue q (hist base xs) ≡ ts = cc in
            record {
              n = suc (base + length xs);
              e = x;
              at = inl (refl, refl);
              own = own;
              h = hist base xs;
              there = inl (one, refl);
              rest = rest;
              number = ap (λ (w : Tx). w.number) (sym one) ∙ (let m : base + length xs + 1 ≡ suc (base + length xs) = omega arith in m);
              queue = ap (λ (w : Tx). w.queue) (sym one) ∙ own;
              low = omega arith;
            }
        | inr other ↦
            let r = newest_own q base xs t ts (sym (of_queue-other q u (hist base xs) other) ∙ e) in
            record {
              n = r.n;
              e = r.e;
              at = inr r.at;
              own = r.own;
              h = r.h;
              there = inr r.there;
              rest = r.rest;
              number = r.number;
              queue = r.queue;
              low = let l = r.low in omega arith;
            }
      ]

-- ---- sides

module _ {P E : Type 0} {G : Ghosts P} (state : P → PortState) (faults : P → List PortFault) (group : GroupView E) where
  abbrev values : Values (QueueSide P E G) (side.Root P G) E
  values = Numbers.values state faults group

  abbrev μ : Meaning PageCell (QueueSide P E G) (side.Root P G) E
  μ = Numbers.machine state faults group

  -- ---- a side on which something is under way

  module _ (q : ℕ) (K : Shared P E G) (s : QueueSide P E G) (is : IsSide values group q K s) (none : s.kept ≡ None) where
    abbrev p : PortState
    p = state s.pmr.port

    abbrev from : ℕ
    from = Rule.doorbell_of values group K.opening q

    abbrev own : List Tx
    own = Rule.own_of values group q K

    all_rung : p.doorbell ≡ end_of from own
    all_rung = is.says.whole none

    nothing_staged : p.pending ≡ []
    nothing_staged = (none_kept from own p.failed p.pending p.doorbell s.kept none is.says.is.kept).1

    end_is : staged_end p ≡ end_of from own
    end_is = let a = all_rung in let b : length p.pending ≡ 0 = ap length nothing_staged in omega arith

    -- its newest transaction is not done
    pub mark_low : (us : List Tx) → own ≡ us → (staged_end p ≤ p.head → ⊥) → Marked μ K → mark_of q K.claims ≤ suc (newest K)
    mark_low [] empty busy marked = absurd (busy (let a = end_is in let b : end_of from own ≡ from = ap (end_of from) empty ∙ (let z : from + 0 ≡ from = omega arith in z) in let c = is.port.order.head_low in omega arith))
    mark_low (t ∷ ts) newest_is busy marked =
        let r = newest_own values group q K.opening.base K.log t ts newest_is in
        elim (cases_Bool (is_claimed q r.n K.claims)) [
          | inl done ↦ absurd (busy (
              let claimed : is_claimed t.queue t.number K.claims ≡ true = ap (λ (z : ℕ × ℕ). is_claimed z.0 z.1 K.claims) (λ i. (r.queue i, r.number i)) ∙ done in
              let a = is.port.done t r.h r.there r.queue claimed in
              let b : end_of from own ≡ end_of from ts + (writes t + descriptor_blocks t) = ap (end_of from) newest_is ∙ (let z : from + (total ts + (writes t + descriptor_blocks t)) ≡ from + total ts + (writes t + descriptor_blocks t) = omega arith in z) in
              let c : end_of from (of_queue q r.h) ≡ end_of from ts = ap (end_of from) r.rest in
              let d = end_is in
              omega arith))
          | inr undone ↦
              let open_at : is_claimed (group.tx r.e).queue r.n K.claims ≡ false = ap (λ z. is_claimed z r.n K.claims) r.own ∙ undone in
              let low = marked.undone r.n r.e r.at open_at in
              let same : mark_of (group.tx r.e).queue K.claims ≡ mark_of q K.claims = ap (λ z. mark_of z K.claims) r.own in
              let l = r.low in
              omega arith
        ]

    -- at rest all of its transactions stand below the head
    pub all_below : staged_end p ≤ p.head → (t : Tx) (ts : List Tx) → IsAt t ts (Rule.history_of values group K) → t.queue ≡ q → end_of from (of_queue q ts) + (writes t + descriptor_blocks t) ≤ p.head
    all_below rest t ts at mine =
        let a = at_end from t (of_queue q ts) own (at_own q t ts (Rule.history_of values group K) at mine) in
        let b = end_is in
        omega arith

  -- what the session knows of a side that it holds
  pub side_known : (o : Start P E G) (q : ℕ) (s : QueueSide P E G) (v : Seat P E G) → v.opening ≡ Some o → Numbers.HoldsSide state faults group o q s v → (K : Shared P E G) → Sees μ v K → IsSide values group q K s
  side_known o q s v opening h K sees = stands_held {M = ℕ} μ (laws values group) o (Side q) v (item.Side s) opening h.turn h.holds h.is K sees

  -- ---- a look, and nothing more

  module _ (o : Start P E G) (q : ℕ) (s : QueueSide P E G) (v w : Seat P E G) (K0 : Shared P E G) (knows : (K : Shared P E G) → Sees μ v K → IsSide values group q K s) (none : s.kept ≡ None) (sees0 : Sees μ v K0) (looked : w ≡ after_look None K0 v) where
    look_before : (K : Shared P E G) → Sees μ w K → Sees μ v K
    look_before K sees = sees_look μ K0 K v sees0 (subst (λ z. Sees μ z K) looked sees)

    rest_seen : (K : Shared P E G) → Sees μ v K → Numbers.SeesRest state faults group o q v K
    rest_seen K sees = record { opening = sees.opening; ok = sees.ok; few = sees.few; held = each_without _ (slot_of o (Side q)) v.held sees.held; seen = sees.seen; drew = sees.drew; marked = sees.marked; reader = sees.reader; own = sees.own }

    pub busy_marks : (staged_end (state s.pmr.port) ≤ (state s.pmr.port).head → ⊥) → Numbers.Marks state faults group o q s v w
    busy_marks busy = record {
      knows = λ K sees.
          let before = look_before K sees in
          let side = knows K before in
          record { mark = mark_low q K s side none (Rule.own_of values group q K) refl busy sees.marked; past = λ le. absurd (busy le); side = side; sees = rest_seen K before };
      about = λ k. false;
      by = K0;
      held = ap (λ (z : Seat P E G). z.held) looked ∙ sym (renewed_none K0 v.held);
      alone = λ k found. absurd (false≢true found);
      drawn = ap (λ (z : Seat P E G). z.drawn) looked;
      rest = record {
        parts = ap (λ (z : Seat P E G). z.parts) looked;
        opening = ap (λ (z : Seat P E G). z.opening) looked;
        session = ap (λ (z : Seat P E G). z.session) looked;
        read = ap (λ (z : Seat P E G). z.read) looked;
        reading = subst (λ (z : Seat P E G). Numbers.ReadOn state faults group v.reading z.reading) (sym looked) (record { done = omega arith; base = refl; pages = refl; answers = refl; charged = refl });
      };
    }

    -- ---- and a clear

    module _ (u : Seat P E G) (K1 : Shared P E G) (opening : v.opening ≡ Some o) (turn : q < length o.sides) (held : 0 < times (slot_of o (Side q)) v.held) (sees1 : Sees μ w K1) (low : ℕ) (low_is : low ≡ newest K0 + 1) (cleared : u ≡ after_clear q low K1 w) (rest : staged_end (state s.pmr.port) ≤ (state s.pmr.port).head) where
      abbrev L : Shared P E G
      L = claimed (claim_of q low (newest K1)) K1

      abbrev about : ℕ → Bool
      about k = same_turn (Side q) (turn_at L.opening k)

      held_is : u.held ≡ refreshed about L v.held
      held_is = ap (λ (z : Seat P E G). z.held) cleared ∙ ap (λ (z : Seat P E G). refreshed about L z.held) looked

      start : K1.opening ≡ o
      start = opening_seen μ o K1 v opening (look_before K1 sees1)

      alone : (k : ℕ) → about k ≡ true → k ≡ slot_of o (Side q)
      alone k found = side_alone o q k (subst (λ z. same_turn (Side q) (turn_at z k) ≡ true) start found)

      side_then : IsSide values group q L s
      side_then =
          let before = look_before K1 sees1 in
          side_claimed values group (claim_of q low (newest K1)) K1 s before.ok (knows K1 before) (λ t ts at mine le. all_below q K1 s (knows K1 before) none rest t ts at mine)

      mark_then : mark_of q L.claims ≡ low
      mark_then = ap (λ c. cond c low (mark_of q K1.claims)) (eq-eqb q q refl)

      side_stays : (K : Shared P E G) → Sees μ u K → μ.ok L × Stay μ (Side q) L K
      side_stays K sees =
          let now : K.opening ≡ o = opening_seen μ o K u (ap (λ (z : Seat P E G). z.opening) cleared ∙ (ap (λ (z : Seat P E G). z.opening) looked ∙ opening)) sees in
          let there : turn_at o (slot_of o (Side q)) ≡ Side q = turn_at_slot o (Side q) turn in
          let mine : about (slot_of o (Side q)) ≡ true = ap (λ z. same_turn (Side q) (turn_at z (slot_of o (Side q)))) start ∙ (ap (same_turn (Side q)) there ∙ eq-eqb q q refl) in
          stay_renewed μ about L K v u (Side q) (slot_of o (Side q)) held_is mine held (ap (λ z. turn_at z (slot_of o (Side q))) now ∙ there) sees

      pub idle_marks : Numbers.Marks state faults group o q s v u
      idle_marks = record {
        knows = λ K sees.
            let stays = side_stays K sees in
            let seen : u.seen ≡ newest K0 = ap (λ (z : Seat P E G). z.seen) cleared ∙ ap (λ (z : Seat P E G). z.seen) looked in
            let drew : u.drawn ≡ v.drawn = ap (λ (z : Seat P E G). z.drawn) cleared ∙ ap (λ (z : Seat P E G). z.drawn) looked in
            let session : u.session ≡ v.session = ap (λ (z : Seat P E G). z.session) cleared ∙ ap (λ (z : Seat P E G). z.session) looked in
            let before = look_before K1 sees1 in
            record {
              mark = let m = mark_stays μ q L K stays.1 in let n = mark_then in let a = sees.seen in omega arith;
              past = λ le. let m = mark_stays μ q L K stays.1 in let n = mark_then in let a = sees0.seen in omega arith;
              side = (laws values group).side_along q L K s stays.1 stays.0 sees.ok side_then;
              sees = record {
                opening = sym (ap (λ (z : Seat P E G). z.opening) cleared ∙ ap (λ (z : Seat P E G). z.opening) looked) ∙ sees.opening;
                ok = sees.ok;
                few = sees.few;
                held = each_left (λ h. μ.ok h.1 × Stay μ (turn_at K.opening h.0) h.1 K) about L (slot_of o (Side q)) v.held alone (subst (Each (λ h. μ.ok h.1 × Stay μ (turn_at K.opening h.0) h.1 K)) held_is sees.held);
                seen = let a = sees0.seen in let b = sees.seen in omega arith;
                drew = subst (Each (λ d. history.HasNumberAt K.opening.base K.log d.0 d.1)) drew sees.drew;
                marked = sees.marked;
                reader = reader_grows μ L K v.reading stays.1.grows (reader_grows μ K1 L v.reading (claim_grows K1 (claim_of q low (newest K1))) before.reader);
                own = λ m e at is. let mine = sees.own m e at (is ∙ sym session) in let same : times m u.drawn ≡ times m v.drawn = ap (times m) drew in omega arith;
              };
            };
        about = about;
        by = L;
        held = held_is;
        alone = alone;
        drawn = ap (λ (z : Seat P E G). z.drawn) cleared ∙ ap (λ (z : Seat P E G). z.drawn) looked;
        rest = record {
          parts = ap (λ (z : Seat P E G). z.parts) cleared ∙ ap (λ (z : Seat P E G). z.parts) looked;
          opening = ap (λ (z : Seat P E G). z.opening) cleared ∙ ap (λ (z : Seat P E G). z.opening) looked;
          session = ap (λ (z : Seat P E G). z.session) cleared ∙ ap (λ (z : Seat P E G). z.session) looked;
          read = ap (λ (z : Seat P E G). z.read) cleared ∙ ap (λ (z : Seat P E G). z.read) looked;
          reading = read_on;
        };
      }
        where
          claim_grows : (K : Shared P E G) (c : Claim) → Grows K (claimed c K)
          claim_grows K c = record { opening = refl; newer = []; log = refl; claimed = c ∷ []; claims = refl; written = []; ended = refl; word = omega arith; blamed = []; charges = refl }

          read_on : Numbers.ReadOn state faults group v.reading u.reading
          read_on =
              let r = read_shown (queues_of w.opening) q (min (low - 1) (newest K1)) w.reading in
              subst (λ (z : Seat P E G). Numbers.ReadOn state faults group v.reading z.reading) (sym cleared)
              (subst (λ (z : Seat P E G). Numbers.ReadOn state faults group z.reading (after_clear q low K1 w).reading) looked
              (record { done = r.0; base = r.1; pages = r.2; answers = r.3; charged = r.4 }))

-- a mark claims no number that was not drawn
pub may_mark : {P E : Type 0} {G : Ghosts P} (state : P → PortState) (faults : P → List PortFault) (group : GroupView E) (q low : ℕ) (v : Seat P E G) → MayClear (Numbers.machine state faults group) q low v
may_mark state faults group q low v K sees = ok_claimed (Numbers.values state faults group) group (claim_of q low (newest K)) K sees.ok (omega arith)
