-- What a vote leaves on its queue's port.
use Rattle.std.proofs.Common.{◌≡◌, ℕ, zero, suc, ◌+◌, ◌%◌, ◌<◌, ◌≤◌, Bool, true, false, cond, List, [], ◌∷◌, ◌++◌, map, length, refl, sym, ap, ◌∙◌, subst, arith, eq-eqb, Some}
use Rattle.std.proofs.lemmas.Bool.{eqb-true, false≢true}
use Rattle.std.proofs.Math.Nat.{mod-add-mod, mod-mod, le-div_iff_mul-le}
use Rattle.std.specs.Prelude.{slice_get, slice_index_or}
use Rattle.mq_turns.specs.Chairs.{Starts, giving, holding}
use Rattle.mq_turns.specs.Desk.{Follows, fresh, allotment}
use Rattle.mq_turns.specs.Lists.{Each, tick, times, without}
use Rattle.mq_turns.specs.Meaning.{Apart, AreLaws, Stays, newest, drawn, claimed}
use Rattle.mq_turns.specs.Marks.{mark_of, claim_of}
use Rattle.mq_turns.specs.Words.{same_turn, after_clear}
use Rattle.mq_turns.specs.Desk.{IsTurn, slot_of, turn_at, refreshed, Stay, Sees, Covers, Stands, after_draw}
use Rattle.mq_test_turns.specs.Counting.{votes, Counted, counting, vote_touches}
use Rattle.mq_turns.specs.declared.rule.Opening.{Opening}
use Rattle.mq_turns.specs.declared.rule.Known.{Known}
use Rattle.mq_turns.specs.declared.rule.ChairView.{ChairView}
use Rattle.mq_turns.specs.declared.turn.Turn.{Turn}
use Rattle.mq_turns.specs.declared.turn.Turn.TheVariants.{Page, Side, Root}
use Rattle.mq_turns.specs.declared.turn.Item.TheVariants as item
use Rattle.mq_turns.proofs.DeskSeen.{opening_seen, turn_seen, mark_stays}
use Rattle.mq_turns.proofs.DeskSlots.{turn_at_slot}
use Rattle.mq_turns.proofs.Lists.{hit}

module _ {E : Type 0} (queue : E → ℕ) where
  votes_apart : (q : ℕ) (newer log : List E) → Apart (vote_touches queue) newer log (Side q) → votes queue q (newer ++ log) ≡ votes queue q log
  votes_apart q [] log a = refl
  votes_apart q (e ∷ es) log a = let none : tick (queue e) q ≡ 0 = ap (λ b. cond b 1 0) a.0 in let ih = votes_apart q es log a.1 in omega arith

  counted_along : {Q : Type 0} (state : Q → ℕ) (q : ℕ) (K L : Known ℕ Q ℕ E) (x : Q) → Stays (vote_touches queue) (λ o h t. false) (Side q) K L → Counted queue state q K x → Counted queue state q L x
  counted_along state q K L x s is =
      let n : votes queue q L.log ≡ votes queue q K.log = ap (votes queue q) s.grows.log ∙ votes_apart q s.grows.newer K.log s.apart in
      let o = s.grows.opening in
      let F : ℕ → ℕ → ℕ = λ a b. (a + b) % 18446744073709551616 in
      is ∙ (λ i. F (slice_index_or (map state (sym o i).sides) q 0) (sym n i))

-- the machine obeys the laws of a desk
pub laws : {E Q : Type 0} (queue session group : E → ℕ) (state : Q → ℕ) → AreLaws (counting queue session group state)
laws queue session group state = record {
  own = λ log e. eq-eqb (queue e) (queue e) refl;
  ok_drawn = λ e K ok may. tt;
  page_along = λ b K L x s a c h. tt;
  side_along = λ q K L x s a c h. counted_along queue state q K L x s h;
  root_along = λ K L x s a c h. h ∙ sym (s.word refl);
}

-- each of a few chairs may draw many numbers
pub allots : (chairs : ℕ) → 0 < chairs → chairs ≤ 16 → 4294967296 ≤ allotment chairs
allots chairs some few = (le-div_iff_mul-le some).1 (omega arith)

module _ {E Q : Type 0} (queue session group : E → ℕ) (state : Q → ℕ) (o : Opening ℕ Q ℕ) where
  abbrev μ : Rattle.mq_turns.specs.Meaning.Meaning ℕ Q ℕ E
  μ = counting queue session group state

  -- the chair holds the side of the queue alone, and the side is what the chair knows of it
  pub record OnSide (q : ℕ) (v : ChairView ℕ Q ℕ E) (x : Q) : Type 0 where
    pub known : Known ℕ Q ℕ E
    pub turn : q < length o.sides
    pub opening : v.opening ≡ Some o
    pub held : v.held ≡ (slot_of o (Side q), known) ∷ []
    pub counted : Counted queue state q known x

  module _ (q : ℕ) (v w : ChairView ℕ Q ℕ E) (x : Q) where
    pub side_taken : (K : Known ℕ Q ℕ E) → q < length o.sides → w.opening ≡ Some o → w ≡ holding (slot_of o (Side q)) K v → v.held ≡ [] → Counted queue state q K x → OnSide q w x
    side_taken K lt opening is idle counted = record { known = K; turn = lt; opening = opening; held = ap (λ (u : ChairView ℕ Q ℕ E). u.held) is ∙ ap (λ l. (slot_of o (Side q), K) ∷ l) idle; counted = counted }

    pub side_same : w.opening ≡ v.opening → w.held ≡ v.held → OnSide q v x → OnSide q w x
    side_same opening held s = record { known = s.known; turn = s.turn; opening = opening ∙ s.opening; held = held ∙ s.held; counted = s.counted }

    module _ (s : OnSide q v x) where
      -- it holds the side, and nothing else
      pub mine : 0 < times (slot_of o (Side q)) v.held
      mine = let one = hit (slot_of o (Side q)) (slot_of o (Side q)) refl in let e : times (slot_of o (Side q)) v.held ≡ tick (slot_of o (Side q)) (slot_of o (Side q)) + 0 = ap (times (slot_of o (Side q))) s.held in omega arith

      pub side_given : w ≡ giving (slot_of o (Side q)) v → w.held ≡ []
      side_given is =
          let k : ℕ = slot_of o (Side q) in
          ap (λ (u : ChairView ℕ Q ℕ E). u.held) is ∙ (ap (without k) s.held ∙ ap (λ b. cond b [] ((k, s.known) ∷ [])) (eq-eqb k k refl))

      stay : (L : Known ℕ Q ℕ E) → Sees μ v L → Stay μ (Side q) s.known L
      stay L sees =
          let all = subst (λ (l : List (ℕ × Known ℕ Q ℕ E)). Each (λ h. μ.ok h.1 × Stay μ (turn_at L.opening h.0) h.1 L) l) s.held sees.held in
          subst (λ t. Stay μ t s.known L) (turn_seen μ o L v (Side q) s.opening sees s.turn) all.0.1

      pub now : (L : Known ℕ Q ℕ E) → Sees μ v L → Counted queue state q L x
      now L sees = counted_along queue state q s.known L x (stay L sees) s.counted

      -- after a step of the chair's own that is about the side
      pub renews : (about : Turn → Bool) (L : Known ℕ Q ℕ E) → about (Side q) ≡ true → L.opening ≡ o → w.held ≡ refreshed (λ k. about (turn_at L.opening k)) L v.held → w.held ≡ (slot_of o (Side q), L) ∷ []
      renews about L is opening held =
          let turn : about (turn_at L.opening (slot_of o (Side q))) ≡ true = ap (λ p. about (turn_at p (slot_of o (Side q)))) opening ∙ (ap about (turn_at_slot o (Side q) s.turn) ∙ is) in
          let G : List (ℕ × Known ℕ Q ℕ E) → List (ℕ × Known ℕ Q ℕ E) = refreshed (λ k. about (turn_at L.opening k)) L in
          held ∙ (ap G s.held ∙ ap (λ b. (slot_of o (Side q), cond b L s.known) ∷ []) turn)

      pub side_stands : (M : Type 0) (L : Known ℕ Q ℕ E) → Sees μ v L → Stands {M = M} μ (Side q) L (item.Side x)
      side_stands M L sees = now L sees

      abbrev pub side_cleared : (low : ℕ) (L : Known ℕ Q ℕ E) → Sees μ v L → w ≡ after_clear q low L v → OnSide q w x
      side_cleared low L sees is = record {
        known = claimed (claim_of q low (newest L)) L;
        turn = s.turn;
        opening = ap (λ (u : ChairView ℕ Q ℕ E). u.opening) is ∙ s.opening;
        held = renews (same_turn (Side q)) (claimed (claim_of q low (newest L)) L) (eq-eqb q q refl) (opening_seen μ o L v s.opening sees) (ap (λ (u : ChairView ℕ Q ℕ E). u.held) is);
        counted = now L sees;
      }

      pub side_drawn : (e : E) (y : Q) (L : Known ℕ Q ℕ E) → Sees μ v L → w ≡ after_draw μ e L v → queue e ≡ q → state y ≡ (state x + 1) % 18446744073709551616 → OnSide q w y
      side_drawn e y L sees is own bumped =
          let one : tick (queue e) q ≡ 1 = hit (queue e) q own in
          let a : ℕ = slice_index_or (map state L.opening.sides) q 0 in
          let n : ℕ = votes queue q L.log in
          let sum : a + n + 1 ≡ a + (tick (queue e) q + n) = omega arith in
          record {
            known = drawn e L;
            turn = s.turn;
            opening = ap (λ (u : ChairView ℕ Q ℕ E). u.opening) is ∙ s.opening;
            held = renews (λ t. μ.touches L.log e t) (drawn e L) (eq-eqb (queue e) q own) (opening_seen μ o L v s.opening sees) (ap (λ (u : ChairView ℕ Q ℕ E). u.held) is);
            counted = ap (λ m. m % 18446744073709551616) bumped ∙ (mod-mod (state x + 1) 18446744073709551616 ∙ (sym (mod-add-mod (state x) 18446744073709551616 1) ∙ (ap (λ m. (m + 1) % 18446744073709551616) (now L sees) ∙ (mod-add-mod (a + n) 18446744073709551616 1 ∙ ap (λ m. m % 18446744073709551616) sum))));
          }

      -- a vote on the queue may be drawn, where the chair has just stored a mark that is low enough
      pub side_covers : (e : E) (u : ChairView ℕ Q ℕ E) (low : ℕ) (L : Known ℕ Q ℕ E) → Sees μ u L → v ≡ after_clear q low L u → s.known ≡ claimed (claim_of q low (newest L)) L → low ≤ suc v.seen → queue e ≡ q → Covers μ e v
      side_covers e u low L seen is known le own = record { held = holds; may = λ K sees few. tt; mark = marks }
        where
          holds : (K : Known ℕ Q ℕ E) → Sees μ v K → (t : Turn) → IsTurn K.opening t → μ.touches K.log e t ≡ true → 0 < times (slot_of K.opening t) v.held
          holds K sees (Page b) lt f = absurd (false≢true f)
          holds K sees (Side r) lt f = let same : q ≡ r = sym own ∙ eqb-true (queue e) r f in subst (λ (z : Opening ℕ Q ℕ × ℕ). 0 < times (slot_of z.0 (Side z.1)) v.held) (λ i. (sym (opening_seen μ o K v s.opening sees) i, same i)) mine
          holds K sees Root lt f = absurd (false≢true f)

          marks : (K : Known ℕ Q ℕ E) → Sees μ v K → mark_of (queue e) K.claims ≤ suc (newest K)
          marks K sees =
              let stays = mark_stays μ q s.known K (stay K sees) in
              let stored : mark_of q s.known.claims ≡ low = ap (λ (k : Known ℕ Q ℕ E). mark_of q k.claims) known ∙ ap (λ b. cond b low (mark_of q L.claims)) (eq-eqb q q refl) in
              let same = ap (λ i. mark_of i K.claims) own in
              let last = sees.seen in omega arith

  index_map : (xs : List Q) (i : ℕ) (x : Q) → slice_get xs i ≡ Some x → slice_index_or (map state xs) i 0 ≡ state x
  index_map [] i x e = absurd (cc)
  index_map (y ∷ ys) zero x e = let same : y ≡ x = cc in ap state same
  index_map (y ∷ ys) (suc i) x e = index_map ys i x e

  pub count_starts : o.root ≡ o.base → Starts (counting queue session group state) o
  count_starts root = record {
    ok = tt;
    pages = λ b x e. tt;
    sides = λ q x e. let i = index_map o.sides q x e in let z : slice_index_or (map state o.sides) q 0 + 0 ≡ state x = omega arith in ap (λ m. m % 18446744073709551616) (sym z);
    root = root;
  }

  pub follows_fresh : (e : E) (i : ℕ) (v : ChairView ℕ Q ℕ E) → v ≡ fresh o i → session e ≡ i → Follows (counting queue session group state) e v
  follows_fresh e i v is own = let F : ChairView ℕ Q ℕ E → Type 0 = λ u. Follows (counting queue session group state) e u in subst F (sym is) record { session = own; drawn = tt; read = tt }
