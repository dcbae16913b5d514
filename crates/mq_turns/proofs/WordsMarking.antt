-- The steps on marks and base, and notices, keep the rule and show what is stated of them.
use Rattle.std.proofs.Common.{◌≡◌, ℕ, suc, ◌+◌, ◌-◌, ◌<◌, ◌≤◌, eqb, min, Bool, true, false, List, ◌∷◌, length, get_or, set, sym, refl, ap, ◌∙◌, subst, arith, inl, inr, Option, Some, length-set, get_or-set_other, get_or-set_same}
use Rattle.std.proofs.lemmas.Bool.{cases_Bool, eq-eqb, ne_eqb}
use mathlib.Core.Logic.{dite}
use mathlib.Core.Option.{none, some}
use native.Mathlib.Decide.{ℕ_discrete}
use lib.ListN.{get_elem?}
use lib.Seq.{set-get_or}
use Rattle.atomic_table.specs.Table.{step, keeps, carried_after, Allows}
use Rattle.mq_turns.specs.Meaning.{AreLaws, Meaning, newest, claimed, written, raised, charged}
use Rattle.mq_turns.specs.Lists.{tally, times}
use Rattle.mq_turns.specs.Marks.{mark_of, claim_of, queues_of, shown, Marked, Reader}
use Rattle.mq_turns.specs.Desk.{slots, IsTurn, slot_of, turn_at, Sat, Now, Stay, Sees, Turns, Numbers, Words, Sessions, Ruled}
use Rattle.mq_turns.specs.Words.{same_turn, after_peek, after_clear, after_base, after_raise, after_notice, MayClear, MayRaise, MayNote, peeked, cleared, based, raised_to, noticed}
use Rattle.mq_turns.specs.declared.rule.Claim.{Claim}
use Rattle.mq_turns.specs.declared.rule.Charge.{Charge}
use Rattle.mq_turns.specs.declared.rule.Opening.{Opening}
use Rattle.mq_turns.specs.declared.rule.Known.{Known}
use Rattle.mq_turns.specs.declared.rule.Reading.{Reading}
use Rattle.mq_turns.specs.declared.rule.ChairView.{ChairView}
use Rattle.mq_turns.specs.declared.rule.Notice.{Notice}
use Rattle.mq_turns.specs.declared.rule.MarkAnswer.TheVariants.{Base, Front}
use Rattle.mq_turns.specs.declared.rule.Notice.TheVariants as notice
use Rattle.mq_turns.specs.declared.turn.Turn.{Turn}
use Rattle.mq_turns.specs.declared.turn.Turn.TheVariants.{Side, Root}
use Rattle.mq_turns.proofs.Meaning.{grows_now, grows_claimed, grows_written, grows_raised, grows_charged, stays_claimed, stays_written, stays_raised, stays_charged}
use Rattle.mq_turns.proofs.WordsChanges.{not_same, holds_one, changes}
use Rattle.mq_turns.proofs.DeskKeeping.{sees}
use Rattle.mq_turns.proofs.MarksClaims.{reader_grows, reader_shown, mark_shows, claim_shows, marked_claimed}
use Rattle.mq_turns.proofs.DeskNumbers.{numbers_stay}
use Rattle.mq_turns.proofs.DeskSessions.{sessions_stay}
use Rattle.mq_turns.proofs.DeskTurns.{turns_look}
use Rattle.mq_turns.proofs.MarksReadings.{charges_in, words_step}

shown_charged : {P Q R E : Type 0} (queues q n : ℕ) (r : Reading P Q R E) → (shown queues q n r).charged ≡ r.charged
shown_charged queues q n r = elim (cases_Bool (eqb q 0)) [
  | inl first ↦ rw first refl
  | inr later ↦ elim (cases_Bool (eqb q r.swept)) [
    | inl next ↦ rw (later, next) refl
    | inr other ↦ rw (later, other) refl
  ]
]

queues_seen : {P Q R E : Type 0} (μ : Meaning P Q R E) (K : Known P Q R E) (v : ChairView P Q R E) → Sees μ v K → queues_of v.opening ≡ length K.opening.sides
queues_seen μ K v s = ap queues_of s.opening

module _ {M P Q R E : Type 0} (μ : Meaning P Q R E) (o : Opening P Q R) (chairs : ℕ) where
  abbrev Rule : Now M P Q R E → Type 0
  Rule = Ruled μ o chairs

  -- a word is read that is no turn's
  rereads : (K : Known P Q R E) (s : Now M P Q R E) (id : ℕ) (v : ChairView P Q R E) (r : Reading P Q R E) (word : ℕ) → K.opening ≡ o → Turns μ (turn_at o) K s → Numbers μ chairs K s → Words μ K s → Sessions μ K s → get_elem? s.views id ≡ some v
      → 0 < v.parts → r.charged ≡ v.reading.charged → Reader μ K r → Rule record { words = set s.words word (get_or s.words word 0); homes = s.homes; views = set s.views id (record v { reading = r }) }
  rereads K s id v r word is t n x y at live same reader =
      let w : ChairView P Q R E = record v { reading = r } in
      subst (λ (ws : List ℕ). Rule record { words = ws; homes = s.homes; views = set s.views id w }) (sym (set-get_or s.words word 0)) (
        K,
        is,
        turns_look μ (turn_at o) K s id v w s.words t at refl refl refl refl (λ _ _. refl),
        numbers_stay μ chairs K s id v w s.words s.homes n at refl refl refl refl refl refl refl refl,
        words_step μ K K s id v w s.words s.homes x at refl refl record { grows = grows_now K; marked = x.marked; marks = x.marks; base = x.base; charges = λ f. let a = ap (tally f) same in omega arith; reader = reader; idle = λ z. absurd (omega arith) },
        sessions_stay μ K K s id v w s.words s.homes y at refl refl refl refl refl refl,
      )

  -- the mark of a queue is read
  pub peeks : (deep id : ℕ) (me : Sat M P Q R E) (word : ℕ) → deep < word → word < suc (deep + length o.sides) → 0 < me.0.parts → Allows Rule deep id me word (λ n. n) (peeked μ (step deep word 0 0 none) me)
  peeks deep id me word lo hi live s rk len at fits =
      let K : Known P Q R E = rk.0 in
      let v : ChairView P Q R E = me.0 in
      let q : ℕ = word - suc deep in
      let m : ℕ = get_or s.words word 0 in
      let seen = sees μ o chairs K s id v rk.1 rk.2 rk.3 rk.4 rk.5 at live in
      let sides : length K.opening.sides ≡ length o.sides = ap (λ p. length p.sides) rk.1 in
      let here : suc (length s.homes + q) ≡ word = omega arith in
      let is : m ≡ mark_of q K.claims = ap (λ i. get_or s.words i 0) (sym here) ∙ rk.4.marks q (omega arith) in
      let positive = rk.4.marked.above q in
      let n : ℕ = min (m - 1) (newest K) in
      let r : Reading P Q R E = shown (queues_of v.opening) q n v.reading in (
        after_peek q m K v,
        keeps,
        tt,
        rereads K s id v r word rk.1 rk.2 rk.3 rk.4 rk.5 at live (shown_charged (queues_of v.opening) q n v.reading)
            (reader_shown μ (queues_of v.opening) q n K v.reading rk.4.marked (queues_seen μ K v seen) (rk.4.each_chair id v at) (omega arith) (mark_shows μ q n K rk.4.marked (omega arith))),
        (K, refl, sym is, seen),
      )

  -- the base is read
  pub reads_base : (deep id : ℕ) (me : Sat M P Q R E) (word : ℕ) → word ≡ suc (deep + length o.sides) → 0 < me.0.parts → Allows Rule deep id me word (λ n. n) (based μ (step deep word 0 0 none) me)
  reads_base deep id me word is live s rk len at fits =
      let K : Known P Q R E = rk.0 in
      let v : ChairView P Q R E = me.0 in
      let m : ℕ = get_or s.words word 0 in
      let d = rk.4.each_chair id v at in
      let sides : length K.opening.sides ≡ length o.sides = ap (λ p. length p.sides) rk.1 in
      let here : word ≡ suc (length s.homes + length K.opening.sides) = omega arith in
      let now : m ≡ K.word = ap (λ i. get_or s.words i 0) here ∙ rk.4.base in (
        after_base m v,
        keeps,
        tt,
        rereads K s id v (record v.reading { base = m; answers = Base m ∷ v.reading.answers }) word rk.1 rk.2 rk.3 rk.4 rk.5 at live refl record { low = d.low; swept = d.swept; last = d.last; done = d.done; base = omega arith; pages = d.pages },
        (K, refl, sym now, sees μ o chairs K s id v rk.1 rk.2 rk.3 rk.4 rk.5 at live),
      )

  -- a mark is stored, and the queue's numbers below it are known done
  pub clears : AreLaws μ → (deep id : ℕ) (me : Sat M P Q R E) (word low : ℕ) → deep ≡ slots o → deep < word → word < suc (deep + length o.sides) → 0 < me.0.parts → 1 ≤ low → 0 < times (slot_of o (Side (word - suc deep))) me.0.held → MayClear μ (word - suc deep) low me.0
      → Allows Rule deep id me word (λ _. low) (λ _. cleared μ (step deep word low 0 none) me low)
  clears laws deep id me word low count_is lo hi live positive mine may s rk len at fits =
      let K : Known P Q R E = rk.0 in
      let v : ChairView P Q R E = me.0 in
      let q : ℕ = word - suc deep in
      let c : Claim = claim_of q low (newest K) in
      let L : Known P Q R E = claimed c K in
      let seen = sees μ o chairs K s id v rk.1 rk.2 rk.3 rk.4 rk.5 at live in
      let sides : length K.opening.sides ≡ length o.sides = ap (λ p. length p.sides) rk.1 in
      let here : suc (length s.homes + q) ≡ word = omega arith in
      let wide = rk.4.wide in
      let words' : List ℕ = set s.words word low in
      let n : ℕ = min (low - 1) (newest K) in
      let marked = marked_claimed μ q low K rk.4.marked positive in
      let w : ChairView P Q R E = after_clear q low K v in (
        w,
        keeps,
        tt,
        changes μ o chairs laws (same_turn (Side q)) K L s id v w words' rk.1 rk.2 rk.3 rk.4 rk.5 at (len ∙ count_is) (may K seen)
            (λ t apart. stays_claimed μ.touches μ.lies t c K (not_same (Side q) t apart))
            (holds_one μ K.opening (Side q) v (subst (λ p. 0 < times (slot_of p (Side q)) v.held) (sym rk.1) mine))
            refl (length-set s.words word low) (λ k le. get_or-set_other s.words word k low 0 (λ e. omega arith))
            record {
              grows = grows_claimed c K;
              marked = marked;
              marks = λ p lt. dite (ℕ_discrete q p)
                  (λ e. let at_word : suc (length s.homes + p) ≡ word = omega arith in
                  let stored = get_or-set_same s.words word low 0 (omega arith) in rw (eq-eqb q p e) (ap (λ i. get_or words' i 0) at_word ∙ stored))
                  (λ ne. rw (ne_eqb q p ne) (get_or-set_other s.words word (suc (length s.homes + p)) low 0 (λ e. ne (omega arith)) ∙ rk.4.marks p lt));
              base = get_or-set_other s.words word (suc (length s.homes + length K.opening.sides)) low 0 (λ e. omega arith) ∙ rk.4.base;
              charges = λ f. let a = ap (tally f) (shown_charged (queues_of v.opening) q n v.reading) in omega arith;
              reader = reader_shown μ (queues_of v.opening) q n L v.reading marked (queues_seen μ K v seen) (reader_grows μ K L v.reading (grows_claimed c K) (rk.4.each_chair id v at)) (omega arith) (λ m e there le own. claim_shows μ q low K m e le own);
              idle = λ z. absurd (omega arith);
            }
            refl refl refl refl refl refl refl refl refl,
        (K, refl, seen),
      )

  -- the base is stored
  pub raises : AreLaws μ → (deep id : ℕ) (me : Sat M P Q R E) (word base : ℕ) → deep ≡ slots o → word ≡ suc (deep + length o.sides) → 0 < me.0.parts → 0 < times (slot_of o Root) me.0.held → MayRaise μ base me.0
      → Allows Rule deep id me word (λ _. base) (λ _. raised_to μ (step deep word base 0 none) me base)
  raises laws deep id me word base count_is is live mine may s rk len at fits =
      let K : Known P Q R E = rk.0 in
      let v : ChairView P Q R E = me.0 in
      let L : Known P Q R E = raised base K in
      let seen = sees μ o chairs K s id v rk.1 rk.2 rk.3 rk.4 rk.5 at live in
      let up = (may K seen).0 in
      let sides : length K.opening.sides ≡ length o.sides = ap (λ p. length p.sides) rk.1 in
      let here : suc (length s.homes + length K.opening.sides) ≡ word = omega arith in
      let wide = rk.4.wide in
      let words' : List ℕ = set s.words word base in
      let k = rk.4.marked in
      let d = reader_grows μ K L v.reading (grows_raised base K up) (rk.4.each_chair id v at) in
      let w : ChairView P Q R E = after_raise base K v in (
        w,
        keeps,
        tt,
        changes μ o chairs laws (same_turn Root) K L s id v w words' rk.1 rk.2 rk.3 rk.4 rk.5 at (len ∙ count_is) (may K seen).1
            (λ t apart. stays_raised μ.touches μ.lies t base K up (not_same Root t apart))
            (holds_one μ K.opening Root v (subst (λ p. 0 < times (slot_of p Root) v.held) (sym rk.1) mine))
            refl (length-set s.words word base) (λ j le. get_or-set_other s.words word j base 0 (λ e. omega arith))
            record {
              grows = grows_raised base K up;
              marked = record { own = k.own; undone = k.undone; above = k.above; word = let a = k.word in omega arith };
              marks = λ p lt. get_or-set_other s.words word (suc (length s.homes + p)) base 0 (λ e. omega arith) ∙ rk.4.marks p lt;
              base = let stored = get_or-set_same s.words word base 0 (omega arith) in ap (λ i. get_or words' i 0) here ∙ stored;
              charges = λ f. refl;
              reader = record { low = d.low; swept = d.swept; last = d.last; done = d.done; base = omega arith; pages = d.pages };
              idle = λ z. absurd (omega arith);
            }
            refl refl refl refl refl refl refl refl refl,
        (K, refl, seen),
      )

  -- a load of the counter, at which the chair makes something known of turns that it holds
  makes_known : AreLaws μ → (about : Turn → Bool) (K L : Known P Q R E) (s : Now M P Q R E) (id : ℕ) (v w : ChairView P Q R E) (word : ℕ) → K.opening ≡ o → Turns μ (turn_at o) K s → Numbers μ chairs K s → Words μ K s → Sessions μ K s → get_elem? s.views id ≡ some v
      → 0 < v.parts → length s.homes ≡ slots o → μ.ok L → ((t : Turn) → about t ≡ false → Stay μ t K L) → ((t : Turn) → IsTurn K.opening t → about t ≡ true → 0 < times (slot_of K.opening t) v.held) → Rattle.mq_turns.specs.Meaning.Grows K L → L.log ≡ K.log → L.claims ≡ K.claims → L.word ≡ K.word → Marked μ L
      → ((f : Charge → Bool) → charges_in f w + tally f K.charges ≡ charges_in f v + tally f L.charges) → Reader μ L w.reading
      → w.parts ≡ v.parts → w.opening ≡ v.opening → w.session ≡ v.session → w.sessions ≡ v.sessions → w.hand ≡ v.hand → w.seen ≡ v.seen → w.drawn ≡ v.drawn → w.read ≡ v.read → w.held ≡ Rattle.mq_turns.specs.Desk.refreshed (λ k. about (turn_at L.opening k)) L v.held
      → Rule record { words = set s.words word (get_or s.words word 0); homes = s.homes; views = set s.views id w }
  makes_known laws about K L s id v w word is t n x y at live deep ok stays holds g log claims base marked charges reader parts opening session sessions hand seen drew read held =
      subst (λ (ws : List ℕ). Rule record { words = ws; homes = s.homes; views = set s.views id w }) (sym (set-get_or s.words word 0)) (
      changes μ o chairs laws about K L s id v w s.words is t n x y at deep ok stays holds log refl (λ k le. refl)
      record {
        grows = g;
        marked = marked;
        marks = λ q lt. x.marks q lt ∙ ap (mark_of q) (sym claims);
        base = x.base ∙ sym base;
        charges = charges;
        reader = reader;
        idle = λ z. absurd (omega arith);
      }
      parts opening session sessions hand seen drew read held
      )

  -- a notice is given, at a load of the counter
  pub notes_it : AreLaws μ → (deep id : ℕ) (me : Sat M P Q R E) (word : ℕ) (x : Notice P) → deep ≡ slots o → 0 < me.0.parts → MayNote μ x me.0 → Allows Rule deep id me word (λ n. n) (noticed μ x (step deep word 0 0 none) me)
  notes_it laws deep id me word (notice.Home b n) count_is live may s rk len at fits =
      let K : Known P Q R E = rk.0 in
      let v : ChairView P Q R E = me.0 in
      let h : ℕ × ℕ = (b, n) in
      let seen = sees μ o chairs K s id v rk.1 rk.2 rk.3 rk.4 rk.5 at live in
      let g = grows_written h K in
      let k = rk.4.marked in
      let w : ChairView P Q R E = after_notice μ (notice.Home b n) K v in (
        w,
        keeps,
        tt,
        makes_known laws (μ.lies K.opening h) K (written h K) s id v w word rk.1 rk.2 rk.3 rk.4 rk.5 at live (len ∙ count_is) (may K seen).0
            (λ t apart. stays_written μ.touches μ.lies t h K apart) (may K seen).1 g refl refl refl
            record { own = k.own; undone = k.undone; above = k.above; word = k.word }
            (λ f. refl) (reader_grows μ K (written h K) v.reading g (rk.4.each_chair id v at)) refl refl refl refl refl refl refl refl refl,
        (K, refl, seen),
      )
  notes_it laws deep id me word (notice.Page b p) count_is live may s rk len at fits =
      let K : Known P Q R E = rk.0 in
      let v : ChairView P Q R E = me.0 in
      let seen = sees μ o chairs K s id v rk.1 rk.2 rk.3 rk.4 rk.5 at live in
      let d = rk.4.each_chair id v at in (
        after_notice μ (notice.Page b p) K v,
        keeps,
        tt,
        rereads K s id v (record v.reading { pages = (b, p, K) ∷ v.reading.pages }) word rk.1 rk.2 rk.3 rk.4 rk.5 at live refl record { low = d.low; swept = d.swept; last = d.last; done = d.done; base = d.base; pages = ((seen.ok, grows_now K, may K seen), d.pages) },
        (K, refl, seen),
      )
  notes_it laws deep id me word (notice.Front n) count_is live may s rk len at fits =
      let K : Known P Q R E = rk.0 in
      let v : ChairView P Q R E = me.0 in
      let seen = sees μ o chairs K s id v rk.1 rk.2 rk.3 rk.4 rk.5 at live in
      let d = rk.4.each_chair id v at in (
        after_notice μ (notice.Front n) K v,
        keeps,
        tt,
        rereads K s id v (record v.reading { answers = Front n ∷ v.reading.answers }) word rk.1 rk.2 rk.3 rk.4 rk.5 at live refl record { low = d.low; swept = d.swept; last = d.last; done = d.done; base = d.base; pages = d.pages },
        (K, refl, seen),
      )
  notes_it laws deep id me word (notice.Charge c) count_is live may s rk len at fits =
      let K : Known P Q R E = rk.0 in
      let v : ChairView P Q R E = me.0 in
      let seen = sees μ o chairs K s id v rk.1 rk.2 rk.3 rk.4 rk.5 at live in
      let g = grows_charged c K in
      let k = rk.4.marked in
      let d = reader_grows μ K (charged c K) v.reading g (rk.4.each_chair id v at) in
      let w : ChairView P Q R E = after_notice μ (notice.Charge c) K v in (
        w,
        keeps,
        tt,
        makes_known laws (same_turn c.port) K (charged c K) s id v w word rk.1 rk.2 rk.3 rk.4 rk.5 at live (len ∙ count_is) (may K seen).0
            (λ t apart. stays_charged μ.touches μ.lies t c K (not_same c.port t apart)) (holds_one μ K.opening c.port v (may K seen).1) g refl refl refl
            record { own = k.own; undone = k.undone; above = k.above; word = k.word }
            (λ f. omega arith) record { low = d.low; swept = d.swept; last = d.last; done = d.done; base = d.base; pages = d.pages } refl refl refl refl refl refl refl refl refl,
        (K, refl, seen),
      )

  pub notes_told : AreLaws μ → (deep id : ℕ) (me : Sat M P Q R E) (word : ℕ) (x : Notice P) (t : Option (Notice P)) → deep ≡ slots o → 0 < me.0.parts → MayNote μ x me.0 → t ≡ Some x
      → Allows Rule deep id me word (λ n. n) (λ n me'. (y : Notice P) → t ≡ Some y → noticed μ y (step deep word 0 0 none) me n me')
  notes_told laws deep id me word x t count_is live may told s r len at fits = let z = notes_it laws deep id me word x count_is live may s r len at fits in
      (z.0, z.1, z.2, z.3, λ y told'. let same : Some x ≡ Some y = sym told ∙ told' in let is : x ≡ y = cc in subst (λ a. noticed μ a (step deep word 0 0 none) me (get_or s.words word 0) (z.0, carried_after me.1 z.1)) is z.4)
