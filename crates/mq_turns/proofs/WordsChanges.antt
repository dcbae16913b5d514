-- What becomes known otherwise than by a draw: numbers are done, a home write ended, the base is raised.
use Rattle.std.proofs.Common.{◌≡◌, ◌≢◌, ℕ, ◌<◌, ◌≤◌, Bool, true, false, List, length, get_or, set, sym, refl, ap, ◌∙◌, subst, arith}
use Rattle.std.proofs.lemmas.Bool.{false≢true, eq-eqb, eqb-true}
use mathlib.Core.Option.{some}
use lib.ListN.{get_elem?}
use Rattle.mq_turns.specs.Lists.{times}
use Rattle.mq_turns.specs.Meaning.{AreLaws, Meaning}
use Rattle.mq_turns.specs.Desk.{slots, IsTurn, slot_of, turn_at, refreshed, Now, Stay, Turns, Numbers, Words, Sessions, Ruled}
use Rattle.mq_turns.specs.Words.{same_turn}
use Rattle.mq_turns.specs.declared.rule.Opening.{Opening}
use Rattle.mq_turns.specs.declared.rule.Known.{Known}
use Rattle.mq_turns.specs.declared.rule.ChairView.{ChairView}
use Rattle.mq_turns.specs.declared.turn.Turn.{Turn}
use Rattle.mq_turns.specs.declared.turn.Turn.TheVariants.{Page, Side, Root}
use Rattle.mq_turns.proofs.DeskNumbers.{numbers_change}
use Rattle.mq_turns.proofs.DeskSessions.{sessions_stay}
use Rattle.mq_turns.proofs.DeskSlots.{turn_of_slot, slot_of_turn}
use Rattle.mq_turns.proofs.DeskTurns.{Change, turns_change}
use Rattle.mq_turns.proofs.MarksReadings.{Told, words_step}

pub same_turn-same : (t : Turn) → same_turn t t ≡ true
same_turn-same (Page b) = eq-eqb b b refl
same_turn-same (Side q) = eq-eqb q q refl
same_turn-same Root = refl

pub not_same : (t u : Turn) → same_turn t u ≡ false → t ≢ u
not_same t u apart same = false≢true (sym apart ∙ (ap (same_turn t) (sym same) ∙ same_turn-same t))

pub turn_is : (t u : Turn) → same_turn t u ≡ true → t ≡ u
turn_is (Page a) (Page b) e = ap Page (eqb-true a b e)
turn_is (Page a) (Side b) e = absurd (false≢true e)
turn_is (Page a) Root e = absurd (false≢true e)
turn_is (Side a) (Page b) e = absurd (false≢true e)
turn_is (Side a) (Side b) e = ap Side (eqb-true a b e)
turn_is (Side a) Root e = absurd (false≢true e)
turn_is Root (Page b) e = absurd (false≢true e)
turn_is Root (Side b) e = absurd (false≢true e)
turn_is Root Root e = refl

module _ {P Q R E : Type 0} (μ : Meaning P Q R E) (o : Opening P Q R) where
  -- the chair holds each turn of the desk that the step is about
  abbrev pub HoldsAll : (Turn → Bool) → ChairView P Q R E → Type 0
  HoldsAll about v = (t : Turn) → IsTurn o t → about t ≡ true → 0 < times (slot_of o t) v.held

  abbrev pub slots_about : (Turn → Bool) → ℕ → Bool
  slots_about about k = about (turn_at o k)

  -- what is known grows by a step that is about some turns
  pub change_by : (about : Turn → Bool) (count : ℕ) (K L : Known P Q R E) (v : ChairView P Q R E) → count ≡ slots o → μ.ok L → ((t : Turn) → about t ≡ false → Stay μ t K L) → HoldsAll about v → Change μ (turn_at o) count (slots_about about) K L v
  change_by about count K L v deep ok stays holds = record {
    ok = ok;
    stays = λ k apart. stays (turn_at o k) apart;
    mine = λ k lt is. let here : k < slots o = omega arith in subst (λ j. 0 < times j v.held) (slot_of_turn o k here) (holds (turn_at o k) (turn_of_slot o k here) is);
  }

  -- the chair holds the turn, and the step is about it alone
  pub holds_one : (t : Turn) (v : ChairView P Q R E) → 0 < times (slot_of o t) v.held → HoldsAll (same_turn t) v
  holds_one t v mine u lt is = subst (λ w. 0 < times (slot_of o w) v.held) (turn_is t u is) mine

module _ {M P Q R E : Type 0} (μ : Meaning P Q R E) (o : Opening P Q R) (chairs : ℕ) where
  -- a step on a word that is no turn's and not the counter, by a chair that holds what it is about: the
  -- rule holds by what is known then
  pub changes : AreLaws μ → (about : Turn → Bool) (K L : Known P Q R E) (s : Now M P Q R E) (id : ℕ) (v w : ChairView P Q R E) (words' : List ℕ) → K.opening ≡ o → Turns μ (turn_at o) K s → Numbers μ chairs K s → Words μ K s → Sessions μ K s → get_elem? s.views id ≡ some v
      → length s.homes ≡ slots o → μ.ok L → ((t : Turn) → about t ≡ false → Stay μ t K L) → HoldsAll μ K.opening about v → L.log ≡ K.log
      → length words' ≡ length s.words → ((k : ℕ) → k ≤ length s.homes → get_or words' k 0 ≡ get_or s.words k 0) → Told μ K L s v w words'
      → w.parts ≡ v.parts → w.opening ≡ v.opening → w.session ≡ v.session → w.sessions ≡ v.sessions → w.hand ≡ v.hand → w.seen ≡ v.seen → w.drawn ≡ v.drawn → w.read ≡ v.read → w.held ≡ refreshed (slots_about μ L.opening about) L v.held
      → Ruled μ o chairs record { words = words'; homes = s.homes; views = set s.views id w }
  changes laws about K L s id v w words' is r n x y at deep ok stays holds same wide word told parts opening session sessions hand seen drew read held =
      let g = told.grows in
      let touched : ℕ → Bool = slots_about μ L.opening about in
      let turns : Turns μ (turn_at K.opening) K s = subst (λ p. Turns μ (turn_at p) K s) (sym is) r in
      let count : length s.homes ≡ slots K.opening = deep ∙ ap slots (sym is) in
      let change : Change μ (turn_at K.opening) (length s.homes) touched K L v = subst (λ p. Change μ (turn_at K.opening) (length s.homes) (slots_about μ p about) K L v) (sym g.opening) (change_by μ K.opening about (length s.homes) K L v count ok stays holds) in
      let s' : Now M P Q R E = record { words = words'; homes = s.homes; views = set s.views id w } in (
        L,
        g.opening ∙ is,
        subst (λ p. Turns μ (turn_at p) L s') is (turns_change μ (turn_at K.opening) laws touched K L s id v w words' turns at change parts hand held wide (λ k lt. word k (omega arith))),
        numbers_change μ chairs K L s id v w words' n at g same (word (length s.homes) (omega arith)) parts opening session seen drew read,
        words_step μ K L s id v w words' s.homes x at wide refl told,
        sessions_stay μ K L s id v w words' s.homes y at g.opening same parts session sessions drew,
      )
