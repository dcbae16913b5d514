-- What a chair may draw from what it sees, whatever is known by then.
use Rattle.std.proofs.Common.{◌≡◌, ℕ, ◌<◌, Bool, true, cond, List, [], ◌∷◌, ◌++◌, inl, inr, sym, ap, ◌∙◌, subst, arith, Some, None}
use Rattle.std.proofs.lemmas.Bool.{false≢true}
use mathlib.Core.Logic.{dite}
use native.Mathlib.Decide.{ℕ_discrete}
use Rattle.mq_turns.specs.Meaning.{AreLaws, Meaning, Apart, HasNumberAt}
use Rattle.mq_turns.specs.Lists.{Each, times}
use Rattle.mq_turns.specs.Marks.{mark_of}
use Rattle.mq_turns.specs.Chairs.{holding}
use Rattle.mq_turns.specs.Desk.{IsTurn, slot_of, turn_at, refreshed, after_look, Stay, Sees, Stands}
use Rattle.mq_turns.specs.declared.rule.Opening.{Opening}
use Rattle.mq_turns.specs.declared.rule.Known.{Known}
use Rattle.mq_turns.specs.declared.rule.ChairView.{ChairView}
use Rattle.mq_turns.specs.declared.turn.Turn.{Turn}
use Rattle.mq_turns.specs.declared.turn.Turn.TheVariants.{Side}
use Rattle.mq_turns.specs.declared.turn.Item.{Item}
use Rattle.mq_turns.proofs.Lists.{miss}
use Rattle.mq_turns.proofs.MarksClaims.{mark_apart}
use Rattle.mq_turns.proofs.DeskSlots.{turn_at_slot}
use Rattle.mq_turns.proofs.DeskTurns.{along, times_refreshed}

some_same : {A : Type 0} {a b : A} → Some a ≡ Some b → a ≡ b
some_same e = cc

module _ {P Q R E : Type 0} (μ : Meaning P Q R E) where
  -- what is seen with one turn more was to be seen before, and what is known of that turn
  pub sees_before : (k : ℕ) (K1 K : Known P Q R E) (v : ChairView P Q R E) → Sees μ (holding k K1 v) K → Sees μ v K
  sees_before k K1 K v s = record { opening = s.opening; ok = s.ok; few = s.few; held = s.held.1; seen = s.seen; drew = s.drew; marked = s.marked; reader = s.reader; own = s.own }

  pub sees_taken : (k : ℕ) (K1 K : Known P Q R E) (v : ChairView P Q R E) → Sees μ (holding k K1 v) K → μ.ok K1 × Stay μ (turn_at K.opening k) K1 K
  sees_taken k K1 K v s = s.held.0

  -- what a chair has in hand is nothing that it sees
  pub sees_hand : (n : ℕ) (K : Known P Q R E) (v : ChairView P Q R E) → Sees μ (record v { hand = n }) K → Sees μ v K
  sees_hand n K v s = record { opening = s.opening; ok = s.ok; few = s.few; held = s.held; seen = s.seen; drew = s.drew; marked = s.marked; reader = s.reader; own = s.own }

  -- what is seen after a look was to be seen before
  pub sees_look : (K1 K : Known P Q R E) (v : ChairView P Q R E) → Sees μ v K1 → Sees μ (after_look None K1 v) K → Sees μ v K
  sees_look K1 K v before s = record { opening = s.opening; ok = s.ok; few = s.few; held = s.held; seen = let a = before.seen in let b = s.seen in omega arith; drew = s.drew; marked = s.marked; reader = s.reader; own = s.own }

  pub opening_seen : (o : Opening P Q R) (K : Known P Q R E) (v : ChairView P Q R E) → v.opening ≡ Some o → Sees μ v K → K.opening ≡ o
  opening_seen o K v is s = some_same (sym s.opening ∙ is)

  -- the turn of a slot is what it was at the opening
  pub turn_seen : (o : Opening P Q R) (K : Known P Q R E) (v : ChairView P Q R E) (t : Turn) → v.opening ≡ Some o → Sees μ v K → IsTurn o t → turn_at K.opening (slot_of o t) ≡ t
  turn_seen o K v t is s mine = ap (λ p. turn_at p (slot_of o t)) (opening_seen o K v is s) ∙ turn_at_slot o t mine

  -- of a turn that the chair holds, all that it says at each entry for the slot
  pub held_seen : (k : ℕ) (F : Known P Q R E → Type 0) (G : Type 0) (l : List (ℕ × Known P Q R E)) (S : ℕ → Known P Q R E → Type 0) → 0 < times k l → Each (λ h. h.0 ≡ k → F h.1) l → Each (λ h. S h.0 h.1) l → ((K : Known P Q R E) → S k K → F K → G) → G
  held_seen k F G [] S lt a b f = absurd (omega arith)
  held_seen k F G (h ∷ hs) S lt a b f = dite (ℕ_discrete h.0 k)
      (λ e. f h.1 (subst (λ j. S j h.1) e b.0) (a.0 e))
      (λ ne. let z = miss h.0 k ne in held_seen k F G hs S (omega arith) a.1 b.1 f)

  renewed_known : (touched : ℕ → Bool) (L : Known P Q R E) (k : ℕ) (l : List (ℕ × Known P Q R E)) → touched k ≡ true → Each (λ h. h.0 ≡ k → h.1 ≡ L) (refreshed touched L l)
  renewed_known touched L k [] about = tt
  renewed_known touched L k (h ∷ hs) about = ((λ e. ap (λ b. cond b L h.1) (ap touched e ∙ about)), renewed_known touched L k hs about)

  -- after a step of its own that is about a turn which it holds, the chair knows that turn by it
  pub stay_renewed : (touched : ℕ → Bool) (L K : Known P Q R E) (v w : ChairView P Q R E) (t : Turn) (k : ℕ) → w.held ≡ refreshed touched L v.held → touched k ≡ true → 0 < times k v.held → turn_at K.opening k ≡ t → Sees μ w K → μ.ok L × Stay μ t L K
  stay_renewed touched L K v w t k held about mine is s =
      held_seen k (λ N. N ≡ L) (μ.ok L × Stay μ t L K) (refreshed touched L v.held) (λ j N. μ.ok N × Stay μ (turn_at K.opening j) N K)
      (let z = times_refreshed touched L k v.held in omega arith)
      (renewed_known touched L k v.held about)
      (subst (Each (λ h. μ.ok h.1 × Stay μ (turn_at K.opening h.0) h.1 K)) held s.held)
      (λ N a same. subst (λ (z : Known P Q R E). μ.ok z × Stay μ t z K) same (a.0, subst (λ u. Stay μ u N K) is a.1))

  -- the mark of a queue whose side nothing touched
  pub mark_stays : (q : ℕ) (L K : Known P Q R E) → Stay μ (Side q) L K → mark_of q K.claims ≡ mark_of q L.claims
  mark_stays q L K s = ap (mark_of q) s.grows.claims ∙ mark_apart q s.grows.claimed L.claims s.claims

  quiet : AreLaws μ → (base q n : ℕ) (e : E) (newer log : List E) → μ.queue e ≡ q → Apart μ.touches newer log (Side q) → HasNumberAt base (newer ++ log) n e → HasNumberAt base log n e
  quiet laws base q n e [] log own a at = at
  quiet laws base q n e (x ∷ xs) log own a (inl at) = absurd (false≢true (sym a.0 ∙ (ap (λ y. μ.touches (xs ++ log) y (Side q)) at.1 ∙ (ap (λ p. μ.touches (xs ++ log) e (Side p)) (sym own) ∙ laws.own (xs ++ log) e))))
  quiet laws base q n e (x ∷ xs) log own a (inr at) = quiet laws base q n e xs log own a.1 at

  -- no entry of the queue was drawn since
  pub queue_stays : AreLaws μ → (q n : ℕ) (e : E) (L K : Known P Q R E) → Stay μ (Side q) L K → μ.queue e ≡ q → HasNumberAt K.opening.base K.log n e → HasNumberAt L.opening.base L.log n e
  queue_stays laws q n e L K s own at =
      let T : ℕ → List E → Type 0 = λ b l. HasNumberAt b l n e in
      quiet laws L.opening.base q n e s.grows.newer L.log own s.apart (subst (λ (z : ℕ × List E). T z.0 z.1) (λ i. (ap (λ o. o.base) s.grows.opening i, s.grows.log i)) at)

module _ {M P Q R E : Type 0} (μ : Meaning P Q R E) where
  -- what stands by what the chair knew of the turn stands by what is known now
  pub stands_seen : AreLaws μ → (K : Known P Q R E) (v : ChairView P Q R E) (t : Turn) (k : ℕ) (x : Item M P Q R E) → Sees μ v K → 0 < times k v.held → turn_at K.opening k ≡ t → Each (λ h. h.0 ≡ k → Stands μ t h.1 x) v.held → Stands μ t K x
  stands_seen laws K v t k x s mine is stands =
      held_seen μ k (λ N. Stands μ t N x) (Stands μ t K x) v.held (λ j N. μ.ok N × Stay μ (turn_at K.opening j) N K) mine stands s.held
      (λ N a b. along μ (turn_at K.opening) laws t N K x (subst (λ u. Stay μ u N K) is a.1) a.0 s.ok b)

  -- what stands after a step of the chair's own stands by what is known now
  pub stands_renewed : AreLaws μ → (touched : ℕ → Bool) (L K : Known P Q R E) (v w : ChairView P Q R E) (t : Turn) (k : ℕ) (x : Item M P Q R E) → w.held ≡ refreshed touched L v.held → touched k ≡ true → 0 < times k v.held → turn_at K.opening k ≡ t → Sees μ w K → Stands μ t L x → Stands μ t K x
  stands_renewed laws touched L K v w t k x held about mine is s b = let a = stay_renewed μ touched L K v w t k held about mine is s in along μ (turn_at K.opening) laws t L K x a.1 a.0 s.ok b

  -- the same, where the desk's opening is known
  pub stands_held : AreLaws μ → (o : Opening P Q R) (t : Turn) (v : ChairView P Q R E) (x : Item M P Q R E) → v.opening ≡ Some o → IsTurn o t → 0 < times (slot_of o t) v.held → Each (λ h. h.0 ≡ slot_of o t → Stands μ t h.1 x) v.held → (K : Known P Q R E) → Sees μ v K → Stands μ t K x
  stands_held laws o t v x opening mine some_held stands K s = stands_seen laws K v t (slot_of o t) x s some_held (turn_seen μ o K v t opening s mine) stands
