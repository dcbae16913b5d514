-- Claims, home writes and charges that are added.
use Rattle.std.proofs.Common.{◌≡◌, ◌≢◌, ℕ, ◌<◌, ◌≤◌, ◌&&◌, Bool, true, false, List, [], ◌∷◌, ◌++◌, Option, Some, None, nat_le, sym, refl, ap, ◌∙◌, inl, inr, arith, eqb}
use Rattle.std.proofs.lemmas.Bool.{cases_Bool, eq-eqb, ne_eqb, eqb-true, leb-true, or_cases, or_right, and_parts, false≢true}
use Rattle.mq_blocks.specs.declared.geometry.Geometry.{Geometry}
use Rattle.mq_desk_laws.specs.Pages.{is_ended, last_ended}
use Rattle.mq_drive.specs.Steps.{PortFault}
use Rattle.mq_turns.specs.Lists.{Each}
use Rattle.mq_turns.specs.Marks.{is_claimed}
use Rattle.mq_turns.specs.Words.{same_turn}
use Rattle.mq_turns.specs.declared.rule.Charge.{Charge}
use Rattle.mq_turns.specs.declared.rule.Claim.{Claim}
use Rattle.mq_turns.specs.declared.turn.Turn.{Turn}
use Rattle.mq_turns.specs.declared.turn.Turn.TheVariants.{Side}
use Rattle.mq_turns.proofs.WordsChanges.{turn_is}
use Rattle.mq_desk_laws.specs.Faults.{AreCharged, WasGained, charged_to, named_by, of_kind, reports_of}
use Rattle.mq_desk_laws.specs.Rule.{same_port}

pub claimed_more : (l m : List Claim) (q n : ℕ) → is_claimed q n m ≡ true → is_claimed q n (l ++ m) ≡ true
claimed_more [] m q n e = e
claimed_more (c ∷ cs) m q n e = or_right (eqb c.queue q && nat_le n c.up_to) (is_claimed q n (cs ++ m)) (claimed_more cs m q n e)

pub claimed_apart : (l m : List Claim) (q n : ℕ) → Each (λ c. Side c.queue ≢ Side q) l → is_claimed q n (l ++ m) ≡ true → is_claimed q n m ≡ true
claimed_apart [] m q n a e = e
claimed_apart (c ∷ cs) m q n a e = elim (or_cases (eqb c.queue q && nat_le n c.up_to) (is_claimed q n (cs ++ m)) e) [
  | inl mine ↦ absurd (a.0 (ap Side (eqb-true _ _ (and_parts (eqb c.queue q) (nat_le n c.up_to) mine).0)))
  | inr rest ↦ claimed_apart cs m q n a.1 rest
]

-- a number above all claims is not claimed
pub unclaimed : (top : ℕ) (cs : List Claim) (q n : ℕ) → Each (λ c. c.up_to ≤ top) cs → top < n → is_claimed q n cs ≡ false
unclaimed top [] q n a lt = refl
unclaimed top (c ∷ cs) q n a lt = elim (cases_Bool (is_claimed q n (c ∷ cs))) [
  | inr e ↦ e
  | inl e ↦ elim (or_cases (eqb c.queue q && nat_le n c.up_to) (is_claimed q n cs) e) [
    | inl mine ↦ absurd (let le = leb-true _ _ (and_parts (eqb c.queue q) (nat_le n c.up_to) mine).1 in let b = a.0 in omega arith)
    | inr rest ↦ absurd (false≢true (sym (unclaimed top cs q n a.1 lt) ∙ rest))
  ]
]

pub ended_more : (x v : ℕ) (l m : List (ℕ × ℕ)) → is_ended m x v ≡ true → is_ended (l ++ m) x v ≡ true
ended_more x v [] m e = e
ended_more x v (h ∷ hs) m e = or_right (eqb h.0 x && eqb h.1 v) (is_ended (hs ++ m) x v) (ended_more x v hs m e)

pub ended_apart : (x v : ℕ) (l m : List (ℕ × ℕ)) → Each (λ h. h.0 ≢ x) l → is_ended (l ++ m) x v ≡ true → is_ended m x v ≡ true
ended_apart x v [] m a e = e
ended_apart x v (h ∷ hs) m a e = elim (or_cases (eqb h.0 x && eqb h.1 v) (is_ended (hs ++ m) x v) e) [
  | inl mine ↦ absurd (a.0 (eqb-true _ _ (and_parts (eqb h.0 x) (eqb h.1 v) mine).0))
  | inr rest ↦ ended_apart x v hs m a.1 rest
]

pub last_ended_apart : (base x : ℕ) (l m : List (ℕ × ℕ)) → Each (λ h. h.0 ≢ x) l → last_ended base (l ++ m) x ≡ last_ended base m x
last_ended_apart base x [] m a = refl
last_ended_apart base x (h ∷ hs) m a = rw (ne_eqb h.0 x a.0) (last_ended_apart base x hs m a.1)

-- what is charged to other ports
pub charged_apart : (g : Geometry) (t : Turn) (f : PortFault → Bool) (l m : List Charge) → Each (λ c. c.port ≢ t) l → charged_to g t f (l ++ m) ≡ charged_to g t f m
charged_apart g t f [] m a = refl
charged_apart g t f (c ∷ cs) m a = elim (cases_Bool (same_turn t c.port)) [
  | inl mine ↦ absurd (a.0 (sym (turn_is t c.port mine)))
  | inr other ↦ rw other (let ih = charged_apart g t f cs m a.1 in omega arith)
]

-- and reported of them
pub reports_apart : (t : Turn) (l m : List Charge) → Each (λ c. c.port ≢ t) l → reports_of t (l ++ m) ≡ reports_of t m
reports_apart t [] m a = refl
reports_apart t (c ∷ cs) m a = elim (cases_Bool (same_turn t c.port)) [
  | inl mine ↦ absurd (a.0 (sym (turn_is t c.port mine)))
  | inr other ↦ rw other (reports_apart t cs m a.1)
]

named_apart : (g : Geometry) (t : Turn) (old new : List PortFault) (l m : List Charge) → Each (λ c. c.port ≢ t) l → Each (λ c. c.port ≡ t → WasGained (named_by g c.report) old new) m → Each (λ c. c.port ≡ t → WasGained (named_by g c.report) old new) (l ++ m)
named_apart g t old new [] m a each = each
named_apart g t old new (c ∷ cs) m a each = ((λ same. absurd (a.0 same)), named_apart g t old new cs m a.1 each)

pub backed_apart : (g : Geometry) (t : Turn) (l m : List Charge) (old new : List PortFault) → Each (λ c. c.port ≢ t) l → AreCharged g t m old new → AreCharged g t (l ++ m) old new
backed_apart g t l m old new a (inl full) = inl full
backed_apart g t l m old new a (inr backed) = inr (record {
  more = backed.more;
  counts = λ f. let same = charged_apart g t (of_kind f) l m a in let was = backed.counts f in omega arith;
  named = named_apart g t old new l m a backed.named;
})

pub same_port-same : (z : Option ℕ) → same_port z z ≡ true
same_port-same None = refl
same_port-same (Some q) = eq-eqb q q refl
