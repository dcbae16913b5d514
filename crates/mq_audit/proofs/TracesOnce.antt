-- A text is one trace at most, or has one first line that is not in its form.
use Rattle.std.proofs.Common.{◌≡◌, ◌⊎◌, ◌≤◌, ℕ, zero, suc, ◌+◌, ◌*◌, List, [], ◌∷◌, get_or, sym, ◌∙◌, ap, subst, refl, inl, inr}
use Rattle.std.specs.Prelude.{Result, Ok, Err, MatchResult}
use Rattle.std.proofs.Math.Bridge.{le_prop}
use Rattle.std.proofs.lemmas.Option.{same_Some}
use mathlib.Core.HLevel.{is_prop→PathP}
use Rattle.mq_blocks.specs.declared.geometry.Geometry.{Geometry}
use Rattle.mq_core.specs.Machine.{happens, AreAllowed, IsRefusedAt}
use Rattle.mq_core.specs.declared.event.Event.{Event}
use Rattle.mq_ledger.specs.Items.{Entries}
use Rattle.mq_ledger.specs.Plain.{plain}
use Rattle.mq_ledger.specs.State.{State}
use Rattle.mq_audit.specs.Findings.{Finds, IsAccepted, IsFinding}
use Rattle.mq_audit.specs.Traces.{Trace, HasHead, HasNoHead, IsHead, IsMisread, IsTrace, lines_of, rest_in, start_of, tail_of}
use Rattle.mq_audit.specs.declared.finding.Finding.{Finding}
use Rattle.mq_audit.specs.declared.finding.Finding.TheVariants.{Accepted, Refused}
use Rattle.mq_audit.specs.declared.refusal.TraceRefusal.{TraceRefusal}
use Rattle.mq_audit.specs.declared.refusal.TraceRefusal.TheVariants.{Line, OutOfMemory}

-- a geometry is its four numbers
same_geometry : (g h : Geometry) → g.queues ≡ h.queues → g.area ≡ h.area → g.meta ≡ h.meta → g.zone ≡ h.zone → g ≡ h
same_geometry g h q a m z = λ i. record {
  queues = q i;
  area = a i;
  meta = m i;
  zone = z i;
  queues_low = is_prop→PathP (λ j. 1 ≤ q j) (λ j. le_prop) g.queues_low h.queues_low i;
  queues_high = is_prop→PathP (λ j. q j ≤ 16) (λ j. le_prop) g.queues_high h.queues_high i;
  area_low = is_prop→PathP (λ j. 1024 ≤ a j) (λ j. le_prop) g.area_low h.area_low i;
  area_high = is_prop→PathP (λ j. a j ≤ 16384) (λ j. le_prop) g.area_high h.area_high i;
  meta_low = is_prop→PathP (λ j. q j + 3 ≤ m j) (λ j. le_prop) g.meta_low h.meta_low i;
  zone_low = is_prop→PathP (λ j. 1 ≤ z j) (λ j. le_prop) g.zone_low h.zone_low i;
  homes_high = is_prop→PathP (λ j. m j + q j * z j ≤ 32768) (λ j. le_prop) g.homes_high h.homes_high i;
}

-- the numbers of a line that gives a geometry and a base
numbers_once : (line : List ℕ) (g h : Geometry) (b d : ℕ) → IsHead line g b → IsHead line h d → g.queues ∷ g.area ∷ g.meta ∷ g.zone ∷ b ∷ [] ≡ h.queues ∷ h.area ∷ h.meta ∷ h.zone ∷ d ∷ []
numbers_once line g h b d x y = same_Some _ _ (sym x.words ∙ y.words)

heads : (x y : List ℕ) (xs ys : List (List ℕ)) → x ∷ xs ≡ y ∷ ys → x ≡ y
heads x y xs ys e = cc

tails : (x y : List ℕ) (xs ys : List (List ℕ)) → x ∷ xs ≡ y ∷ ys → xs ≡ ys
tails x y xs ys e = cc

pub answer_once : (bytes : List ℕ) (one other : Result Trace ℕ) → HasHead bytes one → HasHead bytes other → one ≡ other
answer_once bytes one other x y =
    let lines = sym x.are ∙ y.are in
    let head = heads x.head y.head x.lines y.lines lines in
    let ns = numbers_once y.head x.geometry y.geometry x.base y.base (subst (λ l. IsHead l x.geometry x.base) head x.is) y.is in
    let at : (k : ℕ) → get_or (x.geometry.queues ∷ x.geometry.area ∷ x.geometry.meta ∷ x.geometry.zone ∷ x.base ∷ []) k 0 ≡ get_or (y.geometry.queues ∷ y.geometry.area ∷ y.geometry.meta ∷ y.geometry.zone ∷ y.base ∷ []) k 0 = λ k. ap (λ (l : List ℕ). get_or l k 0) ns in
    let geometry = same_geometry x.geometry y.geometry (at 0) (at 1) (at 2) (at 3) in
    let rest = tails x.head y.head x.lines y.lines lines in
    sym x.rest ∙ (λ i. rest_in (geometry i) (at 4 i) (rest i) (tail_of bytes)) ∙ y.rest

no_head : (bytes : List ℕ) (answer : Result Trace ℕ) → HasNoHead (lines_of bytes) → HasHead bytes answer → ⊥
no_head bytes answer none x = none x.head x.lines x.geometry x.base x.are x.is

ok_err : (t : Trace) (n : ℕ) → ◌≡◌ {A = Result Trace ℕ} (Ok t) (Err n) → ⊥
ok_err t n e = cc

ok_same : (t u : Trace) → ◌≡◌ {A = Result Trace ℕ} (Ok t) (Ok u) → t ≡ u
ok_same t u e = cc

err_same : (m n : ℕ) → ◌≡◌ {A = Result Trace ℕ} (Err m) (Err n) → m ≡ n
err_same m n e = cc

-- a text that is a trace has no line that is not in its form
pub trace_good : (bytes : List ℕ) (t : Trace) (line : ℕ) → IsTrace bytes t → IsMisread bytes line → ⊥
trace_good bytes t line x (inl none) = no_head bytes (Ok t) none.1 x
trace_good bytes t line x (inr y) = ok_err t line (answer_once bytes (Ok t) (Err line) x y)

line_once : (bytes : List ℕ) (m n : ℕ) → IsMisread bytes m → IsMisread bytes n → m ≡ n
line_once bytes m n (inl x) (inl y) = x.0 ∙ sym y.0
line_once bytes m n (inl x) (inr y) = absurd (no_head bytes (Err n) x.1 y)
line_once bytes m n (inr x) (inl y) = absurd (no_head bytes (Err m) y.1 x)
line_once bytes m n (inr x) (inr y) = err_same m n (answer_once bytes (Err m) (Err n) x y)

-- what is found says exactly where a text is no trace, and of a trace all
pub line_is_found : (bytes : List ℕ) (r : Result Finding TraceRefusal) → IsFinding bytes r → (line : ℕ) → IsMisread bytes line → MatchResult r (λ f. ⊥) (λ e. (e ≡ Line line) ⊎ (e ≡ OutOfMemory))
line_is_found bytes (Ok f) found line bad = absurd (trace_good bytes found.0 line found.1 bad)
line_is_found bytes (Err (Line n)) found line bad = inl (ap Line (line_once bytes n line found bad))
line_is_found bytes (Err OutOfMemory) found line bad = inr refl

pub trace_is_found : (bytes : List ℕ) (r : Result Finding TraceRefusal) → IsFinding bytes r → (t : Trace) → IsTrace bytes t → MatchResult r (Finds t) (λ e. e ≡ OutOfMemory)
trace_is_found bytes (Ok f) found t is = subst (λ u. Finds u f) (ok_same found.0 t (answer_once bytes (Ok found.0) (Ok t) found.1 is)) found.2
trace_is_found bytes (Err (Line n)) found t is = absurd (trace_good bytes t n is found)
trace_is_found bytes (Err OutOfMemory) found t is = refl

-- ---- what is found of a run

allowed_all : (e : Entries) (vs : List Event) (s : State) (n : ℕ) → AreAllowed e vs s → IsRefusedAt e vs s n → ⊥
allowed_all e [] s n a r = absurd r
allowed_all e (v ∷ vs) s zero a r = r a.0
allowed_all e (v ∷ vs) s (suc n) a r = allowed_all e vs (happens e v s) n a.1 r.1

refused_once : (e : Entries) (vs : List Event) (s : State) (m n : ℕ) → IsRefusedAt e vs s m → IsRefusedAt e vs s n → m ≡ n
refused_once e [] s m n a b = absurd a
refused_once e (v ∷ vs) s zero zero a b = refl
refused_once e (v ∷ vs) s zero (suc n) a b = absurd (a b.0)
refused_once e (v ∷ vs) s (suc m) zero a b = absurd (b a.0)
refused_once e (v ∷ vs) s (suc m) (suc n) a b = ap (λ (k : ℕ). suc k) (refused_once e vs (happens e v s) m n a.1 b.1)

finds_all : (t : Trace) (f : Finding) → AreAllowed plain t.events (start_of t) → Finds t f → IsAccepted f
finds_all t (Accepted events drawn done waits least greatest) a found = tt
finds_all t (Refused line) a found = allowed_all plain t.events (start_of t) found.0 a found.2

finds_first : (t : Trace) (f : Finding) (index : ℕ) → IsRefusedAt plain t.events (start_of t) index → Finds t f → f ≡ Refused (index + 3)
finds_first t (Accepted events drawn done waits least greatest) index r found = absurd (allowed_all plain t.events (start_of t) index found.0 r)
finds_first t (Refused line) index r found = ap Refused (found.1 ∙ ap (λ n. n + 3) (refused_once plain t.events (start_of t) found.0 index found.2 r))

pub accepted_is_found : (t : Trace) (r : Result Finding TraceRefusal) → AreAllowed plain t.events (start_of t) → MatchResult r (Finds t) (λ e. e ≡ OutOfMemory) → MatchResult r IsAccepted (λ e. e ≡ OutOfMemory)
accepted_is_found t (Ok f) a m = finds_all t f a m
accepted_is_found t (Err e) a m = m

pub refused_is_found : (t : Trace) (r : Result Finding TraceRefusal) (index : ℕ) → IsRefusedAt plain t.events (start_of t) index → MatchResult r (Finds t) (λ e. e ≡ OutOfMemory) → MatchResult r (λ f. f ≡ Refused (index + 3)) (λ e. e ≡ OutOfMemory)
refused_is_found t (Ok f) index a m = finds_first t f index a m
refused_is_found t (Err e) index a m = m
