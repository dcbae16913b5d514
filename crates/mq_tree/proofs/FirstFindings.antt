-- The first finding of a phase, and of all phases.
use Rattle.std.proofs.Common.{◌≡◌, ◌⊎◌, inl, inr, ℕ, ◌+◌, ◌<◌, ◌≤◌, refl, sym, ap, subst, ◌∙◌, arith}
use Rattle.std.specs.Prelude.{Option, Some, None, MatchOption, Result, Ok, Err, MatchResult, IfErr, OnOk, if◌then◌else◌}
use Rattle.std.proofs.lemmas.Result.{IfErr-weaker}
use Rattle.std.proofs.lemmas.Bool.{cases_lt, le-leb, lt-leb}
use Rattle.mq_blocks.specs.declared.geometry.Geometry.{Geometry}
use Rattle.mq_tree.specs.Clean.{AreApart, AreDirs, AreLinked, AreMarked, AreNamed, AreNamedOnce, AreOnce, ArePointers, AreReached, IsTable}
use Rattle.mq_tree.specs.Corrupt.{BadDir, BadName, BadPointer, HasTail, IsCorrupt, IsMiscounted, IsShared, IsSharedBlock, IsSharedDir, IsTwin, Refuses}
use Rattle.mq_tree.specs.Decoded.{Stored, volume_in}
use Rattle.mq_tree.specs.Directories.{RefusesTwin}
use Rattle.mq_tree.specs.Least.{IsLeast, IsLeastOf, lesser}
use Rattle.mq_tree.specs.Phases.{AreClean, Finds, IsBefore, IsFirstIn, IsFirstName, RefusesByPhase, RefusesFirst, RefusesIn, counts, dirs, first_of, names, pointers, rank, refusal_in, refusal_of, root, shared, table, tails, twins, unmarked, unreached}
use Rattle.mq_tree.specs.declared.corrupt.CorruptCause.{CorruptCause}
use Rattle.mq_tree.specs.declared.corrupt.CorruptCause.TheVariants.{Layout, Pointer, Shared, Count, Twin, Kind, Tail}
use Rattle.mq_tree.specs.declared.corrupt.MountRefusal.{MountRefusal}
use Rattle.mq_tree.specs.declared.corrupt.MountRefusal.TheVariants.{Corrupt, OutOfMemory}
use Rattle.mq_tree.specs.declared.corrupt.PhaseRefusal.{PhaseRefusal}
use Rattle.mq_tree.specs.declared.corrupt.PhaseRefusal.TheVariants.{Found, OutOfMemory as NoMemory}
use Rattle.mq_tree.proofs.Least.{least-either}
use Rattle.mq_tree.proofs.CorruptRefuted.{none-in_dirs, none-in_names, none-in_pointers, none-in_table, none-miscounted, none-shared, none-shared_dir, none-twice, unmarked-clean, unreached-clean}

-- what is clean has no least block
pub least-of : (F : ℕ → Type 0) (Clean : Type 0) (a : Option ℕ) → (Clean → (b : ℕ) → F b → ⊥) → MatchOption a Clean (IsLeast F) → IsLeastOf F a
least-of F Clean None none clean = none clean
least-of F Clean (Some a) none least = least

-- ---- the first of two searches

-- Two searches of a phase, each for its cause at a block, find what the phase looks for.
pub record AreSearches (g : Geometry) (s : Stored) (phase : ℕ) (c d : CorruptCause) (F G : ℕ → Type 0) : Type 0 where
  pub one : (b : ℕ) → F b → Finds g s phase c b
  pub two : (b : ℕ) → G b → Finds g s phase d b
  pub only : (o : CorruptCause) (b : ℕ) → Finds g s phase o b → ((o ≡ c) × F b) ⊎ ((o ≡ d) × G b)
  pub order : rank c ≤ rank d

abbrev Answers : Geometry → Stored → ℕ → Option MountRefusal → Type 0
Answers g s phase None = Unit {0}
Answers g s phase (Some e) = RefusesIn g s phase e

before-from : (c o : CorruptCause) (a n : ℕ) → a ≤ n → rank c ≤ rank o → IsBefore c a o n
before-from c o a n low order = elim (cases_lt a n) [
  | inl less ↦ inl less
  | inr more ↦ inr (omega arith, order)
]

ranks : (c o : CorruptCause) → o ≡ c → rank c ≤ rank o
ranks c o e = let f = ap rank e in omega arith

first-one : (g : Geometry) (s : Stored) (phase : ℕ) (c d : CorruptCause) (F G : ℕ → Type 0) (a : ℕ) → AreSearches g s phase c d F G → IsLeast F a → ((n : ℕ) → G n → a ≤ n) → IsFirstIn g s phase c a
first-one g s phase c d F G a h f low = record {
  found = h.one a f.wrong;
  first = λ o n finds. elim (h.only o n finds) [
    | inl x ↦ before-from c o a n (f.least n x.1) (ranks c o x.0)
    | inr y ↦ before-from c o a n (low n y.1) (let e = ap rank y.0 in let r = h.order in omega arith)
  ];
}

first-two : (g : Geometry) (s : Stored) (phase : ℕ) (c d : CorruptCause) (F G : ℕ → Type 0) (b : ℕ) → AreSearches g s phase c d F G → IsLeast G b → ((n : ℕ) → F n → b < n) → IsFirstIn g s phase d b
first-two g s phase c d F G b h f low = record {
  found = h.two b f.wrong;
  first = λ o n finds. elim (h.only o n finds) [
    | inl x ↦ inl (low n x.1)
    | inr y ↦ before-from d o b n (f.least n y.1) (ranks d o y.0)
  ];
}

first-answers : (g : Geometry) (s : Stored) (phase : ℕ) (c d : CorruptCause) (F G : ℕ → Type 0) (a b : Option ℕ) → AreSearches g s phase c d F G → IsLeastOf F a → IsLeastOf G b → Answers g s phase (first_of c a d b)
first-answers g s phase c d F G None None h f k = tt
first-answers g s phase c d F G (Some a) None h f k = first-one g s phase c d F G a h f (λ n y. absurd (k n y))
first-answers g s phase c d F G None (Some b) h f k = first-two g s phase c d F G b h k (λ n x. absurd (f n x))
first-answers g s phase c d F G (Some a) (Some b) h f k = elim (cases_lt b a) [
  | inl less ↦ subst (λ t. Answers g s phase (Some (if t then Corrupt c a else Corrupt d b))) (sym (lt-leb a b less))
      (first-two g s phase c d F G b h k (λ n x. let l = f.least n x in omega arith))
  | inr more ↦ subst (λ t. Answers g s phase (Some (if t then Corrupt c a else Corrupt d b))) (sym (le-leb a b more))
      (first-one g s phase c d F G a h f (λ n y. let l = k.least n y in omega arith))
]

pub first-refuses : (g : Geometry) (s : Stored) (phase : ℕ) (c d : CorruptCause) (F G : ℕ → Type 0) (a b : Option ℕ) (e : MountRefusal) → AreSearches g s phase c d F G → IsLeastOf F a → IsLeastOf G b → first_of c a d b ≡ Some e → RefusesIn g s phase e
first-refuses g s phase c d F G a b e h f k is = subst (Answers g s phase) is (first-answers g s phase c d F G a b h f k)

-- ---- what each phase looks for

only-in_blocks : (g : Geometry) (s : Stored) (o : CorruptCause) (b : ℕ) → Finds g s 2 o b → ((o ≡ Pointer) × BadPointer g s b) ⊎ ((o ≡ Layout) × BadDir g s b)
only-in_blocks g s o b (table p c h) = absurd (omega arith)
only-in_blocks g s o b (root p c h) = absurd (omega arith)
only-in_blocks g s o b (pointers p c h) = inl (c, h)
only-in_blocks g s o b (dirs p c h) = inr (c, h)
only-in_blocks g s o b (names p c h) = absurd (omega arith)
only-in_blocks g s o b (twins p c h) = absurd (omega arith)
only-in_blocks g s o b (shared p c h) = absurd (omega arith)
only-in_blocks g s o b (counts p c h) = absurd (omega arith)
only-in_blocks g s o b (unmarked p c h) = absurd (omega arith)
only-in_blocks g s o b (unreached p c h) = absurd (omega arith)
only-in_blocks g s o b (tails p c h) = absurd (omega arith)

pub searches-in_blocks : (g : Geometry) (s : Stored) → AreSearches g s 2 Pointer Layout (BadPointer g s) (BadDir g s)
searches-in_blocks g s = record { one = λ b h. pointers refl refl h; two = λ b h. dirs refl refl h; only = only-in_blocks g s; order = omega arith }

only-in_slots : (g : Geometry) (s : Stored) (o : CorruptCause) (b : ℕ) → Finds g s 3 o b → ((o ≡ Kind) × BadName g s b) ⊎ ((o ≡ Twin) × IsTwin g s b)
only-in_slots g s o b (table p c h) = absurd (omega arith)
only-in_slots g s o b (root p c h) = absurd (omega arith)
only-in_slots g s o b (pointers p c h) = absurd (omega arith)
only-in_slots g s o b (dirs p c h) = absurd (omega arith)
only-in_slots g s o b (names p c h) = inl (c, h)
only-in_slots g s o b (twins p c h) = inr (c, h)
only-in_slots g s o b (shared p c h) = absurd (omega arith)
only-in_slots g s o b (counts p c h) = absurd (omega arith)
only-in_slots g s o b (unmarked p c h) = absurd (omega arith)
only-in_slots g s o b (unreached p c h) = absurd (omega arith)
only-in_slots g s o b (tails p c h) = absurd (omega arith)

pub searches-in_slots : (g : Geometry) (s : Stored) → AreSearches g s 3 Kind Twin (BadName g s) (IsTwin g s)
searches-in_slots g s = record { one = λ b h. names refl refl h; two = λ b h. twins refl refl h; only = only-in_slots g s; order = omega arith }

only-in_uses : (g : Geometry) (s : Stored) (o : CorruptCause) (b : ℕ) → Finds g s 4 o b → ((o ≡ Shared) × IsShared g s b) ⊎ ((o ≡ Count) × IsMiscounted g s b)
only-in_uses g s o b (table p c h) = absurd (omega arith)
only-in_uses g s o b (root p c h) = absurd (omega arith)
only-in_uses g s o b (pointers p c h) = absurd (omega arith)
only-in_uses g s o b (dirs p c h) = absurd (omega arith)
only-in_uses g s o b (names p c h) = absurd (omega arith)
only-in_uses g s o b (twins p c h) = absurd (omega arith)
only-in_uses g s o b (shared p c h) = inl (c, h)
only-in_uses g s o b (counts p c h) = inr (c, h)
only-in_uses g s o b (unmarked p c h) = absurd (omega arith)
only-in_uses g s o b (unreached p c h) = absurd (omega arith)
only-in_uses g s o b (tails p c h) = absurd (omega arith)

pub searches-in_uses : (g : Geometry) (s : Stored) → AreSearches g s 4 Shared Count (IsShared g s) (IsMiscounted g s)
searches-in_uses g s = record { one = λ b h. shared refl refl h; two = λ b h. counts refl refl h; only = only-in_uses g s; order = omega arith }

only-in_tails : (g : Geometry) (s : Stored) (o : CorruptCause) (b : ℕ) → Finds g s 6 o b → (o ≡ Tail) × HasTail g s b
only-in_tails g s o b (table p c h) = absurd (omega arith)
only-in_tails g s o b (root p c h) = absurd (omega arith)
only-in_tails g s o b (pointers p c h) = absurd (omega arith)
only-in_tails g s o b (dirs p c h) = absurd (omega arith)
only-in_tails g s o b (names p c h) = absurd (omega arith)
only-in_tails g s o b (twins p c h) = absurd (omega arith)
only-in_tails g s o b (shared p c h) = absurd (omega arith)
only-in_tails g s o b (counts p c h) = absurd (omega arith)
only-in_tails g s o b (unmarked p c h) = absurd (omega arith)
only-in_tails g s o b (unreached p c h) = absurd (omega arith)
only-in_tails g s o b (tails p c h) = (c, h)

pub tail-refuses : (g : Geometry) (s : Stored) (b : ℕ) (e : MountRefusal) → IsLeast (HasTail g s) b → e ≡ Corrupt Tail b → RefusesIn g s 6 e
tail-refuses g s b e least is = subst (RefusesIn g s 6) (sym is) (record {
  found = tails refl refl least.wrong;
  first = λ o n finds. let h = only-in_tails g s o n finds in before-from Tail o b n (least.least n h.1) (ranks Tail o h.0);
})

-- ---- the answers of the second, third and fourth phase

pub blocks-refuse : (g : Geometry) (s : Stored) (a b : Option ℕ) (r : Result (Unit {0}) MountRefusal) → MatchOption a (ArePointers g s) (IsLeast (BadPointer g s)) → IsLeastOf (BadDir g s) b → IfErr r (λ e. first_of Pointer a Layout b ≡ Some e) → IfErr r (RefusesIn g s 2)
blocks-refuse g s a b r one two first =
    IfErr-weaker r (λ e. first_of Pointer a Layout b ≡ Some e) (RefusesIn g s 2) (λ e is. first-refuses g s 2 Pointer Layout (BadPointer g s) (BadDir g s) a b e (searches-in_blocks g s) (least-of (BadPointer g s) (ArePointers g s) a (none-in_pointers g s) one) two is) first

least-name : (g : Geometry) (s : Stored) (a : Option ℕ) → MatchOption a (AreNamed (volume_in g s)) (IsLeast (BadName g s)) → IsLeastOf (BadName g s) a
least-name g s a one = least-of (BadName g s) (AreNamed (volume_in g s)) a (none-in_names g s) one

pub names-alone : (g : Geometry) (s : Stored) (a : Option ℕ) (e : MountRefusal) → MatchOption a (AreNamed (volume_in g s)) (IsLeast (BadName g s)) → AreOnce (volume_in g s) → first_of Kind a Twin None ≡ Some e → RefusesIn g s 3 e
names-alone g s a e one once is = first-refuses g s 3 Kind Twin (BadName g s) (IsTwin g s) a None e (searches-in_slots g s) (least-name g s a one) (none-twice g s once) is

pub names-refuse : (g : Geometry) (s : Stored) (a : Option ℕ) (r e : MountRefusal) → MatchOption a (AreNamed (volume_in g s)) (IsLeast (BadName g s)) → RefusesTwin g s r → IsFirstName a r e → RefusesIn g s 3 e
names-refuse g s a (Corrupt cause b) e one twin is = first-refuses g s 3 Kind Twin (BadName g s) (IsTwin g s) a (Some b) e (searches-in_slots g s) (least-name g s a one) twin.1 is
names-refuse g s a OutOfMemory e one twin is = subst (RefusesIn g s 3) (sym is) tt

uses-first : (g : Geometry) (s : Stored) (a b n : Option ℕ) (e : MountRefusal) → MatchOption a (AreApart (volume_in g s)) (IsLeast (IsSharedBlock g s)) → MatchOption b (AreNamedOnce (volume_in g s)) (IsLeast (IsSharedDir g s)) → MatchOption n (AreLinked g s) (IsLeast (IsMiscounted g s)) → first_of Shared (lesser a b) Count n ≡ Some e → RefusesIn g s 4 e
uses-first g s a b n e apart once linked is =
    first-refuses g s 4 Shared Count (IsShared g s) (IsMiscounted g s) (lesser a b) n e (searches-in_uses g s)
    (least-either (IsSharedBlock g s) (IsSharedDir g s) a b (least-of (IsSharedBlock g s) (AreApart (volume_in g s)) a (none-shared g s) apart) (least-of (IsSharedDir g s) (AreNamedOnce (volume_in g s)) b (none-shared_dir g s) once))
    (least-of (IsMiscounted g s) (AreLinked g s) n (none-miscounted g s) linked) is

pub uses-refuse : (g : Geometry) (s : Stored) (a b n either : Option ℕ) (r : Result (Unit {0}) MountRefusal) → MatchOption a (AreApart (volume_in g s)) (IsLeast (IsSharedBlock g s)) → MatchOption b (AreNamedOnce (volume_in g s)) (IsLeast (IsSharedDir g s)) → MatchOption n (AreLinked g s) (IsLeast (IsMiscounted g s)) → either ≡ lesser a b → IfErr r (λ e. first_of Shared either Count n ≡ Some e) → IfErr r (RefusesIn g s 4)
uses-refuse g s a b n either r apart once linked is first =
    IfErr-weaker r (λ e. first_of Shared either Count n ≡ Some e) (RefusesIn g s 4) (λ e found. uses-first g s a b n e apart once linked (ap (λ o. first_of Shared o Count n) (sym is) ∙ found)) first

-- ---- no phase before this one finds anything

next-clean : (g : Geometry) (s : Stored) (phase : ℕ) → AreClean g s phase → ((cause : CorruptCause) (b : ℕ) → Finds g s phase cause b → ⊥) → AreClean g s (phase + 1)
next-clean g s phase clean none p cause b low finds = elim (cases_lt p phase) [
  | inl less ↦ clean p cause b less finds
  | inr more ↦ let e : p ≡ phase = omega arith in none cause b (subst (λ q. Finds g s q cause b) e finds)
]

none-0 : (g : Geometry) (s : Stored) (o : CorruptCause) (b : ℕ) → Finds g s 0 o b → ⊥
none-0 g s o b (table p c h) = omega arith
none-0 g s o b (root p c h) = omega arith
none-0 g s o b (pointers p c h) = omega arith
none-0 g s o b (dirs p c h) = omega arith
none-0 g s o b (names p c h) = omega arith
none-0 g s o b (twins p c h) = omega arith
none-0 g s o b (shared p c h) = omega arith
none-0 g s o b (counts p c h) = omega arith
none-0 g s o b (unmarked p c h) = omega arith
none-0 g s o b (unreached p c h) = omega arith
none-0 g s o b (tails p c h) = omega arith

pub clean-1 : (g : Geometry) (s : Stored) → AreClean g s 1
clean-1 g s = next-clean g s 0 (λ p cause b low finds. omega arith) (none-0 g s)

none-1 : (g : Geometry) (s : Stored) (o : CorruptCause) (b : ℕ) → IsTable g s → Finds g s 1 o b → ⊥
none-1 g s o b clean (table p c h) = none-in_table g s b clean (inl h)
none-1 g s o b clean (root p c h) = none-in_table g s b clean (inr h)
none-1 g s o b clean (pointers p c h) = omega arith
none-1 g s o b clean (dirs p c h) = omega arith
none-1 g s o b clean (names p c h) = omega arith
none-1 g s o b clean (twins p c h) = omega arith
none-1 g s o b clean (shared p c h) = omega arith
none-1 g s o b clean (counts p c h) = omega arith
none-1 g s o b clean (unmarked p c h) = omega arith
none-1 g s o b clean (unreached p c h) = omega arith
none-1 g s o b clean (tails p c h) = omega arith

pub clean-2 : (g : Geometry) (s : Stored) → IsTable g s → AreClean g s 2
clean-2 g s clean = next-clean g s 1 (clean-1 g s) (λ o b. none-1 g s o b clean)

pub clean-3 : (g : Geometry) (s : Stored) → IsTable g s → ArePointers g s → AreDirs g s → AreClean g s 3
clean-3 g s clean pointing dir = next-clean g s 2 (clean-2 g s clean) (λ o b finds. elim (only-in_blocks g s o b finds) [
  | inl x ↦ none-in_pointers g s pointing b x.1
  | inr y ↦ none-in_dirs g s dir b y.1
])

pub clean-4 : (g : Geometry) (s : Stored) → AreClean g s 3 → AreNamed (volume_in g s) → AreOnce (volume_in g s) → AreClean g s 4
clean-4 g s clean named once = next-clean g s 3 clean (λ o b finds. elim (only-in_slots g s o b finds) [
  | inl x ↦ none-in_names g s named b x.1
  | inr y ↦ none-twice g s once b y.1
])

none-shared_at : (g : Geometry) (s : Stored) (b : ℕ) → AreApart (volume_in g s) → AreNamedOnce (volume_in g s) → IsShared g s b → ⊥
none-shared_at g s b apart once (inl x) = none-shared g s apart b x
none-shared_at g s b apart once (inr y) = none-shared_dir g s once b y

pub clean-5 : (g : Geometry) (s : Stored) → AreClean g s 4 → AreApart (volume_in g s) → AreNamedOnce (volume_in g s) → AreLinked g s → AreClean g s 5
clean-5 g s clean apart once linked = next-clean g s 4 clean (λ o b finds. elim (only-in_uses g s o b finds) [
  | inl x ↦ none-shared_at g s b apart once x.1
  | inr y ↦ none-miscounted g s linked b y.1
])

none-5 : (g : Geometry) (s : Stored) (o : CorruptCause) (b : ℕ) → AreMarked g s → AreReached (volume_in g s) → Finds g s 5 o b → ⊥
none-5 g s o b marked reached (table p c h) = omega arith
none-5 g s o b marked reached (root p c h) = omega arith
none-5 g s o b marked reached (pointers p c h) = omega arith
none-5 g s o b marked reached (dirs p c h) = omega arith
none-5 g s o b marked reached (names p c h) = omega arith
none-5 g s o b marked reached (twins p c h) = omega arith
none-5 g s o b marked reached (shared p c h) = omega arith
none-5 g s o b marked reached (counts p c h) = omega arith
none-5 g s o b marked reached (unmarked p c h) = unmarked-clean g s b marked h
none-5 g s o b marked reached (unreached p c h) = unreached-clean g s b marked reached h
none-5 g s o b marked reached (tails p c h) = omega arith

pub clean-6 : (g : Geometry) (s : Stored) → AreClean g s 5 → AreMarked g s → AreReached (volume_in g s) → AreClean g s 6
clean-6 g s clean marked reached = next-clean g s 5 clean (λ o b. none-5 g s o b marked reached)

-- ---- the answer of a mount

pub refuses-by_phase : (g : Geometry) (s : Stored) (phase : ℕ) (e : MountRefusal) → AreClean g s phase → RefusesIn g s phase e → RefusesByPhase g s (refusal_in phase e)
refuses-by_phase g s phase (Corrupt cause b) clean first = record { clean = clean; first = first }
refuses-by_phase g s phase OutOfMemory clean first = tt

-- what a phase showed, where it found nothing
pub passed : {T : Type 0} (found : Result T MountRefusal) (result : Result T PhaseRefusal) (x : T) (phase : ℕ) (F : Type 0) → MatchResult found (λ y. result ≡ Ok y) (λ e. result ≡ Err (refusal_in phase e)) → result ≡ Ok x → OnOk found F → F
passed (Ok y) result x phase F h is f = f
passed (Err e) result x phase F h is f = absurd (cc)

-- what it refused, where it found something
pub refused : {T : Type 0} (g : Geometry) (s : Stored) (found : Result T MountRefusal) (result : Result T PhaseRefusal) (e : PhaseRefusal) (phase : ℕ) → MatchResult found (λ y. result ≡ Ok y) (λ r. result ≡ Err (refusal_in phase r)) → result ≡ Err e → AreClean g s phase → IfErr found (RefusesIn g s phase) → RefusesByPhase g s e
refused g s (Ok y) result e phase h is clean f = absurd (cc)
refused g s (Err r) result e phase h is clean f =
    let same : refusal_in phase r ≡ e = (cc) in
    subst (RefusesByPhase g s) same (refuses-by_phase g s phase r clean f)

pub finds-corrupt : (g : Geometry) (s : Stored) (phase : ℕ) (cause : CorruptCause) (b : ℕ) → Finds g s phase cause b → IsCorrupt g s cause b
finds-corrupt g s phase cause b (table p c h) = subst (λ x. IsCorrupt g s x b) (sym c) (inl h)
finds-corrupt g s phase cause b (root p c h) = subst (λ x. IsCorrupt g s x b) (sym c) (inl h)
finds-corrupt g s phase cause b (pointers p c h) = subst (λ x. IsCorrupt g s x b) (sym c) h
finds-corrupt g s phase cause b (dirs p c h) = subst (λ x. IsCorrupt g s x b) (sym c) (inr h)
finds-corrupt g s phase cause b (names p c h) = subst (λ x. IsCorrupt g s x b) (sym c) (inr h)
finds-corrupt g s phase cause b (twins p c h) = subst (λ x. IsCorrupt g s x b) (sym c) h
finds-corrupt g s phase cause b (shared p c h) = subst (λ x. IsCorrupt g s x b) (sym c) h
finds-corrupt g s phase cause b (counts p c h) = subst (λ x. IsCorrupt g s x b) (sym c) h
finds-corrupt g s phase cause b (unmarked p c h) = subst (λ x. IsCorrupt g s x b) (sym c) h
finds-corrupt g s phase cause b (unreached p c h) = subst (λ x. IsCorrupt g s x b) (sym c) h
finds-corrupt g s phase cause b (tails p c h) = subst (λ x. IsCorrupt g s x b) (sym c) h

-- a mount answers the same without the phase

first-of : (g : Geometry) (s : Stored) (r : PhaseRefusal) → RefusesByPhase g s r → RefusesFirst g s (refusal_of r)
first-of g s (Found phase cause b) first = (phase, first)
first-of g s NoMemory first = tt

pub phase-first : (g : Geometry) (s : Stored) (r : PhaseRefusal) (e : MountRefusal) → RefusesByPhase g s r → e ≡ refusal_of r → RefusesFirst g s e
phase-first g s r e first is = subst (RefusesFirst g s) (sym is) (first-of g s r first)

cause-of : (g : Geometry) (s : Stored) (r : PhaseRefusal) → RefusesByPhase g s r → Refuses g s (refusal_of r)
cause-of g s (Found phase cause b) first = finds-corrupt g s phase cause b first.first.found
cause-of g s NoMemory first = tt

pub phase-refuses : (g : Geometry) (s : Stored) (r : PhaseRefusal) (e : MountRefusal) → RefusesByPhase g s r → e ≡ refusal_of r → Refuses g s e
phase-refuses g s r e first is = subst (Refuses g s) (sym is) (cause-of g s r first)
