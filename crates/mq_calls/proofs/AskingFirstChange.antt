-- The first request of a group that may change the tree.
use Rattle.std.proofs.Common.{◌≡◌, ℕ, ◌<◌, false, List, [], ◌∷◌, length, refl, sym, ap, subst, ◌∙◌, inl, inr, arith}
use Rattle.std.specs.Prelude.{◌↔◌, None, Result, Ok, Err}
use Rattle.std.specs.List.{All}
use Rattle.std.proofs.lemmas.Bool.{cases_eq, cases_lt, false≢true}
use Rattle.mq_tree.specs.Requests.{is_change}
use Rattle.mq_tree.specs.declared.request.Request.{Request}
use Rattle.mq_calls.specs.Acts.{Answer}
use Rattle.mq_calls.specs.Asking.{IsFirstChange, refusal_at}
use Rattle.mq_queue_side.specs.declared.answers.CallCause.TheVariants.{Changes, OutOfMemory}
use Rattle.mq_queue_side.specs.declared.answers.Refusal.{Refusal}

-- a group with an index has a request
some-request : (requests : List Request) (i : ℕ) → i < length requests → Request
some-request [] i low = absurd (omega arith)
some-request (r ∷ rs) i low = r

-- there is none where each request only reads
pub none-changes : (requests : List Request) (i : ℕ) → All (λ r. is_change r ≡ false) requests → IsFirstChange requests i → ⊥
none-changes requests i reads first =
    let r = some-request requests i first.within in
    false≢true (sym (reads i r first.within) ∙ first.changes r)

not-before : (requests : List Request) (i j : ℕ) → IsFirstChange requests i → IsFirstChange requests j → i < j → ⊥
not-before requests i j first other low =
    let r = some-request requests i first.within in
    false≢true (sym (other.before i r (omega arith) low) ∙ first.changes r)

-- there is one at most
first-only : (requests : List Request) (i j : ℕ) → IsFirstChange requests i → IsFirstChange requests j → i ≡ j
first-only requests i j first other = elim (cases_eq i j) [
  | inl same ↦ same
  | inr differ ↦ elim (cases_lt i j) [
    | inl low ↦ absurd (not-before requests i j first other low)
    | inr high ↦ absurd (not-before requests j i other first (omega arith))
  ]
]

abbrev refused-at : ℕ → Result Answer Refusal
refused-at i = Err (refusal_at i)

abbrev wanting : Result Answer Refusal
wanting = Err (record { cause = OutOfMemory; drawn = None })

same-refusal : (x y : Refusal) (r s : Result Answer Refusal) → r ≡ Err x → s ≡ Err y → r ≡ s → x ≡ y
same-refusal x y r s a b e = cc

same-at : (i j : ℕ) → Changes i ≡ Changes j → i ≡ j
same-at i j e = cc

not-memory : (i : ℕ) → OutOfMemory ≡ Changes i → ⊥
not-memory i e = cc

same-index : (i j : ℕ) → refused-at i ≡ refused-at j → i ≡ j
same-index i j e = same-at i j (ap (λ (x : Refusal). x.cause) (same-refusal (refusal_at i) (refusal_at j) (refused-at i) (refused-at j) refl refl e))

not-wanting : (i : ℕ) → wanting ≡ refused-at i → ⊥
not-wanting i e = not-memory i (ap (λ (x : Refusal). x.cause) (same-refusal (record { cause = OutOfMemory; drawn = None }) (refusal_at i) wanting (refused-at i) refl refl e))

not-answered : (answer : Answer) (i : ℕ) → Ok answer ≡ refused-at i → ⊥
not-answered answer i e = cc

-- it is what is answered
pub at-change : (requests : List Request) (index : ℕ) → IsFirstChange requests index → (i : ℕ) → IsFirstChange requests i ↔ (refused-at index ≡ refused-at i)
at-change requests index first i = (
  λ other. ap refused-at (first-only requests index i first other),
  λ e. subst (IsFirstChange requests) (same-index index i e) first,
)

-- and where each request only reads, it is not
at-reads : (requests : List Request) (result : Result Answer Refusal) → All (λ r. is_change r ≡ false) requests → ((i : ℕ) → result ≡ refused-at i → ⊥) → (i : ℕ) → IsFirstChange requests i ↔ (result ≡ refused-at i)
at-reads requests result reads other i = (λ first. absurd (none-changes requests i reads first), λ e. absurd (other i e))

pub at-wanting : (requests : List Request) → All (λ r. is_change r ≡ false) requests → (i : ℕ) → IsFirstChange requests i ↔ (wanting ≡ refused-at i)
at-wanting requests reads = at-reads requests wanting reads not-wanting

pub at-answer : (requests : List Request) (answer : Answer) → All (λ r. is_change r ≡ false) requests → (i : ℕ) → IsFirstChange requests i ↔ (Ok answer ≡ refused-at i)
at-answer requests answer reads = at-reads requests (Ok answer) reads (not-answered answer)
