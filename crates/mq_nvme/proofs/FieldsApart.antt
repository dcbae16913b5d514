-- Distinct fields of an entry share no bit.
use Rattle.std.proofs.Common.{◌≡◌, ◌≢◌, ◌<◌, inl, inr, ℕ, zero, suc, ◌+◌, List, [], ◌∷◌, Bool, true, ◌==◌, ◌||◌, ◌&&◌, nat_lt, nat_le, slice_index_or, refl, sym, ◌∙◌, ap, arith}
use Rattle.std.proofs.lemmas.Bool.{eqb-true, ltb-true, leb-true, or_cases, and_parts}
use Rattle.mq_nvme.specs.Field.{Place, get_field, IsOutside, AreSameOutside}
use Rattle.mq_nvme.specs.Fields.{submission_place, completion_place}
use Rattle.mq_nvme.specs.declared.rows.SubmissionField.{SubmissionField}
use Rattle.mq_nvme.specs.declared.rows.SubmissionField.TheVariants.{Opcode, Fuse, Psdt, Cid, Nsid, TxLow, TxHigh, MptrLow, MptrHigh, Prp1Low, Prp1High, Prp2Low, Prp2High, SlbaLow, SlbaHigh, Nlb, ReqTx, ReqTxCommit, Fua, LimitedRetry}
use Rattle.mq_nvme.specs.declared.rows.CompletionField.{CompletionField}
use Rattle.mq_nvme.specs.declared.rows.CompletionField.TheVariants.{SqHead, SqId, Ccid, Phase, StatusCode, StatusCodeType}
use Rattle.mq_nvme.proofs.FieldBits.{bits_of-same}

-- two places share no bit
pub are_apart : Place → Place → Bool
are_apart p q = (nat_lt p.dword q.dword || nat_lt q.dword p.dword) || (nat_le (p.low + p.width) q.low || nat_le (q.low + q.width) p.low)

apart-outside : (p q : Place) (i : ℕ) → i < q.width → are_apart p q ≡ true → IsOutside p q.dword (q.low + i)
unfolding are_apart
apart-outside p q i lt h = elim (or_cases (nat_lt p.dword q.dword || nat_lt q.dword p.dword) (nat_le (p.low + p.width) q.low || nat_le (q.low + q.width) p.low) h) [
  | inl other ↦ elim (or_cases (nat_lt p.dword q.dword) (nat_lt q.dword p.dword) other) [
    | inl less ↦ let l = ltb-true p.dword q.dword less in inl (λ (same : q.dword ≡ p.dword). omega arith)
    | inr more ↦ let l = ltb-true q.dword p.dword more in inl (λ (same : q.dword ≡ p.dword). omega arith)
  ]
  | inr same ↦ elim (or_cases (nat_le (p.low + p.width) q.low) (nat_le (q.low + q.width) p.low) same) [
    | inl above ↦ let l = leb-true (p.low + p.width) q.low above in inr (inr (omega arith))
    | inr below ↦ let l = leb-true (q.low + q.width) p.low below in inr (inl (omega arith))
  ]
]

-- a place is as it was where one apart from it was written
pub get_field-apart : (p q : Place) (e d : List ℕ) → are_apart p q ≡ true → AreSameOutside p e d → get_field q e ≡ get_field q d
unfolding get_field
get_field-apart p q e d apart same = bits_of-same q.low q.width _ _ (λ i lt. same q.dword (q.low + i) (apart-outside p q i lt apart))

each : {A : Type 0} → (A → Bool) → List A → Bool
each p [] = true
each p (x ∷ xs) = p x && each p xs

-- what each element and the default pass, any reading passes
each-at : {A : Type 0} (p : A → Bool) (xs : List A) (d : A) (i : ℕ) → p d ≡ true → each p xs ≡ true → p (slice_index_or xs i d) ≡ true
unfolding each
each-at p [] d i h all = h
each-at p (x ∷ xs) d zero h all = (and_parts (p x) (each p xs) all).0
each-at p (x ∷ xs) d (suc i) h all = each-at p xs d i h (and_parts (p x) (each p xs) all).1

each_pair : {A : Type 0} (test : A → A → Bool) (xs : List A) (d : A) → test d d ≡ true → each (λ a. test a d) xs ≡ true → each (test d) xs ≡ true
    → each (λ a. each (test a) xs) xs ≡ true → (i j : ℕ) → test (slice_index_or xs i d) (slice_index_or xs j d) ≡ true
each_pair test xs d corner column row all i j =
    let a = slice_index_or xs i d in
    each-at (test a) xs d j (each-at (λ x. test x d) xs d i corner column) (each-at (λ x. each (test x) xs) xs d i row all)

submission_fields : List SubmissionField
submission_fields = Opcode ∷ Fuse ∷ Psdt ∷ Cid ∷ Nsid ∷ TxLow ∷ TxHigh ∷ MptrLow ∷ MptrHigh ∷ Prp1Low ∷ Prp1High ∷ Prp2Low ∷ Prp2High ∷ SlbaLow ∷ SlbaHigh ∷ Nlb ∷ ReqTx ∷ ReqTxCommit ∷ Fua ∷ LimitedRetry ∷ []

submission_rank : SubmissionField → ℕ
submission_rank Opcode = 0
submission_rank Fuse = 1
submission_rank Psdt = 2
submission_rank Cid = 3
submission_rank Nsid = 4
submission_rank TxLow = 5
submission_rank TxHigh = 6
submission_rank MptrLow = 7
submission_rank MptrHigh = 8
submission_rank Prp1Low = 9
submission_rank Prp1High = 10
submission_rank Prp2Low = 11
submission_rank Prp2High = 12
submission_rank SlbaLow = 13
submission_rank SlbaHigh = 14
submission_rank Nlb = 15
submission_rank ReqTx = 16
submission_rank ReqTxCommit = 17
submission_rank Fua = 18
submission_rank LimitedRetry = 19

submission-ranked : (f : SubmissionField) → slice_index_or submission_fields (submission_rank f) Opcode ≡ f
unfolding submission_fields submission_rank
submission-ranked Opcode = refl
submission-ranked Fuse = refl
submission-ranked Psdt = refl
submission-ranked Cid = refl
submission-ranked Nsid = refl
submission-ranked TxLow = refl
submission-ranked TxHigh = refl
submission-ranked MptrLow = refl
submission-ranked MptrHigh = refl
submission-ranked Prp1Low = refl
submission-ranked Prp1High = refl
submission-ranked Prp2Low = refl
submission-ranked Prp2High = refl
submission-ranked SlbaLow = refl
submission-ranked SlbaHigh = refl
submission-ranked Nlb = refl
submission-ranked ReqTx = refl
submission-ranked ReqTxCommit = refl
submission-ranked Fua = refl
submission-ranked LimitedRetry = refl

submission_test : SubmissionField → SubmissionField → Bool
submission_test a b = (submission_rank a == submission_rank b) || are_apart (submission_place a) (submission_place b)

submission-tested : (i j : ℕ) → submission_test (slice_index_or submission_fields i Opcode) (slice_index_or submission_fields j Opcode) ≡ true
unfolding submission_fields submission_rank submission_test each are_apart
submission-tested = each_pair submission_test submission_fields Opcode refl refl refl refl

submission-along : (a b : SubmissionField) {x y : SubmissionField} → x ≡ a → y ≡ b → submission_test x y ≡ true → submission_test a b ≡ true
submission-along a b p q h = sym (λ i. submission_test (p i) (q i)) ∙ h

-- distinct fields of a submission entry share no bit
pub submission-apart : (a b : SubmissionField) → a ≢ b → are_apart (submission_place a) (submission_place b) ≡ true
unfolding submission_test
submission-apart a b ne =
    let test : submission_test a b ≡ true = submission-along a b (submission-ranked a) (submission-ranked b) (submission-tested (submission_rank a) (submission_rank b)) in
    elim (or_cases _ _ test) [
      | inl same ↦ absurd (ne (sym (submission-ranked a) ∙ ap (λ (n : ℕ). slice_index_or submission_fields n Opcode) (eqb-true (submission_rank a) (submission_rank b) same) ∙ submission-ranked b))
      | inr apart ↦ apart
    ]

completion_fields : List CompletionField
completion_fields = SqHead ∷ SqId ∷ Ccid ∷ Phase ∷ StatusCode ∷ StatusCodeType ∷ []

completion_rank : CompletionField → ℕ
completion_rank SqHead = 0
completion_rank SqId = 1
completion_rank Ccid = 2
completion_rank Phase = 3
completion_rank StatusCode = 4
completion_rank StatusCodeType = 5

completion-ranked : (f : CompletionField) → slice_index_or completion_fields (completion_rank f) SqHead ≡ f
unfolding completion_fields completion_rank
completion-ranked SqHead = refl
completion-ranked SqId = refl
completion-ranked Ccid = refl
completion-ranked Phase = refl
completion-ranked StatusCode = refl
completion-ranked StatusCodeType = refl

completion_test : CompletionField → CompletionField → Bool
completion_test a b = (completion_rank a == completion_rank b) || are_apart (completion_place a) (completion_place b)

completion-tested : (i j : ℕ) → completion_test (slice_index_or completion_fields i SqHead) (slice_index_or completion_fields j SqHead) ≡ true
unfolding completion_fields completion_rank completion_test each are_apart
completion-tested = each_pair completion_test completion_fields SqHead refl refl refl refl

completion-along : (a b : CompletionField) {x y : CompletionField} → x ≡ a → y ≡ b → completion_test x y ≡ true → completion_test a b ≡ true
completion-along a b p q h = sym (λ i. completion_test (p i) (q i)) ∙ h

-- distinct fields of a completion entry share no bit
pub completion-apart : (a b : CompletionField) → a ≢ b → are_apart (completion_place a) (completion_place b) ≡ true
unfolding completion_test
completion-apart a b ne =
    let test : completion_test a b ≡ true = completion-along a b (completion-ranked a) (completion-ranked b) (completion-tested (completion_rank a) (completion_rank b)) in
    elim (or_cases _ _ test) [
      | inl same ↦ absurd (ne (sym (completion-ranked a) ∙ ap (λ (n : ℕ). slice_index_or completion_fields n SqHead) (eqb-true (completion_rank a) (completion_rank b) same) ∙ completion-ranked b))
      | inr apart ↦ apart
    ]
