-- Bytes are the file of one list of groups, or have one first line that is not in the form.
use Rattle.std.proofs.Common.{◌≡◌, ◌≢◌, inl, inr, ℕ, eqb, cond, ◌+◌, ◌-◌, List, [], ◌∷◌, ◌++◌, length, get_or, take, drop, map, sym, ◌∙◌, ap, subst, refl, arith, append_assoc, append-nil, length-append}
use Rattle.std.specs.Prelude.{codes, bytes_eq, Result, Ok, Err, IfOk, IfErr, MatchResult}
use Rattle.std.specs.List.{AllByRecursion, join_with_byte, slice_split}
use Rattle.std.proofs.Math.Seq.{drop-append_seam, take-append_seam}
use Rattle.std.proofs.lemmas.List.{append_cancel_right, map-append}
use Rattle.mq_block_text.specs.Refusals.{ended}
use Rattle.mq_block_text.proofs.TextParts.{Avoids, split_of_join}
use Rattle.mq_block_text.proofs.WordsLines.{ended_join, lines_again, some_lines}
use Rattle.mq_block_text.specs.Words.{lines_of}
use Rattle.mq_kv_buckets.specs.declared.operation.KvOp.{KvOp}
use Rattle.mq_kv_text.specs.Files.{IsFile, IsLine, IsMisread, IsRefusal, IsRefused, IsSpellable, IsWrong, asked_lines, file_lines, groups_text, line_text, op_text, ops_text}
use Rattle.mq_kv_text.specs.declared.line.Line.{Line}
use Rattle.mq_kv_text.specs.declared.line.Line.TheVariants.{Asks, Syncs}
use Rattle.mq_kv_text.specs.declared.refusal.KvTextRefusal.{KvTextRefusal}
use Rattle.mq_kv_text.specs.declared.refusal.KvTextRefusal.TheVariants.{Line as At, OutOfMemory}
use Rattle.mq_kv_text.proofs.LinesSpelled.{line_avoids, same_line}

-- ---- the lines of a file

group_text : (ops : List KvOp) (rest : List Line) → ended 10 (map line_text (asked_lines ops ++ rest)) ≡ ops_text ops ++ ended 10 (map line_text rest)
group_text [] rest = refl
group_text (op ∷ ops) rest = ap (λ t. op_text op ++ 10 ∷ t) (group_text ops rest) ∙ sym (append_assoc (op_text op) (10 ∷ ops_text ops) (ended 10 (map line_text rest)))

pub text_of_file : (groups : List (List KvOp)) → ended 10 (map line_text (file_lines groups)) ≡ groups_text groups
text_of_file [] = refl
text_of_file (ops ∷ groups) =
    group_text ops (Syncs ∷ file_lines groups)
    ∙ sym (append_assoc (ops_text ops) (codes "sync\n") (ended 10 (map line_text (file_lines groups))))
    ∙ ap (λ t. (ops_text ops ++ codes "sync\n") ++ t) (text_of_file groups)

asked_good : (ops : List KvOp) (rest : List Line) → AllByRecursion IsSpellable ops → AllByRecursion IsLine rest → AllByRecursion IsLine (asked_lines ops ++ rest)
asked_good [] rest good more = more
asked_good (op ∷ ops) rest good more = (good.0, asked_good ops rest good.1 more)

file_good : (groups : List (List KvOp)) → AllByRecursion (AllByRecursion IsSpellable) groups → AllByRecursion IsLine (file_lines groups)
file_good [] good = tt
file_good (ops ∷ groups) good = asked_good ops (Syncs ∷ file_lines groups) good.0 (tt, file_good groups good.1)

lines_avoid : (lines : List Line) → AllByRecursion IsLine lines → AllByRecursion (Avoids 10) (map line_text lines)
lines_avoid [] good = tt
lines_avoid (l ∷ lines) good = (line_avoids l good.0, lines_avoid lines good.1)

some_groups : (ops : List KvOp) (groups : List (List KvOp)) → ops ∷ groups ≢ []
some_groups ops groups e = omega (arith, ap length e)

-- the last line is `sync`
last_sync : (groups : List (List KvOp)) → groups ≢ [] → (front : List Line) × (file_lines groups ≡ front ++ Syncs ∷ [])
last_sync [] some = absurd (some refl)
last_sync (ops ∷ []) some = (asked_lines ops, refl)
last_sync (ops ∷ next ∷ groups) some =
    let more = last_sync (next ∷ groups) (some_groups next groups) in
    (asked_lines ops ++ Syncs ∷ more.0, ap (λ (ls : List Line). asked_lines ops ++ Syncs ∷ ls) more.1 ∙ sym (append_assoc (asked_lines ops) (Syncs ∷ more.0) (Syncs ∷ [])))

-- ---- a file without the line feed at its end

ended_push : (xs : List (List ℕ)) (x : List ℕ) → ended 10 (xs ++ x ∷ []) ≡ (ended 10 xs ++ x) ++ 10 ∷ []
ended_push [] x = refl
ended_push (y ∷ ys) x =
    ap (λ t. y ++ 10 ∷ t) (ended_push ys x)
    ∙ sym (append_assoc y (10 ∷ (ended 10 ys ++ x)) (10 ∷ []))
    ∙ ap (λ t. t ++ 10 ∷ []) (sym (append_assoc y (10 ∷ ended 10 ys) x))

cut_at_end : (text : List ℕ) (b n : ℕ) → n ≡ length text
    → cond (bytes_eq (drop n (text ++ b ∷ [])) (codes "\n")) (take n (text ++ b ∷ [])) (text ++ b ∷ []) ≡ cond (bytes_eq (b ∷ []) (codes "\n")) text (text ++ b ∷ [])
cut_at_end text b n e =
    ap (λ (k : ℕ). cond (bytes_eq (drop k (text ++ b ∷ [])) (codes "\n")) (take k (text ++ b ∷ [])) (text ++ b ∷ [])) e
    ∙ ap (λ (t : List ℕ). cond (bytes_eq t (codes "\n")) (take (length text) (text ++ b ∷ [])) (text ++ b ∷ [])) (drop-append_seam text (b ∷ []))
    ∙ ap (λ (t : List ℕ). cond (bytes_eq (b ∷ []) (codes "\n")) t (text ++ b ∷ [])) (take-append_seam text (b ∷ []))

-- the lines of a text by its last byte
lines_by_last : (text : List ℕ) (b : ℕ) → lines_of (text ++ b ∷ []) ≡ slice_split (λ c. eqb c 10) (cond (bytes_eq (b ∷ []) (codes "\n")) text (text ++ b ∷ []))
lines_by_last text b =
    some_lines (text ++ b ∷ []) (omega (arith, length-append text (b ∷ [])))
    ∙ ap (slice_split (λ c. eqb c 10)) (cut_at_end text b (length (text ++ b ∷ []) - 1) (omega (arith, length-append text (b ∷ []))))

-- a text whose last byte is no line feed
lines_open : (text : List ℕ) → lines_of (text ++ 99 ∷ []) ≡ slice_split (λ c. eqb c 10) (text ++ 99 ∷ [])
lines_open text = lines_by_last text 99

split_lines : (lines : List (List ℕ)) → lines ≢ [] → AllByRecursion (Avoids 10) lines → (bytes : List ℕ) → bytes ++ 10 ∷ [] ≡ ended 10 lines → slice_split (λ c. eqb c 10) bytes ≡ lines
split_lines [] some avoid bytes e = absurd (some refl)
split_lines (x ∷ xs) some avoid bytes e =
    ap (slice_split (λ c. eqb c 10)) (append_cancel_right bytes (join_with_byte 10 (x ∷ xs)) (10 ∷ []) (e ∙ ended_join x xs))
    ∙ split_of_join 10 x xs avoid.0 avoid.1

lines_of_open :
    (bytes : List ℕ) (front : List (List ℕ)) → AllByRecursion (Avoids 10) (front ++ codes "sync" ∷ []) → bytes ++ 10 ∷ [] ≡ ended 10 (front ++ codes "sync" ∷ [])
    → lines_of bytes ≡ front ++ codes "sync" ∷ []
lines_of_open bytes front avoid e =
    let at : bytes ≡ ended 10 front ++ codes "sync" = append_cancel_right bytes (ended 10 front ++ codes "sync") (10 ∷ []) (e ∙ ended_push front (codes "sync")) in
    let whole : bytes ≡ (ended 10 front ++ codes "syn") ++ 99 ∷ [] = at ∙ sym (append_assoc (ended 10 front) (codes "syn") (99 ∷ [])) in
    let some : front ++ codes "sync" ∷ [] ≢ [] = λ none. (let long : length (front ++ codes "sync" ∷ []) ≡ 0 = ap length none in omega (arith, length-append front (codes "sync" ∷ []), long)) in
    ap lines_of whole ∙ lines_open (ended 10 front ++ codes "syn") ∙ ap (slice_split (λ c. eqb c 10)) (sym whole) ∙ split_lines (front ++ codes "sync" ∷ []) some avoid bytes e

-- the lines of a file are those of its groups
pub file_is_lines : (bytes : List ℕ) (groups : List (List KvOp)) → IsFile bytes groups → lines_of bytes ≡ map line_text (file_lines groups)
file_is_lines bytes groups is =
    let avoid = lines_avoid (file_lines groups) (file_good groups is.good) in
    let last = last_sync groups is.some in
    let cut : map line_text (file_lines groups) ≡ map line_text last.0 ++ codes "sync" ∷ [] = ap (map line_text) last.1 ∙ map-append line_text last.0 (Syncs ∷ []) in
    elim is.spelled [
      | inl e ↦ ap lines_of (e ∙ sym (text_of_file groups)) ∙ lines_again (map line_text (file_lines groups)) avoid
      | inr e ↦
          lines_of_open bytes (map line_text last.0) (subst (AllByRecursion (Avoids 10)) cut avoid) (e ∙ sym (text_of_file groups) ∙ ap (ended 10) cut)
          ∙ sym cut
    ]

-- ---- the lines of the form with which lines begin

abbrev Stops : List (List ℕ) → Type 0
Stops [] = Unit {0}
Stops (text ∷ rest) = (l : Line) → IsLine l → text ≡ line_text l → ⊥

wrong_stops : (before : List Line) (rest : List (List ℕ)) → IsWrong before rest → Stops rest
wrong_stops before [] wrong = tt
wrong_stops before (text ∷ rest) wrong = wrong

abbrev head : List (List ℕ) → List ℕ
head lines = get_or lines 0 []

same_front :
    (xs ys : List Line) (r s : List (List ℕ)) → AllByRecursion IsLine xs → AllByRecursion IsLine ys → Stops r → Stops s
    → map line_text xs ++ r ≡ map line_text ys ++ s → (xs ≡ ys) × (r ≡ s)
same_front [] [] r s good also a b e = (refl, e)
same_front [] (y ∷ ys) [] s good also a b e = absurd (omega (arith, ap length e))
same_front [] (y ∷ ys) (t ∷ r) s good also a b e = absurd (a y also.0 (ap head e))
same_front (x ∷ xs) [] r [] good also a b e = absurd (omega (arith, ap length e))
same_front (x ∷ xs) [] r (t ∷ s) good also a b e = absurd (b x good.0 (ap head (sym e)))
same_front (x ∷ xs) (y ∷ ys) r s good also a b e =
    let first : x ≡ y = same_line x y good.0 also.0 (ap head e) in
    let more = same_front xs ys r s good.1 also.1 a b (ap (drop 1) e) in
    ((λ i. first i ∷ more.0 i), more.1)

-- ---- the groups of lines

abbrev groups_back : List KvOp → List Line → List (List KvOp)
groups_back before [] = []
groups_back before (Asks op ∷ lines) = groups_back (before ++ op ∷ []) lines
groups_back before (Syncs ∷ lines) = before ∷ groups_back [] lines

asked_back : (ops before : List KvOp) (rest : List Line) → groups_back before (asked_lines ops ++ Syncs ∷ rest) ≡ (before ++ ops) ∷ groups_back [] rest
asked_back [] before rest = ap (λ (l : List KvOp). l ∷ groups_back [] rest) (sym (append-nil before))
asked_back (op ∷ ops) before rest = asked_back ops (before ++ op ∷ []) rest ∙ ap (λ (l : List KvOp). l ∷ groups_back [] rest) (append_assoc before (op ∷ []) ops)

groups_again : (groups : List (List KvOp)) → groups_back [] (file_lines groups) ≡ groups
groups_again [] = refl
groups_again (ops ∷ groups) = asked_back ops [] (file_lines groups) ∙ ap (λ (l : List (List KvOp)). ops ∷ l) (groups_again groups)

-- ---- two readings are one

one_file : (bytes : List ℕ) (gs hs : List (List KvOp)) → IsFile bytes gs → IsFile bytes hs → gs ≡ hs
one_file bytes gs hs is also =
    let same =
    same_front (file_lines gs) (file_lines hs) [] [] (file_good gs is.good) (file_good hs also.good) tt tt
    (append-nil (map line_text (file_lines gs)) ∙ sym (file_is_lines bytes gs is) ∙ file_is_lines bytes hs also ∙ sym (append-nil (map line_text (file_lines hs)))) in
    sym (groups_again gs) ∙ ap (groups_back []) same.0 ∙ groups_again hs

file_or_misread : (bytes : List ℕ) (gs : List (List KvOp)) (line : ℕ) → IsFile bytes gs → IsMisread bytes line → ⊥
file_or_misread bytes gs line is bad =
    let same =
    same_front (file_lines gs) bad.before [] bad.rest (file_good gs is.good) bad.good tt (wrong_stops bad.before bad.rest bad.wrong)
    (append-nil (map line_text (file_lines gs)) ∙ sym (file_is_lines bytes gs is) ∙ bad.are) in
    let last = last_sync gs is.some in
    (subst (λ (r : List (List ℕ)). IsWrong bad.before r) (sym same.1) bad.wrong) last.0 (sym same.0 ∙ last.1)

one_line : (bytes : List ℕ) (m n : ℕ) → IsMisread bytes m → IsMisread bytes n → m ≡ n
one_line bytes m n bad also =
    let same =
    same_front bad.before also.before bad.rest also.rest bad.good also.good (wrong_stops bad.before bad.rest bad.wrong) (wrong_stops also.before also.rest also.wrong)
    (sym bad.are ∙ also.are) in
    bad.counted ∙ ap (λ (ls : List Line). length ls + 1) same.0 ∙ sym also.counted

module _ {T : Type 0} (items : T → List (List KvOp)) (bytes : List ℕ) where
  pub exact_of :
      (r : Result T KvTextRefusal) → IfOk r (λ v. IsFile bytes (items v)) → IfErr r (IsRefused (IsMisread bytes))
      → (line : ℕ) → IsMisread bytes line → IsRefusal r line
  exact_of (Ok v) ok refused line bad = file_or_misread bytes (items v) line ok bad
  exact_of (Err (At l)) ok refused line bad = inl (ap At (one_line bytes l line refused bad))
  exact_of (Err OutOfMemory) ok refused line bad = inr refl

  pub only_of :
      (r : Result T KvTextRefusal) → IfOk r (λ v. IsFile bytes (items v)) → IfErr r (IsRefused (IsMisread bytes))
      → (groups : List (List KvOp)) → IsFile bytes groups → MatchResult r (λ v. items v ≡ groups) (λ e. e ≡ OutOfMemory)
  only_of (Ok v) ok refused groups is = one_file bytes (items v) groups ok is
  only_of (Err (At l)) ok refused groups is = absurd (file_or_misread bytes groups l is refused)
  only_of (Err OutOfMemory) ok refused groups is = refl
