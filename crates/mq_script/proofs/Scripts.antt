-- The lines of a script, gathered into groups.
use Rattle.std.proofs.Common.{◌≡◌, ℕ, Bool, true, false, cond, eqb, ◌+◌, ◌-◌, ◌<◌, ◌≤◌, List, [], ◌∷◌, ◌++◌, length, get_or, take, drop, map, Bor, sym, ◌∙◌, ap, subst, refl, arith, append_assoc, append-nil}
use Rattle.std.specs.Prelude.{Result, Ok, Err, bytes_eq, codes}
use Rattle.std.specs.List.{slice_split}
use Rattle.std.proofs.lemmas.Bool.{le-ltb, lt-ltb}
use Rattle.std.proofs.lemmas.List.{drop_more, drop_all, length-map, length-take}
use Rattle.std.proofs.lemmas.List.Sums.{count_by-le-length}
use Rattle.std.proofs.lemmas.List.Splits.{length-slice_split}
use Rattle.mq_block_text.specs.Words.{lines_of, without_line_feed}
use Rattle.mq_tree.specs.declared.request.Request.{Request}
use Rattle.mq_script.specs.Answers.{made, Agrees, AgreesAt, IsAt, Refused}
use Rattle.mq_script.specs.Lines.{Answer, line_in}
use Rattle.mq_script.specs.Reading.{ended_at, groups_in, script_in}
use Rattle.mq_script.specs.Scripts.{Group, Script}
use Rattle.mq_script.specs.declared.group.End.{End}
use Rattle.mq_script.specs.declared.line.Line.{Line}
use Rattle.mq_script.specs.declared.line.Line.TheVariants.{Asks, Ends}
use Rattle.mq_script.specs.declared.refusal.LineRefusal.{LineRefusal}
use Rattle.mq_script.specs.declared.refusal.LineRefusal.TheVariants.{Cause, OutOfMemory}
use Rattle.mq_script.specs.declared.refusal.ScriptCause.{ScriptCause}
use Rattle.mq_script.specs.declared.refusal.ScriptCause.TheVariants.{Size, Open}
use Rattle.mq_script.specs.declared.refusal.ScriptRefusal.{ScriptRefusal}

-- what the lines say
abbrev pub answers : List (Bor (List ℕ)) → List (Answer Line)
answers lines = map (λ x. line_in x.now) lines

pub answers_are : (lines : List (Bor (List ℕ))) → answers lines ≡ map line_in (map (λ x. x.now) lines)
answers_are [] = refl
answers_are (x ∷ lines) = ap (λ t. line_in x.now ∷ t) (answers_are lines)

-- these groups, and then those
abbrev pub with_groups : List Group → Result (List Group) Refused → Result (List Group) Refused
with_groups groups more = made (λ t. groups ++ t) more

pub groups_none : (more : Result (List Group) Refused) → with_groups [] more ≡ more
groups_none (Ok t) = refl
groups_none (Err e) = refl

groups_push : (groups : List Group) (g : Group) (more : Result (List Group) Refused) → with_groups groups (made (λ t. g ∷ t) more) ≡ with_groups (groups ++ g ∷ []) more
groups_push groups g (Ok t) = ap Ok (sym (append_assoc groups (g ∷ []) t))
groups_push groups g (Err e) = refl

module _ (lines : List (Bor (List ℕ))) (whole : Result (List Group) Refused) where
  -- the first i lines are read, into these groups and these requests
  abbrev pub ReadSo : ℕ → List Group → List Request → Type 0
  ReadSo i groups requests = with_groups groups (groups_in i requests (answers (drop i lines))) ≡ whole

  next_line :
      (i : ℕ) (d : Bor (List ℕ)) (groups : List Group) (requests : List Request) (a : Answer Line) → i < length lines → ReadSo i groups requests → line_in (get_or lines i d).now ≡ a
      → with_groups groups (groups_in i requests (a ∷ answers (drop (i + 1) lines))) ≡ whole
  next_line i d groups requests a h so is =
      ap (λ ls. with_groups groups (groups_in i requests ls)) (sym (ap answers (drop_more lines i d h) ∙ ap (λ b. b ∷ answers (drop (i + 1) lines)) is)) ∙ so

  pub asks_step :
      (i : ℕ) (d : Bor (List ℕ)) (groups : List Group) (requests : List Request) (r : Request) → i < length lines → ReadSo i groups requests → line_in (get_or lines i d).now ≡ Ok (Asks r)
      → ReadSo (i + 1) groups (requests ++ r ∷ [])
  asks_step i d groups requests r h so is = next_line i d groups requests (Ok (Asks r)) h so is

  pub ends_step :
      (i : ℕ) (d : Bor (List ℕ)) (groups : List Group) (requests : List Request) (end : End) → i < length lines → ReadSo i groups requests → line_in (get_or lines i d).now ≡ Ok (Ends end)
      → ReadSo (i + 1) (groups ++ record { requests = requests; end = end } ∷ []) []
  ends_step i d groups requests end h so is =
      sym (groups_push groups (record { requests = requests; end = end }) (groups_in (i + 1) [] (answers (drop (i + 1) lines))))
      ∙ next_line i d groups requests (Ok (Ends end)) h so is

  pub refused_step :
      (i : ℕ) (d : Bor (List ℕ)) (groups : List Group) (requests : List Request) (cause : ScriptCause) → i < length lines → ReadSo i groups requests → line_in (get_or lines i d).now ≡ Err cause
      → whole ≡ Err (record { line = i + 1; cause = cause })
  refused_step i d groups requests cause h so is = sym (next_line i d groups requests (Err cause) h so is)

  at_end : (i : ℕ) (groups : List Group) (requests : List Request) → length lines ≤ i → ReadSo i groups requests → whole ≡ with_groups groups (ended_at i requests)
  at_end i groups requests h so = sym so ∙ ap (λ ls. with_groups groups (groups_in i requests (answers ls))) (drop_all i lines h)

  open_at : (i : ℕ) (groups : List Group) (requests : List Request) → (requests ≡ [] → ⊥) → with_groups groups (ended_at i requests) ≡ Err (record { line = i; cause = Open })
  open_at i groups [] some = absurd (some refl)
  open_at i groups (r ∷ requests) some = refl

  pub open_end : (i : ℕ) (groups : List Group) (requests : List Request) → length lines ≤ i → ReadSo i groups requests → (requests ≡ [] → ⊥) → whole ≡ Err (record { line = i; cause = Open })
  open_end i groups requests h so some = at_end i groups requests h so ∙ open_at i groups requests some

  pub whole_end : (i : ℕ) (groups : List Group) (requests : List Request) → length lines ≤ i → ReadSo i groups requests → requests ≡ [] → whole ≡ Ok groups
  whole_end i groups requests h so none =
      at_end i groups requests h so ∙ ap (λ rs. with_groups groups (ended_at i rs)) none ∙ ap Ok (append-nil groups)

-- ---- the lines of a text

front_few : (text : List ℕ) (b : Bool) → length (cond b (take (length text - 1) text) text) ≤ length text
front_few text true = omega (arith, length-take (length text - 1) text)
front_few text false = omega arith

parts_few : (text : List ℕ) (n : ℕ) → length text ≤ n → length (slice_split (λ c. eqb c 10) text) ≤ n + 1
parts_few text n h = omega (arith, length-slice_split (λ c. eqb c 10) text, count_by-le-length (λ c. eqb c 10) text)

-- a text has no more lines than bytes, and one
lines_few : (bytes : List ℕ) → length (lines_of bytes) ≤ length bytes + 1
lines_few [] = omega arith
lines_few (b ∷ bytes) =
    parts_few (without_line_feed (b ∷ bytes)) (length (b ∷ bytes))
    (front_few (b ∷ bytes) (bytes_eq (drop (length (b ∷ bytes) - 1) (b ∷ bytes)) (codes "\n")))

pub few_lines : (lines : List (Bor (List ℕ))) (bytes : List ℕ) → map (λ x. x.now) lines ≡ lines_of bytes → length bytes ≤ 16777216 → length lines ≤ 16777217
few_lines lines bytes e h =
    let n : length (map (λ x. x.now) lines) ≡ length (lines_of bytes) = ap length e in
    omega (arith, length-map lines (λ (x : Bor (List ℕ)). x.now), lines_few bytes)

-- ---- the size of a script

pub script_large : (bytes : List ℕ) → 16777216 < length bytes → script_in bytes ≡ Err (record { line = 0; cause = Size })
script_large bytes h = ap (λ (b : Bool). cond b (Err (record { line = 0; cause = Size })) (made {B = Script} (λ groups. record { groups = groups }) (groups_in 0 [] (map line_in (lines_of bytes))))) (lt-ltb 16777216 (length bytes) h)

pub script_small : (bytes : List ℕ) → length bytes ≤ 16777216 → script_in bytes ≡ made (λ groups. record { groups = groups }) (groups_in 0 [] (map line_in (lines_of bytes)))
script_small bytes h = ap (λ (b : Bool). cond b (Err (record { line = 0; cause = Size })) (made {B = Script} (λ groups. record { groups = groups }) (groups_in 0 [] (map line_in (lines_of bytes))))) (le-ltb 16777216 (length bytes) h)

abbrev pub script_of : Result (List Group) Refused → Result Script Refused
script_of read = made (λ groups. record { groups = groups }) read

-- a script of these lines
pub script_lines : (lines : List (Bor (List ℕ))) (bytes : List ℕ) → map (λ x. x.now) lines ≡ lines_of bytes → length bytes ≤ 16777216 → script_in bytes ≡ script_of (groups_in 0 [] (answers lines))
script_lines lines bytes e h =
    script_small bytes h ∙ ap (λ ls. script_of (groups_in 0 [] (map line_in ls))) (sym e)
    ∙ ap (λ ls. script_of (groups_in 0 [] ls)) (sym (answers_are lines))

-- a line's refusal is the script's
pub refused_script :
    (script : Result Script Refused) (a : Answer Line) (line : ℕ) (refusal : LineRefusal) (r : ScriptRefusal) → ((cause : ScriptCause) → a ≡ Err cause → script ≡ Err (record { line = line; cause = cause }))
    → Agrees a (Err refusal) → IsAt line refusal r → AgreesAt script (Err r)
refused_script script a line (Cause cause) r f agrees is = subst (λ q. AgreesAt script (Err q)) (sym is) (f cause agrees)
refused_script script a line OutOfMemory r f agrees is = subst (λ q. AgreesAt script (Err q)) (sym is) tt

pub no_requests : (requests : List Request) → length requests ≡ 0 → requests ≡ []
no_requests [] h = refl
no_requests (r ∷ requests) h = absurd (omega arith)
