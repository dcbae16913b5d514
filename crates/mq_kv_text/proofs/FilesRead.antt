-- The lines of a file, read one after another.
use Rattle.std.proofs.Common.{◌≡◌, ◌≢◌, inl, inr, ℕ, Bool, true, false, eqb, ◌+◌, ◌<◌, ◌≤◌, List, [], ◌∷◌, ◌++◌, length, get_or, take, drop, map, Bor, sym, ◌∙◌, ap, subst, refl, arith, append_assoc, append-nil}
use Rattle.std.specs.Prelude.{◌||◌, not}
use Rattle.std.specs.List.{AllByRecursion}
use Rattle.std.proofs.lemmas.Bool.{false≢true, ne_eqb}
use Rattle.std.proofs.lemmas.List.{length-map, length-take, take_all}
use Rattle.mq_block_text.specs.Refusals.{ended}
use Rattle.mq_block_text.proofs.TextLines.{told_parts, told_push}
use Rattle.mq_block_text.proofs.WordsLines.{lines_are}
use Rattle.mq_block_text.specs.Words.{lines_of}
use Rattle.mq_kv_buckets.specs.declared.operation.KvOp.{KvOp}
use Rattle.mq_kv_text.specs.Files.{IsFile, IsLine, IsMisread, IsRefused, IsSpellable, LacksSync, asked_lines, file_lines, line_text, lines_so_far, refusal_at}
use Rattle.mq_kv_text.specs.declared.line.Line.{Line}
use Rattle.mq_kv_text.specs.declared.line.Line.TheVariants.{Asks, Syncs}
use Rattle.mq_kv_text.specs.declared.refusal.Misread.{Misread}
use Rattle.mq_kv_text.specs.declared.refusal.Misread.TheVariants.{Form, OutOfMemory as NoMemory}
use Rattle.mq_kv_text.proofs.FilesOnce.{text_of_file}

-- ---- one more line

asked_push : (ops : List KvOp) (op : KvOp) → asked_lines (ops ++ op ∷ []) ≡ asked_lines ops ++ Asks op ∷ []
asked_push [] op = refl
asked_push (o ∷ ops) op = ap (λ (ls : List Line). Asks o ∷ ls) (asked_push ops op)

file_push : (groups : List (List KvOp)) (ops : List KvOp) → file_lines (groups ++ ops ∷ []) ≡ file_lines groups ++ (asked_lines ops ++ Syncs ∷ [])
file_push [] ops = refl
file_push (g ∷ groups) ops =
    ap (λ (ls : List Line). asked_lines g ++ Syncs ∷ ls) (file_push groups ops)
    ∙ sym (append_assoc (asked_lines g) (Syncs ∷ file_lines groups) (asked_lines ops ++ Syncs ∷ []))

pub asks_more : (groups : List (List KvOp)) (ops : List KvOp) (op : KvOp) → lines_so_far groups ops ++ Asks op ∷ [] ≡ lines_so_far groups (ops ++ op ∷ [])
asks_more groups ops op = append_assoc (file_lines groups) (asked_lines ops) (Asks op ∷ []) ∙ ap (λ (ls : List Line). file_lines groups ++ ls) (sym (asked_push ops op))

pub syncs_more : (groups : List (List KvOp)) (ops : List KvOp) → lines_so_far groups ops ++ Syncs ∷ [] ≡ lines_so_far (groups ++ ops ∷ []) []
syncs_more groups ops = append_assoc (file_lines groups) (asked_lines ops) (Syncs ∷ []) ∙ sym (file_push groups ops) ∙ sym (append-nil (file_lines (groups ++ ops ∷ [])))

good_push : (lines : List Line) (l : Line) → AllByRecursion IsLine lines → IsLine l → AllByRecursion IsLine (lines ++ l ∷ [])
good_push [] l good is = (is, tt)
good_push (m ∷ lines) l good is = (good.0, good_push lines l good.1 is)

-- ---- what is read of the first lines

module _ (lines : List (Bor (List ℕ))) where
  -- the first i lines are these
  pub record HasRead (i : ℕ) (read : List Line) : Type 0 where
    pub told : map (λ x. x.now) (take i lines) ≡ map line_text read
    pub good : AllByRecursion IsLine read

  pub read_push : (i : ℕ) (d : Bor (List ℕ)) (read : List Line) (l : Line) → i < length lines → HasRead i read → IsLine l → (get_or lines i d).now ≡ line_text l → HasRead (i + 1) (read ++ l ∷ [])
  read_push i d read l inside so is e = record {
    told = told_push (λ x. x.now) line_text lines i d read l inside so.told e;
    good = good_push read l so.good is;
  }

  count : (i : ℕ) (read : List Line) → i ≤ length lines → HasRead i read → length read ≡ i
  count i read inside so =
      let long : length (map (λ x. x.now) (take i lines)) ≡ length (map line_text read) = ap length so.told in
      let first : length (map (λ x. x.now) (take i lines)) ≡ length (take i lines) = length-map (take i lines) (λ (x : Bor (List ℕ)). x.now) in
      let same : length (map line_text read) ≡ length read = length-map read line_text in
      omega (arith, long, first, same, length-take i lines)

  -- ---- the first line that is not in the form

  pub misread_at :
      (bytes : List ℕ) (i : ℕ) (d : Bor (List ℕ)) (read : List Line) → map (λ x. x.now) lines ≡ lines_of bytes → i < length lines → HasRead i read
      → ((l : Line) → IsLine l → (get_or lines i d).now ≡ line_text l → ⊥) → IsMisread bytes (i + 1)
  misread_at bytes i d read cut inside so none = record {
    before = read;
    rest = (get_or lines i d).now ∷ map (λ x. x.now) (drop (i + 1) lines);
    are = sym cut ∙ told_parts (λ x. x.now) line_text lines i d read inside so.told;
    good = so.good;
    counted = ap (λ (n : ℕ). n + 1) (sym (count i read (omega (arith, inside)) so));
    wrong = none;
  }

  pub misread_end :
      (bytes : List ℕ) (i : ℕ) (read : List Line) → map (λ x. x.now) lines ≡ lines_of bytes → i ≡ length lines → HasRead i read
      → LacksSync read → IsMisread bytes (i + 1)
  misread_end bytes i read cut all so lacks = record {
    before = read;
    rest = [];
    are = sym cut ∙ ap (map (λ x. x.now)) (sym (take_all i lines (omega (arith, all)))) ∙ so.told ∙ sym (append-nil (map line_text read));
    good = so.good;
    counted = ap (λ (n : ℕ). n + 1) (sym (count i read (omega (arith, all)) so));
    wrong = lacks;
  }

-- a line that is refused makes its file refused there
pub refused_line : (holds : ℕ → Type 0) (m : Misread) (line : ℕ) → (m ≡ Form → holds line) → IsRefused holds (refusal_at line m)
refused_line holds Form line is = is refl
refused_line holds NoMemory line is = tt

-- ---- where the last `sync` is missing

abbrev is_sync : Line → Bool
is_sync (Asks op) = false
is_sync Syncs = true

abbrev ends_so : List Line → Bool
ends_so [] = false
ends_so (l ∷ []) = is_sync l
ends_so (l ∷ m ∷ lines) = ends_so (m ∷ lines)

sync_ends : (lines : List Line) → ends_so (lines ++ Syncs ∷ []) ≡ true
sync_ends [] = refl
sync_ends (l ∷ []) = refl
sync_ends (l ∷ m ∷ lines) = sync_ends (m ∷ lines)

some_ops : (op : KvOp) (ops : List KvOp) → op ∷ ops ≢ []
some_ops op ops e = omega (arith, ap length e)

asked_ends : (lines : List Line) (ops : List KvOp) → ops ≢ [] → ends_so (lines ++ asked_lines ops) ≡ false
asked_ends lines [] some = absurd (some refl)
asked_ends [] (op ∷ []) some = refl
asked_ends [] (op ∷ next ∷ ops) some = asked_ends [] (next ∷ ops) (some_ops next ops)
asked_ends (l ∷ []) (op ∷ ops) some = asked_ends [] (op ∷ ops) some
asked_ends (l ∷ m ∷ lines) (op ∷ ops) some = asked_ends (m ∷ lines) (op ∷ ops) some

lacks_of : (lines : List Line) → ends_so lines ≡ false → LacksSync lines
lacks_of lines e front is = false≢true (sym e ∙ ap ends_so is ∙ sync_ends front)

-- the operations of a group that has not ended
pub lacks_open : (groups : List (List KvOp)) (ops : List KvOp) → ops ≢ [] → LacksSync (lines_so_far groups ops)
lacks_open groups ops some = lacks_of (lines_so_far groups ops) (asked_ends (file_lines groups) ops some)

-- no group has ended
pub lacks_none : (ops : List KvOp) → LacksSync (lines_so_far [] ops)
lacks_none [] = lacks_of [] refl
lacks_none (op ∷ ops) = lacks_open [] (op ∷ ops) (some_ops op ops)

some_length : {A : Type 0} (x : A) (xs : List A) → eqb (length (x ∷ xs)) 0 ≡ false
some_length x xs = ne_eqb (length (x ∷ xs)) 0 (λ e. omega (arith, e))

-- whether no group has ended, or one has begun and not ended
abbrev pub is_open : List (List KvOp) → List KvOp → Bool
is_open groups ops = eqb (length groups) 0 || not (eqb (length ops) 0)

pub end_lacks : (b : Bool) (groups : List (List KvOp)) (ops : List KvOp) → b ≡ is_open groups ops → b ≡ true → LacksSync (lines_so_far groups ops)
end_lacks b [] ops e is = lacks_none ops
end_lacks b (g ∷ groups) [] e is = absurd (false≢true (sym (e ∙ ap (λ (t : Bool). t || false) (some_length g groups)) ∙ is))
end_lacks b (g ∷ groups) (op ∷ ops) e is = lacks_open (g ∷ groups) (op ∷ ops) (some_ops op ops)

pub end_whole : (b : Bool) (groups : List (List KvOp)) (ops : List KvOp) → b ≡ is_open groups ops → b ≡ false → (groups ≢ []) × (ops ≡ [])
end_whole b [] ops e is = absurd (false≢true (sym is ∙ e))
end_whole b (g ∷ groups) [] e is = ((λ none. omega (arith, ap length none)), refl)
end_whole b (g ∷ groups) (op ∷ ops) e is =
    absurd (false≢true (sym is ∙ e ∙ ap (λ (t : Bool). t || not (eqb (length (op ∷ ops)) 0)) (some_length g groups) ∙ ap not (some_length op ops)))

-- ---- a whole file

ops_good : (ops : List KvOp) (rest : List Line) → AllByRecursion IsLine (asked_lines ops ++ rest) → AllByRecursion IsSpellable ops × AllByRecursion IsLine rest
ops_good [] rest good = (tt, good)
ops_good (op ∷ ops) rest good = (let more = ops_good ops rest good.1 in ((good.0, more.0), more.1))

groups_good : (groups : List (List KvOp)) → AllByRecursion IsLine (file_lines groups) → AllByRecursion (AllByRecursion IsSpellable) groups
groups_good [] good = tt
groups_good (ops ∷ groups) good = (let more = ops_good ops (Syncs ∷ file_lines groups) good in (more.0, groups_good groups more.1.1))

pub whole_file :
    (lines : List (Bor (List ℕ))) (bytes : List ℕ) (i : ℕ) (groups : List (List KvOp)) → map (λ x. x.now) lines ≡ lines_of bytes → length lines ≤ i
    → HasRead lines i (lines_so_far groups []) → groups ≢ [] → IsFile bytes groups
whole_file lines bytes i groups cut all so some =
    let nil : lines_so_far groups [] ≡ file_lines groups = append-nil (file_lines groups) in
    let are : lines_of bytes ≡ map line_text (file_lines groups) = sym cut ∙ ap (map (λ x. x.now)) (sym (take_all i lines all)) ∙ so.told ∙ ap (map line_text) nil in
    record {
      some = some;
      good = groups_good groups (subst (AllByRecursion IsLine) nil so.good);
      spelled = elim (lines_are bytes) [
        | inl e ↦ inl (e ∙ ap (ended 10) are ∙ text_of_file groups)
        | inr e ↦ inr (e ∙ ap (ended 10) are ∙ text_of_file groups)
      ];
    }
