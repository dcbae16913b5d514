-- The lines of scripts: what each says, or why it is refused.
use Rattle.std.specs.Prelude.{ℕ, if◌then◌else◌, Option, Some, None, Result, Ok, Err, List, [], ◌∷◌}
use Rattle.std.specs.List.{list_all}
use Rattle.std.specs.Option.{ok_or}
use Rattle.mq_block_text.specs.Words.{is_plain, words_of, one_of, two_of, number_in}
use Rattle.mq_tree.specs.declared.request.Request.TheVariants.{Mkdir as make_mkdir, Create as make_create, Write as make_write, Truncate as make_truncate, Unlink as make_unlink, Rmdir as make_rmdir, Rename as make_rename, Link as make_link, Read as make_read, List as make_list, Stat as make_stat}
use Rattle.mq_script.specs.Answers.{and_then, made}
use Rattle.mq_script.specs.Verbs.{verb_in}
use Rattle.mq_script.specs.Words.{three_of, rest_of, path_in, data_in}
use Rattle.mq_script.specs.declared.group.End.{End}
use Rattle.mq_script.specs.declared.group.End.TheVariants.{Fsync as by_fsync, Fatomic as by_fatomic, Ask as by_ask}
use Rattle.mq_script.specs.declared.line.Line.{Line}
use Rattle.mq_script.specs.declared.line.Line.TheVariants.{Asks, Ends}
use Rattle.mq_script.specs.declared.refusal.ScriptCause.{ScriptCause}
use Rattle.mq_script.specs.declared.refusal.ScriptCause.TheVariants.{Bytes, Verb as NoVerb, Arguments, Path, Number, Data}
use Rattle.mq_script.specs.declared.verb.Verb.{Verb}
use Rattle.mq_script.specs.declared.verb.Verb.TheVariants.{Mkdir, Create, Write, Truncate, Unlink, Rmdir, Rename, Link, Read, List as ListOf, Stat, Fsync, Fatomic, Ask}

abbrev pub Answer : Type 0 → Type 0
Answer A = Result A ScriptCause

-- ---- what follows a verb: first as many words as it takes, then each from the left in its form

abbrev pub a_path : List (List ℕ) → Answer (List (List ℕ))
a_path words = and_then (ok_or (one_of words) Arguments) (λ w. ok_or (path_in w) Path)

abbrev pub two_paths : List (List ℕ) → Answer (List (List ℕ) × List (List ℕ))
two_paths words =
    and_then (ok_or (two_of words) Arguments) (λ w.
    and_then (ok_or (path_in w.0) Path) (λ p.
    and_then (ok_or (path_in w.1) Path) (λ q. Ok (p, q))))

abbrev pub a_path_and_a_number : List (List ℕ) → Answer (List (List ℕ) × ℕ)
a_path_and_a_number words =
    and_then (ok_or (two_of words) Arguments) (λ w.
    and_then (ok_or (path_in w.0) Path) (λ p.
    and_then (ok_or (number_in w.1) Number) (λ n. Ok (p, n))))

abbrev pub a_path_and_two_numbers : List (List ℕ) → Answer (List (List ℕ) × ℕ × ℕ)
a_path_and_two_numbers words =
    and_then (ok_or (three_of words) Arguments) (λ w.
    and_then (ok_or (path_in w.0) Path) (λ p.
    and_then (ok_or (number_in w.1) Number) (λ m.
    and_then (ok_or (number_in w.2) Number) (λ n. Ok (p, m, n)))))

abbrev pub a_path_a_number_and_data : List (List ℕ) → Answer (List (List ℕ) × ℕ × List ℕ)
a_path_a_number_and_data words =
    and_then (ok_or (rest_of words) Arguments) (λ w.
    and_then (ok_or (path_in w.0) Path) (λ p.
    and_then (ok_or (number_in w.1) Number) (λ n.
    and_then (ok_or (data_in w.2) Data) (λ bytes. Ok (p, n, bytes)))))

-- the end of a group, which takes no words
abbrev pub an_end : End → List (List ℕ) → Answer Line
an_end end [] = Ok (Ends end)
an_end end (w ∷ words) = Err Arguments

abbrev pub arguments_in : Verb → List (List ℕ) → Answer Line
arguments_in Mkdir words = made (λ p. Asks (make_mkdir p)) (a_path words)
arguments_in Create words = made (λ p. Asks (make_create p)) (a_path words)
arguments_in Write words = made (λ x. Asks (make_write x.0 x.1 x.2)) (a_path_a_number_and_data words)
arguments_in Truncate words = made (λ x. Asks (make_truncate x.0 x.1)) (a_path_and_a_number words)
arguments_in Unlink words = made (λ p. Asks (make_unlink p)) (a_path words)
arguments_in Rmdir words = made (λ p. Asks (make_rmdir p)) (a_path words)
arguments_in Rename words = made (λ x. Asks (make_rename x.0 x.1)) (two_paths words)
arguments_in Link words = made (λ x. Asks (make_link x.0 x.1)) (two_paths words)
arguments_in Read words = made (λ x. Asks (make_read x.0 x.1 x.2)) (a_path_and_two_numbers words)
arguments_in ListOf words = made (λ p. Asks (make_list p)) (a_path words)
arguments_in Stat words = made (λ p. Asks (make_stat p)) (a_path words)
arguments_in Fsync words = an_end by_fsync words
arguments_in Fatomic words = an_end by_fatomic words
arguments_in Ask words = an_end by_ask words

-- ---- a line

abbrev pub verb_line : Option Verb → List (List ℕ) → Answer Line
verb_line None words = Err NoVerb
verb_line (Some verb) words = arguments_in verb words

-- the first word is the verb
abbrev pub words_line : List (List ℕ) → Answer Line
words_line [] = Err NoVerb
words_line (w ∷ words) = verb_line (verb_in w) words

abbrev pub line_in : List ℕ → Answer Line
line_in line = if list_all is_plain line then words_line (words_of line) else Err Bytes
