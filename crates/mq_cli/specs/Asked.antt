-- What words ask: exactly one thing, or nothing.
use Rattle.std.specs.Prelude.{◌≡◌, ◌⊎◌, ℕ, ◌<◌, ◌≤◌, ◌+◌, ◌^◌, IfSome, MatchResult, Result, ◌==◌, Bool, true, false, List, [], ◌∷◌, length, map, take, drop, Option, Some, None, option_and_then, option_map, codes, bytes_eq, nat_lt, nat_le, if◌then◌else◌, ◌&&◌}
use Rattle.std.specs.List.{list_all, position}
use Rattle.clap.specs.Words.{App, Row, Text, all_of, fault_of, first_of, matches_of}
use Rattle.mq_block_text.specs.Words.{is_visible, number_in}
use Rattle.mq_script.specs.Words.{path_in}
use Rattle.mq_tree.specs.Volume.{Path}
use Rattle.mq_cli.specs.Syntax.{app_for, verb_of}
use Rattle.mq_cli.specs.declared.command.BlocksOptions.{BlocksOptions}
use Rattle.mq_cli.specs.declared.command.Command.{Command}
use Rattle.mq_cli.specs.declared.command.FailingCommand.{FailingCommand}
use Rattle.mq_cli.specs.declared.command.RunFlags.{RunFlags}
use Rattle.mq_cli.specs.declared.command.Command.TheVariants as command
use Rattle.mq_cli.specs.declared.first.First.{First}
use Rattle.mq_cli.specs.declared.first.First.TheVariants as first
use Rattle.mq_cli.specs.declared.refusal.WordsRefusal.{WordsRefusal}
use Rattle.mq_cli.specs.declared.refusal.WordsRefusal.TheVariants.{OutOfMemory, Unknown}
use Rattle.mq_cli.specs.declared.verb.Verb.{Verb}
use Rattle.mq_cli.specs.declared.verb.Verb.TheVariants as verb

-- the words after the program's name
abbrev pub Words : Type 0
Words = List Text

-- what words ask
pub data Asked : Type 0 where
  blocks : (file : Text) → BlocksOptions → (save trace : Option Text) → Asked
  format : (image : Text) → (queues area meta zone : ℕ) → Asked
  run : (image : Text) → (scripts : List Text) → RunFlags → Asked
  recover : (image : Text) → (cut pick : Option ℕ) → Asked
  ls : (image : Text) → Asked
  cat : (image : Text) → Path → Asked
  gen : (seed threads groups : ℕ) → (save : Option Text) → Asked
  dump : (image : Text) → Asked
  check : (image : Text) → Asked
  audit : (trace : Text) → Asked
  replicate : (file : Text) → (seed : Option ℕ) → (save : Option Text) → Asked
  loose : (file : Text) → (cut pick : Option ℕ) → (save : Option Text) → Asked
  help : Option Verb → Asked
  version : Asked

-- ---- numbers and paths

-- the numbers of options are below this one
abbrev pub number_end : ℕ
number_end = 2 ^ 63

-- the numbers of a geometry are below this one
abbrev pub word_end : ℕ
word_end = 2 ^ 32

-- a workload has fewer threads
abbrev pub threads_end : ℕ
threads_end = 17

-- each of its threads has fewer groups
abbrev pub groups_end : ℕ
groups_end = 10001

abbrev pub below : (limit n : ℕ) → Option ℕ
below limit n = if nat_lt n limit then Some n else None

abbrev pub from : (least n : ℕ) → Option ℕ
from least n = if nat_le least n then Some n else None

-- a number below a limit, in decimal digits without a leading zero
abbrev pub number_within : ℕ → Text → Option ℕ
number_within limit text = option_and_then (below limit) (number_in text)

-- the number of an option, where the option is given
abbrev pub number_option : Option Text → Option (Option ℕ)
number_option None = Some None
number_option (Some text) = option_map Some (number_within number_end text)

-- a port's number and a command's, which counts from 1: the number 0 names no command
abbrev pub failing_by : (port command : Option ℕ) → Option FailingCommand
failing_by (Some port) (Some command) = Some (record { port = port; command = command })
failing_by _ _ = None

-- the two numbers, with the first colon between
abbrev pub failing_in : Text → Option FailingCommand
failing_in text = option_and_then
    (λ i. failing_by (number_within number_end (take i text))
    (number_within number_end (drop (i + 1) text)))
    (position (λ b. b == 58) text)

-- the command that an option names, where the option is given
abbrev pub failing_option : Option Text → Option (Option FailingCommand)
failing_option None = Some None
failing_option (Some text) = option_map Some (failing_in text)

-- a path begins with `/`, and has visible characters alone
abbrev pub path_within : Text → Option Path
path_within text = if list_all is_visible text then path_in text else None

-- ---- what the values of a command ask

-- both are given, and are the same name
abbrev pub are_one_name : (save trace : Option Text) → Bool
are_one_name (Some save) (Some trace) = bytes_eq save trace
are_one_name _ _ = false

-- an image and a trace are not saved under one name
abbrev pub blocks_by : Option Text → (cut pick again : Option (Option ℕ)) → (save trace : Option Text)
    → Option Asked
blocks_by (Some file) (Some cut) (Some pick) (Some again) save trace =
    if are_one_name save trace then None
    else Some (blocks file (record { cut = cut; pick = pick; again = again }) save trace)
blocks_by _ _ _ _ _ _ = None

abbrev pub format_by : Option Text → (queues area meta zone : Option ℕ) → Option Asked
format_by (Some image) (Some queues) (Some area) (Some meta) (Some zone) =
    Some (format image queues area meta zone)
format_by _ _ _ _ _ = None

-- one word or more
abbrev pub some_words : Option Words → Option Words
some_words (Some (word ∷ words)) = Some (word ∷ words)
some_words _ = None

abbrev pub run_by : Option Text → (scripts : Option Words) → (cut pick : Option (Option ℕ))
    → (fail : Option (Option FailingCommand)) → Option Asked
run_by (Some image) (Some scripts) (Some cut) (Some pick) (Some fail) =
    Some (run image scripts (record { cut = cut; pick = pick; fail = fail }))
run_by _ _ _ _ _ = None

abbrev pub recover_by : Option Text → (cut pick : Option (Option ℕ)) → Option Asked
recover_by (Some image) (Some cut) (Some pick) = Some (recover image cut pick)
recover_by _ _ _ = None

abbrev pub cat_by : Option Text → Option Path → Option Asked
cat_by (Some image) (Some path) = Some (cat image path)
cat_by _ _ = None

abbrev pub gen_by : (seed threads groups : Option ℕ) → (save : Option Text) → Option Asked
gen_by (Some seed) (Some threads) (Some groups) save = Some (gen seed threads groups save)
gen_by _ _ _ _ = None

abbrev pub replicate_by : Option Text → (seed : Option (Option ℕ)) → (save : Option Text) → Option Asked
replicate_by (Some file) (Some seed) save = Some (replicate file seed save)
replicate_by _ _ _ = None

abbrev pub loose_by : Option Text → (cut pick : Option (Option ℕ)) → (save : Option Text) → Option Asked
loose_by (Some file) (Some cut) (Some pick) save = Some (loose file cut pick save)
loose_by _ _ _ _ = None

-- the number of a name that is found
abbrev pub word_in : Option Text → Option ℕ
word_in word = option_and_then (number_within word_end) word

-- the same where it is in these bounds
abbrev pub number_from : (least limit : ℕ) → Option Text → Option ℕ
number_from least limit word = option_and_then (from least) (option_and_then (number_within limit) word)

-- what is found of a command asks
abbrev pub asked_by : Verb → List Row → Option Asked
asked_by verb.Blocks rows = blocks_by (first_of (codes "file") rows)
    (number_option (first_of (codes "cut") rows)) (number_option (first_of (codes "pick") rows))
    (number_option (first_of (codes "again") rows))
    (first_of (codes "save") rows) (first_of (codes "trace") rows)
asked_by verb.Format rows = format_by (first_of (codes "image") rows)
    (word_in (first_of (codes "queues") rows)) (word_in (first_of (codes "area") rows))
    (word_in (first_of (codes "meta") rows)) (word_in (first_of (codes "zone") rows))
asked_by verb.Run rows = run_by (first_of (codes "image") rows) (some_words (all_of (codes "scripts") rows))
    (number_option (first_of (codes "cut") rows)) (number_option (first_of (codes "pick") rows))
    (failing_option (first_of (codes "fail") rows))
asked_by verb.Recover rows = recover_by (first_of (codes "image") rows)
    (number_option (first_of (codes "cut") rows)) (number_option (first_of (codes "pick") rows))
asked_by verb.Ls rows = option_map ls (first_of (codes "image") rows)
asked_by verb.Cat rows =
    cat_by (first_of (codes "image") rows) (option_and_then path_within (first_of (codes "path") rows))
asked_by verb.Gen rows = gen_by (number_from 0 number_end (first_of (codes "seed") rows))
    (number_from 1 threads_end (first_of (codes "threads") rows))
    (number_from 0 groups_end (first_of (codes "groups") rows))
    (first_of (codes "save") rows)
asked_by verb.Dump rows = option_map dump (first_of (codes "image") rows)
asked_by verb.Check rows = option_map check (first_of (codes "image") rows)
asked_by verb.Audit rows = option_map audit (first_of (codes "trace") rows)
asked_by verb.Replicate rows = replicate_by (first_of (codes "file") rows)
    (number_option (first_of (codes "seed") rows)) (first_of (codes "save") rows)
asked_by verb.Loose rows = loose_by (first_of (codes "file") rows)
    (number_option (first_of (codes "cut") rows)) (number_option (first_of (codes "pick") rows))
    (first_of (codes "save") rows)

-- ---- what words ask

-- one of the words is `--help`, and stands before any `--`
abbrev pub wants_help : Words → Bool
wants_help [] = false
wants_help (word ∷ words) =
    if bytes_eq word (codes "--") then false
    else if bytes_eq word (codes "--help") then true
    else wants_help words

abbrev pub is_empty : {A : Type 0} → List A → Bool
is_empty [] = true
is_empty (x ∷ xs) = false

-- The commands of a program: what a word names, a command as `clap` has it, what is found of one asks, and what
-- the words ask that ask for help, or for the version.
pub record Commands (V A : Type 0) : Type 0 where
  pub verb_of : Text → Option V
  pub app_for : V → App
  pub asked_by : V → List Row → Option A
  pub help : Option V → A
  pub version : A

-- The words of a command, its name the first, ask what `clap` finds in them, where `clap` finds no fault.
unfoldable pub found_in : {V A : Type 0} → Commands V A → V → Words → Option A
found_in commands verb words =
    if is_empty (fault_of (commands.app_for verb) words)
    then commands.asked_by verb (matches_of (commands.app_for verb) words) else None

-- what the words ask by the first, which names this command or none
abbrev pub first_in : {V : Type 0} → Option V → (word : Text) → (words : Words) → Option (First V)
first_in None word words =
    if bytes_eq word (codes "--help") then Some (first.Help None)
    else if bytes_eq word (codes "--version") then Some first.Version
    else None
first_in (Some verb) word words =
    if wants_help words then Some (first.Help (Some verb)) else Some (first.Command verb)

abbrev pub asked_first : {V A : Type 0} → Commands V A → Words → First V → Option A
asked_first commands words (first.Help topic) = Some (commands.help topic)
asked_first commands words first.Version = Some commands.version
asked_first commands words (first.Command verb) = found_in commands verb words

abbrev pub asked_in : {V A : Type 0} → Commands V A → Words → Option A
asked_in commands [] = None
asked_in commands (word ∷ words) =
    option_and_then (asked_first commands (word ∷ words)) (first_in (commands.verb_of word) word words)

abbrev pub commands : Commands Verb Asked
commands = record {
  verb_of = verb_of;
  app_for = app_for;
  asked_by = asked_by;
  help = help;
  version = version;
}

-- what the words ask
abbrev pub asked_of : Words → Option Asked
asked_of words = asked_in commands words

-- What is read is what is asked, and what is refused asks nothing.
abbrev pub Reads : {T A : Type 0} → (asked : T → A) → Option A → Result T WordsRefusal → Type 0
Reads asked wanted r =
    MatchResult r (λ x. wanted ≡ Some (asked x)) (λ e. (e ≡ Unknown) × (wanted ≡ None))

-- the same, unless memory runs out
abbrev pub ReadsOrFails : {T A : Type 0} → (asked : T → A) → Option A → Result T WordsRefusal → Type 0
ReadsOrFails asked wanted r =
    MatchResult r (λ x. wanted ≡ Some (asked x))
    (λ e. (e ≡ OutOfMemory) ⊎ ((e ≡ Unknown) × (wanted ≡ None)))

-- the same as a command
abbrev pub asked : Command → Asked
asked (command.Blocks file options save trace) =
    blocks file.now options (option_map (λ s. s.now) save) (option_map (λ s. s.now) trace)
asked (command.Format image queues area meta zone) = format image.now queues area meta zone
asked (command.Run image scripts options) = run image.now (map (λ s. s.now) scripts.items) options
asked (command.Recover image cut pick) = recover image.now cut pick
asked (command.Ls image) = ls image.now
asked (command.Cat image path) = cat image.now path
asked (command.Gen seed threads groups save) = gen seed threads groups (option_map (λ s. s.now) save)
asked (command.Dump image) = dump image.now
asked (command.Check image) = check image.now
asked (command.Audit trace) = audit trace.now
asked (command.Replicate file seed save) = replicate file.now seed (option_map (λ s. s.now) save)
asked (command.Loose file cut pick save) = loose file.now cut pick (option_map (λ s. s.now) save)
asked (command.Help verb) = help verb
asked command.Version = version

-- the numbers of the options are below their limit
abbrev pub AreSmall : BlocksOptions → Type 0
AreSmall o =
    IfSome o.cut (λ n. n < number_end) × IfSome o.pick (λ n. n < number_end)
    × IfSome o.again (λ n. n < number_end)

-- both numbers are below their limit
abbrev pub NamesCommand : FailingCommand → Type 0
NamesCommand f = (f.port < number_end) × (f.command < number_end)

-- the same of the options of `run`
abbrev pub AreSmallOfRun : RunFlags → Type 0
AreSmallOfRun o =
    IfSome o.cut (λ n. n < number_end) × IfSome o.pick (λ n. n < number_end)
    × IfSome o.fail NamesCommand

-- the same of the numbers of `gen`, of which there is at least one thread
abbrev pub AreSmallOfGen : (seed threads groups : ℕ) → Type 0
AreSmallOfGen seed threads groups =
    (seed < number_end) × (1 ≤ threads) × (threads < threads_end) × (groups < groups_end)

abbrev pub HasSmallNumbers : Command → Type 0
HasSmallNumbers (command.Blocks file options save trace) = AreSmall options
HasSmallNumbers (command.Run image scripts options) = AreSmallOfRun options
HasSmallNumbers (command.Recover image cut pick) =
    IfSome cut (λ n. n < number_end) × IfSome pick (λ n. n < number_end)
HasSmallNumbers (command.Gen seed threads groups save) = AreSmallOfGen seed threads groups
HasSmallNumbers (command.Replicate file seed save) = IfSome seed (λ n. n < number_end)
HasSmallNumbers (command.Loose file cut pick save) =
    IfSome cut (λ n. n < number_end) × IfSome pick (λ n. n < number_end)
HasSmallNumbers _ = Unit {0}

-- a run has at least one script
abbrev pub HasScript : Command → Type 0
HasScript (command.Run image scripts options) = 1 ≤ length scripts.items
HasScript _ = Unit {0}
