-- What words ask: exactly one thing, or nothing.
use Rattle.std.specs.Prelude.{ℕ, ◌<◌, IfSome, List, Option, Some, None, option_map, codes}
use Rattle.clap.specs.Words.{Row, Text, first_of}
use Rattle.mq_cli.specs.Asked.{Commands, Words, asked_in, number_end, number_option}
use Rattle.mq_kv_cli.specs.Syntax.{app_for, verb_of}
use Rattle.mq_kv_cli.specs.declared.command.ApplyOptions.{ApplyOptions}
use Rattle.mq_kv_cli.specs.declared.command.Command.{Command}
use Rattle.mq_kv_cli.specs.declared.command.Command.TheVariants as command
use Rattle.mq_kv_cli.specs.declared.verb.Verb.{Verb}
use Rattle.mq_kv_cli.specs.declared.verb.Verb.TheVariants as verb

-- what words ask
pub data Asked : Type 0 where
  make : (image : Text) → Asked
  apply : (image file : Text) → ApplyOptions → Asked
  help : Option Verb → Asked
  version : Asked

-- ---- what the values of a command ask

abbrev pub apply_by : (image file : Option Text) → (cut pick : Option (Option ℕ)) → Option Asked
apply_by (Some image) (Some file) (Some cut) (Some pick) =
    Some (apply image file (record { cut = cut; pick = pick }))
apply_by _ _ _ _ = None

-- what is found of a command asks
abbrev pub asked_by : Verb → List Row → Option Asked
asked_by verb.New rows = option_map make (first_of (codes "image") rows)
asked_by verb.Apply rows = apply_by (first_of (codes "image") rows) (first_of (codes "file") rows)
    (number_option (first_of (codes "cut") rows)) (number_option (first_of (codes "pick") rows))

-- ---- what words ask

abbrev pub commands : Commands Verb Asked
commands = record {
  verb_of = verb_of;
  app_for = app_for;
  asked_by = asked_by;
  help = help;
  version = version;
}

-- what the words ask
abbrev pub asked_of : Words → Option Asked
asked_of words = asked_in commands words

-- the same as a command
abbrev pub asked : Command → Asked
asked (command.New image) = make image.now
asked (command.Apply image file options) = apply image.now file.now options
asked (command.Help topic) = help topic
asked command.Version = version

-- the numbers of the options are below their limit
abbrev pub AreSmall : ApplyOptions → Type 0
AreSmall o = IfSome o.cut (λ n. n < number_end) × IfSome o.pick (λ n. n < number_end)

abbrev pub HasSmallNumbers : Command → Type 0
HasSmallNumbers (command.Apply image file options) = AreSmall options
HasSmallNumbers _ = Unit {0}
