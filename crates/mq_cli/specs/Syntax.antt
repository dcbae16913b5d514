-- The commands by name, and the words of each as `clap` has them.
use Rattle.std.specs.Prelude.{true, List, [], ◌∷◌, ◌++◌, map, Option, Some, None, codes, bytes_eq}
use Rattle.std.specs.List.{find}
use Rattle.clap.specs.Words.{App, Rule, Text, new_rule}
use Rattle.clap.specs.Simple.{new_shape}
use Rattle.clap.specs.declared.builder.action.ArgAction.TheVariants as action
use Rattle.mq_cli.specs.declared.verb.Verb.{Verb}
use Rattle.mq_cli.specs.declared.verb.Verb.TheVariants.{Blocks, Format, Run, Recover, Ls, Cat, Gen, Dump, Check, Audit, Replicate, Loose}

-- ---- the commands by name

abbrev pub verb_text : Verb → Text
verb_text Blocks = codes "blocks"
verb_text Format = codes "format"
verb_text Run = codes "run"
verb_text Recover = codes "recover"
verb_text Ls = codes "ls"
verb_text Cat = codes "cat"
verb_text Gen = codes "gen"
verb_text Dump = codes "dump"
verb_text Check = codes "check"
verb_text Audit = codes "audit"
verb_text Replicate = codes "replicate"
verb_text Loose = codes "loose"

abbrev pub verbs : List Verb
verbs = Blocks ∷ Format ∷ Run ∷ Recover ∷ Ls ∷ Cat ∷ Gen ∷ Dump ∷ Check ∷ Audit ∷ Replicate ∷ Loose ∷ []

abbrev pub verb_of : Text → Option Verb
verb_of word = find (λ v. bytes_eq word (verb_text v)) verbs

-- ---- their words

-- the names that a command wants, in order, each of which is one word
abbrev pub names_for : Verb → List Text
names_for Blocks = codes "file" ∷ []
names_for Format = codes "image" ∷ codes "queues" ∷ codes "area" ∷ codes "meta" ∷ codes "zone" ∷ []
names_for Run = codes "image" ∷ []
names_for Recover = codes "image" ∷ []
names_for Ls = codes "image" ∷ []
names_for Cat = codes "image" ∷ codes "path" ∷ []
names_for Gen = codes "seed" ∷ codes "threads" ∷ codes "groups" ∷ []
names_for Dump = codes "image" ∷ []
names_for Check = codes "image" ∷ []
names_for Audit = codes "trace" ∷ []
names_for Replicate = codes "file" ∷ []
names_for Loose = codes "file" ∷ []

-- the name behind these of which it wants one or more words, where it has one
abbrev pub repeated_for : Verb → Option Text
repeated_for Blocks = None
repeated_for Format = None
repeated_for Run = Some (codes "scripts")
repeated_for Recover = None
repeated_for Ls = None
repeated_for Cat = None
repeated_for Gen = None
repeated_for Dump = None
repeated_for Check = None
repeated_for Audit = None
repeated_for Replicate = None
repeated_for Loose = None

-- the options that it takes, each with a value
abbrev pub options_for : Verb → List Text
options_for Blocks = codes "cut" ∷ codes "pick" ∷ codes "again" ∷ codes "save" ∷ codes "trace" ∷ []
options_for Format = []
options_for Run = codes "cut" ∷ codes "pick" ∷ codes "fail" ∷ []
options_for Recover = codes "cut" ∷ codes "pick" ∷ []
options_for Ls = []
options_for Cat = []
options_for Gen = codes "save" ∷ []
options_for Dump = []
options_for Check = []
options_for Audit = []
options_for Replicate = codes "seed" ∷ codes "save" ∷ []
options_for Loose = codes "cut" ∷ codes "pick" ∷ codes "save" ∷ []

-- a name, which has to stand as one word
abbrev pub name_rule : Text → Rule
name_rule id = record (new_rule id) { action = Some action.Set; required = true }

-- a name, which has to stand as one word or more
abbrev pub repeated_rule : Text → Rule
repeated_rule id = record (new_rule id) { action = Some action.Append; required = true }

abbrev pub repeated_rules : Option Text → List Rule
repeated_rules None = []
repeated_rules (Some id) = repeated_rule id ∷ []

-- an option `--id` with one value
abbrev pub option_rule : Text → Rule
option_rule id = record (new_rule id) { long = Some id; action = Some action.Set }

-- a command of these names and options, without a help of its own
abbrev pub app_with : (name : Text) (names : List Text) (repeated : Option Text) (options : List Text) → App
app_with name names repeated options = record {
  top = record (new_shape name) {
    disable_help_flag = true;
    rules = map name_rule names ++ (repeated_rules repeated ++ map option_rule options);
  };
  subs = [];
}

unfoldable pub app_for : Verb → App
app_for verb = app_with (verb_text verb) (names_for verb) (repeated_for verb) (options_for verb)
