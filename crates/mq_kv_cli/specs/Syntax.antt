-- The commands by name, and the words of each as `clap` has them.
use Rattle.std.specs.Prelude.{List, [], ◌∷◌, Option, Some, None, codes, bytes_eq, if◌then◌else◌}
use Rattle.clap.specs.Words.{App, Text}
use Rattle.mq_cli.specs.Syntax.{app_with}
use Rattle.mq_kv_cli.specs.declared.verb.Verb.{Verb}
use Rattle.mq_kv_cli.specs.declared.verb.Verb.TheVariants.{New, Apply}

abbrev pub verb_text : Verb → Text
verb_text New = codes "new"
verb_text Apply = codes "apply"

abbrev pub verb_of : Text → Option Verb
verb_of word =
    if bytes_eq word (codes "new") then Some New
    else if bytes_eq word (codes "apply") then Some Apply
    else None

-- the names that a command wants, in order, each of which is one word
abbrev pub names_for : Verb → List Text
names_for New = codes "image" ∷ []
names_for Apply = codes "image" ∷ codes "file" ∷ []

-- the options that it takes, each with a value
abbrev pub options_for : Verb → List Text
options_for New = []
options_for Apply = codes "cut" ∷ codes "pick" ∷ []

unfoldable pub app_for : Verb → App
app_for verb = app_with (verb_text verb) (names_for verb) None (options_for verb)
