-- The first words of lines.
use Rattle.std.specs.Prelude.{List, [], ◌∷◌, ℕ, Option, codes, bytes_eq}
use Rattle.std.specs.List.{find}
use Rattle.mq_script.specs.declared.verb.Verb.{Verb}
use Rattle.mq_script.specs.declared.verb.Verb.TheVariants.{Mkdir, Create, Write, Truncate, Unlink, Rmdir, Rename, Link, Read, List as ListOf, Stat, Fsync, Fatomic, Ask}

abbrev pub verb_text : Verb → List ℕ
verb_text Mkdir = codes "mkdir"
verb_text Create = codes "create"
verb_text Write = codes "write"
verb_text Truncate = codes "truncate"
verb_text Unlink = codes "unlink"
verb_text Rmdir = codes "rmdir"
verb_text Rename = codes "rename"
verb_text Link = codes "link"
verb_text Read = codes "read"
verb_text ListOf = codes "list"
verb_text Stat = codes "stat"
verb_text Fsync = codes "fsync"
verb_text Fatomic = codes "fatomic"
verb_text Ask = codes "ask"

abbrev pub verbs : List Verb
verbs =
    Mkdir ∷ Create ∷ Write ∷ Truncate ∷ Unlink ∷ Rmdir ∷ Rename ∷ Link ∷ Read ∷ ListOf ∷ Stat ∷ Fsync
    ∷ Fatomic ∷ Ask ∷ []

-- the verb that is written so
abbrev pub verb_in : List ℕ → Option Verb
verb_in word = find (λ v. bytes_eq word (verb_text v)) verbs
