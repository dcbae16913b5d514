-- The first words of lines.
use Rattle.std.specs.Prelude.{List, [], ◌∷◌, ℕ, Option, codes, bytes_eq}
use Rattle.std.specs.List.{find}
use Rattle.mq_kv_text.specs.declared.verb.Verb.{Verb}
use Rattle.mq_kv_text.specs.declared.verb.Verb.TheVariants.{Delete, Get, Put, Sync}

abbrev pub verb_text : Verb → List ℕ
verb_text Put = codes "put"
verb_text Delete = codes "del"
verb_text Get = codes "get"
verb_text Sync = codes "sync"

abbrev pub verbs : List Verb
verbs = Put ∷ Delete ∷ Get ∷ Sync ∷ []

-- the verb that is written so
abbrev pub verb_in : List ℕ → Option Verb
verb_in word = find (λ v. bytes_eq word (verb_text v)) verbs
