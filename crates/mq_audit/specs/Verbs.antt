-- The first words of lines of events.
use Rattle.std.specs.Prelude.{List, [], ◌∷◌, ℕ, Option, codes, bytes_eq}
use Rattle.std.specs.List.{find}
use Rattle.mq_audit.specs.declared.verb.Verb.{Verb}
use Rattle.mq_audit.specs.declared.verb.Verb.TheVariants.{Draw, Stage, Flush, Ring, Complete, Failed, StoreHead, FlushHead, Clear, Ack, Home, HomeDone, StoreBase, FlushBase}

abbrev pub verb_text : Verb → List ℕ
verb_text Draw = codes "draw"
verb_text Stage = codes "stage"
verb_text Flush = codes "flush"
verb_text Ring = codes "ring"
verb_text Complete = codes "complete"
verb_text Failed = codes "failed"
verb_text StoreHead = codes "storehead"
verb_text FlushHead = codes "flushhead"
verb_text Clear = codes "clear"
verb_text Ack = codes "ack"
verb_text Home = codes "home"
verb_text HomeDone = codes "homedone"
verb_text StoreBase = codes "storebase"
verb_text FlushBase = codes "flushbase"

abbrev pub verbs : List Verb
verbs =
    Draw ∷ Stage ∷ Flush ∷ Ring ∷ Complete ∷ Failed ∷ StoreHead ∷ FlushHead ∷ Clear ∷ Ack ∷ Home ∷ HomeDone
    ∷ StoreBase ∷ FlushBase ∷ []

-- the verb that is written so
abbrev pub verb_in : List ℕ → Option Verb
verb_in word = find (λ v. bytes_eq word (verb_text v)) verbs
