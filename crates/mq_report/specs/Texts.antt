-- The text of a report, as lines of words.
use Rattle.std.specs.Prelude.{ℕ, Bool, true, false, List, [], ◌∷◌, ◌++◌, length, map, Option, Some, None, codes}
use Rattle.std.specs.Fmt.{decimal}
use Rattle.hex.specs.Hex.{encode_lower}
use Rattle.mq_script.specs.Spelled.{end_word}
use Rattle.mq_tree.specs.declared.request.Fault.{Fault}
use Rattle.mq_tree.specs.declared.request.Fault.TheVariants.{NotFound, Exists, NotDir, IsDir, NotEmpty, BadName, TooBig, Subtree, NoSpace, NoInodes, Links}
use Rattle.mq_tree.specs.declared.request.Reply.{Reply}
use Rattle.mq_tree.specs.declared.request.Reply.TheVariants.{Ok as Done, Data, Names, File as Size, Dir as Count, Refused}
use Rattle.mq_report.specs.Lines.{Answer, Good, Large, Changes, Off, Failed, Home, Stopped, Memory, Line, answer_of}
use Rattle.mq_report.specs.declared.line.Last.{Last}
use Rattle.mq_report.specs.declared.line.Last.TheVariants.{Clean, Cut, StoppedTx, StoppedBlock}
use Rattle.mq_report.specs.declared.line.Told.{Told}

abbrev pub Words : Type 0
Words = List (List ℕ)

-- ---- entries and their replies

abbrev pub fault_word : Fault → List ℕ
fault_word NotFound = codes "NotFound"
fault_word Exists = codes "Exists"
fault_word NotDir = codes "NotDir"
fault_word IsDir = codes "IsDir"
fault_word NotEmpty = codes "NotEmpty"
fault_word BadName = codes "BadName"
fault_word TooBig = codes "TooBig"
fault_word Subtree = codes "Subtree"
fault_word NoSpace = codes "NoSpace"
fault_word NoInodes = codes "NoInodes"
fault_word Links = codes "Links"

-- how many bytes, and two digits for each where there are any
abbrev pub data_words : List ℕ → Words
data_words [] = decimal 0 ∷ []
data_words (b ∷ bytes) = decimal (length (b ∷ bytes)) ∷ encode_lower (b ∷ bytes) ∷ []

abbrev pub reply_words : Reply → Words
reply_words Done = codes "ok" ∷ []
reply_words (Data bytes) = codes "data" ∷ data_words bytes
reply_words (Names names) = codes "names" ∷ names
reply_words (Size size) = codes "file" ∷ decimal size ∷ []
reply_words (Count count) = codes "dir" ∷ decimal count ∷ []
reply_words (Refused fault) = codes "refused" ∷ fault_word fault ∷ []

-- two spaces stand before it
abbrev pub reply_line : Reply → Words
reply_line reply = [] ∷ [] ∷ reply_words reply

abbrev pub entry_word : (commit : Bool) → List ℕ
entry_word true = codes "commit"
entry_word false = codes "at"

abbrev pub entry_line : Line → Words
entry_line l =
    entry_word l.commit ∷ decimal l.number ∷ codes "session" ∷ decimal l.session ∷ codes "group"
    ∷ decimal l.group ∷ end_word l.end ∷ []

-- an entry, and its replies below it
abbrev pub group_lines : Line → List Words
group_lines l = entry_line l ∷ map reply_line l.replies

abbrev pub entry_lines : List Line → List Words
entry_lines [] = []
entry_lines (l ∷ ls) = group_lines l ++ entry_lines ls

-- ---- answers

abbrev pub drawn_word : Option ℕ → List ℕ
drawn_word None = codes "-"
drawn_word (Some number) = decimal number

abbrev pub answer_words : Answer → Words
answer_words (Good number) = codes "ok" ∷ decimal number ∷ []
answer_words (Large count) = codes "large" ∷ decimal count ∷ []
answer_words (Changes index) = codes "changes" ∷ decimal index ∷ []
answer_words (Off drawn) = codes "off" ∷ drawn_word drawn ∷ []
answer_words (Failed tx status drawn) = codes "failed" ∷ decimal tx ∷ decimal status ∷ drawn_word drawn ∷ []
answer_words (Home block status) = codes "home" ∷ decimal block ∷ decimal status ∷ []
answer_words (Stopped tx drawn) = codes "stopped" ∷ decimal tx ∷ drawn_word drawn ∷ []
answer_words Memory = codes "memory" ∷ []

abbrev pub told_line : Told → Words
told_line t = codes "answer" ∷ decimal t.session ∷ decimal t.group ∷ answer_words (answer_of t.answer)

-- ---- the whole

abbrev pub base_line : ℕ → Words
base_line base = codes "base" ∷ decimal base ∷ []

abbrev pub last_line : Last → Words
last_line (Clean number) = codes "clean" ∷ decimal number ∷ []
last_line (Cut events) = codes "cut" ∷ decimal events ∷ []
last_line (StoppedTx tx) = codes "stopped" ∷ codes "tx" ∷ decimal tx ∷ []
last_line (StoppedBlock block) = codes "stopped" ∷ codes "block" ∷ decimal block ∷ []

abbrev pub report_lines : (base : ℕ) → List Line → List Told → Last → List Words
report_lines base entries answers last =
    base_line base ∷ entry_lines entries ++ (map told_line answers ++ last_line last ∷ [])

-- each word after a space
abbrev pub after_spaces : Words → List ℕ
after_spaces [] = []
after_spaces (w ∷ ws) = 32 ∷ w ++ after_spaces ws

-- the words with one space between each two
abbrev pub spaced : Words → List ℕ
spaced [] = []
spaced (w ∷ ws) = w ++ after_spaces ws

-- each line ends with a line feed
abbrev pub spelled : List Words → List ℕ
spelled [] = []
spelled (l ∷ ls) = spaced l ++ 10 ∷ spelled ls
