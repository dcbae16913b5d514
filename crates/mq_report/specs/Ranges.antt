-- Reports whose numbers are those of a machine of 64 bits, and whose replies are bytes and good names.
use Rattle.std.specs.Prelude.{◌≡◌, ◌<◌, ◌^◌, ℕ, true, List, [], ◌∷◌, All, length, Option, Some, None}
use Rattle.mq_layout.specs.Names.{is_name}
use Rattle.mq_tree.specs.declared.request.Reply.{Reply}
use Rattle.mq_tree.specs.declared.request.Reply.TheVariants.{Ok as Done, Data, Names, File as Size, Dir as Count, Refused}
use Rattle.mq_report.specs.Lines.{Answer, Good, Large, Changes, Off, Failed, Home, Stopped, Memory, Line, answer_of}
use Rattle.mq_report.specs.declared.line.Last.{Last}
use Rattle.mq_report.specs.declared.line.Last.TheVariants.{Clean, Cut, StoppedTx, StoppedBlock}
use Rattle.mq_report.specs.declared.line.Told.{Told}

-- the bytes are bytes, and the names are good
abbrev pub IsFit : Reply → Type 0
IsFit Done = Unit {0}
IsFit (Data bytes) = All (λ b. b < 256) bytes × (length bytes < 2 ^ 64)
IsFit (Names names) = All (λ n. is_name n ≡ true) names
IsFit (Size size) = size < 2 ^ 64
IsFit (Count count) = count < 2 ^ 64
IsFit (Refused fault) = Unit {0}

pub record IsSmallLine (l : Line) : Type 0 where
  pub number : l.number < 2 ^ 64
  pub session : l.session < 2 ^ 64
  pub group : l.group < 2 ^ 64

abbrev pub IsSmallDrawn : Option ℕ → Type 0
IsSmallDrawn None = Unit {0}
IsSmallDrawn (Some number) = number < 2 ^ 64

abbrev pub IsSmallAnswer : Answer → Type 0
IsSmallAnswer (Good number) = number < 2 ^ 64
IsSmallAnswer (Large count) = count < 2 ^ 64
IsSmallAnswer (Changes index) = index < 2 ^ 64
IsSmallAnswer (Off drawn) = IsSmallDrawn drawn
IsSmallAnswer (Failed tx status drawn) = (tx < 2 ^ 64) × (status < 2 ^ 64) × IsSmallDrawn drawn
IsSmallAnswer (Home block status) = (block < 2 ^ 64) × (status < 2 ^ 64)
IsSmallAnswer (Stopped tx drawn) = (tx < 2 ^ 64) × IsSmallDrawn drawn
IsSmallAnswer Memory = Unit {0}

pub record IsSmallTold (t : Told) : Type 0 where
  pub session : t.session < 2 ^ 64
  pub group : t.group < 2 ^ 64
  pub answer : IsSmallAnswer (answer_of t.answer)

abbrev pub IsSmallLast : Last → Type 0
IsSmallLast (Clean number) = number < 2 ^ 64
IsSmallLast (Cut events) = events < 2 ^ 64
IsSmallLast (StoppedTx tx) = tx < 2 ^ 64
IsSmallLast (StoppedBlock block) = block < 2 ^ 64

-- so are the replies of all groups
abbrev pub HaveFitReplies : List Line → Type 0
HaveFitReplies lines = All (λ l. All IsFit l.replies) lines

abbrev pub AreFit : List Line → Type 0
AreFit [] = Unit {0}
AreFit (l ∷ ls) = All IsFit l.replies × IsSmallLine l × AreFit ls

abbrev pub AreSmall : List Told → Type 0
AreSmall [] = Unit {0}
AreSmall (t ∷ ts) = IsSmallTold t × AreSmall ts

pub record IsSmall (base : ℕ) (entries : List Line) (answers : List Told) (last : Last) : Type 0 where
  pub base_small : base < 2 ^ 64
  pub entries_fit : AreFit entries
  pub answers_small : AreSmall answers
  pub last_small : IsSmallLast last
