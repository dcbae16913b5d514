-- Files of groups of operations: their bytes, and the first line that is not in the form.
use Rattle.std.specs.Prelude.{◌≡◌, ◌≢◌, ◌⊎◌, ℕ, ◌+◌, Bool, true, false, ◌&&◌, nat_le, List, [], ◌∷◌, ◌++◌, codes, length, map, Result, MatchResult}
use Rattle.std.specs.List.{AllByRecursion, list_all}
use Rattle.mq_block_text.specs.Words.{is_visible, lines_of}
use Rattle.mq_kv_buckets.specs.declared.operation.KvOp.{KvOp}
use Rattle.mq_kv_buckets.specs.declared.operation.KvOp.TheVariants.{Delete, Get, Put}
use Rattle.mq_kv_text.specs.declared.line.Line.{Line}
use Rattle.mq_kv_text.specs.declared.line.Line.TheVariants.{Asks, Syncs}
use Rattle.mq_kv_text.specs.declared.refusal.KvTextRefusal.{KvTextRefusal}
use Rattle.mq_kv_text.specs.declared.refusal.KvTextRefusal.TheVariants.{Line as At, OutOfMemory}
use Rattle.mq_kv_text.specs.declared.refusal.Misread.{Misread}
use Rattle.mq_kv_text.specs.declared.refusal.Misread.TheVariants.{Form, OutOfMemory as NoMemory}

-- ---- words

-- a key or a value: at least one byte, and each of them visible
abbrev pub is_word : List ℕ → Bool
is_word [] = false
is_word (b ∷ bytes) = list_all is_visible (b ∷ bytes)

-- ---- lines

abbrev pub op_text : KvOp → List ℕ
op_text (Put key value) = codes "put " ++ key ++ 32 ∷ value
op_text (Delete key) = codes "del " ++ key
op_text (Get key) = codes "get " ++ key

-- the key and the value are words; how long they are is no matter of the form
abbrev pub IsSpellable : KvOp → Type 0
IsSpellable (Put key value) = (is_word key ≡ true) × (is_word value ≡ true)
IsSpellable (Delete key) = is_word key ≡ true
IsSpellable (Get key) = is_word key ≡ true

-- an operation, or the end of a group
abbrev pub line_text : Line → List ℕ
line_text (Asks op) = op_text op
line_text Syncs = codes "sync"

abbrev pub IsLine : Line → Type 0
IsLine (Asks op) = IsSpellable op
IsLine Syncs = Unit {0}

-- the words between the spaces of a line
abbrev pub line_words : Line → List (List ℕ)
line_words (Asks (Put key value)) = codes "put" ∷ key ∷ value ∷ []
line_words (Asks (Delete key)) = codes "del" ∷ key ∷ []
line_words (Asks (Get key)) = codes "get" ∷ key ∷ []
line_words Syncs = codes "sync" ∷ []

-- ---- files

-- the lines of operations, each ended by a line feed
abbrev pub ops_text : List KvOp → List ℕ
ops_text [] = []
ops_text (op ∷ ops) = op_text op ++ 10 ∷ ops_text ops

-- the lines of groups, each of which ends with `sync`
abbrev pub groups_text : List (List KvOp) → List ℕ
groups_text [] = []
groups_text (ops ∷ groups) = ops_text ops ++ codes "sync\n" ++ groups_text groups

-- the same as lines
abbrev pub asked_lines : List KvOp → List Line
asked_lines [] = []
asked_lines (op ∷ ops) = Asks op ∷ asked_lines ops

abbrev pub file_lines : List (List KvOp) → List Line
file_lines [] = []
file_lines (ops ∷ groups) = asked_lines ops ++ Syncs ∷ file_lines groups

-- the lines of whole groups, and of the operations of one that has not ended
abbrev pub lines_so_far : List (List KvOp) → List KvOp → List Line
lines_so_far groups ops = file_lines groups ++ asked_lines ops

-- The bytes are the file of these groups. There is a group, since the last line is `sync`, and this line may
-- lack its line feed.
pub record IsFile (bytes : List ℕ) (groups : List (List KvOp)) : Type 0 where
  pub some : groups ≢ []
  pub good : AllByRecursion (AllByRecursion IsSpellable) groups
  pub spelled : (bytes ≡ groups_text groups) ⊎ (bytes ++ 10 ∷ [] ≡ groups_text groups)

-- ---- the first line that is not in the form

-- the last of these lines is no `sync`, or there is none
abbrev pub LacksSync : List Line → Type 0
LacksSync lines = (front : List Line) → lines ≡ front ++ Syncs ∷ [] → ⊥

-- After these lines, the next of the others is none of the form; or there is no other, and the `sync` that
-- has to be the last line is missing.
abbrev pub IsWrong : List Line → List (List ℕ) → Type 0
IsWrong before [] = LacksSync before
IsWrong before (text ∷ rest) = (l : Line) → IsLine l → text ≡ line_text l → ⊥

-- the lines before the one of this number, counted from 1, are in the form, and it is not
pub record IsMisread (bytes : List ℕ) (line : ℕ) : Type 0 where
  pub before : List Line
  pub rest : List (List ℕ)
  pub are : lines_of bytes ≡ map line_text before ++ rest
  pub good : AllByRecursion IsLine before
  pub counted : line ≡ length before + 1
  pub wrong : IsWrong before rest

-- ---- refusals

abbrev pub refusal_at : ℕ → Misread → KvTextRefusal
refusal_at line Form = At line
refusal_at line NoMemory = OutOfMemory

-- A refusal at a line gives its number. Out of memory says nothing of the file.
abbrev pub IsRefused : (ℕ → Type 0) → KvTextRefusal → Type 0
IsRefused holds (At line) = holds line
IsRefused holds OutOfMemory = Unit {0}

-- the answer is the refusal at this line, unless memory runs out
abbrev pub IsRefusal : {T : Type 0} → Result T KvTextRefusal → ℕ → Type 0
IsRefusal r line = MatchResult r (λ _. ⊥) (λ e. (e ≡ At line) ⊎ (e ≡ OutOfMemory))
