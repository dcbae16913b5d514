-- What is printed, line by line.
use Rattle.std.specs.Prelude.{◌≢◌, ◌<◌, ℕ, ◌^◌, List, [], ◌∷◌, ◌++◌, codes, decimal, map}
use Rattle.std.specs.List.{All, AllByRecursion}
use Rattle.mq_block_text.specs.Refusals.{ended}
use Rattle.mq_kv_buckets.specs.declared.operation.KvFault.{KvFault}
use Rattle.mq_kv_buckets.specs.declared.operation.KvFault.TheVariants.{BucketFull, KeySize, ValueSize}
use Rattle.mq_kv_buckets.specs.declared.operation.KvReply.{KvReply}
use Rattle.mq_kv_buckets.specs.declared.operation.KvReply.TheVariants.{Done, Missing, Refused, Value}
use Rattle.mq_kv_text.specs.Synced.{Synced}
use Rattle.mq_kv_text.specs.declared.report.GroupReport.{GroupReport}
use Rattle.mq_kv_text.specs.declared.report.GroupReport.TheVariants.{Large, Off, Synced as WasSynced}
use Rattle.mq_kv_text.specs.declared.report.LastLine.{LastLine}
use Rattle.mq_kv_text.specs.declared.report.LastLine.TheVariants.{Clean, Cut}

-- ---- replies

abbrev pub fault_name : KvFault → List ℕ
fault_name KeySize = codes "KeySize"
fault_name ValueSize = codes "ValueSize"
fault_name BucketFull = codes "BucketFull"

abbrev pub reply_text : KvReply → List ℕ
reply_text Done = codes "done"
reply_text Missing = codes "missing"
reply_text (Value value) = codes "value " ++ value
reply_text (Refused fault) = codes "refused " ++ fault_name fault

-- ---- groups

abbrev pub synced_lines : Synced → List (List ℕ)
synced_lines s = map reply_text s.replies ++ (codes "synced " ++ decimal s.at) ∷ []

-- a group that was refused, or cut off, has no replies
abbrev pub group_lines : GroupReport → List (List ℕ)
group_lines (WasSynced s) = synced_lines s
group_lines (Large count) = (codes "large " ++ decimal count) ∷ []
group_lines Off = codes "off" ∷ []

abbrev pub groups_lines : List GroupReport → List (List ℕ)
groups_lines [] = []
groups_lines (g ∷ groups) = group_lines g ++ groups_lines groups

-- ---- a whole report

pub record Report : Type 0 where
  pub groups : List GroupReport
  pub last : LastLine

abbrev pub last_line : LastLine → List ℕ
last_line (Clean number) = codes "clean " ++ decimal number
last_line (Cut events) = codes "cut " ++ decimal events

abbrev pub report_lines : Report → List (List ℕ)
report_lines r = groups_lines r.groups ++ last_line r.last ∷ []

-- each line ends with a line feed
abbrev pub report_text : Report → List ℕ
report_text r = ended 10 (report_lines r)

-- ---- reports whose text can be cut into lines again: no value has a line feed, and numbers are those of a
-- machine of 64 bits

abbrev pub IsPlainReply : KvReply → Type 0
IsPlainReply Done = Unit {0}
IsPlainReply Missing = Unit {0}
IsPlainReply (Value value) = All (λ b. b ≢ 10) value
IsPlainReply (Refused fault) = Unit {0}

abbrev pub IsPlainGroup : GroupReport → Type 0
IsPlainGroup (WasSynced s) = AllByRecursion IsPlainReply s.replies × (s.at < 2 ^ 64)
IsPlainGroup (Large count) = count < 2 ^ 64
IsPlainGroup Off = Unit {0}

abbrev pub IsPlainLast : LastLine → Type 0
IsPlainLast (Clean number) = number < 2 ^ 64
IsPlainLast (Cut events) = events < 2 ^ 64

pub record IsPlain (r : Report) : Type 0 where
  pub groups : AllByRecursion IsPlainGroup r.groups
  pub last : IsPlainLast r.last

-- ---- other lines

-- a file has a line that is not in the form
abbrev pub misread_text : ℕ → List ℕ
misread_text line = codes "line " ++ (decimal line ++ codes "\n")

-- a bucket is not in its form, from this byte on
abbrev pub bucket_text : (block offset : ℕ) → List ℕ
bucket_text block offset =
    codes "bucket " ++ (decimal block ++ (codes " " ++ (decimal offset ++ codes "\n")))

abbrev pub usage_text : List ℕ
usage_text = codes "usage: mq_kv_tool new|apply\n"

abbrev pub new_text : List ℕ
new_text = codes "new\n"
