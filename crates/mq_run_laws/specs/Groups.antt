-- The groups of the scripts of a run, by session and by place.
use Rattle.std.specs.Prelude.{◌<◌, ℕ, List, [], length, slice_index_or}
use Rattle.mq_script.specs.Scripts.{Group, Script}
use Rattle.mq_script.specs.declared.group.End.TheVariants.{Ask}

-- session s plays script s
abbrev pub groups_of : List Script → (session : ℕ) → List Group
groups_of scripts s = (slice_index_or scripts s (record { groups = [] })).groups

abbrev pub group_at : List Script → (session group : ℕ) → Group
group_at scripts s k = slice_index_or (groups_of scripts s) k (record { requests = []; end = Ask })

-- there is such a group
abbrev pub IsGroup : List Script → (session group : ℕ) → Type 0
IsGroup scripts s k = k < length (groups_of scripts s)
