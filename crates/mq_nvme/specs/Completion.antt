-- Completion queue entries as lists of 4 dwords (NVM Express 1.4, "Completion Queue Entry").
use Rattle.std.specs.Prelude.{ℕ, ◌+◌, ◌*◌, ◌/◌, ◌%◌, ◌^◌, List, [], ◌∷◌, if◌then◌else◌, slice_index}
use Rattle.mq_nvme.specs.declared.completion.Ended.{Ended}

-- the entry of a command that ended
unfoldable pub completion_of : Ended → List ℕ
completion_of x =
    0 ∷ 0 ∷ (x.sq_head + 65536 * x.sq_id)
    ∷ (x.cid + 65536 * (if x.phase then 1 else 0) + 131072 * x.status) ∷ []

-- bits 15:0 of dword 3: the identifier of the command, which is its slot
unfoldable pub identifier_of : List ℕ → ℕ
identifier_of c = slice_index c 3 % 65536

-- bits 31:17 of dword 3
unfoldable pub status_of : List ℕ → ℕ
status_of c = slice_index c 3 / 2 ^ 17
