-- Submission queue entries as lists of 16 dwords (NVM Express 1.4, "Submission Queue Entry").
use Rattle.std.specs.Prelude.{◌≡◌, ◌<◌, ◌≤◌, ℕ, ◌+◌, ◌*◌, ◌/◌, ◌%◌, ◌^◌, List, [], ◌∷◌, ◌++◌, Bool, ◌==◌, ◌||◌, nat_lt, if◌then◌else◌, Option, Some, None, slice_index}
use Rattle.mq_blocks.specs.Limits.{depth}
use Rattle.mq_nvme.specs.declared.write.WriteReq.{WriteReq}
use Rattle.mq_nvme.specs.declared.write.EntryRefusal.{EntryRefusal}
use Rattle.mq_nvme.specs.declared.write.EntryRefusal.TheVariants.{Opcode, Namespace, Count, Flags}

-- the entry of zeros
unfoldable pub blank : List ℕ
blank = 0 ∷ 0 ∷ 0 ∷ 0 ∷ 0 ∷ 0 ∷ 0 ∷ 0 ∷ 0 ∷ 0 ∷ 0 ∷ 0 ∷ 0 ∷ 0 ∷ 0 ∷ 0 ∷ []

-- the entry of a write
unfoldable pub entry_of : WriteReq → List ℕ
entry_of r =
    (1 + 65536 * r.slot) ∷ 1 ∷ (r.tx % 2 ^ 32) ∷ (r.tx / 2 ^ 32) ∷ 0 ∷ 0 ∷ (4096 * r.slot) ∷ 0 ∷ 0 ∷ 0
    ∷ (r.lba % 2 ^ 32) ∷ (r.lba / 2 ^ 32) ∷ (2 ^ 30 + (if r.commit then 2 ^ 17 else 2 ^ 16)) ∷ 0 ∷ 0 ∷ 0
    ∷ []

-- the number of the transaction
unfoldable pub tx_of : List ℕ → ℕ
tx_of e = slice_index e 2 + 2 ^ 32 * slice_index e 3

-- the starting logical block
unfoldable pub lba_of : List ℕ → ℕ
lba_of e = slice_index e 10 + 2 ^ 32 * slice_index e 11

-- bit 17 of dword 12, which marks the last request of a transaction
unfoldable pub is_commit : List ℕ → Bool
is_commit e = slice_index e 12 / 2 ^ 17 % 2 == 1

-- the command identifier, which is the slot
abbrev pub slot_of : List ℕ → ℕ
slot_of e = slice_index e 0 / 65536

-- the request that an entry makes, if it is a write
unfoldable pub request_of : List ℕ → WriteReq
request_of e = record { tx = tx_of e; slot = slot_of e; lba = lba_of e; commit = is_commit e }

-- the requests that have an entry
pub record IsRequest (r : WriteReq) : Type 0 where
  pub slot : r.slot < depth
  pub tx_low : 1 ≤ r.tx
  pub tx_high : r.tx < 2 ^ 64
  pub lba : r.lba < 2 ^ 64

-- the entry is this request's
pub record IsWrite (e : List ℕ) (r : WriteReq) : Type 0 where
  pub request : IsRequest r
  pub is : e ≡ entry_of r

-- a rule on entries, and the refusal of an entry that breaks it
pub record Rule : Type 0 where
  pub holds : List ℕ → Bool
  pub refusal : List ℕ → EntryRefusal

-- the refusal by a dword
abbrev pub flags : ℕ → List ℕ → EntryRefusal
flags k e = Flags k (slice_index e k)

-- a dword is 0
abbrev pub zero_at : ℕ → Rule
zero_at k = record { holds = λ e. slice_index e k == 0; refusal = flags k }

-- one logical block is written to namespace 1
unfoldable pub block_rules : List Rule
block_rules =
    record { holds = λ e. slice_index e 0 % 256 == 1; refusal = λ e. Opcode (slice_index e 0 % 256) }
    ∷ record { holds = λ e. slice_index e 1 == 1; refusal = λ e. Namespace (slice_index e 1) }
    ∷ record { holds = λ e. slice_index e 12 % 65536 == 0; refusal = λ e. Count (slice_index e 12 % 65536) }
    ∷ []

-- the rest of the dwords that all commands have: no fused operation, PRPs, and a slot as command
-- identifier; a transaction's number; no metadata pointer; and the slot's buffer as the only PRP
unfoldable pub common_rules : List Rule
common_rules =
    record { holds = λ e. slice_index e 0 / 256 % 256 == 0; refusal = flags 0 }
    ∷ record { holds = λ e. nat_lt (slot_of e) depth; refusal = flags 0 }
    ∷ record { holds = λ e. nat_lt 0 (tx_of e); refusal = flags 2 }
    ∷ zero_at 4
    ∷ zero_at 5
    ∷ record { holds = λ e. slice_index e 6 == 4096 * slot_of e; refusal = flags 6 }
    ∷ zero_at 7
    ∷ zero_at 8
    ∷ zero_at 9
    ∷ []

-- the rest of a write's own dwords: Force Unit Access, and one of the two marks of a transaction's
-- requests
unfoldable pub command_rules : List Rule
command_rules =
    record {
      holds = λ e. (slice_index e 12 / 65536 == 2 ^ 14 + 1) ||
          (slice_index e 12 / 65536 == 2 ^ 14 + 2);
      refusal = flags 12;
    }
    ∷ zero_at 13
    ∷ zero_at 14
    ∷ zero_at 15
    ∷ []

-- the first rule that is broken gives the refusal
abbrev pub first_refusal : List Rule → List ℕ → Option EntryRefusal
first_refusal [] e = None
first_refusal (r ∷ rs) e = if r.holds e then first_refusal rs e else Some (r.refusal e)

-- the first cause for which an entry is refused
unfoldable pub refusal_of : List ℕ → Option EntryRefusal
refusal_of e = first_refusal (block_rules ++ (common_rules ++ command_rules)) e
