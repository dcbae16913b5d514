-- What the fields of an entry are by its dwords.
use Rattle.std.proofs.Common.{◌≡◌, ℕ, ◌%◌, List, slice_index, arith}
use Rattle.mq_nvme.specs.Completion.{status_of}
use Rattle.mq_nvme.specs.Dwords.{AreDwords}
use Rattle.mq_nvme.specs.Entry.{slot_of}
use Rattle.mq_nvme.specs.Field.{place, get_field, bits_of}

pub whole : (count dword : ℕ) (e : List ℕ) → AreDwords count e → get_field (place dword 0 32) e ≡ slice_index e dword
unfolding get_field bits_of
whole count dword e are = let fits = are.fit dword in omega arith

pub opcode_is : (e : List ℕ) → get_field (place 0 0 8) e ≡ slice_index e 0 % 256
unfolding get_field bits_of
opcode_is e = omega arith

pub count_is : (e : List ℕ) → get_field (place 12 0 16) e ≡ slice_index e 12 % 65536
unfolding get_field bits_of
count_is e = omega arith

-- the fields by which an entry is a write of one logical block
pub ruleset block_fields = (whole, opcode_is, count_is)

pub slot_is : (count : ℕ) (e : List ℕ) → AreDwords count e → get_field (place 0 16 16) e ≡ slot_of e
unfolding get_field bits_of
slot_is count e are = let fits = are.fit 0 in omega arith

pub status_is : (count : ℕ) (c : List ℕ) → AreDwords count c → get_field (place 3 17 15) c ≡ status_of c
unfolding get_field bits_of status_of
status_is count c are = let fits = are.fit 3 in omega arith
