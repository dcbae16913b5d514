-- What a completion says of its command.
use Rattle.std.proofs.Common.{◌≡◌, ◌<◌, ◌≤◌, ◌^◌, ◌%◌, ℕ, List, length, Bool, true, false, if◌then◌else◌, refl, ◌∙◌, arith}
use Rattle.mq_blocks.specs.Limits.{depth}
use Rattle.mq_nvme.specs.declared.completion.Ended.{Ended}
use Rattle.mq_nvme.specs.Completion.{completion_of, status_of, identifier_of}
use Rattle.mq_nvme.specs.Field.{place, get_field, bits_of}

phase_low : (b : Bool) → (if b then 1 else 0) ≤ 1
phase_low true = omega arith
phase_low false = omega arith

pub status_of-completion : (x : Ended) → x.cid < 2 ^ 16 → status_of (completion_of x) ≡ x.status
unfolding status_of completion_of
status_of-completion x h = let low = phase_low x.phase in omega arith

pub length-completion : (x : Ended) → length (completion_of x) ≡ 4
unfolding completion_of
length-completion x = refl

pub identifier_of-completion : (x : Ended) → x.cid < 2 ^ 16 → identifier_of (completion_of x) ≡ x.cid
unfolding identifier_of completion_of
identifier_of-completion x h = let low = phase_low x.phase in omega arith

-- the identifier as a field of the completion, and the slot of its command
pub identifier_is : (c : List ℕ) → get_field (place 3 0 16) c ≡ identifier_of c
unfolding get_field bits_of identifier_of
identifier_is c = omega arith

pub slot_is : (c : List ℕ) (slot count : ℕ) → slot ≡ get_field (place 3 0 16) c → identifier_of c ≡ count % depth → slot ≡ count % depth
slot_is c slot count got is = got ∙ identifier_is c ∙ is
