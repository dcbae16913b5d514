-- What entries are that are written field by field.
use Rattle.std.proofs.Common.{◌≡◌, ◌<◌, ℕ, ◌+◌, ◌*◌, ◌/◌, ◌%◌, ◌^◌, [], ◌∷◌, Bool, true, false, not, if◌then◌else◌, refl, arith}
use Rattle.mq_blocks.specs.Limits.{depth}
use Rattle.mq_nvme.specs.Completion.{completion_of}
use Rattle.mq_nvme.specs.Entry.{blank, entry_of}
use Rattle.mq_nvme.specs.Field.{place, set_field, with_bits}
use Rattle.mq_nvme.specs.declared.completion.Ended.{Ended}
use Rattle.mq_nvme.specs.declared.write.WriteReq.{WriteReq}

-- a bool as a bit
abbrev pub bit : Bool → ℕ
bit b = if b then 1 else 0

last : (b : Bool) (cid status : ℕ) → cid < 2 ^ 16 → status < 2 ^ 15
    → with_bits 17 15 status (with_bits 16 1 (bit b) (with_bits 0 16 cid 0)) ≡ cid + 65536 * bit b + 131072 * status
unfolding with_bits
last true cid status c s = omega arith
last false cid status c s = omega arith

head : (sq_head sq_id : ℕ) → sq_head < 2 ^ 16 → sq_id < 2 ^ 16 → with_bits 16 16 sq_id (with_bits 0 16 sq_head 0) ≡ sq_head + 65536 * sq_id
unfolding with_bits
head sq_head sq_id h i = omega arith

pub completion_written : (x : Ended) → x.sq_head < 2 ^ 16 → x.sq_id < 2 ^ 16 → x.cid < 2 ^ 16 → x.status < 2 ^ 15
    → set_field (place 3 17 15) x.status (set_field (place 3 16 1) (bit x.phase) (set_field (place 3 0 16) x.cid
    (set_field (place 2 16 16) x.sq_id (set_field (place 2 0 16) x.sq_head (0 ∷ 0 ∷ 0 ∷ 0 ∷ []))))) ≡ completion_of x
unfolding set_field completion_of
completion_written x h i c s = rw (head x.sq_head x.sq_id h i, last x.phase x.cid x.status c s) refl

first : (slot : ℕ) → slot < depth → with_bits 16 16 slot (with_bits 0 8 1 0) ≡ 1 + 65536 * slot
unfolding with_bits
first slot h = omega arith

full : (n : ℕ) → with_bits 0 32 n 0 ≡ n
unfolding with_bits
full n = omega arith

marks : (b : Bool) → with_bits 30 1 1 (with_bits 17 1 (bit b) (with_bits 16 1 (bit (not b)) 0)) ≡ 2 ^ 30 + (if b then 2 ^ 17 else 2 ^ 16)
unfolding with_bits
marks true = refl
marks false = refl

pub entry_written : (r : WriteReq) → r.slot < depth
    → set_field (place 12 30 1) 1 (set_field (place 12 17 1) (bit r.commit) (set_field (place 12 16 1) (bit (not r.commit))
    (set_field (place 11 0 32) (r.lba / 2 ^ 32) (set_field (place 10 0 32) (r.lba % 2 ^ 32)
    (set_field (place 6 0 32) (4096 * r.slot) (set_field (place 3 0 32) (r.tx / 2 ^ 32) (set_field (place 2 0 32) (r.tx % 2 ^ 32)
    (set_field (place 1 0 32) 1 (set_field (place 0 16 16) r.slot (set_field (place 0 0 8) 1 blank)))))))))) ≡ entry_of r
unfolding set_field entry_of blank
entry_written r h = rw (first r.slot h, full 1, full (r.tx % 2 ^ 32), full (r.tx / 2 ^ 32), full (4096 * r.slot), full (r.lba % 2 ^ 32), full (r.lba / 2 ^ 32), marks r.commit) refl
