-- What an entry says of its request.
use Rattle.std.proofs.Common.{◌≡◌, ℕ, ◌+◌, ◌*◌, ◌/◌, ◌%◌, ◌^◌, List, length, Bool, true, false, ◌==◌, if◌then◌else◌, refl, sym, ◌∙◌, ap, arith}
use Rattle.mq_nvme.specs.declared.write.WriteReq.{WriteReq}
use Rattle.mq_nvme.specs.Entry.{entry_of, tx_of, lba_of, is_commit, request_of, slot_of, IsWrite}

-- the two dwords of a number
joined : (n : ℕ) → n % 2 ^ 32 + 2 ^ 32 * (n / 2 ^ 32) ≡ n
joined n = omega arith

pub tx_of-entry : (r : WriteReq) → tx_of (entry_of r) ≡ r.tx
unfolding tx_of entry_of
tx_of-entry r = joined r.tx

pub lba_of-entry : (r : WriteReq) → lba_of (entry_of r) ≡ r.lba
unfolding lba_of entry_of
lba_of-entry r = joined r.lba

mark_is : (b : Bool) → ((2 ^ 30 + (if b then 2 ^ 17 else 2 ^ 16)) / 2 ^ 17 % 2 == 1) ≡ b
mark_is true = refl
mark_is false = refl

pub is_commit-entry : (r : WriteReq) → is_commit (entry_of r) ≡ r.commit
unfolding is_commit entry_of
is_commit-entry r = mark_is r.commit

pub length-entry : (r : WriteReq) → length (entry_of r) ≡ 16
unfolding entry_of
length-entry r = refl

pub slot_of-entry : (r : WriteReq) → slot_of (entry_of r) ≡ r.slot
unfolding entry_of
slot_of-entry r = omega arith

pub request_of-entry : (r : WriteReq) → request_of (entry_of r) ≡ r
unfolding request_of
request_of-entry r = simp (tx_of-entry, lba_of-entry, is_commit-entry, slot_of-entry)

-- an entry has one request
pub entry_of-injective : (r s : WriteReq) → entry_of r ≡ entry_of s → r ≡ s
entry_of-injective r s e = sym (request_of-entry r) ∙ ap request_of e ∙ request_of-entry s

-- one request is asked for
pub IsWrite-unique : (e : List ℕ) (r s : WriteReq) → IsWrite e r → IsWrite e s → r ≡ s
IsWrite-unique e r s a b = entry_of-injective r s (sym a.is ∙ b.is)

-- what the parts of a request's entry say
pub tx_of-write : (e : List ℕ) (r : WriteReq) → IsWrite e r → tx_of e ≡ r.tx
tx_of-write e r w = rw w.is (tx_of-entry r)

pub lba_of-write : (e : List ℕ) (r : WriteReq) → IsWrite e r → lba_of e ≡ r.lba
lba_of-write e r w = rw w.is (lba_of-entry r)

pub is_commit-write : (e : List ℕ) (r : WriteReq) → IsWrite e r → is_commit e ≡ r.commit
is_commit-write e r w = rw w.is (is_commit-entry r)
