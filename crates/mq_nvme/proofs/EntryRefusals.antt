-- An entry is refused exactly where it is the entry of no request.
use Rattle.std.proofs.Common.{◌≡◌, ◌<◌, ℕ, ◌+◌, ◌*◌, ◌/◌, ◌%◌, ◌^◌, List, [], ◌∷◌, ◌++◌, length, drop, Bool, true, false, ◌⊎◌, inl, inr, ◌==◌, ◌||◌, if◌then◌else◌, Option, Some, None, slice_index, refl, sym, subst, arith}
use Rattle.std.proofs.lemmas.Bool.{eqb-true, ltb-true, eq-eqb, lt-ltb, or_cases}
use Rattle.std.proofs.lemmas.Slice.Eq.{HasBytesAt, text_from_reads}
use Rattle.mq_nvme.specs.declared.write.WriteReq.{WriteReq}
use Rattle.mq_nvme.specs.declared.write.EntryRefusal.{EntryRefusal}
use Rattle.mq_nvme.specs.declared.write.EntryRefusal.TheVariants.{Opcode}
use Rattle.mq_nvme.specs.Entry.{blank, entry_of, tx_of, lba_of, is_commit, request_of, IsRequest, IsWrite, Rule, block_rules, common_rules, command_rules, first_refusal, refusal_of}
use Rattle.mq_nvme.proofs.EntryRequests.{tx_of-entry}

-- each rule holds
abbrev pub AllHold : List Rule → List ℕ → Type 0
AllHold [] e = Unit {0}
AllHold (r ∷ rs) e = (r.holds e ≡ true) × AllHold rs e

if_some : (b : Bool) (x y : Option EntryRefusal) (d k : EntryRefusal) → (x ≡ Some k → y ≡ Some k) → (if b then x else Some d) ≡ Some k → (if b then y else Some d) ≡ Some k
if_some true x y d k f h = f h
if_some false x y d k f h = h

if_none : {A : Type 0} (b : Bool) (x : Option A) (a : A) → (if b then x else Some a) ≡ None → (b ≡ true) × (x ≡ None)
if_none true x a h = (refl, h)
if_none false x a h = cc

pub first_refusal-append_some : (rs ss : List Rule) (e : List ℕ) (k : EntryRefusal) → first_refusal rs e ≡ Some k → first_refusal (rs ++ ss) e ≡ Some k
first_refusal-append_some [] ss e k h = cc
first_refusal-append_some (r ∷ rs) ss e k h = if_some (r.holds e) (first_refusal rs e) (first_refusal (rs ++ ss) e) (r.refusal e) k (first_refusal-append_some rs ss e k) h

pub first_refusal-append_none : (rs ss : List Rule) (e : List ℕ) → first_refusal rs e ≡ None → first_refusal (rs ++ ss) e ≡ first_refusal ss e
first_refusal-append_none [] ss e h = refl
first_refusal-append_none (r ∷ rs) ss e h = let p = if_none (r.holds e) (first_refusal rs e) (r.refusal e) h in rw p.0 (first_refusal-append_none rs ss e p.1)

all_hold : (rs : List Rule) (e : List ℕ) → first_refusal rs e ≡ None → AllHold rs e
all_hold [] e h = tt
all_hold (r ∷ rs) e h = let p = if_none (r.holds e) (first_refusal rs e) (r.refusal e) h in (p.0, all_hold rs e p.1)

none_broken : (rs : List Rule) (e : List ℕ) → AllHold rs e → first_refusal rs e ≡ None
none_broken [] e h = refl
none_broken (r ∷ rs) e h = rw h.0 (none_broken rs e h.1)

append_hold : (rs ss : List Rule) (e : List ℕ) → AllHold rs e → AllHold ss e → AllHold (rs ++ ss) e
append_hold [] ss e h k = k
append_hold (r ∷ rs) ss e h k = (h.0, append_hold rs ss e h.1 k)

append_split : (rs ss : List Rule) (e : List ℕ) → AllHold (rs ++ ss) e → AllHold rs e × AllHold ss e
append_split [] ss e h = (tt, h)
append_split (r ∷ rs) ss e h = let p = append_split rs ss e h.1 in ((h.0, p.0), p.1)

-- what an entry that is not refused keeps
record IsPlain (e : List ℕ) : Type 0 where
  block : AllHold block_rules e
  common : AllHold common_rules e
  command : AllHold command_rules e

plain : (e : List ℕ) → refusal_of e ≡ None → IsPlain e
unfolding refusal_of
plain e h =
    let first = append_split block_rules (common_rules ++ command_rules) e (all_hold _ e h) in
    let rest = append_split common_rules command_rules e first.1 in
    record { block = first.0; common = rest.0; command = rest.1 }

marked : (n : ℕ) → n % 65536 ≡ 0 → (n / 65536 ≡ 2 ^ 14 + 1) ⊎ (n / 65536 ≡ 2 ^ 14 + 2) → n ≡ 2 ^ 30 + (if (n / 2 ^ 17 % 2 == 1) then 2 ^ 17 else 2 ^ 16)
marked n h (inl e) = let is : n ≡ 1073807360 = omega arith in rw is
marked n h (inr e) = let is : n ≡ 1073872896 = omega arith in rw is

low_dword : (low high : ℕ) → low < 2 ^ 32 → low ≡ (low + 2 ^ 32 * high) % 2 ^ 32
low_dword low high h = omega arith

high_dword : (low high : ℕ) → low < 2 ^ 32 → high ≡ (low + 2 ^ 32 * high) / 2 ^ 32
high_dword low high h = omega arith

opcode_dword : (n : ℕ) → n % 256 ≡ 1 → n / 256 % 256 ≡ 0 → n ≡ 1 + 65536 * (n / 65536)
opcode_dword n h k = omega arith

-- the dwords of the transaction's number and the block's fit
pub record HasDwords (e : List ℕ) : Type 0 where
  pub tx_low : slice_index e 2 < 2 ^ 32
  pub tx_high : slice_index e 3 < 2 ^ 32
  pub lba_low : slice_index e 10 < 2 ^ 32
  pub lba_high : slice_index e 11 < 2 ^ 32

requested : (e : List ℕ) → IsPlain e → HasDwords e → IsRequest (request_of e)
unfolding common_rules request_of tx_of lba_of
requested e p d =
    let (_, (slot, (number, _))) = p.common in
    record {
      slot = ltb-true _ _ slot;
      tx_low = omega (arith, ltb-true _ _ number);
      tx_high = omega arith;
      lba = omega arith;
    }

is_requested : (e : List ℕ) → length e ≡ 16 → HasDwords e → refusal_of e ≡ None → IsWrite e (request_of e)
unfolding block_rules common_rules command_rules request_of entry_of tx_of lba_of is_commit
is_requested e len d none =
    let p = plain e none in
    let (opcode, (namespace, (count, _))) = p.block in
    let (plain, (slot, (number, (d4, (d5, (d6, (d7, (d8, (d9, _))))))))) = p.common in
    let (mark, (d13, (d14, (d15, _)))) = p.command in
    let r = request_of e in
    let flag : slice_index e 12 ≡ 2 ^ 30 + (if r.commit then 2 ^ 17 else 2 ^ 16) =
    marked _ (eqb-true _ _ count) (elim (or_cases _ _ mark) [ inl m ↦ inl (eqb-true _ _ m) | inr m ↦ inr (eqb-true _ _ m) ]) in
    let own : HasBytesAt e 10 (drop 10 (entry_of r)) =
    (low_dword _ _ d.lba_low, (high_dword _ _ d.lba_low, (flag, (eqb-true _ _ d13, (eqb-true _ _ d14, (eqb-true _ _ d15, tt)))))) in
    let pointers : HasBytesAt e 4 (drop 4 (entry_of r)) =
    (eqb-true _ _ d4, (eqb-true _ _ d5, (eqb-true _ _ d6, (eqb-true _ _ d7, (eqb-true _ _ d8, (eqb-true _ _ d9, own)))))) in
    let first = opcode_dword _ (eqb-true _ _ opcode) (eqb-true _ _ plain) in
    record {
      request = requested e p d;
      is = text_from_reads e (entry_of r) len (first, (eqb-true _ _ namespace, (low_dword _ _ d.tx_low, (high_dword _ _ d.tx_low, pointers))));
    }

-- an entry that is not refused is that of its request
pub accepted : (e : List ℕ) (r : WriteReq) → length e ≡ 16 → HasDwords e → refusal_of e ≡ None → r ≡ request_of e → IsWrite e r
accepted e r len d none is = subst (λ (x : WriteReq). IsWrite e x) (sym is) (is_requested e len d none)

mark_holds : (b : Bool) → let n = (2 ^ 30 + (if b then 2 ^ 17 else 2 ^ 16)) in (n % 65536 ≡ 0) × (((n / 65536 == 2 ^ 14 + 1) || (n / 65536 == 2 ^ 14 + 2)) ≡ true)
mark_holds true = (refl, refl)
mark_holds false = (refl, refl)

not_refused : (e : List ℕ) → IsPlain e → refusal_of e ≡ None
unfolding refusal_of
not_refused e p = none_broken _ e (append_hold block_rules _ e p.block (append_hold common_rules command_rules e p.common p.command))

entry_is_block : (r : WriteReq) → AllHold block_rules (entry_of r)
unfolding block_rules entry_of
entry_is_block r = (eq-eqb _ _ (omega arith), (refl, (eq-eqb _ _ (mark_holds r.commit).0, tt)))

entry_is_common : (r : WriteReq) → IsRequest r → AllHold common_rules (entry_of r)
unfolding common_rules entry_of
entry_is_common r is =
    let number = tx_of-entry r in
    (eq-eqb _ _ (omega arith), (lt-ltb _ _ (omega arith), (lt-ltb _ _ (omega arith), (refl, (refl, (eq-eqb _ _ (omega arith), (refl, (refl, (refl, tt)))))))))

entry_is_command : (r : WriteReq) → AllHold command_rules (entry_of r)
unfolding command_rules entry_of
entry_is_command r = ((mark_holds r.commit).1, (refl, (refl, (refl, tt))))

-- the entry of a request is not refused
pub accepts : (r : WriteReq) → IsRequest r → refusal_of (entry_of r) ≡ None
accepts r is = not_refused (entry_of r) record { block = entry_is_block r; common = entry_is_common r is; command = entry_is_command r }

-- nor is an entry that is a request's
pub refusal_of-write : (e : List ℕ) (r : WriteReq) → IsWrite e r → refusal_of e ≡ None
refusal_of-write e r w = rw w.is (accepts r w.request)

-- an entry of zeros is no write
pub refusal_of-blank : refusal_of blank ≡ Some (Opcode 0)
unfolding refusal_of block_rules blank
refusal_of-blank = refl
