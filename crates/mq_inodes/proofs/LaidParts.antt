-- What a block of a file, of slots or of pointers shows after it was changed, and where it shows the same.
use Rattle.std.proofs.Common.{get_or, ◌≡◌, ◌≢◌, ℕ, ◌+◌, ◌-◌, ◌*◌, ◌^◌, ◌<◌, ◌≤◌, ◌⊎◌, inl, inr, List, length, sym, ap, subst, ◌∙◌, arith}
use Rattle.std.specs.Prelude.{Option, Some, None}
use Rattle.std.specs.Int.{to_le_bytes, w32}
use Rattle.std.proofs.lemmas.Bool.{cases_eq, cases_lt}
use Rattle.mq_blocks.specs.Blocks.{zeros}
use Rattle.mq_blocks.specs.Windows.{Shows as ShowsBytes, written}
use Rattle.mq_blocks.proofs.Windows.{number-kept, shows-all, shows-at, shows-kept, shows-written}
use Rattle.mq_blocks.proofs.BlocksZeros.{length-zeros, zeros-at}
use Rattle.mq_layout.specs.Bits.{pointer_of}
use Rattle.mq_layout.specs.Fields.{zero_bytes}
use Rattle.mq_layout.specs.Slots.{Entry, IsEntry, ShowsSlot, slot_bytes}
use Rattle.mq_layout.proofs.EmptyLaws.{zeros-unused}
use Rattle.mq_layout.proofs.SlotsLaws.{pointer-kept, pointer-written, slot-cleared, slot-kept, slot-written}
use Rattle.mq_layout.proofs.SlotsForms.{length-slot_bytes}
use Rattle.mq_layout.proofs.FieldsZeros.{length-zero_bytes, number_at-byte, zero_bytes-at}
use Rattle.mq_tree.specs.Laid.{ShowsPart, ShowsPointers}
use Rattle.mq_tree.specs.Volume.{File, Dir}

-- ---- where the same is shown

pub file-along : (bytes new : List ℕ) (place : ℕ) (page : List ℕ) → ((k : ℕ) → k < 4096 → get_or bytes (4096 * place + k) 0 ≡ get_or new (4096 * place + k) 0) → ShowsPart (File bytes) place page → ShowsPart (File new) place page
file-along bytes new place page same s k l = s k l ∙ same k l

pub dir-along : (slots new : List (Option Entry)) (place : ℕ) (page : List ℕ) → ((k : ℕ) → k < 15 → get_or slots (15 * place + k) None ≡ get_or new (15 * place + k) None) → ShowsPart (Dir slots) place page → ShowsPart (Dir new) place page
dir-along slots new place page same s = (λ k l. subst (λ o. ShowsSlot page k o) (same k l) (s.0 k l), s.1)

pub pointers-along : (blocks new page : List ℕ) → ((k : ℕ) → k < 1024 → get_or blocks (12 + k) 0 ≡ get_or new (12 + k) 0) → ShowsPointers blocks page → ShowsPointers new page
pointers-along blocks new page same s k l = s k l ∙ same k l

-- ---- bytes of a file

written-in : (b : List ℕ) (from : ℕ) (xs : List ℕ) (k : ℕ) → from + length xs ≤ length b → k < length xs → get_or (written b from xs) (from + k) 0 ≡ get_or xs k 0
written-in b from xs k room l = shows-at (written b from xs) from xs k (shows-written b from xs room) l

written-out : (b : List ℕ) (from : ℕ) (xs : List ℕ) (k : ℕ) → from + length xs ≤ length b → (k < from) ⊎ (from + length xs ≤ k) → get_or (written b from xs) k 0 ≡ get_or b k 0
written-out b from xs k room beside =
    let apart : (k + 1 ≤ from) ⊎ (from + length xs ≤ k) = elim beside [ inl l ↦ inl (omega arith) | inr l ↦ inr l ] in
    sym (number_at-byte (written b from xs) k) ∙ number-kept b from xs k 1 room apart ∙ number_at-byte b k

-- bytes were written within a block, and the file has these bytes there now
pub file-written : (bytes now : List ℕ) (place from : ℕ) (xs old new : List ℕ) → length old ≡ 4096 → from + length xs ≤ 4096 → new ≡ written old from xs
    → ((k : ℕ) → k < length xs → get_or now (4096 * place + (from + k)) 0 ≡ get_or xs k 0)
    → ((k : ℕ) → k < 4096 → (k < from) ⊎ (from + length xs ≤ k) → get_or now (4096 * place + k) 0 ≡ get_or bytes (4096 * place + k) 0)
    → ShowsPart (File bytes) place old → ShowsPart (File now) place new
file-written bytes now place from xs old new whole room e inside outside s k l = ap (λ (p : List ℕ). get_or p k 0) e ∙ at
  where
    out : (k < from) ⊎ (from + length xs ≤ k) → get_or (written old from xs) k 0 ≡ get_or now (4096 * place + k) 0
    out beside = written-out old from xs k (omega arith) beside ∙ s k l ∙ sym (outside k l beside)

    at : get_or (written old from xs) k 0 ≡ get_or now (4096 * place + k) 0
    at = elim (cases_lt k from) [
      | inl low ↦ out (inl low)
      | inr high ↦ elim (cases_lt k (from + length xs)) [
        | inr past ↦ out (inr past)
        | inl there ↦
            let j : from + (k - from) ≡ k = omega arith in
            let small : k - from < length xs = omega arith in
            ap (λ (x : ℕ). get_or (written old from xs) x 0) (sym j) ∙ written-in old from xs (k - from) (omega arith) small ∙ sym (inside (k - from) small) ∙ ap (λ (x : ℕ). get_or now (4096 * place + x) 0) j
      ]
    ]

-- ---- slots

dir-put : (slots now : List (Option Entry)) (place at : ℕ) (o : Option Entry) (bytes old new : List ℕ) → length old ≡ 4096 → at < 15 → length bytes ≡ 272 → new ≡ written old (272 * at) bytes → ShowsSlot (written old (272 * at) bytes) at o
    → get_or now (15 * place + at) None ≡ o → ((l : ℕ) → l ≢ 15 * place + at → get_or now l None ≡ get_or slots l None) → ShowsPart (Dir slots) place old → ShowsPart (Dir now) place new
dir-put slots now place at o bytes old new whole low size e here is rest s = (
  λ k l. subst (λ p. ShowsSlot p k (get_or now (15 * place + k) None)) (sym e) (elim (cases_eq at k) [
    | inl same ↦ subst (λ x. ShowsSlot (written old (272 * at) bytes) x (get_or now (15 * place + x) None)) same (subst (λ x. ShowsSlot (written old (272 * at) bytes) at x) (sym is) here)
    | inr other ↦
        let kept = slot-kept old at k bytes (get_or slots (15 * place + k) None) whole low other size (s.0 k l) in
        subst (λ x. ShowsSlot (written old (272 * at) bytes) k x) (sym (rest (15 * place + k) (λ h. other (omega arith)))) kept
  ]),
  subst (λ p. ShowsBytes p 4080 (zero_bytes 16)) (sym e) (let z = length-zero_bytes 16 in shows-kept old (272 * at) bytes 4080 (zero_bytes 16) (omega arith) (inr (omega arith)) s.1),
)

-- a used slot was written
pub dir-written : (slots now : List (Option Entry)) (place at : ℕ) (entry : Entry) (old new : List ℕ) → length old ≡ 4096 → at < 15 → IsEntry entry → new ≡ written old (272 * at) (slot_bytes entry)
    → get_or now (15 * place + at) None ≡ Some entry → ((l : ℕ) → l ≢ 15 * place + at → get_or now l None ≡ get_or slots l None) → ShowsPart (Dir slots) place old → ShowsPart (Dir now) place new
dir-written slots now place at entry old new whole low good e is rest s =
    dir-put slots now place at (Some entry) (slot_bytes entry) old new whole low (length-slot_bytes entry good.name.few) e (slot-written old at entry whole low good) is rest s

-- a slot was made unused
pub dir-cleared : (slots now : List (Option Entry)) (place at : ℕ) (old new : List ℕ) → length old ≡ 4096 → at < 15 → new ≡ written old (272 * at) (zero_bytes 272)
    → get_or now (15 * place + at) None ≡ None → ((l : ℕ) → l ≢ 15 * place + at → get_or now l None ≡ get_or slots l None) → ShowsPart (Dir slots) place old → ShowsPart (Dir now) place new
dir-cleared slots now place at old new whole low e is rest s = dir-put slots now place at None (zero_bytes 272) old new whole low (length-zero_bytes 272) e (slot-cleared old at whole low) is rest s

-- ---- pointers

pub pointers-written : (blocks now : List ℕ) (at x : ℕ) (old new : List ℕ) → length old ≡ 4096 → at < 1024 → x < 2 ^ 32 → new ≡ written old (4 * at) (to_le_bytes w32 x) → get_or now (12 + at) 0 ≡ x
    → ((k : ℕ) → k < 1024 → k ≢ at → get_or now (12 + k) 0 ≡ get_or blocks (12 + k) 0) → ShowsPointers blocks old → ShowsPointers now new
pointers-written blocks now at x old new whole low small e is rest s k l = ap (λ (p : List ℕ). pointer_of p k) e ∙ elim (cases_eq at k) [
  | inl same ↦ ap (λ (j : ℕ). pointer_of (written old (4 * at) (to_le_bytes w32 x)) j) (sym same) ∙ pointer-written old at x whole low small ∙ sym is ∙ ap (λ (j : ℕ). get_or now (12 + j) 0) same
  | inr other ↦ pointer-kept old at k x whole low other ∙ s k l ∙ sym (rest k l (λ h. other (sym h)))
]

-- ---- a new block is all zeros

pub zeros-number : (p n : ℕ) → p + n ≤ 4096 → ShowsBytes zeros p (zero_bytes n)
zeros-number p n h =
    let l = length-zeros in
    let m = length-zero_bytes n in
    shows-all zeros p (zero_bytes n) (omega arith) (λ k s. zeros-at (p + k) ∙ sym (zero_bytes-at n k))

pub zeros-file : (bytes : List ℕ) (place : ℕ) → ((k : ℕ) → k < 4096 → get_or bytes (4096 * place + k) 0 ≡ 0) → ShowsPart (File bytes) place zeros
zeros-file bytes place none k l = zeros-at k ∙ sym (none k l)

pub zeros-dir : (slots : List (Option Entry)) (place : ℕ) → ((k : ℕ) → k < 15 → get_or slots (15 * place + k) None ≡ None) → ShowsPart (Dir slots) place zeros
zeros-dir slots place none = (λ k l. subst (λ o. ShowsSlot zeros k o) (sym (none k l)) (zeros-unused k l), zeros-number 4080 16 (omega arith))
