-- What is staged for an entry is that of its item.
use Rattle.std.proofs.Common.{◌≡◌, ℕ, ◌+◌, ◌-◌, ◌<◌, ◌≤◌, leb, Bool, true, false, inl, inr, List, length, get_or, sym, ap, subst, ◌∙◌, arith}
use Rattle.std.proofs.lemmas.Bool.{cases_lt, lt-leb, le-leb, lt-ltb, le-ltb}
use Rattle.mq_blocks.specs.Geometry.{homes_of, home_lba, area_lba}
use Rattle.mq_blocks.specs.Limits.{list_limit, newest_version}
use Rattle.mq_blocks.specs.declared.geometry.Geometry.{Geometry}
use Rattle.mq_ledger.specs.History.{writes, blocks_of}
use Rattle.mq_ledger.specs.Items.{write_at, no_write, next, direct_item, descriptor_item, descriptor_for, item_of, further_blocks}
use Rattle.mq_ledger.specs.KnownJournal.{IsTx}
use Rattle.mq_ledger.specs.Plain.{plain_entry}
use Rattle.mq_ledger.specs.Staged.{IsStaged}
use Rattle.mq_blocks.specs.Machine.{Writes}
use Rattle.mq_blocks.specs.Descriptor.{further_block, journal_form, last_block}
use Rattle.mq_ledger.proofs.RecordsLists.{block-read, rising-high}
use Rattle.mq_ledger.specs.declared.staging.Staged.{Staged}
use Rattle.mq_ledger.specs.declared.tx.Tx.{Tx}
use Rattle.mq_ledger.proofs.Items.{item-direct, item-descriptor}
use Rattle.mq_blocks.proofs.DescriptorLimits.{limit-high, further-most}
use Rattle.mq_blocks.proofs.JournalAmong.{rising-within}
use Rattle.std.proofs.lemmas.List.{length-map, get_or_read}

pub few_named : (g : Geometry) (t : Tx) → IsTx g t → length t.logged + length t.revoked ≤ list_limit
few_named g t form =
    let within = rising-within 0 (homes_of g) t.revoked (blocks_of t.direct) form.revoked form.direct form.revokes in
    let long : length (blocks_of t.direct) ≡ length t.direct = length-map t.direct (λ (w : ℕ × List ℕ). w.0) in
    let few = form.few in
    let most = limit-high g in
    omega arith

staged-direct : (g : Geometry) (t : Tx) (txs : List Tx) (i : ℕ) (s : Staged) → length t.logged ≤ i → i < writes t → s.entry ≡ plain_entry (t.number, home_lba g (write_at t.direct (i - length t.logged)).0, false) → s.tx ≡ t.number → s.lba ≡ home_lba g (write_at t.direct (i - length t.logged)).0 → s.block ≡ (write_at t.direct (i - length t.logged)).1 → IsStaged g t.queue (item_of t txs i) s
staged-direct g t txs i s low high entry tx lba block =
    let item : IsStaged g t.queue (direct_item t (i - length t.logged)) s = record { entry = entry; tx = tx; lba = lba; block = block } in
    subst (λ k. IsStaged g t.queue k s) (sym (item-direct t txs i low high)) item

-- the direct write that a slice of them shows
pub record IsDirectWrite (g : Geometry) (t : Tx) (i : ℕ) (w : ℕ × List ℕ) : Type 0 where
  pub low : length t.logged ≤ i
  pub high : i < writes t
  pub is : w ≡ write_at t.direct (i - length t.logged)
  pub home : w.0 < homes_of g

pub direct_write : (g : Geometry) (t : Tx) (vs ws : Writes) (i : ℕ) (w : ℕ × List ℕ) → vs ≡ t.logged → ws ≡ t.direct → IsTx g t → length vs ≤ i → i < length vs + length ws → w ≡ get_or ws (i - length vs) w → IsDirectWrite g t i w
direct_write g t vs ws i w v u form low high e =
    let a : length vs ≡ length t.logged = ap length v in
    let b : length ws ≡ length t.direct = ap length u in
    let inside : i - length t.logged < length t.direct = omega arith in
    let read : w ≡ get_or t.direct (i - length t.logged) w = e ∙ ap (λ (n : ℕ). get_or ws (i - n) w) a ∙ ap (λ (xs : Writes). get_or xs (i - length t.logged) w) u in
    let is : w ≡ write_at t.direct (i - length t.logged) = get_or_read t.direct (i - length t.logged) w inside read no_write in
    let block = block-read t.direct (i - length t.logged) w inside read in
    let bound = rising-high 0 (homes_of g) (blocks_of t.direct) (i - length t.logged) form.direct block.0 in
    let at = block.1 in
    record { low = omega arith; high = omega arith; is = is; home = omega arith }

pub staged-write : (g : Geometry) (t : Tx) (txs : List Tx) (i lba : ℕ) (w : ℕ × List ℕ) (s : Staged) → IsDirectWrite g t i w → lba ≡ home_lba g w.0 → s.entry ≡ plain_entry (t.number, lba, false) → s.tx ≡ t.number → s.lba ≡ lba → s.block ≡ w.1 → IsStaged g t.queue (item_of t txs i) s
staged-write g t txs i lba w s d l entry tx to block =
    let there : lba ≡ home_lba g (write_at t.direct (i - length t.logged)).0 = l ∙ ap (λ (v : ℕ × List ℕ). home_lba g v.0) d.is in
    staged-direct g t txs i s d.low d.high (entry ∙ ap (λ (n : ℕ). plain_entry (t.number, n, false)) there) tx (to ∙ there) (block ∙ ap (λ (v : ℕ × List ℕ). v.1) d.is)

-- a block of the descriptor
pub staged-descriptor : (g : Geometry) (t : Tx) (txs : List Tx) (i at lba : ℕ) (last : Bool) (content : List ℕ) (s : Staged) → writes t ≤ i → at ≡ i - writes t → lba ≡ area_lba g t.queue (next txs + (length t.logged + at))
    → last ≡ leb (further_blocks t) at → s.entry ≡ plain_entry (t.number, lba, last) → s.tx ≡ t.number → s.lba ≡ lba → s.block ≡ content
    → (last ≡ true → content ≡ last_block journal_form newest_version (descriptor_for t txs)) × (last ≡ false → further_blocks t ≡ 1 → content ≡ further_block journal_form newest_version (descriptor_for t txs)) → IsStaged g t.queue (item_of t txs i) s
staged-descriptor g t txs i at lba last content s low at_is lba_is last_is entry tx to block each =
    let most = further-most (length t.logged + length t.revoked) in
    let item : IsStaged g t.queue (descriptor_item t txs at) s = record {
      entry = entry ∙ ap (λ (n : ℕ). plain_entry (t.number, n, last)) lba_is ∙ ap (λ (b : Bool). plain_entry (t.number, area_lba g t.queue (next txs + (length t.logged + at)), b)) last_is;
      tx = tx;
      lba = to ∙ lba_is;
      block = block ∙ elim (cases_lt at (further_blocks t)) [
        | inl l ↦ rw (lt-ltb at (further_blocks t) l) (each.1 (last_is ∙ lt-leb (further_blocks t) at l) (omega arith))
        | inr l ↦ rw (le-ltb at (further_blocks t) l) (each.0 (last_is ∙ le-leb (further_blocks t) at l))
      ];
    } in
    subst (λ k. IsStaged g t.queue k s) (sym (item-descriptor t txs i low ∙ ap (descriptor_item t txs) (sym at_is))) item
