-- What is staged for an entry of the loose machine.
use Rattle.std.proofs.Common.{◌≡◌, ℕ, ◌+◌, ◌-◌, ◌<◌, ◌≤◌, cond, Bool, true, false, List, [], ◌∷◌, length, sym, refl, ap, subst, ◌∙◌, inl, inr, arith, leb, ltb}
use Rattle.std.proofs.lemmas.Bool.{cases_lt, le-leb, le-ltb, false≢true}
use Rattle.std.proofs.lemmas.List.{length-map}
use Rattle.mq_blocks.specs.Descriptor.{DescriptorForm, journal_form}
use Rattle.mq_blocks.proofs.DescriptorLimits.{further-none}
use Rattle.mq_ledger.specs.History.{blocks_of, writes, of_queue, IsAt}
use Rattle.mq_ledger.specs.Items.{Item, LastBlock, bytes_of, descriptor_for, end_of, further_blocks, item_at, item_of}
use Rattle.mq_ledger.specs.Plain.{plain}
use Rattle.mq_ledger.specs.Staged.{IsStaged}
use Rattle.mq_ledger.specs.State.{State, from_at}
use Rattle.mq_ledger.specs.declared.staging.Staged.{Staged}
use Rattle.mq_ledger.specs.declared.tx.Tx.{Tx}
use Rattle.mq_ledger.proofs.History.{at_same}
use Rattle.mq_ledger.proofs.Items.{Source-of, item-logged, item-direct, item-descriptor}
use Rattle.mq_core.specs.Events.{us_of}
use Rattle.mq_loose_order.specs.Dependence.{deps_of}
use Rattle.mq_loose_order.specs.Form.{loose_bytes}
use Rattle.mq_loose_order.proofs.Closed.{deps-at}
use Rattle.mq_loose_order.proofs.Dependences.{deps_few}
use Rattle.mq_loose_order.proofs.FormSound.{few-from, loose-last}
use Rattle.mq_loose.specs.Guards.{entries_in}
use Rattle.mq_loose.specs.Rows.{row_for}
use Rattle.mq_loose.specs.Safe.{Facts, IsPlain}
use Rattle.mq_loose.specs.Staged.{IsStagedIn}

-- a commit request has the descriptor's block, and no other entry has one
pub record IsKind (t : Tx) (txs : List Tx) (i : Item) : Type 0 where
  pub number : i.number ≡ t.number
  pub last : i.commit ≡ true → i.content ≡ LastBlock (descriptor_for t txs)
  pub others : (f g : DescriptorForm) → i.commit ≡ false → bytes_of f i.content ≡ bytes_of g i.content

pub few-further : (t : Tx) → IsPlain t → further_blocks t ≡ 0
few-further t p =
    let few = p.few in
    let none : length t.revoked ≡ 0 = ap (λ (xs : List ℕ). length xs) p.revoked in
    further-none (length t.logged + length t.revoked) (omega arith)

kind-of : (t : Tx) (txs : List Tx) (i : ℕ) → IsPlain t → IsKind t txs (item_of t txs i)
kind-of t txs i p = elim (cases_lt i (length t.logged)) [
  | inl logged ↦ rw (item-logged t txs i logged) (record { number = refl; last = λ e. absurd (false≢true e); others = λ f g e. refl })
  | inr past ↦ elim (cases_lt i (writes t)) [
    | inl direct ↦ rw (item-direct t txs i past direct) (record { number = refl; last = λ e. absurd (false≢true e); others = λ f g e. refl })
    | inr end ↦
        let none = few-further t p in
        let commits : leb (further_blocks t) (i - writes t) ≡ true = le-leb (further_blocks t) (i - writes t) (omega arith) in
        let is_last : ltb (i - writes t) (further_blocks t) ≡ false = le-ltb (i - writes t) (further_blocks t) (omega arith) in
        rw (item-descriptor t txs i end) (record { number = refl; last = λ e. rw is_last refl; others = λ f g e. absurd (false≢true (sym e ∙ commits)) })
  ]
]

-- the transaction of an entry
pub record EntryOf (s : State) (q count : ℕ) : Type 0 where
  pub t : Tx
  pub ts : List Tx
  pub at : IsAt t ts s.history
  pub kind : IsKind t (of_queue t.queue ts) (item_at (from_at s.starts q) (us_of s q) count)

pub entry_of : (s : State) (q count : ℕ) → Facts plain s → from_at s.starts q ≤ count → count < end_of (from_at s.starts q) (us_of s q) → EntryOf s q count
entry_of s q count f low high =
    let r = Source-of (from_at s.starts q) q s.history count low high in
    let K : Item → Type 0 = λ i. IsKind r.t (of_queue r.t.queue r.ts) i in
    record {
      t = r.t;
      ts = r.ts;
      at = r.at;
      kind = subst K (sym (r.is ∙ (λ j. item_of r.t (of_queue (sym r.own j) r.ts) (count - end_of (from_at s.starts q) (of_queue q r.ts))))) (kind-of r.t (of_queue r.t.queue r.ts) (count - end_of (from_at s.starts q) (of_queue q r.ts)) (f.plain r.t r.ts r.at));
    }

-- the two ways of a flag in a plain entry
pub same_commit : (a b : Bool) (m n k l : ℕ) → (m ∷ n ∷ cond a 1 0 ∷ []) ≡ (k ∷ l ∷ cond b 1 0 ∷ []) → a ≡ b
same_commit true true m n k l e = refl
same_commit false false m n k l e = refl
same_commit true false m n k l e = absurd (cc)
same_commit false true m n k l e = absurd (cc)

-- no descriptor: what the ledger stages
pub staged_other : (s : State) (q count : ℕ) (x : Staged) → Facts plain s → from_at s.starts q ≤ count → count < end_of (from_at s.starts q) (us_of s q) → (item_at (from_at s.starts q) (us_of s q) count).commit ≡ false → IsStaged s.geometry q (item_at (from_at s.starts q) (us_of s q) count) x
    → IsStagedIn (entries_in plain s).form s.geometry q (item_at (from_at s.starts q) (us_of s q) count) x
staged_other s q count x f low high clear is =
    let e = entry_of s q count f low high in
    record { entry = is.entry; tx = is.tx; lba = is.lba; block = is.block ∙ e.kind.others journal_form (entries_in plain s).form clear }

-- the block of a descriptor of the history
pub last_of_row : (s : State) (t : Tx) (ts : List Tx) → Facts plain s → IsAt t ts s.history → bytes_of (entries_in plain s).form (LastBlock (descriptor_for t (of_queue t.queue ts))) ≡ loose_bytes (row_for s.base s.starts t ts).descriptor (row_for s.base s.starts t ts).deps
last_of_row s t ts f at =
    let p = f.plain t ts at in
    let few = p.few in
    let long : length (blocks_of t.logged) ≡ length t.logged = length-map t.logged (λ (v : ℕ × List ℕ). v.0) in
    let on = deps-at s.base t ts s.history f.log.numbers at in
    let size = ap (λ (ns : List ℕ). length ns) on in
    let d = descriptor_for t (of_queue t.queue ts) in
    loose-last (deps_of s.base s.history) d (few-from d p.revoked (omega arith)) (omega (arith, size, deps_few s.base t ts)) ∙ ap (loose_bytes d) on

-- what an entry of the ledger says of whether it is a transaction's last
pub says_last : (s : State) (q count : ℕ) (x : Staged) (m n : ℕ) (b : Bool) → IsStaged s.geometry q (item_at (from_at s.starts q) (us_of s q) count) x → (m ∷ n ∷ cond b 1 0 ∷ []) ≡ x.entry → b ≡ (item_at (from_at s.starts q) (us_of s q) count).commit
says_last s q count x m n b is view = same_commit b (item_at (from_at s.starts q) (us_of s q) count).commit m n _ _ (view ∙ is.entry)

-- a descriptor: its own block
pub staged_last : (s : State) (q count : ℕ) (x : Staged) (block : List ℕ) (t : Tx) (ts : List Tx) → Facts plain s → from_at s.starts q ≤ count → count < end_of (from_at s.starts q) (us_of s q) → (item_at (from_at s.starts q) (us_of s q) count).commit ≡ true → IsStaged s.geometry q (item_at (from_at s.starts q) (us_of s q) count) x
    → IsAt t ts s.history → t.number ≡ x.tx → block ≡ loose_bytes (row_for s.base s.starts t ts).descriptor (row_for s.base s.starts t ts).deps
    → IsStagedIn (entries_in plain s).form s.geometry q (item_at (from_at s.starts q) (us_of s q) count) (record x { block = block })
staged_last s q count x block t ts f low high last_is is at number written =
    let e = entry_of s q count f low high in
    let one : (e.t ∷ e.ts) ≡ (t ∷ ts) = at_same s.base e.t t e.ts ts s.history f.log.numbers e.at at (sym e.kind.number ∙ sym is.tx ∙ sym number) in
    let there : last_bytes (e.t ∷ e.ts) ≡ last_bytes (t ∷ ts) = ap last_bytes one in
    record {
      entry = is.entry;
      tx = is.tx;
      lba = is.lba;
      block = written ∙ sym (last_of_row s t ts f at) ∙ sym there ∙ ap (bytes_of (entries_in plain s).form) (sym (e.kind.last last_is));
    }
  where
    last_bytes : List Tx → List ℕ
    last_bytes [] = []
    last_bytes (v ∷ vs) = bytes_of (entries_in plain s).form (LastBlock (descriptor_for v (of_queue v.queue vs)))
