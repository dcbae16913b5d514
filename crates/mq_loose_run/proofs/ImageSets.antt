-- The set of an image that a cut leaves of the queues' ports: what is settled by the heads of the image.
use Rattle.std.proofs.Common.{◌≡◌, ◌⊎◌, ◌<◌, ◌≤◌, ℕ, zero, suc, ◌+◌, Bool, true, false, ◌||◌, cond, leb, List, [], ◌∷◌, ◌++◌, length, reverse, Some, refl, sym, ◌∙◌, ap, subst, inl, inr, arith}
use Rattle.std.proofs.lemmas.Bool.{lt-leb, false≢true}
use Rattle.std.proofs.lemmas.List.{append-nil, reverse-append}
use Rattle.mq_blocks.specs.Descriptor.{Descriptor}
use Rattle.mq_blocks.specs.Drive.{PortImage, PortState}
use Rattle.mq_blocks.specs.Geometry.{homes_of}
use Rattle.mq_blocks.specs.Journal.{Shown, shown, stands}
use Rattle.mq_core.specs.Whole.{is_whole}
use Rattle.mq_ledger.specs.History.{AreNumbered, IsAt, map_after, of_queue, writes}
use Rattle.mq_ledger.specs.Items.{descriptor_blocks, descriptor_for, end_of}
use Rattle.mq_ledger.specs.State.{AreImages, State, from_at, start_map}
use Rattle.mq_ledger.specs.Written.{journal_entries}
use Rattle.mq_ledger.specs.declared.tx.Tx.{Tx}
use Rattle.mq_ledger.proofs.History.{at_most, at_numbered, upto_all}
use Rattle.mq_loose.specs.Safe.{Facts}
use Rattle.mq_loose.proofs.Cuts.{IsCut, cut_of, rows_in, set_of, stand_of}
use Rattle.mq_loose.proofs.Safe.{all_chains, chains, loose, standing}
use Rattle.mq_loose_order.specs.Dependence.{deps_of, kept}
use Rattle.mq_loose_order.specs.Standing.{AreStanding, numbers_of}
use Rattle.mq_loose_queues.specs.Journal.{IsJournal, state_over}
use Rattle.mq_loose_queues.specs.Queues.{QueuesState, at_queue}
use Rattle.mq_loose_queues.proofs.Core.{facts_over}
use Rattle.mq_loose_queues.proofs.Ports.{port_is}
use Rattle.mq_loose_recover.specs.Images.{AreLooselyWhole, loose_reading}
use Rattle.mq_loose_text.specs.Meaning.{numbers_from}

-- ---- the numbers of a set, the least first

numbers_last : (S : ℕ → Bool) (low count : ℕ) → numbers_from S low (suc count) ≡ numbers_from S low count ++ cond (S (low + count)) ((low + count) ∷ []) []
numbers_last S low zero = (let e : low + 0 ≡ low = omega arith in by (low + 0) e)
  where
    by : (k : ℕ) → k ≡ low → cond (S low) (low ∷ []) [] ≡ cond (S k) (k ∷ []) []
    by k same = ap (λ (m : ℕ). cond (S m) (m ∷ []) []) (sym same)
numbers_last S low (suc count) =
    (λ i. cond (S low) (low ∷ numbers_last S (low + 1) count i) (numbers_last S (low + 1) count i))
    ∙ spread (S low) (numbers_from S (low + 1) count) (cond (S (low + 1 + count)) ((low + 1 + count) ∷ []) [])
    ∙ (let e : low + 1 + count ≡ low + suc count = omega arith in ap (λ (k : ℕ). cond (S low) (low ∷ numbers_from S (low + 1) count) (numbers_from S (low + 1) count) ++ cond (S k) (k ∷ []) []) e)
  where
    spread : (b : Bool) (xs ys : List ℕ) → cond b (low ∷ (xs ++ ys)) (xs ++ ys) ≡ cond b (low ∷ xs) xs ++ ys
    spread true xs ys = refl
    spread false xs ys = refl

-- above a number there are none of the set
pub numbers_few : (S : ℕ → Bool) (low count more : ℕ) → ((n : ℕ) → low + count ≤ n → S n ≡ false) → numbers_from S low (count + more) ≡ numbers_from S low count
numbers_few S low count zero none = (let e : count + 0 ≡ count = omega arith in ap (numbers_from S low) e)
numbers_few S low count (suc more) none =
    (let e : count + suc more ≡ suc (count + more) = omega arith in ap (numbers_from S low) e)
    ∙ numbers_last S low (count + more)
    ∙ ap (λ (b : Bool). numbers_from S low (count + more) ++ cond b ((low + (count + more)) ∷ []) []) (none (low + (count + more)) (omega arith))
    ∙ append-nil (numbers_from S low (count + more))
    ∙ numbers_few S low count more none

-- sets that agree have the same numbers
pub numbers_same : (S T : ℕ → Bool) (low count : ℕ) → ((n : ℕ) → S n ≡ T n) → numbers_from S low count ≡ numbers_from T low count
numbers_same S T low zero same = refl
numbers_same S T low (suc count) same = λ i. cond (same low i) (low ∷ numbers_same S T (low + 1) count same i) (numbers_same S T (low + 1) count same i)

-- the descriptors of a set have its numbers
pub rows_numbers : (S : ℕ → Bool) (h : List Tx) → AreNumbered 0 h → reverse (numbers_of (rows_in S 0 h)) ≡ numbers_from S 1 (length h)
rows_numbers S [] numbered = refl
rows_numbers S (t ∷ ts) numbered =
    let number : t.number ≡ 1 + length ts = (let e = numbered.0 in omega (arith, e)) in
    ap (λ (b : Bool). reverse (numbers_of (cond b [] (cond (S t.number) (descriptor_for t (of_queue t.queue ts) ∷ rows_in S 0 ts) (rows_in S 0 ts))))) (lt-leb t.number 0 (omega (arith, number)))
    ∙ by (S t.number) (rows_numbers S ts numbered.1)
    ∙ ap (λ (k : ℕ). numbers_from S 1 (length ts) ++ cond (S k) (k ∷ []) []) number
    ∙ sym (numbers_last S 1 (length ts))
  where
    by : (b : Bool) → reverse (numbers_of (rows_in S 0 ts)) ≡ numbers_from S 1 (length ts) → reverse (numbers_of (cond b (descriptor_for t (of_queue t.queue ts) ∷ rows_in S 0 ts) (rows_in S 0 ts))) ≡ numbers_from S 1 (length ts) ++ cond b (t.number ∷ []) []
    by true rest = reverse-append (t.number ∷ []) (numbers_of (rows_in S 0 ts)) ∙ ap (λ (ns : List ℕ). ns ++ t.number ∷ []) rest
    by false rest = rest ∙ sym (append-nil (numbers_from S 1 (length ts)))

-- ---- an image of the queues' ports

module _ (start : State) (h : List Tx) (v : QueuesState) (j : IsJournal start h v) (zero_base : start.base ≡ 0) (queues : List PortImage) (root : PortImage) (it : AreImages (state_over start h [] v) queues root) where
  abbrev pub st : State
  st = state_over start h [] v

  abbrev pub order : ℕ → List ℕ
  order = deps_of start.base h

  abbrev pub image : Shown
  image = shown (loose_reading order) start.geometry queues root

  pub facts : Facts journal_entries st
  facts = facts_over start h v [] j (λ n among. absurd (false≢true among))

  pub cut : IsCut journal_entries st image
  cut = cut_of journal_entries st queues root facts it

  abbrev pub the_chains : ℕ → List Descriptor
  the_chains = chains journal_entries st image facts cut

  abbrev pub the_set : ℕ → Bool
  the_set = set_of st image

  abbrev pub the_rows : List Descriptor
  the_rows = rows_in the_set image.base h

  pub image_whole : AreLooselyWhole order start.geometry image the_chains
  image_whole = record { form_is = refl; whole = all_chains journal_entries st image facts cut; loose = loose journal_entries st image facts cut }

  pub image_standing : AreStanding order start.geometry image the_chains the_rows
  image_standing = standing journal_entries st image facts cut

  pub image_base : image.base ≡ 0
  image_base = elim cut.base [
    | inl is ↦ is ∙ ap (λ (p : PortState). p.base) j.root_is ∙ j.start.base ∙ zero_base
    | inr is ↦ is ∙ ap (λ (p : PortState). p.stored_base) j.root_is ∙ j.start.stored_base ∙ zero_base
  ]

  numbered : AreNumbered 0 h
  numbered = subst (λ (b : ℕ). AreNumbered b h) zero_base j.log.numbers

  pub image_numbers : reverse (numbers_of the_rows) ≡ numbers_from the_set 1 (length h)
  image_numbers = ap (λ (b : ℕ). reverse (numbers_of (rows_in the_set b h))) image_base ∙ rows_numbers the_set h numbered

  pub image_stands : (x : ℕ) (content : List ℕ) → x < homes_of start.geometry → map_after (start_map start.start) (kept the_set h) x ≡ Some content → stands start.geometry image the_rows x ≡ content
  image_stands x content inside there =
      let b = image_base in
      stand_of journal_entries st image facts cut h x content inside j.log.numbers (λ t ts at. at) (upto_all start.base (start.base + length h) h j.log.numbers (omega arith)) (omega (arith, b)) (λ u us au mu ch. at_most start.base u us h j.log.numbers au) there

  -- the doorbells are the ports'
  pub image_bell : (q : ℕ) → q < start.geometry.queues → image.doorbell q ≡ (at_queue v q).side.port.doorbell
  image_bell q own = cut.doorbell q own ∙ ap (λ (p : PortState). p.doorbell) (port_is v q)

  -- each head is the flushed one or the stored one
  pub image_head : (q : ℕ) → q < start.geometry.queues → (image.head q ≡ (at_queue v q).side.port.head) ⊎ (image.head q ≡ (at_queue v q).side.port.stored_head)
  image_head q own = elim (it.each q own).head [
    | inl is ↦ inl (is ∙ ap (λ (p : PortState). p.head) (port_is v q))
    | inr is ↦ inr (is ∙ ap (λ (p : PortState). p.stored_head) (port_is v q))
  ]

  -- a transaction is whole where its entries stand below the image's head
  pub whole_is : (t : Tx) (ts : List Tx) → IsAt t ts h → is_whole st image t ts ≡ leb (end_of (from_at start.starts t.queue) (of_queue t.queue ts) + (writes t + descriptor_blocks t)) (image.head t.queue)
  whole_is t ts at =
      let number = (at_numbered 0 t ts h numbered at).0 in
      let b = image_base in
      ap (λ (u : Bool). u || leb (end_of (from_at start.starts t.queue) (of_queue t.queue ts) + (writes t + descriptor_blocks t)) (image.head t.queue)) (lt-leb t.number image.base (omega (arith, number, b)))
