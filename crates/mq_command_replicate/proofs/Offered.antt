-- An update that is offered once or twice, and what a replica of some lines then has.
use Rattle.std.proofs.Common.{◌≡◌, inl, inr, ◌≤◌, ℕ, suc, ◌+◌, List, [], ◌∷◌, length, sym, ◌∙◌, ap, subst, arith}
use Rattle.std.specs.Prelude.{Result, Ok, Err, IfOk}
use Rattle.mq_block_text.specs.Text.{AreGoodItems, places_of, sets_in}
use Rattle.mq_block_text.specs.declared.item.BlockItem.{BlockItem}
use Rattle.mq_block_trace.specs.Lines.{line_at, named, set_in, writes_from}
use Rattle.mq_block_trace.proofs.LinesFills.{length-writes_sets, length-writes, named_is}
use Rattle.mq_blocks.specs.Descriptor.{further_for}
use Rattle.mq_blocks.specs.declared.geometry.Geometry.{Geometry}
use Rattle.std.proofs.lemmas.Bool.Decides.{nat_tests}
use Rattle.mq_ledger.specs.State.{port_at}
use Rattle.mq_queue_side.specs.Commits.{descriptor_size}
use Rattle.mq_recover.specs.Drives.{AreBoundsKept}
use Rattle.mq_replica.specs.Contents.{Contents, after_update}
use Rattle.mq_replica.specs.Images.{StandsFor}
use Rattle.mq_replica.specs.Offers.{IsApplied, Offers, ReplicaState}
use Rattle.mq_replica.specs.declared.update.Update.{Update}
use Rattle.mq_command_replicate.specs.Feeds.{HasLines, HasUpdate}
use Rattle.mq_command_replicate.specs.Updates.{contents_after, entries_upto, update_of}

-- ---- offers

applied_is : (old : ReplicaState) (u : Update) (new : ReplicaState) → IsApplied old u new → HasUpdate old u new
applied_is old u new a =
    let counted = a.offered.offers in
    record { geometry = a.offered.geometry; bounds = a.offered.bounds; offers = omega (arith, counted); reached = a.reached; stopped = a.stopped; stands = a.stands; entries = a.entries }

-- an update that is the next is applied
pub once_offered : (old : ReplicaState) (u : Update) (n : ℕ) (new : ReplicaState) → u.number ≡ old.reached + 1 → Offers old u (Ok n) new → (n ≡ u.number) × HasUpdate old u new × (new.offers ≡ old.offers + 1)
once_offered old u n new next offers = elim offers.1 [
  | inl a ↦ (offers.0 ∙ a.2.reached, applied_is old u new a.2, a.2.offered.offers)
  | inr b ↦ absurd (b.0 next)
]

-- and is left alone when it comes again
pub twice_offered : {E : Type 0} (old : ReplicaState) (u : Update) (mid : ReplicaState) (r : Result ℕ E) (new : ReplicaState) → HasUpdate old u mid → mid.offers ≡ old.offers + 1 → IfOk r (λ n. Offers mid u (Ok n) new) → IfOk r (λ _. HasUpdate old u new)
twice_offered old u mid (Ok n) new has more offers = elim offers.1 [
  | inl a ↦ absurd (let e = a.0 in let f = has.reached in omega (arith, e, f))
  | inr b ↦ record {
    geometry = b.1.offered.geometry ∙ has.geometry;
    bounds = subst (λ d. AreBoundsKept old.geometry old.drive d) (sym b.1.drive) has.bounds;
    offers = (let e = b.1.offered.offers in omega (arith, e, more));
    reached = b.1.reached ∙ has.reached;
    stopped = b.1.stopped ∙ has.stopped;
    stands = λ c stood. subst (λ d. StandsFor old.geometry d (after_update old.geometry u c)) (sym b.1.drive) (has.stands c stood);
    entries = ap (λ d. (port_at d.queues 0).doorbell) b.1.drive ∙ has.entries;
  }
]
twice_offered old u mid (Err e) new has more offers = tt

-- ---- lines

-- there are at most as many lines as places
pub few_lines : (lines : List (List BlockItem)) → length lines ≤ places_of lines
few_lines [] = omega arith
few_lines (l ∷ ls) = omega (arith, few_lines ls)

few_further : (count : ℕ) → count ≤ 1010 → further_for count ≡ 0
unfolding further_for
few_further count few = grind (arith, nat_tests)

-- the entries of a line's update
entries_are : (line : List BlockItem) → AreGoodItems line → length (writes_from (set_in line) 0 named) + 1 + descriptor_size (length (writes_from (set_in line) 0 named) + 1) 0 ≡ sets_in line + 2
entries_are line good =
    let sets = length-writes_sets line good in
    let low = length-writes (set_in line) 0 named in
    let none = few_further (length (writes_from (set_in line) 0 named) + 1 + 0) (omega (arith, low, named_is)) in
    omega (arith, sets, none)

pub one_more : (g : Geometry) (first : Contents) (lines : List (List BlockItem)) (n : ℕ) (line : List BlockItem) (old new : ReplicaState) → line ≡ line_at lines n → AreGoodItems line → HasLines g first lines n old → HasUpdate old (update_of (old.reached + 1) line) new → HasLines g first lines (suc n) new
one_more g first lines n line old new is good has up =
    let number : old.reached + 1 ≡ n + 1 = ap (λ (k : ℕ). k + 1) has.reached in
    let u_is : update_of (old.reached + 1) line ≡ update_of (n + 1) (line_at lines n) = (λ i. update_of (number i) (is i)) in
    let stood : StandsFor g old.drive (contents_after g first lines n) → StandsFor g new.drive (after_update g (update_of (n + 1) (line_at lines n)) (contents_after g first lines n)) =
    subst (λ (u : Update). StandsFor g old.drive (contents_after g first lines n) → StandsFor g new.drive (after_update g u (contents_after g first lines n))) u_is
    (subst (λ (h : Geometry). StandsFor h old.drive (contents_after g first lines n) → StandsFor h new.drive (after_update h (update_of (old.reached + 1) line) (contents_after g first lines n))) has.geometry (up.stands (contents_after g first lines n))) in
    record {
      geometry = up.geometry ∙ has.geometry;
      reached = (let e = up.reached in let f = has.reached in omega (arith, e, f));
      stopped = up.stopped;
      stands = stood has.stands;
      entries = up.entries ∙ (λ i. (has.entries i) + (entries_are line good i)) ∙ ap (λ (l : List BlockItem). entries_upto lines n + (sets_in l + 2)) is;
    }
