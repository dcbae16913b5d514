-- An offer, by what applying its writes leaves.
use Rattle.std.proofs.Common.{◌≡◌, ◌⊎◌, ℕ, ◌+◌, Bool, true, false, length, refl, sym, ap, subst, ◌∙◌, arith, inl, inr, Ok, Err}
use Rattle.std.proofs.Math.Logic.{∥∥₁_map}
use Rattle.mq_blocks.specs.Drive.{counted}
use Rattle.mq_blocks.specs.Machine.{Writes}
use Rattle.mq_blocks.specs.declared.geometry.Geometry.{Geometry}
use Rattle.mq_queue_side.specs.Commits.{descriptor_size}
use Rattle.mq_replica.specs.Applying.{IsCutOff, IsSaved, IsWritten, Leaves, PortsState, doorbell_on}
use Rattle.mq_replica.specs.Contents.{AreSame, Contents, after_update, with_writes}
use Rattle.mq_replica.specs.Offers.{IsApplied, IsKept, IsRefusedFor, IsStopped, IsUntouched, LeavesOn, MayApply, Offers, ReplicaState}
use Rattle.mq_replica.specs.Plans.{pairs_of}
use Rattle.mq_replica.specs.declared.update.OfferRefusal.{OfferRefusal}
use Rattle.mq_replica.specs.declared.update.OfferRefusal.TheVariants as offer
use Rattle.mq_replica.specs.declared.update.Update.{Update}
use Rattle.mq_replica.proofs.Bounds.{bounds_same, bounds_then}
use Rattle.mq_replica.proofs.Pairs.{pairs_count, pairs_same}
use Rattle.mq_replica.proofs.Served.{always_more}
use Rattle.mq_replica.proofs.Standing.{stands_same}

-- the state of a replica on these ports
abbrev pub on : Geometry → (reached offers : ℕ) → Bool → PortsState → ReplicaState
on g reached offers stopped p = record { geometry = g; drive = p.drive; faults = p.faults; reached = reached; offers = offers; stopped = stopped }

module _ (g : Geometry) (u : Update) (reached offers : ℕ) (old new : PortsState) (may : MayApply g reached false u.writes) where
  same : (c : Contents) → AreSame g (with_writes (pairs_of g u) c) (after_update g u c)
  same c = pairs_same g u c may.fit.below

  pub applied : IsWritten g (pairs_of g u) old new → IsApplied (on g reached offers false old) u (on g u.number (offers + 1) false new)
  applied w = record {
    offered = record { geometry = refl; offers = refl; bounds = w.bounds };
    faults = w.faults;
    reached = refl;
    stopped = refl;
    stands = λ c is. stands_same g new.drive (with_writes (pairs_of g u) c) (after_update g u c) (same c) (w.stands c is);
    entries = (let e = w.entries in let n = pairs_count g u in let d : descriptor_size (length (pairs_of g u)) 0 ≡ descriptor_size (length u.writes + 1) 0 = ap (λ (m : ℕ). descriptor_size m 0) n in omega (arith, e, n, d));
    rings = w.rings;
  }

  pub kept : IsSaved g old new → IsKept (on g reached offers false old) (on g reached (offers + 1) false new)
  kept s = record {
    offered = record { geometry = refl; offers = refl; bounds = s.bounds };
    faults = s.faults;
    reached = refl;
    stopped = refl;
    stands = s.stands;
    entries = s.entries;
    rings = s.rings;
  }

  pub cut : IsCutOff g (pairs_of g u) old new → IsStopped (on g reached offers false old) u (on g reached (offers + 1) true new)
  cut s = record {
    offered = record { geometry = refl; offers = refl; bounds = s.bounds };
    risen = s.risen;
    reached = refl;
    stopped = refl;
    stands = λ c is. always_more g new.drive (λ f. ∥ AreSame g c f ⊎ AreSame g (with_writes (pairs_of g u) c) f ∥₁) (λ f. ∥ AreSame g c f ⊎ AreSame g (after_update g u c) f ∥₁)
        (λ f one. ∥∥₁_map one (λ cases. elim cases [
          | inl a ↦ inl a
          | inr b ↦ inr (λ x inside. b x inside ∙ sym (same c x inside))
        ])) (s.stands c is);
  }

  pub leaves : (e : OfferRefusal) (now : Bool) → Leaves g (pairs_of g u) old e now new → LeavesOn (on g reached offers false old) u e (on g reached (offers + 1) now new)
  leaves offer.OutOfMemory now l = (may, subst (λ (b : Bool). IsKept (on g reached offers false old) (on g reached (offers + 1) b new)) (sym l.0) (kept l.1))
  leaves offer.Off now l = (may, subst (λ (b : Bool). IsStopped (on g reached offers false old) u (on g reached (offers + 1) b new)) (sym l.0) (cut l.1))
  leaves (offer.Failed status) now l = (may, subst (λ (b : Bool). IsStopped (on g reached offers false old) u (on g reached (offers + 1) b new)) (sym l.0) (cut l.1))
  leaves offer.Stopped now l = absurd l
  leaves offer.Limit now l = absurd l
  leaves (offer.Range block) now l = absurd l
  leaves (offer.TooLarge count limit) now l = absurd l

module _ (g : Geometry) (u : Update) (reached offers : ℕ) (stopped : Bool) (old new : PortsState) (next : u.number ≡ reached + 1) (may : MayApply g reached stopped u.writes) where
  runs : MayApply g reached false u.writes
  runs = subst (λ (b : Bool). MayApply g reached b u.writes) may.runs may

  pub offers_applied : IsWritten g (pairs_of g u) old new → Offers (on g reached offers stopped old) u (Ok u.number) (on g u.number (offers + 1) false new)
  offers_applied w = (refl, inl (next, may, subst (λ (b : Bool). IsApplied (on g reached offers b old) u (on g u.number (offers + 1) false new)) (sym may.runs) (applied g u reached offers old new runs w)))

  pub offers_left : (e : OfferRefusal) (now : Bool) → Leaves g (pairs_of g u) old e now new → Offers (on g reached offers stopped old) u (Err e) (on g reached (offers + 1) now new)
  offers_left e now l = (next, subst (λ (b : Bool). LeavesOn (on g reached offers b old) u e (on g reached (offers + 1) now new)) (sym may.runs) (leaves g u reached offers old new runs e now l))

-- nothing is done
pub untouched : (g : Geometry) (reached offers : ℕ) (now : Bool) (p : PortsState) → IsUntouched (on g reached offers now p) (on g reached (offers + 1) now p)
untouched g reached offers now p = record {
  offered = record { geometry = refl; offers = refl; bounds = bounds_same g p.drive p.drive refl };
  drive = refl;
  faults = refl;
  reached = refl;
  stopped = refl;
}

pub refused : (g : Geometry) (reached offers : ℕ) (now : Bool) (p : PortsState) (u : Update) (e : OfferRefusal) → IsRefusedFor g reached now u.writes e → LeavesOn (on g reached offers now p) u e (on g reached (offers + 1) now p)
refused g reached offers now p u offer.Stopped is = (is, untouched g reached offers now p)
refused g reached offers now p u offer.Limit is = (is, untouched g reached offers now p)
refused g reached offers now p u (offer.Range block) is = (is, untouched g reached offers now p)
refused g reached offers now p u (offer.TooLarge count limit) is = (is, untouched g reached offers now p)
refused g reached offers now p u offer.OutOfMemory is = absurd is
refused g reached offers now p u offer.Off is = absurd is
refused g reached offers now p u (offer.Failed status) is = absurd is

-- ---- one step after another

-- what is written after the ports were made ready
pub written_after : (g : Geometry) (ws : Writes) (a b c : PortsState) → IsSaved g a b → IsWritten g ws b c → IsWritten g ws a c
written_after g ws a b c s w = record {
  faults = w.faults ∙ s.faults;
  bounds = bounds_then g a.drive b.drive c.drive s.bounds w.bounds;
  stands = λ x is. w.stands x (s.stands x is);
  entries = w.entries ∙ ap (λ (n : ℕ). n + (length ws + descriptor_size (length ws) 0)) s.entries;
  rings = w.rings ∙ ap (λ (n : ℕ). counted n 1) s.rings;
}

saved_after : (g : Geometry) (a b c : PortsState) → IsSaved g a b → IsSaved g b c → IsSaved g a c
saved_after g a b c s t = record {
  faults = t.faults ∙ s.faults;
  bounds = bounds_then g a.drive b.drive c.drive s.bounds t.bounds;
  stands = λ x is. t.stands x (s.stands x is);
  entries = t.entries ∙ s.entries;
  rings = t.rings ∙ s.rings;
}

cut_after : (g : Geometry) (ws : Writes) (a b c : PortsState) → IsSaved g a b → IsCutOff g ws b c → IsCutOff g ws a c
cut_after g ws a b c s t = record {
  risen = subst (λ f. Rattle.mq_replica.specs.Applying.HaveRisen f c.faults) s.faults t.risen;
  bounds = bounds_then g a.drive b.drive c.drive s.bounds t.bounds;
  stands = λ x is. t.stands x (s.stands x is);
}

pub leaves_after : (g : Geometry) (ws : Writes) (a b c : PortsState) (e : OfferRefusal) (now : Bool) → IsSaved g a b → Leaves g ws b e now c → Leaves g ws a e now c
leaves_after g ws a b c offer.OutOfMemory now s l = (l.0, saved_after g a b c s l.1)
leaves_after g ws a b c offer.Off now s l = (l.0, cut_after g ws a b c s l.1)
leaves_after g ws a b c (offer.Failed status) now s l = (l.0, cut_after g ws a b c s l.1)
leaves_after g ws a b c offer.Stopped now s l = absurd l
leaves_after g ws a b c offer.Limit now s l = absurd l
leaves_after g ws a b c (offer.Range block) now s l = absurd l
leaves_after g ws a b c (offer.TooLarge count limit) now s l = absurd l

pub unchanged : (g : Geometry) (p : PortsState) → IsSaved g p p
unchanged g p = record { faults = refl; bounds = bounds_same g p.drive p.drive refl; stands = λ c is. is; entries = refl; rings = refl }
