-- The root's port, as bases are stored and flushed, and as the base word is raised.
use Rattle.std.proofs.Common.{ℕ, ◌≤◌, ◌∙◌, Bool, None, refl, sym, arith}
use Rattle.mq_blocks.specs.Drive.{PortState, after_store_base, after_flush}
use Rattle.mq_ledger.specs.KnownJournal.{KnownJournal}
use Rattle.mq_ledger.specs.Sides.{RootOk, AreHome, home_index}
use Rattle.mq_blocks.proofs.Ports.{parts_of, port-along}
use Rattle.mq_core.proofs.EventsPorts.{certainly_along}

-- another base word up to the flushed base, and other contents that are due
pub root_based : (k : KnownJournal) (due : ℕ → ℕ → Bool) (word : ℕ) (p : PortState) → RootOk k p → word ≤ p.base → AreHome (record k { due = due; word = word }) None p → RootOk (record k { due = due; word = word }) p
root_based k due word p r low homes = record { port = r.port; posted = r.posted; bases = (low, r.bases.1); homes = homes }

-- a base is stored that isn't below the flushed one
pub root_stored : (k : KnownJournal) (p : PortState) (b : ℕ) → RootOk k p → p.base ≤ b → RootOk k (after_store_base p b)
root_stored k p b r low =
    record {
      port = port-along r.port refl;
      posted = r.posted;
      bases = (r.bases.0, low);
      homes = λ x v content inside zone due there m. certainly_along p (after_store_base p b) (home_index k.geometry x) content (λ lba. refl) refl refl refl (r.homes x v content inside zone due there m);
    }

-- the stored base is flushed
pub root_flushed : (k : KnownJournal) (p : PortState) → RootOk k p → RootOk k (after_flush p)
root_flushed k p r =
    record {
      port = port-along r.port (λ i. record (parts_of p) { flushed = (r.port.staged ∙ sym r.port.flushed) i });
      posted = r.posted;
      bases = (let low = r.bases.0 in let up = r.bases.1 in omega arith, omega arith);
      homes = λ x v content inside zone due there m. certainly_along p (after_flush p) (home_index k.geometry x) content (λ lba. refl) refl refl refl (r.homes x v content inside zone due there m);
    }
