-- Each sound volume starts a run, and each run has a clean cut.
use Rattle.std.proofs.Common.{◌≡◌, ℕ, ◌<◌, ◌≤◌, inl, inr, true, List, [], refl, ap, arith}
use Rattle.std.specs.Prelude.{◌⊎◌, Option, Some, None}
use Rattle.std.proofs.lemmas.Bool.{cases_eq}
use Rattle.mq_blocks.specs.Blocks.{content}
use Rattle.mq_blocks.specs.Descriptor.{Descriptor, journal_form}
use Rattle.mq_blocks.specs.Geometry.{homes_of}
use Rattle.mq_blocks.specs.Journal.{AreWhole, Has, IsQueueChain, IsTop, Shown, number_limit, or_else}
use Rattle.mq_blocks.specs.Machine.{Map}
use Rattle.mq_blocks.specs.declared.geometry.Geometry.{Geometry}
use Rattle.mq_run_laws.proofs.LegalFacts.{grows}
use Rattle.mq_run_laws.proofs.CutsNextRun.{goes-on}
use Rattle.mq_run_laws.proofs.Laid.{sound-laid}
use Rattle.mq_run_laws.specs.Answers.{IsAcknowledged}
use Rattle.mq_run_laws.specs.Cuts.{AreHomeContents, IsClean, IsCut, ShowsVolume, Starts}
use Rattle.mq_run_laws.specs.Legal.{IsRun, newest, volume_at}
use Rattle.mq_run_laws.specs.HistoryLaws.{HasDoorbells}
use Rattle.mq_recover.specs.Recovery.{IsReadPrefix}
use Rattle.mq_report.specs.Lines.{Line}
use Rattle.mq_report.specs.declared.line.Told.{Told}
use Rattle.mq_script.specs.Scripts.{Script}
use Rattle.mq_tree.proofs.Decoded.{length-table, table-at}
use Rattle.mq_tree.specs.Decoded.{table_of}
use Rattle.mq_tree.specs.Sound.{IsSound}
use Rattle.mq_tree.specs.Volume.{Volume}

-- ---- an image with a base, doorbells and home blocks, whose heads are at the doorbells

abbrev pub clean_image : ℕ → (ℕ → ℕ) → (ℕ → List ℕ) → Shown
clean_image n bells home = record { form = journal_form; base = n; head = bells; doorbell = bells; entry = λ q k. Some (n, 0, true); area = λ q k. []; home = home }

empty-chain : (g : Geometry) (n : ℕ) (bells : ℕ → ℕ) (home : ℕ → List ℕ) (q : ℕ) → n ≤ number_limit → bells q ≤ number_limit → IsQueueChain g (clean_image n bells home) q []
empty-chain g n bells home q low few = elim (cases_eq (bells q) 0) [
  | inl zero ↦ record {
    number = 0;
    lba = 0;
    place = 0;
    order = omega arith;
    few = omega arith;
    low = few;
    none = λ e. refl;
    newest = λ some. absurd (omega (arith, zero, some));
    limit = omega arith;
    own = λ high. absurd (omega arith);
    chain = omega arith;
    reach = tt;
    rung = λ c high under. absurd (omega (arith, high, under));
    rung_whole = λ under. absurd (omega (arith, under));
  }
  | inr some ↦ record {
    number = n;
    lba = 0;
    place = 0;
    order = omega arith;
    few = omega arith;
    low = few;
    none = λ e. absurd (some e);
    newest = λ high. refl;
    limit = low;
    own = λ high. absurd (omega (arith, high));
    chain = omega arith;
    reach = tt;
    rung = λ c high under. absurd (omega (arith, high, under));
    rung_whole = λ under. absurd (omega (arith, under));
  }
]

abbrev pub no_chains : ℕ → List Descriptor
no_chains q = []

whole-image : (g : Geometry) (n : ℕ) (bells : ℕ → ℕ) (home : ℕ → List ℕ) → n ≤ number_limit → HasDoorbells bells → AreWhole g (clean_image n bells home) no_chains
whole-image g n bells home low few = record {
  limit = low;
  each = λ q l. empty-chain g n bells home q low (few q);
  once = λ q r l h other d e has. absurd has;
}

top-image : (g : Geometry) (n : ℕ) (bells : ℕ → ℕ) (home : ℕ → List ℕ) → n ≤ number_limit → HasDoorbells bells → IsTop g (clean_image n bells home) no_chains n
top-image g n bells home low few = record {
  whole = whole-image g n bells home low few;
  shown = record { where_from = inl refl };
  greatest = λ m shows. at-most m shows.where_from;
}
  where
    at-most : (m : ℕ) → (m ≡ n) ⊎ (((q : ℕ) × (d : Descriptor) × (q < g.queues) × Has [] d × (d.number ≡ m)) ⊎ ((q : ℕ) × (c : ℕ) × (s : ℕ × ℕ × Rattle.std.specs.Prelude.Bool) × (q < g.queues) × (bells q ≤ c) × (c < bells q) × (Some (n, 0, true) ≡ Some s) × (s.0 ≡ m))) → m ≤ n
    at-most m (inl e) = omega (arith, e)
    at-most m (inr (inl has)) = absurd has.3
    at-most m (inr (inr rung)) = let high = rung.4 in let under = rung.5 in absurd (omega (arith, high, under))

read-image : (g : Geometry) (n : ℕ) (bells : ℕ → ℕ) (home : ℕ → List ℕ) → n ≤ number_limit → HasDoorbells bells → IsReadPrefix g (clean_image n bells home) [] n
read-image g n bells home low few = record {
  form_is = refl;
  chains = no_chains;
  whole = whole-image g n bells home low few;
  prefix = record { row = tt; whole = λ d has. absurd has; greatest = λ q d l has. absurd has };
  top_is = top-image g n bells home low few;
}

-- ---- the image of a volume

-- what the map has at a block
abbrev home_of : Map → ℕ → List ℕ
home_of m b = or_else (m b) []

stands-clean : (g : Geometry) (v : Volume) (n : ℕ) (bells : ℕ → ℕ) (sound : IsSound g v) → ShowsVolume g (clean_image n bells (home_of (sound-laid g v sound).0)) [] v
stands-clean g v n bells sound =
    let m = sound-laid g v sound in
    record { map = m.0; laid = m.1; each = λ b page e. ap (λ (o : Option (List ℕ)). or_else o []) e }

clean-image : (g : Geometry) (n : ℕ) (bells : ℕ → ℕ) (home : ℕ → List ℕ) → n ≤ number_limit → HasDoorbells bells → IsClean g (clean_image n bells home) n
clean-image g n bells home low few = record { base_is = refl; read = read-image g n bells home low few; heads = λ q l. refl }

abbrev stored_of : Geometry → (ℕ → List ℕ) → List (Option (List ℕ))
stored_of g home = table_of (homes_of g) (λ b. Some (home b))

standing-clean : (g : Geometry) (n : ℕ) (bells : ℕ → ℕ) (home : ℕ → List ℕ) → AreHomeContents g (clean_image n bells home) [] (stored_of g home)
standing-clean g n bells home = record { whole = length-table (homes_of g) (λ b. Some (home b)); each = λ b low. ap (λ (o : Option (List ℕ)). content o) (table-at (homes_of g) (λ c. Some (home c)) b None low) }

pub volume-starts : (g : Geometry) (v : Volume) (n : ℕ) (bells : ℕ → ℕ) → IsSound g v → n ≤ number_limit → HasDoorbells bells → (i : Shown) × Starts g i n v × IsClean g i n × ((q : ℕ) → i.doorbell q ≡ bells q)
volume-starts g v n bells sound low few =
    let home = home_of (sound-laid g v sound).0 in
    let i = clean_image n bells home in
    let standing = standing-clean g n bells home in (
      i,
      record {
        ds = [];
        read = read-image g n bells home low few;
        stored = stored_of g home;
        standing = standing;
        laid = goes-on g i [] v (stored_of g home) (stands-clean g v n bells sound) standing;
      },
      clean-image g n bells home low few,
      λ q. refl,
    )

pub run-ends : (g : Geometry) (scripts : List Script) (v : Volume) (base : ℕ) (lines : List Line) (answers : List Told) (bells : ℕ → ℕ) → IsRun g scripts v base lines → IsSound g (volume_at g scripts v lines (newest base lines)) → newest base lines ≤ number_limit → HasDoorbells bells → ((n : ℕ) → IsAcknowledged scripts answers n → n ≤ newest base lines) → (i : Shown) × IsCut g scripts v base lines answers i (newest base lines) × IsClean g i (newest base lines) × ((q : ℕ) → i.doorbell q ≡ bells q)
run-ends g scripts v base lines answers bells run sound low few settled =
    let n = newest base lines in
    let home = home_of (sound-laid g (volume_at g scripts v lines n) sound).0 in (
      clean_image n bells home,
      record {
        ds = [];
        top = n;
        read = read-image g n bells home low few;
        reaches = omega arith;
        least = grows g scripts v base lines run;
        most = omega arith;
        stand = stands-clean g (volume_at g scripts v lines n) n bells sound;
        acknowledged = settled;
        top_most = omega arith;
      },
      clean-image g n bells home low few,
      λ q. refl,
    )
