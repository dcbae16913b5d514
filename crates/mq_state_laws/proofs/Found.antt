-- Recovery finds a prefix of the history.
use Rattle.std.proofs.Common.{◌≡◌, ◌<◌, ◌≤◌, ℕ, ◌+◌, List, length, map, refl, subst, ◌∙◌, arith}
use Rattle.mq_blocks.specs.Blocks.{block_at}
use Rattle.mq_blocks.specs.Descriptor.{Descriptor}
use Rattle.mq_blocks.specs.Drive.{image_of}
use Rattle.mq_blocks.specs.Geometry.{homes_of}
use Rattle.mq_blocks.specs.Journal.{Shown, Reaches, shown, stands}
use Rattle.mq_ledger.specs.Items.{Entries, reading_of}
use Rattle.mq_ledger.specs.State.{Recovers}
use Rattle.mq_ledger.specs.Written.{journal_entries}
use Rattle.mq_recover.specs.Drives.{DriveState, view_over}
use Rattle.mq_recover.specs.Recovery.{IsReadPrefix}
use Rattle.mq_recover.specs.Images.{IsReadableImage}
use Rattle.mq_recover.specs.Standing.{StandsIn}
use Rattle.mq_recover.specs.Steps.{HasRecovered}
use Rattle.mq_recover.specs.declared.standing.Standing.{Standing}
use Rattle.mq_recover.proofs.DrivesImages.{reaches-same, whole-readable}
use Rattle.mq_core.proofs.StateCuts.{IsCut, cut_of}
use Rattle.mq_state_laws.specs.Found.{Finds, IsCutOf}
use Rattle.mq_state_laws.specs.Parts.{Parts, AreParts, state}
use Rattle.mq_state_laws.proofs.PartsAssembly.{assembled_least, front_reached, lawful}
use Rattle.mq_state_laws.proofs.JournalTops.{shows_low}

module _ (p : Parts) (d : DriveState) (are : AreParts p) (written : p.entries ≡ journal_entries) (cut : IsCutOf p d) where
  abbrev view : Shown
  view = view_over p.geometry d

  recovers : Recovers (state p) view
  recovers =
      let safe = (lawful p are).safe in
      subst (λ (e : Entries). Recovers (state p) (shown (reading_of e) p.geometry (map image_of d.queues) (image_of d.root))) written (safe.images (map image_of d.queues) (image_of d.root) cut)

  pub readable : IsReadableImage p.geometry d
  readable = whole-readable p.geometry d recovers.chains recovers.whole

  finds_its : Finds p (view.base + length recovers.ds) (stands p.geometry view recovers.ds)
  finds_its =
      let least = recovers.least in
      record {
        least = least;
        settled = omega (arith, least, front_reached p are);
        most = recovers.most;
        acknowledged = λ n a. omega (arith, are.acknowledged n a, front_reached p are, least);
        stand = recovers.stand;
      }

  pub reads_prefix : (ds : List Descriptor) (top : ℕ) → IsReadPrefix p.geometry view ds top → Finds p (d.root.base + length ds) (stands p.geometry view ds)
  reads_prefix ds top read =
      let one : Reaches p.geometry view recovers.ds = record { chains = recovers.chains; whole = recovers.whole; prefix = recovers.prefix } in
      let other : Reaches p.geometry view ds = record { chains = read.chains; whole = read.whole; prefix = read.prefix } in
      subst (λ es. Finds p (d.root.base + length es) (stands p.geometry view es)) (reaches-same p.geometry view recovers.ds ds refl one other) finds_its

  found_else : (reached : ℕ) (found other : ℕ → List ℕ) → Finds p reached found → ((x : ℕ) → x < homes_of p.geometry → other x ≡ found x) → Finds p reached other
  found_else reached found other f same = record {
    least = f.least;
    settled = f.settled;
    most = f.most;
    acknowledged = f.acknowledged;
    stand = λ x content inside there. same x inside ∙ f.stand x content inside there;
  }

  pub stands_prefix : (s : Standing) → StandsIn p.geometry d s → Finds p (s.base + s.prefix) (block_at s.blocks.items)
  stands_prefix s (ds, top, read, is) =
      let reached : d.root.base + length ds ≡ s.base + s.prefix = (let b = is.base_is in let n = is.prefix_is in omega arith) in
      subst (λ r. Finds p r (block_at s.blocks.items)) reached (found_else _ (stands p.geometry view ds) (block_at s.blocks.items) (reads_prefix ds top read) is.blocks_are)

  pub recovers_prefix : (new : DriveState) (prefix base : ℕ) → HasRecovered p.geometry d prefix base new → Finds p (d.root.base + prefix) (view_over p.geometry new).home
  recovers_prefix new prefix base is =
      let reached : d.root.base + length is.ds ≡ d.root.base + prefix = (let n = is.prefix_is in omega arith) in
      subst (λ r. Finds p r (view_over p.geometry new).home) reached (found_else _ (stands p.geometry view is.ds) (view_over p.geometry new).home (reads_prefix is.ds base is.read) is.recovered.homes)

  pub top_low : (ds : List Descriptor) (top : ℕ) → IsReadPrefix p.geometry view ds top → top ≤ p.base + length p.history
  top_low ds top read =
      let facts = assembled_least p are in
      let cut' : IsCut p.entries (state p) view = subst (λ (e : Entries). IsCut p.entries (state p) (shown (reading_of e) p.geometry (map image_of d.queues) (image_of d.root))) written (cut_of p.entries (state p) (map image_of d.queues) (image_of d.root) facts cut) in
      shows_low p.entries (state p) facts view cut' read.chains top read.whole read.top_is.shown
