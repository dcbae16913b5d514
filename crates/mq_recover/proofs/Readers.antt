-- What holds of the chains that a reader reads, and that the journal's descriptors have a reader.
use Rattle.std.proofs.Common.{◌<◌, inl, inr, ℕ, ◌^◌, List, [], ◌∷◌, Option, Some, None, sym, subst, arith}
use Rattle.std.specs.Option.{unwrap_or}
use Rattle.mq_area.proofs.ReadingExact.{refuses-once, accepted-refused}
use Rattle.mq_area.proofs.ReadingSound.{accepted-once}
use Rattle.mq_area.specs.Reading.{Accepts, Refuses}
use Rattle.mq_area.specs.declared.descriptor.PlaceIs.{PlaceIs}
use Rattle.mq_area.specs.declared.descriptor.PlaceIs.TheVariants.{Index, Exact}
use Rattle.mq_blocks.proofs.DescriptorLimits.{limit-high, listed-high}
use Rattle.mq_blocks.specs.Descriptor.{Descriptor, most_listed}
use Rattle.mq_blocks.specs.Drive.{PortState}
use Rattle.mq_blocks.specs.Geometry.{homes_of, write_limit}
use Rattle.mq_blocks.specs.declared.geometry.Geometry.{Geometry}
use Rattle.mq_recover.proofs.RecoverCopies.{good-more}
use Rattle.mq_recover.specs.Reader.{Accepting, IsReader, Refusing}
use Rattle.mq_recover.specs.Recover.{AreFalling, AreGood, AreOf}
use Rattle.mq_recover.specs.Refusals.{AreFoundBy, IsReadableBy, before_where, block_where, expected}

-- the journal's descriptors have one
pub journal-reader : IsReader Accepts Refuses
journal-reader = record {
  good = λ g at block before d a. good-more (most_listed (write_limit g) a.is.version) (homes_of g) d (listed-high (write_limit g) a.is.version (limit-high g)) a.is.good;
  queue = λ g at block before d a. a.queue;
  number = λ g at block before d a. a.number;
  once = λ g at block before d e a b. accepted-once g at block before d e a b;
  cause_once = λ g at block before e f r t n m. refuses-once g at block before e f r t n m;
  apart = λ g at block before d e a r. accepted-refused g at block before d e a r;
}

-- ---- chains

module _ (accepts : Accepting) (refuses : Refusing) (reader : IsReader accepts refuses) where
  found-falls : (g : Geometry) (s : PortState) (q base number high : ℕ) (at : PlaceIs) (newest : Option ℕ) (ds : List Descriptor) (next : ℕ) (to : PlaceIs) (m : Option ℕ)
      → AreFoundBy accepts g s q base number at newest ds next to m → number < high → AreFalling base high ds
  found-falls g s q base number high at newest [] next to m f low = tt
  found-falls g s q base number high at newest (d ∷ ds) next to m f low =
      let is = reader.number g (expected q number at) (block_where g s at) (before_where g s at) d f.1.0 in
      let falls = (reader.good g (expected q number at) (block_where g s at) (before_where g s at) d f.1.0).falls in
      let above = f.0 in
      (omega (arith, is, above), omega (arith, is, low), found-falls g s q base d.prev_number d.number (Exact d.prev_place) (Some (unwrap_or newest d.place)) ds next to m f.2 falls)

  found-good : (g : Geometry) (s : PortState) (q base number : ℕ) (at : PlaceIs) (newest : Option ℕ) (ds : List Descriptor) (next : ℕ) (to : PlaceIs) (m : Option ℕ)
      → AreFoundBy accepts g s q base number at newest ds next to m → AreGood (homes_of g) ds
  found-good g s q base number at newest [] next to m f = tt
  found-good g s q base number at newest (d ∷ ds) next to m f =
      (reader.good g (expected q number at) (block_where g s at) (before_where g s at) d f.1.0, found-good g s q base d.prev_number (Exact d.prev_place) (Some (unwrap_or newest d.place)) ds next to m f.2)

  found-own : (g : Geometry) (s : PortState) (q base number : ℕ) (at : PlaceIs) (newest : Option ℕ) (ds : List Descriptor) (next : ℕ) (to : PlaceIs) (m : Option ℕ)
      → AreFoundBy accepts g s q base number at newest ds next to m → AreOf q ds
  found-own g s q base number at newest [] next to m f = tt
  found-own g s q base number at newest (d ∷ ds) next to m f =
      (reader.queue g (expected q number at) (block_where g s at) (before_where g s at) d f.1.0, found-own g s q base d.prev_number (Exact d.prev_place) (Some (unwrap_or newest d.place)) ds next to m f.2)

  pub readable-falls : (g : Geometry) (s : PortState) (q base : ℕ) (ds : List Descriptor) → IsReadableBy accepts g s q base ds → AreFalling base (2 ^ 64) ds
  readable-falls g s q base ds r =
      let limit = r.newest.limit in
      elim r.chain [
        | inl x ↦ subst (AreFalling base (2 ^ 64)) (sym x.1) tt
        | inr x ↦ found-falls g s q base r.number (2 ^ 64) (Index x.1) None ds x.3 x.4 x.5 x.6 (omega (arith, limit))
      ]

  pub readable-good : (g : Geometry) (s : PortState) (q base : ℕ) (ds : List Descriptor) → IsReadableBy accepts g s q base ds → AreGood (homes_of g) ds
  readable-good g s q base ds r = elim r.chain [
    | inl x ↦ subst (AreGood (homes_of g)) (sym x.1) tt
    | inr x ↦ found-good g s q base r.number (Index x.1) None ds x.3 x.4 x.5 x.6
  ]

  pub readable-own : (g : Geometry) (s : PortState) (q base : ℕ) (ds : List Descriptor) → IsReadableBy accepts g s q base ds → AreOf q ds
  readable-own g s q base ds r = elim r.chain [
    | inl x ↦ subst (AreOf q) (sym x.1) tt
    | inr x ↦ found-own g s q base r.number (Index x.1) None ds x.3 x.4 x.5 x.6
  ]
