-- What starts from the image of an empty drive starts with the base 0 and the empty file system.
use Rattle.std.proofs.Common.{◌≡◌, ◌∙◌, ◌⊎◌, inl, inr, ℕ, ◌<◌, ◌≤◌, ◌%◌, List, [], refl, sym, ap, subst, arith}
use Rattle.std.specs.Prelude.{Option, Some, None}
use Rattle.std.proofs.lemmas.Bool.{cases_lt}
use Rattle.mq_blocks.specs.Blocks.{block_at}
use Rattle.mq_blocks.specs.Limits.{depth}
use Rattle.mq_blocks.specs.Descriptor.{Descriptor, journal_form}
use Rattle.mq_blocks.specs.Geometry.{homes_of, meta_of, queues_of}
use Rattle.mq_blocks.specs.Journal.{AreWhole, Has, IsQueueChain, IsTop, WriteFields, Shown, stands}
use Rattle.mq_blocks.specs.declared.geometry.Geometry.{Geometry}
use Rattle.mq_layout.specs.Empty.{empty_block}
use Rattle.mq_layout.proofs.EmptyLaws.{empty-zeros}
use Rattle.mq_run_laws.specs.Cuts.{Starts}
use Rattle.mq_run_laws.proofs.CutsStarting.{no_chains}
use Rattle.mq_recover.specs.Recovery.{IsReadPrefix}
use Rattle.mq_recover.proofs.DrivesImages.{read-same}
use Rattle.mq_tree.specs.Empty.{empty_volume}
use Rattle.mq_tree.specs.Laid.{IsPage, map_of}
use Rattle.mq_tree.specs.Volume.{Volume}
use Rattle.mq_tree.proofs.Empty.{empty-laid}
use Rattle.mq_tree.proofs.LaidMaps.{mapped}
use Rattle.mq_tree.proofs.DecodedMounting.{past-page, zeros-page}
use Rattle.mq_tree.proofs.LaidUnique.{volume-once}

module _ (g : Geometry) (i : Shown) (form_is : i.form ≡ journal_form) (base_is : i.base ≡ 0) (heads : (q : ℕ) → q < queues_of g → i.head q ≡ 0) (bells : (q : ℕ) → q < queues_of g → i.doorbell q ≡ 0) where
  no-chain : (q : ℕ) → q < queues_of g → IsQueueChain g i q []
  no-chain q own =
      let head = heads q own in
      let bell = bells q own in
      record {
        number = 0;
        lba = 0;
        place = 0;
        order = omega arith;
        few = omega arith;
        low = omega arith;
        none = λ e. refl;
        newest = λ some. absurd (omega (arith, head, some));
        limit = omega arith;
        own = λ high. absurd (omega arith);
        chain = omega arith;
        reach = tt;
        rung = λ c high under. absurd (omega (arith, bell, high, under));
        rung_whole = λ under. absurd (omega (arith, bell, under));
      }

  no-chains-whole : AreWhole g i no_chains
  no-chains-whole = record {
    limit = omega arith;
    each = no-chain;
    once = λ q r l h other d e has. absurd has;
  }

  at-most : (m : ℕ) → (m ≡ i.base) ⊎ (((q : ℕ) × (d : Descriptor) × (q < g.queues) × Has [] d × (d.number ≡ m)) ⊎ ((q : ℕ) × (c : ℕ) × (s : WriteFields) × (q < g.queues) × (i.head q ≤ c) × (c < i.doorbell q) × (i.entry q (c % depth) ≡ Some s) × (s.0 ≡ m))) → m ≤ 0
  at-most m (inl e) = omega (arith, e)
  at-most m (inr (inl has)) = absurd has.3
  at-most m (inr (inr rung)) = let bell = bells rung.0 rung.3 in let under = rung.5 in absurd (omega (arith, bell, under))

  nothing-above : IsTop g i no_chains 0
  nothing-above = record {
    whole = no-chains-whole;
    shown = record { where_from = inl (sym base_is) };
    greatest = λ m shows. at-most m shows.where_from;
  }

  reads-nothing : IsReadPrefix g i [] 0
  reads-nothing = record {
    form_is = form_is;
    chains = no_chains;
    whole = no-chains-whole;
    prefix = record { row = tt; whole = λ d has. absurd has; greatest = λ q d l has. absurd has };
    top_is = nothing-above;
  }

  module _ (homes : (b : ℕ) → b < homes_of g → i.home b ≡ empty_block g b) (base : ℕ) (v : Volume) (start : Starts g i base v) where
    same : (start.ds ≡ []) × (base ≡ 0)
    same = read-same g i start.ds [] base 0 start.read reads-nothing

    stored-is : (b : ℕ) → b < homes_of g → block_at start.stored b ≡ empty_block g b
    stored-is b low = start.standing.each b low ∙ ap (λ (ds : List Descriptor). stands g i ds b) same.0 ∙ homes b low

    meta-page : (b : ℕ) → b < meta_of g → (o : Option (List ℕ)) → map_of g start.stored b ≡ o → IsPage (block_at start.stored b)
    meta-page b low None e = absurd (let high = (start.laid.vacant b e).0 in omega arith)
    meta-page b low (Some page) e = subst (λ (p : List ℕ). IsPage p) (mapped g start.stored b page e).is (start.laid.shown b page e).0

    zone-page : (b : ℕ) → meta_of g ≤ b → b < homes_of g → IsPage (block_at start.stored b)
    zone-page b high low =
        let meta = g.meta_low in
        let zero_block = empty-zeros g b (λ e. omega (arith, e, high, meta)) (λ e. omega (arith, e, high, meta)) (λ e. omega (arith, e, high, meta)) in
        subst (λ (p : List ℕ). IsPage p) (sym (stored-is b low ∙ zero_block)) zeros-page

    pages : (b : ℕ) → IsPage (block_at start.stored b)
    pages b = elim (cases_lt b (homes_of g)) [
      | inl low ↦ elim (cases_lt b (meta_of g)) [ inl meta ↦ meta-page b meta (map_of g start.stored b) refl | inr high ↦ zone-page b high low ]
      | inr past ↦ (let whole = start.standing.whole in past-page start.stored b (omega (arith, past, whole)))
    ]

    pub starts-empty : (base ≡ 0) × (v ≡ empty_volume g)
    starts-empty = (same.1, volume-once g (map_of g start.stored) v (empty_volume g) start.laid (empty-laid g start.stored pages stored-is))
