-- The transactions of the chains of all queues, taken one after another by rising number.
use Rattle.std.specs.Prelude.{◌≡◌, ◌≢◌, ◌<◌, ◌≤◌, ℕ, ◌^◌, List, ◌++◌, length}
use Rattle.mq_blocks.specs.Descriptor.{Descriptor}
use Rattle.mq_blocks.specs.Journal.{Has}
use Rattle.mq_recover.specs.Queues.{AreChains}
use Rattle.mq_recover.specs.Recover.{chain_at, AreFalling, AreGood}
use Rattle.mq_recover.specs.declared.refusal.ImageFault.{ImageFault}
use Rattle.mq_recover.specs.declared.refusal.ImageFault.TheVariants as fault

-- The transactions of these chains, the newest first, each once: no number stands in two chains.
pub record AreMerged (homes base : ℕ) (chains : List (List Descriptor))
    (ds : List Descriptor) : Type 0 where
  pub falling : AreFalling base (2 ^ 64) ds
  pub good : AreGood homes ds
  pub from_chains : (d : Descriptor) → Has ds d
      → (d.queue < length chains) × Has (chain_at chains d.queue) d
  pub every : (q : ℕ) (d : Descriptor) → q < length chains → Has (chain_at chains q) d → Has ds d
  pub once : (q r : ℕ) → q < length chains → r < length chains → q ≢ r → (d e : Descriptor)
      → Has (chain_at chains q) d → Has (chain_at chains r) e → d.number ≢ e.number

-- The transactions of chains were taken by rising number. These chains are left of them, and these
-- transactions were taken, the newest first.
pub record IsMerging (homes base : ℕ) (chains left : List (List Descriptor))
    (ds : List Descriptor) : Type 0 where
  pub chains_are : AreChains homes base chains
  pub count : length left ≡ length chains
  pub gone : ℕ → List Descriptor
  pub parts : (q : ℕ) → q < length chains → chain_at chains q ≡ chain_at left q ++ gone q
  pub order : (p q : ℕ) (d e : Descriptor) → p < length chains → q < length chains → Has (gone p) d
      → Has (chain_at left q) e → d.number < e.number
  pub apart : (p q : ℕ) (d e : Descriptor) → p < length chains → q < length chains → p ≢ q
      → Has (gone p) d → Has (gone q) e → d.number ≢ e.number
  pub falling : AreFalling base (2 ^ 64) ds
  pub good : AreGood homes ds
  pub from_gone : (d : Descriptor) → Has ds d → (d.queue < length chains) × Has (gone d.queue) d
  pub every : (q : ℕ) (d : Descriptor) → q < length chains → Has (gone q) d → Has ds d

-- ---- a number that stands twice

-- a descriptor of this number is among them
abbrev pub HasNumber : List Descriptor → ℕ → Type 0
HasNumber ds number = (d : Descriptor) × Has ds d × (d.number ≡ number)

-- the least number that stands in the chains of two queues, and the two least queues in whose chains
-- it stands
pub record IsTwice (queues : ℕ) (chains : ℕ → List Descriptor) (number first second : ℕ) : Type 0 where
  pub order : first < second
  pub within : second < queues
  pub in_first : HasNumber (chains first) number
  pub in_second : HasNumber (chains second) number
  pub least : (n q r : ℕ) → q < r → r < queues → HasNumber (chains q) n → HasNumber (chains r) n
      → number ≤ n
  pub others : (q : ℕ) → q < second → q ≢ first → HasNumber (chains q) number → ⊥

-- a number stands in two of these chains
abbrev pub RefusesTwice : List (List Descriptor) → ImageFault → Type 0
RefusesTwice chains (fault.Twice number first second) =
    IsTwice (length chains) (chain_at chains) number first second
RefusesTwice chains (fault.Bad q cause) = ⊥
RefusesTwice chains (fault.Limit base) = ⊥
RefusesTwice chains fault.OutOfMemory = ⊥
