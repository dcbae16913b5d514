-- What a cut of a port in memory leaves is an image of it.
use Rattle.std.proofs.Common.{◌≡◌, ◌≢◌, ◌⊎◌, ⊎_elim, ℕ, true, false, List, [], ◌∷◌, length, get_or, All, None, sym, ◌∙◌, ap, subst, arith}
use Rattle.std.proofs.lemmas.List.{ext_get_or}
use Rattle.std.proofs.lemmas.List.Elements.{All-cons}
use Rattle.mq_blocks.specs.Blocks.{content}
use Rattle.mq_blocks.specs.Drive.{PortState, PortImage, IsImage, IsQuiescent, IsFlushed, IsApartFrom, index_of, image_of}
use Rattle.mq_blocks.specs.declared.command.Command.{Command}
use Rattle.mq_blocks.proofs.DriveQuiescent.{quiet-flushed}

-- all slots and blocks that are certain are as they were, and each word is one of two
pub record IsCut (s : PortState) (i : PortImage) : Type 0 where
  pub doorbell : i.doorbell ≡ s.doorbell
  pub head : (i.head ≡ s.head) ⊎ (i.head ≡ s.stored_head)
  pub base : (i.base ≡ s.base) ⊎ (i.base ≡ s.stored_base)
  pub slots_len : length i.slots ≡ length s.flushed
  pub slots : (k : ℕ) → IsFlushed s k → get_or i.slots k [] ≡ get_or s.flushed k []
  pub blocks_len : length i.blocks ≡ length s.blocks
  pub blocks : (k : ℕ) → All (λ c. index_of s c.lba ≢ k) s.posted → get_or s.certain k false ≡ true → get_or i.blocks k None ≡ get_or s.blocks k None

all_apart : (s : PortState) (k : ℕ) (cs : List Command) → IsApartFrom s k cs → All (λ c. index_of s c.lba ≢ k) cs
all_apart s k [] apart = λ j d less. absurd (omega (arith, less))
all_apart s k (c ∷ cs) apart = All-cons (λ x. index_of s x.lba ≢ k) c cs apart.0 (all_apart s k cs apart.1)

pub image_of-cut : (s : PortState) (i : PortImage) → IsCut s i → IsImage s i
image_of-cut s i cut = record {
  doorbell = cut.doorbell;
  head = cut.head;
  base = cut.base;
  slots_len = cut.slots_len;
  slots = λ k within flushed. cut.slots k flushed;
  blocks_len = cut.blocks_len;
  blocks = λ k within certain. ap content (cut.blocks k (all_apart s k s.posted certain.apart) certain.certain);
}

no_command : (s : PortState) (k : ℕ) → IsQuiescent s → All (λ c. index_of s c.lba ≢ k) s.posted
no_command s k quiet = subst (λ (l : List Command). All (λ c. index_of s c.lba ≢ k) l) (sym quiet.posted) (λ j d less. absurd (omega (arith, less)))

pub quiet-cut : (s : PortState) (i : PortImage) → length s.certain ≡ length s.blocks → IsCut s i → IsQuiescent s → i ≡ image_of s
quiet-cut s i sized cut quiet =
    let head : i.head ≡ s.head = ⊎_elim (λ old. old) (λ new. new ∙ quiet.head) cut.head in
    let base : i.base ≡ s.base = ⊎_elim (λ old. old) (λ new. new ∙ quiet.base) cut.base in
    let slots : i.slots ≡ s.flushed = ext_get_or [] i.slots s.flushed cut.slots_len (λ k within. cut.slots k (quiet-flushed s k quiet)) in
    let blocks : i.blocks ≡ s.blocks = ext_get_or None i.blocks s.blocks cut.blocks_len
    (λ k within. cut.blocks k (no_command s k quiet) (quiet.certain k (let long = cut.blocks_len in omega (arith, within, long, sized)))) in
    λ j. record { doorbell = cut.doorbell j; head = head j; base = base j; slots = slots j; blocks = blocks j }
