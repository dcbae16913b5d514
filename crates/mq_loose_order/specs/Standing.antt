-- Which transactions of an image stand: the greatest set of whole ones that has, with each, all on which it
-- depends above the image's base.
use Rattle.std.specs.Prelude.{◌≡◌, ◌<◌, ℕ, Bool, true, ◌||◌, List, [], ◌∷◌, nat_le, if◌then◌else◌}
use Rattle.mq_blocks.specs.Descriptor.{Descriptor}
use Rattle.mq_blocks.specs.Journal.{Shown, Has, is_among}
use Rattle.mq_blocks.specs.declared.geometry.Geometry.{Geometry}
use Rattle.mq_loose_order.specs.Dependence.{all_in}

abbrev pub numbers_of : List Descriptor → List ℕ
numbers_of [] = []
numbers_of (d ∷ ds) = d.number ∷ numbers_of ds

-- the numbers up to the base, and those of these descriptors above it
abbrev pub in_set : ℕ → List Descriptor → ℕ → Bool
in_set base ds = λ n. nat_le n base || is_among n (numbers_of ds)

-- newest first, all above the base
abbrev pub AreFalling : ℕ → List Descriptor → Type 0
AreFalling base [] = Unit {0}
AreFalling base (d ∷ ds) =
    (base < d.number) × ((e : Descriptor) → Has ds e → e.number < d.number) × AreFalling base ds

-- each of these is in the chain of its queue
abbrev pub AreInChains : Geometry → (ℕ → List Descriptor) → List Descriptor → Type 0
AreInChains g chains ds = (d : Descriptor) → Has ds d → (d.queue < g.queues) × Has (chains d.queue) d

-- each depends on such alone, or on numbers up to the base
abbrev pub AreMet : (ℕ → List ℕ) → ℕ → List Descriptor → Type 0
AreMet deps base ds =
    (d : Descriptor) (n : ℕ) → Has ds d → is_among n (deps d.number) ≡ true → in_set base ds n ≡ true

-- where the transactions of these numbers depend on these
pub record AreStanding (deps : ℕ → List ℕ) (g : Geometry) (i : Shown) (chains : ℕ → List Descriptor)
    (ds : List Descriptor) : Type 0 where
  pub falls : AreFalling i.base ds
  pub whole : AreInChains g chains ds
  pub met : AreMet deps i.base ds
  pub greatest : (es : List Descriptor) → AreInChains g chains es → AreMet deps i.base es
      → (d : Descriptor) → Has es d → Has ds d

-- ---- how they are found

-- all that is in a queue's chain is among these
abbrev pub AreAll : Geometry → (ℕ → List Descriptor) → List Descriptor → Type 0
AreAll g chains ds = (q : ℕ) (d : Descriptor) → q < g.queues → Has (chains q) d → Has ds d

-- each depends on earlier numbers
abbrev pub AreEarlier : (ℕ → List ℕ) → List Descriptor → Type 0
AreEarlier deps ds = (d : Descriptor) (n : ℕ) → Has ds d → is_among n (deps d.number) ≡ true → n < d.number

-- of descriptors by falling numbers, those whose dependences are up to the base or stand
abbrev pub standing : (ℕ → List ℕ) → ℕ → List Descriptor → List Descriptor
standing deps base [] = []
standing deps base (d ∷ ds) =
    if all_in (in_set base (standing deps base ds)) (deps d.number) then d ∷ standing deps base ds
    else standing deps base ds
