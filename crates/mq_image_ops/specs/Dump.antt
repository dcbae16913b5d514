-- The text that gives the words and the chains of an image.
use Rattle.std.specs.Prelude.{◌≡◌, ℕ, zero, suc, List, [], ◌++◌, length, codes}
use Rattle.std.specs.Fmt.{decimal}
use Rattle.std.specs.List.{flat_map}
use Rattle.mq_blocks.specs.Descriptor.{Descriptor}
use Rattle.mq_blocks.specs.Geometry.{queues_of}
use Rattle.mq_blocks.specs.Journal.{AreWhole, IsPrefix, Shown}
use Rattle.mq_blocks.specs.declared.geometry.Geometry.{Geometry}
use Rattle.mq_image.specs.File.{DriveImage}
use Rattle.mq_image_ops.specs.Views.{view_of}

abbrev pub base_line : ℕ → List ℕ
base_line base = codes "base " ++ (decimal base ++ codes "\n")

abbrev pub queue_line : (q doorbell head : ℕ) → List ℕ
queue_line q doorbell head =
    codes "queue "
    ++ (decimal q
    ++ (codes " doorbell " ++ (decimal doorbell ++ (codes " head " ++ (decimal head ++ codes "\n")))))

abbrev pub transaction_line : (number place logged revoked : ℕ) → List ℕ
transaction_line number place logged revoked =
    codes "tx "
    ++ (decimal number
    ++ (codes " place "
    ++ (decimal place
    ++ (codes " logged "
    ++ (decimal logged ++ (codes " revoked " ++ (decimal revoked ++ codes "\n")))))))

abbrev pub prefix_line : ℕ → List ℕ
prefix_line count = codes "prefix " ++ (decimal count ++ codes "\n")

abbrev pub descriptor_line : Descriptor → List ℕ
descriptor_line d = transaction_line d.number d.place (length d.logged) (length d.revoked)

-- a queue's words, and its chain from the newest transaction on
abbrev pub queue_text : Shown → (chains : ℕ → List Descriptor) → ℕ → List ℕ
queue_text i chains q = queue_line q (i.doorbell q) (i.head q) ++ flat_map descriptor_line (chains q)

-- those of the first queues, of this number
unfoldable pub queues_text : Shown → (chains : ℕ → List Descriptor) → ℕ → List ℕ
queues_text i chains zero = []
queues_text i chains (suc q) = queues_text i chains q ++ queue_text i chains q

abbrev pub dump_text : Geometry → Shown → (chains : ℕ → List Descriptor) → (prefix : ℕ) → List ℕ
dump_text g i chains prefix = base_line i.base ++ (queues_text i chains (queues_of g) ++ prefix_line prefix)

-- what is shown is readable, and this text gives its words, its chains and how many transactions stand
pub record IsDumpOf (g : Geometry) (i : Shown) (text : List ℕ) : Type 0 where
  pub chains : ℕ → List Descriptor
  pub ds : List Descriptor
  pub whole : AreWhole g i chains
  pub prefix : IsPrefix g i chains ds
  pub text_is : text ≡ dump_text g i chains (length ds)

-- the same of an image
abbrev pub IsDump : DriveImage → List ℕ → Type 0
IsDump x text = IsDumpOf x.geometry (view_of x) text
