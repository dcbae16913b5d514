-- What a group of requests does on pages of which some are absent.
use Rattle.std.specs.Prelude.{◌≡◌, ◌≢◌, ◌<◌, ℕ, List, ◌++◌, None}
use Rattle.std.specs.List.{All, AllPairs, Contains}
use Rattle.mq_blocks.specs.Geometry.{homes_of}
use Rattle.mq_blocks.specs.declared.geometry.Geometry.{Geometry}
use Rattle.mq_exec.specs.Moves.{KeepsRest, Moves}
use Rattle.mq_exec.specs.declared.outcome.Done.{Done as Carried}
use Rattle.mq_exec.specs.declared.outcome.Outcome.{Outcome}
use Rattle.mq_exec.specs.declared.outcome.Outcome.TheVariants.{Done, Need}
use Rattle.mq_inodes.specs.Fits.{Agrees}
use Rattle.mq_inodes.specs.MissingPages.{IsNeed}
use Rattle.mq_inodes.specs.Pages.{Pages}
use Rattle.mq_inodes.specs.declared.lack.Missing.{Missing}
use Rattle.mq_inodes.specs.declared.lack.Missing.TheVariants.{Need as NeedOf, OutOfMemory as Wanting}
use Rattle.mq_pages.specs.declared.page.Write.{Write}
use Rattle.mq_tree.specs.Looks.{GroupLooks}
use Rattle.mq_tree.specs.Requests.{after_group, replies}
use Rattle.mq_tree.specs.Sound.{IsSound}
use Rattle.mq_tree.specs.Volume.{Volume}
use Rattle.mq_tree.specs.declared.request.Request.{Request}

-- Of each block that is written or freed the page is known.
pub record AreKnown (pages : Pages) (done : Carried) : Type 0 where
  pub written : (x : Write) → Contains done.writes.items x → pages x.block ≢ None
  pub freed : (b : ℕ) → Contains done.frees.items b → pages b ≢ None

-- The replies are the group's, and writes and frees are its change; the volume after it is sound.
pub record IsDone (g : Geometry) (q : ℕ) (v : Volume) (requests : List Request)
    (done : Carried) : Type 0 where
  pub replies : done.replies.items ≡ replies g q v requests
  pub moves : Moves g v (after_group g q v requests) done.writes.items done.frees.items
  pub rest : KeepsRest g v (after_group g q v requests) done.writes.items done.frees.items
  pub sound : IsSound g (after_group g q v requests)

-- Blocks that a group asks for: at least one, each once and by rising block, each a home block that is
-- absent and looked at.
pub record IsRequested (g : Geometry) (pages : Pages) (looks : ℕ → Type 0) (blocks : List ℕ) : Type 0 where
  pub need : IsNeed pages looks blocks
  pub rise : AllPairs (λ b c. b < c) blocks
  pub homes : All (λ b. b < homes_of g) blocks

-- Where the group is done, this holds on each volume of which the pages may be a part. Else pages are asked
-- for at which the group looks on each of these volumes.
abbrev pub Answers : Geometry → (queue : ℕ) → Pages → List Request → Outcome → Type 0
Answers g q pages requests (Done done) =
    AreKnown pages done × ((v : Volume) → Agrees g pages v → IsDone g q v requests done)
Answers g q pages requests (Need blocks) =
    IsRequested g pages
    (λ b. (v : Volume) → Agrees g pages v → GroupLooks g q v requests b) blocks.items

-- exactly the missing blocks, each once and in rising order
pub record AreEachOnce (lacked named : List ℕ) : Type 0 where
  pub rise : AllPairs (λ b c. b < c) named
  pub all : (b : ℕ) → Contains lacked b → Contains named b
  pub only : (b : ℕ) → Contains named b → Contains lacked b

-- the outcome where these blocks are missing
abbrev pub NamesThem : (lacked : List ℕ) → Outcome → Type 0
NamesThem lacked (Done done) = ⊥
NamesThem lacked (Need named) = AreEachOnce lacked named.items

-- and where something is missing, and blocks besides
abbrev pub NeedsOf : Missing → (ahead : List ℕ) → Outcome → Type 0
NeedsOf (NeedOf blocks) ahead outcome = NamesThem (blocks.items ++ ahead) outcome
NeedsOf Wanting ahead outcome = ⊥
