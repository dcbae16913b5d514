-- What an entry says, and what its group does to a map of home blocks.
use Rattle.std.specs.Prelude.{◌≡◌, ◌<◌, ℕ, List, [], map}
use Rattle.mq_blocks.specs.Geometry.{queues_of}
use Rattle.mq_blocks.specs.Machine.{Map, after}
use Rattle.mq_blocks.specs.declared.geometry.Geometry.{Geometry}
use Rattle.mq_exec.specs.Moves.{IsChangeOf, Moves}
use Rattle.mq_calls.specs.declared.entry.FileEntry.{FileEntry}
pub use Rattle.mq_sessions.specs.Drawn.{Changes, tx_by}
pub use Rattle.mq_sessions.specs.Executors.{IsUndrawn}
use Rattle.mq_ledger.specs.History.{change_of}
use Rattle.mq_ledger.specs.declared.tx.Tx.{Tx}
use Rattle.mq_pages.specs.declared.page.Write.{Write}
use Rattle.mq_tree.specs.Laid.{IsLaid}
use Rattle.mq_tree.specs.Requests.{after_group, replies}
use Rattle.mq_tree.specs.Volume.{Volume}

-- ---- what it says

abbrev pub written_by : FileEntry → List Write
written_by e = e.writes.value.items

abbrev pub freed_by : FileEntry → List ℕ
freed_by e = e.frees.value.items

-- that of an entry, whose number is the one at which it is drawn
abbrev pub tx_of : FileEntry → Tx
tx_of e = tx_by 0 e.session e.placed (written_by e) (freed_by e)

-- the volume that its requests make of this one
abbrev pub volume_after : Geometry → Volume → FileEntry → Volume
volume_after g v e = after_group g e.session v e.requests

-- all that it would write stands as logged
pub record IsAllLogged (e : FileEntry) : Type 0 where
  pub logged : e.placed.logged ≡ map (λ w. w.block) (written_by e)
  pub direct : e.placed.direct ≡ []
  pub revoked : e.placed.revoked ≡ []

-- ---- what it does

-- The group ran on the volume of the map: it was answered as its requests are there, and it writes and
-- frees just what they change.
pub record Ran (g : Geometry) (m : Map) (e : FileEntry) : Type 0 where
  pub volume : Volume
  pub laid : IsLaid g m volume
  pub queue : e.session < queues_of g
  pub answered : e.replies ≡ replies g e.session volume e.requests
  pub moves : Moves g volume (volume_after g volume e) (written_by e) (freed_by e)

-- It ran and changed something. Its transaction makes just this change, and the map on which the next
-- volume lies.
pub record Does (g : Geometry) (m : Map) (e : FileEntry) : Type 0 where
  pub ran : Ran g m e
  pub changes : Changes (written_by e) (freed_by e)
  pub change : IsChangeOf (change_of (tx_of e)) (written_by e) (freed_by e)
  pub next : IsLaid g (after m (change_of (tx_of e))) (volume_after g ran.volume e)

-- It ran and isn't drawn: it changes nothing, or too much for one transaction.
pub record RanUndrawn (g : Geometry) (m : Map) (e : FileEntry) : Type 0 where
  pub ran : Ran g m e
  pub undrawn : IsUndrawn g (written_by e) (freed_by e)
  pub placed : IsAllLogged e
