-- What a group of requests does to the map of home blocks, and where its blocks go.
use Rattle.std.specs.Prelude.{ℕ, List}
use Rattle.mq_blocks.specs.Machine.{Map, after}
use Rattle.mq_blocks.specs.declared.geometry.Geometry.{Geometry}
use Rattle.mq_ledger.specs.History.{change_of}
use Rattle.mq_ledger.specs.declared.tx.Tx.{Tx}

-- How the rule reads the entry of a group of requests, which says who asked, what it writes and frees, and
-- what it answered.
pub record GroupView (E : Type 0) : Type 1 where
  -- its session, and its place among the session's groups
  pub session : E → ℕ
  pub call : E → ℕ
  -- its transaction, whose number is the one at which it is drawn
  pub tx : E → Tx
  -- groups run on this map
  pub good : Geometry → Map → Type 0
  -- it ran on this map, with its replies and its transaction; or it would have, and is not drawn
  pub does : Geometry → Map → E → Type 0
  pub asks : Geometry → Map → E → Type 0
  -- Its blocks are placed by the rule. The map is that at the base, and the transactions are those from
  -- there to it.
  pub placed : Geometry → Map → ℕ → List Tx → E → Type 0
  -- the law: groups run on the map that it leaves
  pub keeps : (g : Geometry) (m : Map) (e : E) → does g m e → good g m → good g (after m (change_of (tx e)))
