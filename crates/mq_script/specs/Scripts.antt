-- Scripts, as contracts see them.
use Rattle.std.specs.Prelude.{List}
use Rattle.mq_tree.specs.declared.request.Request.{Request}
use Rattle.mq_script.specs.declared.group.End.{End}

-- requests that are executed together, and what is asked of them then
pub record Group : Type 0 where
  pub requests : List Request
  pub end : End

pub record Script : Type 0 where
  pub groups : List Group
