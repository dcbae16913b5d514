use Rattle.std.proofs.Common.{◌≡◌, ℕ, ◌<◌, Some}
use Rattle.std.specs.Prelude.{slice_get}
use Rattle.mq_run.specs.Playing.{IsShort}
use Rattle.mq_script.specs.Scripts.{Script}
use Rattle.mq_run_laws.proofs.counting.are_countable.Given as goal

-- the scripts before are short
abbrev pub invariant-loop-script : goal.invariant-loop-script
invariant-loop-script l = (i : ℕ) (d : Script) → i < l.script-index → slice_get l.scripts i ≡ Some d → IsShort d.groups
