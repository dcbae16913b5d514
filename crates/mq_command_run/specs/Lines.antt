-- The lines of scripts that are not run.
use Rattle.std.specs.Prelude.{ℕ, List, ◌++◌, codes}
use Rattle.std.specs.Fmt.{decimal}
use Rattle.mq_script.specs.declared.refusal.ScriptCause.{ScriptCause}
use Rattle.mq_script.specs.declared.refusal.ScriptCause.TheVariants as script

abbrev pub cause_name : ScriptCause → List ℕ
cause_name script.Size = codes "Size"
cause_name script.Bytes = codes "Bytes"
cause_name script.Verb = codes "Verb"
cause_name script.Arguments = codes "Arguments"
cause_name script.Path = codes "Path"
cause_name script.Number = codes "Number"
cause_name script.Data = codes "Data"
cause_name script.Open = codes "Open"

-- the first line of a script that is refused, and why
abbrev pub script_line : (name : List ℕ) → (line : ℕ) → ScriptCause → List ℕ
script_line name line cause =
    codes "script "
    ++ (name ++ (codes " line " ++ (decimal line ++ (codes ": " ++ (cause_name cause ++ codes "\n")))))

-- more scripts than queues
abbrev pub scripts_line : (count queues : ℕ) → List ℕ
scripts_line count queues =
    codes "scripts " ++ (decimal count ++ (codes " queues " ++ (decimal queues ++ codes "\n")))
