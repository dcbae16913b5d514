-- Whole scripts: the one that a text is read as, or its first line that is refused.
use Rattle.std.specs.Prelude.{ℕ, ◌+◌, nat_lt, if◌then◌else◌, Result, Ok, Err, List, [], ◌∷◌, ◌++◌, length, map}
use Rattle.mq_block_text.specs.Words.{lines_of}
use Rattle.mq_tree.specs.declared.request.Request.{Request}
use Rattle.mq_script.specs.Answers.{made, Refused}
use Rattle.mq_script.specs.Lines.{Answer, line_in}
use Rattle.mq_script.specs.Scripts.{Group, Script}
use Rattle.mq_script.specs.declared.line.Line.{Line}
use Rattle.mq_script.specs.declared.line.Line.TheVariants.{Asks, Ends}
use Rattle.mq_script.specs.declared.refusal.ScriptCause.TheVariants.{Size, Open}

-- after the last line, which has this number, no requests wait for the end of their group
abbrev pub ended_at : ℕ → List Request → Result (List Group) Refused
ended_at line [] = Ok []
ended_at line (r ∷ requests) = Err (record { line = line; cause = Open })

-- The groups of these lines, which follow `before` others; the last of those ask for these requests
-- in a group that has not ended yet.
abbrev pub groups_in : ℕ → List Request → List (Answer Line) → Result (List Group) Refused
groups_in before requests [] = ended_at before requests
groups_in before requests (Err cause ∷ lines) = Err (record { line = before + 1; cause = cause })
groups_in before requests (Ok (Asks r) ∷ lines) = groups_in (before + 1) (requests ++ r ∷ []) lines
groups_in before requests (Ok (Ends end) ∷ lines) =
    made (λ groups. record { requests = requests; end = end } ∷ groups)
    (groups_in (before + 1) [] lines)

-- a script has no more than 16 MiB
abbrev pub script_in : List ℕ → Result Script Refused
script_in bytes =
    if nat_lt 16777216 (length bytes) then Err (record { line = 0; cause = Size })
    else made (λ groups. record { groups = groups }) (groups_in 0 [] (map line_in (lines_of bytes)))
