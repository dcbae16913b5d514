-- What is read of a line, or that it is not in its form.
use Rattle.std.specs.Prelude.{◌≡◌, ℕ, Option, Some, None, Result, Ok, Err}
use Rattle.mq_audit.specs.declared.refusal.Misread.{Misread}
use Rattle.mq_audit.specs.declared.refusal.Misread.TheVariants.{Form, OutOfMemory as NoMemory}
use Rattle.mq_audit.specs.declared.refusal.TraceRefusal.{TraceRefusal}
use Rattle.mq_audit.specs.declared.refusal.TraceRefusal.TheVariants.{Line, OutOfMemory}

-- the second is read with what the first gives
abbrev pub and_then : {A B : Type 0} → Option A → (A → Option B) → Option B
and_then None f = None
and_then (Some x) f = f x

-- What is read is this, and what is not in its form is none. Out of memory says nothing of the line.
abbrev pub Reads : {A : Type 0} → Option A → Result A Misread → Type 0
Reads answer (Ok x) = answer ≡ Some x
Reads answer (Err Form) = answer ≡ None
Reads answer (Err NoMemory) = Unit {0}

-- the refusal of a line of this number
abbrev pub refusal_at : ℕ → Misread → TraceRefusal
refusal_at line Form = Line line
refusal_at line NoMemory = OutOfMemory
