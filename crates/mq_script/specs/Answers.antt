-- What is read, or why it is not read.
use Rattle.std.specs.Prelude.{◌≡◌, ℕ, Result, Ok, Err}
use Rattle.mq_script.specs.declared.refusal.LineRefusal.{LineRefusal}
use Rattle.mq_script.specs.declared.refusal.LineRefusal.TheVariants.{Cause, OutOfMemory}
use Rattle.mq_script.specs.declared.refusal.ScriptCause.{ScriptCause}
use Rattle.mq_script.specs.declared.refusal.ScriptRefusal.{ScriptRefusal}
use Rattle.mq_script.specs.declared.refusal.ScriptRefusal.TheVariants.{At, OutOfMemory as NoMemory}

-- the second is read with what the first gives, or the first's cause
abbrev pub and_then : {A B C : Type 0} → Result A C → (A → Result B C) → Result B C
and_then (Ok x) f = f x
and_then (Err c) f = Err c

-- the same thing made of what is read
abbrev pub made : {A B C : Type 0} → (A → B) → Result A C → Result B C
made f (Ok x) = Ok (f x)
made f (Err c) = Err c

-- The answer for a line agrees with this one: a line that is read gives the same value, and one that is
-- refused has the same cause. Out of memory says nothing of the line.
abbrev pub Agrees : {A : Type 0} → Result A ScriptCause → Result A LineRefusal → Type 0
Agrees answer (Ok x) = answer ≡ Ok x
Agrees answer (Err (Cause cause)) = answer ≡ Err cause
Agrees answer (Err OutOfMemory) = Unit {0}

-- where a script is refused, and why
pub record Refused : Type 0 where
  pub line : ℕ
  pub cause : ScriptCause

-- the same of a script
abbrev pub AgreesAt : {A : Type 0} → Result A Refused → Result A ScriptRefusal → Type 0
AgreesAt answer (Ok x) = answer ≡ Ok x
AgreesAt answer (Err (At line cause)) = answer ≡ Err (record { line = line; cause = cause })
AgreesAt answer (Err NoMemory) = Unit {0}

-- a line's refusal is that of its script, at the line
abbrev pub IsAt : ℕ → LineRefusal → ScriptRefusal → Type 0
IsAt line (Cause cause) refusal = refusal ≡ At line cause
IsAt line OutOfMemory refusal = refusal ≡ NoMemory
