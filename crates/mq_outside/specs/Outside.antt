-- Files and sinks: what they hold, and which answers their counts allow.
use Rattle.std.specs.Prelude.{ℕ, ◌≡◌, ◌<◌, ◌≤◌, ◌+◌, ◌⊎◌, Bool, false, cond, List, [], ◌∷◌, ◌++◌, length, take, Option, Some, None, Result, Ok, Err, min, find}
use Rattle.std.specs.Option.{option_map, unwrap_or}
use Rattle.std.specs.Str.{bytes_eq}
use Rattle.std.specs.String.{string_bytes}
use Rattle.std.specs.declared.string.String.{String}
use Rattle.std.specs.declared.vec.Vec.{Vec}
use Rattle.mq_outside.specs.declared.traits.LoadRefusal.{LoadRefusal}
use Rattle.mq_outside.specs.declared.traits.LoadRefusal.TheVariants as load
use Rattle.mq_outside.specs.declared.traits.SaveRefusal.{SaveRefusal}
use Rattle.mq_outside.specs.declared.traits.SaveRefusal.TheVariants as save
use Rattle.mq_outside.specs.declared.traits.PutRefusal.{PutRefusal}
use Rattle.mq_outside.specs.declared.traits.PutRefusal.TheVariants as put

-- the greatest number that a count reaches, where it stands still
abbrev pub count_end : ℕ
count_end = 18446744073709551615

-- the most bytes that one load gives
abbrev pub load_limit : ℕ
load_limit = 2147483648

-- the count rose, or stands at its end
abbrev pub Rose : ℕ → ℕ → Type 0
Rose old new = (old < new) ⊎ ((old ≡ count_end) × (new ≡ count_end))

-- what each name holds: None where it is absent
abbrev pub Held : Type 0
Held = List ℕ → Option (List ℕ)

-- What files show: what each name holds, where they show it, how many of their calls failed, how many bytes
-- their loads took, and the names of which a load was tried, one after another, where they show that.
pub record FilesState : Type 0 where
  pub contents : Option Held
  pub faults : ℕ
  pub taken : ℕ
  pub tried : Option (List (List ℕ))

-- what a sink shows: the bytes written so far, where it shows them, and how many of its calls failed
pub record SinkState : Type 0 where
  pub contents : Option (List ℕ)
  pub faults : ℕ

-- where the files show what they hold, the name holds the bytes
abbrev pub Holds : Option Held → List ℕ → List ℕ → Type 0
Holds None name bytes = Unit {0}
Holds (Some held) name bytes = held name ≡ Some bytes

-- where the files show what they hold, the name holds more bytes than one load gives
abbrev pub HoldsOver : Option Held → List ℕ → Type 0
HoldsOver None name = Unit {0}
HoldsOver (Some held) name = (bytes : List ℕ) × (held name ≡ Some bytes) × (load_limit < length bytes)

-- the files show what they hold, and that this is what the name holds
abbrev pub Tells : Option Held → List ℕ → Option (List ℕ) → Type 0
Tells None name held = ⊥
Tells (Some holds) name held = holds name ≡ held

-- a name holds the bytes, and the others what they held
abbrev pub put_held : Held → List ℕ → List ℕ → Held
put_held held name bytes = λ other. cond (bytes_eq other name) (Some bytes) (held other)

-- the same of what files show
abbrev pub put_name : Option Held → List ℕ → List ℕ → Option Held
put_name None name bytes = None
put_name (Some held) name bytes = Some (put_held held name bytes)

-- what all other names hold is as before
abbrev pub OthersSame : Option Held → Option Held → List ℕ → Type 0
OthersSame None None name = Unit {0}
OthersSame None (Some new) name = ⊥
OthersSame (Some old) None name = ⊥
OthersSame (Some old) (Some new) name =
    (other : List ℕ) → bytes_eq other name ≡ false → new other ≡ old other

-- a load fails only where the faults rose, and they rise only where it fails
abbrev pub LoadCause : {T : Type 0} → Result T LoadRefusal → ℕ → ℕ → Type 0
LoadCause (Ok _) old new = new ≡ old
LoadCause (Err load.Failed) old new = Rose old new
LoadCause (Err load.TooLong) old new = new ≡ old
LoadCause (Err load.OutOfMemory) old new = new ≡ old

-- the bytes taken by loads never fall, rise by at most the limit at Ok, and by more where a load was too
-- long
abbrev pub LoadTakes : {T : Type 0} → Result T LoadRefusal → ℕ → ℕ → Type 0
LoadTakes (Ok _) old new = (old ≤ new) × (new ≤ old + load_limit)
LoadTakes (Err load.Failed) old new = old ≤ new
LoadTakes (Err load.TooLong) old new = (old ≤ new) × ((old + load_limit < new) ⊎ (new ≡ count_end))
LoadTakes (Err load.OutOfMemory) old new = old ≤ new

-- the names of which a load was tried, and this one after them
abbrev pub tried_too : Option (List (List ℕ)) → List ℕ → Option (List (List ℕ))
tried_too None name = None
tried_too (Some names) name = Some (names ++ name ∷ [])

-- a load of this name alone was tried, or memory ran out before that
abbrev pub TriesAtMost : List ℕ → Option (List (List ℕ)) → Option (List (List ℕ)) → Type 0
TriesAtMost name old new = (new ≡ tried_too old name) ⊎ (new ≡ old)

-- a load of this name alone was tried; where memory ran out, maybe none was
abbrev pub LoadTries : {T : Type 0} → Result T LoadRefusal → List ℕ → Option (List (List ℕ))
    → Option (List (List ℕ)) → Type 0
LoadTries (Ok _) name old new = new ≡ tried_too old name
LoadTries (Err load.Failed) name old new = new ≡ tried_too old name
LoadTries (Err load.TooLong) name old new = new ≡ tried_too old name
LoadTries (Err load.OutOfMemory) name old new = TriesAtMost name old new

-- where a load was too long, the name holds more bytes than one load gives
abbrev pub LoadRefused : LoadRefusal → Option Held → List ℕ → Type 0
LoadRefused load.Failed contents name = Unit {0}
LoadRefused load.TooLong contents name = HoldsOver contents name
LoadRefused load.OutOfMemory contents name = Unit {0}

-- a save fails only where the faults rose, and they rise only where it fails
abbrev pub SaveCause : {T : Type 0} → Result T SaveRefusal → ℕ → ℕ → Type 0
SaveCause (Ok _) old new = new ≡ old
SaveCause (Err save.Failed) old new = Rose old new
SaveCause (Err save.OutOfMemory) old new = new ≡ old

-- a save puts the bytes, or fails and says nothing of this name alone, or leaves all as it was
abbrev pub Saves : {T : Type 0} → Result T SaveRefusal → Option Held → Option Held → List ℕ → List ℕ
    → Type 0
Saves (Ok _) old new name bytes = new ≡ put_name old name bytes
Saves (Err save.Failed) old new name bytes = OthersSame old new name
Saves (Err save.OutOfMemory) old new name bytes = new ≡ old

-- what a sink holds after these bytes too, where it shows that
abbrev pub appended : Option (List ℕ) → List ℕ → Option (List ℕ)
appended None bytes = None
appended (Some written) bytes = Some (written ++ bytes)

-- a put fails only where the faults rose, and they rise only where it fails
abbrev pub PutCause : {T : Type 0} → Result T PutRefusal → ℕ → ℕ → Type 0
PutCause (Ok _) old new = new ≡ old
PutCause (Err put.Failed) old new = Rose old new
PutCause (Err put.OutOfMemory) old new = new ≡ old

-- a prefix of the bytes was appended
abbrev pub AppendsPrefix : Option (List ℕ) → Option (List ℕ) → List ℕ → Type 0
AppendsPrefix old new bytes = (n : ℕ) × (n ≤ length bytes) × (new ≡ appended old (take n bytes))

-- how many bytes of a piece a sink in memory takes
abbrev pub piece_of : List ℕ → ℕ
piece_of bytes = min (length bytes) 64

-- whether an entry of a list of names has this name
abbrev pub is_named : {Y : Type 0} → List ℕ → String Y × Vec ℕ Y → Bool
is_named name entry = bytes_eq (string_bytes entry.0) name

-- what a list of names and bytes holds: the bytes of the first entry with the name
abbrev pub held_in : {Y : Type 0} → List (String Y × Vec ℕ Y) → Held
held_in entries name = option_map (λ entry. entry.1.items) (find (is_named name) entries)

-- bytes are refused as too long only where they are more than one load gives, and for no fault
abbrev pub CopyRefused : LoadRefusal → List ℕ → Type 0
CopyRefused load.Failed bytes = ⊥
CopyRefused load.TooLong bytes = load_limit < length bytes
CopyRefused load.OutOfMemory bytes = length bytes ≤ load_limit

-- what a list of names and bytes holds where an absent name holds no bytes
abbrev pub certain_in : {Y : Type 0} → List (String Y × Vec ℕ Y) → Held
certain_in entries name = Some (unwrap_or (held_in entries name) [])
