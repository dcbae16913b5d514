-- The names of files and directories.
use Rattle.std.specs.Prelude.{◌≡◌, ◌≢◌, ◌≤◌, ℕ, Bool, true, not, ◌&&◌, List, [], ◌∷◌, length, nat_lt, nat_le, nat_eq}
use Rattle.std.specs.List.{list_all}
use Rattle.std.specs.Str.{bytes_eq}

-- a byte of a name: from 21h to 7Eh, and not "/"
abbrev pub is_letter : ℕ → Bool
is_letter byte = nat_lt 32 byte && nat_lt byte 127 && not (nat_eq byte 47)

-- A good name has 1 to 255 such bytes, and is not "." or "..".
pub record IsName (name : List ℕ) : Type 0 where
  pub some : 1 ≤ length name
  pub few : length name ≤ 255
  pub letters : list_all is_letter name ≡ true
  pub not_dot : name ≢ 46 ∷ []
  pub not_dots : name ≢ 46 ∷ 46 ∷ []

-- the same as a test
unfoldable pub is_name : List ℕ → Bool
is_name name =
    nat_le 1 (length name) && nat_le (length name) 255 && list_all is_letter name && not
    (bytes_eq name (46 ∷ [])) && not (bytes_eq name (46 ∷ 46 ∷ []))
