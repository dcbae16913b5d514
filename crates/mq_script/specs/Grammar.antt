-- The scripts that a text can spell.
use Rattle.std.specs.Prelude.{◌≡◌, ◌≢◌, ◌<◌, ◌^◌, ℕ, Bool, true, ◌&&◌, ◌==◌, not, nat_le, List, [], ◌∷◌}
use Rattle.std.specs.List.{AllByRecursion, list_all}
use Rattle.mq_tree.specs.declared.request.Request.{Request}
use Rattle.mq_tree.specs.declared.request.Request.TheVariants.{Mkdir, Create, Write, Truncate, Unlink, Rmdir, Rename, Link, Read, List as ListOf, Stat}
use Rattle.mq_script.specs.Scripts.{Group, Script}

-- a byte of a name: a visible character of ASCII, and no slash
abbrev pub is_letter : ℕ → Bool
is_letter b = nat_le 33 b && nat_le b 126 && not (b == 47)

-- Names of such bytes, which may be empty. One empty name alone is spelled as the root is.
pub record IsPath (names : List (List ℕ)) : Type 0 where
  pub letters : AllByRecursion (λ name. list_all is_letter name ≡ true) names
  pub not_root : names ≢ [] ∷ []

abbrev pub IsNumber : ℕ → Type 0
IsNumber n = n < 2 ^ 64

abbrev pub AreBytes : List ℕ → Type 0
AreBytes bytes = AllByRecursion (λ b. b < 256) bytes

abbrev pub IsRequest : Request → Type 0
IsRequest (Mkdir p) = IsPath p
IsRequest (Create p) = IsPath p
IsRequest (Write p offset bytes) = IsPath p × IsNumber offset × AreBytes bytes
IsRequest (Truncate p size) = IsPath p × IsNumber size
IsRequest (Unlink p) = IsPath p
IsRequest (Rmdir p) = IsPath p
IsRequest (Rename p q) = IsPath p × IsPath q
IsRequest (Link p q) = IsPath p × IsPath q
IsRequest (Read p offset count) = IsPath p × IsNumber offset × IsNumber count
IsRequest (ListOf p) = IsPath p
IsRequest (Stat p) = IsPath p

abbrev pub IsGroup : Group → Type 0
IsGroup g = AllByRecursion IsRequest g.requests

abbrev pub IsScript : Script → Type 0
IsScript script = AllByRecursion IsGroup script.groups
