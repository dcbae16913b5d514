-- Which command fails.
use Rattle.std.specs.Prelude.{ℕ, ◌+◌, Bool, false, Option, Some, None, nat_eq, nat_le, ◌&&◌}

-- the command that is named, counted from 1, is among the first n
abbrev pub fails_by : Option ℕ → ℕ → Bool
fails_by None n = false
fails_by (Some k) n = nat_le 1 k && nat_le k n

-- the command after the first n is the one that is named
abbrev pub fails_next : Option ℕ → ℕ → Bool
fails_next None n = false
fails_next (Some k) n = nat_eq k (n + 1)
