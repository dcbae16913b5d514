-- Inodes without blocks.
use Rattle.std.specs.Prelude.{ℕ, Bool, true, false, [], slice_set, None}
use Rattle.mq_tree.specs.Volume.{Body, File, Dir, Volume}

abbrev pub empty_body : (is_directory : Bool) → Body
empty_body true = Dir []
empty_body false = File []

-- the volume with an inode more
abbrev pub with_inode : Volume → ℕ → Body → Volume
with_inode v i new = slice_set v i (record { body = new; blocks = []; indirect = None; links = 1 })
