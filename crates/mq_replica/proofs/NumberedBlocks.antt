-- The number in a block that says one.
use Rattle.std.proofs.Common.{◌≡◌, ℕ, ◌+◌, ◌<◌, ◌≤◌, ◌^◌, length, arith}
use Rattle.std.specs.Int.{bytes_low_first}
use Rattle.byteorder.specs.Numbers.{length-bytes_low_first}
use Rattle.mq_blocks.specs.Blocks.{zeros}
use Rattle.mq_blocks.proofs.BlocksZeros.{length-zeros}
use Rattle.mq_blocks.proofs.Windows.{number-shown, shows-written}
use Rattle.mq_replica.specs.Contents.{number_in, numbered_block}

pub reads_back : (n : ℕ) → n < 2 ^ 64 → number_in (numbered_block n) ≡ n
unfolding numbered_block
reads_back n small =
    let bytes = bytes_low_first 0 8 n in
    let fits : 0 + length bytes ≤ length zeros = (let l = length-bytes_low_first 0 8 n in let z = length-zeros in omega (arith, l, z)) in
    number-shown _ 0 8 n small (shows-written zeros 0 bytes fits)
