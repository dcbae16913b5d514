-- What a replica of some lines holds: their number in the last block, and the blocks of their map.
use Rattle.std.proofs.Common.{◌≡◌, ◌<◌, ◌^◌, ℕ, zero, suc, ◌+◌, ◌*◌, Bool, true, false, cond, List, Option, Some, None, ◌∙◌, ap, arith}
use Rattle.std.specs.Prelude.{nat_eq}
use Rattle.std.proofs.lemmas.Bool.Decides.{nat_tests}
use Rattle.mq_block_text.specs.declared.item.BlockItem.{BlockItem}
use Rattle.mq_block_trace.specs.Lines.{freed_in, line_at, map_after, named, set_in, writes_from}
use Rattle.mq_blocks.specs.Geometry.{homes_of}
use Rattle.mq_blocks.specs.Journal.{is_among, or_else}
use Rattle.mq_blocks.specs.Machine.{after, or_kept, write_of}
use Rattle.mq_blocks.specs.declared.geometry.Geometry.{Geometry}
use Rattle.mq_replica.specs.Contents.{Contents, number_in, number_of, numbered_block, with_writes}
use Rattle.mq_replica.specs.Updates.{last_home}
use Rattle.mq_command_replicate.specs.Updates.{IsReplicaGeometry, contents_after}

abbrev Lines : Type 0
Lines = List (List BlockItem)

pub replica_homes : (g : Geometry) → IsReplicaGeometry g → homes_of g ≡ 257
replica_homes g is =
    let one : g.queues * g.zone ≡ 1 * g.zone = ap (λ (n : ℕ). n * g.zone) is.queues in
    omega (arith, one, is.meta, is.zone)

pub last_is : (g : Geometry) → IsReplicaGeometry g → last_home g ≡ 256
last_is g is = let e = replica_homes g is in omega (arith, e)

-- ---- the number

-- a number in a block is read again
abbrev pub ReadsBack : Type 0
ReadsBack = (n : ℕ) → n < 2 ^ 64 → number_in (numbered_block n) ≡ n

at_last : (b : Bool) (block rest : List ℕ) → b ≡ true → cond b block rest ≡ block
at_last b block rest is = ap (λ (c : Bool). cond c block rest) is

pub number_after : ReadsBack → (g : Geometry) (first : Contents) (lines : Lines) (n : ℕ) → n < 2 ^ 32 → number_of g first ≡ 0 → number_of g (contents_after g first lines n) ≡ n
number_after reads g first lines zero low none = none
number_after reads g first lines (suc n) low none =
    let same : nat_eq (last_home g) (last_home g) ≡ true = grind (arith, nat_tests) in
    ap number_in (at_last (nat_eq (last_home g) (last_home g)) (numbered_block (n + 1)) (with_writes (writes_from (set_in (line_at lines n)) 0 named) (contents_after g first lines n) (last_home g)) same)
    ∙ reads (n + 1) (omega (arith, low)) ∙ (let e : n + 1 ≡ suc n = omega arith in e)

-- ---- the blocks

not_last : (b : Bool) (block rest : List ℕ) → b ≡ false → cond b block rest ≡ rest
not_last b block rest is = ap (λ (c : Bool). cond c block rest) is

kept_held : (among : Bool) (m : Option (List ℕ)) (c : List ℕ) (content : List ℕ) → ((v : List ℕ) → m ≡ Some v → c ≡ v) → (cond among None m) ≡ Some content → c ≡ content
kept_held true m c content held is = absurd (none_some is)
  where
    none_some : ◌≡◌ {A = Option (List ℕ)} None (Some content) → ⊥
    none_some e = cc
kept_held false m c content held is = held content is

write_held : (w : Option (List ℕ)) (among : Bool) (m : Option (List ℕ)) (c content : List ℕ) → ((v : List ℕ) → m ≡ Some v → c ≡ v) → or_kept w (cond among None m) ≡ Some content → or_else w c ≡ content
write_held (Some v) among m c content held is = some_same v content is
  where
    some_same : (a b : List ℕ) → ◌≡◌ {A = Option (List ℕ)} (Some a) (Some b) → a ≡ b
    some_same a b e = cc
write_held None among m c content held is = kept_held among m c content held is

pub map_held : (g : Geometry) (first : Contents) (lines : Lines) (n : ℕ) → IsReplicaGeometry g → (b : ℕ) (content : List ℕ) → b < 256 → map_after lines n b ≡ Some content → contents_after g first lines n b ≡ content
unfolding after
map_held g first lines zero is b content low none = absurd (none_some none)
  where
    none_some : ◌≡◌ {A = Option (List ℕ)} None (Some content) → ⊥
    none_some e = cc
map_held g first lines (suc n) is b content low some =
    let last = last_is g is in
    let other : nat_eq b (last_home g) ≡ false = grind (arith, nat_tests) in
    let ws = writes_from (set_in (line_at lines n)) 0 named in
    not_last (nat_eq b (last_home g)) (numbered_block (n + 1)) (with_writes ws (contents_after g first lines n) b) other
    ∙ write_held (write_of ws b) (is_among b (freed_in (line_at lines n))) (map_after lines n b) (contents_after g first lines n b) content (λ v before. map_held g first lines n is b v low before) some
