-- In which region a home block is.
use Rattle.std.proofs.Common.{◌≡◌, ℕ, ◌+◌, ◌-◌, ◌/◌, ◌<◌, ◌≤◌, refl, ap, arith}
use Rattle.std.proofs.lemmas.Bool.{eq-eqb, ne_eqb, lt-ltb, le-ltb}
use Rattle.mq_blocks.specs.Geometry.{homes_of, meta_of, queues_of}
use Rattle.mq_blocks.specs.declared.geometry.Geometry.{Geometry}
use Rattle.mq_layout.specs.Places.{inode_bitmap, inodes_of, table_first}
use Rattle.mq_tree.specs.Laid.{ZoneMarks, InodeMarks, Table, Zone, Outside, region}

pub region-marks : (g : Geometry) (b : ℕ) → 1 ≤ b → b ≤ queues_of g → region g b ≡ ZoneMarks (b - 1)
region-marks g b some few =
    let a = ne_eqb b 0 (λ e. omega arith) in
    let c = lt-ltb b (inode_bitmap g) (omega arith) in
    rw (a, c) refl

pub region-inode_marks : (g : Geometry) → region g (inode_bitmap g) ≡ InodeMarks
region-inode_marks g =
    let a = ne_eqb (inode_bitmap g) 0 (λ e. omega arith) in
    let b = le-ltb (inode_bitmap g) (inode_bitmap g) (omega arith) in
    let c = eq-eqb (inode_bitmap g) (inode_bitmap g) refl in
    rw (a, b, c) refl

pub region-table : (g : Geometry) (block : ℕ) → table_first g + block < meta_of g → region g (table_first g + block) ≡ Table block
region-table g block low =
    let a = ne_eqb (table_first g + block) 0 (λ e. omega arith) in
    let b = le-ltb (table_first g + block) (inode_bitmap g) (omega arith) in
    let c = ne_eqb (table_first g + block) (inode_bitmap g) (λ e. omega arith) in
    let d = lt-ltb (table_first g + block) (meta_of g) low in
    let e : table_first g + block - table_first g ≡ block = omega arith in
    rw (a, b, c, d) (ap (λ (n : ℕ). Table n) e)

pub region-zone : (g : Geometry) (b : ℕ) → meta_of g ≤ b → b < homes_of g → region g b ≡ Zone
region-zone g b above below =
    let m = g.meta_low in
    let a = ne_eqb b 0 (λ e. omega arith) in
    let c = le-ltb b (inode_bitmap g) (omega arith) in
    let d = ne_eqb b (inode_bitmap g) (λ e. omega arith) in
    let e = le-ltb b (meta_of g) above in
    let f = lt-ltb b (homes_of g) below in
    rw (a, c, d, e, f) refl

pub region-outside : (g : Geometry) (b : ℕ) → homes_of g ≤ b → region g b ≡ Outside
region-outside g b past =
    let m = g.meta_low in
    let a = ne_eqb b 0 (λ e. omega arith) in
    let c = le-ltb b (inode_bitmap g) (omega arith) in
    let d = ne_eqb b (inode_bitmap g) (λ e. omega arith) in
    let e = le-ltb b (meta_of g) (omega arith) in
    let f = le-ltb b (homes_of g) past in
    rw (a, c, d, e, f) refl

-- the block of an inode is one of the table
pub table-holds : (g : Geometry) (i : ℕ) → i < inodes_of g → table_first g + i / 32 < meta_of g
table-holds g i low = omega arith
