-- Pages that show what they have to.
use Rattle.std.proofs.Common.{get_or, ◌≡◌, ◌∙◌, ℕ, zero, suc, ◌+◌, ◌-◌, ◌*◌, ◌/◌, ◌%◌, ◌^◌, ◌<◌, ◌≤◌, inl, inr, Bool, true, false, List, [], ◌∷◌, ◌++◌, length, refl, ap, lit≤, arith}
use Rattle.std.specs.Prelude.{if◌then◌else◌, slice_index, nat_lt, nat_eq, not, ◌&&◌}
use Rattle.std.proofs.Math.Nat.{mul_comm}
use Rattle.std.proofs.lemmas.Bool.{and_parts, cases_lt, ltb-true}
use Rattle.std.proofs.lemmas.Nat.{div-mul-add, mod-mul-add}
use Rattle.std.specs.Int.{bytes_low_first, to_le_bytes, w32}
use Rattle.std.specs.List.{list_all}
use Rattle.mq_blocks.specs.Descriptor.{list_bytes}
use Rattle.mq_blocks.specs.Windows.{Shows}
use Rattle.mq_blocks.specs.declared.geometry.Geometry.{Geometry}
use Rattle.mq_blocks.proofs.Windows.{shows-all}
use Rattle.mq_layout.specs.Fields.{zero_bytes}
use Rattle.mq_layout.specs.Inodes.{IsInode, inode_bytes}
use Rattle.mq_layout.specs.Names.{is_letter}
use Rattle.mq_layout.specs.Slots.{Entry, IsEntry, slot_bytes}
use Rattle.mq_layout.specs.Superblock.{magic, super_bytes, super_header, super_numbers}
use Rattle.mq_layout.specs.declared.inode.Inode.{Inode}
use Rattle.mq_layout.proofs.FieldsZeros.{zero_bytes-at}
use Rattle.mq_tree.specs.Decoded.{table_of}
use Rattle.mq_tree.specs.Laid.{IsPage, ShowsMarks}
use Rattle.mq_tree.proofs.Decoded.{length-table, table-at, table-past}

-- a page by its bytes
pub page-by : (f : ℕ → ℕ) → ((k : ℕ) → f k < 256) → IsPage (table_of 4096 f)
page-by f low = record { whole = length-table 4096 f; bytes = λ k. byte k }
  where
    byte : (k : ℕ) → slice_index (table_of 4096 f) k < 256
    byte k = elim (cases_lt k 4096) [
      | inl l ↦ let e = table-at 4096 f k 0 l in let h = low k in omega (arith, e, h)
      | inr l ↦ let e = table-past 4096 f k 0 l in omega (arith, e)
    ]

-- ---- tiles: parts of one size, one after another

abbrev pub tiles : (size : ℕ) → (ℕ → List ℕ) → List ℕ
tiles size part = table_of 4096 (λ j. get_or (part (j / size)) (j % size) 0)

div-tile : (size k j : ℕ) → j < size → (size * k + j) / size ≡ k
div-tile size k j l = ap (λ (n : ℕ). (n + j) / size) (mul_comm size k) ∙ div-mul-add k size j l

mod-tile : (size k j : ℕ) → j < size → (size * k + j) % size ≡ j
mod-tile size k j l = ap (λ (n : ℕ). (n + j) % size) (mul_comm size k) ∙ mod-mul-add k size j l

pub tile-at : (size k j : ℕ) (part : ℕ → List ℕ) → j < size → size * k + j < 4096 → get_or (tiles size part) (size * k + j) 0 ≡ get_or (part k) j 0
tile-at size k j part low inside =
    table-at 4096 (λ i. get_or (part (i / size)) (i % size) 0) (size * k + j) 0 inside
    ∙ ap (λ (i : ℕ). get_or (part i) ((size * k + j) % size) 0) (div-tile size k j low)
    ∙ ap (λ (i : ℕ). get_or (part k) i 0) (mod-tile size k j low)

pub tile-shows : (size k : ℕ) (part : ℕ → List ℕ) → length (part k) ≤ size → size * k + length (part k) ≤ 4096 → Shows (tiles size part) (size * k) (part k)
tile-shows size k part few inside =
    shows-all (tiles size part) (size * k) (part k) (let e = length-table 4096 (λ j. get_or (part (j / size)) (j % size) 0) in omega arith) (λ j l. tile-at size k j part (omega arith) (omega arith))

-- ---- bits

abbrev pub bit : Bool → ℕ
bit b = if b then 1 else 0

bit-low : (b : Bool) → bit b < 2
bit-low true = omega arith
bit-low false = omega arith

abbrev pub byte_by : (ℕ → Bool) → ℕ
byte_by f = bit (f 0) + (2 * bit (f 1) + (4 * bit (f 2) + (8 * bit (f 3) + (16 * bit (f 4) + (32 * bit (f 5) + (64 * bit (f 6) + 128 * bit (f 7)))))))

byte-low : (f : ℕ → Bool) → byte_by f < 256
byte-low f =
    let a = bit-low (f 0) in
    let b = bit-low (f 1) in
    let c = bit-low (f 2) in
    let d = bit-low (f 3) in
    let e = bit-low (f 4) in
    let h = bit-low (f 5) in
    let i = bit-low (f 6) in
    let j = bit-low (f 7) in
    omega (arith, a, b, c, d, e, h, i, j)

sum-bit : (a b c d e h i j k : ℕ) → a < 2 → b < 2 → c < 2 → d < 2 → e < 2 → h < 2 → i < 2 → j < 2 → k < 8 → (a + (2 * b + (4 * c + (8 * d + (16 * e + (32 * h + (64 * i + 128 * j))))))) / 2 ^ k % 2 ≡ get_or (a ∷ b ∷ c ∷ d ∷ e ∷ h ∷ i ∷ j ∷ []) k 0
sum-bit a b c d e h i j zero la lb lc ld le lh li lj low = omega arith
sum-bit a b c d e h i j (suc zero) la lb lc ld le lh li lj low = omega arith
sum-bit a b c d e h i j (suc (suc zero)) la lb lc ld le lh li lj low = omega arith
sum-bit a b c d e h i j (suc (suc (suc zero))) la lb lc ld le lh li lj low = omega arith
sum-bit a b c d e h i j (suc (suc (suc (suc zero)))) la lb lc ld le lh li lj low = omega arith
sum-bit a b c d e h i j (suc (suc (suc (suc (suc zero))))) la lb lc ld le lh li lj low = omega arith
sum-bit a b c d e h i j (suc (suc (suc (suc (suc (suc zero)))))) la lb lc ld le lh li lj low = omega arith
sum-bit a b c d e h i j (suc (suc (suc (suc (suc (suc (suc zero))))))) la lb lc ld le lh li lj low = omega arith
sum-bit a b c d e h i j (suc (suc (suc (suc (suc (suc (suc (suc k)))))))) la lb lc ld le lh li lj low = absurd (omega arith)

bits-at : (f : ℕ → Bool) (k : ℕ) → k < 8 → get_or (bit (f 0) ∷ bit (f 1) ∷ bit (f 2) ∷ bit (f 3) ∷ bit (f 4) ∷ bit (f 5) ∷ bit (f 6) ∷ bit (f 7) ∷ []) k 0 ≡ bit (f k)
bits-at f zero low = refl
bits-at f (suc zero) low = refl
bits-at f (suc (suc zero)) low = refl
bits-at f (suc (suc (suc zero))) low = refl
bits-at f (suc (suc (suc (suc zero)))) low = refl
bits-at f (suc (suc (suc (suc (suc zero))))) low = refl
bits-at f (suc (suc (suc (suc (suc (suc zero)))))) low = refl
bits-at f (suc (suc (suc (suc (suc (suc (suc zero))))))) low = refl
bits-at f (suc (suc (suc (suc (suc (suc (suc (suc k)))))))) low = absurd (omega arith)

-- a byte has the bits of which it is made
byte-bit : (f : ℕ → Bool) (k : ℕ) → k < 8 → byte_by f / 2 ^ k % 2 ≡ bit (f k)
byte-bit f k low = sum-bit _ _ _ _ _ _ _ _ k (bit-low (f 0)) (bit-low (f 1)) (bit-low (f 2)) (bit-low (f 3)) (bit-low (f 4)) (bit-low (f 5)) (bit-low (f 6)) (bit-low (f 7)) low ∙ bits-at f k low

abbrev marks_byte : (ℕ → Bool) → ℕ → ℕ
marks_byte marked j = byte_by (λ i. marked (8 * j + i))

byte-place : (k : ℕ) → 8 * (k / 8) + k % 8 ≡ k
byte-place k = omega arith

bit-place : (k : ℕ) → k % 8 < 8
bit-place k = omega arith

byte-few : (k : ℕ) → k < 32768 → k / 8 < 4096
byte-few k low = omega arith

marks-shown : (marked : ℕ → Bool) → ShowsMarks (table_of 4096 (marks_byte marked)) marked
marks-shown marked k low =
    ap (λ (x : ℕ). x / 2 ^ (k % 8) % 2) (table-at 4096 (marks_byte marked) (k / 8) 0 (byte-few k low))
    ∙ byte-bit (λ i. marked (8 * (k / 8) + i)) (k % 8) (bit-place k)
    ∙ ap (λ (x : ℕ). bit (marked x)) (byte-place k)

-- a bitmap of what is marked
pub marks-page : (marked : ℕ → Bool) → (page : List ℕ) × IsPage page × ShowsMarks page marked
marks-page marked = (table_of 4096 (marks_byte marked), page-by (marks_byte marked) (λ j. byte-low (λ i. marked (8 * j + i))), marks-shown marked)

-- ---- bytes

pub record Bytes (xs : List ℕ) : Type 0 where
  pub each : (k : ℕ) → get_or xs k 0 < 256

bytes-none : Bytes []
bytes-none = record { each = λ k. omega arith }

bytes-more : {x : ℕ} {xs : List ℕ} → x < 256 → Bytes xs → Bytes (x ∷ xs)
bytes-more {x = x} {xs = xs} low h = record { each = at }
  where
    at : (k : ℕ) → get_or (x ∷ xs) k 0 < 256
    at zero = low
    at (suc k) = h.each k

rest-bytes : {x : ℕ} {xs : List ℕ} → Bytes (x ∷ xs) → Bytes xs
rest-bytes h = record { each = λ k. h.each (suc k) }

append-at : (xs ys : List ℕ) → Bytes xs → Bytes ys → Bytes (xs ++ ys)
append-at [] ys h t = t
append-at (x ∷ xs) ys h t = bytes-more (h.each 0) (append-at xs ys (rest-bytes h) t)

bytes-append : {xs ys : List ℕ} → Bytes xs → Bytes ys → Bytes (xs ++ ys)
bytes-append {xs = xs} {ys = ys} h t = append-at xs ys h t

byte-small : (n : ℕ) → n % 256 < 256
byte-small n = omega arith

bytes-low : (i k n : ℕ) → Bytes (bytes_low_first i k n)
bytes-low i zero n = bytes-none
bytes-low zero (suc k) n = bytes-more (byte-small n) (bytes-low 1 k n)
bytes-low (suc i) (suc k) n = bytes-more (byte-small (n / 256 ^ suc i)) (bytes-low (suc (suc i)) k n)

bytes-list : (xs : List ℕ) → Bytes (list_bytes xs)
bytes-list [] = bytes-none
bytes-list (x ∷ xs) = bytes-append (bytes-low 0 4 x) (bytes-list xs)

pub bytes-zeros : (n : ℕ) → Bytes (zero_bytes n)
bytes-zeros n = record { each = λ k. let e = zero_bytes-at n k in omega (arith, e) }

pub bytes-pointer : (x : ℕ) → Bytes (to_le_bytes w32 x)
bytes-pointer x = bytes-low 0 4 x

pub bytes-inode : (i : Inode) → IsInode i → Bytes (inode_bytes i)
unfolding inode_bytes
bytes-inode i h =
    let kind = h.kind in
    let first : Bytes (i.kind ∷ 0 ∷ []) = bytes-more (omega arith) (bytes-more (omega arith) bytes-none) in
    bytes-append (bytes-append (bytes-append (bytes-append (bytes-append (bytes-append first (bytes-low 0 2 i.links)) (bytes-zeros 4)) (bytes-low 0 8 i.size)) (bytes-list i.direct)) (bytes-low 0 4 i.indirect)) (bytes-zeros 60)

letter-small : (x : ℕ) → is_letter x ≡ true → x < 256
letter-small x h =
    let p = and_parts (nat_lt 32 x && nat_lt x 127) (not (nat_eq x 47)) h in
    let q = and_parts (nat_lt 32 x) (nat_lt x 127) p.0 in
    let l = ltb-true x 127 q.1 in
    omega arith

bytes-letters : (name : List ℕ) → list_all is_letter name ≡ true → Bytes name
bytes-letters [] h = bytes-none
bytes-letters (x ∷ xs) h =
    let p = and_parts (is_letter x) (list_all is_letter xs) h in
    bytes-more (letter-small x p.0) (bytes-letters xs p.1)

pub bytes-slot : (e : Entry) → IsEntry e → Bytes (slot_bytes e)
unfolding slot_bytes
bytes-slot e h =
    let few = h.name.few in
    let used : Bytes (1 ∷ length e.name ∷ []) = bytes-more (omega arith) (bytes-more (omega arith) bytes-none) in
    bytes-append (bytes-append (bytes-append (bytes-append (bytes-low 0 4 e.inode) used) (bytes-zeros 10)) (bytes-letters e.name h.name.letters)) (bytes-zeros (256 - length e.name))

magic-bytes : Bytes magic
magic-bytes = bytes-more (lit≤ tt) (bytes-more (lit≤ tt) (bytes-more (lit≤ tt) (bytes-more (lit≤ tt) (bytes-more (lit≤ tt) (bytes-more (lit≤ tt) (bytes-more (lit≤ tt) (bytes-more (lit≤ tt) bytes-none)))))))

pub bytes-super : (g : Geometry) → Bytes (super_bytes g)
unfolding super_bytes super_header
bytes-super g = bytes-append (bytes-append magic-bytes (bytes-list (super_numbers g))) (bytes-zeros 4064)

-- tiles of bytes are a page
pub tiles-page : (size : ℕ) (part : ℕ → List ℕ) → ((k : ℕ) → Bytes (part k)) → IsPage (tiles size part)
tiles-page size part h = page-by (λ j. get_or (part (j / size)) (j % size) 0) (λ j. (h (j / size)).each (j % size))
