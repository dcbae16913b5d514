-- The bytes of a file, block by block.
use Rattle.std.proofs.Common.{get_or, ◌≡◌, ◌≢◌, ℕ, zero, suc, ◌+◌, ◌-◌, ◌*◌, ◌/◌, ◌%◌, ◌<◌, ◌≤◌, List, [], ◌∷◌, ◌++◌, length, drop, take, refl, sym, ap, subst, ◌∙◌, arith, append_assoc, drop-cons, inl, inr}
use Rattle.std.specs.Prelude.{Some, None, min, slice_get}
use Rattle.std.specs.List.{All, Contains}
use Rattle.std.proofs.lemmas.Bool.{cases_lt}
use Rattle.std.proofs.lemmas.List.{drop-append-le, get_or_append_left, get_or-append_right, get_or-drop, get_or-take, get_or_default, length-append, length-drop, length-take, same_lists, take-append-le, take_all, append-nil}
use Rattle.std.proofs.Math.Seq.{take-append-add}
use Rattle.std.proofs.lemmas.List.Elements.{All-head, All-tail}
use Rattle.std.proofs.lemmas.Option.{slice_get-get_or}
use Rattle.mq_blocks.specs.declared.geometry.Geometry.{Geometry}
use Rattle.mq_layout.specs.declared.inode.Inode.{Inode}
use Rattle.mq_inodes.specs.Fits.{Agrees}
use Rattle.mq_inodes.specs.Pages.{IsHeld, Pages, content}
use Rattle.mq_inodes.specs.Files.{LooksInFile, bytes_at}
use Rattle.mq_inodes.proofs.FitsShowing.{IsUse, use-shown, use-there}
use Rattle.mq_inodes.proofs.Sound.{sound-count}
use Rattle.mq_tree.specs.Laid.{ShowsPart, inode_of, size_of}
use Rattle.mq_tree.specs.Volume.{Body, File, Node, Volume, Part, body, node}

-- ---- one block more

take-both : (s t : List ℕ) (n : ℕ) → take n (s ++ t) ≡ take n s ++ take (n - length s) t
take-both s t n = elim (cases_lt n (length s)) [
  | inl low ↦
      let z : n - length s ≡ 0 = omega arith in
      take-append-le n s t (omega arith) ∙ sym (append-nil (take n s)) ∙ ap (λ (k : ℕ). take n s ++ take k t) (sym z)
  | inr high ↦
      let e : n ≡ length s + (n - length s) = omega arith in
      ap (λ (k : ℕ). take k (s ++ t)) e ∙ take-append-add s t (n - length s) ∙ ap (λ (xs : List ℕ). xs ++ take (n - length s) t) (sym (take_all n s high))
]

take-same : (s : List ℕ) (n m : ℕ) → min n (length s) ≡ min m (length s) → take n s ≡ take m s
take-same s n m e = same_lists (take n s) (take m s) (length-take n s ∙ e ∙ sym (length-take m s)) (λ k d l.
    let a = length-take n s in
    get_or-take n s k d (omega arith) ∙ sym (get_or-take m s k d (omega arith)))

pub gathered-more : (page rest out new all : List ℕ) (skip left e : ℕ) → length page ≡ 4096 → skip ≤ 4096 → e ≡ min (skip + left) 4096 → new ≡ out ++ take (e - skip) (drop skip page) → out ++ take left (drop skip (page ++ rest)) ≡ all
    → new ++ take (left - (e - skip)) rest ≡ all
gathered-more page rest out new all skip left e whole low end is h =
    let n = length-drop skip page in
    let same : min (e - skip) (length (drop skip page)) ≡ min left (length (drop skip page)) = omega arith in
    let over : take (left - (e - skip)) rest ≡ take (left - length (drop skip page)) rest = after (omega arith) in
    ap (λ (xs : List ℕ). xs ++ take (left - (e - skip)) rest) is ∙ append_assoc out (take (e - skip) (drop skip page)) (take (left - (e - skip)) rest)
    ∙ ap (λ (xs : List ℕ). out ++ xs) (
    ap (λ (xs : List ℕ). take (e - skip) (drop skip page) ++ xs) over ∙ ap (λ (xs : List ℕ). xs ++ take (left - length (drop skip page)) rest) (take-same (drop skip page) (e - skip) left same)
    ∙ sym (take-both (drop skip page) rest left) ∙ ap (λ (xs : List ℕ). take left xs) (sym (drop-append-le skip page rest (omega arith))))
    ∙ h
  where
    after : left - (e - skip) ≡ left - length (drop skip page) → take (left - (e - skip)) rest ≡ take (left - length (drop skip page)) rest
    after m = ap (λ (k : ℕ). take k rest) m

-- ---- a byte of them

abbrev AreWhole : Pages → List ℕ → Type 0
AreWhole pages blocks = All (λ b. length (content (pages b)) ≡ 4096) blocks

length-bytes_at : (pages : Pages) (blocks : List ℕ) → AreWhole pages blocks → length (bytes_at pages blocks) ≡ 4096 * length blocks
length-bytes_at pages [] whole = refl
length-bytes_at pages (b ∷ bs) whole =
    let n = All-head (λ x. length (content (pages x)) ≡ 4096) b bs whole in
    let m = length-bytes_at pages bs (All-tail (λ x. length (content (pages x)) ≡ 4096) b bs whole) in
    length-append (content (pages b)) (bytes_at pages bs) ∙ (omega arith)

bytes_at-at : (pages : Pages) (blocks : List ℕ) (place k : ℕ) → AreWhole pages blocks → place < length blocks → k < 4096 → get_or (bytes_at pages blocks) (4096 * place + k) 0 ≡ get_or (content (pages (get_or blocks place 0))) k 0
bytes_at-at pages [] place k whole l small = absurd (omega arith)
bytes_at-at pages (b ∷ bs) zero k whole l small =
    let n = All-head (λ x. length (content (pages x)) ≡ 4096) b bs whole in
    let z : 4096 * 0 + k ≡ k = omega arith in
    ap (λ (j : ℕ). get_or (content (pages b) ++ bytes_at pages bs) j 0) z ∙ get_or_append_left (content (pages b)) (bytes_at pages bs) 0 k (omega arith)
bytes_at-at pages (b ∷ bs) (suc place) k whole l small =
    let n = All-head (λ x. length (content (pages x)) ≡ 4096) b bs whole in
    let e : 4096 * suc place + k - 4096 ≡ 4096 * place + k = omega arith in
    get_or-append_right (content (pages b)) (bytes_at pages bs) 4096 (4096 * suc place + k) 0 n (omega arith) ∙ ap (λ (j : ℕ). get_or (bytes_at pages bs) j 0) e
    ∙ bytes_at-at pages bs place k (All-tail (λ x. length (content (pages x)) ≡ 4096) b bs whole) (omega arith) small

-- ---- of a file of each volume of which the pages may be a part

-- Part of a file's blocks, from a place on.
pub record IsRun (g : Geometry) (pages : Pages) (v : Volume) (i : ℕ) (all : List ℕ) (blocks : List ℕ) (first : ℕ) : Type 0 where
  pub agrees : Agrees g pages v
  pub is : body v i ≡ File all
  pub run : (k : ℕ) → k < length blocks → slice_get (node v i).blocks (first + k) ≡ Some (get_or blocks k 0)

pub run-there : (g : Geometry) (pages : Pages) (v : Volume) (i : ℕ) (all blocks : List ℕ) (first : ℕ) → IsRun g pages v i all blocks first → All (λ b. pages b ≢ Some None) blocks
run-there g pages v i all blocks first h k d l = subst (λ b. pages b ≢ Some None) (get_or_default blocks k 0 d l) (use-there g pages v (Part i (first + k)) (get_or blocks k 0) h.agrees (h.run k l))

run-shown : (g : Geometry) (pages : Pages) (v : Volume) (i : ℕ) (all blocks : List ℕ) (first k : ℕ) → IsRun g pages v i all blocks first → k < length blocks → All (IsHeld pages) blocks → IsUse v (Part i (first + k)) (content (pages (get_or blocks k 0)))
run-shown g pages v i all blocks first k h l held = use-shown g pages v (Part i (first + k)) (get_or blocks k 0) (content (pages (get_or blocks k 0))) h.agrees (h.run k l) (held k 0 l)

run-whole : (g : Geometry) (pages : Pages) (v : Volume) (i : ℕ) (all blocks : List ℕ) (first : ℕ) → IsRun g pages v i all blocks first → All (IsHeld pages) blocks → AreWhole pages blocks
run-whole g pages v i all blocks first h held k d l =
    subst (λ b. length (content (pages b)) ≡ 4096) (get_or_default blocks k 0 d l) (run-shown g pages v i all blocks first k h l held).form.whole

run-byte : (g : Geometry) (pages : Pages) (v : Volume) (i : ℕ) (all blocks : List ℕ) (first place k : ℕ) → IsRun g pages v i all blocks first → All (IsHeld pages) blocks → place < length blocks → k < 4096
    → get_or (bytes_at pages blocks) (4096 * place + k) 0 ≡ get_or all (4096 * (first + place) + k) 0
run-byte g pages v i all blocks first place k h held l small =
    let shown : ShowsPart (File all) (first + place) (content (pages (get_or blocks place 0))) = subst (λ x. ShowsPart x (first + place) (content (pages (get_or blocks place 0)))) h.is (run-shown g pages v i all blocks first place h l held).shows in
    bytes_at-at pages blocks place k (run-whole g pages v i all blocks first h held) l small ∙ shown k small

-- the bytes from `at` on and before `end`
pub run-read : (g : Geometry) (pages : Pages) (v : Volume) (i : ℕ) (all blocks : List ℕ) (at count end : ℕ) → IsRun g pages v i all blocks (at / 4096) → All (IsHeld pages) blocks → end ≡ min (at + count) (length all) → at < end
    → length blocks ≡ (end - 1) / 4096 + 1 - at / 4096 → take (end - at) (drop (at % 4096) (bytes_at pages blocks)) ≡ take count (drop at all)
run-read g pages v i all blocks at count end h held e some n =
    same_lists _ _ (left ∙ sym right) (λ k d l.
    let inside : k < end - at = (let m = left in omega arith) in
    let j = at % 4096 + k in
    let small : j % 4096 < 4096 = omega arith in
    let place : j / 4096 < length blocks = omega arith in
    let split : 4096 * (j / 4096) + j % 4096 ≡ at % 4096 + k = omega arith in
    let there : 4096 * (at / 4096 + j / 4096) + j % 4096 ≡ at + k = omega arith in
    get_or-take (end - at) (drop (at % 4096) (bytes_at pages blocks)) k d inside ∙ get_or-drop (at % 4096) (bytes_at pages blocks) k d
    ∙ get_or_default (bytes_at pages blocks) (at % 4096 + k) d 0 (let m = whole in omega arith)
    ∙ ap (λ (x : ℕ). get_or (bytes_at pages blocks) x 0) (sym split) ∙ run-byte g pages v i all blocks (at / 4096) (j / 4096) (j % 4096) h held place small
    ∙ ap (λ (x : ℕ). get_or all x 0) there ∙ get_or_default all (at + k) 0 d (omega arith)
    ∙ sym (get_or-take count (drop at all) k d (omega arith) ∙ get_or-drop at all k d))
  where
    whole : length (bytes_at pages blocks) ≡ 4096 * length blocks
    whole = length-bytes_at pages blocks (run-whole g pages v i all blocks (at / 4096) h held)

    left : length (take (end - at) (drop (at % 4096) (bytes_at pages blocks))) ≡ end - at
    left = length-take (end - at) (drop (at % 4096) (bytes_at pages blocks)) ∙ (let m = whole in let o = length-drop (at % 4096) (bytes_at pages blocks) in omega arith)

    right : length (take count (drop at all)) ≡ end - at
    right = length-take count (drop at all) ∙ (let o = length-drop at all in omega arith)

-- ---- which blocks are touched

pub file-size : (n : Node) (inode : Inode) (all : List ℕ) → inode ≡ inode_of n → n.body ≡ File all → inode.size ≡ length all
file-size n inode all e is = ap (λ (x : Inode). x.size) e ∙ ap (λ (x : Body). size_of x (length n.blocks)) is

pub file-end : (n : Node) (inode : Inode) (all : List ℕ) (sum end at count : ℕ) → inode ≡ inode_of n → n.body ≡ File all → length all ≤ 4243456 → sum ≡ min (at + count) 18446744073709551615 → end ≡ min sum inode.size → end ≡ min (at + count) (length all)
file-end n inode all sum end at count e is few s h = let z = file-size n inode all e is in omega arith

pub touched-run : (g : Geometry) (pages : Pages) (v : Volume) (i : ℕ) (all blocks touched : List ℕ) (at end : ℕ) → Agrees g pages v → body v i ≡ File all → blocks ≡ (node v i).blocks → at < end → end ≤ length all
    → touched ≡ take ((end - 1) / 4096 + 1 - at / 4096) (drop (at / 4096) blocks) → IsRun g pages v i all touched (at / 4096)
touched-run g pages v i all blocks touched at end agrees is same some low t = record {
  agrees = agrees;
  is = is;
  run = λ k l.
      let n = ap length t ∙ length-take ((end - 1) / 4096 + 1 - at / 4096) (drop (at / 4096) blocks) in
      let m = length-drop (at / 4096) blocks in
      let inside : at / 4096 + k < length blocks = omega arith in
      ap (λ (xs : List ℕ). slice_get xs (at / 4096 + k)) (sym same) ∙ slice_get-get_or blocks (at / 4096 + k) 0 inside
      ∙ ap (λ (x : ℕ). Some x) (sym (ap (λ (xs : List ℕ). get_or xs k 0) t ∙ get_or-take ((end - 1) / 4096 + 1 - at / 4096) (drop (at / 4096) blocks) k 0 (omega arith) ∙ get_or-drop (at / 4096) blocks k 0));
}

pub touched-length : (g : Geometry) (pages : Pages) (v : Volume) (i : ℕ) (all blocks touched : List ℕ) (at end : ℕ) → Agrees g pages v → body v i ≡ File all → blocks ≡ (node v i).blocks → at < end → end ≤ length all
    → touched ≡ take ((end - 1) / 4096 + 1 - at / 4096) (drop (at / 4096) blocks) → length touched ≡ (end - 1) / 4096 + 1 - at / 4096
touched-length g pages v i all blocks touched at end agrees is same some low t =
    let c = sound-count g v i all agrees.sound is in
    let s = ap length same in
    let m = length-drop (at / 4096) blocks in
    ap length t ∙ length-take ((end - 1) / 4096 + 1 - at / 4096) (drop (at / 4096) blocks) ∙ (omega arith)

-- each of them has a byte that is read
pub touched-byte : (g : Geometry) (pages : Pages) (v : Volume) (i : ℕ) (all blocks touched : List ℕ) (at count end b : ℕ) → Agrees g pages v → body v i ≡ File all → blocks ≡ (node v i).blocks → at < end → end ≡ min (at + count) (length all)
    → touched ≡ take ((end - 1) / 4096 + 1 - at / 4096) (drop (at / 4096) blocks) → Contains touched b → LooksInFile v i at count b
touched-byte g pages v i all blocks touched at count end b agrees is same some e t (k, l, here) =
    let low : end ≤ length all = omega arith in
    let run = touched-run g pages v i all blocks touched at end agrees is same some low t in
    let n = touched-length g pages v i all blocks touched at end agrees is same some low t in
    let byte = min' at k in
    let place : byte / 4096 ≡ at / 4096 + k = place-of at k in
    record {
      bytes = all;
      is = is;
      looks = inr (byte, ap (λ (x : ℕ). slice_get (node v i).blocks x) place ∙ run.run k l ∙ ap (λ (x : ℕ). Some x) (get_or_default touched k 0 b l ∙ here), first at k, subst (λ (x : ℕ). byte < x) e (past at k end (omega arith) some));
    }
  where
    -- the first byte of the k-th block from that of `at` on that is not before `at`
    min' : ℕ → ℕ → ℕ
    min' at zero = at
    min' at (suc k) = 4096 * (at / 4096 + suc k)

    place-of : (at k : ℕ) → min' at k / 4096 ≡ at / 4096 + k
    place-of at zero = omega arith
    place-of at (suc k) = omega arith

    first : (at k : ℕ) → at ≤ min' at k
    first at zero = omega arith
    first at (suc k) = omega arith

    past : (at k end : ℕ) → k < (end - 1) / 4096 + 1 - at / 4096 → at < end → min' at k < end
    past at zero end l some = some
    past at (suc k) end l some = omega arith

-- ---- the loop over blocks

pub bytes-drop : (pages : Pages) (blocks : List ℕ) (k b : ℕ) (page : List ℕ) → k < length blocks → b ≡ get_or blocks k b → page ≡ content (pages b) → bytes_at pages (drop k blocks) ≡ page ++ bytes_at pages (drop (k + 1) blocks)
bytes-drop pages blocks k b page l is e =
    let s : k + 1 ≡ suc k = omega arith in
    ap (λ (bs : List ℕ). bytes_at pages bs) (drop-cons blocks k b l) ∙ ap (λ (x : ℕ). content (pages x) ++ bytes_at pages (drop (suc k) blocks)) (sym is) ∙ ap (λ (j : ℕ). content (pages b) ++ bytes_at pages (drop j blocks)) (sym s) ∙ ap (λ (p : List ℕ). p ++ bytes_at pages (drop (k + 1) blocks)) (sym e)
