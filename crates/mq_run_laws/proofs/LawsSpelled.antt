-- What a script that a text spells writes are bytes.
use Rattle.std.proofs.Common.{◌≡◌, ℕ, zero, suc, ◌<◌, inl, inr, true, List, [], ◌∷◌, length, sym, subst, arith}
use Rattle.std.specs.Prelude.{replicate, slice_index_or, nat_eq, nat_le, not, ◌&&◌}
use Rattle.std.specs.List.{All, AllByRecursion, list_all}
use Rattle.std.proofs.lemmas.Bool.{and_parts, leb-true}
use Rattle.mq_run_laws.specs.Groups.{IsGroup, groups_of}
use Rattle.mq_run_laws.specs.Histories.{AreOfBytes}
use Rattle.mq_run_laws.specs.HistoryLaws.{AreSpelled}
use Rattle.mq_script.specs.Printing.{is_quotable}
use Rattle.mq_script.specs.Scripts.{Group, Script}
use Rattle.mq_script.specs.Spelled.{AskAll, Asks, IsData, SpellAll}
use Rattle.mq_tree.specs.Kept.{HasBytes}
use Rattle.mq_tree.specs.Sound.{AreBytes}
use Rattle.mq_tree.specs.declared.request.Request.{Request}
use Rattle.mq_tree.specs.declared.request.Request.TheVariants.{Mkdir, Create, Write, Truncate, Unlink, Rmdir, Rename, Link, Read, List as ListOf, Stat}

quotable-small : (b : ℕ) → is_quotable b ≡ true → b < 256
quotable-small b h =
    let p = and_parts (nat_le 32 b && nat_le b 126) (not (nat_eq b 34)) h in
    let q = and_parts (nat_le 32 b) (nat_le b 126) p.0 in
    let l = leb-true b 126 q.1 in
    omega (arith, l)

quoted-bytes : (bytes : List ℕ) → list_all is_quotable bytes ≡ true → AreBytes bytes
quoted-bytes [] h k = omega arith
quoted-bytes (b ∷ bs) h zero = quotable-small b (and_parts (is_quotable b) (list_all is_quotable bs) h).0
quoted-bytes (b ∷ bs) h (suc k) = quoted-bytes bs (and_parts (is_quotable b) (list_all is_quotable bs) h).1 k

each-byte : (bytes : List ℕ) → AllByRecursion (λ b. b < 256) bytes → AreBytes bytes
each-byte [] h k = omega arith
each-byte (b ∷ bs) h zero = h.0
each-byte (b ∷ bs) h (suc k) = each-byte bs h.1 k

pub filled-bytes : (count byte : ℕ) → byte < 256 → AreBytes (replicate count byte)
filled-bytes zero byte low k = omega arith
filled-bytes (suc count) byte low zero = low
filled-bytes (suc count) byte low (suc k) = filled-bytes count byte low k

data-bytes : (text bytes : List ℕ) → IsData text bytes → AreBytes bytes
data-bytes text bytes (inl quoted) = quoted-bytes bytes quoted.are
data-bytes text bytes (inr (inl hex)) = each-byte bytes hex.are
data-bytes text bytes (inr (inr fill)) = subst (λ (bs : List ℕ). AreBytes bs) (sym fill.are) (filled-bytes fill.count fill.byte fill.small)

asked-bytes : (line : List ℕ) (r : Request) → Asks line r → HasBytes r
asked-bytes line (Mkdir p) h = tt
asked-bytes line (Create p) h = tt
asked-bytes line (Write p offset bytes) h = data-bytes h.form bytes h.data_is
asked-bytes line (Truncate p size) h = tt
asked-bytes line (Unlink p) h = tt
asked-bytes line (Rmdir p) h = tt
asked-bytes line (Rename p q) h = tt
asked-bytes line (Link p q) h = tt
asked-bytes line (Read p offset count) h = tt
asked-bytes line (ListOf p) h = tt
asked-bytes line (Stat p) h = tt

all-bytes : (lines : List (List ℕ)) (rs : List Request) → AskAll lines rs → All HasBytes rs
all-bytes [] [] h k d low = absurd (omega arith)
all-bytes [] (r ∷ rs) h k d low = absurd h
all-bytes (l ∷ ls) [] h k d low = absurd h
all-bytes (l ∷ ls) (r ∷ rs) h zero d low = asked-bytes l r h.0
all-bytes (l ∷ ls) (r ∷ rs) h (suc k) d low = all-bytes ls rs h.1 k d (omega arith)

group-bytes : (lines : List (List ℕ)) (groups : List Group) (k : ℕ) (d : Group) → SpellAll lines groups → k < length groups → All HasBytes (slice_index_or groups k d).requests
group-bytes lines [] k d h low = absurd (omega arith)
group-bytes lines (g ∷ gs) zero d h low = all-bytes h.0 g.requests h.2
group-bytes lines (g ∷ gs) (suc k) d h low = group-bytes h.1 gs k d h.4 (omega arith)

-- a session with a group has a script
pub has-script : (scripts : List Script) (s k : ℕ) → IsGroup scripts s k → s < length scripts
has-script [] s k h = absurd (omega (arith, h))
has-script (x ∷ xs) zero k h = omega arith
has-script (x ∷ xs) (suc s) k h = let l = has-script xs s k h in omega (arith, l)

pub spelled-bytes : (scripts : List Script) → AreSpelled scripts → AreOfBytes scripts
spelled-bytes scripts h s k is =
    let t = h s (has-script scripts s k is) in
    group-bytes t.1.lines (groups_of scripts s) k _ t.1.groups is
