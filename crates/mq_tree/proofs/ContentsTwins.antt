-- What is kept of the inodes, while the least block with a name that stands twice is looked for.
use Rattle.std.proofs.Common.{◌≡◌, ℕ, ◌+◌, ◌<◌, Bool, true, List, [], ◌∷◌, ◌++◌, refl, sym, subst, ◌∙◌, arith, below_more}
use Rattle.std.specs.Prelude.{Err, IfErr, IfOk, None, Ok, OnOk, Option, Result, Some}
use Rattle.mq_blocks.specs.declared.geometry.Geometry.{Geometry}
use Rattle.mq_layout.specs.Places.{inodes_of}
use Rattle.mq_layout.specs.declared.inode.Inode.{Inode}
use Rattle.mq_tree.specs.Clean.{AreOnce, ArePointers, IsTable}
use Rattle.mq_tree.specs.Decoded.{Stored, body_of, the_inode, volume_in}
use Rattle.mq_tree.specs.Directories.{HasTwin, IsOnce, RefusesNames, RefusesTwin}
use Rattle.mq_tree.specs.Least.{IsLeastOf, lesser}
use Rattle.mq_tree.specs.Trees.{IsAlike, IsSameBody, body_kept, kept}
use Rattle.mq_tree.specs.declared.contents.InodeContent.{InodeContent}
use Rattle.mq_tree.specs.declared.corrupt.CorruptCause.{CorruptCause}
use Rattle.mq_tree.specs.declared.corrupt.CorruptCause.TheVariants.{Twin}
use Rattle.mq_tree.specs.declared.corrupt.MountRefusal.{MountRefusal}
use Rattle.mq_tree.specs.declared.corrupt.MountRefusal.TheVariants.{Corrupt}
use Rattle.mq_tree.proofs.Directories.{TwinAt, once-volume, twin-all}
use Rattle.mq_tree.proofs.LeastBelow.{WrongBelow, below-skip, below-start, below-step}
use Rattle.mq_tree.proofs.TreesKeeping.{KeptBelow, kept-all, kept-more, kept-start}

pub record Read (g : Geometry) (s : Stored) (i : ℕ) (keeps : Bool) (twin : Option ℕ) (cs : List InodeContent) : Type 0 where
  pub least : IsLeastOf (WrongBelow (TwinAt g s) i) twin
  pub once : twin ≡ None → (j : ℕ) → j < i → IsOnce s (the_inode g s j)
  pub kept : twin ≡ None → keeps ≡ true → KeptBelow g s i cs

pub read-start : (g : Geometry) (s : Stored) (keeps : Bool) (cs : List InodeContent) → cs ≡ [] → Read g s 0 keeps None cs
read-start g s keeps cs e = record { least = below-start (TwinAt g s); once = λ none j low. absurd (omega arith); kept = λ none kept_all. kept-start g s cs e }

-- the names of one inode stand once; it is kept, where all are to be
pub read-more : (g : Geometry) (s : Stored) (i : ℕ) (keeps : Bool) (twin now : Option ℕ) (cs all : List InodeContent) (n : Inode) (c : InodeContent) → Read g s i keeps twin cs → n ≡ the_inode g s i → (keeps ≡ true → IsSameBody (body_kept c) (body_of s n)) → IsOnce s n → (keeps ≡ true → all ≡ cs ++ c ∷ []) → now ≡ twin
    → Read g s (i + 1) keeps now all
read-more g s i keeps twin now cs all n c r is same once pushed kept = subst (λ o. Read g s (i + 1) keeps o all) (sym kept) (record {
  least = below-skip (TwinAt g s) i twin r.least (λ b h. (let t : HasTwin s n b = subst (λ m. HasTwin s m b) (sym is) h in t.apart (once t.dir t.k t.l t.e t.f t.inside t.other t.first t.second t.same)));
  once = λ none. below_more (λ j. IsOnce s (the_inode g s j)) i (r.once none) (subst (IsOnce s) is once);
  kept = λ none kept_all. kept-more g s i cs all n c (r.kept none kept_all) is (same kept_all) once (pushed kept_all);
})

some-lesser : (a : Option ℕ) (b : ℕ) {R : Type 0} → lesser a (Some b) ≡ None → R
some-lesser None b e = absurd (cc)
some-lesser (Some a) b e = absurd (cc)

pub read-twin : (g : Geometry) (s : Stored) (i : ℕ) (keeps : Bool) (twin now : Option ℕ) (cs all : List InodeContent) (n : Inode) (cause : CorruptCause) (b : ℕ) → Read g s i keeps twin cs → n ≡ the_inode g s i → RefusesNames s n (Corrupt cause b) → now ≡ lesser twin (Some b) → Read g s (i + 1) keeps now all
read-twin g s i keeps twin now cs all n cause b r is refused found = record {
  least = below-step (TwinAt g s) i twin (Some b) now r.least (subst (λ m. IsLeastOf (HasTwin s m) (Some b)) is refused.1) found;
  once = λ none. some-lesser twin b (sym found ∙ none);
  kept = λ none. some-lesser twin b (sym found ∙ none);
}

-- ---- what the call for one inode says

pub content-seen : (s : Stored) (n : Inode) (keeps : Bool) (r : Result InodeContent MountRefusal) (c : InodeContent) → r ≡ Ok c → IfOk r (λ x. keeps ≡ true → IsSameBody (body_kept x) (body_of s n)) → keeps ≡ true → IsSameBody (body_kept c) (body_of s n)
content-seen s n keeps r c e h = subst (λ o. IfOk o (λ x. keeps ≡ true → IsSameBody (body_kept x) (body_of s n))) e h

pub content-once : (s : Stored) (n : Inode) (r : Result InodeContent MountRefusal) (c : InodeContent) → r ≡ Ok c → OnOk r (IsOnce s n) → IsOnce s n
content-once s n r c e h = subst (λ o. OnOk o (IsOnce s n)) e h

pub content-refused : (s : Stored) (n : Inode) (r : Result InodeContent MountRefusal) (x : MountRefusal) → r ≡ Err x → IfErr r (RefusesNames s n) → RefusesNames s n x
content-refused s n r x e h = subst (λ o. IfErr o (RefusesNames s n)) e h

-- ---- all inodes

pub read-refused : (g : Geometry) (s : Stored) (n : ℕ) (keeps : Bool) (twin : Option ℕ) (cs : List InodeContent) (b : ℕ) (r : MountRefusal) → IsTable g s → ArePointers g s → n ≡ inodes_of g → Read g s n keeps twin cs → twin ≡ Some b → r ≡ Corrupt Twin b → RefusesTwin g s r
read-refused g s n keeps twin cs b r table pointers all read some is =
    subst (λ x. RefusesTwin g s x) (sym is) (refl, twin-all g s n (Some b) table pointers all (subst (λ o. IsLeastOf (WrongBelow (TwinAt g s) n) o) some read.least))

pub read-alike : (g : Geometry) (s : Stored) (n : ℕ) (keeps : Bool) (twin : Option ℕ) (cs : List InodeContent) → n ≡ inodes_of g → Read g s n keeps twin cs → twin ≡ None → keeps ≡ true → IsAlike (kept cs) (volume_in g s)
read-alike g s n keeps twin cs all read none kept_all = kept-all g s n cs (read.kept none kept_all) all

pub read-once : (g : Geometry) (s : Stored) (n : ℕ) (keeps : Bool) (twin : Option ℕ) (cs : List InodeContent) → IsTable g s → n ≡ inodes_of g → Read g s n keeps twin cs → twin ≡ None → AreOnce (volume_in g s)
read-once g s n keeps twin cs table all read none = once-volume g s table (λ i low. read.once none i (subst (λ m. i < m) (sym all) low))
