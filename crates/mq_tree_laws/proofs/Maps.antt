-- A tree is two finite maps.
use Rattle.std.proofs.Common.{◌≡◌, ℕ, zero, suc, ◌<◌, inl, inr, List, [], ◌∷◌, ◌++◌, map, true, refl, sym, ap, subst, ◌∙◌}
use Rattle.std.specs.Prelude.{Option, Some, None, IsSome, option_and_then}
use Rattle.std.specs.List.{Contains}
use Rattle.std.proofs.lemmas.List.{reverse-reverse}
use Rattle.std.proofs.lemmas.List.Elements.{Contains-append_cases, Contains-append_left, Contains-append_right}
use Rattle.std.proofs.lemmas.Option.{none-some, option_and_then_some}
use Rattle.std.proofs.lemmas.Bool.{true≢false}
use Rattle.mq_blocks.specs.declared.geometry.Geometry.{Geometry}
use Rattle.mq_layout.specs.Places.{inodes_of}
use Rattle.mq_tree.specs.Sound.{IsSound}
use Rattle.mq_tree.specs.Volume.{ADir, AFile, Body, Free, File, Dir, Path, Thing, Volume, body, inode_at, is_used, thing, tree, way}
use Rattle.mq_tree.proofs.Listings.{sound-listing}
use Rattle.mq_tree.proofs.Members.{cons-cases, cons-here, map-cases, map-has, none-contained}
use Rattle.mq_tree.proofs.SoundVolumes.{used-low}
use Rattle.mq_tree.proofs.VolumePaths.{thing-here}
use Rattle.mq_tree_laws.specs.Maps.{IsDir, IsFile, IsFiniteMap, Named, bytes_in, bytes_of, named, named_at, thing_of}

-- ---- what is seen at a path

seen-body : (v : Volume) (i : ℕ) (b : Body) → body v i ≡ b → thing b ≡ thing_of (bytes_of v) (named i b)
seen-body v i Free is = refl
seen-body v i (File bytes) is = sym (ap (λ (b : Body). option_and_then (λ found. Some (AFile found)) (bytes_in b)) is)
seen-body v i (Dir slots) is = refl

pub seen : (v : Volume) (path : Path) → tree v path ≡ thing_of (bytes_of v) (named_at v path)
seen v path = go (inode_at v (way path))
  where
    go : (o : Option ℕ) → option_and_then (λ i. thing (body v i)) o ≡ thing_of (bytes_of v) (option_and_then (λ i. named i (body v i)) o)
    go None = refl
    go (Some i) = seen-body v i (body v i) refl

-- ---- numbers and paths

file-number : (i : ℕ) (b : Body) (number : ℕ) → named i b ≡ Some (IsFile number) → (i ≡ number) × IsSome (bytes_in b)
file-number i Free number e = absurd (none-some _ e)
file-number i (File bytes) number e = (cc, refl)
file-number i (Dir slots) number e = absurd (cc)

file-named : (i : ℕ) (b : Body) → IsSome (bytes_in b) → (named i b ≡ Some (IsFile i)) × (is_used b ≡ true)
file-named i Free some = absurd (true≢false (sym some))
file-named i (File bytes) some = (refl, refl)
file-named i (Dir slots) some = absurd (true≢false (sym some))

named-here : (v : Volume) (path : Path) (i : ℕ) → inode_at v (way path) ≡ Some i → named_at v path ≡ named i (body v i)
named-here v path i at = ap (λ (o : Option ℕ). option_and_then (λ x. named x (body v x)) o) at

pub number-named : (g : Geometry) (v : Volume) (number : ℕ) → IsSound g v → IsSome (bytes_of v number) → (path : Path) × (named_at v path ≡ Some (IsFile number))
number-named g v number s some =
    let f = file-named number (body v number) some in
    let r = s.reached number f.1 in
    (way r.0, named-here v (way r.0) number (ap (λ (w : Path). inode_at v w) (reverse-reverse r.0) ∙ r.1) ∙ f.0)

pub named-number : (v : Volume) (path : Path) (number : ℕ) → named_at v path ≡ Some (IsFile number) → IsSome (bytes_of v number)
named-number v path number e =
    option_and_then_some (λ i. named i (body v i)) (inode_at v (way path)) (IsFile number) e (λ i at is.
    let r = file-number i (body v i) number is in
    subst (λ x. IsSome (bytes_of v x)) r.0 r.1)

pub number-below : (g : Geometry) (v : Volume) (number : ℕ) → IsSound g v → IsSome (bytes_of v number) → number < inodes_of g
number-below g v number s some = subst (λ n. number < n) s.count (used-low v number (file-named number (body v number) some).1)

-- ---- finite maps

thing-named : (i : ℕ) (b : Body) (t : Thing) → thing b ≡ Some t → (n : Named) × (named i b ≡ Some n)
thing-named i Free t e = absurd (none-some t e)
thing-named i (File bytes) t e = (IsFile i, refl)
thing-named i (Dir slots) t e = (IsDir, refl)

named-thing : (i : ℕ) (b : Body) (n : Named) → named i b ≡ Some n → (t : Thing) × (thing b ≡ Some t)
named-thing i Free n e = absurd (none-some n e)
named-thing i (File bytes) n e = (AFile bytes, refl)
named-thing i (Dir slots) n e = (ADir, refl)

pub finite-paths : (g : Geometry) (v : Volume) → IsSound g v → IsFiniteMap (named_at v)
finite-paths g v s =
    let l = sound-listing g v s in
    record {
      keys = l.paths;
      found = λ path among.
          let h = (l.each).found path among in
          option_and_then_some (λ i. thing (body v i)) (inode_at v (way path)) h.0 h.1 (λ i at is.
          let n = thing-named i (body v i) h.0 is in
          (n.0, named-here v path i at ∙ n.1));
      all = λ path there is.
          option_and_then_some (λ i. named i (body v i)) (inode_at v (way path)) there is (λ i at here.
          let t = named-thing i (body v i) there here in
          (l.each).all path t.0 (thing-here v (way path) i at ∙ t.1));
    }

-- the number of the first inode, where it is a file
abbrev first : Option (List ℕ) → List ℕ
first None = []
first (Some bytes) = 0 ∷ []

first-found : (o : Option (List ℕ)) (key : ℕ) → Contains (first o) key → (0 ≡ key) × (there : List ℕ) × (o ≡ Some there)
first-found None key among = none-contained key among
first-found (Some bytes) key among = elim (cons-cases 0 [] key among) [
  | inl same ↦ (same, bytes, refl)
  | inr rest ↦ none-contained key rest
]

first-all : (o : Option (List ℕ)) (there : List ℕ) → o ≡ Some there → Contains (first o) 0
first-all None there is = absurd (none-some there is)
first-all (Some bytes) there is = cons-here 0 [] 0 refl

abbrev next : ℕ → ℕ
next number = suc number

-- the numbers of all files
abbrev numbers : Volume → List ℕ
numbers [] = []
numbers (n ∷ v) = first (bytes_in n.body) ++ map next (numbers v)

numbers-found : (v : Volume) (key : ℕ) → Contains (numbers v) key → (there : List ℕ) × (bytes_of v key ≡ Some there)
numbers-found [] key among = none-contained key among
numbers-found (n ∷ v) key among = elim (Contains-append_cases (first (bytes_in n.body)) (map next (numbers v)) key among) [
  | inl here ↦ let r = first-found (bytes_in n.body) key here in (r.1, ap (λ (k : ℕ). bytes_of (n ∷ v) k) (sym r.0) ∙ r.2)
  | inr rest ↦
      let m = map-cases next (numbers v) key rest in
      let r = numbers-found v m.0 m.1 in
      (r.0, ap (λ (k : ℕ). bytes_of (n ∷ v) k) (sym m.2) ∙ r.1)
]

numbers-all : (v : Volume) (key : ℕ) (there : List ℕ) → bytes_of v key ≡ Some there → Contains (numbers v) key
numbers-all [] key there is = absurd (none-some there is)
numbers-all (n ∷ v) zero there is = Contains-append_left (first (bytes_in n.body)) (map next (numbers v)) zero (first-all (bytes_in n.body) there is)
numbers-all (n ∷ v) (suc key) there is = Contains-append_right (first (bytes_in n.body)) (map next (numbers v)) (suc key) (map-has next (numbers v) key (numbers-all v key there is))

pub finite-numbers : (v : Volume) → IsFiniteMap (bytes_of v)
finite-numbers v = record { keys = numbers v; found = numbers-found v; all = numbers-all v }
