-- How many blocks are written at most, where few are touched: those of the metadata, and those.
use Rattle.std.proofs.Common.{◌≡◌, ◌⊎◌, inl, inr, ℕ, zero, suc, ◌+◌, ◌<◌, ◌≤◌, List, [], ◌∷◌, ◌++◌, length, map, refl, sym, ap, subst, ◌∙◌, arith, length-append}
use Rattle.std.specs.List.{AllPairs, Contains}
use Rattle.std.proofs.lemmas.Bool.{cases_eq, cases_lt}
use Rattle.std.proofs.lemmas.List.{length-map}
use Rattle.mq_blocks.specs.Geometry.{homes_of, meta_of}
use Rattle.mq_blocks.specs.declared.geometry.Geometry.{Geometry}
use Rattle.mq_command_run.proofs.Touches.{Touches, TouchesFew}
use Rattle.mq_exec.specs.Moves.{IsWritten}
use Rattle.mq_run_laws.specs.Legal.{Writes}
use Rattle.mq_inodes.proofs.ChangesRegions.{shown-in, shows-in}
use Rattle.mq_pages.specs.declared.page.Write.{Write}
use Rattle.mq_run_laws.proofs.Pairs.{cons-cases, here, in-left, in-right, none-in, pairs-head, pairs-tail, there}
use Rattle.mq_tree.specs.Laid.{Outside, ShowsZone, Zone, or_zero}
use Rattle.mq_tree.specs.Volume.{Use, Volume, block_in}
use Rattle.mq_tree.proofs.LaidRegions.{region-outside, region-zone}

-- ---- a rising list has no more elements than one that has them all

record Without (cs : List ℕ) (c : ℕ) : Type 0 where
  rest : List ℕ
  less : suc (length rest) ≡ length cs
  others : (y : ℕ) → Contains cs y → (y ≡ c) ⊎ Contains rest y

without : (cs : List ℕ) (c : ℕ) → Contains cs c → Without cs c
without [] c i = absurd (none-in c i)
without (d ∷ ds) c i = elim (cons-cases c d ds i) [
  | inl e ↦ record { rest = ds; less = refl; others = λ y j. elim (cons-cases y d ds j) [ inl f ↦ inl (sym f ∙ e) | inr t ↦ inr t ] }
  | inr t ↦
      let r = without ds c t in
      record {
        rest = d ∷ r.rest;
        less = ap suc r.less;
        others = λ y j. elim (cons-cases y d ds j) [
          | inl f ↦ inr (subst (λ (z : ℕ). Contains (d ∷ r.rest) z) f (here d r.rest))
          | inr u ↦ elim (r.others y u) [ inl e ↦ inl e | inr k ↦ inr (there y d r.rest k) ]
        ];
      }
]

rising-most : {X : Type 0} (n : X → ℕ) (xs : List X) (cs : List ℕ) → AllPairs (λ x y. n x < n y) xs → ((x : X) → Contains xs x → Contains cs (n x)) → length xs ≤ length cs
rising-most n [] cs rises all = omega arith
rising-most n (x ∷ xs) cs rises all =
    let r = without cs (n x) (all x (here x xs)) in
    let less = r.less in
    let rest = rising-most n xs r.rest (pairs-tail (λ a b. n a < n b) x xs rises) (λ y c. elim (r.others (n y) (all y (there y x xs c))) [
      | inl e ↦ (let above = pairs-head (λ a b. n a < n b) x xs y rises c in absurd (omega (arith, above, e)))
      | inr k ↦ k
    ]) in
    omega (arith, rest, less)

-- ---- candidates

abbrev below : ℕ → List ℕ
below zero = []
below (suc m) = m ∷ below m

length-below : (m : ℕ) → length (below m) ≡ m
length-below zero = refl
length-below (suc m) = ap suc (length-below m)

in-below : (m b : ℕ) → b < m → Contains (below m) b
in-below zero b low = absurd (omega (arith, low))
in-below (suc m) b low = elim (cases_eq b m) [
  | inl same ↦ subst (λ (z : ℕ). Contains (below (suc m)) z) (sym same) (here m (below m))
  | inr other ↦ there b m (below m) (in-below m b (omega (arith, low, other)))
]

abbrev block_of : Volume → Use → ℕ
block_of w u = or_zero (block_in w u)

in-map : (w : Volume) (uses : List Use) (u : Use) (b : ℕ) → Contains uses u → block_of w u ≡ b → Contains (map (block_of w) uses) b
in-map w [] u b c e = absurd (none-in u c)
in-map w (x ∷ xs) u b c e = elim (cons-cases u x xs c) [
  | inl same ↦ subst (λ (z : ℕ). Contains (map (block_of w) (x ∷ xs)) z) (ap (block_of w) same ∙ e) (here (block_of w x) (map (block_of w) xs))
  | inr later ↦ there b (block_of w x) (map (block_of w) xs) (in-map w xs u b later e)
]

module _ (g : Geometry) (v w : Volume) (uses : List Use) (t : Touches v w uses) where
  abbrev candidates : List ℕ
  candidates = below (meta_of g) ++ map (block_of w) uses

  in-zone : (x : Write) → IsWritten g v w x → meta_of g ≤ x.block → x.block < homes_of g → Contains (map (block_of w) uses) x.block
  in-zone x is high home =
      let z : ShowsZone w x.block x.content = shown-in g w x.block Zone x.content (region-zone g x.block high home) is.now in
      elim (t.rest z.purpose x.block x.content z.is z.shows) [
        | inl c ↦ in-map w uses z.purpose x.block c (ap or_zero z.is)
        | inr s ↦ absurd (is.new (shows-in g v x.block Zone x.content (region-zone g x.block high home) is.now.0 (record { purpose = z.purpose; is = s.0; shows = s.1 })))
      ]

  written-in : (x : Write) → IsWritten g v w x → Contains candidates x.block
  written-in x is = elim (cases_lt x.block (meta_of g)) [
    | inl low ↦ in-left (below (meta_of g)) (map (block_of w) uses) x.block (in-below (meta_of g) x.block low)
    | inr high ↦ elim (cases_lt x.block (homes_of g)) [
      | inl home ↦ in-right (below (meta_of g)) (map (block_of w) uses) x.block (in-zone x is high home)
      | inr past ↦ absurd (shown-in g w x.block Outside x.content (region-outside g x.block past) is.now)
    ]
  ]

  writes-few : (count : ℕ) → Writes g v w count → count ≤ meta_of g + length uses
  writes-few count wrote =
      let most = rising-most (λ (x : Write). x.block) wrote.writes candidates wrote.moves.writes_rise (λ x c. written-in x ((wrote.moves.written x).0 c)) in
      let long = length-append (below (meta_of g)) (map (block_of w) uses) in
      let metas = length-below (meta_of g) in
      let zones = length-map uses (block_of w) in
      let many = wrote.many in
      omega (arith, most, long, metas, zones, many)

pub few-writes : (g : Geometry) (v w : Volume) (most count : ℕ) → TouchesFew v w most → Writes g v w count → count ≤ meta_of g + most
few-writes g v w most count t wrote = (let few = t.2 in let writes = writes-few g v w t.0 t.1 count wrote in omega (arith, few, writes))
