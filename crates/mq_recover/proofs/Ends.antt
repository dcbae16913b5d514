-- The oldest of the transactions that are left in chains.
use Rattle.std.proofs.Common.{◌≡◌, ◌<◌, inl, inr, ℕ, ◌+◌, ◌-◌, List, [], ◌∷◌, length, Option, Some, None, get_or, sym, ◌∙◌, ap, subst, arith}
use Rattle.std.proofs.lemmas.Bool.{cases_eq}
use Rattle.std.proofs.lemmas.List.{get_or_read}
use Rattle.std.proofs.lemmas.Option.{slice_get-get_or}
use Rattle.std.specs.Prelude.{slice_get, MatchOption}
use Rattle.mq_blocks.specs.Descriptor.{Descriptor}
use Rattle.mq_recover.specs.Recover.{chain_at}
use Rattle.mq_recover.specs.Ends.{EndsWith, AreEmpty, IsLeastEnd, IsAlone, IsNext, IsLeast}
use Rattle.mq_recover.specs.declared.oldest.Least.{Least}

-- ---- ends

pub empty-ends : (number : ℕ) → EndsWith [] number → ⊥
empty-ends number ends = let is : None ≡ Some ends.0 = ends.1 in cc

-- a chain ends with one number
pub end-once : (ds : List Descriptor) (m n : ℕ) → EndsWith ds m → EndsWith ds n → m ≡ n
end-once ds m n a b =
    let x = a.1 in
    let y = b.1 in
    let same : a.0 ≡ b.0 = cc in
    sym a.2 ∙ ap (λ (d : Descriptor). d.number) same ∙ b.2

-- ---- one more end

-- the next chain is empty
pub least-skip : (chains : List (List Descriptor)) (k : ℕ) (l : Least) → IsLeast k chains l → chain_at chains k ≡ [] → IsLeast (k + 1) chains l
least-skip chains k l is empty =
    let none : (n : ℕ) → EndsWith (chain_at chains k) n → ⊥ = λ n ends. empty-ends n (subst (λ (ds : List Descriptor). EndsWith ds n) empty ends) in
    let below = is.within in
    record {
      within = omega (arith, below);
      ends = is.ends;
      least = λ q n low ends. elim (cases_eq q k) [
        | inl same ↦ absurd (none n (subst (λ (p : ℕ). EndsWith (chain_at chains p) n) same ends))
        | inr other ↦ is.least q n (omega (arith, low, other)) ends
      ];
      second = second-skip l.second is.second none;
    }
  where
    second-skip : (o : Option ℕ) → MatchOption o (IsAlone k chains l.number l.first) (IsNext k chains l.number l.first) → ((n : ℕ) → EndsWith (chain_at chains k) n → ⊥)
        → MatchOption o (IsAlone (k + 1) chains l.number l.first) (IsNext (k + 1) chains l.number l.first)
    second-skip None alone none = λ q low other ends. elim (cases_eq q k) [
      | inl same ↦ none l.number (subst (λ (p : ℕ). EndsWith (chain_at chains p) l.number) same ends)
      | inr apart ↦ alone q (omega (arith, low, apart)) other ends
    ]
    second-skip (Some s) next none = let w = next.within in record { order = next.order; within = omega (arith, w); ends = next.ends; others = next.others }

end-here : (chains : List (List Descriptor)) (k number q n : ℕ) → EndsWith (chain_at chains k) number → q ≡ k → EndsWith (chain_at chains q) n → n ≡ number
end-here chains k number q n ends same there = end-once (chain_at chains k) n number (subst (λ (p : ℕ). EndsWith (chain_at chains p) n) same there) ends

-- none ended with a number up to it before
pub least-new : (chains : List (List Descriptor)) (k number : ℕ) → EndsWith (chain_at chains k) number → ((q n : ℕ) → q < k → EndsWith (chain_at chains q) n → number < n)
    → IsLeast (k + 1) chains (record { number = number; first = k; second = None })
least-new chains k number ends less = record {
  within = omega arith;
  ends = ends;
  least = λ q n low there. elim (cases_eq q k) [
    | inl same ↦ let is = end-here chains k number q n ends same there in omega (arith, is)
    | inr other ↦ let b = less q n (omega (arith, low, other)) there in omega (arith, b)
  ];
  second = λ q low other there. let b = less q number (omega (arith, low, other)) there in omega (arith, b);
}

-- one ended with a lesser number
pub least-same : (chains : List (List Descriptor)) (k number : ℕ) (l : Least) → IsLeast k chains l → EndsWith (chain_at chains k) number → l.number < number → IsLeast (k + 1) chains l
least-same chains k number l is ends above =
    let below = is.within in
    record {
      within = omega (arith, below);
      ends = is.ends;
      least = λ q n low there. elim (cases_eq q k) [
        | inl same ↦ let n_is = end-here chains k number q n ends same there in omega (arith, n_is, above)
        | inr other ↦ is.least q n (omega (arith, low, other)) there
      ];
      second = second-same l.second is.second;
    }
  where
    second-same : (o : Option ℕ) → MatchOption o (IsAlone k chains l.number l.first) (IsNext k chains l.number l.first)
        → MatchOption o (IsAlone (k + 1) chains l.number l.first) (IsNext (k + 1) chains l.number l.first)
    second-same None alone = λ q low other there. elim (cases_eq q k) [
      | inl same ↦ let n_is = end-here chains k number q l.number ends same there in omega (arith, n_is, above)
      | inr apart ↦ alone q (omega (arith, low, apart)) other there
    ]
    second-same (Some s) next = let w = next.within in record { order = next.order; within = omega (arith, w); ends = next.ends; others = next.others }

least-grown : (chains : List (List Descriptor)) (k number : ℕ) (l : Least) → IsLeast k chains l → EndsWith (chain_at chains k) number → l.number ≡ number → IsLeastEnd (k + 1) chains l.number
least-grown chains k number l is ends same = λ q n low there. elim (cases_eq q k) [
  | inl here ↦ let n_is = end-here chains k number q n ends here there in omega (arith, n_is, same)
  | inr other ↦ is.least q n (omega (arith, low, other)) there
]

-- two ended with the same number
pub least-third : (chains : List (List Descriptor)) (k number s : ℕ) (l : Least) → IsLeast k chains l → EndsWith (chain_at chains k) number → l.number ≡ number → l.second ≡ Some s → IsLeast (k + 1) chains l
least-third chains k number s l is ends same second_is =
    let below = is.within in
    record {
      within = omega (arith, below);
      ends = is.ends;
      least = least-grown chains k number l is ends same;
      second = second-kept l.second second_is is.second;
    }
  where
    second-kept : (o : Option ℕ) → o ≡ Some s → MatchOption o (IsAlone k chains l.number l.first) (IsNext k chains l.number l.first)
        → MatchOption o (IsAlone (k + 1) chains l.number l.first) (IsNext (k + 1) chains l.number l.first)
    second-kept None some alone = absurd (let no : None ≡ Some s = some in cc)
    second-kept (Some t) some next = let w = next.within in record { order = next.order; within = omega (arith, w); ends = next.ends; others = next.others }

-- one ended with the same number
pub least-second : (chains : List (List Descriptor)) (k number : ℕ) (l : Least) → IsLeast k chains l → EndsWith (chain_at chains k) number → l.number ≡ number → l.second ≡ None
    → IsLeast (k + 1) chains (record { number = l.number; first = l.first; second = Some k })
least-second chains k number l is ends same second_is =
    let below = is.within in
    record {
      within = omega (arith, below);
      ends = is.ends;
      least = least-grown chains k number l is ends same;
      second = record {
        order = below;
        within = omega arith;
        ends = subst (EndsWith (chain_at chains k)) (sym same) ends;
        others = subst (λ (o : Option ℕ). MatchOption o (IsAlone k chains l.number l.first) (IsNext k chains l.number l.first)) second_is is.second;
      };
    }

-- ---- how the ends are read

pub read-chain : (chains : List (List Descriptor)) (q : ℕ) (chain ds : List Descriptor) → q < length chains → chain ≡ get_or chains q chain → ds ≡ chain → ds ≡ chain_at chains q
read-chain chains q chain ds within is same = same ∙ get_or_read chains q chain within is []

pub read-end : (chains : List (List Descriptor)) (q : ℕ) (ds : List Descriptor) (d e : Descriptor) → ds ≡ chain_at chains q → Some d ≡ slice_get ds (length ds - 1) → e ≡ d → EndsWith (chain_at chains q) e.number
read-end chains q ds d e is end same = (d, ap (λ (l : List Descriptor). slice_get l (length l - 1)) (sym is) ∙ sym end, ap (λ (x : Descriptor). x.number) (sym same))

none-some : (x : Descriptor) → None ≡ Some x → ⊥
none-some x e = cc

pub read-empty : (chains : List (List Descriptor)) (q : ℕ) (ds : List Descriptor) → ds ≡ chain_at chains q → None ≡ slice_get ds (length ds - 1) → chain_at chains q ≡ []
read-empty chains q [] is none = sym is
read-empty chains q (d ∷ ds) is none = absurd (apart d ds (length ds) (omega arith) (none ∙ ap (slice_get (d ∷ ds)) (omega arith)))
  where
    apart : (d : Descriptor) (ds : List Descriptor) (k : ℕ) → k < length (d ∷ ds) → None ≡ slice_get (d ∷ ds) k → ⊥
    apart d ds k low is = none-some (get_or (d ∷ ds) k d) (is ∙ slice_get-get_or (d ∷ ds) k d low)

-- where none has an end so far
pub first-end : (chains : List (List Descriptor)) (k number : ℕ) → AreEmpty k chains → EndsWith (chain_at chains k) number → IsLeast (k + 1) chains (record { number = number; first = k; second = None })
first-end chains k number empty ends = least-new chains k number ends (λ q n low there. absurd (empty-ends n (subst (λ (ds : List Descriptor). EndsWith ds n) (empty q low) there)))

pub more-empty : (chains : List (List Descriptor)) (k : ℕ) → AreEmpty k chains → chain_at chains k ≡ [] → AreEmpty (k + 1) chains
more-empty chains k empty is = λ q low. elim (cases_eq q k) [
  | inl same ↦ ap (chain_at chains) same ∙ is
  | inr other ↦ empty q (omega (arith, low, other))
]

pub skip-empty : (chains : List (List Descriptor)) (k : ℕ) (o : Option Least) → chain_at chains k ≡ [] → MatchOption o (AreEmpty k chains) (IsLeast k chains) → MatchOption o (AreEmpty (k + 1) chains) (IsLeast (k + 1) chains)
skip-empty chains k None is empty = more-empty chains k empty is
skip-empty chains k (Some l) is least = least-skip chains k l least is
