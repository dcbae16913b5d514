-- The transactions of chains, taken one after another by rising number.
use Rattle.std.proofs.Common.{◌≡◌, ◌≢◌, ◌<◌, ◌≤◌, ◌⊎◌, inl, inr, ℕ, zero, suc, ◌+◌, ◌-◌, ◌^◌, List, [], ◌∷◌, ◌++◌, length, Option, Some, None, get_or, set, refl, sym, ◌∙◌, ap, subst, arith, append_assoc}
use Rattle.std.proofs.lemmas.Bool.{cases_eq, eq-eqb, ne_eqb}
use Rattle.std.proofs.lemmas.List.{append-nil, length-append, get_or-set_same, get_or-set_other}
use Rattle.std.proofs.Math.ListN.{length-set}
use Rattle.std.specs.Option.{option_to_list}
use Rattle.std.specs.Prelude.{slice_get, MatchOption, nat_eq, if◌then◌else◌}
use Rattle.mq_blocks.specs.Descriptor.{Descriptor, IsGood}
use Rattle.mq_blocks.specs.Limits.{list_limit}
use Rattle.mq_blocks.specs.Journal.{Has}
use Rattle.mq_recover.specs.Ends.{EndsWith, AreEmpty, IsOldest, AreTwoOldest, RefusesEnds}
use Rattle.mq_recover.specs.Merges.{AreMerged, HasNumber, IsMerging, IsTwice, RefusesTwice}
use Rattle.mq_recover.specs.Queues.{AreChains}
use Rattle.mq_recover.specs.Recover.{chain_at, AreGood, AreFalling, AreOf}
use Rattle.mq_recover.specs.declared.refusal.ImageFault.{ImageFault}
use Rattle.mq_recover.specs.declared.refusal.ImageFault.TheVariants.{Bad, Limit, Twice, OutOfMemory}
use Rattle.mq_recover.proofs.Ends.{end-once, empty-ends, read-chain}

-- ---- parts of chains

pub has-split : (xs ys : List Descriptor) (d : Descriptor) → Has (xs ++ ys) d → Has xs d ⊎ Has ys d
has-split [] ys d has = inr has
has-split (x ∷ xs) ys d has = elim has [ inl h ↦ inl (inl h) | inr h ↦ elim (has-split xs ys d h) [ inl k ↦ inl (inr k) | inr k ↦ inr k ] ]

pub has-left : (xs ys : List Descriptor) (d : Descriptor) → Has xs d → Has (xs ++ ys) d
has-left [] ys d has = absurd has
has-left (x ∷ xs) ys d has = elim has [ inl h ↦ inl h | inr h ↦ inr (has-left xs ys d h) ]

pub has-right : (xs ys : List Descriptor) (d : Descriptor) → Has ys d → Has (xs ++ ys) d
has-right [] ys d has = has
has-right (x ∷ xs) ys d has = inr (has-right xs ys d has)

pub falling-above : (low high : ℕ) (xs : List Descriptor) (d : Descriptor) → AreFalling low high xs → Has xs d → low < d.number
falling-above low high [] d falls has = absurd has
falling-above low high (x ∷ xs) d falls has = elim has [
  | inl h ↦ let same : x.number ≡ d.number = ap (λ (z : Descriptor). z.number) h in let b = falls.0 in omega (arith, same, b)
  | inr h ↦ falling-above low x.number xs d falls.2 h
]

pub falls-under : (low high : ℕ) (xs : List Descriptor) (d : Descriptor) → AreFalling low high xs → Has xs d → d.number < high
falls-under low high [] d falls has = absurd has
falls-under low high (x ∷ xs) d falls has = elim has [
  | inl h ↦ let same : x.number ≡ d.number = ap (λ (z : Descriptor). z.number) h in let b = falls.1 in omega (arith, same, b)
  | inr h ↦ let b = falls.1 in let c = falls-under low x.number xs d falls.2 h in omega (arith, b, c)
]

falling-left : (low high : ℕ) (xs ys : List Descriptor) → AreFalling low high (xs ++ ys) → AreFalling low high xs
falling-left low high [] ys falls = tt
falling-left low high (x ∷ xs) ys falls = (falls.0, falls.1, falling-left low x.number xs ys falls.2)

-- before the last all are above it
falling-before : (low high : ℕ) (xs : List Descriptor) (d : Descriptor) (e : Descriptor) → AreFalling low high (xs ++ d ∷ []) → Has xs e → d.number < e.number
falling-before low high [] d e falls has = absurd has
falling-before low high (x ∷ xs) d e falls has = elim has [
  | inl h ↦
      let same : x.number ≡ e.number = ap (λ (z : Descriptor). z.number) h in
      let b = falls-under low x.number (xs ++ d ∷ []) d falls.2 (has-right xs (d ∷ []) d (inl refl)) in
      omega (arith, same, b)
  | inr h ↦ falling-before low x.number xs d e falls.2 h
]

good-has : (homes : ℕ) (xs : List Descriptor) (d : Descriptor) → AreGood homes xs → Has xs d → IsGood list_limit homes d
good-has homes [] d good has = absurd has
good-has homes (x ∷ xs) d good has = elim has [ inl h ↦ subst (IsGood list_limit homes) h good.0 | inr h ↦ good-has homes xs d good.1 h ]

pub of-has : (q : ℕ) (xs : List Descriptor) (d : Descriptor) → AreOf q xs → Has xs d → d.queue ≡ q
of-has q [] d of has = absurd has
of-has q (x ∷ xs) d of has = elim has [ inl h ↦ ap (λ (z : Descriptor). z.queue) (sym h) ∙ of.0 | inr h ↦ of-has q xs d of.1 h ]

get-has : (xs : List Descriptor) (k : ℕ) (d : Descriptor) → slice_get xs k ≡ Some d → Has xs d
get-has [] k d is = absurd (none-some d is)
  where
    none-some : (d : Descriptor) → None ≡ Some d → ⊥
    none-some d e = cc
get-has (x ∷ xs) zero d is = inl cc
get-has (x ∷ xs) (suc k) d is = inr (get-has xs k d is)

ends-has : (xs : List Descriptor) (n : ℕ) → EndsWith xs n → HasNumber xs n
ends-has xs n ends = (ends.0, get-has xs (length xs - 1) ends.0 ends.1, ends.2)

last-get : (xs : List Descriptor) (d : Descriptor) → slice_get (xs ++ d ∷ []) (length xs) ≡ Some d
last-get [] d = refl
last-get (x ∷ xs) d = last-get xs d

ends-last : (xs : List Descriptor) (d : Descriptor) (n : ℕ) → EndsWith (xs ++ d ∷ []) n → d.number ≡ n
ends-last xs d n ends =
    let one : length (xs ++ d ∷ []) - 1 ≡ length xs = omega (arith, length-append xs (d ∷ [])) in
    end-once (xs ++ d ∷ []) d.number n (d, ap (slice_get (xs ++ d ∷ [])) one ∙ last-get xs d, refl) ends

ends-more : (x y : Descriptor) (ys : List Descriptor) (n : ℕ) → EndsWith (y ∷ ys) n → EndsWith (x ∷ y ∷ ys) n
ends-more x y ys n ends =
    let one : length (x ∷ y ∷ ys) - 1 ≡ suc (length (y ∷ ys) - 1) = omega arith in
    (ends.0, ap (slice_get (x ∷ y ∷ ys)) one ∙ ends.1, ends.2)

-- a chain that is not empty has an end, and its numbers are from that on
end-least : (low high : ℕ) (xs : List Descriptor) (d : Descriptor) → AreFalling low high xs → Has xs d → (n : ℕ) × EndsWith xs n × (n ≤ d.number)
end-least low high [] d falls has = absurd has
end-least low high (x ∷ []) d falls has = elim has [
  | inl h ↦ let same : x.number ≡ d.number = ap (λ (z : Descriptor). z.number) h in (x.number, (x, refl, refl), omega (arith, same))
  | inr h ↦ absurd h
]
end-least low high (x ∷ y ∷ ys) d falls has = elim has [
  | inl h ↦
      let same : x.number ≡ d.number = ap (λ (z : Descriptor). z.number) h in
      let more = end-least low x.number (y ∷ ys) y falls.2 (inl refl) in
      let b = falls.2.1 in
      let c = more.2 in
      (more.0, ends-more x y ys more.0 more.1, omega (arith, same, b, c))
  | inr h ↦
      let more = end-least low x.number (y ∷ ys) d falls.2 h in
      (more.0, ends-more x y ys more.0 more.1, more.2)
]

-- below another bound
falling-under : (low high other : ℕ) (xs : List Descriptor) → AreFalling low high xs → ((d : Descriptor) → Has xs d → d.number < other) → AreFalling low other xs
falling-under low high other [] falls under = tt
falling-under low high other (x ∷ xs) falls under = (falls.0, under x (inl refl), falls.2)

-- ---- what is left

-- before any was taken all are left
pub none-taken : (homes base : ℕ) (all : List (List Descriptor)) → AreChains homes base all → IsMerging homes base all all []
none-taken homes base all chains = record {
  chains_are = chains;
  count = refl;
  gone = λ q. [];
  parts = λ q low. sym (append-nil (chain_at all q));
  order = λ p q d e low lower gone has. absurd gone;
  apart = λ p q d e low lower other gone has. absurd gone;
  falling = tt;
  good = tt;
  from_gone = λ d has. absurd has;
  every = λ q d low has. absurd has;
}

-- a transaction that is left is one of the chain
left-has : (homes base : ℕ) (all left : List (List Descriptor)) (ds : List Descriptor) (q : ℕ) (d : Descriptor) → IsMerging homes base all left ds → q < length all → Has (chain_at left q) d → Has (chain_at all q) d
left-has homes base all left ds q d t low has = subst (λ (l : List Descriptor). Has l d) (sym (t.parts q low)) (has-left (chain_at left q) (t.gone q) d has)

-- so is one that is gone
gone-has : (homes base : ℕ) (all left : List (List Descriptor)) (ds : List Descriptor) (q : ℕ) (d : Descriptor) (t : IsMerging homes base all left ds) → q < length all → Has (t.gone q) d → Has (chain_at all q) d
gone-has homes base all left ds q d t low has = subst (λ (l : List Descriptor). Has l d) (sym (t.parts q low)) (has-right (chain_at left q) (t.gone q) d has)

left-falls : (homes base : ℕ) (all left : List (List Descriptor)) (ds : List Descriptor) (q : ℕ) → IsMerging homes base all left ds → q < length all → AreFalling base (2 ^ 64) (chain_at left q)
left-falls homes base all left ds q t low =
    falling-left base (2 ^ 64) (chain_at left q) (t.gone q) (subst (AreFalling base (2 ^ 64)) (t.parts q low) (t.chains_are.falling q low))

-- the number stands in a chain whose transactions of this number are gone, or left
has-parts : (homes base : ℕ) (all left : List (List Descriptor)) (ds : List Descriptor) (q : ℕ) (d : Descriptor) (t : IsMerging homes base all left ds) → q < length all → Has (chain_at all q) d
    → Has (chain_at left q) d ⊎ Has (t.gone q) d
has-parts homes base all left ds q d t low has = has-split (chain_at left q) (t.gone q) d (subst (λ (l : List Descriptor). Has l d) (t.parts q low) has)

-- ---- one more

-- one of a queue's is gone now
abbrev gone_more : (ℕ → List Descriptor) → ℕ → Descriptor → ℕ → List Descriptor
gone_more gone k d q = if nat_eq q k then d ∷ gone q else gone q

more-here : (gone : ℕ → List Descriptor) (k : ℕ) (d : Descriptor) → gone_more gone k d k ≡ d ∷ gone k
more-here gone k d = rw (eq-eqb k k refl) refl

more-other : (gone : ℕ → List Descriptor) (k q : ℕ) (d : Descriptor) → q ≢ k → gone_more gone k d q ≡ gone q
more-other gone k q d other = rw (ne_eqb q k other) refl

more-has : (gone : ℕ → List Descriptor) (k q : ℕ) (d e : Descriptor) → Has (gone_more gone k d q) e → ((q ≡ k) × (d ≡ e)) ⊎ Has (gone q) e
more-has gone k q d e has = elim (cases_eq q k) [
  | inl same ↦
      let at : gone_more gone k d q ≡ d ∷ gone q = ap (gone_more gone k d) same ∙ more-here gone k d ∙ ap (λ (n : ℕ). d ∷ gone n) (sym same) in
      elim (subst (λ (l : List Descriptor). Has l e) at has) [ inl h ↦ inl (same, h) | inr h ↦ inr h ]
  | inr other ↦ inr (subst (λ (l : List Descriptor). Has l e) (more-other gone k q d other) has)
]

-- one chain has lost its end, which had the least number, and no other the same
record IsPopped (left next : List (List Descriptor)) (k : ℕ) (d : Descriptor) : Type 0 where
  within : k < length left
  count : length next ≡ length left
  here : chain_at left k ≡ chain_at next k ++ d ∷ []
  other : (q : ℕ) → q ≢ k → chain_at next q ≡ chain_at left q
  above : (q : ℕ) (e : Descriptor) → q < length left → Has (chain_at next q) e → Has (chain_at left q) e × (d.number < e.number)

popped : (base : ℕ) (left next : List (List Descriptor)) (k : ℕ) (rest : List Descriptor) (d : Descriptor) → ((q : ℕ) → q < length left → AreFalling base (2 ^ 64) (chain_at left q)) → IsOldest left k
    → chain_at left k ≡ rest ++ d ∷ [] → next ≡ set left k rest → IsPopped left next k d
popped base left next k rest d falls oldest here next_is =
    let within = oldest.within in
    let at : chain_at next k ≡ rest = ap (λ (l : List (List Descriptor)). chain_at l k) next_is ∙ get_or-set_same left k rest [] within in
    let apart : (q : ℕ) → q ≢ k → chain_at next q ≡ chain_at left q = λ q other. ap (λ (l : List (List Descriptor)). chain_at l q) next_is ∙ get_or-set_other left k q rest [] other in
    let number : d.number ≡ oldest.number = ends-last rest d oldest.number (subst (λ (l : List Descriptor). EndsWith l oldest.number) here oldest.ends) in
    record {
      within = within;
      count = ap length next_is ∙ length-set left k rest;
      here = here ∙ ap (λ (l : List Descriptor). l ++ d ∷ []) (sym at);
      other = apart;
      above = λ q e low has. elim (cases_eq q k) [
        | inl same ↦
            let there : Has rest e = subst (λ (l : List Descriptor). Has l e) (ap (chain_at next) same ∙ at) has in
            let whole = subst (AreFalling base (2 ^ 64)) here (falls k within) in (
              subst (λ (l : List Descriptor). Has l e) (sym (ap (chain_at left) same ∙ here)) (has-left rest (d ∷ []) e there),
              falling-before base (2 ^ 64) rest d e whole there,
            )
        | inr other ↦
            let there : Has (chain_at left q) e = subst (λ (l : List Descriptor). Has l e) (apart q other) has in
            let end = end-least base (2 ^ 64) (chain_at left q) e (falls q low) there in
            let least = oldest.least q end.0 low end.1 in
            let high = end.2 in (
              there,
              elim (cases_eq end.0 oldest.number) [
                | inl same ↦ absurd (oldest.alone q low other (subst (EndsWith (chain_at left q)) same end.1))
                | inr more ↦ omega (arith, least, high, more, number)
              ],
            )
      ];
    }

-- what was gone is gone
gone-more : (gone : ℕ → List Descriptor) (k q : ℕ) (d e : Descriptor) → Has (gone q) e → Has (gone_more gone k d q) e
gone-more gone k q d e has = elim (cases_eq q k) [
  | inl same ↦
      let at : gone_more gone k d q ≡ d ∷ gone q = ap (gone_more gone k d) same ∙ more-here gone k d ∙ ap (λ (n : ℕ). d ∷ gone n) (sym same) in
      subst (λ (l : List Descriptor). Has l e) (sym at) (inr has)
  | inr other ↦ subst (λ (l : List Descriptor). Has l e) (sym (more-other gone k q d other)) has
]

parts-more : (homes base : ℕ) (all left next : List (List Descriptor)) (ds : List Descriptor) (k q : ℕ) (d : Descriptor) (t : IsMerging homes base all left ds) → IsPopped left next k d → q < length all
    → chain_at all q ≡ chain_at next q ++ gone_more t.gone k d q
parts-more homes base all left next ds k q d t p low = elim (cases_eq q k) [
  | inl same ↦
      ap (chain_at all) same
      ∙ t.parts k (subst (λ (n : ℕ). n < length all) same low)
      ∙ ap (λ (l : List Descriptor). l ++ t.gone k) p.here
      ∙ append_assoc (chain_at next k) (d ∷ []) (t.gone k)
      ∙ ap (λ (l : List Descriptor). chain_at next k ++ l) (sym (more-here t.gone k d))
      ∙ ap (λ (n : ℕ). chain_at next n ++ gone_more t.gone k d n) (sym same)
  | inr other ↦
      t.parts q low
      ∙ ap (λ (l : List Descriptor). l ++ t.gone q) (sym (p.other q other))
      ∙ ap (λ (l : List Descriptor). chain_at next q ++ l) (sym (more-other t.gone k q d other))
]

-- the number of one that goes is above all that went before it, and below all that are left
record IsOrdered (all next : List (List Descriptor)) (gone : ℕ → List Descriptor) : Type 0 where
  order : (p q : ℕ) (d e : Descriptor) → p < length all → q < length all → Has (gone p) d → Has (chain_at next q) e → d.number < e.number
  apart : (p q : ℕ) (d e : Descriptor) → p < length all → q < length all → p ≢ q → Has (gone p) d → Has (gone q) e → d.number ≢ e.number

here-has : (left next : List (List Descriptor)) (k : ℕ) (d : Descriptor) → IsPopped left next k d → Has (chain_at left k) d
here-has left next k d p = subst (λ (l : List Descriptor). Has l d) (sym p.here) (has-right (chain_at next k) (d ∷ []) d (inl refl))

ordered-more : (homes base : ℕ) (all left next : List (List Descriptor)) (ds : List Descriptor) (k : ℕ) (d : Descriptor) (t : IsMerging homes base all left ds) → IsPopped left next k d
    → IsOrdered all next (gone_more t.gone k d)
ordered-more homes base all left next ds k d t p =
    let count = t.count in
    let own = p.within in
    let within : k < length all = omega (arith, count, own) in
    let here = here-has left next k d p in
    record {
      order = λ q r e f low lower e_gone f_left.
          let there = p.above r f (omega (arith, count, lower)) f_left in
          elim (more-has t.gone k q d e e_gone) [
            | inl h ↦ let same : d.number ≡ e.number = ap (λ (z : Descriptor). z.number) h.1 in let b = there.1 in omega (arith, same, b)
            | inr h ↦ t.order q r e f low lower h there.0
          ];
      apart = λ q r e f low lower other e_gone f_gone.
          elim (more-has t.gone k q d e e_gone) [
            | inl h ↦
                let same : d.number ≡ e.number = ap (λ (z : Descriptor). z.number) h.1 in
                elim (more-has t.gone k r d f f_gone) [
                  | inl i ↦ absurd (other (h.0 ∙ sym i.0))
                  | inr i ↦ let b = t.order r k f d lower within i here in omega (arith, same, b)
                ]
            | inr h ↦ elim (more-has t.gone k r d f f_gone) [
              | inl i ↦
                  let same : d.number ≡ f.number = ap (λ (z : Descriptor). z.number) i.1 in
                  let b = t.order q k e d low within h here in
                  omega (arith, same, b)
              | inr i ↦ t.apart q r e f low lower other h i
            ]
          ];
    }

-- what is taken and left after one more
one-more : (homes base : ℕ) (all left next : List (List Descriptor)) (ds : List Descriptor) (k : ℕ) (d : Descriptor) (t : IsMerging homes base all left ds) → IsPopped left next k d → IsMerging homes base all next (d ∷ ds)
one-more homes base all left next ds k d t p =
    let count = t.count in
    let own = p.within in
    let within : k < length all = omega (arith, count, own) in
    let has = here-has left next k d p in
    let chains = t.chains_are in
    let in_all = left-has homes base all left ds k d t within has in
    let queue : d.queue ≡ k = of-has k (chain_at all k) d (chains.own k within) in_all in
    let ordered = ordered-more homes base all left next ds k d t p in
    record {
      chains_are = chains;
      count = p.count ∙ count;
      gone = gone_more t.gone k d;
      parts = λ q low. parts-more homes base all left next ds k q d t p low;
      order = ordered.order;
      apart = ordered.apart;
      falling = (
        falling-above base (2 ^ 64) (chain_at all k) d (chains.falling k within) in_all,
        falls-under base (2 ^ 64) (chain_at all k) d (chains.falling k within) in_all,
        falling-under base (2 ^ 64) d.number ds t.falling (λ e e_has. let at = t.from_gone e e_has in t.order e.queue k e d at.0 within at.1 has),
      );
      good = (good-has homes (chain_at all k) d (chains.good k within) in_all, t.good);
      from_gone = λ e e_has. elim e_has [
        | inl h ↦ subst (λ (z : Descriptor). (z.queue < length all) × Has (gone_more t.gone k d z.queue) z) h
            (omega (arith, queue, within), subst (λ (q : ℕ). Has (gone_more t.gone k d q) d) (sym queue) (subst (λ (l : List Descriptor). Has l d) (sym (more-here t.gone k d)) (inl refl)))
        | inr h ↦ let at = t.from_gone e h in (at.0, gone-more t.gone k e.queue d e at.1)
      ];
      every = λ q e low e_gone. elim (more-has t.gone k q d e e_gone) [
        | inl h ↦ inl h.1
        | inr h ↦ inr (t.every q e low h)
      ];
    }

-- ---- the end

-- where none is left, all are gone
all-gone : (homes base : ℕ) (all left : List (List Descriptor)) (ds : List Descriptor) (q : ℕ) (d : Descriptor) (t : IsMerging homes base all left ds) → AreEmpty (length left) left → q < length all
    → Has (chain_at all q) d → Has (t.gone q) d
all-gone homes base all left ds q d t empty low has =
    let count = t.count in
    let is : chain_at all q ≡ t.gone q = t.parts q low ∙ ap (λ (l : List Descriptor). l ++ t.gone q) (empty q (omega (arith, count, low))) in
    subst (λ (l : List Descriptor). Has l d) is has

all-merged : (homes base : ℕ) (all left : List (List Descriptor)) (ds : List Descriptor) → IsMerging homes base all left ds → AreEmpty (length left) left → AreMerged homes base all ds
all-merged homes base all left ds t empty = record {
  falling = t.falling;
  good = t.good;
  from_chains = λ d has. let at = t.from_gone d has in (at.0, gone-has homes base all left ds d.queue d t at.0 at.1);
  every = λ q d low has. t.every q d low (all-gone homes base all left ds q d t empty low has);
  once = λ q r low lower other d e d_has e_has.
      t.apart q r d e low lower other (all-gone homes base all left ds q d t empty low d_has) (all-gone homes base all left ds r e t empty lower e_has);
}

-- two ends with the least number are the first two of the least number in two chains
two-twice : (homes base : ℕ) (all left : List (List Descriptor)) (ds : List Descriptor) (number first second : ℕ) → IsMerging homes base all left ds
    → AreTwoOldest left number first second → IsTwice (length all) (chain_at all) number first second
two-twice homes base all left ds number first second t two =
    let count = t.count in
    let order = two.next.order in
    let inside = two.next.within in
    let low : second < length all = omega (arith, count, inside) in
    let lower : first < length all = omega (arith, order, low) in
    let one = ends-has (chain_at left first) number two.ends in
    let other = ends-has (chain_at left second) number two.next.ends in
    record {
      order = order;
      within = low;
      in_first = (one.0, left-has homes base all left ds first one.0 t lower one.1, one.2);
      in_second = (other.0, left-has homes base all left ds second other.0 t low other.1, other.2);
      least = λ n q r q_r r_low in_q in_r.
          let q_low : q < length all = omega (arith, q_r, r_low) in
          let is_q = in_q.2 in
          let is_r = in_r.2 in
          elim (has-parts homes base all left ds q in_q.0 t q_low in_q.1) [
            | inl h ↦
                let end = end-least base (2 ^ 64) (chain_at left q) in_q.0 (left-falls homes base all left ds q t q_low) h in
                let a = two.least q end.0 (omega (arith, count, q_low)) end.1 in
                let b = end.2 in
                omega (arith, a, b, is_q)
            | inr h ↦ elim (has-parts homes base all left ds r in_r.0 t r_low in_r.1) [
              | inl i ↦ let b = t.order q r in_q.0 in_r.0 q_low r_low h i in absurd (omega (arith, b, is_q, is_r))
              | inr i ↦ absurd (t.apart q r in_q.0 in_r.0 q_low r_low (omega (arith, q_r)) h i (is_q ∙ sym is_r))
            ]
          ];
      others = λ q q_low apart in_q.
          let q_in : q < length all = omega (arith, q_low, low) in
          let is_q = in_q.2 in
          let is_one = one.2 in
          elim (has-parts homes base all left ds q in_q.0 t q_in in_q.1) [
            | inl h ↦
                let end = end-least base (2 ^ 64) (chain_at left q) in_q.0 (left-falls homes base all left ds q t q_in) h in
                let a = two.least q end.0 (omega (arith, count, q_in)) end.1 in
                let b = end.2 in
                two.next.others q q_low apart (subst (EndsWith (chain_at left q)) (omega (arith, a, b, is_q)) end.1)
            | inr h ↦ let b = t.order q first in_q.0 one.0 q_in lower h one.1 in absurd (omega (arith, b, is_q, is_one))
          ];
    }

-- ---- as the call has it

-- the oldest that was read from these chains
oldest-in : (left seen : List (List Descriptor)) (k i : ℕ) (o : Option ℕ) → MatchOption o (AreEmpty (length seen) seen) (IsOldest seen) → seen ≡ left → o ≡ Some k → i ≡ k → IsOldest left i
oldest-in left seen k i o found seen_is some at =
    let oldest : IsOldest seen k = subst (λ (x : Option ℕ). MatchOption x (AreEmpty (length seen) seen) (IsOldest seen)) some found in
    subst (IsOldest left) (sym at) (subst (λ (l : List (List Descriptor)). IsOldest l k) seen_is oldest)

-- the chain of the oldest is not empty
oldest-some : (left seen : List (List Descriptor)) (k i : ℕ) (o : Option ℕ) (chain items : List Descriptor) → MatchOption o (AreEmpty (length seen) seen) (IsOldest seen) → seen ≡ left → o ≡ Some k → i ≡ k → chain ≡ get_or left i chain → items ≡ chain → items ≡ [] → ⊥
oldest-some left seen k i o chain items found seen_is some at chain_is items_is none =
    let here = oldest-in left seen k i o found seen_is some at in
    let read : items ≡ chain_at left i = read-chain left i chain items here.within chain_is items_is in
    empty-ends here.number (subst (λ (l : List Descriptor). EndsWith l here.number) (sym read ∙ none) here.ends)

-- the last of this chain is the oldest of all
oldest-taken : (left seen : List (List Descriptor)) (k i : ℕ) (o : Option ℕ) (chain items rest : List Descriptor) (d : Descriptor) → MatchOption o (AreEmpty (length seen) seen) (IsOldest seen) → seen ≡ left → o ≡ Some k → i ≡ k → chain ≡ get_or left i chain → items ≡ chain → items ≡ rest ++ d ∷ []
    → (homes base : ℕ) (all : List (List Descriptor)) (ds : List Descriptor) → IsMerging homes base all left ds → IsMerging homes base all (set left i rest) (d ∷ ds)
oldest-taken left seen k i o chain items rest d found seen_is some at chain_is items_is parts homes base all ds t =
    let here = oldest-in left seen k i o found seen_is some at in
    let read : items ≡ chain_at left i = read-chain left i chain items here.within chain_is items_is in
    let count = t.count in
    let falls : (q : ℕ) → q < length left → AreFalling base (2 ^ 64) (chain_at left q) = λ q low. left-falls homes base all left ds q t (omega (arith, count, low)) in
    one-more homes base all left (set left i rest) ds i d t (popped base left (set left i rest) i rest d falls here (sym read ∙ parts) refl)

empty-items : (items : List Descriptor) → length items ≡ 0 → items ≡ []
empty-items [] none = refl
empty-items (x ∷ xs) none = absurd (omega (arith, none))

-- what was popped of the chain of the oldest
pub popped-merging : (left seen next : List (List Descriptor)) (k i n m : ℕ) (o : Option ℕ) (chain items rest : List Descriptor) (result : Option Descriptor) → MatchOption o (AreEmpty (length seen) seen) (IsOldest seen) → seen ≡ left → o ≡ Some k → i ≡ k → chain ≡ get_or left i chain → items ≡ chain
    → items ≡ rest ++ option_to_list result → n ≡ length items → MatchOption result ((n ≡ 0) × (m ≡ 0)) (λ _. m + 1 ≡ n) → next ≡ set left i rest
    → (homes base : ℕ) (all : List (List Descriptor)) (ds : List Descriptor) → IsMerging homes base all left ds → MatchOption result (AreMerged homes base all ds) (λ d. IsMerging homes base all next (d ∷ ds))
popped-merging left seen next k i n m o chain items rest None found seen_is some at chain_is items_is parts long cases next_is homes base all ds t =
    let zero_is = cases.0 in
    absurd (oldest-some left seen k i o chain items found seen_is some at chain_is items_is (empty-items items (omega (arith, long, zero_is))))
popped-merging left seen next k i n m o chain items rest (Some d) found seen_is some at chain_is items_is parts long cases next_is homes base all ds t =
    subst (λ (l : List (List Descriptor)). IsMerging homes base all l (d ∷ ds)) (sym next_is) (oldest-taken left seen k i o chain items rest d found seen_is some at chain_is items_is parts homes base all ds t)

pub none-left : (left seen : List (List Descriptor)) (o : Option ℕ) → MatchOption o (AreEmpty (length seen) seen) (IsOldest seen) → seen ≡ left → o ≡ None
    → (homes base : ℕ) (all : List (List Descriptor)) (ds : List Descriptor) → IsMerging homes base all left ds → AreMerged homes base all ds
none-left left seen o found seen_is none homes base all ds t =
    let empty : AreEmpty (length seen) seen = subst (λ (x : Option ℕ). MatchOption x (AreEmpty (length seen) seen) (IsOldest seen)) none found in
    all-merged homes base all left ds t (subst (λ (l : List (List Descriptor)). AreEmpty (length l) l) seen_is empty)

pub ends-refused : (left seen : List (List Descriptor)) (e : ImageFault) → RefusesEnds seen e → seen ≡ left
    → (homes base : ℕ) (all : List (List Descriptor)) (ds : List Descriptor) → IsMerging homes base all left ds → RefusesTwice all e
ends-refused left seen (Twice n first second) refuses is homes base all ds t =
    two-twice homes base all left ds n first second t (subst (λ (l : List (List Descriptor)). AreTwoOldest l n first second) is refuses)
ends-refused left seen (Bad q cause) refuses is homes base all ds t = absurd refuses
ends-refused left seen (Limit n) refuses is homes base all ds t = absurd refuses
ends-refused left seen OutOfMemory refuses is homes base all ds t = absurd refuses
