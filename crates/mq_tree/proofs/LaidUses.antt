-- The blocks that a volume uses.
use Rattle.std.proofs.Common.{◌≡◌, ℕ, zero, suc, List, [], ◌∷◌, Bool, true, cond, refl, sym, ap, subst, ◌∙◌, inl, inr, ◌⊎◌}
use Rattle.std.specs.Prelude.{Option, Some, None, slice_get, nat_eq}
use Rattle.std.proofs.lemmas.Bool.{eq-eqb, or_left, or_right, cases_Bool, true≢false}
use Rattle.mq_blocks.specs.Journal.{is_among}
use Rattle.mq_blocks.specs.Machine.{Map}
use Rattle.mq_blocks.specs.declared.geometry.Geometry.{Geometry}
use Rattle.mq_tree.specs.Laid.{IsLaid, IsPage, ShowsRegion, ShowsUse, ShowsZone}
use Rattle.mq_tree.specs.Volume.{Node, Volume, node, Use, Part, Pointers, block_in, has_block, is_block, is_taken}
use Rattle.mq_tree.proofs.LaidRegions.{region-zone}

among-get : (xs : List ℕ) (k b : ℕ) → slice_get xs k ≡ Some b → is_among b xs ≡ true
among-get [] k b e = absurd (cc)
among-get (x ∷ xs) zero b e = let s : x ≡ b = cc in let y = eq-eqb x b s in ap (λ (c : Bool). cond c true (is_among b xs)) y
among-get (x ∷ xs) (suc k) b e = elim (cases_Bool (nat_eq x b)) [
  | inl y ↦ ap (λ (c : Bool). cond c true (is_among b xs)) y
  | inr n ↦ ap (λ (c : Bool). cond c true (is_among b xs)) n ∙ among-get xs k b e
]

pub use-has : (n : Node) (b : ℕ) → ((k : ℕ) × (slice_get n.blocks k ≡ Some b)) ⊎ (n.indirect ≡ Some b) → has_block n b ≡ true
use-has n b (inl (k, e)) = or_left _ _ (among-get n.blocks k b e)
use-has n b (inr e) = or_right (is_among b n.blocks) (is_block b n.indirect) (ap (λ (o : Option ℕ). is_block b o) e ∙ eq-eqb b b refl)

pub has-taken : (v : Volume) (i b : ℕ) → has_block (node v i) b ≡ true → is_taken v b ≡ true
has-taken [] i b h = absurd (true≢false (sym h))
has-taken (n ∷ v) zero b h = or_left _ _ h
has-taken (n ∷ v) (suc i) b h = or_right (has_block n b) (is_taken v b) (has-taken v i b h)

-- what is used is taken
pub use-taken : (v : Volume) (u : Use) (b : ℕ) → block_in v u ≡ Some b → is_taken v b ≡ true
use-taken v (Part i k) b e = has-taken v i b (use-has (node v i) b (inl (k, e)))
use-taken v (Pointers i) b e = has-taken v i b (use-has (node v i) b (inr e))

-- ---- what stands there

pub some-of : {X : Type 0} (o : Option X) → (o ≡ None → ⊥) → (x : X) × (o ≡ Some x)
some-of None n = absurd (n refl)
some-of (Some x) n = (x, refl)

-- a page of a used block
pub record Page (v : Volume) (map : Map) (u : Use) (b : ℕ) : Type 0 where
  pub page : List ℕ
  pub there : map b ≡ Some page
  pub is : IsPage page
  pub shows : ShowsUse v u page

pub page-of : (g : Geometry) (map : Map) (v : Volume) (u : Use) (b : ℕ) → IsLaid g map v → block_in v u ≡ Some b → Page v map u b
page-of g map v u b laid e =
    let z = laid.sound.zones u b e in
    let some = some-of (map b) (λ none. true≢false (sym (use-taken v u b e) ∙ (laid.vacant b none).1)) in
    let shown = laid.shown b some.0 some.1 in
    let at : ShowsZone v b some.0 = subst (λ r. ShowsRegion g v b r some.0) (region-zone g b z.0 z.1) shown.1 in
    let same = laid.sound.apart at.purpose u b at.is e in
    record { page = some.0; there = some.1; is = shown.0; shows = subst (λ w. ShowsUse v w some.0) same at.shows }

-- what two volumes on a map use alike, they show alike
pub record Both (v w : Volume) (u : Use) : Type 0 where
  pub page : List ℕ
  pub left : ShowsUse v u page
  pub right : ShowsUse w u page

pub both-show : (g : Geometry) (map : Map) (v w : Volume) (u : Use) (b : ℕ) → IsLaid g map v → IsLaid g map w → block_in v u ≡ Some b → block_in w u ≡ Some b → Both v w u
both-show g map v w u b laid too e f =
    let p = page-of g map v u b laid e in
    let q = page-of g map w u b too f in
    let same : q.page ≡ p.page = let h = sym q.there ∙ p.there in cc in
    record { page = p.page; left = p.shows; right = subst (λ page. ShowsUse w u page) same q.shows }
