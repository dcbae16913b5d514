-- Pages that fit a volume but at some blocks, until these are put.
use Rattle.std.proofs.Common.{◌≡◌, ℕ, inl, inr, List, [], ◌∷◌, Bool, true, false, cond, refl, sym, ap, subst, ◌∙◌}
use Rattle.std.specs.Prelude.{Option, Some, None}
use Rattle.std.proofs.lemmas.Bool.{cases_eq, ne_eqb}
use Rattle.mq_blocks.specs.Journal.{is_among}
use Rattle.mq_blocks.specs.declared.geometry.Geometry.{Geometry}
use Rattle.mq_inodes.specs.Changes.{FitsAt, FitsBut, IsPut, SameAt}
use Rattle.mq_inodes.specs.Fits.{Fits}
use Rattle.mq_inodes.specs.Pages.{Pages}
use Rattle.mq_tree.specs.Laid.{IsVacant, ShowsPage}
use Rattle.mq_tree.specs.Volume.{Volume}

fits-at : (g : Geometry) (v : Volume) (b : ℕ) (o : Option (Option (List ℕ))) → ((page : List ℕ) → o ≡ Some (Some page) → ShowsPage g v b page) → (o ≡ Some None → IsVacant g v b) → FitsAt g o v b
fits-at g v b None held free = tt
fits-at g v b (Some None) held free = free refl
fits-at g v b (Some (Some page)) held free = held page refl

pub fits-all : (g : Geometry) (pages : Pages) (v : Volume) → Fits g pages v → (b : ℕ) → FitsAt g (pages b) v b
fits-all g pages v fits b = fits-at g v b (pages b) (fits.held b) (fits.free b)

pub same-fits : (g : Geometry) (v w : Volume) (b : ℕ) (o : Option (Option (List ℕ))) → SameAt g v w b → FitsAt g o v b → FitsAt g o w b
same-fits g v w b None same f = tt
same-fits g v w b (Some None) same f = same.vacant.0 f
same-fits g v w b (Some (Some page)) same f = (same.shows page).0 f

-- the volume changes, and what it shows changes at these blocks alone
pub fits-start : (g : Geometry) (pages : Pages) (v w : Volume) (blocks : List ℕ) → Fits g pages v → ((b : ℕ) → is_among b blocks ≡ false → SameAt g v w b) → FitsBut g pages w blocks
fits-start g pages v w blocks fits same b out = same-fits g v w b (pages b) (same b out) (fits-all g pages v fits b)

-- the page of one of them is put
pub fits-put : (g : Geometry) (old new : Pages) (v : Volume) (blocks : List ℕ) (b : ℕ) (page : Option (List ℕ)) → FitsBut g old v (b ∷ blocks) → IsPut old new b page → FitsAt g (Some page) v b → FitsBut g new v blocks
fits-put g old new v blocks b page fits put f x out = elim (cases_eq x b) [
  | inl e ↦
      let here : new x ≡ Some page = ap new e ∙ put.here in
      subst (λ o. FitsAt g o v x) (sym here) (subst (λ y. FitsAt g (Some page) v y) (sym e) f)
  | inr other ↦
      let n = ne_eqb b x (λ e. other (sym e)) in
      let rest : is_among x (b ∷ blocks) ≡ false = ap (λ (c : Bool). cond c true (is_among x blocks)) n ∙ out in
      subst (λ o. FitsAt g o v x) (sym (put.others x other)) (fits x rest)
]

held-at : (g : Geometry) (v : Volume) (b : ℕ) (o : Option (Option (List ℕ))) (page : List ℕ) → o ≡ Some (Some page) → FitsAt g o v b → ShowsPage g v b page
held-at g v b o page e f = subst (λ x. FitsAt g x v b) e f

free-at : (g : Geometry) (v : Volume) (b : ℕ) (o : Option (Option (List ℕ))) → o ≡ Some None → FitsAt g o v b → IsVacant g v b
free-at g v b o e f = subst (λ x. FitsAt g x v b) e f

-- all of them are put
pub fits-end : (g : Geometry) (pages : Pages) (v : Volume) → FitsBut g pages v [] → Fits g pages v
fits-end g pages v fits = record {
  held = λ b page e. held-at g v b (pages b) page e (fits b refl);
  free = λ b e. free-at g v b (pages b) e (fits b refl);
}
