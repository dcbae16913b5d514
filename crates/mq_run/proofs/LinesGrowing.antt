-- Lists that grow by the item at the next place of another, and what is at a place.
use Rattle.std.proofs.Common.{◌≡◌, ℕ, zero, suc, ◌+◌, ◌<◌, List, [], ◌∷◌, ◌++◌, length, get_or, map, take, refl, ap, sym, subst, ◌∙◌, add-one, arith}
use Rattle.std.specs.Prelude.{Some, slice_get}
use Rattle.std.specs.List.{All}
use Rattle.std.proofs.lemmas.List.{map_push}
use Rattle.std.proofs.lemmas.Option.{same_Some}
use Rattle.mq_calls.specs.declared.entry.FileEntry.{FileEntry}
use Rattle.mq_report.specs.declared.line.Line.{Line}
use Rattle.mq_run.specs.Lines.{AreCommitLines, IsCommitLine}
use Rattle.mq_run.specs.Lines.AreCommitLines.{none, more}

module _ {A : Type 0} where
  taken : (xs : List A) (i : ℕ) (x : A) → slice_get xs i ≡ Some x → take (suc i) xs ≡ take i xs ++ x ∷ []
  taken [] i x e = absurd (cc)
  taken (y ∷ ys) zero x e = ap (λ (z : A). z ∷ []) (same_Some y x e)
  taken (y ∷ ys) (suc i) x e = ap (λ (zs : List A). y ∷ zs) (taken ys i x e)

  pub take_next : (xs : List A) (i : ℕ) (x : A) → slice_get xs i ≡ Some x → take (i + 1) xs ≡ take i xs ++ x ∷ []
  take_next xs i x e = rw add-one (taken xs i x e)

  pub got : (xs : List A) (i : ℕ) (d : A) → i < length xs → slice_get xs i ≡ Some (get_or xs i d)
  got [] i d lt = absurd (omega arith)
  got (x ∷ xs) zero d lt = refl
  got (x ∷ xs) (suc i) d lt = got xs i d (omega arith)

  pub all_rest : (P : A → Type 0) (xs ys : List A) (x : A) → xs ≡ x ∷ ys → All P xs → All P ys
  all_rest P xs ys x e h k d lt = (subst (λ (zs : List A). All P zs) e h) (suc k) d (omega arith)

  pub all_got : (P : A → Type 0) (xs : List A) → ((i : ℕ) (x : A) → slice_get xs i ≡ Some x → P x) → All P xs
  all_got P xs h i d lt = h i (get_or xs i d) (got xs i d lt)

module _ {A B C : Type 0} (f : A → C) (g : B → C) where
  -- two lists with the same images have the same image at a place
  pub same_at : (xs : List A) (ys : List B) (i : ℕ) (x : A) (y : B) → map f xs ≡ map g ys → slice_get xs i ≡ Some x → slice_get ys i ≡ Some y → f x ≡ g y
  same_at [] ys i x y e at to = absurd (cc)
  same_at (a ∷ az) [] i x y e at to = absurd (cc)
  same_at (a ∷ az) (b ∷ bs) zero x y e at to =
      let same : f a ≡ g b = cc in ap f (sym (same_Some a x at)) ∙ (same ∙ ap g (same_Some b y to))
  same_at (a ∷ az) (b ∷ bs) (suc i) x y e at to =
      let rest : map f az ≡ map g bs = cc in same_at az bs i x y rest at to

module _ {A B : Type 0} (f : A → B) where
  pub map_twice : {C : Type 0} (g : B → C) (xs : List A) → map g (map f xs) ≡ map (λ x. g (f x)) xs
  map_twice g [] = refl
  map_twice g (x ∷ xs) = ap (λ zs. g (f x) ∷ zs) (map_twice g xs)

  -- what stands at a place of the images
  pub image_at : (xs : List A) (i : ℕ) (x : A) → slice_get xs i ≡ Some x → slice_get (map f xs) i ≡ Some (f x)
  image_at [] i x e = absurd (cc)
  image_at (a ∷ az) zero x e = ap (λ (z : A). Some (f z)) (same_Some a x e)
  image_at (a ∷ az) (suc i) x e = image_at az i x e

  pub map_next : (xs : List A) (ys : List B) (i : ℕ) (x : A) → ys ≡ map f (take i xs) → slice_get xs i ≡ Some x → ys ++ f x ∷ [] ≡ map f (take (i + 1) xs)
  map_next xs ys i x e at =
      ap (λ (zs : List B). zs ++ f x ∷ []) e ∙ (sym (map_push f (take i xs) x) ∙ ap (map f) (sym (take_next xs i x at)))

commit_pushed : {es : List (ℕ × FileEntry)} {ls : List Line} (n : ℕ) (e : FileEntry) (l : Line) → AreCommitLines es ls → IsCommitLine n e l → AreCommitLines (es ++ (n, e) ∷ []) (ls ++ l ∷ [])
commit_pushed n e l none this = more this none
commit_pushed n e l (more one rest) this = more one (commit_pushed n e l rest this)

pub commit_next : (hs : List (ℕ × FileEntry)) (i n : ℕ) (e : FileEntry) (l : Line) (ls : List Line) → AreCommitLines (take i hs) ls → slice_get hs i ≡ Some (n, e) → IsCommitLine n e l → AreCommitLines (take (i + 1) hs) (ls ++ l ∷ [])
commit_next hs i n e l ls h at this =
    subst (λ (es : List (ℕ × FileEntry)). AreCommitLines es (ls ++ l ∷ [])) (sym (take_next hs i (n, e) at)) (commit_pushed n e l h this)

pub commit_start : (hs : List (ℕ × FileEntry)) (ls : List Line) → ls ≡ [] → AreCommitLines (take 0 hs) ls
commit_start hs ls e = subst (λ (xs : List Line). AreCommitLines [] xs) (sym e) none
