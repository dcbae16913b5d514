-- Lists of parts: what a list of runners is as a list of sessions, of answers and of tracks.
use Rattle.std.proofs.Common.{◌≡◌, ℕ, zero, suc, ◌<◌, List, [], ◌∷◌, ◌++◌, length, get_or, map, refl, sym, ap, ◌∙◌, subst, arith}
use Rattle.std.specs.Prelude.{Some, Result, Ok, Err, IfOk, slice_get}
use Rattle.std.specs.List.{All}
use Rattle.std.proofs.lemmas.List.Elements.{All-append, All-map}
use Rattle.std.proofs.lemmas.Option.{same_Some, slice_get_within}
use Rattle.mq_run.proofs.LinesGrowing.{all_got, got, image_at, map_twice}

module _ {X Y : Type 0} where
  pub if_both : (r : Result X Y) (P Q S : X → Type 0) → ((x : X) → P x → Q x → S x) → IfOk r P → IfOk r Q → IfOk r S
  if_both (Ok x) P Q S f p q = f x p q
  if_both (Err y) P Q S f p q = tt

  pub if_map : (r : Result X Y) (P S : X → Type 0) → ((x : X) → P x → S x) → IfOk r P → IfOk r S
  if_map (Ok x) P S f p = f x p
  if_map (Err y) P S f p = tt

module _ {A : Type 0} where
  got_behind : (xs ys : List A) (x : A) → slice_get (xs ++ x ∷ ys) (length xs) ≡ Some x
  got_behind [] ys x = refl
  got_behind (z ∷ zs) ys x = got_behind zs ys x

  alone : (Is : A → Type 0) (x : A) → Is x → All Is (x ∷ [])
  alone Is x here zero d lt = here
  alone Is x here (suc i) d lt = absurd (omega arith)

  pub all_at : (Is : A → Type 0) (xs : List A) (i : ℕ) (x : A) → All Is xs → slice_get xs i ≡ Some x → Is x
  all_at Is xs i x h at =
      let lt : i < length xs = slice_get_within xs i x at in
      subst Is (same_Some (get_or xs i x) x (sym (got xs i x lt) ∙ at)) (h i x lt)

  -- what holds of all holds of the one that comes next
  pub all_next : (Is : A → Type 0) (all done rest : List A) (x : A) → all ≡ done ++ x ∷ rest → All Is all → Is x
  all_next Is all done rest x whole h =
      let here : slice_get (done ++ x ∷ rest) (length done) ≡ Some x = got_behind done rest x in
      all_at Is all (length done) x h (ap (λ (zs : List A). slice_get zs (length done)) whole ∙ here)

  pub all_pushed : (Is : A → Type 0) (xs : List A) (x : A) → All Is xs → Is x → All Is (xs ++ x ∷ [])
  all_pushed Is xs x h here = All-append Is xs (x ∷ []) h (alone Is x here)

  pub along : (xs ys : List A) (i : ℕ) (x : A) → xs ≡ ys → slice_get xs i ≡ Some x → slice_get ys i ≡ Some x
  along xs ys i x same at = ap (λ (zs : List A). slice_get zs i) (sym same) ∙ at

module _ {A B : Type 0} (f : A → B) where
  -- what stands at a place of the images is the image of what stands there
  pub image_from : (xs : List A) (i : ℕ) (y : B) → slice_get (map f xs) i ≡ Some y → (x : A) × (slice_get xs i ≡ Some x) × (f x ≡ y)
  image_from [] i y e = absurd (cc)
  image_from (x ∷ xs) zero y e = (x, refl, same_Some (f x) y e)
  image_from (x ∷ xs) (suc i) y e = image_from xs i y e

module _ {A B C : Type 0} (f : A → C) (h : B → C) where
  map_append : {D : Type 0} (k : C → D) (xs ys : List C) → map k (xs ++ ys) ≡ map k xs ++ map k ys
  map_append k [] ys = refl
  map_append k (x ∷ xs) ys = ap (λ zs. k x ∷ zs) (map_append k xs ys)

  -- the images of the chairs of sessions and of helpers
  pub map_beside : {D : Type 0} (k : C → D) (xs : List A) (ys : List B) → map k (map f xs ++ map h ys) ≡ map (λ x. k (f x)) xs ++ map (λ y. k (h y)) ys
  map_beside k xs ys = map_append k (map f xs) (map h ys) ∙ (λ i. map_twice f k xs i ++ map_twice h k ys i)

  -- these chairs, each where it is and without a turn
  pub all_beside : (At Idle : C → Type 0) (Is : A → Type 0) (Too : B → Type 0) (xs : List A) (ys : List B) (zs : List C) → zs ≡ map f xs ++ map h ys → All At zs → All Is xs → All Too ys → ((x : A) → Is x → Idle (f x)) → ((y : B) → Too y → Idle (h y)) → All (λ z. At z × Idle z) zs
  all_beside At Idle Is Too xs ys zs is at first second idle too k d lt =
      let fs : All Idle (map f xs) = All-map Idle f xs (λ j e l. idle (get_or xs j e) (first j e l)) in
      let hs : All Idle (map h ys) = All-map Idle h ys (λ j e l. too (get_or ys j e) (second j e l)) in
      let all : All Idle zs = subst (λ (cs : List C). All Idle cs) (sym is) (All-append Idle (map f xs) (map h ys) fs hs) in
      (at k d lt, all k d lt)

module _ {A B : Type 0} (f : A → B) where
  -- what holds of all images holds of the image of each
  pub all_images : (Is : B → Type 0) (xs : List A) (ys : List B) → map f xs ≡ ys → All Is ys → All (λ x. Is (f x)) xs
  all_images Is xs ys is h = all_got (λ x. Is (f x)) xs (λ i x at. all_at Is ys i (f x) h (ap (λ (zs : List B). slice_get zs i) (sym is) ∙ image_at f xs i x at))

module _ {A B : Type 0} (f : B → A) where
  pub all_parts : (Is : A → Type 0) (ys : List B) (xs : List A) → xs ≡ map f ys → All (λ y. Is (f y)) ys → All Is xs
  all_parts Is ys xs is h = subst (λ (zs : List A). All Is zs) (sym is) (All-map Is f ys h)

module _ {A B : Type 0} where
  -- a list has an element wherever one of the same length has one
  pub partner : (xs : List A) (ys : List B) (i : ℕ) (x : A) (d : B) → length xs ≡ length ys → slice_get xs i ≡ Some x → slice_get ys i ≡ Some (get_or ys i d)
  partner xs ys i x d same at = let lt : i < length xs = slice_get_within xs i x at in got ys i d (omega arith)
