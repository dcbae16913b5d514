-- Lists that are made of equal parts, one behind another.
use Rattle.std.proofs.Common.{get_or, ◌≡◌, ℕ, zero, suc, ◌+◌, ◌*◌, ◌<◌, List, [], ◌∷◌, ◌++◌, length, take, drop, map, refl, sym, ap, ◌∙◌, arith, length-append}
use Rattle.std.specs.List.{All, flat_map}
use Rattle.std.proofs.lemmas.List.{map-append, take_at, drop_at}
use Rattle.std.proofs.lemmas.List.Elements.{All-head, All-tail}

-- two lists of which the first parts have one length
pub append_parts : {A : Type 0} (xs ys more rest : List A) → length xs ≡ length ys → xs ++ more ≡ ys ++ rest → (xs ≡ ys) × (more ≡ rest)
append_parts {A} xs ys more rest n e = (
  sym (take_at xs more (length xs) refl) ∙ ap (λ (l : List A). take (length xs) l) e ∙ take_at ys rest (length xs) (sym n),
  sym (drop_at xs more (length xs) refl) ∙ ap (λ (l : List A). drop (length xs) l) e ∙ drop_at ys rest (length xs) (sym n),
)

pub length-parts : {X A : Type 0} (f : X → List A) (n : ℕ) (xs : List X) → All (λ x. length (f x) ≡ n) xs → length (flat_map f xs) ≡ n * length xs
length-parts f n [] h = omega arith
length-parts f n (x ∷ xs) h =
    let a = length-append (f x) (flat_map f xs) in
    let b : length (f x) ≡ n = All-head (λ y. length (f y) ≡ n) x xs h in
    let i = length-parts f n xs (All-tail (λ y. length (f y) ≡ n) x xs h) in
    let s : n * suc (length xs) ≡ n + n * length xs = omega arith in
    omega arith

-- parts of one length are the same, one by one
pub same_parts :
    {X A : Type 0} (f h : X → List A) (n : ℕ) (d : X) (xs ys : List X) → length xs ≡ length ys → All (λ x. length (f x) ≡ n) xs → All (λ x. length (h x) ≡ n) ys
    → flat_map f xs ≡ flat_map h ys → (k : ℕ) → k < length xs → f (get_or xs k d) ≡ h (get_or ys k d)
same_parts f h n d [] ys e p q same k l = absurd (omega arith)
same_parts f h n d (x ∷ xs) [] e p q same k l = absurd (omega arith)
same_parts f h n d (x ∷ xs) (y ∷ ys) e p q same zero l =
    let a : length (f x) ≡ n = All-head (λ z. length (f z) ≡ n) x xs p in
    let b : length (h y) ≡ n = All-head (λ z. length (h z) ≡ n) y ys q in
    (append_parts (f x) (h y) (flat_map f xs) (flat_map h ys) (a ∙ sym b) same).0
same_parts f h n d (x ∷ xs) (y ∷ ys) e p q same (suc k) l =
    let a : length (f x) ≡ n = All-head (λ z. length (f z) ≡ n) x xs p in
    let b : length (h y) ≡ n = All-head (λ z. length (h z) ≡ n) y ys q in
    let rest = (append_parts (f x) (h y) (flat_map f xs) (flat_map h ys) (a ∙ sym b) same).1 in
    same_parts f h n d xs ys (omega arith) (All-tail (λ z. length (f z) ≡ n) x xs p) (All-tail (λ z. length (h z) ≡ n) y ys q) rest k (omega arith)

pub map-parts : {X A B : Type 0} (g : A → B) (f : X → List A) (xs : List X) → map g (flat_map f xs) ≡ flat_map (λ x. map g (f x)) xs
map-parts g f [] = refl
map-parts {X} {A} {B} g f (x ∷ xs) = map-append g (f x) (flat_map f xs) ∙ ap (λ (r : List B). map g (f x) ++ r) (map-parts g f xs)
