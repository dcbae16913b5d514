-- The words that are paths.
use Rattle.std.proofs.Common.{◌≡◌, ℕ, Bool, true, eqb, cond, Some, None, ◌<◌, List, [], ◌∷◌, length, take, drop, sym, ◌∙◌, ap, refl, arith}
use Rattle.std.specs.Prelude.{bytes_eq, codes}
use Rattle.std.specs.List.{slice_split}
use Rattle.std.specs.Option.{option_map}
use Rattle.mq_script.specs.Words.{after, names_in, path_in}

-- a text that begins so, and what follows
pub after_some : (front text p rest : List ℕ) → p ≡ front → bytes_eq (take (length p) text) p ≡ true → rest ≡ drop (length p) text → after front text ≡ Some rest
after_some front text p rest is begins follows =
    ap (λ f. after f text) (sym is) ∙ ap (λ (b : Bool). cond b (Some (drop (length p) text)) None) begins ∙ ap Some (sym follows)

names_some : (rest : List ℕ) → 0 < length rest → names_in rest ≡ slice_split (λ b. eqb b 47) rest
names_some [] some = absurd (omega arith)
names_some (b ∷ rest) some = refl

-- a path that is not the root
pub path_some : (text rest : List ℕ) (parts : List (List ℕ)) → after (codes "/") text ≡ Some rest → 0 < length rest → parts ≡ slice_split (λ b. eqb b 47) rest → path_in text ≡ Some parts
path_some text rest parts follows some are = ap (option_map names_in) follows ∙ ap Some (names_some rest some ∙ sym are)
