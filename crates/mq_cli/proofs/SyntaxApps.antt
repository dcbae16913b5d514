-- The commands as `clap` has them, built up an argument at a time.
use Rattle.std.proofs.Common.{◌≡◌, ◌≢◌, ◌<◌, ℕ, true, subst, ◌+◌, List, [], ◌∷◌, ◌++◌, length, get_or, map, take, Option, None, refl, sym, ◌∙◌, ap, append_assoc}
use Rattle.std.proofs.lemmas.List.{map-append, append-nil}
use Rattle.mq_block_text.proofs.TextLines.{map_take_more}
use Rattle.clap.specs.Words.{App, IsAmong, Kinds, Rule, Text, is_simple, is_simple_and_free, with_rule}
use Rattle.clap.specs.declared.error.kind.ErrorKind.{ErrorKind}
use Rattle.mq_cli.specs.Syntax.{app_for, app_with, name_rule, option_rule, repeated_rules}
use Rattle.mq_cli.specs.declared.verb.Verb.{Verb}
use Rattle.mq_cli.specs.declared.verb.Verb.TheVariants.{Blocks, Format, Run, Recover, Ls, Cat, Gen, Dump, Check, Audit, Replicate, Loose}

-- one name more
pub name_more : (verb : Text) (names : List Text) (name : Text) → with_rule (app_with verb names None []) (name_rule name) ≡ app_with verb (names ++ name ∷ []) None []
name_more verb names name =
    ap (λ (rules : List Rule). record (app_with verb names None []) { top = record (app_with verb names None []).top { rules = rules } })
    (ap (λ (l : List Rule). l ++ name_rule name ∷ []) (append-nil (map name_rule names)) ∙ sym (map-append name_rule names (name ∷ [])) ∙ sym (append-nil (map name_rule (names ++ name ∷ []))))

-- one option more
pub option_more : (verb : Text) (names : List Text) (repeated : Option Text) (options : List Text) (option : Text)
    → with_rule (app_with verb names repeated options) (option_rule option) ≡ app_with verb names repeated (options ++ option ∷ [])
option_more verb names repeated options option =
    ap (λ (rules : List Rule). record (app_with verb names None []) { top = record (app_with verb names None []).top { rules = rules } })
    (append_assoc (map name_rule names) (repeated_rules repeated ++ map option_rule options) (option_rule option ∷ [])
    ∙ ap (λ (l : List Rule). map name_rule names ++ l)
    (append_assoc (repeated_rules repeated) (map option_rule options) (option_rule option ∷ [])
    ∙ ap (λ (l : List Rule). repeated_rules repeated ++ l) (sym (map-append option_rule options (option ∷ [])))))

-- a step of the loop over names, or over options
pub step : {X : Type 0} (now : X → Text) (made : List Text → App) (rule : Text → Rule) → ((xs : List Text) (x : Text) → with_rule (made xs) (rule x) ≡ made (xs ++ x ∷ []))
    → (items : List X) (k : ℕ) (d : X) → k < length items → (old new : App) → old ≡ made (map now (take k items)) → new ≡ with_rule old (rule (now (get_or items k d))) → new ≡ made (map now (take (k + 1) items))
step now made rule more items k d low old new is adds =
    adds ∙ ap (λ (a : App). with_rule a (rule (now (get_or items k d)))) is ∙ more (map now (take k items)) (now (get_or items k d)) ∙ ap made (sym (map_take_more now items k d low))

-- each is a command of which `clap` states exactly what it takes
pub simple_and_free : (v : Verb) → is_simple_and_free (app_for v) ≡ true
unfolding app_for
simple_and_free Blocks = refl
simple_and_free Format = refl
simple_and_free Run = refl
simple_and_free Recover = refl
simple_and_free Ls = refl
simple_and_free Cat = refl
simple_and_free Gen = refl
simple_and_free Dump = refl
simple_and_free Check = refl
simple_and_free Audit = refl
simple_and_free Replicate = refl
simple_and_free Loose = refl

pub simple : (v : Verb) → is_simple (app_for v) ≡ true
unfolding app_for
simple Blocks = refl
simple Format = refl
simple Run = refl
simple Recover = refl
simple Ls = refl
simple Cat = refl
simple Gen = refl
simple Dump = refl
simple Check = refl
simple Audit = refl
simple Replicate = refl
simple Loose = refl

-- a kind is among some
pub some_kind : (k : ErrorKind) (kinds : Kinds) → IsAmong k kinds → kinds ≢ []
some_kind k kinds among none = subst (IsAmong k) none among
