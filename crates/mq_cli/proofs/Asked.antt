-- What words ask, step by step.
use Rattle.std.proofs.Common.{◌≡◌, ◌≢◌, ◌<◌, ◌≤◌, ◌-◌, ◌⊎◌, inl, inr, ℕ, Bor, Bool, cond, List, [], ◌∷◌, get_or, map, take, drop, length, length-drop, Option, Some, None, refl, sym, ◌∙◌, ap, arith}
use Rattle.std.specs.Prelude.{MatchResult, Result, Ok, Err, option_and_then, option_map}
use Rattle.std.proofs.lemmas.Bool.{lt-ltb}
use Rattle.std.proofs.lemmas.List.{take_all}
use Rattle.clap.specs.Words.{Kinds, Row, Text, fault_of, matches_of}
use Rattle.mq_block_text.specs.Words.{number_in}
use Rattle.mq_cli.specs.Asked.{Commands, Words, asked_first, asked_in, below, first_in, found_in, is_empty, number_within, some_words}
use Rattle.mq_cli.specs.declared.first.First.{First}
use Rattle.mq_cli.specs.declared.refusal.WordsRefusal.{WordsRefusal}
use Rattle.mq_cli.specs.declared.refusal.WordsRefusal.TheVariants.{OutOfMemory, Unknown}

pub within_some : (limit v : ℕ) (text : Text) → Some v ≡ number_in text → v < limit → Some v ≡ number_within limit text
within_some limit v text is low = ap (λ (b : Bool). cond b (Some v) None) (sym (lt-ltb v limit low)) ∙ ap (option_and_then (below limit)) is

-- where `clap` finds no fault, the words ask what it finds
pub found_taken : {V A : Type 0} (commands : Commands V A) (v : V) (words : Words) (rows : List Row) → fault_of (commands.app_for v) words ≡ [] → rows ≡ matches_of (commands.app_for v) words → found_in commands v words ≡ commands.asked_by v rows
unfolding found_in
found_taken commands v words rows taken is =
    ap (λ (ks : Kinds). cond (is_empty ks) (commands.asked_by v (matches_of (commands.app_for v) words)) None) taken ∙ ap (commands.asked_by v) (sym is)

none_if : {A : Type 0} (kinds : Kinds) (found : Option A) → kinds ≢ [] → cond (is_empty kinds) found None ≡ None
none_if [] found some = absurd (some refl)
none_if (k ∷ ks) found some = refl

-- where it finds one, they ask nothing
pub found_refused : {V A : Type 0} (commands : Commands V A) (v : V) (words : Words) → fault_of (commands.app_for v) words ≢ [] → found_in commands v words ≡ None
unfolding found_in
found_refused commands v words some = none_if (fault_of (commands.app_for v) words) (commands.asked_by v (matches_of (commands.app_for v) words)) some

pub refused_as : {V A : Type 0} (commands : Commands V A) (v : V) (words : Words) (wanted : Option A) (e : WordsRefusal) → wanted ≡ found_in commands v words → (e ≡ OutOfMemory) ⊎ ((e ≡ Unknown) × (fault_of (commands.app_for v) words ≢ []))
    → (e ≡ OutOfMemory) ⊎ ((e ≡ Unknown) × (wanted ≡ None))
refused_as commands v words wanted e same (inl memory) = inl memory
refused_as commands v words wanted e same (inr other) = inr (other.0, same ∙ found_refused commands v words other.1)

pub none_as : {A : Type 0} (found : Option A) (other : Option A) (e : WordsRefusal) → other ≡ found → (e ≡ OutOfMemory) ⊎ ((e ≡ Unknown) × (found ≡ None)) → (e ≡ OutOfMemory) ⊎ ((e ≡ Unknown) × (other ≡ None))
none_as found other e same (inl memory) = inl memory
none_as found other e same (inr not) = inr (not.0, same ∙ not.1)

-- words whose first is known
first_word : {A : Type 0} (f : A → Text) (xs : List A) (a : A) → 1 ≤ length xs → a ≡ get_or xs 0 a → map f xs ≡ f a ∷ map f (drop 1 xs)
first_word f [] a some is = absurd (omega arith)
first_word {A = A} f (x ∷ xs) a some is = ap (λ (y : A). f y ∷ map f xs) (sym is)

-- what they ask, by what the first says, and the others behind it
pub asked_by_first : {V A X : Type 0} (commands : Commands V A) (f : X → Text) (xs : List X) (a : X) (word : Text) (r : Option (First V)) → 1 ≤ length xs → a ≡ get_or xs 0 a → word ≡ f a → first_in (commands.verb_of word) word (map f (take (length xs - 1) (drop 1 xs))) ≡ r
    → asked_in commands (map f xs) ≡ option_and_then (asked_first commands (map f xs)) r
asked_by_first {V = V} {X = X} commands f xs a word r some is same first =
    let e = first_word f xs a some is in
    let rest = map f (drop 1 xs) in
    let whole : take (length xs - 1) (drop 1 xs) ≡ drop 1 xs = take_all (length xs - 1) (drop 1 xs) (let n = length-drop 1 xs in omega arith) in
    ap (asked_in commands) e ∙ ap (λ (w : Text). option_and_then (asked_first commands (f a ∷ rest)) (first_in (commands.verb_of w) w rest)) (sym same)
    ∙ ap (λ (o : Option (First V)). option_and_then (asked_first commands (f a ∷ rest)) o) (ap (λ (ys : List X). first_in (commands.verb_of word) word (map f ys)) (sym whole) ∙ first) ∙ ap (λ (ws : Words). option_and_then (asked_first commands ws) r) (sym e)

-- what is read of a value that was found
pub reads_as : {A E : Type 0} {B : Type 0} (r : Result A E) (f : B → Option A) (x y : B) (Other : E → Type 0) → x ≡ y → MatchResult r (λ a. f x ≡ Some a) (λ e. Other e × (f x ≡ None)) → MatchResult r (λ a. f y ≡ Some a) (λ e. Other e × (f y ≡ None))
reads_as (Ok a) f x y Other same is = ap f (sym same) ∙ is
reads_as (Err e) f x y Other same is = (is.0, ap f (sym same) ∙ is.1)

-- the words of a name that was found, or of one that was not
abbrev Texts : Type 0
Texts = List (Bor Text)

pub some_found : (found : Option (Bor Texts)) (words : Bor Texts) (all : Option Words) → option_map (λ s. map (λ w. w.now) s.now) found ≡ all → found ≡ Some words → some_words all ≡ some_words (Some (map (λ w. w.now) words.now))
some_found found words all same is = ap some_words (sym same) ∙ ap (λ (o : Option (Bor Texts)). some_words (option_map (λ s. map (λ w. w.now) s.now) o)) is

pub none_found : (found : Option (Bor Texts)) (all : Option Words) → option_map (λ s. map (λ w. w.now) s.now) found ≡ all → found ≡ None → some_words all ≡ None
none_found found all same is = ap some_words (sym same) ∙ ap (λ (o : Option (Bor Texts)). some_words (option_map (λ s. map (λ w. w.now) s.now) o)) is

pub no_word : (words : Texts) → length words ≡ 0 → some_words (Some (map (λ w. w.now) words)) ≡ None
no_word [] none = refl
no_word (w ∷ ws) none = absurd (omega arith)

pub some_word : (words : Texts) → 1 ≤ length words → some_words (Some (map (λ w. w.now) words)) ≡ Some (map (λ w. w.now) words)
some_word [] some = absurd (omega arith)
some_word (w ∷ ws) some = refl
