-- What is said, a piece after another.
use Rattle.std.proofs.Common.{◌≡◌, ◌≤◌, ℕ, zero, suc, ◌+◌, List, [], ◌∷◌, ◌++◌, length, take, true, false, Bool, cond, Option, Some, None, refl, inl, inr, sym, ◌∙◌, ap, subst, arith, append_assoc, length-append}
use Rattle.std.proofs.lemmas.Bool.{false≢true}
use Rattle.std.specs.Prelude.{Result, Ok, Err, MatchResult, IsErr, ◌⊎◌, bytes_eq, nat_eq}
use Rattle.std.specs.List.{Contains}
use Rattle.mq_outside.specs.Outside.{FilesState, Held, SinkState, AppendsPrefix, OthersSame, appended, put_name}
use Rattle.mq_command_io.specs.Ending.{EndsWith, IsNotLoaded, IsNotSaved, IsSaved, IsUnlessFailed, KeepsOthers, load_failed, load_memory, load_too_long, save_failed, save_memory}

pub on_err : {A E : Type 0} (r : Result A E) (P : A → Type 0) {Q : E → Type 0} → IsErr r → ((e : E) → Q e) → MatchResult r P Q
on_err (Ok x) P err q = absurd (false≢true err)
on_err (Err e) P err q = q e

pub appended_twice : (old : Option (List ℕ)) (a b : List ℕ) → appended (appended old a) b ≡ appended old (a ++ b)
appended_twice None a b = refl
appended_twice (Some written) a b = ap Some (append_assoc written a b)

take_more : (first bytes : List ℕ) (n : ℕ) → take (length first + n) (first ++ bytes) ≡ first ++ take n bytes
take_more [] bytes n = ap (λ (k : ℕ). take k bytes) (let e : 0 + n ≡ n = omega arith in e)
take_more (x ∷ first) bytes n = ap (λ (k : ℕ). take k (x ∷ (first ++ bytes))) (let e : suc (length first) + n ≡ suc (length first + n) = omega arith in e) ∙ ap (λ (l : List ℕ). x ∷ l) (take_more first bytes n)

take_within : (a b : List ℕ) (n : ℕ) → n ≤ length a → take n (a ++ b) ≡ take n a
take_within a b zero within = refl
take_within [] b (suc n) within = absurd (omega arith)
take_within (x ∷ a) b (suc n) within = ap (λ (l : List ℕ). x ∷ l) (take_within a b n (omega arith))

-- a piece was appended, and then a prefix of the next
pub prefix_next : (old mid new : Option (List ℕ)) (first bytes : List ℕ) → mid ≡ appended old first → AppendsPrefix mid new bytes → AppendsPrefix old new (first ++ bytes)
prefix_next old mid new first bytes mid_is prefix = (
  length first + prefix.0,
  (let long = length-append first bytes in let within = prefix.1 in omega arith),
  prefix.2 ∙ ap (λ (o : Option (List ℕ)). appended o (take prefix.0 bytes)) mid_is ∙ appended_twice old first (take prefix.0 bytes) ∙ ap (appended old) (sym (take_more first bytes prefix.0)),
)

-- a prefix of the first piece is one of both
pub prefix_longer : (old new : Option (List ℕ)) (first bytes : List ℕ) → AppendsPrefix old new first → AppendsPrefix old new (first ++ bytes)
prefix_longer old new first bytes prefix = (
  prefix.0,
  (let long = length-append first bytes in let within = prefix.1 in omega arith),
  prefix.2 ∙ ap (appended old) (sym (take_within first bytes prefix.0 prefix.1)),
)

-- ---- what a status says

pub four-or-six : (b : Bool) (result : ℕ) → result ≡ cond b 4 6 → (result ≡ 4) ⊎ (result ≡ 6)
four-or-six true result e = inl e
four-or-six false result e = inr e

pub still-fault : (wanted result : ℕ) → IsUnlessFailed 4 result → IsUnlessFailed wanted result
still-fault wanted result (inl e) = inr (inl e)
still-fault wanted result (inr e) = inr e

pub still-memory : (wanted result : ℕ) → IsUnlessFailed 6 result → IsUnlessFailed wanted result
still-memory wanted result (inl e) = inr (inr e)
still-memory wanted result (inr e) = inr e

pub unless_wanting :
    (status : ℕ) (text : List ℕ) (result : ℕ) (old new : SinkState) → EndsWith status text result old new → IsUnlessFailed status result
unless_wanting status text result old new (inl e) = inl e.0
unless_wanting status text result old new (inr (inl e)) = inr (inl e.0)
unless_wanting status text result old new (inr (inr e)) = inr (four-or-six (nat_eq status 4) result e.0)

-- ---- files that are not loaded or not saved

-- the status of why they are not is one of those that may always come
pub not-loaded-status : (name : List ℕ) (old new : FilesState) (status : ℕ) (text : List ℕ) (wanted result : ℕ) → IsNotLoaded name old new status text → IsUnlessFailed status result → IsUnlessFailed wanted result
not-loaded-status name old new _ _ wanted result (load_failed same rose tried) ends = still-fault wanted result ends
not-loaded-status name old new _ _ wanted result (load_too_long same over faults takes tried) ends = still-fault wanted result ends
not-loaded-status name old new _ _ wanted result (load_memory same faults tried) ends = still-memory wanted result ends

pub not-saved-status : (name : List ℕ) (old new : FilesState) (status : ℕ) (text : List ℕ) (wanted result : ℕ) → IsNotSaved name old new status text → IsUnlessFailed status result → IsUnlessFailed wanted result
not-saved-status name old new _ _ wanted result (save_failed others rose taken tried) ends = still-fault wanted result ends
not-saved-status name old new _ _ wanted result (save_memory same faults taken tried) ends = still-memory wanted result ends

-- no name changes by a load
pub not-loaded-same : (name : List ℕ) (old new : FilesState) (status : ℕ) (text : List ℕ) → IsNotLoaded name old new status text → new.contents ≡ old.contents
not-loaded-same name old new _ _ (load_failed same rose tried) = same
not-loaded-same name old new _ _ (load_too_long same over faults takes tried) = same
not-loaded-same name old new _ _ (load_memory same faults tried) = same

-- the text was said, or the status is 4 or 6
pub said_or :
    (status : ℕ) (text : List ℕ) (result : ℕ) (old new : SinkState) → EndsWith status text result old new
    → ((result ≡ status) × (new.contents ≡ appended old.contents text) × (new.faults ≡ old.faults)) ⊎ ((result ≡ 4) ⊎ (result ≡ 6))
said_or status text result old new ends = elim ends [
  | inl e ↦ inl e
  | inr other ↦ elim other [ inl e ↦ inr (inl e.0) | inr e ↦ inr (four-or-six (nat_eq status 4) result e.0) ]
]

-- a low status is none of these two
pub low_failed : (result : ℕ) → (result ≡ 1) ⊎ ((result ≡ 2) ⊎ (result ≡ 3)) → (result ≡ 4) ⊎ (result ≡ 6) → ⊥
low_failed result (inl one) (inl four) = omega (arith, one, four)
low_failed result (inl one) (inr six) = omega (arith, one, six)
low_failed result (inr (inl two)) (inl four) = omega (arith, two, four)
low_failed result (inr (inl two)) (inr six) = omega (arith, two, six)
low_failed result (inr (inr three)) (inl four) = omega (arith, three, four)
low_failed result (inr (inr three)) (inr six) = omega (arith, three, six)

-- ---- what was not loaded, or not saved, doesn't end with 0

pub not-loaded-zero : (name : List ℕ) (old new : FilesState) (status : ℕ) (text : List ℕ) → IsNotLoaded name old new status text → status ≡ 0 → ⊥
not-loaded-zero name old new _ _ (load_failed same rose tried) none = omega (arith, none)
not-loaded-zero name old new _ _ (load_too_long same over faults takes tried) none = omega (arith, none)
not-loaded-zero name old new _ _ (load_memory same faults tried) none = omega (arith, none)

pub not-saved-zero : (name : List ℕ) (old new : FilesState) (status : ℕ) (text : List ℕ) → IsNotSaved name old new status text → status ≡ 0 → ⊥
not-saved-zero name old new _ _ (save_failed other rose taken tried) none = omega (arith, none)
not-saved-zero name old new _ _ (save_memory same faults taken tried) none = omega (arith, none)

-- ---- names

pub same-others : (names : List (List ℕ)) (old : Option Held) → KeepsOthers names old old
same-others names None = tt
same-others names (Some held) = λ other apart. refl

pub keeps : (names : List (List ℕ)) (old new : FilesState) → new.contents ≡ old.contents → KeepsOthers names old.contents new.contents
keeps names old new same = subst (KeepsOthers names old.contents) (sym same) (same-others names old.contents)

-- where no name changed but this one
pub keeps-but : (names : List (List ℕ)) (name : List ℕ) → Contains names name → (old new : Option Held) → OthersSame old new name → KeepsOthers names old new
keeps-but names name one None None same = tt
keeps-but names name one None (Some new) same = same
keeps-but names name one (Some old) None same = same
keeps-but names name one (Some old) (Some new) same = λ other apart. same other (subst (λ (n : List ℕ). bytes_eq other n ≡ false) one.2 (apart one.0 name one.1))

put-others : (old : Option Held) (name bytes : List ℕ) → OthersSame old (put_name old name bytes) name
put-others None name bytes = tt
put-others (Some held) name bytes = λ other apart. ap (λ (b : Bool). cond b (Some bytes) (held other)) apart

pub saved-others : (name bytes : List ℕ) (old new : FilesState) → IsSaved name bytes old new → OthersSame old.contents new.contents name
saved-others name bytes old new save = subst (λ (o : Option Held). OthersSame old.contents o name) (sym save.contents) (put-others old.contents name bytes)
