-- What a port in memory writes is what the drive model makes of it.
use Rattle.std.proofs.Common.{◌≡◌, ℕ, zero, suc, Bool, true, false, List, [], ◌∷◌, ◌++◌, set, Option, Some, None, refl, sym, ◌∙◌, ap, cond, eqb}
use Rattle.std.proofs.lemmas.List.{append-nil}
use Rattle.std.proofs.lemmas.Bool.{eq-eqb}
use Rattle.std.specs.List.{remove}
use Rattle.std.specs.Option.{option_to_list}
use Rattle.mq_blocks.specs.Drive.{FuseName, PortState, counted, index_of, after_done, after_failed, after_begin, after_end, holds_write, without_last}
use Rattle.mq_blocks.specs.declared.command.Command.{Command}
use Rattle.mq_blocks.specs.declared.command.HomeWrite.{HomeWrite}
use Rattle.mq_drive.specs.Failures.{failed_of, unended_of}
use Rattle.mq_drive.specs.declared.failing.Failure.{Failure}
use Rattle.mq_drive.specs.declared.failing.Failure.TheVariants.{Home}

pub set-set : {A : Type 0} (xs : List A) (k : ℕ) (v w : A) → set (set xs k v) k w ≡ set xs k w
set-set [] k v w = refl
set-set (x ∷ xs) zero v w = refl
set-set (x ∷ xs) (suc k) v w = ap (λ (l : List _). x ∷ l) (set-set xs k v w)

pub same_state : (s : PortState) (fuse : FuseName) → fuse ≡ s.fuse → record s { fuse = fuse } ≡ s
same_state s fuse is = λ i. record s { fuse = is i }

pub done_at : (s : PortState) (at : ℕ) (c : Command) (posted : List Command) (blocks : List (Option (List ℕ))) (certain : List Bool) (events : ℕ) (fuse : FuseName) (fail : Option ℕ)
    → posted ≡ remove s.posted at → blocks ≡ set s.blocks (index_of s c.lba) (Some c.block) → certain ≡ set s.certain (index_of s c.lba) true → events ≡ counted s.events 1
    → fuse ≡ s.fuse → fail ≡ s.fail
    → record s { posted = posted; blocks = blocks; certain = certain; events = events; fuse = fuse; fail = fail } ≡ after_done s at c
done_at s at c posted blocks certain events fuse fail is_posted is_blocks is_certain is_events is_fuse is_fail =
    λ i. record s { posted = is_posted i; blocks = is_blocks i; certain = is_certain i; events = is_events i; fuse = is_fuse i; fail = is_fail i }

-- the first command that fails
pub failed_at : (s : PortState) (at : ℕ) (c : Command) (old : Option Failure) (rest : List HomeWrite) (posted : List Command) (blocks : List (Option (List ℕ))) (certain : List Bool) (events : ℕ) (fuse : FuseName) (fail : Option ℕ)
    → old ≡ None → s.failed ≡ failed_of old → s.begun ≡ unended_of old ++ rest
    → posted ≡ remove s.posted at → blocks ≡ s.blocks → certain ≡ set s.certain (index_of s c.lba) false → events ≡ counted s.events 1
    → fuse ≡ s.fuse → fail ≡ s.fail
    → record s { posted = posted; failed = c ∷ []; begun = rest; blocks = blocks; certain = certain; events = events; fuse = fuse; fail = fail } ≡ after_failed s at c
failed_at s at c old rest posted blocks certain events fuse fail none was_failed was_begun is_posted is_blocks is_certain is_events is_fuse is_fail =
    let is_failed : c ∷ [] ≡ s.failed ++ c ∷ [] = sym (ap (λ (l : List Command). l ++ c ∷ []) (was_failed ∙ ap failed_of none)) in
    let is_begun : rest ≡ s.begun = sym (was_begun ∙ ap (λ (o : Option Failure). unended_of o ++ rest) none) in
    λ i. record s { posted = is_posted i; failed = is_failed i; begun = is_begun i; blocks = is_blocks i; certain = is_certain i; events = is_events i; fuse = is_fuse i; fail = is_fail i }

holds_last : (lba : ℕ) (block : List ℕ) (ws : List HomeWrite) → holds_write lba (ws ++ record { lba = lba; block = block } ∷ []) ≡ true
holds_last lba block [] = ap (λ (t : Bool). cond t true false) (eq-eqb lba lba refl)
holds_last lba block (w ∷ ws) = ap (λ (t : Bool). cond (eqb w.lba lba) true t) (holds_last lba block ws) ∙ both (eqb w.lba lba) where
  both : (t : Bool) → cond t true true ≡ true
  both true = refl
  both false = refl

-- the write that ends is the last that began
pub without_ended : (lba : ℕ) (block : List ℕ) (ws : List HomeWrite) → ws ≡ without_last lba (ws ++ record { lba = lba; block = block } ∷ [])
without_ended lba block [] = ap (λ (t : Bool). cond t [] (record { lba = lba; block = block } ∷ [])) (sym (eq-eqb lba lba refl))
without_ended lba block (w ∷ ws) =
    ap (λ (l : List HomeWrite). w ∷ l) (without_ended lba block ws)
    ∙ ap (λ (t : Bool). cond t (w ∷ without_last lba (ws ++ record { lba = lba; block = block } ∷ [])) (cond (eqb w.lba lba) (ws ++ record { lba = lba; block = block } ∷ []) (w ∷ (ws ++ record { lba = lba; block = block } ∷ [])))) (sym (holds_last lba block ws))

pub written_home : (s : PortState) (lba : ℕ) (block : List ℕ) (blocks : List (Option (List ℕ))) (certain : List Bool) (begins : ℕ) (fuse : FuseName) (fail : Option ℕ)
    → blocks ≡ set s.blocks (index_of s lba) (Some block) → certain ≡ set (set s.certain (index_of s lba) false) (index_of s lba) true → begins ≡ counted s.begins 1
    → fuse ≡ s.fuse → fail ≡ s.fail
    → record s { blocks = blocks; certain = certain; begins = begins; fuse = fuse; fail = fail } ≡ after_end (after_begin s lba block) lba block
written_home s lba block blocks certain begins fuse fail is_blocks is_certain is_begins is_fuse is_fail =
    let begun : s.begun ≡ without_last lba (s.begun ++ record { lba = lba; block = block } ∷ []) = without_ended lba block s.begun in
    λ i. record s { blocks = is_blocks i; certain = is_certain i; begins = is_begins i; begun = begun i; fuse = is_fuse i; fail = is_fail i }

-- a home write has begun, and not ended
pub begun_home : (s : PortState) (lba : ℕ) (block : List ℕ) (failed : List Command) (begun : List HomeWrite) (blocks : List (Option (List ℕ))) (certain : List Bool) (begins : ℕ) (fuse : FuseName) (fail : Option ℕ)
    → failed ≡ s.failed → begun ≡ s.begun ++ record { lba = lba; block = block } ∷ [] → blocks ≡ s.blocks → certain ≡ set s.certain (index_of s lba) false → begins ≡ counted s.begins 1
    → fuse ≡ s.fuse → fail ≡ s.fail
    → record s { failed = failed; begun = begun; blocks = blocks; certain = certain; begins = begins; fuse = fuse; fail = fail } ≡ after_begin s lba block
begun_home s lba block failed begun blocks certain begins fuse fail is_failed is_begun is_blocks is_certain is_begins is_fuse is_fail =
    λ i. record s { failed = is_failed i; begun = is_begun i; blocks = is_blocks i; certain = is_certain i; begins = is_begins i; fuse = is_fuse i; fail = is_fail i }

-- the home writes that have begun, after one more that fails or is cut off
pub begun_failed : (old : Option Failure) (under : Option HomeWrite) (w : HomeWrite) → old ≡ None → under ≡ None
    → unended_of (Some (Home w)) ++ option_to_list under ≡ (unended_of old ++ option_to_list under) ++ w ∷ []
begun_failed old under w none nothing =
    ap (λ (u : Option HomeWrite). w ∷ option_to_list u) nothing
    ∙ sym (ap (λ (o : Option Failure). (unended_of o ++ option_to_list under) ++ w ∷ []) none ∙ ap (λ (u : Option HomeWrite). option_to_list u ++ w ∷ []) nothing)

pub begun_open : (old : Option Failure) (under : Option HomeWrite) (w : HomeWrite) → under ≡ None
    → unended_of old ++ option_to_list (Some w) ≡ (unended_of old ++ option_to_list under) ++ w ∷ []
begun_open old under w nothing =
    sym (ap (λ (u : Option HomeWrite). (unended_of old ++ option_to_list u) ++ w ∷ []) nothing ∙ ap (λ (l : List HomeWrite). l ++ w ∷ []) (append-nil (unended_of old)))
