-- What an emulated port leaves to chance.
use Rattle.std.proofs.Common.{◌≡◌, ◌≢◌, ℕ, ◌%◌, ◌*◌, ◌/◌, ◌^◌, slice_index, ◌-◌, ◌+◌, ◌<◌, suc, Bool, true, false, not, cond, eqb, ne_eqb, ◌≤◌, List, [], ◌∷◌, ◌++◌, set, get_or, Option, Some, None, is_some, refl, sym, ◌∙◌, ap, subst, arith, true≢false}
use Rattle.std.proofs.lemmas.Bool.{lt-ltb, le-ltb}
use Rattle.std.proofs.lemmas.List.{append-nil, set-get_or}
use Rattle.std.specs.Int.{to_le_bytes, w32}
use Rattle.std.specs.List.{filter, flat_map}
use Rattle.std.specs.Option.{ForSome, option_eq, option_to_list}
use Rattle.rand_pcg.specs.Lcg.{Lcg}
use Rattle.rand_pcg.specs.Pcg.{pcg64}
use Rattle.mq_blocks.specs.declared.command.Command.{Command}
use Rattle.mq_blocks.specs.Limits.{depth}
use Rattle.mq_blocks.specs.declared.command.HomeWrite.{HomeWrite}
use Rattle.mq_blocks.specs.Drive.{PortState, PortImage, staged_end, index_of}
use Rattle.mq_nvme.specs.Dwords.{AreDwords, dword_bytes}
use Rattle.mq_drive.specs.Choices.{Chance, torn, next_bytes, next_slot, next_block, torn_slots, torn_block, torn_blocks, writes_of, by_count, in_doubt, cut_of, generator_of, either_of, dwords_of}
use Rattle.mq_drive.specs.Failures.{failed_of, unended_of, while_in, doubt_after, written_by}
use Rattle.mq_drive.proofs.Doubts.{some_for}
use Rattle.mq_drive.specs.declared.failing.Failure.{Failure}
use Rattle.mq_drive.specs.declared.failing.Failure.TheVariants.{Queued, Home}

-- ---- one of three

torn_by : {A : Type 0} → (next : Lcg → A × Lcg) → (old new : A) → ℕ × Lcg → A × Lcg
torn_by next old new p = cond (eqb (p.0 % 3) 0) (old, p.1) (cond (eqb (p.0 % 3) 1) (new, p.1) (next p.1))

pub torn_old : {A : Type 0} (next : Lcg → A × Lcg) (old new : A) (rng after : Lcg) (word : ℕ)
    → (word, after) ≡ pcg64 rng → word % 3 ≡ 0 → (old, after) ≡ torn next old new rng
unfolding torn torn_by
torn_old next old new rng after word step is =
    ap (λ (n : ℕ). cond (eqb n 0) (old, after) (cond (eqb n 1) (new, after) (next after))) (sym is) ∙ ap (torn_by next old new) step

pub torn_new : {A : Type 0} (next : Lcg → A × Lcg) (old new : A) (rng after : Lcg) (word : ℕ)
    → (word, after) ≡ pcg64 rng → word % 3 ≡ 1 → (new, after) ≡ torn next old new rng
unfolding torn torn_by
torn_new next old new rng after word step is =
    ap (λ (n : ℕ). cond (eqb n 0) (old, after) (cond (eqb n 1) (new, after) (next after))) (sym is) ∙ ap (torn_by next old new) step

pub torn_next : {A : Type 0} (next : Lcg → A × Lcg) (old new x : A) (rng after last : Lcg) (word : ℕ)
    → (word, after) ≡ pcg64 rng → word % 3 ≢ 0 → word % 3 ≢ 1 → (x, last) ≡ next after → (x, last) ≡ torn next old new rng
unfolding torn torn_by
torn_next next old new x rng after last word step first second drawn =
    drawn
    ∙ sym (ap (λ (b : Bool). cond b (old, after) (cond (eqb (word % 3) 1) (new, after) (next after))) (ne_eqb (word % 3) 0 first)
    ∙ ap (λ (b : Bool). cond b (new, after) (next after)) (ne_eqb (word % 3) 1 second))
    ∙ ap (torn_by next old new) step

-- ---- bytes as dwords

dwords_back : (ds : List ℕ) → ((k : ℕ) → slice_index ds k < 2 ^ 32) → dwords_of (flat_map (to_le_bytes w32) ds) ≡ ds
dwords_back [] fit = refl
dwords_back (d ∷ ds) fit =
    let small = fit 0 in
    let here : d % 256 + 2 ^ 8 * (d / 256 % 256) + 2 ^ 16 * (d / 65536 % 256) + 2 ^ 24 * (d / 16777216 % 256) ≡ d = omega (arith, small) in
    let rest = dwords_back ds (λ k. fit (suc k)) in
    λ i. here i ∷ rest i

pub slot_is : (e bytes : List ℕ) (rng after : Lcg) → AreDwords 16 e → dword_bytes e ≡ bytes → (bytes, after) ≡ next_bytes 64 rng → (e, after) ≡ next_slot rng
unfolding next_slot dword_bytes
slot_is e bytes rng after are is drawn =
    ap (λ (l : List ℕ). (l, after)) (sym (dwords_back e are.fit) ∙ ap dwords_of is) ∙ ap (λ (p : List ℕ × Lcg). (dwords_of p.0, p.1)) drawn

pub block_is : (bytes : List ℕ) (rng after : Lcg) → (bytes, after) ≡ next_bytes 4096 rng → (Some bytes, after) ≡ next_block rng
unfolding next_block
block_is bytes rng after drawn = ap (λ (p : List ℕ × Lcg). (Some p.0, p.1)) drawn

pub block_kept : (blocks : List (Option (List ℕ))) (at : ℕ) (block : List ℕ) (rng after : Lcg)
    → (get_or blocks at None, after) ≡ torn next_block (get_or blocks at None) (Some block) rng → (blocks, after) ≡ torn_block blocks at block rng
block_kept blocks at block rng after is =
    ap (λ (l : List (Option (List ℕ))). (l, after)) (sym (set-get_or blocks at None)) ∙ ap (λ (p : Option (List ℕ) × Lcg). (set blocks at p.0, p.1)) is

pub block_put : (blocks more : List (Option (List ℕ))) (at : ℕ) (block held : List ℕ) (rng after last : Lcg)
    → more ≡ set blocks at (Some held) → last ≡ after → (Some held, after) ≡ torn next_block (get_or blocks at None) (Some block) rng → (more, last) ≡ torn_block blocks at block rng
block_put blocks more at block held rng after last put same is =
    let both : (more, last) ≡ (set blocks at (Some held), after) = λ i. (put i, same i) in
    both ∙ ap (λ (p : Option (List ℕ) × Lcg). (set blocks at p.0, p.1)) is

-- ---- one block is no longer uncertain

one_left : {A : Type 0} (k : ℕ) (x : A) (b : Bool) → while_in (cond b None (Some k)) (x ∷ []) ≡ cond (not b) (x ∷ []) []
one_left k x true = refl
one_left k x false = refl

none_left : {A : Type 0} (k : ℕ) (b : Bool) → while_in {A = A} (cond b None (Some k)) [] ≡ []
none_left k true = refl
none_left k false = refl

pub failed_left : (place : ℕ → ℕ) (doubt : Option ℕ) (failure : Option Failure) (at : ℕ) → ForSome failure (λ f. ForSome doubt (λ k. place (written_by f) ≡ k))
    → while_in (doubt_after doubt at) (failed_of failure) ≡ filter (λ c. not (eqb (place c.lba) at)) (while_in doubt (failed_of failure))
failed_left place None failure at own = refl
failed_left place (Some k) None at own = none_left k (eqb k at)
failed_left place (Some k) (Some (Queued c)) at own =
    one_left k c (eqb k at) ∙ ap (λ (n : ℕ). cond (not (eqb n at)) (c ∷ []) []) (sym (own (Queued c) refl k refl))
failed_left place (Some k) (Some (Home w)) at own = none_left k (eqb k at)

unended_left : (place : ℕ → ℕ) (doubt : Option ℕ) (failure : Option Failure) (at : ℕ) → ForSome failure (λ f. ForSome doubt (λ k. place (written_by f) ≡ k))
    → while_in (doubt_after doubt at) (unended_of failure) ≡ filter (λ w. not (eqb (place w.lba) at)) (while_in doubt (unended_of failure))
unended_left place None failure at own = refl
unended_left place (Some k) None at own = none_left k (eqb k at)
unended_left place (Some k) (Some (Queued c)) at own = none_left k (eqb k at)
unended_left place (Some k) (Some (Home w)) at own =
    one_left k w (eqb k at) ∙ ap (λ (n : ℕ). cond (not (eqb n at)) (w ∷ []) []) (sym (own (Home w) refl k refl))

-- where nothing is under way
pub begun_left : (place : ℕ → ℕ) (doubt : Option ℕ) (failure : Option Failure) (under : Option HomeWrite) (at : ℕ) → ForSome failure (λ f. ForSome doubt (λ k. place (written_by f) ≡ k)) → under ≡ None
    → while_in (doubt_after doubt at) (unended_of failure) ++ option_to_list under ≡ filter (λ w. not (eqb (place w.lba) at)) (while_in doubt (unended_of failure) ++ option_to_list under)
begun_left place doubt failure under at own none =
    ap (λ (u : Option HomeWrite). while_in (doubt_after doubt at) (unended_of failure) ++ option_to_list u) none
    ∙ append-nil (while_in (doubt_after doubt at) (unended_of failure))
    ∙ unended_left place doubt failure at own
    ∙ ap (λ (l : List HomeWrite). filter (λ w. not (eqb (place w.lba) at)) l) (sym (append-nil (while_in doubt (unended_of failure))))
    ∙ ap (λ (u : Option HomeWrite). filter (λ w. not (eqb (place w.lba) at)) (while_in doubt (unended_of failure) ++ option_to_list u)) (sym none)

none_some : {A : Type 0} {P : Type 0} (x : A) → None ≡ Some x → P
none_some x is = absurd (true≢false (ap is_some (sym is)))

pub doubt_for : (doubt : Option ℕ) (at : ℕ) (P : ℕ → Type 0) → ForSome doubt P → ForSome (doubt_after doubt at) P
doubt_for None at P holds = holds
doubt_for (Some k) at P holds = either (eqb k at) where
  either : (b : Bool) → ForSome (cond b None (Some k)) P
  either true = λ x is. none_some x is
  either false = holds

pub doubt_ended : (doubt : Option ℕ) (at : ℕ) → true ≡ option_eq eqb doubt (Some at) → None ≡ doubt_after doubt at
doubt_ended None at is = refl
doubt_ended (Some k) at is = ap (λ (b : Bool). cond b None (Some k)) is

pub doubt_kept : (doubt : Option ℕ) (at : ℕ) → false ≡ option_eq eqb doubt (Some at) → doubt ≡ doubt_after doubt at
doubt_kept None at is = refl
doubt_kept (Some k) at is = ap (λ (b : Bool). cond b None (Some k)) is

-- ---- what a cut leaves

pub slots_step : (left count : ℕ) (staged slots : List (List ℕ)) (entry : List ℕ) (rng after : Lcg)
    → (entry, after) ≡ torn next_slot (get_or slots (count % depth) []) (get_or staged (count % depth) []) rng
    → torn_slots left (count + 1) staged (set slots (count % depth) entry) after ≡ torn_slots (suc left) count staged slots rng
slots_step left count staged slots entry rng after is =
    ap (λ (p : List ℕ × Lcg). torn_slots left (count + 1) staged (set slots (count % depth) p.0) p.1) is

-- one block
pub block_step : (place : ℕ → ℕ) (w : HomeWrite) (writes : List HomeWrite) (at : ℕ) (blocks more : List (Option (List ℕ))) (rng after : Lcg)
    → at ≡ place w.lba → (more, after) ≡ torn_block blocks at w.block rng → torn_blocks place writes more after ≡ torn_blocks place (w ∷ writes) blocks rng
block_step place w writes at blocks more rng after here is =
    ap (λ (p : List (Option (List ℕ)) × Lcg). torn_blocks place writes p.0 p.1) (is ∙ ap (λ (k : ℕ). torn_block blocks k w.block rng) here)

blocks_append : (place : ℕ → ℕ) (xs ys : List HomeWrite) (blocks : List (Option (List ℕ))) (rng : Lcg)
    → torn_blocks place ys (torn_blocks place xs blocks rng).0 (torn_blocks place xs blocks rng).1 ≡ torn_blocks place (xs ++ ys) blocks rng
blocks_append place [] ys blocks rng = refl
blocks_append place (x ∷ xs) ys blocks rng =
    blocks_append place xs ys (torn_block blocks (place x.lba) x.block rng).0 (torn_block blocks (place x.lba) x.block rng).1

both : (place : ℕ → ℕ) (xs ys : List HomeWrite) (b0 b1 : List (Option (List ℕ))) (r0 r1 : Lcg) (p : List (Option (List ℕ)) × Lcg)
    → (b1, r1) ≡ torn_blocks place xs b0 r0 → p ≡ torn_blocks place ys b1 r1 → p ≡ torn_blocks place (xs ++ ys) b0 r0
both place xs ys b0 b1 r0 r1 p first second =
    second ∙ ap (λ (q : List (Option (List ℕ)) × Lcg). torn_blocks place ys q.0 q.1) first ∙ blocks_append place xs ys b0 r0

-- the blocks of three lists of writes
pub all_torn : (place : ℕ → ℕ) (xs ys zs : List HomeWrite) (b0 b1 b2 b3 : List (Option (List ℕ))) (r0 r1 r2 r3 : Lcg)
    → (b1, r1) ≡ torn_blocks place xs b0 r0 → (b2, r2) ≡ torn_blocks place ys b1 r1 → (b3, r3) ≡ torn_blocks place zs b2 r2
    → (b3, r3) ≡ torn_blocks place (xs ++ (ys ++ zs)) b0 r0
all_torn place xs ys zs b0 b1 b2 b3 r0 r1 r2 r3 first second third =
    both place xs (ys ++ zs) b0 b1 r0 r1 (b3, r3) first (both place ys zs b1 b2 r1 r2 (b3, r3) second third)

-- the failed command stands before the next posted one
pub failed_first : (place : ℕ → ℕ) (f c : Command) (posted : List Command) (at : ℕ) (blocks more : List (Option (List ℕ))) (rng after : Lcg)
    → at ≡ place f.lba → (more, after) ≡ torn_block blocks at f.block rng → f.count < c.count
    → torn_blocks place (writes_of (c ∷ posted)) more after ≡ torn_blocks place (writes_of (by_count (f ∷ []) (c ∷ posted))) blocks rng
failed_first place f c posted at blocks more rng after here is before =
    block_step place (record { lba = f.lba; block = f.block }) (writes_of (c ∷ posted)) at blocks more rng after here is
    ∙ ap (λ (b : Bool). torn_blocks place (writes_of (cond b (f ∷ c ∷ posted) (c ∷ by_count (f ∷ []) posted))) blocks rng) (sym (lt-ltb f.count c.count before))

-- it does not
pub failed_later : (place : ℕ → ℕ) (f c : Command) (posted : List Command) (blocks : List (Option (List ℕ))) (rng : Lcg) → c.count ≤ f.count
    → torn_blocks place (writes_of (c ∷ by_count (f ∷ []) posted)) blocks rng ≡ torn_blocks place (writes_of (by_count (f ∷ []) (c ∷ posted))) blocks rng
failed_later place f c posted blocks rng after =
    ap (λ (b : Bool). torn_blocks place (writes_of (cond b (f ∷ c ∷ posted) (c ∷ by_count (f ∷ []) posted))) blocks rng) (sym (le-ltb f.count c.count after))

-- nothing is posted
pub failed_alone : (place : ℕ → ℕ) (failed : Option Command) (blocks : List (Option (List ℕ))) (rng : Lcg)
    → torn_blocks place (writes_of (option_to_list failed)) blocks rng ≡ torn_blocks place (writes_of (by_count (option_to_list failed) [])) blocks rng
failed_alone place None blocks rng = refl
failed_alone place (Some f) blocks rng = refl

pub cut_is : (s : PortState) (r : Chance) (pick n : ℕ) (r0 r1 r2 r3 r4 : Lcg) (slots : List (List ℕ)) (head base : ℕ) (blocks : List (Option (List ℕ)))
    → r0 ≡ generator_of pick r.number → n ≡ staged_end s - s.flushed_end → (slots, r1) ≡ torn_slots n s.flushed_end s.staged s.flushed r0
    → (head, r2) ≡ either_of s.head s.stored_head r1 → (base, r3) ≡ either_of s.base s.stored_base r2
    → (blocks, r4) ≡ torn_blocks (index_of s) (in_doubt s r) s.blocks r3
    → ◌≡◌ {A = PortImage} (record { doorbell = s.doorbell; head = head; base = base; slots = slots; blocks = blocks }) (cut_of s r pick)
cut_is s r pick n r0 r1 r2 r3 r4 slots head base blocks start count by_slots by_head by_base by_blocks =
    let first = by_slots ∙ ap (λ (k : ℕ). torn_slots k s.flushed_end s.staged s.flushed r0) count
    ∙ ap (λ (g : Lcg). torn_slots (staged_end s - s.flushed_end) s.flushed_end s.staged s.flushed g) start in
    let second = by_head ∙ ap (λ (p : List (List ℕ) × Lcg). either_of s.head s.stored_head p.1) first in
    let third = by_base ∙ ap (λ (p : ℕ × Lcg). either_of s.base s.stored_base p.1) second in
    let last = by_blocks ∙ ap (λ (p : ℕ × Lcg). torn_blocks (index_of s) (in_doubt s r) s.blocks p.1) third in
    λ i. record { doorbell = s.doorbell; head = (second i).0; base = (third i).0; slots = (first i).0; blocks = (last i).0 }

-- ---- what a device leaves to chance

nothing : {A : Type 0} (doubt : Option ℕ) → while_in {A = A} doubt [] ≡ []
nothing None = refl
nothing (Some k) = refl

no_failed : (doubt : Option ℕ) (failure : Option Failure) → failure ≡ None → while_in doubt (failed_of failure) ≡ []
no_failed doubt failure none = ap (λ (o : Option Failure). while_in doubt (failed_of o)) none ∙ nothing doubt

no_unended : (doubt : Option ℕ) (failure : Option Failure) → failure ≡ None → while_in doubt (unended_of failure) ≡ []
no_unended doubt failure none = ap (λ (o : Option Failure). while_in doubt (unended_of o)) none ∙ nothing doubt

-- a write has completed, and nothing is under way
pub chance_done : (s : PortState) (number : ℕ) (order last : Lcg) (doubt new : Option ℕ) (failure : Option Failure) (under : Option HomeWrite) (lba : ℕ)
    → ForSome failure (λ f. ForSome doubt (λ k. index_of s (written_by f) ≡ k)) → under ≡ None → new ≡ doubt_after doubt (index_of s lba) → order ≡ last
    → ◌≡◌ {A = Chance} (record { number = number; order = order; failed = while_in new (failed_of failure); begun = while_in new (unended_of failure) ++ option_to_list under })
    (record {
      number = number;
      order = last;
      failed = filter (λ c. not (eqb (index_of s c.lba) (index_of s lba))) (while_in doubt (failed_of failure));
      begun = filter (λ w. not (eqb (index_of s w.lba) (index_of s lba))) (while_in doubt (unended_of failure) ++ option_to_list under);
    })
chance_done s number order last doubt new failure under lba own none is same =
    let failed = ap (λ (o : Option ℕ). while_in o (failed_of failure)) is ∙ failed_left (index_of s) doubt failure (index_of s lba) own in
    let begun = ap (λ (o : Option ℕ). while_in o (unended_of failure) ++ option_to_list under) is ∙ begun_left (index_of s) doubt failure under (index_of s lba) own none in
    λ i. record { number = number; order = same i; failed = failed i; begun = begun i }

-- the first command has failed
pub chance_failed : (number k : ℕ) (order last : Lcg) (doubt new : Option ℕ) (failure : Option Failure) (under : Option HomeWrite) (c : Command)
    → failure ≡ None → new ≡ Some k → order ≡ last
    → ◌≡◌ {A = Chance} (record { number = number; order = order; failed = while_in new (failed_of (Some (Queued c))); begun = while_in new (unended_of (Some (Queued c))) ++ option_to_list under })
    (record {
      number = number;
      order = last;
      failed = while_in doubt (failed_of failure) ++ c ∷ [];
      begun = while_in doubt (unended_of failure) ++ option_to_list under;
    })
chance_failed number k order last doubt new failure under c none is same =
    let failed = ap (λ (o : Option ℕ). while_in o (c ∷ [])) is ∙ sym (ap (λ (l : List Command). l ++ c ∷ []) (no_failed doubt failure none)) in
    let begun = ap (λ (l : List HomeWrite). l ++ option_to_list under) (nothing new ∙ sym (no_unended doubt failure none)) in
    λ i. record { number = number; order = same i; failed = failed i; begun = begun i }

-- the first home write has failed
pub chance_home : (number k : ℕ) (order : Lcg) (doubt new : Option ℕ) (failure : Option Failure) (under : Option HomeWrite) (w : HomeWrite)
    → failure ≡ None → under ≡ None → new ≡ Some k
    → ◌≡◌ {A = Chance} (record { number = number; order = order; failed = while_in new (failed_of (Some (Home w))); begun = while_in new (unended_of (Some (Home w))) ++ option_to_list under })
    (record {
      number = number;
      order = order;
      failed = while_in doubt (failed_of failure);
      begun = (while_in doubt (unended_of failure) ++ option_to_list under) ++ w ∷ [];
    })
chance_home number k order doubt new failure under w none idle is =
    let failed = nothing new ∙ sym (no_failed doubt failure none) in
    let first = ap (λ (o : Option ℕ). while_in o (w ∷ []) ++ option_to_list under) is ∙ ap (λ (u : Option HomeWrite). w ∷ option_to_list u) idle in
    let second = ap (λ (l : List HomeWrite). (l ++ option_to_list under) ++ w ∷ []) (no_unended doubt failure none) ∙ ap (λ (u : Option HomeWrite). option_to_list u ++ w ∷ []) idle in
    let begun = first ∙ sym second in
    λ i. record { number = number; order = order; failed = failed i; begun = begun i }

-- a home write is cut short
pub chance_open : (number : ℕ) (order : Lcg) (doubt new : Option ℕ) (failure : Option Failure) (under : Option HomeWrite) (w : HomeWrite) → under ≡ None → new ≡ doubt
    → ◌≡◌ {A = Chance} (record { number = number; order = order; failed = while_in new (failed_of failure); begun = while_in new (unended_of failure) ++ w ∷ [] })
    (record {
      number = number;
      order = order;
      failed = while_in doubt (failed_of failure);
      begun = (while_in doubt (unended_of failure) ++ option_to_list under) ++ w ∷ [];
    })
chance_open number order doubt new failure under w idle is =
    let failed = ap (λ (o : Option ℕ). while_in o (failed_of failure)) is in
    let before = ap (λ (u : Option HomeWrite). while_in doubt (unended_of failure) ++ option_to_list u) idle ∙ append-nil (while_in doubt (unended_of failure)) in
    let begun = ap (λ (o : Option ℕ). while_in o (unended_of failure) ++ w ∷ []) is ∙ sym (ap (λ (l : List HomeWrite). l ++ w ∷ []) before) in
    λ i. record { number = number; order = order; failed = failed i; begun = begun i }

pub new_doubt : (new : Option ℕ) (j p : ℕ) → new ≡ Some j → j ≡ p → ForSome new (λ x. p ≡ x)
new_doubt new j p is at = subst (λ (o : Option ℕ). ForSome o (λ x. p ≡ x)) (sym is) (some_for j (λ x. p ≡ x) (sym at))

-- ---- the writes that a cut tears

abbrev First : {A : Type 0} → (A → Type 0) → List A → Type 0
First P [] = Unit {0}
First P (x ∷ xs) = P x

first_for : {A : Type 0} (P : A → Type 0) (o : Option A) → First P (option_to_list o) → ForSome o P
first_for P None holds = λ x is. none_some x is
first_for P (Some x) holds = some_for x P holds

first_failed : (Q : ℕ → Type 0) (doubt : Option ℕ) (failure : Option Failure) → ForSome failure (λ f. ForSome doubt (λ k. Q (written_by f))) → First (λ c. Q c.lba) (while_in doubt (failed_of failure))
first_failed Q None failure holds = tt
first_failed Q (Some k) None holds = tt
first_failed Q (Some k) (Some (Queued c)) holds = holds (Queued c) refl k refl
first_failed Q (Some k) (Some (Home w)) holds = tt

first_unended : (Q : ℕ → Type 0) (doubt : Option ℕ) (failure : Option Failure) → ForSome failure (λ f. ForSome doubt (λ k. Q (written_by f))) → First (λ w. Q w.lba) (while_in doubt (unended_of failure))
first_unended Q None failure holds = tt
first_unended Q (Some k) None holds = tt
first_unended Q (Some k) (Some (Queued c)) holds = tt
first_unended Q (Some k) (Some (Home w)) holds = holds (Home w) refl k refl

pub failed_for : (Q : ℕ → Type 0) (doubt : Option ℕ) (failure : Option Failure) (failed : Option Command) → option_to_list failed ≡ while_in doubt (failed_of failure)
    → ForSome failure (λ f. ForSome doubt (λ k. Q (written_by f))) → ForSome failed (λ c. Q c.lba)
failed_for Q doubt failure failed is holds = first_for (λ c. Q c.lba) failed (subst (First (λ c. Q c.lba)) (sym is) (first_failed Q doubt failure holds))

pub unended_for : (Q : ℕ → Type 0) (doubt : Option ℕ) (failure : Option Failure) (unended : Option HomeWrite) → option_to_list unended ≡ while_in doubt (unended_of failure)
    → ForSome failure (λ f. ForSome doubt (λ k. Q (written_by f))) → ForSome unended (λ w. Q w.lba)
unended_for Q doubt failure unended is holds = first_for (λ w. Q w.lba) unended (subst (First (λ w. Q w.lba)) (sym is) (first_unended Q doubt failure holds))
