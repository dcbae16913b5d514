-- The small run: it is legal, answered and cut; and what may not be reported of it.
use Rattle.std.proofs.Common.{◌≡◌, ◌≢◌, ◌∙◌, ℕ, zero, suc, ◌+◌, ◌<◌, ◌≤◌, inl, inr, Bool, true, false, List, [], ◌∷◌, length, refl, sym, ap, subst, lit≤, arith}
use Rattle.std.specs.Prelude.{None, Some, Result, Ok, Err, codes}
use Rattle.std.specs.List.{All, Contains}
use Rattle.std.proofs.lemmas.Bool.{cases_eq, true≢false}
use Rattle.mq_blocks.proofs.DescriptorLimits.{limit-low}
use Rattle.mq_blocks.specs.Geometry.{homes_of, queues_of, write_limit}
use Rattle.mq_blocks.specs.Journal.{Shown}
use Rattle.mq_blocks.specs.declared.geometry.Geometry.{Geometry}
use Rattle.mq_calls.specs.Asking.{IsFirstChange, refusal_at}
use Rattle.mq_queue_side.specs.declared.answers.CallCause.TheVariants.{Drive, TooLarge}
use Rattle.mq_queue_side.specs.declared.answers.Refusal.{Refusal}
use Rattle.mq_layout.specs.Names.{is_name}
use Rattle.mq_run_laws.proofs.LegalMoving.{sound-writes, writes-few}
use Rattle.mq_run_laws.proofs.CutsStarting.{run-ends}
use Rattle.mq_run_laws.specs.Answers.{AreAnswered, AreCaused, IsAcknowledged, IsCaused, IsLarge, IsOf, IsPrefixAnswered, IsRefusedFor, TellErrors, group_told, Names as NamesLine, number_in}
use Rattle.mq_run_laws.specs.Cuts.{IsClean, IsCut, IsRung}
use Rattle.mq_run_laws.specs.Groups.{IsGroup}
use Rattle.mq_run_laws.specs.Legal.{IsLegal, IsRun, IsStep, Writes, WritesFew, next, number_after}
use Rattle.mq_run_laws.specs.SmallRun.{as_changing, as_failed, as_large, as_read, asking, asking_scripts, directory, only_asking, requests, small_answers, small_line, small_lines, small_scripts, small_told, stopped_ask, swapped, two, well_asked}
use Rattle.mq_report.specs.Lines.{Line}
use Rattle.mq_report.specs.declared.line.Told.{Told}
use Rattle.mq_script.specs.Scripts.{Script}
use Rattle.mq_script.specs.declared.group.End.TheVariants.{Ask, Fsync}
use Rattle.mq_queue_side.specs.declared.answers.Cause.TheVariants.{Failed, Stopped}
use Rattle.mq_queue_side.specs.declared.answers.Why.{Why}
use Rattle.mq_tree.proofs.Empty.{empty-sound}
use Rattle.mq_tree.proofs.KeptSteps.{group-sound}
use Rattle.mq_tree.specs.Empty.{empty_volume}
use Rattle.mq_tree.specs.Kept.{HasBytes}
use Rattle.mq_tree.specs.Requests.{after_group, replies, step}
use Rattle.mq_tree.specs.Sound.{AreBytes, IsSound}
use Rattle.mq_tree.specs.Volume.{Body, File, Dir, Free, Volume, body}
use Rattle.mq_tree.specs.declared.request.Reply.TheVariants.{Ok as Done, Names, Dir as Count}
use Rattle.mq_tree.specs.declared.request.Reply.{Reply}

abbrev empty : Volume
empty = empty_volume two

abbrev made : Volume
made = next two small_scripts empty small_line

-- ---- it is legal

abbrev is_bare : Body → Bool
is_bare Free = true
is_bare (File bytes) = false
is_bare (Dir slots) = false

changed : made ≢ empty
unfolding step after_group two is_name
changed e = true≢false (ap (λ (v : Volume). is_bare (body v 2)) (sym e))

small-step : IsStep two small_scripts empty 0 small_line
unfolding replies step after_group two is_name
small-step = record {
  of = lit≤ tt;
  queue = lit≤ tt;
  end_is = refl;
  number = refl;
  answered = refl;
  changes = λ e. changed;
  stays = λ e. absurd (true≢false e);
}

pub small-run : IsRun two small_scripts empty 0 small_lines
small-run = (small-step, tt)

word-bytes : AreBytes (codes "hi")
word-bytes zero = lit≤ tt
word-bytes (suc zero) = lit≤ tt
word-bytes (suc (suc k)) = lit≤ tt

first-queue : 0 < queues_of two
unfolding two
first-queue = lit≤ tt

small-bytes : All HasBytes requests
small-bytes zero d l = tt
small-bytes (suc zero) d l = tt
small-bytes (suc (suc zero)) d l = word-bytes
small-bytes (suc (suc (suc k))) d l = absurd (omega arith)

made-sound : IsSound two made
made-sound = group-sound two 0 empty requests (empty-sound two) first-queue small-bytes

small-writes : (count : ℕ) × Writes two empty made count
small-writes = sound-writes two empty made (empty-sound two) made-sound

homes-low : homes_of two ≤ 1000
unfolding two
homes-low = lit≤ tt

homes-few : homes_of two ≤ write_limit two
homes-few =
    let low = limit-low two in
    let few = homes-low in
    omega (arith, low, few)

small-few : WritesFew two empty made
small-few =
    let few = writes-few two empty made small-writes.0 small-writes.1 in
    let homes = homes-few in
    (small-writes.0, small-writes.1, omega (arith, few, homes))

pub small-legal : IsLegal two small_scripts empty 0 small_lines
small-legal = record { run = small-run; sessions = λ i j d low high. absurd (omega arith); few = (small-few, tt) }

-- ---- it is answered

one : {X : Type 0} (x y : X) → Contains (x ∷ []) y → x ≡ y
one x y (zero, low, e) = e
one x y (suc k, low, e) = absurd (omega arith)

small-prefix : (s : ℕ) → s < length small_scripts → IsPrefixAnswered small_scripts small_answers s
small-prefix zero low = record {
  count = 1;
  most = lit≤ tt;
  each = λ k l. (small_told, (0, lit≤ tt, refl), (refl, omega arith));
  only = λ t c own. let e : t.group ≡ 0 = sym (ap (λ (x : Told). x.group) (one small_told t c)) in omega (arith, e);
  last = λ t c own ended. let e : t.group ≡ 0 = sym (ap (λ (x : Told). x.group) (one small_told t c)) in omega (arith, e);
  stopped = λ low. absurd (omega arith);
}
small-prefix (suc s) low = absurd (omega arith)

pub small-answered : AreAnswered small_scripts small_lines small_answers
small-answered = record {
  of = λ t c. subst (λ (x : Told). IsGroup small_scripts x.session x.group) (one small_told t c) (lit≤ tt);
  ends = λ t c. subst (λ (x : Told). x.end ≡ (group_told small_scripts x).end) (one small_told t c) refl;
  prefixes = small-prefix;
  once = λ i j d low high. absurd (omega arith);
  names = λ t c. subst (λ (x : Told). NamesLine small_lines x (number_in x.answer)) (one small_told t c) (small_line, (0, lit≤ tt, refl), (refl, refl), refl, λ e. absurd (true≢false e));
  told = λ l c. subst (λ (x : Line). (t : Told) × Contains small_answers t × IsOf t x.session x.group) (one small_line l c) (small_told, (0, lit≤ tt, refl), (refl, refl));
}

not-ask : Fsync ≢ Ask
not-ask e = absurd (cc)

told-caused : (ls : List Line) (reached : ℕ) → IsCaused two small_scripts empty 0 ls reached small_told
told-caused ls reached = record {
  refused = λ r e. absurd (cc);
  changing = λ index changing. absurd (not-ask changing.asks);
}

pub small-caused : AreCaused two small_scripts empty 0 small_lines 1 small_answers
small-caused t c = subst (λ (x : Told). IsCaused two small_scripts empty 0 small_lines 1 x) (one small_told t c) (told-caused small_lines 1)

-- ---- it is cut

abbrev small_bell : ℕ → ℕ
small_bell q = small-writes.0 + 1

abbrev number_of : Result ℕ Refusal → ℕ
number_of (Ok n) = n
number_of (Err r) = 0

small-acknowledged : (n : ℕ) → IsAcknowledged small_scripts small_answers n → n ≤ 1
small-acknowledged n h =
    let e : 1 ≡ n = ap (λ (x : Told). number_of x.answer) (one small_told h.0 h.1) ∙ ap number_of h.2 in
    omega (arith, e)

small-rung : IsRung two small_scripts empty small_lines small_answers 0 0 (small-writes.0 + 1)
small-rung = record {
  sent = small_lines;
  unsent = [];
  parts = refl;
  sum = small-writes.0 + 1;
  entries = (0, refl, (small-writes.0, 0, small-writes.1, omega arith, omega arith));
  doorbell = omega arith;
  good = λ l t c. absurd (let h = c.1 in omega arith);
}

pub small-cut : (i : Shown) × IsCut two small_scripts empty 0 small_lines small_answers i 1 × IsClean two i 1 × IsRung two small_scripts empty small_lines small_answers 0 0 (i.doorbell 0) × (0 < i.doorbell 0)
small-cut =
    let few = writes-few two empty made small-writes.0 small-writes.1 in
    let homes = homes-low in
    let e = run-ends two small_scripts empty 0 small_lines small_answers small_bell small-run made-sound (lit≤ tt) (λ q. omega (arith, few, homes)) small-acknowledged in
    (e.0, e.1, e.2, subst (λ (n : ℕ). IsRung two small_scripts empty small_lines small_answers 0 0 n) (sym (e.3 0)) small-rung, let d = e.3 0 in omega (arith, d))

-- ---- what may not be reported

none-in : {X : Type 0} (x : X) → Contains [] x → ⊥
none-in x c = absurd (omega (arith, c.1))

-- a good answer without its line
pub no-line : AreAnswered small_scripts [] small_answers → ⊥
no-line h = let named = h.names small_told (0, lit≤ tt, refl) in none-in named.0 named.1

-- no answers at all
pub no-answers : (ls : List Line) → AreAnswered small_scripts ls [] → ⊥
no-answers ls h =
    let p = h.prefixes 0 (lit≤ tt) in
    elim (cases_eq p.count 0) [
      | inl none ↦ let t = p.stopped (omega (arith, none)) in none-in t.0 t.1
      | inr some ↦ let t = p.each 0 (omega (arith, some)) in none-in t.0 t.1
    ]

pub answered-twice : (ls : List Line) → AreAnswered small_scripts ls (small_told ∷ small_told ∷ []) → ⊥
answered-twice ls h = h.once 0 1 small_told (lit≤ tt) (lit≤ tt) refl refl

-- a number twice
pub number-twice : (g : Geometry) (ss : List Script) (v : Volume) (n : ℕ) (l m : Line) → l.commit ≡ true → m.commit ≡ true → IsRun g ss v n (l ∷ m ∷ []) → l.number ≡ m.number → ⊥
number-twice g ss v n l m c d run e =
    let first : l.number ≡ n + 1 = run.0.number ∙ ap (λ b. number_after n b) c in
    let second : m.number ≡ l.number + 1 = run.1.0.number ∙ ap (λ b. number_after l.number b) d in
    omega (arith, first, second, e)

-- a commit that is reported as a read
pub no-read : IsRun two small_scripts empty 0 (as_read ∷ []) → ⊥
no-read run = changed (run.0.stays refl)

asked : replies two 0 empty asking ≡ Done ∷ Count 0 ∷ Names (directory ∷ []) ∷ []
unfolding replies step after_group two is_name
asked = refl

abbrev counts_second : List Reply → Bool
counts_second (r ∷ Count n ∷ rs) = true
counts_second rs = false

pub no-swap : IsRun two asking_scripts empty 0 (swapped ∷ []) → ⊥
no-swap run = true≢false (sym (ap counts_second (run.0.answered ∙ asked)))

-- a large group
pub no-large : (ls : List Line) (reached count : ℕ) → IsCaused two small_scripts empty 0 ls reached (as_large count) → ⊥
no-large ls reached count h =
    let is : IsLarge two small_scripts empty 0 ls (as_large count) count = (h.refused (record { cause = TooLarge count (write_limit two); drawn = None }) refl).cause_is.0 in
    let few = writes-few two _ _ count is.writes in
    let homes = homes-few in
    let many : write_limit two < count = is.many in
    absurd (omega (arith, few, homes, many))

pub no-changing : (ls : List Line) (reached index : ℕ) → IsCaused two small_scripts empty 0 ls reached (as_changing index) → ⊥
no-changing ls reached index h = not-ask (h.refused (refusal_at index) refl).cause_is.asks

first-change : IsFirstChange asking 0
first-change = record { within = lit≤ tt; changes = λ d. refl; before = λ k d low high. absurd (omega arith) }

pub no-good-ask : (ls : List Line) (reached : ℕ) → IsCaused two only_asking empty 0 ls reached well_asked → ⊥
no-good-ask ls reached h = let e = h.changing 0 (record { asks = refl; first = first-change }) in absurd (cc)

-- a transaction that failed

failed-for : (ls : List Line) (reached tx status : ℕ) → IsCaused two small_scripts empty 0 ls reached (as_failed tx status) → IsRefusedFor two small_scripts empty 0 ls reached (as_failed tx status) (record { cause = Drive (Failed tx status); drawn = Some 1 })
failed-for ls reached tx status h = h.refused (record { cause = Drive (Failed tx status); drawn = Some 1 }) refl

pub no-later : (ls : List Line) (reached tx status : ℕ) → 1 < tx → IsCaused two small_scripts empty 0 ls reached (as_failed tx status) → ⊥
no-later ls reached tx status above h = let late = ((failed-for ls reached tx status h).late 1 refl).1 in omega arith

pub no-reached : (ls : List Line) (reached tx status : ℕ) → tx ≤ reached → IsCaused two small_scripts empty 0 ls reached (as_failed tx status) → ⊥
no-reached ls reached tx status low h = let above = (failed-for ls reached tx status h).cause_is.above in omega arith

pub no-status : (tx status : ℕ) → status ≢ 640 → TellErrors two (as_failed tx status ∷ []) → ⊥
no-status tx status other h = other (h (as_failed tx status) (record { cause = Drive (Failed tx status); drawn = Some 1 }) (Failed tx status) (0, lit≤ tt, refl) refl refl)

pub no-stopped-ask : (ls : List Line) (reached tx : ℕ) (why : Why) → IsCaused two only_asking empty 0 ls reached (stopped_ask tx why) → ⊥
no-stopped-ask ls reached tx why h = (h.refused (record { cause = Drive (Stopped tx why); drawn = None }) refl).asks refl
