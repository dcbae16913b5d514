-- How many lines of a text stand where the power of a port in memory goes off after so many events.
use Rattle.std.proofs.Common.{◌≡◌, ◌<◌, ◌≤◌, ◌^◌, ℕ, zero, suc, ◌+◌, ◌-◌, List, [], ◌∷◌, length, min, Option, Some, None, inl, inr, refl, sym, ◌∙◌, ap, subst, arith}
use Rattle.std.specs.Prelude.{Contains, IfSome}
use Rattle.std.proofs.lemmas.Bool.{cases_lt}
use Rattle.mq_blocks.specs.Drive.{FuseName, counted}
use Rattle.mq_drive.specs.Emu.{emu_state, emu_faults, drawn_by}
use Rattle.mq_drive.specs.Fuse.{above, below}
use Rattle.mq_drive.specs.Seats.{tickets_of}
use Rattle.mq_drive.specs.Steps.{PortFault, PowerOff, CommandError, Gains}
use Rattle.mq_blocks.specs.Totals.{total}
use Rattle.mq_drive.specs.declared.emu.EmuPort.{EmuPort}
use Rattle.mq_drive.specs.declared.fuse.FuseSeat.{FuseSeat}
use Rattle.mq_drive.proofs.Happened.{happened-alone}
use Rattle.mq_drive.proofs.StepsFaults.{off_above, off_unlimited, no_error, command_error_is_none}
use Rattle.mq_command_blocks.specs.Blocks.{output_of}
use Rattle.mq_block_trace.specs.Prefixes.{events_of, events_under, IsReached, IsPrefixAt}
use Rattle.mq_command_blocks.specs.Cuts.{rung_after, StandsUnder}
use Rattle.mq_block_trace.specs.Lines.{live_from, map_after, named}
use Rattle.mq_block_text.specs.Text.{printed}
use Rattle.mq_block_text.specs.declared.item.BlockItem.{BlockItem}

abbrev Lines : Type 0
Lines = List (List BlockItem)

-- a count at its end stands still
full : (k : ℕ) → counted (2 ^ 64 - 1) k ≡ 2 ^ 64 - 1
full zero = refl
full (suc k) = ap (λ (n : ℕ). counted n k) (let e : min (2 ^ 64 - 1 + 1) (2 ^ 64 - 1) ≡ 2 ^ 64 - 1 = omega arith in e) ∙ full k

-- below its end a count has counted each
counted-small : (n k m : ℕ) → n ≤ 2 ^ 64 - 1 → counted n k ≡ m → m < 2 ^ 64 - 1 → n + k ≡ m
counted-small n zero m low is small = omega (arith, is)
counted-small n (suc k) m low is small = elim (cases_lt n (2 ^ 64 - 1)) [
  | inl below ↦
      let e : min (n + 1) (2 ^ 64 - 1) ≡ n + 1 = omega (arith, below) in
      let next = counted-small (n + 1) k m (omega (arith, below)) (ap (λ (x : ℕ). counted x k) (sym e) ∙ is) small in
      omega (arith, next)
  | inr end ↦
      let e : min (n + 1) (2 ^ 64 - 1) ≡ 2 ^ 64 - 1 = omega (arith, end) in
      let still : m ≡ 2 ^ 64 - 1 = sym is ∙ ap (λ (x : ℕ). counted x k) e ∙ full k in
      absurd (omega (arith, still, small))
]

-- so many events happened on a port where no home write began
happened-events : (p : EmuPort) (e l : ℕ) → (emu_state p).begins ≡ 0 → (emu_state p).events ≡ counted 0 e → l < 2 ^ 63 → (emu_state p).fuse.limit ≡ Some l → e ≡ below l (drawn_by p)
happened-events p e l none counts small is =
    let same = p.device.value.power.counted l is in
    let few = p.device.value.power.seat.apart l in
    let all = counted-small 0 e (below l (drawn_by p)) (omega arith) (sym counts ∙ sym (happened-alone p.device.value none) ∙ same) (omega (arith, small, few)) in
    omega (arith, all)

-- all lines stand where all of them were committed
pub all_stand : (lines : Lines) (cut : Option ℕ) (p : EmuPort) (doorbell : ℕ) → IfSome cut (λ k. k < 2 ^ 63) → (emu_state p).fuse.limit ≡ cut → (emu_state p).begins ≡ 0 → (emu_state p).events ≡ counted 0 (events_of lines (length lines))
    → doorbell ≡ rung_after lines (events_of lines (length lines)) → StandsUnder lines cut (drawn_by p) doorbell (length lines)
all_stand lines None p doorbell small limit none counts rung = (refl, rung)
all_stand lines (Some k) p doorbell small limit none counts rung =
    let all : events_of lines (length lines) ≡ below k (drawn_by p) = happened-events p (events_of lines (length lines)) k none counts small limit in
    (rung ∙ ap (rung_after lines) all, inl (refl, sym all))

-- where the power went off as many stand as are reached by the events that happened
pub reached_stand : (lines : Lines) (cut : Option ℕ) (old : List PortFault) (p : EmuPort) (e n doorbell : ℕ) → IfSome cut (λ k. k < 2 ^ 63) → (emu_state p).fuse.limit ≡ cut → (emu_state p).begins ≡ 0 → (emu_state p).events ≡ counted 0 e
    → Gains PowerOff old (emu_faults p) → IsReached lines e n → e < events_of lines (length lines) → doorbell ≡ rung_after lines e → StandsUnder lines cut (drawn_by p) doorbell n
reached_stand lines None old p e n doorbell small limit none counts gains reached few rung = absurd (off_unlimited old p.device.value gains limit)
reached_stand lines (Some k) old p e n doorbell small limit none counts gains reached few rung =
    let is : e ≡ below k (drawn_by p) = happened-events p e k none counts small limit in (
      rung ∙ ap (rung_after lines) is,
      inr (subst (λ (m : ℕ). IsReached lines m n) is reached, off_above old p.device.value k gains limit, omega (arith, is, few)),
    )

-- what the fuse counted, where the root's port drew no ticket
abbrev pub IsClosed : Option ℕ → List ℕ → ℕ → Type 0
IsClosed cut queue closed = (l : ℕ) → cut ≡ Some l → (closed ≡ below l queue) × (closed ≤ l) × (0 < above l queue → closed ≡ l)

-- of a queue's seat and of a root's without tickets
pub is_closed : (cut : Option ℕ) (name : FuseName) (seats : List FuseSeat) (q r : FuseSeat) (closed : ℕ) → name.limit ≡ cut → seats ≡ q ∷ r ∷ [] → tickets_of r ≡ []
    → ((l : ℕ) → name.limit ≡ Some l → closed ≡ total (λ s. below l (tickets_of s)) seats) → ((l : ℕ) → name.limit ≡ Some l → closed ≤ l)
    → ((l : ℕ) (s : FuseSeat) → name.limit ≡ Some l → Contains seats s → 0 < above l (tickets_of s) → closed ≡ l) → IsClosed cut (tickets_of q) closed
is_closed cut name seats q r closed limit are idle happened most off l is =
    let at : name.limit ≡ Some l = limit ∙ is in
    let all = happened l at in
    let sum : total (λ s. below l (tickets_of s)) seats ≡ below l (tickets_of q) + (below l (tickets_of r) + 0) = ap (total (λ (s : FuseSeat). below l (tickets_of s))) are in
    let none : below l (tickets_of r) ≡ 0 = ap (below l) idle in
    (omega (arith, all, sum, none), most l at, λ over. off l q at (subst (λ (xs : List FuseSeat). Contains xs q) (sym are) (0, omega arith, refl)) over)

pub prefix_stand : (lines : Lines) (cut : Option ℕ) (queue : List ℕ) (doorbell n closed : ℕ) → StandsUnder lines cut queue doorbell n → IsClosed cut queue closed → IsPrefixAt lines cut n
prefix_stand lines None queue doorbell n closed stands fuse = stands.0
prefix_stand lines (Some l) queue doorbell n closed (rung, inl all) fuse =
    let f = fuse l refl in
    let same = f.0 in
    let most = f.1 in
    let whole = all.0 in
    let events = all.1 in
    subst (λ (m : ℕ). IsReached lines l m) (sym whole) (record { within = omega arith; ends = inl (omega (arith, same, most, events), λ less. absurd (omega (arith, less))) })
prefix_stand lines (Some l) queue doorbell n closed (rung, inr off) fuse =
    let f = fuse l refl in
    let is : below l queue ≡ l = sym f.0 ∙ f.2 off.1 in
    subst (λ (m : ℕ). IsReached lines m n) is off.0

-- where the doorbell stands then
pub doorbell_under : (lines : Lines) (cut : Option ℕ) (queue : List ℕ) (doorbell n closed : ℕ) → StandsUnder lines cut queue doorbell n → IsClosed cut queue closed → doorbell ≡ rung_after lines (events_under lines cut)
doorbell_under lines None queue doorbell n closed stands fuse = stands.1
doorbell_under lines (Some l) queue doorbell n closed (rung, inl all) fuse =
    let f = fuse l refl in
    let same = f.0 in
    let most = f.1 in
    let events = all.1 in
    rung ∙ ap (rung_after lines) (let e : below l queue ≡ min l (events_of lines (length lines)) = omega (arith, same, most, events) in e)
doorbell_under lines (Some l) queue doorbell n closed (rung, inr off) fuse =
    let f = fuse l refl in
    let is : below l queue ≡ l = sym f.0 ∙ f.2 off.1 in
    let few = off.2 in
    rung ∙ ap (rung_after lines) (let e : below l queue ≡ min l (events_of lines (length lines)) = omega (arith, is, few) in e)

pub prefix_within : (lines : Lines) (cut : Option ℕ) (n : ℕ) → IsPrefixAt lines cut n → n ≤ length lines
prefix_within lines None n is = omega (arith, is)
prefix_within lines (Some k) n is = is.within

-- no command of a port fails where none is to fail
pub none_failed : (p : EmuPort) (tx status : ℕ) → (emu_state p).fail ≡ None → Gains (CommandError tx status) [] (emu_faults p) → ⊥
none_failed p tx status none gains =
    no_error [] p.device.value (CommandError tx status) (command_error_is_none tx status) gains none (λ has. let within = has.1 in omega (arith, within))

-- ---- what is printed

pub run_output : (lines : Lines) (p prefix : ℕ) (text : List ℕ) (live : List (ℕ × ℕ)) → prefix ≡ p → text ≡ printed prefix live → live ≡ live_from (map_after lines p) 0 named → text ≡ output_of lines p
run_output lines p prefix text live same is live_is = is ∙ (λ i. printed (same i) (live_is i))
