-- A recovery through ports in a row.
use Rattle.std.proofs.Common.{◌≡◌, ◌<◌, ℕ, List, [], ◌++◌, length, map, take, drop, Some, get_or, set, sym, ◌∙◌, ap, subst, arith}
use Rattle.std.proofs.lemmas.List.{length-map}
use Rattle.std.specs.Prelude.{Result, Err}
use Rattle.mq_blocks.specs.Descriptor.{Descriptor}
use Rattle.mq_blocks.specs.Drive.{PortState}
use Rattle.mq_blocks.specs.Machine.{Writes}
use Rattle.mq_blocks.specs.declared.geometry.Geometry.{Geometry}
use Rattle.mq_ledger.specs.State.{port_at}
use Rattle.mq_drive.specs.Steps.{PortFault, PowerOff, Gains}
use Rattle.mq_recover.specs.Drives.{DriveState, DriveFaults, IsQuiescentDrive, states, faults_of}
use Rattle.mq_recover.specs.RecoverCauses.{HasDriveCause, OneGains}
use Rattle.mq_recover.specs.RecoverHomes.{CanMove, AreCutMoves, after_raise, after_move}
use Rattle.mq_recover.specs.Events.{after_events, home_events}
use Rattle.mq_recover.specs.Recovering.{HasStopped, HasWritten}
use Rattle.mq_recover.specs.declared.refusal.RecoverRefusal.{RecoverRefusal}
use Rattle.mq_recover.specs.declared.refusal.RecoverRefusal.TheVariants.{Off}
use Rattle.mq_recover.proofs.DrivesPortRows.{whole-row}
use Rattle.mq_recover.proofs.RecoveringDrives.{IsPlanned, all-home, can-move, cut-heads, done}

-- The home writes ended with these ports, and the base was raised with this root.
pub record IsRaisedRow {A : Type 0} (state : A → PortState) (g : Geometry) (s : DriveState) (ds : List Descriptor) (top : ℕ) (writes : Writes) (xs : List A) (old root : A) : Type 0 where
  pub still : IsQuiescentDrive g s
  pub planned : IsPlanned g s ds top writes
  pub home : states state xs old ≡ after_events g s (home_events writes)
  pub raised : state root ≡ after_raise (state old) top

-- the row was handed out as a slice and came back with other ports
pub record IsHandedBack {A : Type 0} (len : ℕ) (xs slice ys : List A) : Type 0 where
  pub len_is : len ≡ length xs
  pub same : slice ≡ xs
  pub long : length ys ≡ length slice

back : {A : Type 0} (len : ℕ) (xs slice ys : List A) → IsHandedBack len xs slice ys → take len (ys ++ drop (length ys) xs) ≡ ys
back len xs slice ys handed =
    let size = handed.len_is in
    let long = handed.long in
    let same = ap length handed.same in
    whole-row len ys xs (omega arith) (omega arith)

pub row-moves : {A : Type 0} (state : A → PortState) (g : Geometry) (s : DriveState) (ds : List Descriptor) (top : ℕ) (writes : Writes) (xs slice : List A) (old root : A) → IsRaisedRow state g s ds top writes xs old root → slice ≡ xs → (q : ℕ) → q < length slice → CanMove (port_at (map state slice) q)
row-moves state g s ds top writes xs slice old root row same q low =
    let long = length-map xs state in
    let size = ap length same in
    subst (λ (l : List _). CanMove (port_at (map state l) q)) (sym same)
    (can-move g s (states state xs old) writes q (all-home g s (states state xs old) ds top writes row.still row.planned row.home) (omega arith))

pub row-cut : {A : Type 0} (state : A → PortState) (g : Geometry) (s : DriveState) (ds : List Descriptor) (top : ℕ) (writes : Writes) (xs slice ys : List A) (old root : A) (len : ℕ) → IsRaisedRow state g s ds top writes xs old root → IsHandedBack len xs slice ys → AreCutMoves (map state slice) (map state ys)
    → HasStopped g Off s ds top (states state (take len (ys ++ drop (length ys) xs)) root)
row-cut state g s ds top writes xs slice ys old root len row handed cut =
    let n : DriveState = states state xs old in
    let home = all-home g s n ds top writes row.still row.planned row.home in
    subst (λ (l : List _). HasStopped g Off s ds top (states state l root)) (sym (back len xs slice ys handed))
    (cut-heads g s n (map state ys) (state root) ds top writes row.still row.planned home row.raised (subst (λ (l : List _). AreCutMoves (map state l) (map state ys)) handed.same cut))

pub row-done : {A : Type 0} (state : A → PortState) (g : Geometry) (s : DriveState) (ds : List Descriptor) (top : ℕ) (writes : Writes) (xs slice ys : List A) (old root : A) (len : ℕ) → IsRaisedRow state g s ds top writes xs old root → IsHandedBack len xs slice ys → map state ys ≡ map after_move (map state slice)
    → HasWritten g s ds top (states state (take len (ys ++ drop (length ys) xs)) root)
row-done state g s ds top writes xs slice ys old root len row handed moved =
    let n : DriveState = states state xs old in
    let home = all-home g s n ds top writes row.still row.planned row.home in
    subst (λ (l : List _). HasWritten g s ds top (states state l root)) (sym (back len xs slice ys handed))
    (done g s n (map state ys) (state root) ds top writes row.still row.planned home row.raised (moved ∙ ap (λ (l : List _). map after_move (map state l)) handed.same))

-- an `Off` at one of the heads is one more fault of its queue
pub row-off : {A B : Type 0} (faults : A → List PortFault) (g : Geometry) (before : DriveFaults) (xs slice ys : List A) (old root : A) (len : ℕ) (result : Result B RecoverRefusal) → IsHandedBack len xs slice ys → faults_of faults xs old ≡ before → faults root ≡ faults old
    → ((q : ℕ) × (q < length (map faults slice)) × (more : List PortFault) × Gains PowerOff (get_or (map faults slice) q []) more × (map faults ys ≡ set (map faults slice) q more)) → result ≡ Err Off
    → HasDriveCause g result before (faults_of faults (take len (ys ++ drop (length ys) xs)) root)
row-off {B = B} faults g before xs slice ys old root len result handed first same one is =
    let P : List (List PortFault) → Type 0 = λ l. (one.0 < length l) × Gains PowerOff (get_or l one.0 []) one.2 × (map faults ys ≡ set l one.0 one.2) in
    let at : P before.queues = subst P (ap (map faults) handed.same ∙ ap (λ (f : DriveFaults). f.queues) first) (one.1, one.3, one.4) in
    let gains : OneGains (Some one.0) PowerOff before (faults_of faults ys root) = (at.0, one.2, at.1, at.2, same ∙ ap (λ (f : DriveFaults). f.root) first) in
    subst (λ (l : List _). HasDriveCause g result before (faults_of faults l root)) (sym (back len xs slice ys handed))
    (subst (λ (r : Result B RecoverRefusal). HasDriveCause g r before (faults_of faults ys root)) (sym is) (Some one.0, gains))
