-- Ports in a row, by their states and faults.
use Rattle.std.proofs.Common.{◌≡◌, ◌<◌, ℕ, ◌+◌, List, [], ◌++◌, length, map, take, drop, Option, Some, get_or, set, refl, sym, ◌∙◌, ap, subst, arith}
use Rattle.std.proofs.lemmas.List.{append-nil, drop_all, take_all, get_or-map, get_or_at, length-map, length-take-le, map-set, set_at, drop_more}
use Rattle.std.proofs.lemmas.List.Edits.{map_over_more}
use Rattle.std.proofs.Math.Seq.{map-set_same}
use Rattle.std.specs.Prelude.{Result, Ok, Err, OnErr}
use Rattle.mq_blocks.specs.Drive.{PortState, IsHome}
use Rattle.mq_blocks.specs.Geometry.{homes_of, home_lba, zone_of}
use Rattle.mq_blocks.specs.declared.geometry.Geometry.{Geometry}
use Rattle.mq_ledger.specs.State.{no_port, port_at}
use Rattle.mq_drive.specs.Steps.{PortFault, PowerOff, HomeError, Gains}
use Rattle.mq_drive.specs.declared.port.Off.{Off as IsOff}
use Rattle.mq_recover.specs.Drives.{drive, states, faults_of, ArePorts}
use Rattle.mq_recover.specs.RecoverCauses.{HasHomeCause, HasDriveCause, HasMoveCause, OneGains}
use Rattle.mq_recover.specs.RecoverHomes.{GivesHome, GivesOne, AreCutMoves, IsCutMove, after_move}
use Rattle.mq_recover.specs.declared.refusal.RecoverRefusal.{RecoverRefusal}
use Rattle.mq_recover.specs.declared.refusal.RecoverRefusal.TheVariants.{Image, Off, Failed}
use Rattle.mq_recover.proofs.DrivesZones.{IsZone, zone-is, home-own}

-- this element stands there
pub record StandsAt {A : Type 0} (xs : List A) (q : ℕ) (x : A) : Type 0 where
  pub within : q < length xs
  pub is : x ≡ get_or xs q x

pub state-at : {A : Type 0} (state : A → PortState) (xs : List A) (q : ℕ) (x : A) → StandsAt xs q x → port_at (map state xs) q ≡ state x
state-at state xs q x at = get_or-map state xs q x no_port at.within ∙ ap state (sym at.is)

faults-at : {A : Type 0} (faults : A → List PortFault) (xs : List A) (q : ℕ) (x : A) → StandsAt xs q x → get_or (map faults xs) q [] ≡ faults x
faults-at faults xs q x at = get_or-map faults xs q x [] at.within ∙ ap faults (sym at.is)

-- one more fault of one of them
pub one-gains : {A : Type 0} (faults : A → List PortFault) (xs : List A) (q : ℕ) (x y root : A) (f : PortFault) → StandsAt xs q x → Gains f (faults x) (faults y) → OneGains (Some q) f (faults_of faults xs root) (faults_of faults (set xs q y) root)
one-gains faults xs q x y root f at gains =
    let long = length-map xs faults in
    let within = at.within in (
      omega arith,
      faults y,
      subst (λ (l : List PortFault). Gains f l (faults y)) (sym (faults-at faults xs q x at)) gains,
      map-set faults xs q y,
      refl,
    )

same-faults : {A : Type 0} (faults : A → List PortFault) (xs : List A) (q : ℕ) (x y root : A) → StandsAt xs q x → faults y ≡ faults x → faults_of faults (set xs q y) root ≡ faults_of faults xs root
same-faults faults xs q x y root at same =
    ap (λ (l : List (List PortFault)). record { queues = l; root = faults root }) (map-set_same faults xs q y x (same ∙ ap faults at.is))

-- ---- a home write through one of them

-- this element is the port of the block's zone
pub record IsOfBlock {A : Type 0} (g : Geometry) (xs : List A) (q b : ℕ) (x : A) : Type 0 where
  pub zone : zone_of g b ≡ Some q
  pub own : q < g.queues
  pub at : StandsAt xs q x

pub of-block : {A : Type 0} (g : Geometry) (state : A → PortState) (xs : List A) (q b : ℕ) (x root : A) → ArePorts g (states state xs root) → b < homes_of g → zone_of g b ≡ Some q → x ≡ get_or xs q x → IsOfBlock g xs q b x
of-block g state xs q b x root ports inside zone is =
    let own : q < g.queues = subst (IsZone g) zone (zone-is g b inside) in
    let count = ports.count in
    let long = length-map xs state in
    record { zone = zone; own = own; at = record { within = omega arith; is = is } }

pub row-home : {A : Type 0} (g : Geometry) (state : A → PortState) (xs : List A) (q b : ℕ) (x root : A) → ArePorts g (states state xs root) → IsOfBlock g xs q b x → IsHome (state x) (home_lba g b)
row-home g state xs q b x root ports of = subst (λ (s : PortState). IsHome s (home_lba g b)) (state-at state xs q x of.at) (home-own g (Some q) (port_at (map state xs) q) b of.zone (ports.each q of.own))

pub row-gives : {A B : Type 0} (g : Geometry) (state : A → PortState) (xs : List A) (q b : ℕ) (block : List ℕ) (x y root : A) (result : Result B RecoverRefusal) → IsOfBlock g xs q b x → GivesHome g (state x) b block result (state y)
    → GivesOne g (zone_of g b) (states state xs root) b block result (states state (set xs q y) root)
row-gives g state xs q b block x y root result of gives =
    subst (λ (z : Option ℕ). GivesOne g z (states state xs root) b block result (states state (set xs q y) root)) (sym of.zone) (
      state y,
      subst (λ (s : PortState). GivesHome g s b block result (state y)) (sym (state-at state xs q x of.at)) gives,
      ap (λ (l : List PortState). drive l (state root)) (map-set state xs q y),
    )

pub row-cause : {A B : Type 0} (g : Geometry) (state : A → PortState) (faults : A → List PortFault) (xs : List A) (q b : ℕ) (block : List ℕ) (x y root : A) (result : Result B RecoverRefusal) → IsOfBlock g xs q b x
    → GivesHome g (state x) b block result (state y) → HasHomeCause g result (faults x) (faults y) → HasDriveCause g result (faults_of faults xs root) (faults_of faults (set xs q y) root)
row-cause g state faults xs q b block x y root (Ok done) of gives cause = same-faults faults xs q x y root of.at cause
row-cause g state faults xs q b block x y root (Err (Image fault)) of gives cause = absurd cause
row-cause g state faults xs q b block x y root (Err Off) of gives cause = (Some q, one-gains faults xs q x y root PowerOff of.at cause)
row-cause g state faults xs q b block x y root (Err (Failed c status)) of gives cause =
    subst (λ (z : Option ℕ). OneGains z (HomeError (home_lba g c) status) (faults_of faults xs root) (faults_of faults (set xs q y) root)) (sym (ap (zone_of g) gives.0 ∙ of.zone))
    (one-gains faults xs q x y root (HomeError (home_lba g c) status) of.at cause)

-- ---- the heads of a row of ports

-- Heads of a row before one went to their doorbells. The port of the next one is as it was.
pub record IsNextHead {A : Type 0} (state : A → PortState) (olds : List PortState) (xs : List A) (q : ℕ) (x : A) : Type 0 where
  pub at : StandsAt xs q x
  pub long : length xs ≡ length olds
  pub moved : map state xs ≡ map after_move (take q olds) ++ drop q olds

pub next-head : {A : Type 0} (state : A → PortState) (olds : List PortState) (xs : List A) (q : ℕ) (x : A) → IsNextHead state olds xs q x → state x ≡ port_at olds q
next-head state olds xs q x next =
    let low = next.at.within in
    let long = next.long in
    let first : List PortState = map after_move (take q olds) in
    let size : length first ≡ q = length-map (take q olds) after_move ∙ length-take-le q olds (omega arith) in
    sym (state-at state xs q x next.at)
    ∙ ap (λ (l : List PortState). port_at l q) (next.moved ∙ ap (λ (l : List PortState). first ++ l) (drop_more olds q no_port (omega arith)))
    ∙ get_or_at first (port_at olds q) (drop (q + 1) olds) no_port q size

pub head-moved : {A : Type 0} (state : A → PortState) (olds : List PortState) (xs : List A) (q : ℕ) (x y : A) → IsNextHead state olds xs q x → state y ≡ after_move (state x)
    → map state (set xs q y) ≡ map after_move (take (q + 1) olds) ++ drop (q + 1) olds
head-moved state olds xs q x y next is =
    let low = next.at.within in
    let long = next.long in
    let here : state x ≡ get_or (map state xs) q (state x) = sym (get_or-map state xs q x (state x) low ∙ ap state (sym next.at.is)) in
    map-set state xs q y
    ∙ ap (set (map state xs) q) is
    ∙ map_over_more after_move olds (map state xs) q (state x) (omega arith) next.moved here

pub head-cut : {A : Type 0} (state : A → PortState) (olds : List PortState) (xs : List A) (q : ℕ) (x y : A) → IsNextHead state olds xs q x → IsCutMove (state x) (state y) → AreCutMoves olds (map state (set xs q y))
head-cut state olds xs q x y next cut =
    let low = next.at.within in
    let long = next.long in
    let first : List PortState = map after_move (take q olds) in
    let size : length first ≡ q = length-map (take q olds) after_move ∙ length-take-le q olds (omega arith) in (
      q,
      omega arith,
      state y,
      subst (λ (s : PortState). IsCutMove s (state y)) (next-head state olds xs q x next) cut,
      map-set state xs q y
          ∙ ap (λ (l : List PortState). set l q (state y)) (next.moved ∙ ap (λ (l : List PortState). first ++ l) (drop_more olds q no_port (omega arith)))
          ∙ set_at first (port_at olds q) (drop (q + 1) olds) (state y) q size,
    )

pub on-err : {B E : Type 0} (result : Result B E) (P : Type 0) → P → OnErr result P
on-err (Ok x) P holds = tt
on-err (Err e) P holds = holds

-- an `Off` of one of them
pub head-cause : {A B : Type 0} (faults : A → List PortFault) (olds xs : List A) (q : ℕ) (x y : A) (result : Result B IsOff) (e : IsOff) → StandsAt xs q x → map faults xs ≡ map faults olds → Gains PowerOff (faults x) (faults y) → result ≡ Err e
    → HasMoveCause result (map faults olds) (map faults (set xs q y))
head-cause {B = B} faults olds xs q x y result e at same gains is =
    let long = length-map xs faults in
    let within = at.within in
    subst (λ (r : Result B IsOff). HasMoveCause r (map faults olds) (map faults (set xs q y))) (sym is)
    (subst (λ (l : List (List PortFault)). HasMoveCause (failed e) l (map faults (set xs q y))) same (
      q,
      omega arith,
      faults y,
      subst (λ (l : List PortFault). Gains PowerOff l (faults y)) (sym (faults-at faults xs q x at)) gains,
      map-set faults xs q y,
    ))
  where
    failed : IsOff → Result B IsOff
    failed e = Err e

-- one that goes to its doorbell has no more faults
pub head-same : {A : Type 0} (faults : A → List PortFault) (olds xs : List A) (q : ℕ) (x y : A) → StandsAt xs q x → map faults xs ≡ map faults olds → faults y ≡ faults x → map faults (set xs q y) ≡ map faults olds
head-same faults olds xs q x y at same is = map-set_same faults xs q y x (is ∙ ap faults at.is) ∙ same

-- a row that is handed out as a slice and comes back
pub whole-row : {A : Type 0} (len : ℕ) (news olds : List A) → length olds ≡ len → length news ≡ length olds → take len (news ++ drop (length news) olds) ≡ news
whole-row len news olds size long =
    ap (λ (l : List _). take len (news ++ l)) (drop_all (length news) olds (omega arith))
    ∙ ap (take len) (append-nil news)
    ∙ take_all len news (omega arith)
