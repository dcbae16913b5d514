-- What cuts of the power leave of ports in a row.
use Rattle.std.proofs.Common.{◌≡◌, ◌<◌, ◌≤◌, ℕ, zero, suc, ◌+◌, ◌-◌, ◌*◌, ◌^◌, min, List, [], ◌∷◌, ◌++◌, All, length, map, get_or, Some, None, refl, sym, ◌∙◌, ap, subst, arith}
use Rattle.std.specs.Prelude.{Contains, slice_get}
use Rattle.std.proofs.lemmas.List.{map_push}
use Rattle.std.proofs.lemmas.List.Elements.{All-push}
use Rattle.mq_blocks.specs.Drive.{FuseName, IsQuiescent, PortImage, PortState, counted, image_of}
use Rattle.mq_blocks.specs.Totals.{total}
use Rattle.mq_drive.specs.Emu.{drawn_by, emu_faults, emu_state}
use Rattle.mq_drive.specs.Fuse.{below}
use Rattle.mq_drive.specs.Happened.{home_errors}
use Rattle.mq_drive.specs.Seats.{fuse_of, tickets_of}
use Rattle.mq_drive.specs.Steps.{CommandError, PortFault, HomeError, PowerOff}
use Rattle.mq_drive.specs.declared.emu.EmuPort.{EmuPort}
use Rattle.mq_drive.specs.declared.fuse.FuseSeat.{FuseSeat}
use Rattle.mq_drive.proofs.StepsFaults.{command_error_is_none, home_error_is_none, only_offs}
use Rattle.mq_image_ops.specs.Cuts.{AreCutPorts, CutPort, IsCutPort}
use Rattle.mq_image_ops.proofs.RecoveringTally.{tally}

abbrev IsCut : (pick : ℕ) → CutPort → Type 0
IsCut pick c = IsCutPort pick c.port c.image c.seat

-- ---- one after another

pub next-cut : (pick : ℕ) (ports : List EmuPort) (images more : List PortImage) (seats others : List FuseSeat) (p : EmuPort) (i : PortImage) (s : FuseSeat) → AreCutPorts pick ports images seats → IsCutPort pick p i s → more ≡ images ++ i ∷ [] → others ≡ seats ++ s ∷ [] → AreCutPorts pick (ports ++ p ∷ []) more others
next-cut pick ports images more seats others p i s cut one more-is others-is =
    let c : CutPort = record { port = p; image = i; seat = s } in
    record {
      cuts = cut.cuts ++ c ∷ [];
      each = All-push (IsCut pick) cut.cuts c cut.each one;
      ports_are = ap (λ (l : List EmuPort). l ++ p ∷ []) cut.ports_are ∙ sym (map_push (λ (c : CutPort). c.port) cut.cuts c);
      images_are = more-is ∙ ap (λ (l : List PortImage). l ++ i ∷ []) cut.images_are ∙ sym (map_push (λ (c : CutPort). c.image) cut.cuts c);
      seats_are = others-is ∙ ap (λ (l : List FuseSeat). l ++ s ∷ []) cut.seats_are ∙ sym (map_push (λ (c : CutPort). c.seat) cut.cuts c);
    }

-- ---- what holds of each

each-at : {B C : Type 0} (pick : ℕ) (Q : B → C → Type 0) (f : CutPort → B) (h : CutPort → C) (b : B) (e : C) → ((c : CutPort) → IsCut pick c → Q (f c) (h c)) → (cs : List CutPort) → All (IsCut pick) cs → (k : ℕ) → k < length cs → Q (get_or (map f cs) k b) (get_or (map h cs) k e)
each-at pick Q f h b e holds [] all k low = absurd (omega (arith, low))
each-at pick Q f h b e holds (c ∷ cs) all zero low = holds c (all 0 c (omega arith))
each-at pick Q f h b e holds (c ∷ cs) all (suc k) low = each-at pick Q f h b e holds cs (λ j d less. all (suc j) d (omega (arith, less))) k (omega (arith, low))

length-cuts : {B : Type 0} (f : CutPort → B) (cs : List CutPort) → length (map f cs) ≡ length cs
length-cuts f [] = refl
length-cuts f (c ∷ cs) = ap suc (length-cuts f cs)

map-twice : {A B C : Type 0} (f : A → B) (h : B → C) (l : List A) → map h (map f l) ≡ map (λ x. h (f x)) l
map-twice f h [] = refl
map-twice f h (x ∷ l) = ap (λ (m : List _). h (f x) ∷ m) (map-twice f h l)

none-some : (p : EmuPort) → None ≡ Some p → ⊥
none-some p e = cc

some-is : (p q : EmuPort) → Some p ≡ Some q → p ≡ q
some-is p q e = cc

-- ---- events

-- a count that does not reach its end is a sum
counted-small : (n a : ℕ) → n + a ≤ 2 ^ 64 - 1 → counted n a ≡ n + a
counted-small n zero low = omega arith
counted-small n (suc a) low =
    let one_more : min (n + 1) (2 ^ 64 - 1) ≡ n + 1 = omega (arith, low) in
    let sum : n + 1 + a ≡ n + suc a = omega arith in
    ap (λ (m : ℕ). counted m a) one_more ∙ counted-small (n + 1) a (omega (arith, low)) ∙ sum

no-errors : (fs : List PortFault) → All (λ f. f ≡ PowerOff) fs → home_errors fs ≡ 0
no-errors [] all = refl
no-errors (PowerOff ∷ fs) all = no-errors fs (λ k d low. all (suc k) d (omega (arith, low)))
no-errors (CommandError tx status ∷ fs) all = absurd (command_error_is_none tx status (all 0 PowerOff (omega arith)))
no-errors (HomeError lba status ∷ fs) all = absurd (home_error_is_none lba status (all 0 PowerOff (omega arith)))

-- the power of the port lasts for l events, and no command is to fail
pub record IsLimited (l : ℕ) (s : PortState) : Type 0 where
  pub limit : s.fuse.limit ≡ Some l
  pub sound : s.fail ≡ None

one-happened : (pick : ℕ) (c : CutPort) (l : ℕ) → IsCut pick c → IsLimited l (emu_state c.port) → tally (emu_state c.port) ≤ 2 ^ 64 - 1 → below l (tickets_of c.seat) ≡ tally (emu_state c.port)
one-happened pick c l one limited few =
    let s = emu_state c.port in
    let none : home_errors (emu_faults c.port) ≡ 0 = no-errors (emu_faults c.port) (only_offs c.port.device.value limited.sound) in
    one.events l limited.limit
    ∙ ap (λ (e : ℕ). counted s.events (2 * s.begins - (length s.begun - e))) none
    ∙ counted-small s.events (2 * s.begins - (length s.begun - 0)) (omega (arith, few))
    ∙ (let e : s.events + (2 * s.begins - (length s.begun - 0)) ≡ tally s = omega arith in e)

module _ (pick : ℕ) (ports : List EmuPort) (images : List PortImage) (seats : List FuseSeat) (cut : AreCutPorts pick ports images seats) where
  abbrev cuts : List CutPort
  cuts = cut.cuts

  pub images-long : length images ≡ length ports
  images-long = ap length cut.images_are ∙ length-cuts (λ c. c.image) cuts ∙ sym (length-cuts (λ (c : CutPort). c.port) cuts) ∙ sym (ap length cut.ports_are)

  pub seats-long : length seats ≡ length ports
  seats-long = ap length cut.seats_are ∙ length-cuts (λ c. c.seat) cuts ∙ sym (length-cuts (λ (c : CutPort). c.port) cuts) ∙ sym (ap length cut.ports_are)

  cuts-long : length cuts ≡ length ports
  cuts-long = sym (length-cuts (λ (c : CutPort). c.port) cuts) ∙ sym (ap length cut.ports_are)

  states-are : map emu_state ports ≡ map (λ (c : CutPort). emu_state c.port) cuts
  states-are = ap (map emu_state) cut.ports_are ∙ map-twice (λ (c : CutPort). c.port) emu_state cuts

  -- a fact of each port and its image
  pub images-at : (Q : PortState → PortImage → Type 0) → ((p : EmuPort) (i : PortImage) (s : FuseSeat) → IsCutPort pick p i s → Q (emu_state p) i) → (k : ℕ) (d : PortState) (e : PortImage) → k < length ports → Q (get_or (map emu_state ports) k d) (get_or images k e)
  images-at Q holds k d e low =
      let long = cuts-long in
      subst (λ (l : List PortImage). Q (get_or (map emu_state ports) k d) (get_or l k e)) (sym cut.images_are)
      (subst (λ (l : List PortState). Q (get_or l k d) (get_or (map (λ (c : CutPort). c.image) cuts) k e)) (sym states-are)
      (each-at pick Q (λ c. emu_state c.port) (λ c. c.image) d e (λ c is. holds c.port c.image c.seat is) cuts cut.each k (omega (arith, low, long))))

  -- the seats are of the fuse of the ports
  pub seats-own : (f : FuseName) → ((k : ℕ) (d : PortState) → k < length ports → (get_or (map emu_state ports) k d).fuse ≡ f) → All (λ s. fuse_of s ≡ f) seats
  seats-own f fuses = subst (All (λ s. fuse_of s ≡ f)) (sym cut.seats_are) (own cuts cut.each (λ k d low. subst (λ (l : List PortState). (get_or l k d).fuse ≡ f) states-are (fuses k d (let long = cuts-long in omega (arith, low, long)))))
    where
      own : (cs : List CutPort) → All (IsCut pick) cs → ((k : ℕ) (d : PortState) → k < length cs → (get_or (map (λ (c : CutPort). emu_state c.port) cs) k d).fuse ≡ f) → All (λ s. fuse_of s ≡ f) (map (λ c. c.seat) cs)
      own [] all of k d low = absurd (omega (arith, low))
      own (c ∷ cs) all of zero d low = (all 0 c (omega arith)).fuse ∙ of 0 (emu_state c.port) (omega arith)
      own (c ∷ cs) all of (suc k) d low = own cs (λ j e less. all (suc j) e (omega (arith, less))) (λ j e less. of (suc j) e (omega (arith, less))) k d (omega (arith, low))

  -- where all ports have one image, these are theirs
  pub images-only : ((k : ℕ) (d : PortState) → k < length ports → IsQuiescent (get_or (map emu_state ports) k d)) → images ≡ map image_of (map emu_state ports)
  images-only quiet = cut.images_are ∙ only cuts cut.each (λ k d low. subst (λ (l : List PortState). IsQuiescent (get_or l k d)) states-are (quiet k d (let long = cuts-long in omega (arith, low, long)))) ∙ ap (map image_of) (sym states-are)
    where
      only : (cs : List CutPort) → All (IsCut pick) cs → ((k : ℕ) (d : PortState) → k < length cs → IsQuiescent (get_or (map (λ (c : CutPort). emu_state c.port) cs) k d)) → map (λ (c : CutPort). c.image) cs ≡ map image_of (map (λ (c : CutPort). emu_state c.port) cs)
      only [] all still = refl
      only (c ∷ cs) all still =
          ap (λ (i : PortImage). i ∷ map (λ (c : CutPort). c.image) cs) ((all 0 c (omega arith)).quiet (still 0 (emu_state c.port) (omega arith)))
          ∙ ap (λ (l : List PortImage). image_of (emu_state c.port) ∷ l) (only cs (λ k d low. all (suc k) d (omega (arith, low))) (λ k d low. still (suc k) d (omega (arith, low))))

  -- the seat of a port
  pub seat-of : (k : ℕ) (p : EmuPort) → slice_get ports k ≡ Some p → (s : FuseSeat) × Contains seats s × (tickets_of s ≡ drawn_by p)
  seat-of k p at = subst (λ (l : List FuseSeat). (s : FuseSeat) × Contains l s × (tickets_of s ≡ drawn_by p)) (sym cut.seats_are) (seat cuts cut.each k (subst (λ (l : List EmuPort). slice_get l k ≡ Some p) cut.ports_are at))
    where
      seat : (cs : List CutPort) → All (IsCut pick) cs → (k : ℕ) → slice_get (map (λ (c : CutPort). c.port) cs) k ≡ Some p → (s : FuseSeat) × Contains (map (λ (c : CutPort). c.seat) cs) s × (tickets_of s ≡ drawn_by p)
      seat [] all k at = absurd (none-some p at)
      seat (c ∷ cs) all zero at = (c.seat, (0, omega arith, refl), (all 0 c (omega arith)).tickets ∙ ap drawn_by (some-is c.port p at))
      seat (c ∷ cs) all (suc k) at =
          let rest = seat cs (λ j d low. all (suc j) d (omega (arith, low))) k at in
          let low = rest.1.1 in
          (rest.0, (suc rest.1.0, omega (arith, low), rest.1.2), rest.2)

  -- the tickets of all seats that are below the limit are the events of all ports
  pub happened-all : (l : ℕ) → ((k : ℕ) (d : PortState) → k < length ports → IsLimited l (get_or (map emu_state ports) k d)) → total tally (map emu_state ports) ≤ 2 ^ 64 - 1 → total (λ s. below l (tickets_of s)) seats ≡ total tally (map emu_state ports)
  happened-all l limited few =
      ap (total (λ s. below l (tickets_of s))) cut.seats_are
      ∙ happened cuts cut.each (λ k d low. subst (λ (m : List PortState). IsLimited l (get_or m k d)) states-are (limited k d (let long = cuts-long in omega (arith, low, long)))) (subst (λ (m : List PortState). total tally m ≤ 2 ^ 64 - 1) states-are few)
      ∙ ap (total tally) (sym states-are)
    where
      happened : (cs : List CutPort) → All (IsCut pick) cs → ((k : ℕ) (d : PortState) → k < length cs → IsLimited l (get_or (map (λ (c : CutPort). emu_state c.port) cs) k d)) → total tally (map (λ (c : CutPort). emu_state c.port) cs) ≤ 2 ^ 64 - 1
          → total (λ s. below l (tickets_of s)) (map (λ (c : CutPort). c.seat) cs) ≡ total tally (map (λ (c : CutPort). emu_state c.port) cs)
      happened [] all limited few = refl
      happened (c ∷ cs) all limited few =
          let one = one-happened pick c l (all 0 c (omega arith)) (limited 0 (emu_state c.port) (omega arith)) (omega (arith, few)) in
          let rest = happened cs (λ j d low. all (suc j) d (omega (arith, low))) (λ j d low. limited (suc j) d (omega (arith, low))) (omega (arith, few)) in
          omega (arith, one, rest)
