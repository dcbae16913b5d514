-- Events in a row, all of them or the first of them.
use Rattle.std.proofs.Common.{◌≡◌, ◌<◌, ◌⊎◌, inl, inr, ⊎_elim, ℕ, zero, suc, ◌+◌, true, false, List, [], ◌∷◌, ◌++◌, length, take, Option, Some, None, refl, sym, ◌∙◌, ap, subst, arith, append_assoc}
use Rattle.std.proofs.lemmas.List.{length-append, take-append-le, set-get_or}
use Rattle.std.proofs.Math.ListN.{length-set}
use Rattle.std.proofs.Math.Seq.{take-append_seam, take-append-add}
use Rattle.std.specs.Prelude.{slice_get, Result, Ok, Err}
use Rattle.mq_blocks.specs.Drive.{PortState, counted, index_of, after_begin, after_end, after_flush, after_store_base, after_store_head}
use Rattle.mq_blocks.specs.Geometry.{homes_of, home_lba, zone_of}
use Rattle.mq_blocks.specs.Machine.{Writes}
use Rattle.mq_blocks.specs.declared.geometry.Geometry.{Geometry}
use Rattle.mq_drive.specs.Start.{IsPortOf}
use Rattle.mq_drive.specs.declared.role.Role.{Role}
use Rattle.mq_drive.proofs.StartRolePorts.{begin-port, end-port, word-port, flush-port}
use Rattle.mq_recover.specs.Drives.{DriveState, ArePorts}
use Rattle.mq_recover.specs.RecoverHomes.{AreBelow, GivesHome, GivesOne}
use Rattle.mq_recover.specs.Events.{Event, BeginHome, EndHome, StoreBase, FlushBase, StoreHead, FlushHead, at_home, after_event, after_events, home_events, StopsAt}
use Rattle.mq_recover.specs.declared.refusal.RecoverRefusal.{RecoverRefusal}
use Rattle.mq_recover.specs.declared.refusal.RecoverRefusal.TheVariants.{Image, Off, Failed}
use Rattle.mq_recover.proofs.RecoverHomes.{homed, homed-ports}
use Rattle.mq_recover.proofs.DrivesZones.{IsZone, port_in, role_in, zone-is, ports-in, ports-of, at-count, at-each, at-twice}

pub after-then : (g : Geometry) (s : DriveState) (xs ys : List Event) → after_events g s (xs ++ ys) ≡ after_events g (after_events g s xs) ys
after-then g s [] ys = refl
after-then g s (x ∷ xs) ys = after-then g (after_event g s x) xs ys

at-seam : (xs : List Event) (y : Event) (ys : List Event) → slice_get (xs ++ y ∷ ys) (length xs) ≡ Some y
at-seam [] y ys = refl
at-seam (x ∷ xs) y ys = at-seam xs y ys

-- an event within the first list
within-first : (xs ys : List Event) (k : ℕ) (y : Event) → slice_get xs k ≡ Some y → (k < length xs) × (slice_get (xs ++ ys) k ≡ Some y)
within-first [] ys k y is = cc
within-first (x ∷ xs) ys zero y is = (omega arith, is)
within-first (x ∷ xs) ys (suc k) y is = let rest = within-first xs ys k y is in let low = rest.0 in (omega arith, rest.1)

-- what stops among the first events stops among all
pub stops-more : (g : Geometry) (e : RecoverRefusal) (s n : DriveState) (xs ys : List Event) → StopsAt g e s xs n → StopsAt g e s (xs ++ ys) n
stops-more g (Image fault) s n xs ys stops = absurd stops
stops-more g Off s n xs ys stops =
    let low = stops.1 in
    let long = length-append xs ys in (
      stops.0,
      omega arith,
      stops.2 ∙ ap (after_events g s) (sym (take-append-le stops.0 xs ys (omega arith))),
    )
stops-more g (Failed block status) s n xs ys stops =
    let there = within-first xs ys stops.0 (BeginHome block stops.1) stops.2 in
    let low = there.0 in (
      stops.0,
      stops.1,
      there.1,
      stops.3 ∙ ap (after_events g s) (sym (take-append-le (stops.0 + 1) xs ys (omega arith))),
    )

-- the power went off among the later events
pub off-after : (g : Geometry) (s m n : DriveState) (xs ys : List Event) (k : ℕ) → m ≡ after_events g s xs → k < length ys → n ≡ after_events g m (take k ys) → StopsAt g Off s (xs ++ ys) n
off-after g s m n xs ys k first low is =
    let long = length-append xs ys in (
      length xs + k,
      omega arith,
      is
          ∙ ap (λ (e : DriveState). after_events g e (take k ys)) first
          ∙ sym (after-then g s xs (take k ys))
          ∙ ap (after_events g s) (sym (take-append-add xs ys k)),
    )

-- ---- the ports stay ports of their roles

at-ports : (g : Geometry) (z : Option ℕ) (f : PortState → PortState) (e : DriveState) → ((role : Role) (s : PortState) → IsPortOf g role s → IsPortOf g role (f s)) → ArePorts g e → ArePorts g (at_home z f e)
at-ports g z f e along ports = ports-of g (at_home z f e) (at-count e z f ∙ ports.count)
    (at-each g (λ y s. IsPortOf g (role_in y) s) e z f ports.count (ports-in g e ports) (λ zone. along (role_in z) (port_in e z) (ports-in g e ports z zone)))

event-ports : (g : Geometry) (e : DriveState) (x : Event) → ArePorts g e → ArePorts g (after_event g e x)
event-ports g e (BeginHome b content) ports = at-ports g (zone_of g b) (λ s. after_begin s (home_lba g b) content) e (λ role s p. begin-port g role s (home_lba g b) content p) ports
event-ports g e (EndHome b content) ports = at-ports g (zone_of g b) (λ s. after_end s (home_lba g b) content) e (λ role s p. end-port g role s (home_lba g b) content p) ports
event-ports g e (StoreBase base) ports = at-ports g None (λ s. after_store_base s base) e (λ role s p. word-port g role s s.stored_head base (counted s.events 1) p) ports
event-ports g e FlushBase ports = at-ports g None after_flush e (λ role s p. flush-port g role s p) ports
event-ports g e (StoreHead q head) ports = at-ports g (Some q) (λ s. after_store_head s head) e (λ role s p. word-port g role s head s.stored_base (counted s.events 1) p) ports
event-ports g e (FlushHead q) ports = at-ports g (Some q) after_flush e (λ role s p. flush-port g role s p) ports

pub events-ports : (g : Geometry) (e : DriveState) (xs : List Event) → ArePorts g e → ArePorts g (after_events g e xs)
events-ports g e [] ports = ports
events-ports g e (x ∷ xs) ports = events-ports g (after_event g e x) xs (event-ports g e x ports)

-- ---- home writes

-- these home writes are left after some events
abbrev pub HasLeft : Geometry → (s : DriveState) → (all left : Writes) → (e : DriveState) → Type 0
HasLeft g s all left e = (done : List Event) × (home_events all ≡ done ++ home_events left) × (e ≡ after_events g s done)

abbrev begin_at : Geometry → ℕ × List ℕ → PortState → PortState
begin_at g w s = after_begin s (home_lba g w.0) w.1

abbrev end_at : Geometry → ℕ × List ℕ → PortState → PortState
end_at g w s = after_end s (home_lba g w.0) w.1

gives-pair : {A : Type 0} (g : Geometry) (z : Option ℕ) (e n : DriveState) (w : ℕ × List ℕ) (x : A) → length e.queues ≡ g.queues → IsZone g z → GivesOne g z e w.0 w.1 (Ok x) n → n ≡ at_home z (end_at g w) (at_home z (begin_at g w) e)
gives-pair g None e n w x count zone gives = gives.2 ∙ ap (λ (t : PortState). at_home None (λ _. t) e) gives.1
gives-pair g (Some q) e n w x count zone gives =
    gives.2
    ∙ ap (λ (t : PortState). at_home (Some q) (λ _. t) e) gives.1
    ∙ sym (at-twice g e (Some q) (begin_at g w) (end_at g w) count zone)

pub record IsNext (g : Geometry) (s : DriveState) (all ws : Writes) (n : DriveState) : Type 0 where
  pub ports : ArePorts g n
  pub below : AreBelow (homes_of g) ws
  pub so_far : HasLeft g s all ws n

-- the next block is home
pub next-home : {A : Type 0} (g : Geometry) (s : DriveState) (all left ws : Writes) (w : ℕ × List ℕ) (e n : DriveState) (x : A) → ArePorts g e → left ≡ w ∷ ws
    → AreBelow (homes_of g) left → HasLeft g s all left e → GivesOne g (zone_of g w.0) e w.0 w.1 (Ok x) n → IsNext g s all ws n
next-home g s all left ws w e n x ports is below so_far gives =
    let low = subst (AreBelow (homes_of g)) is below in
    let pair : n ≡ after_event g (after_event g e (BeginHome w.0 w.1)) (EndHome w.0 w.1) = gives-pair g (zone_of g w.0) e n w x ports.count (zone-is g w.0 low.0) gives in
    let h = homed g e w.0 w.1 ports low.0 in
    let both : List Event = BeginHome w.0 w.1 ∷ EndHome w.0 w.1 ∷ [] in
    record {
      ports = subst (ArePorts g) (sym pair) (homed-ports g e w.0 w.1 (after_event g (after_event g e (BeginHome w.0 w.1)) (EndHome w.0 w.1)) ports h);
      below = low.1;
      so_far = (
        so_far.0 ++ both,
        so_far.1 ∙ ap (λ (l : Writes). so_far.0 ++ home_events l) is ∙ sym (append_assoc so_far.0 both (home_events ws)),
        pair ∙ ap (λ (d : DriveState). after_events g d both) so_far.2 ∙ sym (after-then g s so_far.0 both),
      );
    }

abbrev pub refused : (A : Type 0) → RecoverRefusal → Result A RecoverRefusal
refused A e = Err e

-- a refused home write happened up to its begin at most
abbrev IsCutOne : Geometry → RecoverRefusal → Option ℕ → ℕ × List ℕ → (e n : DriveState) → Type 0
IsCutOne g (Image fault) z w e n = ⊥
IsCutOne g Off z w e n = (n ≡ e) ⊎ (n ≡ at_home z (begin_at g w) e)
IsCutOne g (Failed c status) z w e n = (c ≡ w.0) × (n ≡ at_home z (begin_at g w) e)

-- a port that is put back as it was changes nothing
same-at : (z : Option ℕ) (e : DriveState) (t : PortState) → t ≡ port_in e z → at_home z (λ _. t) e ≡ e
same-at None e t is = ap (λ (s : PortState). at_home None (λ _. s) e) is
same-at (Some q) e t is = ap (λ (s : PortState). at_home (Some q) (λ _. s) e) is ∙ ap (λ (l : List PortState). record { queues = l; root = e.root }) (set-get_or e.queues q _)

begun-at : (g : Geometry) (z : Option ℕ) (e : DriveState) (w : ℕ × List ℕ) (t : PortState) → t ≡ begin_at g w (port_in e z) → at_home z (λ _. t) e ≡ at_home z (begin_at g w) e
begun-at g None e w t begun = ap (λ (s : PortState). at_home None (λ _. s) e) begun
begun-at g (Some q) e w t begun = ap (λ (s : PortState). at_home (Some q) (λ _. s) e) begun

cut-one : (A : Type 0) (g : Geometry) (r : RecoverRefusal) (z : Option ℕ) (e n : DriveState) (w : ℕ × List ℕ) (t : PortState) → GivesHome g (port_in e z) w.0 w.1 (refused A r) t → n ≡ at_home z (λ _. t) e → IsCutOne g r z w e n
cut-one A g (Image fault) z e n w t gives is = absurd gives
cut-one A g Off z e n w t gives is = ⊎_elim
    (λ same. inl (is ∙ same-at z e t same))
    (λ begun. inr (is ∙ begun-at g z e w t begun))
    gives
cut-one A g (Failed c status) z e n w t gives is = (gives.0, is ∙ begun-at g z e w t gives.1)

cut-gives : (A : Type 0) (g : Geometry) (r : RecoverRefusal) (z : Option ℕ) (e n : DriveState) (w : ℕ × List ℕ) → GivesOne g z e w.0 w.1 (refused A r) n → IsCutOne g r z w e n
cut-gives A g r None e n w gives = cut-one A g r None e n w gives.0 gives.1 gives.2
cut-gives A g r (Some q) e n w gives = cut-one A g r (Some q) e n w gives.0 gives.1 gives.2

one-more : (g : Geometry) (s e n : DriveState) (done rest : List Event) (x : Event) → e ≡ after_events g s done → n ≡ after_event g e x → n ≡ after_events g s (take (length done + 1) (done ++ x ∷ rest))
one-more g s e n done rest x first is =
    is
    ∙ ap (λ (m : DriveState). after_event g m x) first
    ∙ sym (after-then g s done (x ∷ []))
    ∙ ap (after_events g s) (sym (take-append-add done (x ∷ rest) 1))

cut-stops : (g : Geometry) (e : RecoverRefusal) (s at n : DriveState) (done rest : List Event) (w : ℕ × List ℕ) → at ≡ after_events g s done → IsCutOne g e (zone_of g w.0) w at n
    → StopsAt g e s (done ++ BeginHome w.0 w.1 ∷ EndHome w.0 w.1 ∷ rest) n
cut-stops g (Image fault) s at n done rest w first cut = absurd cut
cut-stops g Off s at n done rest w first cut =
    let more : List Event = BeginHome w.0 w.1 ∷ EndHome w.0 w.1 ∷ rest in
    let long = length-append done more in
    ⊎_elim
    (λ same. (length done, omega arith, same ∙ first ∙ ap (after_events g s) (sym (take-append_seam done more))))
    (λ begun. (length done + 1, omega arith, one-more g s at n done (EndHome w.0 w.1 ∷ rest) (BeginHome w.0 w.1) first begun))
    cut
cut-stops g (Failed c status) s at n done rest w first cut = (
  length done,
  w.1,
  at-seam done (BeginHome w.0 w.1) (EndHome w.0 w.1 ∷ rest) ∙ ap (λ (b : ℕ). Some (BeginHome b w.1)) (sym cut.0),
  one-more g s at n done (EndHome w.0 w.1 ∷ rest) (BeginHome w.0 w.1) first cut.1,
)

-- the next block isn't
pub next-cut : (A : Type 0) (g : Geometry) (e : RecoverRefusal) (s : DriveState) (all left ws : Writes) (w : ℕ × List ℕ) (at n : DriveState) → left ≡ w ∷ ws → HasLeft g s all left at
    → GivesOne g (zone_of g w.0) at w.0 w.1 (refused A e) n → StopsAt g e s (home_events all) n
next-cut A g e s all left ws w at n is so_far gives =
    let events_are : home_events all ≡ so_far.0 ++ home_events (w ∷ ws) = so_far.1 ∙ ap (λ (l : Writes). so_far.0 ++ home_events l) is in
    subst (λ (l : List Event). StopsAt g e s l n) (sym events_are) (cut-stops g e s at n so_far.0 (home_events ws) w so_far.2 (cut-gives A g e (zone_of g w.0) at n w gives))
