-- Whatever happens, a world serves.
use Rattle.std.proofs.Common.{◌≡◌, ◌⊎◌, ℕ, ◌+◌, ◌-◌, ◌<◌, ◌≤◌, ◌^◌, true, false, List, [], ◌∷◌, ◌++◌, length, min, refl, sym, ap, subst, ◌∙◌, arith, inl, inr, ⊎_elim, Result, Ok, Err}
use Rattle.std.proofs.lemmas.Bool.{false≢true}
use Rattle.std.proofs.Math.Logic.{∥∥₁_elim}
use Rattle.std.specs.Prelude.{Contains}
use Rattle.mq_blocks.specs.declared.geometry.Geometry.{Geometry}
use Rattle.mq_recover.specs.Drives.{DriveState}
use Rattle.mq_recover.specs.declared.refusal.RecoverRefusal.{RecoverRefusal}
use Rattle.mq_recover.specs.declared.refusal.RecoverRefusal.TheVariants as recovery
use Rattle.mq_replica.specs.Contents.{AreSame, Contents, after_first, after_update, number_of}
use Rattle.mq_replica.specs.Feeding.{AreNumbered, after_heard, after_push, heard_to, last_of}
use Rattle.mq_replica.specs.Images.{AlwaysStands, StandsFor}
use Rattle.mq_replica.specs.Offers.{ReplicaState, IsGivenBack, IsKept, IsOpenedOn, IsOpenRefused, IsStopped, IsUntouched, LeavesOn, MayOpen, Offers}
use Rattle.mq_replica.specs.World.{World, Place, Runs, Lies, Event, Push, Send, Offer, Hear, Open, Refuse, IsBeginning, MayAllHappen, MayHappen, Serves, after_all, after_event, answered, drive_of}
use Rattle.mq_replica.specs.declared.update.OfferRefusal.{OfferRefusal}
use Rattle.mq_replica.specs.declared.update.OfferRefusal.TheVariants as offer
use Rattle.mq_replica.specs.declared.update.Update.{Update}
use Rattle.std.proofs.lemmas.List.Elements.{Contains-append_left}
use Rattle.mq_replica.proofs.FeederSteps.{first_or, heard_low, last_heard}
use Rattle.mq_replica.proofs.Histories.{first_before, numbered_on}
use Rattle.mq_replica.proofs.ImagesLeft.{left_of_left}
use Rattle.mq_replica.proofs.NumberedBlocks.{reads_back}
use Rattle.mq_replica.proofs.Served.{Good, Good-prop, always_more, good_next, good_same, number_next, number_same, served, stands_good}

-- a number that fits into the last block is read again
pub number_reads : (n : ℕ) → n < 2 ^ 64 → Rattle.mq_replica.specs.Contents.number_in (Rattle.mq_replica.specs.Contents.numbered_block n) ≡ n
number_reads n small = reads_back n small

module _ (g : Geometry) (base : ℕ) (first : Contents) where
  abbrev Good' : World → Contents → Type 0
  Good' w c = Good g base first w c

  -- it runs: each image stands for the same, and says the number that was reached
  record IsRunning (w : World) (r : ReplicaState) : Type 0 where
    runs : r.stopped ≡ false
    contents : Contents
    stands : StandsFor g r.drive contents
    reached : number_of g contents ≡ r.reached
    good : Good' w contents

  -- the drive stopped it: each image says at least the number that was reached
  record IsHalted (w : World) (r : ReplicaState) : Type 0 where
    halted : r.stopped ≡ true
    stands : AlwaysStands g r.drive (λ c. Good' w c × (r.reached ≤ number_of g c))

  abbrev IsPlaced : World → Place → Type 0
  IsPlaced w (Runs r) = (r.geometry ≡ g) × (IsRunning w r ⊎ IsHalted w r)
  IsPlaced w (Lies d) = AlwaysStands g d (Good' w)

  record Holds (w : World) : Type 0 where
    numbers : AreNumbered base w.pushed
    last : last_of w.feeder ≡ base + length w.pushed
    sent : (u : Update) → Contains w.sent u → Contains w.pushed u
    place : IsPlaced w w.place

  placed_more : (w v : World) → ((c : Contents) → Good' w c → Good' v c) → (p : Place) → IsPlaced w p → IsPlaced v p
  placed_more w v f (Runs r) is = (
    is.0,
    elim is.1 [
      | inl run ↦ inl (record { runs = run.runs; contents = run.contents; stands = run.stands; reached = run.reached; good = f run.contents run.good })
      | inr halt ↦ inr (record { halted = halt.halted; stands = always_more g r.drive (λ c. Good' w c × (r.reached ≤ number_of g c)) (λ c. Good' v c × (r.reached ≤ number_of g c)) (λ c both. (f c both.0, both.1)) halt.stands })
    ],
  )
  placed_more w v f (Lies d) is = always_more g d (Good' w) (Good' v) f is

  -- each image of what lies there is good
  always_good : (w : World) (p : Place) → IsPlaced w p → AlwaysStands g (drive_of p) (Good' w)
  always_good w (Runs r) is = elim is.1 [
    | inl run ↦ stands_good g base first w r.drive run.contents run.stands run.good
    | inr halt ↦ always_more g r.drive (λ c. Good' w c × (r.reached ≤ number_of g c)) (Good' w) (λ c both. both.0) halt.stands
  ]
  always_good w (Lies d) is = is

  -- ---- the feeder

  pushed_good : (w : World) (u : Update) → Holds w → (c : Contents) → Good' w c → Good' (after_event (Push u) w) c
  pushed_good w u holds c good =
      let l = holds.last in
      let high = good.high in
      let longer : length (w.feeder.waiting ++ u ∷ []) ≡ length w.feeder.waiting + 1 = Rattle.std.proofs.Common.length-append w.feeder.waiting (u ∷ []) in
      record {
        low = good.low;
        high = omega (arith, high, longer);
        contents = λ x at. good.contents x at ∙ sym (ap (λ (f : Contents). f x) (first_before (number_of g c - base) w.pushed (u ∷ []) first (omega (arith, high, l))));
        answered = good.answered;
        heard = good.heard;
      }

  push : (w : World) (u : Update) → Holds w → MayHappen g (Push u) w → Holds (after_event (Push u) w)
  push w u holds may =
      let l = holds.last in
      let fed : length (w.feeder.waiting ++ u ∷ []) ≡ length w.feeder.waiting + 1 = Rattle.std.proofs.Common.length-append w.feeder.waiting (u ∷ []) in
      let kept : length (w.pushed ++ u ∷ []) ≡ length w.pushed + 1 = Rattle.std.proofs.Common.length-append w.pushed (u ∷ []) in
      record {
        numbers = numbered_on base w.pushed u holds.numbers (omega (arith, may, l));
        last = omega (arith, l, fed, kept);
        sent = λ v there. Contains-append_left w.pushed (u ∷ []) v (holds.sent v there);
        place = placed_more w (after_event (Push u) w) (pushed_good w u holds) w.place holds.place;
      }

  send : (w : World) (u : Update) → Holds w → MayHappen g (Send u) w → Holds (after_event (Send u) w)
  send w u holds may = record {
    numbers = holds.numbers;
    last = holds.last;
    sent = λ v there. ⊎_elim (λ (e : u ≡ v). subst (λ (x : Update). Contains w.pushed x) e may) (λ (old : Contains w.sent v). holds.sent v old) (first_or u w.sent v there);
    place = placed_more w (after_event (Send u) w) (λ c good. record { low = good.low; high = good.high; contents = good.contents; answered = good.answered; heard = good.heard }) w.place holds.place;
  }

  heard_good : (w : World) (n : ℕ) → Contains w.answers n → (c : Contents) → Good' w c → Good' (after_event (Hear n) w) c
  heard_good w n there c good = record {
    low = good.low;
    high = subst (λ (l : ℕ). number_of g c ≤ l) (sym (last_heard n w.feeder)) good.high;
    contents = good.contents;
    answered = good.answered;
    heard = heard_low n w.feeder (number_of g c) (good.answered n there) good.heard;
  }

  hear : (w : World) (n : ℕ) → Holds w → MayHappen g (Hear n) w → Holds (after_event (Hear n) w)
  hear w n holds may = record {
    numbers = holds.numbers;
    last = last_heard n w.feeder ∙ holds.last;
    sent = holds.sent;
    place = placed_more w (after_event (Hear n) w) (heard_good w n may) w.place holds.place;
  }

  -- ---- an offer

  -- with one answer more, which is low enough
  more_answers : (w : World) (n : ℕ) (c : Contents) → Good' w c → n ≤ number_of g c → Good' (record w { answers = n ∷ w.answers }) c
  more_answers w n c good low = record {
    low = good.low;
    high = good.high;
    contents = good.contents;
    answered = λ m there. ⊎_elim (λ (e : n ≡ m). subst (λ (k : ℕ). k ≤ number_of g c) e low) (λ (old : Contains w.answers m). good.answered m old) (first_or n w.answers m there);
    heard = good.heard;
  }

  runs_not : (r : ReplicaState) → r.stopped ≡ false → r.stopped ≡ true → ⊥
  runs_not r off on = false≢true (sym off ∙ on)

  running : (w : World) (r : ReplicaState) → r.stopped ≡ false → IsPlaced w (Runs r) → IsRunning w r
  running w r off is = elim is.1 [
    | inl run ↦ run
    | inr halt ↦ absurd (runs_not r off halt.halted)
  ]

  applied : (w : World) (old r : ReplicaState) (u : Update) (n : ℕ) → Holds w → Contains w.sent u → IsPlaced w (Runs old) → n ≡ r.reached → u.number ≡ old.reached + 1 → Rattle.mq_replica.specs.Offers.IsApplicable old u → Rattle.mq_replica.specs.Offers.IsApplied old u r → IsPlaced (record w { answers = n ∷ w.answers }) (Runs r)
  applied w old r u n holds there is answer next may did =
      let run = running w old may.runs is in
      let c = run.contents in
      let e = is.0 in
      let at : u.number ≡ number_of g c + 1 = (let q = run.reached in omega (arith, next, q)) in
      let small : u.number < 2 ^ 64 = (let l = may.low in omega (arith, next, l)) in
      let reads = number_reads u.number small in
      let pushed = holds.sent u there in
      let now = number_next g base first w.pushed u c small reads holds.numbers pushed at in
      let good = good_next g base first w.pushed u c small reads holds.numbers pushed at (last_of w.feeder) w.feeder.acknowledged w.answers holds.last run.good in
      let done = did.reached in
      let before : StandsFor old.geometry old.drive c = subst (λ (h : Geometry). StandsFor h old.drive c) (sym e) run.stands in (
        did.offered.geometry ∙ e,
        inl (record {
          runs = did.stopped;
          contents = after_update g u c;
          stands = subst (λ (h : Geometry). StandsFor h r.drive (after_update h u c)) e (did.stands c before);
          reached = now ∙ sym did.reached;
          good = more_answers w n (after_update g u c) good (omega (arith, now, answer, done));
        }),
      )

  untouched : (w v : World) (old r : ReplicaState) → ((c : Contents) → Good' w c → old.reached ≤ number_of g c → Good' v c) → IsPlaced w (Runs old) → IsUntouched old r → IsPlaced v (Runs r)
  untouched w v old r f is did = (
    did.offered.geometry ∙ is.0,
    elim is.1 [
      | inl run ↦ inl (record {
        runs = did.stopped ∙ run.runs;
        contents = run.contents;
        stands = subst (λ (d : DriveState). StandsFor g d run.contents) (sym did.drive) run.stands;
        reached = run.reached ∙ sym did.reached;
        good = f run.contents run.good (let e = run.reached in omega (arith, e));
      })
      | inr halt ↦ inr (record {
        halted = did.stopped ∙ halt.halted;
        stands = subst (λ (d : DriveState). AlwaysStands g d (λ c. Good' v c × (r.reached ≤ number_of g c))) (sym did.drive)
            (always_more g old.drive (λ c. Good' w c × (old.reached ≤ number_of g c)) (λ c. Good' v c × (r.reached ≤ number_of g c)) (λ c both. (f c both.0 both.1, (let e = did.reached in let l = both.1 in omega (arith, e, l)))) halt.stands);
      })
    ],
  )

  kept : (w : World) (old r : ReplicaState) (u : Update) → IsPlaced w (Runs old) → Rattle.mq_replica.specs.Offers.IsApplicable old u → IsKept old r → IsPlaced w (Runs r)
  kept w old r u is may did =
      let run = running w old may.runs is in
      let e = is.0 in (
        did.offered.geometry ∙ e,
        inl (record {
          runs = did.stopped;
          contents = run.contents;
          stands = subst (λ (h : Geometry). StandsFor h r.drive run.contents) e (did.stands run.contents (subst (λ (h : Geometry). StandsFor h old.drive run.contents) (sym e) run.stands));
          reached = run.reached ∙ sym did.reached;
          good = run.good;
        }),
      )

  stopped : (w : World) (old r : ReplicaState) (u : Update) → Holds w → Contains w.sent u → IsPlaced w (Runs old) → u.number ≡ old.reached + 1 → Rattle.mq_replica.specs.Offers.IsApplicable old u → IsStopped old u r → IsPlaced w (Runs r)
  stopped w old r u holds there is next may did =
      let run = running w old may.runs is in
      let c = run.contents in
      let e = is.0 in
      let at : u.number ≡ number_of g c + 1 = (let q = run.reached in omega (arith, next, q)) in
      let small : u.number < 2 ^ 64 = (let l = may.low in omega (arith, next, l)) in
      let reads = number_reads u.number small in
      let pushed = holds.sent u there in
      let now = number_next g base first w.pushed u c small reads holds.numbers pushed at in
      let good = good_next g base first w.pushed u c small reads holds.numbers pushed at (last_of w.feeder) w.feeder.acknowledged w.answers holds.last run.good in
      let before : StandsFor old.geometry old.drive c = subst (λ (h : Geometry). StandsFor h old.drive c) (sym e) run.stands in
      let either = subst (λ (h : Geometry). Rattle.mq_replica.specs.Images.StandsForEither h r.drive c (after_update h u c)) e (did.stands c before) in (
        did.offered.geometry ∙ e,
        inr (record {
          halted = did.stopped;
          stands = always_more g r.drive (λ f. ∥ AreSame g c f ⊎ AreSame g (after_update g u c) f ∥₁) (λ f. Good' w f × (r.reached ≤ number_of g f))
              (λ f one. ∥∥₁_elim one (both-prop w r f) (λ cases. elim cases [
                | inl same ↦ (good_same g base first _ _ _ _ c f same run.good, (let k = number_same g base first c f same in let q = run.reached in let m = did.reached in omega (arith, k, q, m)))
                | inr same ↦ (good_same g base first _ _ _ _ (after_update g u c) f same good, (let k = number_same g base first (after_update g u c) f same in let q = did.reached in omega (arith, k, q, now, next)))
              ])) either;
        }),
      )
    where
      both-prop : (w : World) (r : ReplicaState) (f : Contents) → IsProp (Good' w f × (r.reached ≤ number_of g f))
      both-prop w r f = hlevel (Good-prop, Rattle.std.specs.Coded.le_prop)

  refused : (w : World) (old r : ReplicaState) (u : Update) (e : OfferRefusal) → Holds w → Contains w.sent u → IsPlaced w (Runs old) → u.number ≡ old.reached + 1 → LeavesOn old u e r → IsPlaced w (Runs r)
  refused w old r u offer.OutOfMemory holds there is next left = kept w old r u is left.0 left.1
  refused w old r u offer.Off holds there is next left = stopped w old r u holds there is next left.0 left.1
  refused w old r u (offer.Failed status) holds there is next left = stopped w old r u holds there is next left.0 left.1
  refused w old r u offer.Stopped holds there is next left = untouched w w old r (λ c good low. good) is left.1
  refused w old r u offer.Limit holds there is next left = untouched w w old r (λ c good low. good) is left.1
  refused w old r u (offer.Range block) holds there is next left = untouched w w old r (λ c good low. good) is left.1
  refused w old r u (offer.TooLarge count limit) holds there is next left = untouched w w old r (λ c good low. good) is left.1

  offered : (w : World) (old r : ReplicaState) (u : Update) (result : Result ℕ OfferRefusal) → Holds w → Contains w.sent u → IsPlaced w (Runs old) → Offers old u result r → IsPlaced (record w { answers = answered result w.answers }) (Runs r)
  offered w old r u (Ok n) holds there is (answer, does) = elim does [
    | inl (next, may, did) ↦ applied w old r u n holds there is answer next may did
    | inr (other, did) ↦ untouched w (record w { answers = n ∷ w.answers }) old r (λ c good low. more_answers w n c good (let e = did.reached in omega (arith, answer, e, low))) is did
  ]
  offered w old r u (Err e) holds there is (next, left) = refused w old r u e holds there is next left

  -- the place of a world is all that an offer, beside its answer, or an opening changes
  at_place : (w : World) (p : Place) → IsPlaced w p → IsPlaced (record w { place = p }) p
  at_place w p is = placed_more w (record w { place = p }) (λ c good. record { low = good.low; high = good.high; contents = good.contents; answered = good.answered; heard = good.heard }) p is

  offer_happens : (w : World) (u : Update) (result : Result ℕ OfferRefusal) (r : ReplicaState) → Holds w → MayHappen g (Offer u result r) w → Holds (after_event (Offer u result r) w)
  offer_happens w u result r holds (there, old, runs, does) = record {
    numbers = holds.numbers;
    last = holds.last;
    sent = holds.sent;
    place = at_place (record w { answers = answered result w.answers }) (Runs r) (offered w old r u result holds there (subst (λ (p : Place). IsPlaced w p) runs holds.place) does);
  }

  -- ---- an opening

  opened_on : (w : World) (cut : DriveState) (r : ReplicaState) → Holds w → MayHappen g (Open cut r) w → Holds (after_event (Open cut r) w)
  opened_on w cut r holds (left, may, opened) =
      let good = (always_good w w.place holds.place cut left).are opened.ds opened.read in
      record {
        numbers = holds.numbers;
        last = holds.last;
        sent = holds.sent;
        place = at_place w (Runs r) (
          opened.shape,
          inl (record {
            runs = opened.stopped;
            contents = _;
            stands = opened.images;
            reached = sym opened.reached;
            good = good;
          }),
        );
      }

  given_back : (w : World) (cut d : DriveState) → Holds w → Rattle.mq_replica.specs.Images.IsLeftOf g (drive_of w.place) cut → IsGivenBack g cut d → AlwaysStands g d (Good' w)
  given_back w cut d holds left back = stands_good g base first w d _ back.images ((always_good w w.place holds.place cut left).are back.ds back.read)

  lies : (w : World) (cut d : DriveState) (e : RecoverRefusal) → Holds w → Rattle.mq_replica.specs.Images.IsLeftOf g (drive_of w.place) cut → MayOpen g cut → IsOpenRefused g cut e d → AlwaysStands g d (Good' w)
  lies w cut d (recovery.Image fault) holds left may same = subst (λ (x : DriveState). AlwaysStands g x (Good' w)) (sym same) (λ image of_cut. always_good w w.place holds.place image (left_of_left g (drive_of w.place) cut image may.quiet left of_cut))
  lies w cut d recovery.Off holds left may back = given_back w cut d holds left back
  lies w cut d (recovery.Failed block status) holds left may back = given_back w cut d holds left back

  refuse : (w : World) (cut : DriveState) (e : RecoverRefusal) (d : DriveState) → Holds w → MayHappen g (Refuse cut e d) w → Holds (after_event (Refuse cut e d) w)
  refuse w cut e d holds (left, may, refused) = record {
    numbers = holds.numbers;
    last = holds.last;
    sent = holds.sent;
    place = at_place w (Lies d) (lies w cut d e holds left may refused);
  }

  -- ---- all events

  happens : (e : Event) (w : World) → Holds w → MayHappen g e w → Holds (after_event e w)
  happens (Push u) w holds may = push w u holds may
  happens (Send u) w holds may = send w u holds may
  happens (Offer u result r) w holds may = offer_happens w u result r holds may
  happens (Hear n) w holds may = hear w n holds may
  happens (Open cut r) w holds may = opened_on w cut r holds may
  happens (Refuse cut e d) w holds may = refuse w cut e d holds may

  all_happen : (es : List Event) (w : World) → Holds w → MayAllHappen g es w → Holds (after_all es w)
  all_happen [] w holds may = holds
  all_happen (e ∷ es) w holds may = all_happen es (after_event e w) (happens e w holds may.0) may.1

  begins : (w : World) → IsBeginning g base first w → Holds w
  begins w b = record {
    numbers = subst (λ (us : List Update). AreNumbered base us) (sym b.pushed) tt;
    last = ap last_of b.feeder ∙ (let e : base + 0 ≡ base + length w.pushed = ap (λ (us : List Update). base + length us) (sym b.pushed) in e);
    sent = λ u there. absurd (let low = subst (λ (us : List Update). Contains us u) b.sent there in omega (arith, low.1));
    place = subst (λ (p : Place). IsPlaced w p) (sym b.runs) (
      b.geometry,
      inl (record {
        runs = b.stopped;
        contents = first;
        stands = b.stands;
        reached = b.number ∙ sym b.reached;
        good = record {
          low = (let e = b.number in omega (arith, e));
          high = (let e = b.number in let f : last_of w.feeder ≡ base + 0 = ap last_of b.feeder in omega (arith, e, f));
          contents = λ x at. (let e : number_of g first - base ≡ 0 = (let n = b.number in omega (arith, n)) in sym (ap (λ (k : ℕ). after_first k w.pushed first x) e));
          answered = λ n there. absurd (let low = subst (λ (ns : List ℕ). Contains ns n) b.answers there in omega (arith, low.1));
          heard = (let e = b.number in let f = ap (λ (s : Rattle.mq_replica.specs.Feeding.FeederState). s.acknowledged) b.feeder in omega (arith, e, f));
        };
      }),
    );
  }

  pub serves : (w : World) (es : List Event) → IsBeginning g base first w → MayAllHappen g es w → Serves g base first (after_all es w)
  serves w es b may =
      let v = after_all es w in
      always_more g (drive_of v.place) (Good' v) (Rattle.mq_replica.specs.World.IsServed g base first v) (λ c good. served g base first v c good) (always_good v v.place (all_happen es w (begins w b) may).place)
