-- What is read of the image that a cut left of a run.
use Rattle.std.proofs.Common.{◌≡◌, ◌≢◌, ◌<◌, ◌≤◌, inl, inr, ℕ, zero, suc, ◌+◌, ◌*◌, Bool, true, false, cond, List, [], ◌∷◌, length, reverse, Option, Some, None, refl, sym, ◌∙◌, ap, subst, arith}
use Rattle.std.specs.Prelude.{Contains}
use Rattle.std.proofs.lemmas.Bool.{cases_eq, eq-eqb, ne_eqb}
use Rattle.mq_block_trace.specs.Lines.{empty_map, live_from, named}
use Rattle.mq_block_trace.specs.Marks.{AreMarks}
use Rattle.mq_blocks.specs.Descriptor.{Descriptor}
use Rattle.mq_blocks.specs.Drive.{FuseName, PortImage, no_fuse}
use Rattle.mq_blocks.specs.Journal.{Has, Shown, ShowsNumber, is_among, shown, stands}
use Rattle.mq_blocks.specs.declared.geometry.Geometry.{Geometry}
use Rattle.mq_command_blocks.specs.Live.{HoldsMap}
use Rattle.mq_drive.specs.Fuse.{above}
use Rattle.mq_drive.specs.Seats.{tickets_of}
use Rattle.mq_drive.specs.declared.fuse.FuseSeat.{FuseSeat}
use Rattle.mq_image.specs.File.{DriveImage, queue_ports, root_port}
use Rattle.mq_image_ops.specs.Cuts.{happened_at}
use Rattle.mq_image_ops.specs.Views.{drive_from}
use Rattle.mq_ledger.specs.History.{AreNumbered, map_after}
use Rattle.mq_ledger.specs.declared.tx.Tx.{Tx}
use Rattle.mq_loose_order.specs.Dependence.{kept}
use Rattle.mq_loose_order.specs.Form.{loose_form}
use Rattle.mq_loose_order.specs.Standing.{AreStanding, numbers_of}
use Rattle.mq_loose_recover.proofs.ImagesFound.{chains-same, read-same}
use Rattle.mq_loose_recover.specs.Images.{AreLooselyWhole, IsLooselyRead, loose_reading, loose_view}
use Rattle.mq_loose_text.specs.Meaning.{drawn_in, map_in, numbers_from, numbers_in}
use Rattle.mq_loose_text.specs.declared.line.LooseLine.{LooseLine}
use Rattle.mq_recover.specs.Drives.{DriveState}
use Rattle.mq_loose_run.specs.Cuts.{IsCutRun, IsReadOf, IsReadableLoose, ShowsRun}
use Rattle.mq_loose_run.specs.Runs.{IsLeftLoose, IsLooseRun, IsRunGeometry, view_in}
use Rattle.mq_loose_run.specs.declared.run.LooseRun.{LooseRun}
use Rattle.mq_loose_run.proofs.Counts.{drawn_numbered}
use Rattle.mq_loose_run.proofs.LeftImages.{images_of, stands_form}

-- ---- one set

module _ (g : Geometry) (d : DriveState) (deps others : ℕ → List ℕ) (chains more : ℕ → List Descriptor) (a : AreLooselyWhole deps g (loose_view deps g d) chains) (b : AreLooselyWhole others g (loose_view others g d) more) where
  shows_along : (n : ℕ) → ShowsNumber g (loose_view deps g d) chains n → ShowsNumber g (loose_view others g d) more n
  shows_along n s = elim s.where_from [
    | inl x ↦ record { where_from = inl x }
    | inr y ↦ elim y [
      | inl x ↦ record { where_from = inr (inl (x.0, x.1, x.2, subst (λ (l : List Descriptor). Has l x.1) (chains-same g d deps others chains more a b x.0 x.2) x.3, x.4)) }
      | inr x ↦ record { where_from = inr (inr x) }
    ]
  ]

module _ (x : DriveImage) where
  abbrev g : Geometry
  g = x.geometry

  abbrev d : DriveState
  d = drive_from no_fuse None x

  view_from : (deps : ℕ → List ℕ) → loose_view deps g d ≡ view_in deps x
  view_from deps = ap (λ (l : List PortImage). shown (loose_reading deps) g l (root_port x)) (images_of g no_fuse 0 (queue_ports x))

  one_set : (deps others : ℕ → List ℕ) (chains : ℕ → List Descriptor) (ds es : List Descriptor) (top : ℕ) → AreLooselyWhole deps g (view_in deps x) chains → AreStanding deps g (view_in deps x) chains ds → IsLooselyRead others g (view_in others x) es top → ds ≡ es
  one_set deps others chains ds es top whole stand read =
      let a : AreLooselyWhole deps g (loose_view deps g d) chains = subst (λ (i : Shown). AreLooselyWhole deps g i chains) (sym (view_from deps)) whole in
      let st : AreStanding deps g (loose_view deps g d) chains ds = subst (λ (i : Shown). AreStanding deps g i chains ds) (sym (view_from deps)) stand in
      let r : IsLooselyRead others g (loose_view others g d) es top = subst (λ (i : Shown). IsLooselyRead others g i es top) (sym (view_from others)) read in
      let own : IsLooselyRead deps g (loose_view deps g d) ds top = record {
        chains = chains;
        whole = a;
        standing = st;
        top_is = record {
          whole = a.whole;
          shown = shows_along g d others deps r.chains chains r.whole a top r.top_is.shown;
          greatest = λ n s. r.top_is.greatest n (shows_along g d deps others chains r.chains a r.whole n s);
        };
      } in
      (read-same g d deps others ds es top top own r).0

-- ---- a set by its numbers

none_below : (S : ℕ → Bool) (a c n : ℕ) → n < a → is_among n (numbers_from S a c) ≡ false
none_below S a zero n low = refl
none_below S a (suc c) n low = go (none_below S (a + 1) c n (omega (arith, low))) (S a)
  where
    go : is_among n (numbers_from S (a + 1) c) ≡ false → (t : Bool) → is_among n (cond t (a ∷ numbers_from S (a + 1) c) (numbers_from S (a + 1) c)) ≡ false
    go rest true = ap (λ (t : Bool). cond t true (is_among n (numbers_from S (a + 1) c))) (ne_eqb a n (λ e. omega (arith, e, low))) ∙ rest
    go rest false = rest

among_from : (S : ℕ → Bool) (a c n : ℕ) → a ≤ n → n < a + c → is_among n (numbers_from S a c) ≡ S n
among_from S a zero n low high = absurd (omega (arith, low, high))
among_from S a (suc c) n low high = go (λ other. let ne : a ≢ n = other in among_from S (a + 1) c n (omega (arith, low, ne)) (omega (arith, high))) (S a) refl
  where
    go : (a ≢ n → is_among n (numbers_from S (a + 1) c) ≡ S n) → (t : Bool) → S a ≡ t → is_among n (cond t (a ∷ numbers_from S (a + 1) c) (numbers_from S (a + 1) c)) ≡ S n
    go rest true is = elim (cases_eq a n) [
      | inl same ↦ ap (λ (t : Bool). cond t true (is_among n (numbers_from S (a + 1) c))) (eq-eqb a n same) ∙ sym (ap S (sym same) ∙ is)
      | inr other ↦ ap (λ (t : Bool). cond t true (is_among n (numbers_from S (a + 1) c))) (ne_eqb a n other) ∙ rest other
    ]
    go rest false is = elim (cases_eq a n) [
      | inl same ↦ none_below S (a + 1) c n (omega (arith, same)) ∙ sym (ap S (sym same) ∙ is)
      | inr other ↦ rest other
    ]

kept_on : (S T : ℕ → Bool) (h : List Tx) → AreNumbered 0 h → ((n : ℕ) → 1 ≤ n → n < 1 + length h → S n ≡ T n) → kept S h ≡ kept T h
kept_on S T [] numbered same = refl
kept_on S T (t ∷ ts) numbered same =
    let number = numbered.0 in
    let here : S t.number ≡ T t.number = same t.number (omega (arith, number)) (omega (arith, number)) in
    let rest = kept_on S T ts numbered.1 (λ n low high. same n low (omega (arith, high))) in
    λ i. cond (here i) (t ∷ rest i) (rest i)

-- ---- what is read

module _ (cut : Option ℕ) (lines : List LooseLine) (ack : List ℕ) (x : DriveImage) (is_run : IsRunGeometry x.geometry) (s : ShowsRun cut lines ack x) (set : List ℕ) (blocks : List (Option (List ℕ))) (r : IsReadOf x set blocks) where
  ds_same : s.ds ≡ r.ds
  ds_same = one_set x s.deps r.deps s.chains s.ds r.ds r.top s.whole s.standing r.read

  left_set : reverse (numbers_of r.ds) ≡ numbers_in s.set lines
  left_set = ap (λ (ds : List Descriptor). reverse (numbers_of ds)) (sym ds_same) ∙ s.set_is

  set_same : set ≡ numbers_in s.set lines
  set_same = r.set_is ∙ left_set

  stands_same : (b : ℕ) → stands x.geometry (view_in r.deps x) r.ds b ≡ stands x.geometry (view_in s.deps x) s.ds b
  stands_same b = ap (λ (ds : List Descriptor). stands x.geometry (view_in r.deps x) ds b) (sym ds_same) ∙ sym (stands_form x.geometry (view_in r.deps x) (loose_form s.deps) s.ds b)

  kept_same : kept (λ (n : ℕ). is_among n set) (drawn_in lines) ≡ kept s.set (drawn_in lines)
  kept_same = kept_on (λ (n : ℕ). is_among n set) s.set (drawn_in lines) (drawn_numbered (length lines) lines) (λ n low high. ap (is_among n) set_same ∙ among_from s.set 1 (length (drawn_in lines)) n low high)

  pub blocks_many : 256 ≤ length blocks
  blocks_many =
      let zones : x.geometry.queues * x.geometry.zone ≡ 4 * x.geometry.zone = ap (λ (n : ℕ). n * x.geometry.zone) is_run.queues in
      omega (arith, r.whole, zones, is_run.meta, is_run.zone)

  pub marks_are : (marks : List Bool) → AreMarks (map_after empty_map (kept (λ (n : ℕ). is_among n set) (drawn_in lines))) marks → AreMarks (map_in s.set lines) marks
  marks_are marks are = subst (λ (ts : List Tx). AreMarks (map_after empty_map ts) marks) kept_same are

  pub live_are : HoldsMap blocks (map_in s.set lines)
  live_are b v low some =
      let homes = blocks_many in
      let zones : x.geometry.queues * x.geometry.zone ≡ 4 * x.geometry.zone = ap (λ (n : ℕ). n * x.geometry.zone) is_run.queues in
      r.each b (omega (arith, low, zones, is_run.meta, is_run.zone)) ∙ stands_same b ∙ s.stand b v some

  left_is : IsLeftLoose cut lines s.set x
  left_is = record {
    geometry_is = is_run;
    drive = s.drive;
    base = s.base;
    deps = r.deps;
    ds = r.ds;
    top = r.top;
    read = r.read;
    set_is = left_set;
    stand = λ b content there. stands_same b ∙ s.stand b content there;
    rung = s.rung;
  }

  pub is_loose_run : (run : LooseRun) → run.acknowledged.items ≡ ack → run.set.items ≡ set → run.live.items ≡ live_from (map_in s.set lines) 0 named → run.image ≡ x → IsLooseRun cut lines run
  is_loose_run run ack_is set_is live image = record {
    set = s.set;
    set_in = s.set_in;
    acknowledged = ack_is ∙ s.acknowledged_are;
    set_is = set_is ∙ set_same;
    live = live;
    left = subst (IsLeftLoose cut lines s.set) (sym image) left_is;
  }

-- ---- the fuse is closed

-- what the cut leaves, once the events are counted
pub shown_run : (cut : Option ℕ) (g : Geometry) (lines : List LooseLine) (fuse : FuseName) (ack : List ℕ) (images : List PortImage) (seats : List FuseSeat) (events : ℕ) → IsCutRun g lines fuse ack images seats → fuse.limit ≡ cut → ((l : ℕ) → fuse.limit ≡ Some l → events ≡ happened_at l seats) → ((l : ℕ) → fuse.limit ≡ Some l → events ≤ l)
    → ((l : ℕ) (s : FuseSeat) → fuse.limit ≡ Some l → Contains seats s → 0 < above l (tickets_of s) → events ≡ l) → ShowsRun cut lines ack (record { geometry = g; ports = images })
shown_run cut g lines fuse ack images seats events run limit happened most off =
    subst (λ (k : Option ℕ). ShowsRun k lines ack (record { geometry = g; ports = images })) limit (run.shows (record {
      few = λ l is. (let e = happened l is in let low = most l is in omega (arith, e, low));
      off = λ l s is has high. sym (happened l is) ∙ off l s is has high;
    }))

pub readable_run : (cut : Option ℕ) (lines : List LooseLine) (ack : List ℕ) (x : DriveImage) → ShowsRun cut lines ack x → IsReadableLoose x
readable_run cut lines ack x s = (s.deps, s.chains, s.whole)
