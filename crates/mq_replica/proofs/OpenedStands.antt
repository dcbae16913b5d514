-- What the images of an open replica stand for.
use Rattle.std.proofs.Common.{◌≡◌, ◌⊎◌, ℕ, ◌+◌, ◌<◌, ◌≤◌, List, [], ◌∷◌, length, IsSome, Option, Some, None, refl, sym, ap, subst, ◌∙◌, arith, inl, inr, slice_index_or}
use Rattle.std.proofs.lemmas.Bool.{cases_lt}
use Rattle.mq_blocks.specs.Descriptor.{Descriptor, IsSound, journal_form}
use Rattle.mq_blocks.specs.Drive.{PortState}
use Rattle.mq_blocks.specs.Geometry.{homes_of}
use Rattle.mq_blocks.specs.declared.geometry.Geometry.{Geometry}
use Rattle.mq_desk_laws.specs.Bases.{RootStands}
use Rattle.mq_ledger.specs.History.{AreNumbered, map_after, of_queue, part_of, upto}
use Rattle.mq_ledger.specs.Items.{end_of}
use Rattle.mq_ledger.specs.KnownJournal.{LogOk}
use Rattle.mq_ledger.specs.Sides.{SideOk}
use Rattle.mq_ledger.specs.State.{front_of, is_done, start_map}
use Rattle.mq_ledger.specs.Written.{journal_entries}
use Rattle.mq_ledger.specs.declared.tx.Tx.{Tx}
use Rattle.mq_ledger.proofs.Written.{form_sound}
use Rattle.mq_recover.specs.Drives.{drive, view_over}
use Rattle.mq_recover.specs.Recovery.{IsReadPrefix}
use Rattle.mq_state_laws.proofs.Found.{top_low}
use Rattle.mq_state_laws.specs.Parts.{AreParts, Parts, state}
use Rattle.mq_replica.specs.Contents.{AreSame, Contents}
use Rattle.mq_replica.specs.Images.{StandsFor, StandsForEither}
use Rattle.mq_replica.specs.Opened.{AreLogged, IsOpened, OpenedState, contents_of, drive_over, known_over}
use Rattle.mq_replica.proofs.Fronts.{all_below, part_all, part_but, upto_before, upto_last}
use Rattle.mq_replica.proofs.Journals.{own_queue}
use Rattle.mq_replica.proofs.Maps.{all_mapped, some_content}
use Rattle.mq_replica.proofs.Standing.{IsFound, own_image, parts_stand}

abbrev pub parts_over : Geometry → (start : List (Option (List ℕ))) → (base from : ℕ) → List Tx → (port root : PortState) → Parts
parts_over g start base from history port root = record {
  geometry = g;
  entries = journal_entries;
  start = start;
  base = base;
  starts = from ∷ [];
  history = history;
  done = λ t ts. Rattle.std.proofs.Common.false;
  due = λ x v. Rattle.std.proofs.Common.nat_eq v base;
  word = base;
  ports = port ∷ [];
  root = root;
  acknowledged = [];
}

module _ (g : Geometry) (start : List (Option (List ℕ))) (base from : ℕ) (h : List Tx) (port root : PortState) (one : g.queues ≡ 1) (full : (x : ℕ) → x < homes_of g → IsSome (slice_index_or start x None)) (logged : AreLogged h) (sound : IsSound journal_form) (log : LogOk (known_over g start base from h)) (side : SideOk (known_over g start base from h) 0 h port) (stands : RootStands (known_over g start base from h) root) where
  abbrev p : Parts
  p = parts_over g start base from h port root

  are : AreParts p
  are = record {
    form = sound;
    log = log;
    many = sym one;
    sides = λ q own. (let z : q ≡ 0 = omega (arith, own, one) in subst (λ (r : ℕ). SideOk (known_over g start base from h) r (of_queue r h) (Rattle.mq_ledger.specs.State.port_at (port ∷ []) r)) (sym z) (subst (λ (us : List Tx). SideOk (known_over g start base from h) 0 us port) (sym (own_queue h logged)) side));
    root = stands;
    acknowledged = λ n a. absurd (Rattle.std.proofs.lemmas.Bool.false≢true a);
  }

  -- where the images reach a number, up to which these are the transactions
  found_is : (reached : ℕ) (c : Contents) (ts : List Tx) → upto reached h ≡ ts → AreLogged ts → IsFound p reached c → AreSame g (contents_of start ts) c
  found_is reached c ts seen those f = λ x low.
      f.stand x (contents_of start ts x) low (ap (λ (us : List Tx). map_after (start_map start) us x) seen ∙ some_content (map_after (start_map start) ts x) (all_mapped start ts x those (full x low)))

  -- all entries stand below the head
  pub all_stand : end_of from h ≤ port.head → StandsFor g (drive (port ∷ []) root) (contents_of start h)
  all_stand low = parts_stand p are refl (AreSame g (contents_of start h)) (λ reached c f.
      let done = part_all (is_done (from ∷ []) (port ∷ [])) h (all_below from port h logged low) in
      let front : front_of (state p) ≡ base + length h = ap (λ (ts : List Tx). base + length ts) done in
      let least = f.least in
      found_is reached c h (upto_last base h reached log.numbers (omega (arith, least, front))) logged f)

  -- or all but those of the newest
  pub all_but_stand : (t : Tx) (ts : List Tx) → h ≡ t ∷ ts → end_of from ts ≤ port.head → StandsForEither g (drive (port ∷ []) root) (contents_of start ts) (contents_of start (t ∷ ts))
  all_but_stand t ts is low = parts_stand p are refl (λ c. ∥ AreSame g (contents_of start ts) c ⊎ AreSame g (contents_of start (t ∷ ts)) c ∥₁) (λ reached c f.
      let both : AreLogged (t ∷ ts) = subst AreLogged is logged in
      let numbers : AreNumbered base (t ∷ ts) = subst (λ (us : List Tx). AreNumbered base us) is log.numbers in
      let part = part_but (is_done (from ∷ []) (port ∷ [])) t ts (all_below from port ts both.3 low) in
      let front : front_of (state p) ≡ base + length (part_of (is_done (from ∷ []) (port ∷ [])) (t ∷ ts)) = ap (λ (us : List Tx). base + length (part_of (is_done (from ∷ []) (port ∷ [])) us)) is in
      let least = f.least in
      let size : length h ≡ length ts + 1 = (let e = ap length is in omega (arith, e)) in
      elim (cases_lt (base + length ts) reached) [
        | inl up ↦ ∣ inr (found_is reached c (t ∷ ts) (ap (λ (us : List Tx). upto reached us) is ∙ upto_last base (t ∷ ts) reached numbers (omega (arith, up))) both f) ∣₁
        | inr at ↦ (let e : reached ≡ base + length ts = omega (arith, at, least, front, part) in ∣ inl (found_is reached c ts (ap (λ (n : ℕ). upto n h) e ∙ (ap (λ (us : List Tx). upto (base + length ts) us) is ∙ upto_before base t ts numbers)) both.3 f) ∣₁)
      ])

-- ---- an open replica

pub opened_stands : (g : Geometry) (v : OpenedState) (o : IsOpened g v) → IsSound journal_form → StandsFor g (drive_over v) (contents_of o.journal.start o.journal.history)
opened_stands g v o sound =
    let j = o.journal in
    all_stand g j.start v.root.base j.from j.history v.side.port v.root j.one j.full j.logged sound j.log j.side.side j.root_is o.settled.passed

-- no image shows a number above the last
pub parts_top : (g : Geometry) (start : List (Option (List ℕ))) (base from : ℕ) (h : List Tx) (port root : PortState) (one : g.queues ≡ 1) (full : (x : ℕ) → x < homes_of g → IsSome (slice_index_or start x None)) (logged : AreLogged h) (log : LogOk (known_over g start base from h)) (side : SideOk (known_over g start base from h) 0 h port) (stands : RootStands (known_over g start base from h) root)
    → (ds : List Descriptor) (top : ℕ) → IsReadPrefix g (view_over g (drive (port ∷ []) root)) ds top → top ≤ base + length h
parts_top g start base from h port root one full logged log side stands ds top read =
    top_low (parts_over g start base from h port root) (drive (port ∷ []) root) (are g start base from h port root one full logged form_sound log side stands) refl
    (let own = own_image g (drive (port ∷ []) root) in record { each = own.each; root_is = own.root_is }) ds top read

pub opened_top : (g : Geometry) (v : OpenedState) → IsOpened g v → (ds : List Descriptor) (top : ℕ) → IsReadPrefix g (view_over g (drive_over v)) ds top → top ≤ v.number
opened_top g v o ds top read =
    let j = o.journal in
    let l = parts_top g j.start v.root.base j.from j.history v.side.port v.root j.one j.full j.logged j.log j.side.side j.root_is ds top read in
    let n = j.number_is in
    omega (arith, l, n)
