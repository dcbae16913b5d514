-- Reading the queues of a drive one after another.
use Rattle.std.proofs.Common.{◌≡◌, ◌≢◌, ◌<◌, ◌≤◌, ◌⊎◌, inl, inr, ℕ, ◌+◌, ◌%◌, ◌^◌, max, List, [], ◌∷◌, ◌++◌, length, map, Some, refl, sym, ◌∙◌, ap, subst, arith, get_or}
use Rattle.std.proofs.lemmas.Bool.{cases_eq}
use Rattle.std.proofs.lemmas.List.{length-append, length-map, get_or_append_left}
use Rattle.std.proofs.Math.Seq.{get_or-append_seam}
use Rattle.mq_blocks.specs.Descriptor.{Descriptor}
use Rattle.mq_blocks.specs.Limits.{depth}
use Rattle.mq_blocks.specs.Drive.{PortState}
use Rattle.mq_blocks.specs.Journal.{Shown, WriteFields, Has}
use Rattle.mq_blocks.specs.declared.geometry.Geometry.{Geometry}
use Rattle.mq_ledger.specs.State.{port_at}
use Rattle.mq_recover.specs.Drives.{DriveState, IsQuiescentDrive, states, view_over}
use Rattle.mq_recover.specs.Recover.{chain_at, AreFalling}
use Rattle.mq_recover.specs.Queues.{AreReadBy, newest_number}
use Rattle.mq_recover.specs.Reader.{Accepting, IsReader, Refusing}
use Rattle.mq_recover.specs.Refusals.{IsReadableBy, IsGreatest, AreReadableBy, RefusesQueueBy, RefusesSomeBy}
use Rattle.mq_recover.specs.declared.queues.QueuesRead.{QueuesRead}
use Rattle.mq_recover.specs.declared.refusal.ChainRefusal.{ChainRefusal}
use Rattle.mq_recover.specs.declared.refusal.ChainRefusal.TheVariants as chain
use Rattle.mq_recover.specs.declared.refusal.ImageFault.{ImageFault}
use Rattle.mq_recover.specs.declared.refusal.ImageFault.TheVariants.{Bad, OutOfMemory}
use Rattle.mq_recover.proofs.DrivesImages.{view-seen}
use Rattle.mq_recover.proofs.Readers.{readable-falls}
use Rattle.mq_recover.proofs.Merges.{falls-under}
use Rattle.mq_recover.proofs.DrivesPortRows.{state-at}

-- the state of a port that was read from these
pub port-is : {A : Type 0} (state : A → PortState) (ports items : List A) (q : ℕ) (p : A) → items ≡ ports → q < length items → p ≡ get_or items q p → port_at (map state ports) q ≡ state p
port-is state ports items q p same within is = ap (λ (l : List _). port_at (map state l) q) (sym same) ∙ state-at state items q p (record { within = within; is = is })

pub port-count : {A : Type 0} (state : A → PortState) (ports items : List A) (queues : ℕ) → items ≡ ports → length (map state ports) ≡ queues → length items ≡ queues
port-count state ports items queues same count = ap length same ∙ sym (length-map ports state) ∙ count

-- the port of a queue, as it was read by its number
pub port-own : {A : Type 0} (g : Geometry) (state : A → PortState) (ports : List A) (root : A) (q index : ℕ) (p : A) → IsQuiescentDrive g (states state ports root) → q < g.queues → index ≡ q → p ≡ get_or ports index p → port_at (map state ports) q ≡ state p
port-own g state ports root q index p still low at is =
    let count : length ports ≡ g.queues = port-count state ports ports g.queues refl still.count in
    ap (port_at (map state ports)) (sym at) ∙ port-is state ports ports index p refl (omega (arith, count, at, low)) is

-- ---- the newest number

base-under : (base high : ℕ) (ds : List Descriptor) → AreFalling base high ds → base ≤ newest_number base ds
base-under base high [] falls = omega arith
base-under base high (d ∷ ds) falls = let a = falls.0 in omega (arith, a)

newest-above : (base high : ℕ) (ds : List Descriptor) (d : Descriptor) → AreFalling base high ds → Has ds d → d.number ≤ newest_number base ds
newest-above base high [] d falls has = absurd has
newest-above base high (e ∷ ds) d falls has = elim has [
  | inl h ↦ let same : e.number ≡ d.number = ap (λ (x : Descriptor). x.number) h in omega (arith, same)
  | inr h ↦ let b = falls-under base e.number ds d falls.2 h in omega (arith, b)
]

-- ---- the first queues

-- the base, and the numbers that the first queues show
abbrev ShowsBelow : (i : Shown) (queues : ℕ) (chains : ℕ → List Descriptor) (n : ℕ) → Type 0
ShowsBelow i queues chains n =
    (n ≡ i.base) ⊎ (((q : ℕ) × (d : Descriptor) × (q < queues) × Has (chains q) d × (d.number ≡ n))
    ⊎ ((q : ℕ) × (c : ℕ) × (s : WriteFields) × (q < queues) × (i.head q ≤ c) × (c < i.doorbell q) × (i.entry q (c % depth) ≡ Some s) × (s.0 ≡ n)))

-- the first queues are readable, and these are their chains and the greatest number so far
pub record AreReadTo (accepts : Accepting) (g : Geometry) (d : DriveState) (queues : ℕ) (chains : List (List Descriptor)) (top : ℕ) : Type 0 where
  pub count : length chains ≡ queues
  pub readable : AreReadableBy accepts g d queues (chain_at chains)
  pub shown : ShowsBelow (view_over g d) queues (chain_at chains) top
  pub greatest : (n : ℕ) → ShowsBelow (view_over g d) queues (chain_at chains) n → n ≤ top

pub none-read : (accepts : Accepting) (g : Geometry) (d : DriveState) (chains : List (List Descriptor)) (top : ℕ) → chains ≡ [] → top ≡ d.root.base → AreReadTo accepts g d 0 chains top
none-read accepts g d chains top none is = record {
  count = ap length none;
  readable = λ q low. absurd (omega (arith, low));
  shown = inl is;
  greatest = λ n shows. elim shows [
    | inl x ↦ omega (arith, x, is)
    | inr y ↦ elim y [ inl x ↦ let low = x.2 in absurd (omega (arith, low)) | inr x ↦ let low = x.3 in absurd (omega (arith, low)) ]
  ];
}

-- the chains with one more
record HasMore (queues : ℕ) (chains more : List (List Descriptor)) (ds : List Descriptor) : Type 0 where
  last : chain_at more queues ≡ ds
  before : (q : ℕ) → q < queues → chain_at more q ≡ chain_at chains q

has-more : (queues : ℕ) (chains more : List (List Descriptor)) (ds : List Descriptor) → length chains ≡ queues → more ≡ chains ++ ds ∷ [] → HasMore queues chains more ds
has-more queues chains more ds count is = record {
  last = ap (λ (l : List (List Descriptor)). chain_at l queues) is ∙ ap (chain_at (chains ++ ds ∷ [])) (sym count) ∙ get_or-append_seam chains ds [] [];
  before = λ q low. ap (λ (l : List (List Descriptor)). chain_at l q) is ∙ get_or_append_left chains (ds ∷ []) [] q (omega (arith, count, low));
}

-- what is shown is shown by one queue more
shows-more : (i : Shown) (queues n : ℕ) (chains more : List (List Descriptor)) (ds : List Descriptor) → HasMore queues chains more ds → ShowsBelow i queues (chain_at chains) n → ShowsBelow i (queues + 1) (chain_at more) n
shows-more i queues n chains more ds has shows = elim shows [
  | inl x ↦ inl x
  | inr y ↦ elim y [
    | inl x ↦ let low = x.2 in inr (inl (x.0, x.1, omega (arith, low), subst (λ (l : List Descriptor). Has l x.1) (sym (has.before x.0 x.2)) x.3, x.4))
    | inr x ↦ let low = x.3 in inr (inr (x.0, x.1, x.2, omega (arith, low), x.4, x.5, x.6, x.7))
  ]
]

newest-shown : (i : Shown) (queues : ℕ) (chains : List (List Descriptor)) (ds : List Descriptor) → chain_at chains queues ≡ ds → ShowsBelow i (queues + 1) (chain_at chains) (newest_number i.base ds)
newest-shown i queues chains [] is = inl refl
newest-shown i queues chains (d ∷ ds) is = inr (inl (queues, d, omega arith, subst (λ (l : List Descriptor). Has l d) (sym is) (inl refl), refl))

module _ (accepts : Accepting) (refuses : Refusing) (reader : IsReader accepts refuses) where
  pub more-read : (g : Geometry) (d : DriveState) (queues top k new : ℕ) (chains more : List (List Descriptor)) (ds : List Descriptor) → AreReadTo accepts g d queues chains top → IsReadableBy accepts g (port_at d.queues queues) queues d.root.base ds
      → IsGreatest (port_at d.queues queues) (port_at d.queues queues).head (port_at d.queues queues).doorbell k → more ≡ chains ++ ds ∷ [] → new ≡ max top (max (newest_number d.root.base ds) k) → AreReadTo accepts g d (queues + 1) more new
  more-read g d queues top k new chains more ds read readable greatest is new_is =
      let i = view_over g d in
      let seen = view-seen g d queues d.root.base refl in
      let has = has-more queues chains more ds read.count is in
      let falls = readable-falls accepts refuses reader g (port_at d.queues queues) queues d.root.base ds readable in
      let n = newest_number d.root.base ds in
      let count = read.count in
      let above_top : top ≤ new = omega (arith, new_is) in
      let above_newest : n ≤ new = omega (arith, new_is) in
      let above_entries : k ≤ new = omega (arith, new_is) in
      record {
        count = ap length is ∙ length-append chains (ds ∷ []) ∙ ap (λ (m : ℕ). m + 1) count;
        readable = λ q low. elim (cases_eq q queues) [
          | inl same ↦ subst (λ (m : ℕ). IsReadableBy accepts g (port_at d.queues m) m d.root.base (chain_at more m)) (sym same) (subst (IsReadableBy accepts g (port_at d.queues queues) queues d.root.base) (sym has.last) readable)
          | inr other ↦
              let lower : q < queues = omega (arith, low, other) in
              subst (IsReadableBy accepts g (port_at d.queues q) q d.root.base) (sym (has.before q lower)) (read.readable q lower)
        ];
        shown = elim (cases_eq new top) [
          | inl same ↦ subst (ShowsBelow i (queues + 1) (chain_at more)) (sym same) (shows-more i queues top chains more ds has read.shown)
          | inr above ↦ elim (cases_eq new n) [
            | inl same ↦ subst (ShowsBelow i (queues + 1) (chain_at more)) (sym same) (newest-shown i queues more ds has.last)
            | inr apart ↦
                let last : k ≡ new = omega (arith, new_is, above, apart) in
                elim greatest.shown [
                  | inl z ↦ absurd (omega (arith, z, last, above_newest, apart))
                  | inr x ↦ inr (inr (queues, x.0, x.1, omega arith, subst (λ (m : ℕ). m ≤ x.0) (sym seen.head_is) x.2, subst (λ (m : ℕ). x.0 < m) (sym seen.doorbell_is) x.3, seen.entry_is (x.0 % depth) ∙ x.4, x.5 ∙ last))
                ]
          ]
        ];
        greatest = λ m shows. elim shows [
          | inl x ↦ let b = read.greatest m (inl x) in omega (arith, b, above_top)
          | inr y ↦ elim y [
            | inl x ↦ elim (cases_eq x.0 queues) [
              | inl same ↦
                  let there : Has ds x.1 = subst (λ (l : List Descriptor). Has l x.1) (ap (chain_at more) same ∙ has.last) x.3 in
                  let b = newest-above d.root.base (2 ^ 64) ds x.1 falls there in
                  let number = x.4 in
                  omega (arith, b, above_newest, number)
              | inr other ↦
                  let low = x.2 in
                  let lower : x.0 < queues = omega (arith, low, other) in
                  let b = read.greatest m (inr (inl (x.0, x.1, lower, subst (λ (l : List Descriptor). Has l x.1) (has.before x.0 lower) x.3, x.4))) in
                  omega (arith, b, above_top)
            ]
            | inr x ↦ elim (cases_eq x.0 queues) [
              | inl same ↦
                  let low = subst (λ (q : ℕ). i.head q ≤ x.1) same x.4 in
                  let high = subst (λ (q : ℕ). x.1 < i.doorbell q) same x.5 in
                  let says_is = subst (λ (q : ℕ). i.entry q (x.1 % depth) ≡ Some x.2) same x.6 in
                  let b = greatest.above x.1 x.2 (subst (λ (n : ℕ). n ≤ x.1) seen.head_is low) (subst (λ (n : ℕ). x.1 < n) seen.doorbell_is high) (sym (seen.entry_is (x.1 % depth)) ∙ says_is) in
                  let number = x.7 in
                  omega (arith, b, above_entries, number)
              | inr other ↦
                  let low = x.3 in
                  let b = read.greatest m (inr (inr (x.0, x.1, x.2, omega (arith, low, other), x.4, x.5, x.6, x.7))) in
                  omega (arith, b, above_top)
            ]
          ]
        ];
      }

  pub all-read : (g : Geometry) (d : DriveState) (queues top : ℕ) (chains : List (List Descriptor)) (read : QueuesRead) → AreReadTo accepts g d queues chains top → queues ≡ g.queues → read.chains.items ≡ chains → read.top ≡ top → AreReadBy accepts g d read
  all-read g d queues top chains read are all items top_is =
      let i = view_over g d in
      let is : AreReadTo accepts g d g.queues read.chains.items read.top =
      subst (λ (n : ℕ). AreReadTo accepts g d n read.chains.items read.top) all
      (subst (AreReadTo accepts g d queues read.chains.items) (sym top_is) (subst (λ (l : List (List Descriptor)). AreReadTo accepts g d queues l top) (sym items) are)) in
      record {
        count = is.count;
        readable = is.readable;
        top = record { shown = record { where_from = is.shown }; greatest = λ n shows. is.greatest n shows.where_from };
      }

  -- a queue that is refused after others that are readable
  pub queue-refused : (g : Geometry) (d : DriveState) (queues top : ℕ) (chains : List (List Descriptor)) (cause : ChainRefusal) (e : ImageFault) → AreReadTo accepts g d queues chains top → queues < g.queues
      → (cause ≡ chain.OutOfMemory) ⊎ RefusesQueueBy accepts refuses g (port_at d.queues queues) queues d.root.base cause
      → ((cause ≡ chain.OutOfMemory) × (e ≡ OutOfMemory)) ⊎ ((cause ≢ chain.OutOfMemory) × (e ≡ Bad queues cause)) → (e ≡ OutOfMemory) ⊎ RefusesSomeBy accepts refuses g d e
  queue-refused g d queues top chains cause e read low refused given = elim given [
    | inl x ↦ inl x.1
    | inr x ↦ elim refused [
      | inl none ↦ absurd (x.0 none)
      | inr is ↦ inr (subst (RefusesSomeBy accepts refuses g d) (sym x.1) (low, chain_at chains, read.readable, is))
    ]
  ]
