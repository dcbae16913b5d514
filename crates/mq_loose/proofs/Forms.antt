-- What is known of a journal whose descriptors have another form, where these have the same bytes in both.
use Rattle.std.proofs.Common.{◌≡◌, ℕ, ◌-◌, ltb, List, [], ◌∷◌, length, take, drop, sym, refl, ap, subst, ◌∙◌, inl, inr}
use Rattle.std.proofs.lemmas.Bool.{cases_lt, cases_Bool}
use Rattle.mq_blocks.specs.Descriptor.{DescriptorForm, last_block, further_block}
use Rattle.mq_blocks.specs.Drive.{PortState}
use Rattle.mq_blocks.specs.declared.command.Command.{Command}
use Rattle.mq_blocks.specs.declared.geometry.Geometry.{Geometry}
use Rattle.mq_ledger.specs.History.{writes, of_queue, IsAt}
use Rattle.mq_ledger.specs.Items.{bytes_of, command_of, descriptor_for, end_of, further_blocks, item_at, item_of}
use Rattle.mq_ledger.specs.KnownJournal.{KnownJournal, LogOk}
use Rattle.mq_ledger.specs.Sides.{AreOwn, Certainly, SideOk, RootOk, home_index, place_index}
use Rattle.mq_ledger.specs.declared.tx.Tx.{Tx}
use Rattle.mq_ledger.proofs.HistoryQueues.{FromQueue-of}
use Rattle.mq_ledger.proofs.Items.{item_at-before, item_at-in, item-logged, item-direct, item-descriptor}
use Rattle.mq_core.proofs.HistoryBases.{at_append}

-- the descriptors of a history's transactions have the same bytes in both
pub record AreSameTexts (f g : DescriptorForm) (h : List Tx) : Type 0 where
  pub version : f.version ≡ g.version
  pub texts : (t : Tx) (ts txs : List Tx) → IsAt t ts h → f.text g.version (descriptor_for t txs) ≡ g.text g.version (descriptor_for t txs)

module _ (f g : DescriptorForm) (h : List Tx) (same : AreSameTexts f g h) where
  last_same : (t : Tx) (ts txs : List Tx) → IsAt t ts h → last_block f f.version (descriptor_for t txs) ≡ last_block g g.version (descriptor_for t txs)
  unfolding last_block
  last_same t ts txs at = ap (λ n. take 4096 (f.text n (descriptor_for t txs))) same.version ∙ ap (λ (xs : List ℕ). take 4096 xs) (same.texts t ts txs at)

  further_same : (t : Tx) (ts txs : List Tx) → IsAt t ts h → further_block f f.version (descriptor_for t txs) ≡ further_block g g.version (descriptor_for t txs)
  unfolding further_block
  further_same t ts txs at = ap (λ n. drop 4096 (f.text n (descriptor_for t txs))) same.version ∙ ap (λ (xs : List ℕ). drop 4096 xs) (same.texts t ts txs at)

  item_same : (t : Tx) (ts txs : List Tx) (i : ℕ) → IsAt t ts h → bytes_of f (item_of t txs i).content ≡ bytes_of g (item_of t txs i).content
  item_same t ts txs i at = elim (cases_lt i (length t.logged)) [
    | inl logged ↦ rw (item-logged t txs i logged) refl
    | inr past ↦ elim (cases_lt i (writes t)) [
      | inl direct ↦ rw (item-direct t txs i past direct) refl
      | inr last ↦ rw (item-descriptor t txs i last) (elim (cases_Bool (ltb (i - writes t) (further_blocks t))) [
        | inl more ↦ rw more (further_same t ts txs at)
        | inr end ↦ rw end (last_same t ts txs at)
      ])
    ]
  ]

  items_same : (from : ℕ) (txs : List Tx) (c : ℕ) → ((t : Tx) (vs : List Tx) → IsAt t vs txs → (ts : List Tx) × IsAt t ts h) → bytes_of f (item_at from txs c).content ≡ bytes_of g (item_at from txs c).content
  items_same from [] c each = refl
  items_same from (t ∷ txs) c each = elim (cases_lt c (end_of from txs)) [
    | inl below ↦ rw (item_at-before from t txs c below) (items_same from txs c (λ u us at. each u us (inr at)))
    | inr own ↦ (let r = each t txs (inl (refl, refl)) in rw (item_at-in from t txs c own) (item_same t r.0 txs (c - end_of from txs) r.1))
  ]

  own_same : (geometry : Geometry) (q from : ℕ) (txs : List Tx) (cs : List Command) → ((c : ℕ) → bytes_of f (item_at from txs c).content ≡ bytes_of g (item_at from txs c).content) → AreOwn f geometry q from txs cs → AreOwn g geometry q from txs cs
  own_same geometry q from txs [] bytes own = tt
  own_same geometry q from txs (c ∷ cs) bytes own = (own.0 ∙ (λ j. record (command_of g geometry q c.count (item_at from txs c.count)) { block = bytes c.count j }), own_same geometry q from txs cs bytes own.1)

-- what is known, with the other form
abbrev pub formed : DescriptorForm → KnownJournal → KnownJournal
formed g k = record k { entries = record { entry = k.entries.entry; says = k.entries.says; form = g } }

module _ (k : KnownJournal) (g : DescriptorForm) (same : AreSameTexts k.entries.form g k.history) where
  pub log_formed : LogOk k → LogOk (formed g k)
  log_formed log = record {
    entries = log.entries;
    numbers = log.numbers;
    limit = log.limit;
    word_low = log.word_low;
    word_high = log.word_high;
    due = log.due;
    each = λ t ts at. (let e = log.each t ts at in (e.0, record { free = e.1.free; settled = e.1.settled; hidden = e.1.hidden }));
  }

  pub root_formed : (p : PortState) → RootOk k p → RootOk (formed g k) p
  root_formed p r = record { port = r.port; posted = r.posted; bases = r.bases; homes = r.homes }

  pub side_formed : (q : ℕ) (txs : List Tx) (p : PortState) → SideOk k q txs p → SideOk (formed g k) q txs p
  side_formed q txs p s =
      let from = k.from q in
      let f = k.entries.form in
      let bytes : (c : ℕ) → bytes_of f (item_at from txs c).content ≡ bytes_of g (item_at from txs c).content = λ c. items_same f g k.history same from txs c (λ t vs at.
      let there : IsAt t vs (of_queue q k.history) = subst (λ ws. IsAt t vs ws) (sym s.part.1) (at_append t vs s.part.0 txs at) in
      let r = FromQueue-of q t vs k.history there in
      (r.ts, r.at)) in
      record {
        queue = s.queue;
        part = s.part;
        port = s.port;
        order = s.order;
        limit = s.limit;
        ends = s.ends;
        ring = record { settled = s.ring.settled; start = s.ring.start; rung = s.ring.rung; waits = s.ring.waits };
        commands = record {
          pending = own_same f g k.history same k.geometry q from txs p.pending bytes s.commands.pending;
          pending_counts = s.commands.pending_counts;
          posted = own_same f g k.history same k.geometry q from txs p.posted bytes s.commands.posted;
          posted_counts = s.commands.posted_counts;
          failed = own_same f g k.history same k.geometry q from txs p.failed bytes s.commands.failed;
          failed_counts = s.commands.failed_counts;
        };
        area = record {
          fits = s.area.fits;
          limit = s.area.limit;
          holds = λ c place low d target. subst (λ v. Certainly p (place_index k.geometry place) v) (bytes c) (s.area.holds c place low d target);
        };
        based = s.based;
        done = s.done;
        direct = λ c x low d target m. subst (λ v. Certainly p (home_index k.geometry x) v) (bytes c) (s.direct c x low d target m);
        homes = s.homes;
      }
