-- What is known of a port or of a block stays so, while others draw, are done and write home.
use Rattle.std.proofs.Common.{◌≡◌, ◌≢◌, ◌⊎◌, ℕ, ◌+◌, ◌≤◌, Bool, true, false, List, [], ◌∷◌, ◌++◌, is_some, Option, Some, None, sym, refl, ap, subst, ◌∙◌, inl, inr, arith}
use Rattle.std.proofs.lemmas.Bool.{cases_Bool, false≢true}
use Rattle.mq_blocks.specs.Drive.{PortState}
use Rattle.mq_blocks.specs.Geometry.{zone_of}
use Rattle.mq_blocks.specs.Journal.{is_among}
use Rattle.mq_blocks.specs.Machine.{Map, Writes, write_of}
use Rattle.mq_ledger.specs.History.{blocks_of, writes, changes, map_after, last, last_logged, upto, of_queue, IsAt}
use Rattle.mq_ledger.specs.Items.{end_of, descriptor_blocks}
use Rattle.mq_ledger.specs.KnownJournal.{KnownJournal, LogOk, front}
use Rattle.mq_ledger.specs.Sides.{AreHome, SideOk, RootOk}
use Rattle.mq_ledger.specs.declared.tx.Tx.{Tx}
use Rattle.mq_ledger.proofs.History.{last_upto_more, last-same, unchanged, unwritten, changes_logged, changes_direct}
use Rattle.mq_ledger.proofs.Items.{of_queue-other}
use Rattle.mq_ledger.proofs.HistoryQueues.{FromQueue-of}
use Rattle.mq_core.proofs.HistoryFronts.{part_more, DoneMore, done_below}
use Rattle.mq_core.proofs.HistoryBases.{at_append, next_upto_more, total_upto_more, covered}
use Rattle.mq_core.proofs.KnownJournalGrowth.{front_low, moved_to, side_moved}
use Rattle.mq_desk_laws.proofs.HistoryNewer.{part_longer, upto_older}
use Rattle.mq_desk_laws.specs.Pages.{last_direct}

abbrev pub Among : List Tx → Tx → Type 0
Among [] t = ⊥
Among (u ∷ txs) t = (u ≡ t) ⊎ Among txs t

at_newer : (t : Tx) (ts newer h : List Tx) → IsAt t ts (newer ++ h) → Among newer t ⊎ IsAt t ts h
at_newer t ts [] h at = inr at
at_newer t ts (u ∷ txs) h (inl same) = inl (inl same.0)
at_newer t ts (u ∷ txs) h (inr deeper) = elim (at_newer t ts txs h deeper) [
  | inl a ↦ inl (inr a)
  | inr a ↦ inr a
]

pub queue_newer : (q : ℕ) (newer h : List Tx) → ((t : Tx) → Among newer t → t.queue ≢ q) → of_queue q (newer ++ h) ≡ of_queue q h
queue_newer q [] h apart = refl
queue_newer q (t ∷ ns) h apart = of_queue-other q t (ns ++ h) (apart t (inl refl)) ∙ queue_newer q ns h (λ u a. apart u (inr a))

module _ (k : KnownJournal) (newer : List Tx) (done : Tx → List Tx → Bool) (due : ℕ → ℕ → Bool) (word : ℕ) where
  abbrev pub later : KnownJournal
  later = moved_to k (newer ++ k.history) done due word

  module _ (log : LogOk k) (then : LogOk later) (more : DoneMore k.done done k.history) (above : k.word ≤ word) where
    front_later : front k ≤ front later
    front_later = omega (arith, part_more k.done done k.history more, part_longer done newer k.history)

    -- of what changes a block more is seen
    seen_later : (x : ℕ) → last k.base (upto (front k) k.history) x ≤ last k.base (upto (front later) (newer ++ k.history)) x
    seen_later x = rw (← upto_older k.base (front k) newer k.history then.numbers (front_low k)) (last_upto_more k.base (front k) (front later) (newer ++ k.history) x then.numbers front_later)

    homes_later : (z : Option ℕ) (p : PortState) → ((x v : ℕ) → zone_of k.geometry x ≡ z → due x v ≡ true → k.due x v ≡ true) → AreHome k z p → AreHome later z p
    homes_later z p same homes x v content block zone d there m =
        let old = same x v zone d in
        let seen = seen_later x in
        homes x v content block zone old (ap (λ hs. map_after k.start hs x) (sym (upto_older k.base v newer k.history then.numbers (omega (arith, log.due x v old, front_low k)))) ∙ there) (omega (arith, seen, m))

    -- a queue's port, where none of its numbers was drawn or is done since
    pub side_later : (q : ℕ) (p : PortState) → ((t : Tx) → Among newer t → t.queue ≢ q) → ((t : Tx) (ts : List Tx) → t.queue ≡ q → done t ts ≡ true → k.done t ts ≡ true) → ((x v : ℕ) → zone_of k.geometry x ≡ Some q → due x v ≡ true → k.due x v ≡ true)
        → SideOk k q (of_queue q k.history) p → SideOk later q (of_queue q k.history) p
    side_later q p apart known same s =
        let txs : List Tx = of_queue q k.history in
        let ended : (t : Tx) (ts : List Tx) → IsAt t ts (newer ++ k.history) → t.queue ≡ q → done t ts ≡ true → end_of (k.from q) (of_queue q ts) + (writes t + descriptor_blocks t) ≤ p.head = λ t ts at own d. elim (at_newer t ts newer k.history at) [
          | inl new ↦ absurd (apart t new own)
          | inr old ↦ s.done t ts old own (known t ts own d)
        ] in
        let order = s.order in
        side_moved k q txs p (newer ++ k.history) done due word s (record {
          part = ([], queue_newer q newer k.history apart);
          fits = omega (arith, s.area.fits, next_upto_more k.word word txs above);
          low = omega (arith, total_upto_more k.word word txs above);
          based = covered (k.from q) p.head word txs order.head_low (λ t ws at low.
              let f = FromQueue-of q t ws k.history at in
              let there = at_append t f.ts newer k.history f.at in
              let reached = then.word_high in
              let d = done_below k.base done t f.ts (newer ++ k.history) then.numbers there (omega arith) in
              subst (λ vs. end_of (k.from q) vs + (writes t + descriptor_blocks t) ≤ p.head) f.rest (ended t f.ts there f.own d));
          done = ended;
          change = λ x v l. let seen = seen_later x in omega arith;
        }) (homes_later (Some q) p same s.homes)

    -- the root's port, where the base word is what it was
    pub root_later : (p : PortState) → word ≡ k.word → ((x v : ℕ) → zone_of k.geometry x ≡ None → due x v ≡ true → k.due x v ≡ true) → RootOk k p → RootOk later p
    root_later p still same r = record { port = r.port; posted = r.posted; bases = (let b = r.bases.0 in omega arith, r.bases.1); homes = homes_later None p same r.homes }

-- ---- a block that none of the newer ones changes

unwritten_by : (ws : Writes) (x : ℕ) → (is_among x (blocks_of ws) ≡ true → ⊥) → is_some (write_of ws x) ≡ false
unwritten_by ws x none = elim (cases_Bool (is_among x (blocks_of ws))) [
  | inl e ↦ absurd (none e)
  | inr e ↦ ap is_some (unwritten ws x e)
]

pub record SameBlock (start : Map) (base x : ℕ) (newer h : List Tx) : Type 0 where
  pub content : map_after start (newer ++ h) x ≡ map_after start h x
  pub version : last base (newer ++ h) x ≡ last base h x
  pub logged : last_logged base (newer ++ h) x ≡ last_logged base h x
  pub direct : last_direct base (newer ++ h) x ≡ last_direct base h x

pub same_block : (start : Map) (base x : ℕ) (newer h : List Tx) → ((t : Tx) → Among newer t → changes t x ≡ false) → SameBlock start base x newer h
same_block start base x [] h apart = record { content = refl; version = refl; logged = refl; direct = refl }
same_block start base x (t ∷ ns) h apart =
    let r = same_block start base x ns h (λ u a. apart u (inr a)) in
    let c = apart t (inl refl) in
    record {
      content = unchanged start t (ns ++ h) x c ∙ r.content;
      version = last-same base t (ns ++ h) x c ∙ r.version;
      logged = rw (unwritten_by t.logged x (λ e. false≢true (sym c ∙ changes_logged t x e))) r.logged;
      direct = rw (unwritten_by t.direct x (λ e. false≢true (sym c ∙ changes_direct t x e))) r.direct;
    }
