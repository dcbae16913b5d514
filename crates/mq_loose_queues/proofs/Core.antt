-- The queues are in a state of the loose machine.
use Rattle.std.proofs.Common.{◌≡◌, ℕ, ◌+◌, ◌<◌, ◌≤◌, false, Bool, List, [], ◌∷◌, length, Option, Some, None, sym, refl, ap, subst, ◌∙◌, inl, inr, arith}
use Rattle.std.proofs.lemmas.Bool.{eq-eqb, leb-true, false≢true}
use Rattle.std.proofs.lemmas.List.{length-map}
use Rattle.mq_blocks.specs.Drive.{PortState}
use Rattle.mq_blocks.specs.Geometry.{homes_of, zone_of}
use Rattle.mq_blocks.specs.Journal.{is_among}
use Rattle.mq_core.proofs.HistoryFronts.{DoneMore}
use Rattle.mq_core.proofs.KnownJournalGrowth.{log_more, side_more, side_moved}
use Rattle.mq_core.proofs.StateEvents.{zone-queue}
use Rattle.mq_ledger.specs.History.{last, map_after, of_queue, part_of, upto, writes}
use Rattle.mq_ledger.specs.KnownJournal.{KnownJournal, LogOk, front}
use Rattle.mq_ledger.specs.Items.{descriptor_blocks, end_of}
use Rattle.mq_ledger.specs.Sides.{Certainly, RootOk, SideOk, home_index}
use Rattle.mq_ledger.specs.State.{State, from_at, is_done, port_at, port_of, start_map}
use Rattle.mq_ledger.specs.Written.{journal_entries}
use Rattle.mq_ledger.specs.declared.tx.Tx.{Tx}
use Rattle.mq_loose.specs.Safe.{Facts, IsABase, IsSafe}
use Rattle.mq_loose.proofs.Homes.{at_upto, last_within}
use Rattle.mq_loose.proofs.Safe.{safe_from}
use Rattle.mq_loose_queues.specs.Journal.{IsJournal, known_over, state_over}
use Rattle.mq_loose_queues.specs.Laws.{AreSettled}
use Rattle.mq_loose_queues.specs.Queues.{QueuesState, StoredSide, at_queue, ports_of}
use Rattle.mq_loose_queues.proofs.Ports.{port_is}

module _ (s : State) (h : List Tx) (v : QueuesState) (acknowledged : List ℕ) (j : IsJournal s h v) where
  abbrev t : State
  t = state_over s h acknowledged v

  abbrev k : KnownJournal
  k = known_over s h

  abbrev now : Tx → List Tx → Bool
  now = is_done s.starts (ports_of v)

  -- what the machine knows then
  abbrev known : ℕ → KnownJournal
  known word = record k { done = now; due = λ x v. false; word = word }

  word_is : v.root.base ≡ s.base
  word_is = ap (λ (p : PortState). p.base) j.root_is ∙ j.start.base

  stored_is : v.root.stored_base ≡ s.base
  stored_is = ap (λ (p : PortState). p.stored_base) j.root_is ∙ j.start.stored_base

  more : DoneMore k.done now h
  more = record { each = λ u us at d. absurd (false≢true d) }

  log_at : LogOk (known s.base)
  log_at =
      let l = log_more k now j.log more in
      record {
        entries = l.entries;
        numbers = l.numbers;
        limit = l.limit;
        word_low = l.word_low;
        word_high = l.word_high;
        due = λ x v d. absurd (false≢true d);
        each = λ u us at. (let e = l.each u us at in (e.0, record { free = e.1.free; settled = e.1.settled; hidden = e.1.hidden }));
      }

  side_at : (q : ℕ) → q < s.geometry.queues → SideOk (known s.base) q (of_queue q h) (port_at (ports_of v) q)
  side_at q own =
      let us = of_queue q h in
      let port : port_at (ports_of v) q ≡ (at_queue v q).side.port = port_is v q in
      let side : SideOk k q us (port_at (ports_of v) q) = subst (λ (p : PortState). SideOk k q us p) (sym port) (j.sides q own).side in
      let past = side_more k now j.log more q us (port_at (ports_of v) q) side (λ u txs at mine d.
      let l : end_of (from_at s.starts u.queue) (of_queue u.queue txs) + (writes u + descriptor_blocks u) ≤ (port_at (ports_of v) u.queue).head = leb-true _ _ d in
      let l' = rw mine at l in l') in
      side_moved (record k { done = now }) q us (port_at (ports_of v) q) h now (λ x v. false) s.base past (record { part = past.part; fits = past.area.fits; low = omega arith; based = past.based; done = past.done; change = λ x v l. l })
      (λ y v content inside z due there m. absurd (false≢true due))

  root_at : RootOk (known s.base) v.root
  root_at = subst (λ (p : PortState). RootOk (known s.base) p) (sym j.root_is) (record { port = j.root.port; posted = j.root.posted; bases = j.root.bases; homes = λ y v content inside z due there m. absurd (false≢true due) })

  -- nothing above the base stands up to it
  none_later : (x : ℕ) → last s.base (upto (front k) h) x ≤ front k
  none_later x = last_within s.base (front k) (upto (front k) h) x (omega arith) (λ u us at c. (at_upto (front k) u us h s.base j.log.numbers at).1)

  front_is : front k ≡ s.base
  front_is = none h
    where
      none : (us : List Tx) → s.base + length (part_of (λ u ts. false) us) ≡ s.base
      none [] = omega arith
      none (u ∷ us) = none us

  certain_at : (z : Option ℕ) (x : ℕ) (content : List ℕ) → zone_of s.geometry x ≡ z → x < homes_of s.geometry → map_after (start_map s.start) (upto s.base h) x ≡ Some content → Certainly (port_of t z) (home_index s.geometry x) content
  certain_at None x content zone inside there =
      let kept = j.root.homes x s.base content inside zone (eq-eqb s.base s.base refl) there (let l = none_later x in omega (arith, l, front_is)) in
      subst (λ (p : PortState). Certainly p (home_index s.geometry x) content) (sym j.root_is) kept
  certain_at (Some q) x content zone inside there =
      let own = zone-queue s.geometry q x inside zone in
      let kept = (j.sides q own).side.homes x s.base content inside zone (eq-eqb s.base s.base refl) there (let l = none_later x in omega (arith, l, front_is)) in
      subst (λ (p : PortState). Certainly p (home_index s.geometry x) content) (sym (port_is v q)) kept

  base_is : (b : ℕ) → IsABase t b → b ≡ s.base
  base_is b (inl is) = is ∙ word_is
  base_is b (inr is) = is ∙ stored_is

  pub facts_over : AreSettled s h v acknowledged → Facts journal_entries t
  facts_over each =
      record {
        log = subst (λ (w : ℕ). LogOk (known w)) (sym word_is) log_at;
        plain = j.plain;
        ports = length-map v.sides (λ (w : StoredSide). w.side.port) ∙ j.count;
        sides = λ q own. subst (λ (w : ℕ). SideOk (known w) q (of_queue q h) (port_at (ports_of v) q)) (sym word_is) (side_at q own);
        root = subst (λ (w : ℕ). RootOk (known w) v.root) (sym word_is) root_at;
        reached = omega (arith, stored_is);
        homes = λ x b content inside base there none.
            certain_at (zone_of s.geometry x) x content refl inside (subst (λ (n : ℕ). map_after (start_map s.start) (upto n h) x ≡ Some content) (base_is b base) there);
        writing = λ x among. absurd (false≢true (sym (ap (is_among x) j.start.writing) ∙ among));
        acknowledged = λ n among. each n among;
      }

  pub safe_over : AreSettled s h v acknowledged → IsSafe journal_entries t
  safe_over each = safe_from journal_entries t (facts_over each)
