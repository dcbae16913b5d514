-- Parts of which each holds by itself are one lawful state of the machine.
use Rattle.std.proofs.Common.{◌≡◌, ℕ, ◌+◌, ◌<◌, ◌≤◌, ◌||◌, true, false, Bool, List, ◌∷◌, ◌++◌, length, get_or, Option, Some, None, sym, refl, ap, subst, ◌∙◌, inl, inr, arith, eqb}
use Rattle.std.proofs.lemmas.Bool.{cases_lt, cases_Bool, le-leb, leb-true, eqb-true, or_cases, false≢true}
use Rattle.mq_blocks.specs.Descriptor.{AreApart}
use Rattle.mq_blocks.specs.Geometry.{homes_of, zone_of}
use Rattle.mq_blocks.specs.Journal.{is_among}
use Rattle.mq_blocks.specs.Machine.{Map, write_of, or_kept}
use Rattle.mq_ledger.specs.History.{blocks_of, writes, map_after, last, upto, of_queue, IsAt}
use Rattle.mq_ledger.specs.Items.{end_of, descriptor_blocks}
use Rattle.mq_ledger.specs.KnownJournal.{KnownJournal, LogOk, front}
use Rattle.mq_ledger.specs.Sides.{AreHome, Certainly, home_index}
use Rattle.mq_ledger.specs.State.{Facts, IsLawful, from_at, is_done, port_at, port_of, known_of, front_of}
use Rattle.mq_ledger.specs.declared.tx.Tx.{Tx}
use Rattle.mq_blocks.proofs.JournalAmong.{apart-not_among}
use Rattle.mq_ledger.proofs.History.{last_upto_more, last_upto_bound, last_settled, value_settled, upto-upto, upto_number, numbered-upto, written_among, unwritten, write_of-append, map_written}
use Rattle.mq_core.proofs.HistoryBases.{log_based, side_based}
use Rattle.mq_core.proofs.HistoryFronts.{DoneMore, part_more, done_below}
use Rattle.mq_core.proofs.KnownJournalGrowth.{log_more, side_more, root_more}
use Rattle.mq_core.proofs.MachineFacts.{lawful_from}
use Rattle.mq_core.proofs.Roots.{root_based}
use Rattle.mq_core.proofs.StateEvents.{zone-queue}
use Rattle.mq_desk_laws.specs.Bases.{BaseOk}
use Rattle.mq_state_laws.specs.Parts.{Parts, AreParts, AreMarks, known, state, state_with, least_marks}
use Rattle.mq_state_laws.proofs.SidesDirects.{direct_home}
use Rattle.mq_state_laws.proofs.PartsMarks.{marks_length, mark_least}

-- what a direct write left is the content after its number
direct_content : (start : Map) (t : Tx) (ts : List Tx) (x : ℕ) (content : List ℕ) → is_among x (blocks_of t.logged) ≡ false → is_among x (blocks_of t.direct) ≡ true → map_after start (t ∷ ts) x ≡ Some content → write_of t.direct x ≡ Some content
direct_content start t ts x content not among there =
    let w = written_among t.direct x among in
    let whole : write_of (t.logged ++ t.direct) x ≡ Some w.0 = write_of-append t.logged t.direct x ∙ ap (λ o. or_kept o (write_of t.direct x)) (unwritten t.logged x not) ∙ w.1 in
    w.1 ∙ sym (map_written start t ts x w.0 whole) ∙ there

not_both : (t : Tx) (x : ℕ) → AreApart (blocks_of t.logged) (blocks_of t.direct) → is_among x (blocks_of t.direct) ≡ true → is_among x (blocks_of t.logged) ≡ false
not_both t x apart among = elim (cases_Bool (is_among x (blocks_of t.logged))) [
  | inl e ↦ absurd (false≢true (sym (apart-not_among (blocks_of t.logged) (blocks_of t.direct) x apart e) ∙ among))
  | inr e ↦ e
]

module _ (p : Parts) (are : AreParts p) where
  abbrev k : KnownJournal
  k = known p

  abbrev h : List Tx
  h = p.history

  -- what the flushed heads say is done
  abbrev done : Tx → List Tx → Bool
  done = is_done p.starts p.ports

  more : DoneMore k.done done h
  more = record {
    each = λ t ts at known.
        let form = (are.log.each t ts at).0 in
        let d = (are.sides t.queue form.queue).done t ts at refl known in
        le-leb _ _ d;
  }

  pub front_reached : front k ≤ front_of (state p)
  front_reached = omega (arith, part_more k.done done h more)

  -- a content that is due is at home on its port
  kept_home : (x v : ℕ) (content : List ℕ) → (z : Option ℕ) → zone_of p.geometry x ≡ z → x < homes_of p.geometry → k.due x v ≡ true → map_after k.start (upto v h) x ≡ Some content → last k.base (upto (front k) h) x ≤ v → Certainly (port_of (state p) z) (home_index p.geometry x) content
  kept_home x v content (Some q) zone block due there m = (are.sides q (zone-queue p.geometry q x block zone)).homes x v content block zone due there m
  kept_home x v content None zone block due there m = are.root.port.homes x v content block zone due there m

  -- as long as no later number counts, a block of the map after a base is at home on its port
  pub based_home : (b : ℕ) → BaseOk k b → (x : ℕ) (content : List ℕ) (z : Option ℕ) → zone_of p.geometry x ≡ z → x < homes_of p.geometry → map_after k.start (upto b h) x ≡ Some content → last k.base (upto (front k) h) x ≤ b → Certainly (port_of (state p) z) (home_index p.geometry x) content
  based_home b ok x content z zone block there near =
      let v = last k.base (upto b h) x in
      let low = ok.low in
      let reached = ok.reached in
      let most : last k.base (upto b h) x ≤ b = last_upto_bound k.base b h x are.log.numbers low in
      let same : last k.base (upto b h) x ≡ last k.base (upto (front k) h) x =
      ap (λ ws. last k.base ws x) (sym (upto-upto b (front k) h reached)) ∙ last_settled k.base b (upto (front k) h) x (numbered-upto k.base (front k) h are.log.numbers) near in
      elim (ok.home x content block there) [
        | inl d ↦
            let n = d.number in
            let least = d.low in
            let at_n : map_after k.start (upto d.number h) x ≡ Some content = elim (cases_lt b d.number) [
              | inl past ↦
                  value_settled k.start k.base b (upto d.number h) x (omega (arith, d.same, most)) ∙ ap (λ ws. map_after k.start ws x) (upto-upto b d.number h (omega arith)) ∙ there
              | inr at ↦
                  ap (λ ws. map_after k.start ws x) (sym (upto-upto d.number b h at)) ∙ sym (value_settled k.start k.base d.number (upto b h) x least) ∙ there
            ] in
            kept_home x d.number content z zone block d.due at_n (omega arith)
        | inr (inl w) ↦
            let number = w.number in
            let form = (are.log.each w.tx w.before w.at).0 in
            let known = done_below k.base k.done w.tx w.before h are.log.numbers w.at (omega arith) in
            let at_v : map_after k.start (w.tx ∷ w.before) x ≡ Some content =
            ap (λ ws. map_after k.start ws x) (sym (upto_number k.base w.tx w.before h are.log.numbers w.at)) ∙ ap (λ n. map_after k.start (upto n h) x) number ∙ ap (λ ws. map_after k.start ws x) (sym (upto-upto v b h most)) ∙ sym (value_settled k.start k.base v (upto b h) x (omega arith)) ∙ there in
            let logged = not_both w.tx x form.apart w.among in
            let wrote = direct_content k.start w.tx w.before x content logged w.among at_v in
            let there_zone : z ≡ Some w.tx.queue = sym zone ∙ form.zoned x w.among in
            subst (λ y. Certainly (port_of (state p) y) (home_index p.geometry x) content) (sym there_zone) (direct_home k w.tx.queue (port_at p.ports w.tx.queue) w.tx w.before x content (are.sides w.tx.queue form.queue) w.at refl known wrote (omega arith))
        | inr (inr above) ↦ absurd (omega arith)
      ]

  -- what the state knows
  abbrev seen : KnownJournal
  seen = record k { done = done }

  abbrev bases : ℕ → ℕ → Bool
  bases x v = eqb v p.root.base || eqb v p.root.stored_base

  log_seen : LogOk seen
  log_seen = log_more k done are.log more

  later_front : front k ≤ front seen
  later_front = front_reached

  bases_low : (x v : ℕ) → bases x v ≡ true → v ≤ front seen
  bases_low x v d = elim (or_cases (eqb v p.root.base) (eqb v p.root.stored_base) d) [
    | inl a ↦ (let is = eqb-true _ _ a in let r = are.root.flushed in omega (arith, r.reached, later_front))
    | inr a ↦ (let is = eqb-true _ _ a in let r = are.root.stored in omega (arith, r.reached, later_front))
  ]

  bases_home : (z : Option ℕ) → AreHome (known_of p.entries (state p)) z (port_of (state p) z)
  bases_home z x v content block zone due there m =
      let near : last k.base (upto (front k) h) x ≤ v = omega (arith, last_upto_more k.base (front k) (front seen) h x are.log.numbers later_front, m) in
      elim (or_cases (eqb v p.root.base) (eqb v p.root.stored_base) due) [
        | inl a ↦ at v p.root.base (eqb-true _ _ a) are.root.flushed near there
        | inr a ↦ at v p.root.stored_base (eqb-true _ _ a) are.root.stored near there
      ]
    where
      at : (v b : ℕ) → v ≡ b → BaseOk k b → last k.base (upto (front k) h) x ≤ v → map_after k.start (upto v h) x ≡ Some content → Certainly (port_of (state p) z) (home_index p.geometry x) content
      at v b is ok near there = based_home b ok x content z zone block (subst (λ n. map_after k.start (upto n h) x ≡ Some content) is there) (subst (λ n. last k.base (upto (front k) h) x ≤ n) is near)

  word_low : k.word ≤ p.root.base
  word_low = are.root.port.bases.0

  base_low : p.root.base ≤ front seen
  base_low = (let f = are.root.flushed in omega (arith, f.reached, later_front))

  -- by any marks that no number of which the heads don't say that it is done is below
  module _ (marks : List ℕ) (many : length marks ≡ p.geometry.queues) (above : (t : Tx) (ts : List Tx) → IsAt t ts h → done t ts ≡ false → get_or marks t.queue 0 ≤ t.number) where
    pub assembled : Facts p.entries (state_with marks p)
    assembled = record {
      form = are.form;
      log = log_based seen bases p.root.base log_seen word_low base_low bases_low;
      ports = are.many;
      marked = many;
      sides = λ q own.
          let s = side_more k done are.log more q (of_queue q h) (port_at p.ports q) (are.sides q own) (λ t ts at mine d. subst (λ n. end_of (from_at p.starts n) (of_queue n ts) + (writes t + descriptor_blocks t) ≤ (port_at p.ports n).head) mine (leb-true _ _ d)) in
          side_based seen bases p.root.base log_seen word_low base_low q (of_queue q h) (port_at p.ports q) s (bases_home (Some q));
      root = root_based seen bases p.root.base p.root (root_more k done are.log more p.root are.root.port) (omega arith) (bases_home None);
      marks = above;
      writing = λ x none. absurd (false≢true none);
      acknowledged = λ n a. omega (arith, are.acknowledged n a, front_reached);
    }

  pub assembled_least : Facts p.entries (state p)
  assembled_least = assembled (least_marks p) (marks_length _ 0 p.geometry.queues) (λ t ts at undone. mark_least p t ts (let form = (are.log.each t ts at).0 in form.queue) at undone)

  pub lawful : IsLawful p.entries (state p)
  lawful = lawful_from p.entries (state p) assembled_least

  -- by words as marks
  pub facts_with : (marks : List ℕ) → AreMarks p marks → Facts p.entries (state_with marks p)
  facts_with marks m = assembled marks m.many (λ t ts at undone. m.above t ts at (elim (cases_Bool (p.done t ts)) [
    | inl known ↦ absurd (false≢true (sym undone ∙ more.each t ts at known))
    | inr unknown ↦ unknown
  ]))

  pub lawful_with : (marks : List ℕ) → AreMarks p marks → IsLawful p.entries (state_with marks p)
  lawful_with marks m = lawful_from p.entries (state_with marks p) (facts_with marks m)
