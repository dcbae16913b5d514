-- Whatever a power cut leaves shows no number above the last one.
use Rattle.std.proofs.Common.{◌≡◌, ℕ, ◌+◌, ◌-◌, ◌<◌, ◌≤◌, ◌%◌, true, List, [], ◌∷◌, length, Option, Some, sym, ap, ◌∙◌, inl, inr, arith}
use Rattle.std.proofs.lemmas.Bool.{cases_lt}
use Rattle.mq_blocks.specs.Descriptor.{Descriptor}
use Rattle.mq_blocks.specs.Limits.{depth}
use Rattle.mq_blocks.specs.Journal.{WriteFields, Shown, Has, IsChain, AreWhole, ShowsNumber}
use Rattle.mq_blocks.specs.declared.geometry.Geometry.{Geometry}
use Rattle.mq_ledger.specs.History.{of_queue}
use Rattle.mq_ledger.specs.Items.{Entries, item_at}
use Rattle.mq_ledger.specs.Sides.{flushed_at}
use Rattle.mq_ledger.specs.State.{State, Facts, from_at, known_of, port_at}
use Rattle.mq_ledger.proofs.JournalChains.{said-once}
use Rattle.mq_ledger.proofs.History.{at_most}
use Rattle.mq_core.proofs.StateCuts.{IsCut}
use Rattle.mq_core.proofs.KnownJournalGrowth.{front_low}
use Rattle.mq_core.proofs.KnownJournalSources.{from_of, number-from}

said_number : {o : Option WriteFields} {a b : WriteFields} → o ≡ Some a → o ≡ Some b → a.0 ≡ b.0
said_number {o} {a} {b} one other = ap (λ (x : WriteFields). x.0) (said-once o a b one other)

-- the numbers of a chain fall from its newest one
chain_low : (g : Geometry) (i : Shown) (q number place : ℕ) (ds : List Descriptor) (d : Descriptor) → IsChain g i q number place ds → Has ds d → d.number ≤ number
chain_low g i q number place [] d c has = absurd has
chain_low g i q number place (e ∷ es) d c (inl same) = (let is = c.1.number_is in let own : e.number ≡ d.number = ap (λ (x : Descriptor). x.number) same in omega arith)
chain_low g i q number place (e ∷ es) d c (inr deeper) =
    let rest = chain_low g i q e.prev_number e.prev_place es d c.2 deeper in
    let is = c.1.number_is in
    let falls = c.1.is.good.falls in
    omega arith

module _ (e : Entries) (s : State) (f : Facts e s) (i : Shown) (cut : IsCut e s i) where
  abbrev newest : ℕ
  newest = s.base + length s.history

  base_low : i.base ≤ newest
  base_low = omega (arith, cut.reached, front_low (known_of e s))

  -- an entry of the ring
  entry_low : (q c : ℕ) (said : WriteFields) → q < s.geometry.queues → from_at s.starts q ≤ c → i.head q ≤ c + 1 → c < i.doorbell q → i.entry q (c % depth) ≡ Some said → said.0 ≤ newest
  entry_low q c said own start low rung is =
      let side = f.sides q own in
      let o = side.order in
      let door = cut.doorbell q own in
      let head = cut.from_head q own in
      let read = cut.entry q c own (omega arith) (omega arith) in
      let wrote = side.ring.rung c start (omega arith) (omega arith) in
      let from = from_of (known_of e s) q (of_queue q s.history) c side.part start (omega (arith, o.flushed, o.staged, o.drawn)) in
      let number : said.0 ≡ (item_at (from_at s.starts q) (of_queue q s.history) c).number = said_number (sym read ∙ is) wrote in
      omega (arith, number, number-from (known_of e s) q (of_queue q s.history) c from, at_most s.base from.t from.ts s.history f.log.numbers from.at)

  -- the entry before the head
  head_low : (q number lba : ℕ) → q < s.geometry.queues → 0 < i.head q → i.entry q ((i.head q - 1) % depth) ≡ Some (number, lba, true) → number ≤ newest
  head_low q number lba own some is =
      let side = f.sides q own in
      let o = side.order in
      let door = cut.doorbell q own in
      let head = cut.from_head q own in
      let stored = cut.to_stored q own in
      elim (cases_lt (i.head q - 1) (from_at s.starts q)) [
        | inl before ↦
            let at : (port_at s.ports q).head ≡ from_at s.starts q = omega (arith, o.head_low) in
            let first = side.ring.start (omega (arith, o.head_low)) at in
            let same : i.head q - 1 ≡ from_at s.starts q - 1 = omega (arith, o.head_low) in
            let read = cut.entry q (i.head q - 1) own (omega arith) (omega (arith, o.rung)) in
            let shown : e.says (flushed_at (port_at s.ports q) (i.head q - 1)) ≡ Some (number, lba, true) = sym read ∙ is in
            let shown' = ap (λ n. e.says (flushed_at (port_at s.ports q) n)) (sym same) ∙ shown in
            let number_is : number ≡ first.0 = said_number shown' first.2 in
            omega (arith, number_is, first.3)
        | inr after ↦ entry_low q (i.head q - 1) (number, lba, true) own after (omega arith) (omega (arith, o.rung)) is
      ]

  pub shows_low : (chains : ℕ → List Descriptor) (n : ℕ) → AreWhole s.geometry i chains → ShowsNumber s.geometry i chains n → n ≤ newest
  shows_low chains n whole shows = elim shows.where_from [
    | inl base ↦ omega (arith, base, base_low)
    | inr (inl chained) ↦
        let (q, d, own, has, number) = chained in
        let c = whole.each q own in
        let low = chain_low s.geometry i q c.number c.place (chains q) d c.chain has in
        elim (cases_lt 0 (i.head q)) [
          | inl some ↦ omega (arith, low, number, head_low q c.number c.lba own some (c.newest some))
          | inr none ↦ (let zero : i.head q ≡ 0 = omega arith in omega (arith, low, number, c.none zero))
        ]
    | inr (inr rung) ↦
        let (q, c, said, own, low, high, is, number) = rung in
        let start = (let side = f.sides q own in let o = side.order in o.head_low) in
        omega (arith, number, entry_low q c said own (omega (arith, start, cut.from_head q own)) (omega arith) high is)
  ]
