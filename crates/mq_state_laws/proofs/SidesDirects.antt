-- A direct write that is done, and after which none that is done changed the block, is at home.
use Rattle.std.proofs.Common.{◌≡◌, ℕ, ◌+◌, ◌-◌, ◌<◌, ◌≤◌, true, List, length, Some, ap, ◌∙◌, arith}
use Rattle.mq_blocks.specs.Drive.{PortState}
use Rattle.mq_blocks.specs.Machine.{write_of}
use Rattle.mq_ledger.specs.History.{last, upto, of_queue, IsAt}
use Rattle.mq_ledger.specs.Items.{Item, AtHome, item_at, direct_item, end_of, bytes_of}
use Rattle.mq_ledger.specs.KnownJournal.{KnownJournal, front}
use Rattle.mq_ledger.specs.Sides.{SideOk, Certainly, home_index}
use Rattle.mq_ledger.specs.declared.tx.Tx.{Tx}
use Rattle.mq_ledger.proofs.Items.{item_of_at, item-direct}
use Rattle.mq_core.proofs.ItemsReading.{writes_at}
use Rattle.mq_core.proofs.SidesCommands.{done_stored}

pub direct_home : (k : KnownJournal) (q : ℕ) (p : PortState) (t : Tx) (ts : List Tx) (x : ℕ) (content : List ℕ) → SideOk k q (of_queue q k.history) p → IsAt t ts k.history → t.queue ≡ q → k.done t ts ≡ true → write_of t.direct x ≡ Some content
    → last k.base (upto (front k) k.history) x ≤ t.number → Certainly p (home_index k.geometry x) content
direct_home k q p t ts x content s at own known w m =
    let from = k.from q in
    let txs = of_queue q ts in
    let d = writes_at t.direct x content w in
    let low = d.within in
    let i = length t.logged + d.i in
    let c = end_of from txs + i in
    let it = item_of_at from q t ts k.history i own at (omega arith) in
    let back : i - length t.logged ≡ d.i = omega arith in
    let is : item_at from (of_queue q k.history) c ≡ direct_item t d.i = it.0 ∙ item-direct t txs i (omega arith) (omega arith) ∙ ap (direct_item t) back in
    let done = s.done t ts at own known in
    let number : (item_at from (of_queue q k.history) c).number ≡ t.number = ap (λ (a : Item). a.number) is in
    let target : (item_at from (of_queue q k.history) c).target ≡ AtHome x = ap (λ (a : Item). a.target) is ∙ ap AtHome d.block in
    let written : bytes_of k.entries.form (item_at from (of_queue q k.history) c).content ≡ content = ap (λ (a : Item). bytes_of k.entries.form a.content) is ∙ d.content in
    let stored = s.order.stored in
    let there = s.direct c x (omega arith) (done_stored k q (of_queue q k.history) p c s (omega arith)) target (omega arith) in
    record { certain = there.certain; is = there.is ∙ written }
