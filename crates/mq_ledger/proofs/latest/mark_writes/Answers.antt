use Rattle.std.proofs.Common.{◌≡◌, ◌<◌, ℕ, List, length, get_or, ap, ◌∙◌, sym, arith}
use Rattle.std.proofs.lemmas.List.{get_or_read, get_or-map, length-map}
use Rattle.mq_ledger.specs.History.{blocks_of}
use Rattle.mq_ledger.specs.Items.{no_write}
use Rattle.mq_ledger.proofs.RecordsLists.{rising-high}
use Rattle.mq_ledger.proofs.latest.mark_writes.Goals as goal

pub put-requires : goal.put-requires
put-requires c =
    let ws = c.args.writes.now in
    let inside : c.loop-i.i < length ws = omega arith in
    let is : c.index-writes-i.result ≡ get_or ws c.loop-i.i no_write = get_or_read ws c.loop-i.i c.index-writes-i.result inside c.index-writes-i.is no_write in
    let block : get_or (blocks_of ws) c.loop-i.i 0 ≡ c.index-writes-i.result.0 = get_or-map (λ (w : ℕ × List ℕ). w.0) ws c.loop-i.i no_write 0 inside ∙ ap (λ (w : ℕ × List ℕ). w.0) (sym is) in
    let long : length (blocks_of ws) ≡ length ws = length-map ws (λ (w : ℕ × List ℕ). w.0) in
    let low = rising-high 0 (length c.args.table.now) (blocks_of ws) c.loop-i.i c.requires.rising (omega arith) in
    omega arith
