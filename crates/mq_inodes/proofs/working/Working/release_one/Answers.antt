use Rattle.std.proofs.Common.{None, OnOk}
use Rattle.mq_inodes.specs.Changes.{IsPut}
use Rattle.mq_inodes.specs.Edits.{IsKindPut}
use Rattle.mq_inodes.specs.Pages.{pages_of}
use Rattle.mq_inodes.proofs.EditsLinking.{on_ok-both}
use Rattle.mq_inodes.proofs.Released.{releases-one}
use Rattle.mq_inodes.proofs.working.Working.release_one.Goals as goal

pub returns : goal.returns
returns c =
    let m = c.in_ok-mark_block.ensures in
    let p = c.put_free.ensures in
    let mid = c.mark_block.new.self in
    let new = c.put_free.new.self in
    let put : OnOk c.put_free.result (IsPut (pages_of mid) (pages_of new) c.args.b None × IsKindPut mid new c.args.b None) = on_ok-both c.put_free.result p.page p.kind (λ page kind. (page, kind)) in
    on_ok-both c.put_free.result p.view put (λ view f. releases-one c.args.self.now mid new c.args.b c.requires m.over m.kinds m.marked view f.0 f.1)
