use Rattle.std.proofs.Common.{None, sym, ◌∙◌}
use Rattle.std.proofs.lemmas.List.{length-map}
use Rattle.std.proofs.lemmas.Result.{err_from_is_err_and}
use Rattle.mq_blocks.specs.Descriptor.{Descriptor}
use Rattle.mq_recover.specs.Copies.{AreCopies}
use Rattle.mq_recover.specs.Drives.{DriveState, states}
use Rattle.mq_recover.specs.Recovering.{HasStopped}
use Rattle.mq_recover.specs.declared.refusal.RecoverRefusal.TheVariants.{Off}
use Rattle.mq_recover.proofs.RecoveringDrives.{IsPlanned, writes-below, all-home, root-alone, base-low, cut-homes, cut-raise, stopped-left, written-left, on-drive}
use Rattle.mq_recover.proofs.RecoverHomesRows.{IsRaisedRow, IsHandedBack, row-moves, row-cut, row-done, row-off}
use Rattle.mq_recover.proofs.recovering.recover_chosen.Goals as goal

pub write_homes-requires-clause-below : goal.write_homes-requires-clause-below
write_homes-requires-clause-below g c =
    let ds = c.requires.copies.0 in
    let writes = c.in_ok-writes.writes.items in
    let s : DriveState = states g.P.Port.state c.args.ports.now.queues.items c.args.ports.now.root in
    let planned : IsPlanned c.args.geometry s ds c.args.base writes = record { writes_are = c.in_ok-writes.ensures ds c.requires.copies.1; low = c.requires.low; heads = c.requires.heads } in
    writes-below c.args.geometry s ds writes planned.writes_are

pub returns-in_err-write_homes-clause-drive : goal.returns-in_err-write_homes-clause-drive
returns-in_err-write_homes-clause-drive g c ds are =
    let state = g.P.Port.state in
    let top = c.args.base in
    let writes = c.in_ok-writes.writes.items in
    let s : DriveState = states state c.args.ports.now.queues.items c.args.ports.now.root in
    let planned : IsPlanned c.args.geometry s ds top writes = record { writes_are = c.in_ok-writes.ensures ds are; low = c.requires.low; heads = c.requires.heads } in
    let n : DriveState = states state c.write_homes.new.ports.queues.items c.write_homes.new.ports.root in
    let p = err_from_is_err_and c.from_residual-in_err-write_homes.result c.from_residual-in_err-write_homes.ensures.1 in
    let cut : HasStopped c.args.geometry c.in_err-write_homes.field-0.0 s ds top n = cut-homes c.args.geometry c.in_err-write_homes.field-0.0 s n ds top writes c.requires.still planned c.in_err-write_homes.ensures.drive in
    on-drive c.from_residual-in_err-write_homes.result c.in_err-write_homes.field-0.0 (λ e. HasStopped c.args.geometry e s ds top n) (rw p.2 at p.1) cut

pub returns-in_err-write_homes-clause-count : goal.returns-in_err-write_homes-clause-count
returns-in_err-write_homes-clause-count g c =
    let state = g.P.Port.state in
    let ds = c.requires.copies.0 in
    let top = c.args.base in
    let writes = c.in_ok-writes.writes.items in
    let s : DriveState = states state c.args.ports.now.queues.items c.args.ports.now.root in
    let planned : IsPlanned c.args.geometry s ds top writes = record { writes_are = c.in_ok-writes.ensures ds c.requires.copies.1; low = c.requires.low; heads = c.requires.heads } in
    let n : DriveState = states state c.write_homes.new.ports.queues.items c.write_homes.new.ports.root in
    let cut : HasStopped c.args.geometry c.in_err-write_homes.field-0.0 s ds top n = cut-homes c.args.geometry c.in_err-write_homes.field-0.0 s n ds top writes c.requires.still planned c.in_err-write_homes.ensures.drive in
    let left = stopped-left c.args.geometry c.in_err-write_homes.field-0.0 s n ds top cut in
    sym (length-map c.write_homes.new.ports.queues.items state) ∙ left.count ∙ length-map c.args.ports.now.queues.items state

pub returns-in_err-write_homes-clause-bounds : goal.returns-in_err-write_homes-clause-bounds
returns-in_err-write_homes-clause-bounds g c =
    let state = g.P.Port.state in
    let ds = c.requires.copies.0 in
    let top = c.args.base in
    let writes = c.in_ok-writes.writes.items in
    let s : DriveState = states state c.args.ports.now.queues.items c.args.ports.now.root in
    let planned : IsPlanned c.args.geometry s ds top writes = record { writes_are = c.in_ok-writes.ensures ds c.requires.copies.1; low = c.requires.low; heads = c.requires.heads } in
    let n : DriveState = states state c.write_homes.new.ports.queues.items c.write_homes.new.ports.root in
    let cut : HasStopped c.args.geometry c.in_err-write_homes.field-0.0 s ds top n = cut-homes c.args.geometry c.in_err-write_homes.field-0.0 s n ds top writes c.requires.still planned c.in_err-write_homes.ensures.drive in
    (stopped-left c.args.geometry c.in_err-write_homes.field-0.0 s n ds top cut).bounds

pub raise_base-requires-clause-root : goal.raise_base-requires-clause-root
raise_base-requires-clause-root g c =
    let state = g.P.Port.state in
    let ds = c.requires.copies.0 in
    let top = c.args.base in
    let writes = c.in_ok-writes.writes.items in
    let s : DriveState = states state c.args.ports.now.queues.items c.args.ports.now.root in
    let planned : IsPlanned c.args.geometry s ds top writes = record { writes_are = c.in_ok-writes.ensures ds c.requires.copies.1; low = c.requires.low; heads = c.requires.heads } in
    let n : DriveState = states state c.write_homes.new.ports.queues.items c.write_homes.new.ports.root in
    let home = all-home c.args.geometry s n ds top writes c.requires.still planned c.in_ok-write_homes.ensures.ok in
    root-alone c.args.geometry n.root home.ports.root

pub raise_base-requires-clause-quiet : goal.raise_base-requires-clause-quiet
raise_base-requires-clause-quiet g c =
    let state = g.P.Port.state in
    let ds = c.requires.copies.0 in
    let top = c.args.base in
    let writes = c.in_ok-writes.writes.items in
    let s : DriveState = states state c.args.ports.now.queues.items c.args.ports.now.root in
    let planned : IsPlanned c.args.geometry s ds top writes = record { writes_are = c.in_ok-writes.ensures ds c.requires.copies.1; low = c.requires.low; heads = c.requires.heads } in
    let n : DriveState = states state c.write_homes.new.ports.queues.items c.write_homes.new.ports.root in
    let home = all-home c.args.geometry s n ds top writes c.requires.still planned c.in_ok-write_homes.ensures.ok in
    home.quiet None tt

pub raise_base-requires-clause-low : goal.raise_base-requires-clause-low
raise_base-requires-clause-low g c =
    let state = g.P.Port.state in
    let ds = c.requires.copies.0 in
    let top = c.args.base in
    let writes = c.in_ok-writes.writes.items in
    let s : DriveState = states state c.args.ports.now.queues.items c.args.ports.now.root in
    let planned : IsPlanned c.args.geometry s ds top writes = record { writes_are = c.in_ok-writes.ensures ds c.requires.copies.1; low = c.requires.low; heads = c.requires.heads } in
    let n : DriveState = states state c.write_homes.new.ports.queues.items c.write_homes.new.ports.root in
    let home = all-home c.args.geometry s n ds top writes c.requires.still planned c.in_ok-write_homes.ensures.ok in
    base-low c.args.geometry s n ds top writes planned home

pub returns-in_err-raise_base-clause-drive : goal.returns-in_err-raise_base-clause-drive
returns-in_err-raise_base-clause-drive g c ds are =
    let state = g.P.Port.state in
    let top = c.args.base in
    let writes = c.in_ok-writes.writes.items in
    let s : DriveState = states state c.args.ports.now.queues.items c.args.ports.now.root in
    let planned : IsPlanned c.args.geometry s ds top writes = record { writes_are = c.in_ok-writes.ensures ds are; low = c.requires.low; heads = c.requires.heads } in
    let n : DriveState = states state c.write_homes.new.ports.queues.items c.write_homes.new.ports.root in
    let m : DriveState = states state c.write_homes.new.ports.queues.items c.raise_base.new.root in
    let home = all-home c.args.geometry s n ds top writes c.requires.still planned c.in_ok-write_homes.ensures.ok in
    let p = err_from_is_err_and c.from_residual-in_err-raise_base.result c.from_residual-in_err-raise_base.ensures.1 in
    let cut : HasStopped c.args.geometry Off s ds top m = cut-raise c.args.geometry s n m.root ds top writes c.requires.still planned home c.in_err-raise_base.ensures.cut in
    on-drive c.from_residual-in_err-raise_base.result Off (λ e. HasStopped c.args.geometry e s ds top m) (rw p.2 at p.1) cut

pub returns-in_err-raise_base-clause-bounds : goal.returns-in_err-raise_base-clause-bounds
returns-in_err-raise_base-clause-bounds g c =
    let state = g.P.Port.state in
    let ds = c.requires.copies.0 in
    let top = c.args.base in
    let writes = c.in_ok-writes.writes.items in
    let s : DriveState = states state c.args.ports.now.queues.items c.args.ports.now.root in
    let planned : IsPlanned c.args.geometry s ds top writes = record { writes_are = c.in_ok-writes.ensures ds c.requires.copies.1; low = c.requires.low; heads = c.requires.heads } in
    let n : DriveState = states state c.write_homes.new.ports.queues.items c.write_homes.new.ports.root in
    let m : DriveState = states state c.write_homes.new.ports.queues.items c.raise_base.new.root in
    let home = all-home c.args.geometry s n ds top writes c.requires.still planned c.in_ok-write_homes.ensures.ok in
    let cut : HasStopped c.args.geometry Off s ds top m = cut-raise c.args.geometry s n m.root ds top writes c.requires.still planned home c.in_err-raise_base.ensures.cut in
    (stopped-left c.args.geometry Off s m ds top cut).bounds

pub move_heads-requires : goal.move_heads-requires
move_heads-requires g c =
    let state = g.P.Port.state in
    let ds = c.requires.copies.0 in
    let top = c.args.base in
    let writes = c.in_ok-writes.writes.items in
    let s : DriveState = states state c.args.ports.now.queues.items c.args.ports.now.root in
    let planned : IsPlanned c.args.geometry s ds top writes = record { writes_are = c.in_ok-writes.ensures ds c.requires.copies.1; low = c.requires.low; heads = c.requires.heads } in
    let xs = c.write_homes.new.ports.queues.items in
    let old = c.write_homes.new.ports.root in
    let root = c.raise_base.new.root in
    let row : IsRaisedRow state c.args.geometry s ds top writes xs old root = record { still = c.requires.still; planned = planned; home = c.in_ok-write_homes.ensures.ok; raised = c.in_ok-raise_base.ensures.ok } in
    row-moves state c.args.geometry s ds top writes xs c.deref_mut.result.now old root row c.deref_mut.ensures.value

pub returns-in_err-move_heads-clause-drive : goal.returns-in_err-move_heads-clause-drive
returns-in_err-move_heads-clause-drive g c ds are =
    let state = g.P.Port.state in
    let top = c.args.base in
    let writes = c.in_ok-writes.writes.items in
    let s : DriveState = states state c.args.ports.now.queues.items c.args.ports.now.root in
    let planned : IsPlanned c.args.geometry s ds top writes = record { writes_are = c.in_ok-writes.ensures ds are; low = c.requires.low; heads = c.requires.heads } in
    let xs = c.write_homes.new.ports.queues.items in
    let len = c.write_homes.new.ports.queues.len in
    let ys = c.move_heads.new.queues in
    let old = c.write_homes.new.ports.root in
    let root = c.raise_base.new.root in
    let row : IsRaisedRow state c.args.geometry s ds top writes xs old root = record { still = c.requires.still; planned = planned; home = c.in_ok-write_homes.ensures.ok; raised = c.in_ok-raise_base.ensures.ok } in
    let handed : IsHandedBack len xs c.deref_mut.result.now ys = record { len_is = c.write_homes.new.ports.queues.ok.0; same = c.deref_mut.ensures.value; long = c.move_heads.auto.queues } in
    let p = err_from_is_err_and c.from_residual-in_err-move_heads.result c.from_residual-in_err-move_heads.ensures.1 in
    on-drive c.from_residual-in_err-move_heads.result Off _ (rw p.2 at p.1) (row-cut state c.args.geometry s ds top writes xs c.deref_mut.result.now ys old root len row handed c.in_err-move_heads.ensures.cut)

pub returns-in_err-move_heads-clause-bounds : goal.returns-in_err-move_heads-clause-bounds
returns-in_err-move_heads-clause-bounds g c =
    let state = g.P.Port.state in
    let ds = c.requires.copies.0 in
    let top = c.args.base in
    let writes = c.in_ok-writes.writes.items in
    let s : DriveState = states state c.args.ports.now.queues.items c.args.ports.now.root in
    let planned : IsPlanned c.args.geometry s ds top writes = record { writes_are = c.in_ok-writes.ensures ds c.requires.copies.1; low = c.requires.low; heads = c.requires.heads } in
    let xs = c.write_homes.new.ports.queues.items in
    let len = c.write_homes.new.ports.queues.len in
    let ys = c.move_heads.new.queues in
    let old = c.write_homes.new.ports.root in
    let root = c.raise_base.new.root in
    let row : IsRaisedRow state c.args.geometry s ds top writes xs old root = record { still = c.requires.still; planned = planned; home = c.in_ok-write_homes.ensures.ok; raised = c.in_ok-raise_base.ensures.ok } in
    let handed : IsHandedBack len xs c.deref_mut.result.now ys = record { len_is = c.write_homes.new.ports.queues.ok.0; same = c.deref_mut.ensures.value; long = c.move_heads.auto.queues } in
    (stopped-left c.args.geometry Off s _ ds top (row-cut state c.args.geometry s ds top writes xs c.deref_mut.result.now ys old root len row handed c.in_err-move_heads.ensures.cut)).bounds

pub returns-in_err-move_heads-clause-cause : goal.returns-in_err-move_heads-clause-cause
returns-in_err-move_heads-clause-cause g c =
    let p = err_from_is_err_and c.from_residual-in_err-move_heads.result c.from_residual-in_err-move_heads.ensures.1 in
    let xs = c.write_homes.new.ports.queues.items in
    let len = c.write_homes.new.ports.queues.len in
    let ys = c.move_heads.new.queues in
    let handed : IsHandedBack len xs c.deref_mut.result.now ys = record { len_is = c.write_homes.new.ports.queues.ok.0; same = c.deref_mut.ensures.value; long = c.move_heads.auto.queues } in
    row-off g.P.Port.faults c.args.geometry _ xs c.deref_mut.result.now ys c.write_homes.new.ports.root c.raise_base.new.root len c.from_residual-in_err-move_heads.result handed
    c.in_ok-write_homes.ensures.cause c.in_ok-raise_base.ensures.cause c.in_err-move_heads.ensures.cause (rw p.2 at p.1)

pub returns-clause-ok : goal.returns-clause-ok
returns-clause-ok g c ds are =
    let state = g.P.Port.state in
    let top = c.args.base in
    let writes = c.in_ok-writes.writes.items in
    let s : DriveState = states state c.args.ports.now.queues.items c.args.ports.now.root in
    let planned : IsPlanned c.args.geometry s ds top writes = record { writes_are = c.in_ok-writes.ensures ds are; low = c.requires.low; heads = c.requires.heads } in
    let xs = c.write_homes.new.ports.queues.items in
    let len = c.write_homes.new.ports.queues.len in
    let ys = c.move_heads.new.queues in
    let old = c.write_homes.new.ports.root in
    let root = c.raise_base.new.root in
    let row : IsRaisedRow state c.args.geometry s ds top writes xs old root = record { still = c.requires.still; planned = planned; home = c.in_ok-write_homes.ensures.ok; raised = c.in_ok-raise_base.ensures.ok } in
    let handed : IsHandedBack len xs c.deref_mut.result.now ys = record { len_is = c.write_homes.new.ports.queues.ok.0; same = c.deref_mut.ensures.value; long = c.move_heads.auto.queues } in
    row-done state c.args.geometry s ds top writes xs c.deref_mut.result.now ys old root len row handed c.in_ok-move_heads.ensures.ok

pub returns-clause-bounds : goal.returns-clause-bounds
returns-clause-bounds g c =
    let state = g.P.Port.state in
    let ds = c.requires.copies.0 in
    let top = c.args.base in
    let writes = c.in_ok-writes.writes.items in
    let s : DriveState = states state c.args.ports.now.queues.items c.args.ports.now.root in
    let planned : IsPlanned c.args.geometry s ds top writes = record { writes_are = c.in_ok-writes.ensures ds c.requires.copies.1; low = c.requires.low; heads = c.requires.heads } in
    let xs = c.write_homes.new.ports.queues.items in
    let len = c.write_homes.new.ports.queues.len in
    let ys = c.move_heads.new.queues in
    let old = c.write_homes.new.ports.root in
    let root = c.raise_base.new.root in
    let row : IsRaisedRow state c.args.geometry s ds top writes xs old root = record { still = c.requires.still; planned = planned; home = c.in_ok-write_homes.ensures.ok; raised = c.in_ok-raise_base.ensures.ok } in
    let handed : IsHandedBack len xs c.deref_mut.result.now ys = record { len_is = c.write_homes.new.ports.queues.ok.0; same = c.deref_mut.ensures.value; long = c.move_heads.auto.queues } in
    (written-left c.args.geometry s _ ds top (row-done state c.args.geometry s ds top writes xs c.deref_mut.result.now ys old root len row handed c.in_ok-move_heads.ensures.ok)).bounds
