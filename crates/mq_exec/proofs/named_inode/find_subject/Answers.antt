use Rattle.std.proofs.Common.{sym, ◌≡◌, true}
use Rattle.std.specs.List.{list_all}
use Rattle.std.proofs.lemmas.Result.{err_from_is_err_and}
use Rattle.mq_exec.specs.Reads.{NamesLeadPast}
use Rattle.mq_exec.proofs.ReadsNaming.{number-low, number-named, number-past}
use Rattle.mq_inodes.specs.Fits.{Agrees}
use Rattle.mq_inodes.specs.Pages.{pages_of}
use Rattle.mq_inodes.specs.Walks.{LeadsPast}
use Rattle.mq_inodes.proofs.MissingPages.{lacks-weaker}
use Rattle.mq_layout.specs.Names.{is_name}
use Rattle.mq_layout.specs.Places.{inode_block}
use Rattle.mq_tree.specs.Volume.{Volume, way}
use Rattle.mq_exec.proofs.named_inode.find_subject.Goals as goal

pub returns-in_err-target-clause-lack : goal.returns-in_err-target-clause-lack
returns-in_err-target-clause-lack c =
    let g = c.args.working.now.geometry in
    let p = err_from_is_err_and c.from_residual.result c.from_residual.ensures.1 in
    let good : list_all is_name c.args.path.now ≡ true = sym c.if-not-is_good_path.ensures in
    rw (p.1, p.2) (lacks-weaker (pages_of c.args.working.now) (λ b. (v : Volume) → Agrees g (pages_of c.args.working.now) v → LeadsPast g v (way c.args.path.now) b) (λ b. (v : Volume) → Agrees g (pages_of c.args.working.now) v → NamesLeadPast g v c.args.path.now b) c.in_err-target.field-0.0
    (λ b h v agrees. record { names = good; past = h v agrees }) c.in_err-target.ensures.lack)

pub inode-requires-clause-low : goal.inode-requires-clause-low
inode-requires-clause-low c =
    let v = c.requires.0 in
    number-low c.args.working.now.geometry v c.args.path.now c.in_ok-target.field-0 c.in-Ok.number c.requires.1.sound (c.in_ok-target.ensures.ok v c.requires.1) c.in-Ok.ensures

pub returns-in_err-inode-in-Ok-clause-lack : goal.returns-in_err-inode-in-Ok-clause-lack
returns-in_err-inode-in-Ok-clause-lack c =
    let g = c.args.working.now.geometry in
    let p = err_from_is_err_and c.from_residual-in_err-inode-in-Ok.result c.from_residual-in_err-inode-in-Ok.ensures.1 in
    let good : list_all is_name c.args.path.now ≡ true = sym c.if-not-is_good_path.ensures in
    rw (p.1, p.2) (lacks-weaker (pages_of c.args.working.now) (λ b. b ≡ inode_block g c.in-Ok.number) (λ b. (v : Volume) → Agrees g (pages_of c.args.working.now) v → NamesLeadPast g v c.args.path.now b) c.in_err-inode-in-Ok.field-0.0
    (λ b at v agrees. number-past g v c.args.path.now c.in_ok-target.field-0 c.in-Ok.number b agrees.sound good (c.in_ok-target.ensures.ok v agrees) c.in-Ok.ensures at) c.in_err-inode-in-Ok.ensures.lack)

pub returns-in_ok-inode-in-Ok-clause-ok : goal.returns-in_ok-inode-in-Ok-clause-ok
returns-in_ok-inode-in-Ok-clause-ok c v agrees =
    number-named c.args.working.now.geometry v c.args.path.now c.in_ok-target.field-0 c.in-Ok.number c.in_ok-inode-in-Ok.field-0 agrees.sound (sym c.if-not-is_good_path.ensures) (c.in_ok-target.ensures.ok v agrees) c.in-Ok.ensures (c.in_ok-inode-in-Ok.ensures.ok v agrees)
