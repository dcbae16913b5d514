use Rattle.std.proofs.Common.{◌≡◌, ◌∙◌, arith, ap, length, refl, sym}
use Rattle.std.specs.Prelude.{Err, Ok}
use Rattle.mq_tree.specs.declared.corrupt.MountRefusal.TheVariants.{Corrupt}
use Rattle.mq_tree.proofs.ContentsTwins.{content-once, content-refused, content-seen, read-alike, read-more, read-once, read-refused, read-twin}
use Rattle.mq_tree.proofs.DecodedMounting.{inode-form, inode-seen, length-inodes}
use Rattle.mq_tree.proofs.DecodedNaming.{dir-seen}
use Rattle.mq_tree.proofs.contents.read_contents.Goals as goal
use Rattle.mq_tree.proofs.contents.read_contents.Goals.{in-Err-Corrupt, in-Ok+in_ok-keep-in-Ok}

pub read_content-requires-clause-form : goal.read_content-requires-clause-form
read_content-requires-clause-form c = inode-form c.args.geometry c.args.blocks.now c.args.inodes.now c.loop-i.i _ c.requires.inodes c.loop-i-test.true c.requires.table

pub read_content-requires-clause-dir : goal.read_content-requires-clause-dir
read_content-requires-clause-dir c = dir-seen c.args.geometry c.args.blocks.now c.args.inodes.now c.loop-i.i _ c.requires.inodes c.loop-i-test.true c.requires.dirs

pub loop-i-preserved : goal.loop-i-preserved
loop-i-preserved c = elim c.match-read_content.branch [
  | in-Ok+in_ok-keep-in-Ok w ↦
      let e : c.read_content.result ≡ Ok w.in-Ok.content = sym c.read_content-in-loop-i.view_is ∙ rw w.in-Ok.is refl in
      read-more c.args.geometry c.args.blocks.now c.loop-i.i c.args.keeps c.loop-i.twin _ c.loop-i.found.items _ _ w.in-Ok.content c.loop-i.invariant (inode-seen _ _ c.args.inodes.now c.loop-i.i _ c.requires.inodes c.loop-i-test.true)
      (content-seen c.args.blocks.now _ c.args.keeps c.read_content.result w.in-Ok.content e c.read_content.ensures.ok) (content-once c.args.blocks.now _ c.read_content.result w.in-Ok.content e c.read_content.ensures.once)
      (λ kept_all. ap (λ v. v.items) w.found-is ∙ w.in_ok-keep-in-Ok.ensures kept_all) w.twin-is
  | in-Err-Corrupt w ↦
      let x = w.in-Err-Corrupt in
      let e : c.read_content.result ≡ Err (Corrupt x.field-0-0 x.field-0-1.0) = sym c.read_content-in-loop-i.view_is ∙ rw x.is (rw x.field-0-is refl) in
      read-twin c.args.geometry c.args.blocks.now c.loop-i.i c.args.keeps c.loop-i.twin _ c.loop-i.found.items _ _ x.field-0-0 x.field-0-1.0 c.loop-i.invariant (inode-seen _ _ c.args.inodes.now c.loop-i.i _ c.requires.inodes c.loop-i-test.true)
      (content-refused c.args.blocks.now _ c.read_content.result (Corrupt x.field-0-0 x.field-0-1.0) e c.read_content.ensures.cause) (w.twin-is ∙ w.lesser-twin.ensures)
]

pub returns-in-Some-clause-cause : goal.returns-in-Some-clause-cause
returns-in-Some-clause-cause c =
    read-refused c.args.geometry c.args.blocks.now c.loop-i.i c.args.keeps c.loop-i.twin c.loop-i.found.items c.in-Some.b c.corrupt.result c.requires.table c.requires.pointers
    (let t = c.loop-i-test.false in let u = c.loop-i.auto.i-end in let e = ap length c.requires.inodes in let n = length-inodes c.args.geometry c.args.blocks.now in omega arith)
    c.loop-i.invariant c.in-Some.is c.corrupt.ensures

pub returns-in-None-clause-ok : goal.returns-in-None-clause-ok
returns-in-None-clause-ok c =
    read-alike c.args.geometry c.args.blocks.now c.loop-i.i c.args.keeps c.loop-i.twin c.loop-i.found.items
    (let t = c.loop-i-test.false in let u = c.loop-i.auto.i-end in let e = ap length c.requires.inodes in let n = length-inodes c.args.geometry c.args.blocks.now in omega arith)
    c.loop-i.invariant c.in-None.is

pub returns-in-None-clause-once : goal.returns-in-None-clause-once
returns-in-None-clause-once c =
    read-once c.args.geometry c.args.blocks.now c.loop-i.i c.args.keeps c.loop-i.twin c.loop-i.found.items c.requires.table
    (let t = c.loop-i-test.false in let u = c.loop-i.auto.i-end in let e = ap length c.requires.inodes in let n = length-inodes c.args.geometry c.args.blocks.now in omega arith)
    c.loop-i.invariant c.in-None.is
