use Rattle.std.proofs.Common.{◌∙◌, arith, refl, length, ◌≤◌, take, drop, ◌-◌, ◌+◌, ◌/◌}
use Rattle.std.specs.List.{Contains}
use Rattle.std.proofs.lemmas.Result.{err_from_is_err_and}
use Rattle.mq_inodes.specs.Fits.{Agrees}
use Rattle.mq_inodes.specs.Pages.{pages_of}
use Rattle.mq_inodes.specs.Files.{LooksInFile}
use Rattle.mq_inodes.proofs.Files.{file-end, run-read, run-there, touched-byte, touched-length, touched-run}
use Rattle.mq_inodes.proofs.MissingPages.{lacks-weaker}
use Rattle.mq_inodes.proofs.Sound.{sound-low}
use Rattle.mq_tree.specs.Volume.{Volume, node}
use Rattle.mq_inodes.proofs.working.Working.bytes.Goals as goal

pub look_for-requires : goal.look_for-requires
look_for-requires c =
    let g = c.args.self.now.geometry in
    let pages = pages_of c.args.self.now in
    let v = c.requires.possible.0 in
    let agrees = c.requires.possible.1 in
    let f = c.requires.file v agrees in
    let low = sound-low g v c.args.i f.bytes agrees.sound f.is in
    let e = file-end (node v c.args.i) c.args.inode.now f.bytes c.saturating_add.result c.min-end.result c.args.at c.args.count f.says f.is low c.saturating_add.ensures c.min-end.ensures in
    run-there g pages v c.args.i f.bytes _ _ (touched-run g pages v c.args.i f.bytes c.deref.result.now _ c.args.at c.min-end.result agrees f.is (c.deref.ensures.value ∙ c.in_ok-blocks.ensures.ok v agrees) c.if-at-end.false (omega arith) refl)

pub returns-in_err-look_for-clause-lack : goal.returns-in_err-look_for-clause-lack
returns-in_err-look_for-clause-lack c =
    let g = c.args.self.now.geometry in
    let pages = pages_of c.args.self.now in
    let touched = take ((c.min-end.result - 1) / 4096 + 1 - c.args.at / 4096) (drop (c.args.at / 4096) c.deref.result.now) in
    let p = err_from_is_err_and c.from_residual-in_err-look_for.result c.from_residual-in_err-look_for.ensures.1 in
    rw (p.1, p.2) (lacks-weaker pages (Contains touched) (λ b. (v : Volume) → Agrees g pages v → LooksInFile v c.args.i c.args.at c.args.count b) c.in_err-look_for.field-0.0
    (λ b among v agrees.
    let f = c.requires.file v agrees in
    let low = sound-low g v c.args.i f.bytes agrees.sound f.is in
    let e = file-end (node v c.args.i) c.args.inode.now f.bytes c.saturating_add.result c.min-end.result c.args.at c.args.count f.says f.is low c.saturating_add.ensures c.min-end.ensures in
    touched-byte g pages v c.args.i f.bytes c.deref.result.now touched c.args.at c.args.count c.min-end.result b agrees f.is (c.deref.ensures.value ∙ c.in_ok-blocks.ensures.ok v agrees) c.if-at-end.false e refl among) c.in_err-look_for.ensures.lack)

pub returns-clause-ok : goal.returns-clause-ok
returns-clause-ok c v agrees bytes is =
    let g = c.args.self.now.geometry in
    let pages = pages_of c.args.self.now in
    let f = c.requires.file v agrees in
    let low = sound-low g v c.args.i bytes agrees.sound is in
    let e = file-end (node v c.args.i) c.args.inode.now bytes c.saturating_add.result c.min-end.result c.args.at c.args.count f.says is low c.saturating_add.ensures c.min-end.ensures in
    let same = c.deref.ensures.value ∙ c.in_ok-blocks.ensures.ok v agrees in
    let inside : c.min-end.result ≤ length bytes = omega arith in
    c.in_ok-gather.ensures ∙ run-read g pages v c.args.i bytes _ c.args.at c.args.count c.min-end.result (touched-run g pages v c.args.i bytes c.deref.result.now _ c.args.at c.min-end.result agrees is same c.if-at-end.false inside refl) c.in_ok-look_for.ensures.ok e c.if-at-end.false
    (touched-length g pages v c.args.i bytes c.deref.result.now _ c.args.at c.min-end.result agrees is same c.if-at-end.false inside refl)
