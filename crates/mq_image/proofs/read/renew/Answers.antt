use Rattle.std.proofs.Common.{◌≡◌, ◌∙◌, ℕ, refl, sym, ap, subst, arith}
use Rattle.std.proofs.lemmas.Result.{err_from_is_err_and}
use Rattle.mq_blocks.specs.Geometry.{queues_of}
use Rattle.mq_image.specs.File.{rings_end}
use Rattle.mq_image.specs.Old.{AreMoved}
use Rattle.mq_image.specs.Reads.{AreStored}
use Rattle.mq_image.proofs.Faults.{some-refuses}
use Rattle.mq_image.proofs.OldWords.{words-new}
use Rattle.mq_image.proofs.ReadsAssemblies.{header-known}
use Rattle.mq_image.proofs.ReadsImages.{new-read, old-read, stored-old, stored-room, version-new, words-old-first}
use Rattle.mq_image.proofs.read.renew.Goals as goal

pub returns-then-header-ne-OLD_VERSION-clause-sound : goal.returns-then-header-ne-OLD_VERSION-clause-sound
returns-then-header-ne-OLD_VERSION-clause-sound c =
    let h = c.args.header.now in
    let two : h.version ≡ 2 = version-new h.version (header-known c.args.file.now h c.requires.head) c.if-header-ne-OLD_VERSION.true in
    new-read h.geometry c.args.file.now c.args.ports.items (subst (λ (v : ℕ). AreStored v h.geometry c.args.file.now c.args.ports.items) two c.requires.stored)

pub returns-then-header-ne-OLD_VERSION-clause-finds : goal.returns-then-header-ne-OLD_VERSION-clause-finds
returns-then-header-ne-OLD_VERSION-clause-finds c = words-new c.args.file.now c.args.header.now.version c.if-header-ne-OLD_VERSION.true

pub check_words-requires-clause-room : goal.check_words-requires-clause-room
check_words-requires-clause-room c =
    let h = c.args.header.now in
    let one = c.if-header-ne-OLD_VERSION.false in
    let room = stored-room h.version h.geometry c.args.file.now c.args.ports.items (omega arith) c.requires.stored in
    let same : rings_end h.version (queues_of h.geometry) ≡ rings_end 1 c.queues-queues.result = ap (λ (v : ℕ). rings_end v (queues_of h.geometry)) one ∙ ap (rings_end 1) (sym c.queues-queues.ensures) in
    omega arith

pub returns-in_err-check_words-clause-finds : goal.returns-in_err-check_words-clause-finds
returns-in_err-check_words-clause-finds c =
    let p = err_from_is_err_and c.from_residual.result c.from_residual.ensures.1 in
    rw (p.1, p.2) (some-refuses _ _ (words-old-first c.args.file.now c.args.header.now.version c.queues-queues.result c.if-header-ne-OLD_VERSION.false (c.queues-queues.ensures ∙ c.requires.head.geometry_is.queues) ∙ c.in_err-check_words.ensures))

pub move_rings-requires-clause-old : goal.move_rings-requires-clause-old
move_rings-requires-clause-old c = λ k l.
    let h = c.args.header.now in
    let w = words-old-first c.args.file.now 1 c.queues-queues.result refl (c.queues-queues.ensures ∙ c.requires.head.geometry_is.queues) ∙ c.in_ok-check_words.ensures in
    let q = c.queues-queues.ensures in
    stored-old h.version h.geometry c.args.file.now c.args.ports.items c.if-header-ne-OLD_VERSION.false c.requires.stored w k (omega arith)

pub returns-clause-finds : goal.returns-clause-finds
returns-clause-finds c =
    words-old-first c.args.file.now c.args.header.now.version c.queues-queues.result c.if-header-ne-OLD_VERSION.false (c.queues-queues.ensures ∙ c.requires.head.geometry_is.queues) ∙ c.in_ok-check_words.ensures

pub returns-clause-sound : goal.returns-clause-sound
returns-clause-sound c =
    let h = c.args.header.now in
    let w = words-old-first c.args.file.now 1 c.queues-queues.result refl (c.queues-queues.ensures ∙ c.requires.head.geometry_is.queues) ∙ c.in_ok-check_words.ensures in
    old-read h.version h.geometry c.args.file.now c.args.ports.items c.move_rings.new.ports.items c.if-header-ne-OLD_VERSION.false c.requires.stored w
    (subst (λ (n : ℕ). AreMoved n c.args.ports.items c.move_rings.new.ports.items) c.queues-queues.ensures c.in_ok-move_rings.ensures)
