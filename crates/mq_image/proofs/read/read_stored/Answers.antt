use Rattle.std.proofs.Common.{get_or, ◌<◌, ◌∙◌, ℕ, sym, ap, arith}
use Rattle.std.proofs.lemmas.Result.{err_from_is_err_and}
use Rattle.mq_image.specs.Faults.{extra_fault}
use Rattle.mq_image.proofs.ReadsAreas.{word-below}
use Rattle.mq_image.proofs.ReadsAssemblies.{file-read}
use Rattle.mq_image.proofs.PlacesNexts.{refuses-along}
use Rattle.mq_image.proofs.Faults.{length-first, block-first, extra-first, end-refuses, block-is, block-none, body-none, end-is}
use Rattle.mq_image.proofs.read.read_stored.Goals as goal

pub read_ports-requires-clause-base : goal.read_ports-requires-clause-base
read_ports-requires-clause-base c =
    let small : (k : ℕ) → get_or c.args.file.now k 0 < 256 = λ k. let f : get_or c.args.file.now k 0 < 256 = omega (arith, c.type_inv.file k) in f in
    word-below c.args.header.now.base 32 c.args.file.now small c.requires.head.base_is

pub returns-in_err-count-clause-finds : goal.returns-in_err-count-clause-finds
returns-in_err-count-clause-finds c =
    let p = err_from_is_err_and c.from_residual.result c.from_residual.ensures.1 in
    rw (p.1, p.2) (length-first c.args.file.now _ _ c.in_err-count.ensures.finds)

pub returns-in_err-ports-clause-finds : goal.returns-in_err-ports-clause-finds
returns-in_err-ports-clause-finds c =
    let p = err_from_is_err_and c.from_residual-in_err-ports.result c.from_residual-in_err-ports.ensures.1 in
    let n = c.in_ok-count.ensures in
    rw (p.1, p.2) (block-first c.args.file.now _ _ n.finds (refuses-along _ _ _ (block-is c.args.file.now _ _ _ c.requires.head n.is c.first_place-place.ensures) c.in_err-ports.ensures))

pub returns-in_err-end-clause-finds : goal.returns-in_err-end-clause-finds
returns-in_err-end-clause-finds c =
    let p = err_from_is_err_and c.from_residual-in_err-end.result c.from_residual-in_err-end.ensures.1 in
    let n = c.in_ok-count.ensures in
    rw (p.1, p.2) (end-refuses c.args.file.now _ _ _ _ _ c.requires.head n.finds n.is c.first_place-place.ensures c.in_ok-ports.ensures.past c.in_err-end.ensures.0 c.in_err-end.ensures.1)

pub returns-in_err-check_extra-clause-finds : goal.returns-in_err-check_extra-clause-finds
returns-in_err-check_extra-clause-finds c =
    let p = err_from_is_err_and c.from_residual-in_err-check_extra.result c.from_residual-in_err-check_extra.ensures.1 in
    let n = c.in_ok-count.ensures in
    let none = block-none c.args.file.now _ _ _ _ _ c.requires.head n.is c.first_place-place.ensures c.in_ok-ports.ensures.past c.in_ok-end.ensures.0 in
    let end = end-is c.args.file.now _ _ _ _ c.in_ok-end.field-0 _ c.requires.head n.is c.first_place-place.ensures c.in_ok-ports.ensures.past c.in_ok-end.ensures.0 c.in_ok-end.ensures.1 in
    rw (p.1, p.2) (extra-first c.args.file.now _ _ n.finds none (ap (λ (k : ℕ). extra_fault k c.args.file.now) (sym end) ∙ c.in_err-check_extra.ensures))

pub returns-clause-finds : goal.returns-clause-finds
returns-clause-finds c =
    let n = c.in_ok-count.ensures in
    let none = block-none c.args.file.now _ _ _ _ _ c.requires.head n.is c.first_place-place.ensures c.in_ok-ports.ensures.past c.in_ok-end.ensures.0 in
    let end = end-is c.args.file.now _ _ _ _ c.in_ok-end.field-0 _ c.requires.head n.is c.first_place-place.ensures c.in_ok-ports.ensures.past c.in_ok-end.ensures.0 c.in_ok-end.ensures.1 in
    body-none c.args.file.now _ n.finds none (ap (λ (k : ℕ). extra_fault k c.args.file.now) (sym end) ∙ c.in_ok-check_extra.ensures)

pub returns-clause-sound : goal.returns-clause-sound
returns-clause-sound c =
    let n = c.in_ok-count.ensures in
    let end = end-is c.args.file.now _ _ _ _ c.in_ok-end.field-0 _ c.requires.head n.is c.first_place-place.ensures c.in_ok-ports.ensures.past c.in_ok-end.ensures.0 c.in_ok-end.ensures.1 in
    file-read c.args.file.now _ _ _ _ _ (λ k. let f : get_or c.args.file.now k 0 < 256 = omega (arith, c.type_inv.file k) in f) c.requires.head n.is n.room
    (ap (λ (k : ℕ). extra_fault k c.args.file.now) (sym end) ∙ c.in_ok-check_extra.ensures) c.first_place-place.ensures c.in_ok-ports.ensures c.in_ok-end.ensures.0
