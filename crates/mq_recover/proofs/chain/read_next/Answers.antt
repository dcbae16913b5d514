use Rattle.std.proofs.Common.{◌≡◌, ◌≤◌, ◌+◌, ◌%◌, ℕ, List, inl, inr, refl, ◌∙◌, ap, subst, arith}
use Rattle.std.specs.Option.{unwrap_or}
use Rattle.mq_blocks.specs.Blocks.{block_at}
use Rattle.mq_blocks.specs.Descriptor.{Descriptor as Text, first_place}
use Rattle.mq_blocks.specs.Geometry.{area_of}
use Rattle.mq_area.specs.Reading.{further_of, header_of}
use Rattle.mq_area.specs.declared.descriptor.Expect.{Expect}
use Rattle.mq_recover.specs.Refusals.{NextRefused, NextApart, block_where, before_where}
use Rattle.mq_recover.proofs.chain.read_next.Goals as goal

pub returns-in-Err : goal.returns-in-Err
returns-in-Err g c =
    let s = g.P.Port.state c.args.port.now in
    let at : Expect = c.args.at.now in
    let size : c.from-area.result ≡ area_of c.args.geometry = omega (arith, c.area.ensures, c.from-area.ensures) in
    let block_is : c.read_area.new.block ≡ block_where c.args.geometry s at.place = c.read_area.ensures ∙ ap (λ n. block_at s.blocks (n % area_of c.args.geometry)) c.place_of.ensures in
    let same : further_of (header_of c.read_area.new.block) ≡ 1 → c.read_before.new.before ≡ before_where c.args.geometry s at.place = c.read_before.ensures.is in
    let cause = c.in-Err.cause in
    let refused : g.D.Descriptors.refuses c.args.geometry at (block_where c.args.geometry s at.place) (before_where c.args.geometry s at.place) cause =
    subst (λ (b : List ℕ). g.D.Descriptors.refuses c.args.geometry at b (before_where c.args.geometry s at.place) cause) block_is (c.in-Err.ensures.refused (before_where c.args.geometry s at.place) same) in
    let number_is : c.at.inside.0.1.0.0 ≡ at.number = ap (λ (x : Expect). x.number) c.at.view_is in
    record {
      ok = tt;
      refused = elim c.refused_at.ensures [
        | inl x ↦ inl x.1
        | inr x ↦ inr (rw (x.1, number_is) (NextRefused cause x.0 refused))
      ];
    }

-- a descriptor that was read lists no more than any does, and its blocks have places
pub first_place-oldest-requires-clause-few : goal.first_place-oldest-requires-clause-few
first_place-oldest-requires-clause-few g c =
    let good = c.obeys.ensures.good c.args.geometry c.args.at.now c.read_area.new.block c.read_before.new.before c.in-Ok.descriptor (c.in-Ok.ensures.sound c.read_before.new.before (λ one. refl)) in
    good.counts

pub first_place-oldest-requires-clause-fits : goal.first_place-oldest-requires-clause-fits
first_place-oldest-requires-clause-fits g c =
    let good = c.obeys.ensures.good c.args.geometry c.args.at.now c.read_area.new.block c.read_before.new.before c.in-Ok.descriptor (c.in-Ok.ensures.sound c.read_before.new.before (λ one. refl)) in
    good.fits

pub overflow_add-oldest : goal.overflow_add-oldest
overflow_add-oldest g c =
    let d : Text = c.in-Ok.descriptor in
    let good = c.obeys.ensures.good c.args.geometry c.args.at.now c.read_area.new.block c.read_before.new.before d (c.in-Ok.ensures.sound c.read_before.new.before (λ one. refl)) in
    let place = good.place in
    let first : c.first_place-oldest.result ≤ d.place = omega (arith, c.first_place-oldest.ensures) in
    let size : c.from-area.result ≡ area_of c.args.geometry = omega (arith, c.area.ensures, c.from-area.ensures) in
    omega (arith, place, first, size, c.args.geometry.area_high)

pub returns-then-oldest-area-clause-refused : goal.returns-then-oldest-area-clause-refused
returns-then-oldest-area-clause-refused g c =
    let s = g.P.Port.state c.args.port.now in
    let at : Expect = c.args.at.now in
    let d : Text = c.in-Ok.descriptor in
    let size : c.from-area.result ≡ area_of c.args.geometry = omega (arith, c.area.ensures, c.from-area.ensures) in
    let block_is : c.read_area.new.block ≡ block_where c.args.geometry s at.place = c.read_area.ensures ∙ ap (λ n. block_at s.blocks (n % area_of c.args.geometry)) c.place_of.ensures in
    let same : further_of (header_of c.read_area.new.block) ≡ 1 → c.read_before.new.before ≡ before_where c.args.geometry s at.place = c.read_before.ensures.is in
    let accepts : g.D.Descriptors.accepts c.args.geometry at (block_where c.args.geometry s at.place) (before_where c.args.geometry s at.place) d =
    subst (λ (b : List ℕ). g.D.Descriptors.accepts c.args.geometry at b (before_where c.args.geometry s at.place) d) block_is (c.in-Ok.ensures.sound (before_where c.args.geometry s at.place) same) in
    let newest_is : c.unwrap_or-newest.result ≡ unwrap_or c.args.newest d.place = c.unwrap_or-newest.ensures ∙ ap (λ (x : Text). unwrap_or c.args.newest x.place) c.next.view_is in
    let far : first_place d + area_of c.args.geometry ≤ unwrap_or c.args.newest d.place = omega (arith, c.first_place-oldest.ensures, newest_is, c.if-oldest-area.true, size) in
    inr (rw (c.first_place-oldest.ensures, newest_is) (NextApart d accepts far))

pub returns-clause-ok : goal.returns-clause-ok
returns-clause-ok g c =
    let s = g.P.Port.state c.args.port.now in
    let at : Expect = c.args.at.now in
    let d : Text = c.in-Ok.descriptor in
    let size : c.from-area.result ≡ area_of c.args.geometry = omega (arith, c.area.ensures, c.from-area.ensures) in
    let block_is : c.read_area.new.block ≡ block_where c.args.geometry s at.place = c.read_area.ensures ∙ ap (λ n. block_at s.blocks (n % area_of c.args.geometry)) c.place_of.ensures in
    let same : further_of (header_of c.read_area.new.block) ≡ 1 → c.read_before.new.before ≡ before_where c.args.geometry s at.place = c.read_before.ensures.is in
    let accepts : g.D.Descriptors.accepts c.args.geometry at (block_where c.args.geometry s at.place) (before_where c.args.geometry s at.place) d =
    subst (λ (b : List ℕ). g.D.Descriptors.accepts c.args.geometry at b (before_where c.args.geometry s at.place) d) block_is (c.in-Ok.ensures.sound (before_where c.args.geometry s at.place) same) in
    let newest_is : c.unwrap_or-newest.result ≡ unwrap_or c.args.newest d.place = c.unwrap_or-newest.ensures ∙ ap (λ (x : Text). unwrap_or c.args.newest x.place) c.next.view_is in
    (accepts, omega (arith, c.first_place-oldest.ensures, newest_is, c.if-oldest-area.false, size))
