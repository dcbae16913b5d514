use Rattle.std.proofs.Common.{ap, sym, ◌∙◌}
use Rattle.mq_tie.proofs.Runs.{all-found, count-fits, count-low, in-order, is-run, order-stored, order-within}
use Rattle.mq_tie.proofs.closing.close.Goals as goal

pub count_stored-count-requires : goal.count_stored-count-requires
count_stored-count-requires g c =
    let e = c.requires.ended in
    let p = c.args.parts in
    record { few = count-fits g.P.Port.state g.P.Port.faults g.G.Groups.group e.opening e.views p.pages.items p.sides.items p.root p.next p.base e.end c.deref.result.now _ 18446744073709551616 (c.deref.ensures.value ∙ ap (λ w. w.sides.items) c.parts.view_is) (ap (λ w. w.next) c.parts.view_is) c.parts.invariant }

pub overflow_sub-base : goal.overflow_sub-base
overflow_sub-base g c =
    let e = c.requires.ended in
    let p = c.args.parts in
    count-low g.P.Port.state g.P.Port.faults g.G.Groups.group e.opening e.views p.pages.items p.sides.items p.root p.next p.base e.end c.deref.result.now _ c.count_stored-count.result (c.deref.ensures.value ∙ ap (λ w. w.sides.items) c.parts.view_is) (ap (λ w. w.next) c.parts.view_is) c.count_stored-count.ensures

pub order_of-requires-clause-within : goal.order_of-requires-clause-within
order_of-requires-clause-within g c =
    let e = c.requires.ended in
    let p = c.args.parts in
    order-within g.P.Port.state g.P.Port.faults g.G.Groups.group e.opening e.views p.pages.items p.sides.items p.root p.next p.base e.end c.deref-2.result.now c.deref.result.now _ c.count_stored-count.result (c.deref-2.ensures.value ∙ ap (λ w. w.sides.items) c.parts.view_is) (c.deref.ensures.value ∙ ap (λ w. w.sides.items) c.parts.view_is) (ap (λ w. w.next) c.parts.view_is) c.count_stored-count.ensures

pub order_of-requires-clause-all : goal.order_of-requires-clause-all
order_of-requires-clause-all g c =
    let e = c.requires.ended in
    let p = c.args.parts in
    order-stored g.P.Port.state g.P.Port.faults g.G.Groups.group e.opening e.views p.pages.items p.sides.items p.root p.next p.base e.end c.deref-2.result.now c.deref.result.now _ c.count_stored-count.result (c.deref-2.ensures.value ∙ ap (λ w. w.sides.items) c.parts.view_is) (c.deref.ensures.value ∙ ap (λ w. w.sides.items) c.parts.view_is) (ap (λ w. w.next) c.parts.view_is) c.count_stored-count.ensures

pub invariant_of-result-clause-found : goal.invariant_of-result-clause-found
invariant_of-result-clause-found g c =
    let e = c.requires.ended in
    let p = c.args.parts in
    all-found g.P.Port.state g.P.Port.faults g.G.Groups.group e.opening e.views p.pages.items p.sides.items p.root p.next p.base e.end c.deref-2.result.now c.deref.result.now _ c.count_stored-count.result (c.deref-2.ensures.value ∙ ap (λ w. w.sides.items) c.parts.view_is) (c.deref.ensures.value ∙ ap (λ w. w.sides.items) c.parts.view_is) (ap (λ w. w.next) c.parts.view_is) c.count_stored-count.ensures _ c.in-Ok.order.items (ap (λ w. w.sides.items) c.parts.view_is) (sym c.in-Ok.order.ok.0 ∙ c.in-Ok.ensures.count) c.in-Ok.ensures.noted

pub returns-clause-values : goal.returns-clause-values
returns-clause-values g c = (ap (λ w. w.pages) c.parts.view_is, ap (λ w. w.root) c.parts.view_is, ap (λ w. w.next) c.parts.view_is, ap (λ w. w.base) c.parts.view_is)

pub returns-clause-run : goal.returns-clause-run
returns-clause-run g c = λ o views end.
    let p = c.args.parts in
    is-run g.P.Port.state g.P.Port.faults g.G.Groups.group o views p.pages.items p.sides.items p.root p.next p.base end _ (ap (λ w. w.pages.items) c.parts.view_is) (ap (λ w. w.sides.items) c.parts.view_is) (ap (λ w. w.root) c.parts.view_is) (ap (λ w. w.next) c.parts.view_is)
    (in-order g.P.Port.state g.P.Port.faults g.G.Groups.group o views p.pages.items p.sides.items p.root p.next p.base end c.deref-2.result.now c.deref.result.now _ c.count_stored-count.result (c.deref-2.ensures.value ∙ ap (λ w. w.sides.items) c.parts.view_is) (c.deref.ensures.value ∙ ap (λ w. w.sides.items) c.parts.view_is) (ap (λ w. w.next) c.parts.view_is) c.count_stored-count.ensures _ c.in-Ok.order.items (ap (λ w. w.sides.items) c.parts.view_is) (sym c.in-Ok.order.ok.0 ∙ c.in-Ok.ensures.count) c.in-Ok.ensures.noted)
