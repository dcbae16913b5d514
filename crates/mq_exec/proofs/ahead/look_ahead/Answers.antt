use Rattle.std.proofs.lemmas.List.Elements.{All-contains_itself}
use Rattle.mq_exec.proofs.AheadLacking.{ahead-more, ahead-none, ahead-possible, ahead-stops}
use Rattle.mq_inodes.specs.Pages.{held_pages}
use Rattle.mq_exec.proofs.ahead.look_ahead.Goals as goal

pub loop-request-init : goal.loop-request-init
loop-request-init c = ahead-none c.args.geometry c.args.queue (held_pages c.args.view.now.held.now.cells) c.new-working.result c.args.requests.now c.new-lacked.result.items c.new-working.ensures.geometry c.new-working.ensures.pages c.new-lacked.ensures.items

pub go_on-requires-clause-possible : goal.go_on-requires-clause-possible
go_on-requires-clause-possible c = ahead-possible c.args.geometry c.args.queue (held_pages c.args.view.now.held.now.cells) c.loop-request.working c.args.requests.now _ c.loop-request.lacked.items c.requires.possible c.loop-request.invariant

pub loop-request-preserved : goal.loop-request-preserved
loop-request-preserved c =
    ahead-more c.args.geometry c.args.queue (held_pages c.args.view.now.held.now.cells) c.loop-request.working c.go_on.new.working c.args.requests.now c.loop-request.request-index c.request-item.result c.loop-request.lacked.items c.go_on.new.lacked.items
    c.requires.queue c.in_ok-go_on.ensures.bytes c.requires.possible c.loop-request-test.true c.request-item.is c.in_ok-go_on.ensures.adds (c.in_ok-go_on.ensures.goes c.if-not-branch.false) c.loop-request.invariant

pub returns-then-not-branch : goal.returns-then-not-branch
returns-then-not-branch c i d l =
    ahead-stops c.args.geometry c.args.queue (held_pages c.args.view.now.held.now.cells) c.loop-request.working c.args.requests.now c.loop-request.request-index c.request-item.result c.loop-request.lacked.items c.go_on.new.lacked.items
    c.requires.queue c.in_ok-go_on.ensures.bytes c.requires.possible c.loop-request-test.true c.request-item.is c.in_ok-go_on.ensures.adds c.loop-request.invariant _ (All-contains_itself c.go_on.new.lacked.items i d l)

pub returns : goal.returns
returns c i d l = c.loop-request.invariant.listed _ (All-contains_itself c.loop-request.lacked.items i d l)
