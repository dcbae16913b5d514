use Rattle.std.proofs.lemmas.Result.{IfOk-weaker}
use Rattle.mq_exec.specs.Outcomes.{Answers, NeedsOf}
use Rattle.mq_inodes.specs.Pages.{changed_of, held_pages, view_of}
use Rattle.std.proofs.Common.{◌≡◌, ℕ, sym, ◌∙◌}
use Rattle.std.specs.Prelude.{None}
use Rattle.mq_exec.proofs.MovesLeading.{run-moves}
use Rattle.mq_exec.proofs.Outcomes.{run-more, run-none, run-possible, run-replies}
use Rattle.mq_exec.proofs.AheadLooking.{run-stops}
use Rattle.mq_exec.proofs.MovesResting.{differs-freed, differs-rest, differs-written, over-known, run-leads}
use Rattle.mq_tree.specs.Requests.{after_group}
use Rattle.mq_exec.proofs.group.run.Goals as goal

pub loop-request-init : goal.loop-request-init
loop-request-init c = run-none c.args.geometry c.args.queue (held_pages c.args.view.now.held.now.cells) c.new-working.result c.args.requests.now c.in_ok-replies.replies.items c.new-working.ensures.pages c.in_ok-replies.ensures.items

pub step-requires-clause-possible : goal.step-requires-clause-possible
step-requires-clause-possible c =
    run-possible c.args.geometry c.args.queue (held_pages c.args.view.now.held.now.cells) c.new-working.result c.loop-request.working c.args.requests.now _ c.loop-request.replies.items c.new-working.ensures.geometry c.requires.possible c.loop-request.invariant

pub returns-in-Err : goal.returns-in-Err
returns-in-Err c =
    let g = c.args.geometry in
    let q = c.args.queue in
    let held = held_pages c.args.view.now.held.now.cells in
    let ahead = c.in_ok-ahead-in-Err.ahead.items in
    IfOk-weaker c.stopped.result (NeedsOf c.in-Err.lack ahead) (λ outcome. Answers g q held c.args.requests.now outcome)
    (λ outcome is. run-stops g q held c.new-working.result c.loop-request.working c.args.requests.now c.loop-request.request-index c.request-item.result c.loop-request.replies.items c.in-Err.lack ahead outcome c.new-working.ensures.geometry c.requires.queue c.in-Err.ensures.bytes
    c.loop-request-test.true c.request-item.is c.new-working.ensures.pages c.requires.possible c.loop-request.invariant c.in-Err.ensures.lack c.in_ok-ahead-in-Err.ensures is) c.stopped.ensures

pub loop-request-preserved : goal.loop-request-preserved
loop-request-preserved c =
    run-more c.args.geometry c.args.queue (held_pages c.args.view.now.held.now.cells) c.new-working.result c.loop-request.working c.step.new.working c.args.requests.now c.loop-request.request-index c.request-item.result c.in-Ok.reply c.loop-request.replies.items c.push.new.self.items
    c.new-working.ensures.geometry c.requires.queue c.in-Ok.ensures.bytes c.loop-request-test.true c.request-item.is c.in_ok-push-in-Ok.ensures.items c.in-Ok.ensures.over c.in-Ok.ensures.ok c.loop-request.invariant

pub returns : goal.returns
returns c =
    let held = held_pages c.args.view.now.held.now.cells in
    let now = c.loop-request.working in
    let same : (b : ℕ) → view_of now b ≡ held b = λ b. c.loop-request.invariant.over.view.pages b ∙ c.new-working.ensures.view b in
    let known : (b : ℕ) → view_of now b ≡ None → changed_of now b ≡ None = λ b none. over-known c.new-working.result now b (c.new-working.ensures.pages b ∙ sym (same b)) c.loop-request.invariant.over.absent none in (
      record {
        written = λ x w none. differs-written (view_of now) (changed_of now) c.in_ok-writes.writes.items c.in_ok-writes.frees.items known c.in_ok-writes.ensures.differs x w (same x.block ∙ none);
        freed = λ b f none. differs-freed (view_of now) (changed_of now) c.in_ok-writes.writes.items c.in_ok-writes.frees.items c.in_ok-writes.ensures.differs b f (same b ∙ none);
      },
      λ v agrees.
          let leads = run-leads c.args.geometry c.args.queue held c.new-working.result now c.args.requests.now c.loop-request.request-index c.loop-request.replies.items c.new-working.ensures.geometry c.new-working.ensures.pages c.new-working.ensures.view c.loop-request-test.false c.loop-request.invariant v agrees in
          record {
            replies = run-replies c.args.geometry c.args.queue v c.new-working.result now c.args.requests.now c.loop-request.request-index c.loop-request.replies.items c.loop-request-test.false (c.loop-request.invariant.runs v agrees);
            moves = run-moves c.args.geometry c.args.queue held c.new-working.result now c.args.requests.now c.loop-request.request-index c.loop-request.replies.items c.in_ok-writes.writes.items c.in_ok-writes.frees.items c.new-working.ensures.geometry c.new-working.ensures.pages c.new-working.ensures.view c.new-working.ensures.kinds
                c.loop-request-test.false c.loop-request.invariant c.in_ok-writes.ensures.differs c.in_ok-writes.ensures.kinds v agrees;
            rest = differs-rest c.args.geometry (view_of now) (changed_of now) v (after_group c.args.geometry c.args.queue v c.args.requests.now) c.in_ok-writes.writes.items c.in_ok-writes.frees.items leads c.in_ok-writes.ensures.differs;
            sound = leads.after.sound;
          },
    )
