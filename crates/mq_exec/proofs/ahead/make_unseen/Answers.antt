use Rattle.std.proofs.Common.{◌≡◌, ℕ, Bool, List, sym, subst, ◌∙◌}
use Rattle.std.specs.List.{Contains}
use Rattle.mq_exec.specs.Plans.{make_request, wanted}
use Rattle.mq_exec.proofs.AheadLacking.{adds-listed}
use Rattle.mq_exec.proofs.PlansUnseen.{adds-none, adds-weaker, goes-bad, goes-refused, makes-on, making-looks, noted-ready}
use Rattle.mq_inodes.specs.Bare.{empty_body}
use Rattle.mq_inodes.specs.MissingPages.{OfEach}
use Rattle.mq_inodes.specs.Pages.{pages_of}
use Rattle.mq_inodes.specs.Unseen.{AreNoted}
use Rattle.mq_tree.specs.Looks.{Looks, LooksAt}
use Rattle.mq_exec.proofs.ahead.make_unseen.Goals as goal

pub returns-then-not-is_good_path-clause-adds : goal.returns-then-not-is_good_path-clause-adds
returns-then-not-is_good_path-clause-adds c =
    let w = c.args.working.now in
    adds-none (pages_of w) (λ b. OfEach w (λ v. Looks w.geometry c.args.queue v (make_request c.args.is_directory c.args.path.now) b)) c.args.lacked.now.items

pub returns-then-not-is_good_path-clause-goes : goal.returns-then-not-is_good_path-clause-goes
returns-then-not-is_good_path-clause-goes c goes = goes-bad c.args.queue c.args.is_directory c.args.path.now c.args.working.now (sym c.if-not-is_good_path.ensures)

pub returns-in-Ok-Err-clause-adds : goal.returns-in-Ok-Err-clause-adds
returns-in-Ok-Err-clause-adds c =
    let w = c.args.working.now in
    adds-none (pages_of w) (λ b. OfEach w (λ v. Looks w.geometry c.args.queue v (make_request c.args.is_directory c.args.path.now) b)) c.args.lacked.now.items

pub returns-in-Ok-Err-clause-goes : goal.returns-in-Ok-Err-clause-goes
returns-in-Ok-Err-clause-goes c goes =
    goes-refused c.args.queue c.args.is_directory c.args.path.now c.in-Ok-Err.field-0-0 c.args.working.now (sym c.if-not-is_good_path.ensures) (λ v agrees. (rw c.in-Ok-Err.field-0-is at c.in-Ok-Err.ensures.ok) v agrees c.args.is_directory)

pub returns-in-Err-clause-adds : goal.returns-in-Err-clause-adds
returns-in-Err-clause-adds c =
    let w = c.args.working.now in
    let good = sym c.if-not-is_good_path.ensures in
    adds-weaker (pages_of w) (λ b. OfEach w (λ v. (t : Bool) → LooksAt w.geometry c.args.queue v (make_request t c.args.path.now) b)) (λ b. OfEach w (λ v. Looks w.geometry c.args.queue v (make_request c.args.is_directory c.args.path.now) b)) c.args.lacked.now.items c.list.new.lacked.items
    (λ b h. making-looks w c.args.queue c.args.is_directory c.args.path.now b good h)
    (adds-listed (pages_of w) (λ b. OfEach w (λ v. (t : Bool) → LooksAt w.geometry c.args.queue v (make_request t c.args.path.now) b)) c.in-Err.lack c.args.lacked.now.items c.list.new.lacked.items c.in-Err.ensures.lack c.in_ok-list-in-Err.ensures)

pub wanted-requires : goal.wanted-requires
wanted-requires c =
    let p = c.requires.possible in
    let plan = (rw c.in-Ok-Ok.field-0-is at c.in-Ok-Ok.ensures.ok) p.0 p.1 c.args.is_directory in
    plan.low

pub carry_make-requires-clause-possible : goal.carry_make-requires-clause-possible
carry_make-requires-clause-possible c =
    let p = c.requires.possible in
    let w = c.args.working.now in
    let mid = c.note_free.new.self in
    let plan = (rw c.in-Ok-Ok.field-0-is at c.in-Ok-Ok.ensures.ok) p.0 p.1 c.args.is_directory in
    let holds = rw c.in-Ok-Ok.field-0-is at c.in-Ok-Ok.ensures.pages in
    let noted = subst (λ (bs : List ℕ). AreNoted (pages_of w) (pages_of mid) bs) c.deref-2.ensures.value c.in_ok-note_free.ensures.noted in
    let r = noted-ready w.geometry mid.geometry c.args.queue (pages_of w) (pages_of mid) p.0 (empty_body c.args.is_directory) c.args.path.now c.in-Ok-Ok.creation c.in_ok-note_free.ensures.view.geometry p.1 plan holds noted in
    (c.args.queue, p.0, r.0, r.1)

pub carry_make-requires-clause-pages : goal.carry_make-requires-clause-pages
carry_make-requires-clause-pages c =
    let p = c.requires.possible in
    let w = c.args.working.now in
    let mid = c.note_free.new.self in
    let plan = (rw c.in-Ok-Ok.field-0-is at c.in-Ok-Ok.ensures.ok) p.0 p.1 c.args.is_directory in
    let holds = rw c.in-Ok-Ok.field-0-is at c.in-Ok-Ok.ensures.pages in
    let noted = subst (λ (bs : List ℕ). AreNoted (pages_of w) (pages_of mid) bs) c.deref-2.ensures.value c.in_ok-note_free.ensures.noted in
    let r = noted-ready w.geometry mid.geometry c.args.queue (pages_of w) (pages_of mid) p.0 (empty_body c.args.is_directory) c.args.path.now c.in-Ok-Ok.creation c.in_ok-note_free.ensures.view.geometry p.1 plan holds noted in
    r.2

pub carry_make-requires-clause-free : goal.carry_make-requires-clause-free
carry_make-requires-clause-free c =
    let w = c.args.working.now in
    let mid = c.note_free.new.self in
    let noted = subst (λ (bs : List ℕ). AreNoted (pages_of w) (pages_of mid) bs) c.deref-2.ensures.value c.in_ok-note_free.ensures.noted in
    noted.free

pub returns-clause-adds : goal.returns-clause-adds
returns-clause-adds c =
    let w = c.args.working.now in
    let good = sym c.if-not-is_good_path.ensures in
    let wants = rw c.in-Ok-Ok.field-0-is at c.in-Ok-Ok.ensures.wanted in
    let all : c.deref.result.now ≡ wanted w.geometry c.in-Ok-Ok.creation = c.deref.ensures.value ∙ c.in_ok-wanted.ensures in
    adds-weaker (pages_of w) (Contains c.deref.result.now) (λ b. OfEach w (λ v. Looks w.geometry c.args.queue v (make_request c.args.is_directory c.args.path.now) b)) c.args.lacked.now.items c.list_absent.new.lacked.items
    (λ b h. making-looks w c.args.queue c.args.is_directory c.args.path.now b good (λ v agrees. wants v agrees b (subst (λ (bs : List ℕ). Contains bs b) all h))) c.in_ok-list_absent.ensures

pub returns-clause-goes : goal.returns-clause-goes
returns-clause-goes c goes =
    let w = c.args.working.now in
    let mid = c.note_free.new.self in
    let holds = rw c.in-Ok-Ok.field-0-is at c.in-Ok-Ok.ensures.pages in
    let noted = subst (λ (bs : List ℕ). AreNoted (pages_of w) (pages_of mid) bs) c.deref-2.ensures.value c.in_ok-note_free.ensures.noted in
    makes-on c.args.queue c.args.is_directory c.args.path.now c.in-Ok-Ok.creation w mid c.carry_make.new.working c.requires.queue (sym c.if-not-is_good_path.ensures) c.in_ok-note_free.ensures.view.geometry noted c.in_ok-carry_make.ensures.over holds
    (λ v agrees. (rw c.in-Ok-Ok.field-0-is at c.in-Ok-Ok.ensures.ok) v agrees c.args.is_directory) c.in_ok-carry_make.ensures.carried
