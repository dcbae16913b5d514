use Rattle.std.proofs.Common.{◌≡◌, ◌≢◌, ◌<◌, ◌≤◌, ℕ, suc, ◌+◌, ◌-◌, ◌%◌, Bool, List, [], ◌∷◌, length, Some, None, reverse, refl, sym, ◌∙◌, ap, subst, arith, rules, add-zero, vec_len}
use Rattle.std.proofs.lemmas.List.{length-reverse, get_or-set_other}
use Rattle.std.proofs.lemmas.Result.{err_from_is_err_and}
use Rattle.std.specs.Prelude.{◌==◌, if◌then◌else◌}
use Rattle.mq_blocks.specs.Drive.{PortState, staged_end}
use Rattle.mq_blocks.specs.Limits.{depth, usable_depth}
use Rattle.mq_nvme.specs.Entry.{entry_of}
use Rattle.mq_pmr.specs.Runs.{Items, after_some, is_last, entry_at, OwnsAll}
use Rattle.mq_pmr.specs.Queue.{Kept}
use Rattle.mq_pmr.proofs.Ring.{none_staged, none_of}
use Rattle.mq_pmr.proofs.Runs.{Next, next, none_more, not_last, is_last_by_length, stays-refl, stays_staged, other_slot}
use Rattle.mq_pmr.proofs.queue.PmrQueue.stage_reversed.Goals as goal

pub staging-init : goal.staging-init
staging-init g c =
    let q = c.args.self.now in
    let start : PortState = g.P.Port.state q.port in
    let items : Items = reverse c.args.items.now.items in
    let kept : Kept = record { slots = q.slots.items; end = q.end; head = q.head; stored_head = q.stored_head; passed = q.passed; done = q.done; rung = q.rung.items; staged = q.staged } in
    let some : 0 < length items = let e = c.requires.some in let l = length-reverse c.args.items.now.items in omega (arith, e, l) in
    record {
      begun = omega arith;
      end = refl;
      goes_on = λ j. let same : j ≡ staged_end start - staged_end start + j = omega arith in ap (λ (n : ℕ). after_some start c.args.tx n items) same;
      own = c.requires.own;
      same = stays-refl start;
      before = λ some. refl;
      no_fault = refl;
      done = refl;
      rung = refl;
      whose = none_of start c.args.tx c.requires.empty;
      staged = none_staged start kept q.fits c.requires.empty ∙ sym (ap (λ (b : Bool). if b then Some c.args.tx else None) (not_last items some));
      opened = refl;
      stays = (refl, refl);
    }

pub stage_one-requires-clause-unstaged : goal.stage_one-requires-clause-unstaged
stage_one-requires-clause-unstaged g c = c.staging.invariant.staged ∙ ap (λ (is : Items). if is_last is then Some c.args.tx else None) c.take_first-lba.ensures

pub stage_one-requires-clause-whose : goal.stage_one-requires-clause-whose
stage_one-requires-clause-whose g c = c.staging.invariant.whose

pub returns-clause-staged : goal.returns-clause-staged
returns-clause-staged g c =
    let items : Items = c.staging.items.items in
    let none : length items ≡ 0 = search rules in
    c.staging.invariant.staged
    ∙ ap (λ (b : Bool). if b then Some c.args.tx else None) (sym (is_last_by_length (reverse items)) ∙ ap (λ (n : ℕ). n == 0) (length-reverse items ∙ none))

pub staging-preserved : goal.staging-preserved
staging-preserved g c =
    let q = c.staging.self in
    let now : PortState = g.P.Port.state q.port in
    let start : PortState = g.P.Port.state c.args.self.now.port in
    let new : PortState = g.P.Port.state c.stage_one.new.self.port in
    let lba : ℕ = c.take_first-lba.result.0 in
    let block : List ℕ = c.take_first-lba.result.1 in
    let rest : Items = reverse c.take_first-lba.new.reversed.items in
    let inv = c.staging.invariant in
    let tx : ℕ = c.args.tx in
    let count : vec_len c.take_first-lba.new.reversed ≡ length rest =
    (let e : vec_len c.take_first-lba.new.reversed ≡ length c.take_first-lba.new.reversed.items = search rules in e) ∙ sym (length-reverse c.take_first-lba.new.reversed.items) in
    let flag : c.is_empty-in-staging.result ≡ is_last rest = c.is_empty-in-staging.ensures ∙ ap (λ (n : ℕ). n == 0) count ∙ is_last_by_length rest in
    let moved = c.in_ok-stage_one.ensures.ok in
    let entry : entry_of record { tx = tx; slot = staged_end now % depth; lba = lba; commit = c.is_empty-in-staging.result } ≡ entry_at tx (staged_end now) lba rest =
    ap (λ (b : Bool). entry_of record { tx = tx; slot = staged_end now % depth; lba = lba; commit = b }) flag in
    let step : Next now new tx lba block rest = next now new tx lba block rest _ tx lba entry refl refl moved in
    let was : reverse c.staging.items.items ≡ (lba, block) ∷ rest = c.take_first-lba.ensures in
    let fewer : length c.staging.items.items ≡ suc (length c.take_first-lba.new.reversed.items) =
    sym (length-reverse c.staging.items.items) ∙ ap length was ∙ ap suc (length-reverse c.take_first-lba.new.reversed.items) in
    let own = subst (OwnsAll start) was inv.own in
    let head : now.head ≡ start.head = inv.same.head in
    let low : now.head ≤ staged_end now =
    let a = q.fits.head in let b = q.fits.heads in let d = q.fits.stored in let e = q.fits.done in let f = q.fits.passed in omega (arith, a, b, d, e, f) in
    let high : staged_end now < now.head + usable_depth =
    let total = inv.end in let room = c.requires.room in let begun = inv.begun in omega (arith, total, room, begun, fewer, head) in
    record {
      begun = omega (arith, step.end, inv.begun);
      end = omega (arith, inv.end, fewer, step.end);
      goes_on = λ j.
          let same : staged_end now - staged_end start + suc j ≡ staged_end new - staged_end start + j = omega (arith, inv.begun, step.end) in
          step.goes_on j ∙ ap (λ (is : Items). after_some now tx (suc j) is) (sym was) ∙ inv.goes_on (suc j) ∙ ap (λ (n : ℕ). after_some start tx n (reverse c.args.items.now.items)) same;
      own = own.1;
      same = stays_staged start now new _ _ _ _ inv.same moved;
      before = λ some.
          let other : (start.head - 1) % depth ≢ staged_end now % depth = λ same.
          other_slot start.head (staged_end now) some (omega (arith, low, head)) (omega (arith, high, head)) (sym same) in
          ap (λ (s : PortState). Rattle.std.specs.Prelude.slice_index_or s.staged ((start.head - 1) % depth) []) moved
          ∙ get_or-set_other now.staged (staged_end now % depth) ((start.head - 1) % depth) _ [] other ∙ inv.before some;
      no_fault = c.in_ok-stage_one.ensures.cause ∙ inv.no_fault;
      done = c.stage_one.ensures.done ∙ inv.done;
      rung = c.stage_one.ensures.rung ∙ inv.rung;
      whose = c.in_ok-stage_one.ensures.whose;
      staged = c.in_ok-stage_one.ensures.staged ∙ ap (λ (b : Bool). if b then Some tx else None) flag;
      opened = c.stage_one.ensures.opened ∙ inv.opened;
      stays = (c.stage_one.ensures.own.0 ∙ inv.stays.0, c.stage_one.ensures.own.1 ∙ inv.stays.1);
    }

pub returns-in_err-stage_one-clause-off : goal.returns-in_err-stage_one-clause-off
returns-in_err-stage_one-clause-off g c =
    let now : PortState = g.P.Port.state c.staging.self.port in
    let start : PortState = g.P.Port.state c.args.self.now.port in
    let inv = c.staging.invariant in
    let tx : ℕ = c.args.tx in
    let k : ℕ = staged_end now - staged_end start in
    let some : 0 < length c.staging.items.items =
    let lens : length (reverse c.staging.items.items) ≡ suc (length (reverse c.take_first-lba.new.reversed.items)) = ap length c.take_first-lba.ensures in
    omega (arith, lens, length-reverse c.staging.items.items) in
    let few : k < length c.args.items.now.items = omega (arith, inv.end, inv.begun, some) in
    let is : g.P.Port.state c.stage_one.new.self.port ≡ after_some start tx k (reverse c.args.items.now.items) =
    c.in_err-stage_one.ensures.off ∙ sym (none_more now tx (reverse c.staging.items.items)) ∙ inv.goes_on 0 ∙ ap (λ (n : ℕ). after_some start tx n (reverse c.args.items.now.items)) (add-zero k) in
    let p = err_from_is_err_and c.from_residual.result c.from_residual.ensures.1 in rw p.1 (k, few, is)

pub returns-in_err-stage_one-clause-part : goal.returns-in_err-stage_one-clause-part
returns-in_err-stage_one-clause-part g c =
    let is = c.in_err-stage_one.ensures.part ∙ c.staging.invariant.staged ∙ ap (λ (is : Items). if is_last is then Some c.args.tx else None) c.take_first-lba.ensures in
    let p = err_from_is_err_and c.from_residual.result c.from_residual.ensures.1 in rw p.1 is

pub returns-clause-ok : goal.returns-clause-ok
returns-clause-ok g c =
    let now : PortState = g.P.Port.state c.staging.self.port in
    let start : PortState = g.P.Port.state c.args.self.now.port in
    let inv = c.staging.invariant in
    let tx : ℕ = c.args.tx in
    let none : length c.staging.items.items ≡ 0 = search rules in
    let all : staged_end now - staged_end start + 0 ≡ length c.args.items.now.items = omega (arith, inv.end, inv.begun, none) in
    sym (none_more now tx (reverse c.staging.items.items)) ∙ inv.goes_on 0 ∙ ap (λ (n : ℕ). after_some start tx n (reverse c.args.items.now.items)) all
