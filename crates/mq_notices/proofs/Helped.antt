-- What a helper knows once it has taken one more notice.
use Rattle.std.proofs.Common.{◌≡◌, List, [], ◌∷◌, ◌++◌, ap, sym, ◌∙◌, arith, inl, subst, vec_capacity}
use Rattle.std.specs.Prelude.{None}
use Rattle.crossbeam_queue.specs.Passes.{IsPassOf, view}
use Rattle.mq_notices.specs.Ends.{HasHelped, IsHelping}
use Rattle.mq_notices.specs.Notices.{HasLast}
use Rattle.mq_notices.specs.Rule.{log}
use Rattle.mq_notices.specs.declared.helper.HelperEnd.{HelperEnd}
use Rattle.mq_notices.specs.declared.line.Line.{Line}
use Rattle.mq_notices.specs.declared.notice.Notice.{Notice}
use Rattle.mq_notices.proofs.Lists.{last-pushed}

module _ (l : Line) (old new : HelperEnd) (x : Notice) (was : IsHelping l old) (queue : IsPassOf l.queue new.pass) (step : view new.pass ≡ log (view old.pass).session (view old.pass).helper (view old.pass).pushed (view old.pass).mine ((view old.pass).theirs ++ x ∷ [])) (items : new.taken.items ≡ old.taken.items ++ x ∷ []) (room : vec_capacity new.taken ≡ vec_capacity old.taken) where
  pub helping-on : IsHelping l new
  helping-on =
      let before = was.room in
      record {
        queue = queue;
        helper = ap (λ v. v.helper) step ∙ was.helper;
        taken = ap (λ v. v.theirs) step ∙ ap (λ (xs : List Notice). xs ++ x ∷ []) was.taken ∙ sym items;
        room = omega arith;
      }

  pub helped-last : x.number ≡ None → HasHelped l new
  helped-last none_is = record {
    helping = helping-on;
    ended = inl (subst (λ (xs : List Notice). HasLast xs) (sym items) (last-pushed old.taken.items x none_is));
  }
