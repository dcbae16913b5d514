use Rattle.std.proofs.Common.{ℕ, ◌<◌, refl, sym, subst}
use Rattle.mq_blocks.specs.Geometry.{queues_of}
use Rattle.mq_desk_laws.specs.Rule.{geometry_of, map_now}
use Rattle.mq_calls.specs.Group.{file_group}
use Rattle.mq_calls.specs.Plans.{DoneOn}
use Rattle.mq_calls.proofs.LawsRuling.{may}
use Rattle.mq_calls.proofs.machine.FileGroupsExecutor.done_groups_may.Goals as goal

pub returns : goal.returns
returns g c = λ K call done e on is changes queue limit planned.
    let V = g.J.JournalValues.values in
    may V c.a_done_group_may_be_drawn.ensures K call.requests done e
    (subst (λ (n : ℕ). DoneOn (geometry_of V file_group K) n (map_now V file_group K) call.requests done) (sym is.is.session_is) on)
    (record { session_is = refl; requests_are = is.is.requests_are; replies_are = is.is.replies_are; writes_are = is.is.writes_are; frees_are = is.is.frees_are })
    changes
    (subst (λ (n : ℕ). n < queues_of (geometry_of V file_group K)) (sym is.is.session_is) queue)
    limit
    (record { few = planned.few; front_low = planned.front_low; base_low = planned.base_low; placed = planned.placed })
