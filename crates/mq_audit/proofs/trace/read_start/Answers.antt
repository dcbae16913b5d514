use Rattle.std.proofs.Common.{◌≡◌, Bor, map, List, ℕ, None, length, ap, sym, subst, ◌∙◌}
use Rattle.std.proofs.lemmas.List.{length-replicate}
use Rattle.mq_blocks.specs.Geometry.{homes_of}
use Rattle.mq_audit.specs.Traces.{AreBelow}
use Rattle.mq_audit.proofs.TracesReading.{sets_below, length_placed}
use Rattle.mq_audit.proofs.trace.read_start.Goals as goal

pub place-requires : goal.place-requires
place-requires c =
    let long : length c.in_ok-start.start.items ≡ homes_of c.args.geometry = ap length c.in_ok-start.ensures ∙ length-replicate c.homes.result None ∙ c.homes.ensures in
    subst (λ n. AreBelow n c.in_ok-sets.sets) (sym long) (sets_below c.args.geometry 0 (map (λ (w : Bor (List ℕ)). w.now) c.in-Some.words.now) c.in_ok-sets.sets c.in_ok-sets.ensures)

pub returns-clause-length : goal.returns-clause-length
returns-clause-length c =
    ap length c.place.ensures ∙ length_placed c.in_ok-sets.sets c.in_ok-start.start.items ∙ ap length c.in_ok-start.ensures ∙ length-replicate c.homes.result None ∙ c.homes.ensures
