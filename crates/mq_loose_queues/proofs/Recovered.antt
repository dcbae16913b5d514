-- What a recovery leaves is a start for the queues.
use Rattle.std.specs.Prelude.{slice_index_or}
use Rattle.std.proofs.Common.{◌≡◌, ℕ, suc, zero, ◌<◌, ◌≤◌, ◌^◌, List, [], ◌∷◌, Option, Some, None, sym, ◌∙◌}
use Rattle.std.proofs.lemmas.List.{length-map}
use Rattle.std.proofs.lemmas.Option.{same_Some}
use Rattle.mq_blocks.specs.Blocks.{block_at, content}
use Rattle.mq_blocks.specs.declared.geometry.Geometry.{Geometry}
use Rattle.mq_ledger.specs.State.{port_at}
use Rattle.mq_loose_recover.specs.Standing.{HasLooselyRecovered}
use Rattle.mq_loose_recover.specs.declared.standing.LooseStanding.{LooseStanding}
use Rattle.mq_recover.specs.Drives.{DriveState}
use Rattle.mq_loose_queues.specs.Opening.{MayOpen, home_map}

held : (blocks : List (Option (List ℕ))) (x : ℕ) (bytes : List ℕ) → slice_index_or (home_map blocks) x None ≡ Some bytes → block_at blocks x ≡ bytes
held [] x bytes e = absurd (cc)
held (b ∷ bs) zero bytes e = same_Some (content b) bytes e
held (b ∷ bs) (suc x) bytes e = held bs x bytes e

pub recovered_opens : (g : Geometry) (old new : DriveState) (standing : LooseStanding) → HasLooselyRecovered g old standing new → standing.base ≤ 2 ^ 62 → ((q : ℕ) → q < g.queues → (port_at new.queues q).doorbell ≤ 2 ^ 62) → MayOpen g new standing
recovered_opens g old new standing r low rung =
    let blocks = standing.blocks.items in
    let are = r.standing.blocks in
    record {
      starts = r.start (home_map blocks) (length-map blocks (λ b. Some (content b)) ∙ are.whole) (λ x bytes inside e. r.recovered.homes x inside ∙ (sym (are.are x inside) ∙ held blocks x bytes e));
      base_is = r.base_is ∙ sym r.recovered.base;
      base = low;
      rung = rung;
    }
