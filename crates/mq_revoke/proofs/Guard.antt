-- A transaction that is placed by a plan may be drawn.
use Rattle.std.proofs.Common.{◌≡◌, ℕ, ◌<◌, ◌≤◌, true, List, length, Some, None, sym, refl, subst, ◌∙◌, arith}
use Rattle.std.specs.List.{All}
use Rattle.std.proofs.lemmas.Bool.{false_from_ne_true}
use Rattle.std.proofs.lemmas.List.{length-map}
use Rattle.std.proofs.lemmas.List.Elements.{All-contains}
use Rattle.mq_blocks.specs.Descriptor.{AreApart}
use Rattle.mq_blocks.specs.Geometry.{homes_of, zone_of, write_limit}
use Rattle.mq_blocks.specs.Journal.{is_among}
use Rattle.mq_ledger.specs.KnownJournal.{MayDraw, KnownJournal, IsTx, front}
use Rattle.mq_ledger.specs.History.{blocks_of, writes, map_after, last, last_logged}
use Rattle.mq_ledger.specs.declared.tx.Tx.{Tx}
use Rattle.mq_blocks.proofs.JournalAmong.{rising-within, apart-from}
use Rattle.mq_revoke.specs.Guard.{IsOfHistory, MeetsRest, placed_of}
use Rattle.mq_revoke.specs.Placing.{IsDirect, AreInOrder, IsPlacement}
use Rattle.mq_revoke.specs.declared.placement.Planned.{Planned}
use Rattle.mq_revoke.proofs.Placing.{IsSoFar, blocks_where, goes_home, stays, is_revoked, same_write, so_far-placement, so_far-length}

module _ (k : KnownJournal) (t : Tx) (ws : List Planned) (f b : ℕ) (order : AreInOrder k.geometry ws) (planned : IsPlacement k.geometry t.queue f b ws (placed_of t)) where
  -- no block is logged and direct
  apart : AreApart (blocks_of t.logged) (blocks_of t.direct)
  apart = apart-from (blocks_of t.logged) (blocks_of t.direct) (λ x in_logged. false_from_ne_true _ (λ in_direct.
      let as_logged = planned.logged.only x in_logged in
      let as_direct = planned.direct.only x in_direct in
      let one : as_direct.0 ≡ as_logged.0 = same_write 0 (homes_of k.geometry) ws as_direct.0 as_logged.0 as_direct.1.0 as_logged.1.0 order as_direct.1.1 as_direct.1.2 as_logged.1.1 as_logged.1.2 (as_direct.2 ∙ sym as_logged.2) in
      as_logged.3 (subst (λ w. IsDirect k.geometry t.queue f w) one as_direct.3)))

  -- it has no more blocks than there are writes
  few : writes t ≤ length ws
  few =
      let so : IsSoFar k.geometry t.queue f b ws (blocks_where (stays k.geometry t.queue f) ws) (blocks_where (goes_home k.geometry t.queue f) ws) (blocks_where (is_revoked k.geometry t.queue f b) ws) = record { logged_is = refl; direct_is = refl; revoked_is = refl } in
      let walked = so_far-placement k.geometry t.queue f b ws _ _ _ order so in
      let all = so_far-length k.geometry t.queue f b ws _ _ _ so in
      let logged = rising-within 0 (homes_of k.geometry) (blocks_of t.logged) (blocks_where (stays k.geometry t.queue f) ws) planned.logged.rising walked.logged.rising (λ x among. let found = planned.logged.only x among in subst (λ n. is_among n (blocks_where (stays k.geometry t.queue f) ws) ≡ true) found.2 (walked.logged.all found.0 found.1 found.3)) in
      let direct = rising-within 0 (homes_of k.geometry) (blocks_of t.direct) (blocks_where (goes_home k.geometry t.queue f) ws) planned.direct.rising walked.direct.rising (λ x among. let found = planned.direct.only x among in subst (λ n. is_among n (blocks_where (goes_home k.geometry t.queue f) ws) ≡ true) found.2 (walked.direct.all found.0 found.1 found.3)) in
      omega (arith, all, logged, direct, length-map t.logged (λ (w : ℕ × List ℕ). w.0), length-map t.direct (λ (w : ℕ × List ℕ). w.0))

  pub form : length ws ≤ write_limit k.geometry → MeetsRest k t → IsTx k.geometry t
  form limit rest = record {
    queue = rest.queue;
    logged = planned.logged.rising;
    direct = planned.direct.rising;
    revoked = planned.revoked.rising;
    freed = rest.freed;
    whole = rest.whole;
    few = omega (arith, few, limit);
    apart = apart;
    kept = rest.kept;
    zoned = λ x among. let found = planned.direct.only x among in subst (λ n. zone_of k.geometry n ≡ Some t.queue) found.2 found.3.zone;
    revokes = λ x among. let found = planned.revoked.only x among in subst (λ n. is_among n (blocks_of t.direct) ≡ true) found.2 (planned.direct.all found.0 found.1 found.3.0);
  }

  pub may_draw : length ws ≤ write_limit k.geometry → All (IsOfHistory k) ws → f ≤ front k → b ≤ k.word → MeetsRest k t → MayDraw k t
  may_draw limit told low old rest = record {
    form = form limit rest;
    number = rest.number;
    limit = rest.limit;
    freed = rest.there;
    free = λ x among.
        let found = planned.direct.only x among in
        let says = All-contains (IsOfHistory k) ws found.0 told found.1 in
        subst (λ n. map_after k.start k.history n ≡ None) found.2 (says.was_free.0 found.3.was_free);
    settled = λ x among.
        let found = planned.direct.only x among in
        let says = All-contains (IsOfHistory k) ws found.0 told found.1 in
        subst (λ n. last k.base k.history n ≤ front k) found.2 (omega (arith, says.version, found.3.settled, low));
    revoked = λ x among above.
        let found = planned.direct.only x among in
        let says = All-contains (IsOfHistory k) ws found.0 told found.1 in
        let here : k.word < last_logged k.base k.history found.0.block = subst (λ n. k.word < last_logged k.base k.history n) (sym found.2) above in
        subst (λ n. is_among n t.revoked ≡ true) found.2 (planned.revoked.all found.0 found.1 (found.3, omega (arith, says.last_logged, here, old)));
  }
