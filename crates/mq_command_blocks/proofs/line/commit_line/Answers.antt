use Rattle.std.proofs.Common.{◌≡◌, ◌≢◌, ◌<◌, ◌≤◌, ⊎_elim, ℕ, ◌+◌, ◌*◌, [], ◌∷◌, ◌++◌, List, length, refl, ◌∙◌, ap, arith, Bool, true, cond}
use Rattle.std.specs.Prelude.{◌&&◌}
use Rattle.mq_pmr.specs.Queue.{after_head}
use Rattle.mq_pmr.specs.Rungs.{are_from, is_clear, last_leading, left_after}
use Rattle.mq_pmr.specs.declared.rungs.Rung.{Rung}
use Rattle.mq_pmr.proofs.Runs.{end_all}
use Rattle.std.proofs.lemmas.Result.{err_from_is_err_and}
use Rattle.std.proofs.lemmas.Bool.{ne_eqb}
use Rattle.mq_blocks.specs.Drive.{PortState, IsQuiescent, staged_end, after_flush, after_ring, after_store_head}
use Rattle.mq_pmr.specs.Runs.{Items, after_some}
use Rattle.mq_command_blocks.specs.Cuts.{IsCut}
use Rattle.mq_command_blocks.specs.Runs.{after_all, after_line}
use Rattle.mq_command_blocks.proofs.CutsExits.{cut_staging, cut_flushed, cut_ended, cut_all, cut_stored, stored_past}
use Rattle.mq_command_blocks.proofs.RunsLines.{apart_posted}
use Rattle.mq_command_blocks.proofs.line.commit_line.Goals as goal

pub complete_all-requires : goal.complete_all-requires
complete_all-requires g c =
    let state = g.P.Port.state in
    let old : PortState = state c.args.queue.now.port in
    record {
      apart = apart_posted old (state c.ring_once.new.self.port) c.args.tx c.args.items.items c.requires.quiet c.requires.distinct
          (c.in_ok-ring_once.ensures.ok ∙ ap (λ (s : PortState). after_ring (after_flush s)) c.in_ok-stage_all.ensures.ok);
    }

pub returns-in_err-stage_all-clause-cut : goal.returns-in_err-stage_all-clause-cut
returns-in_err-stage_all-clause-cut g c =
    let state = g.P.Port.state in
    let q = c.requires in
    let off = c.in_err-stage_all.ensures.off in
    let few : off.0 ≤ length c.args.items.items = let less = off.1 in omega (arith, less) in
    let cut = cut_staging (state c.args.queue.now.port) c.args.tx c.args.items.items q.quiet q.done q.settled q.room (state c.stage_all.new.self.port) off.0 few off.2 in
    let p = err_from_is_err_and c.from_residual.result c.from_residual.ensures.1 in rw p.1 (off.0, cut)

pub returns-in_err-ring_once-clause-cut : goal.returns-in_err-ring_once-clause-cut
returns-in_err-ring_once-clause-cut g c =
    let state = g.P.Port.state in
    let q = c.requires in
    let old : PortState = state c.args.queue.now.port in
    let new : PortState = state c.ring_once.new.self.port in
    let items : Items = c.args.items.items in
    let staged : state c.stage_all.new.self.port ≡ after_some old c.args.tx (length items) items = c.in_ok-stage_all.ensures.ok in
    let cut : (events : ℕ) × IsCut old new c.args.tx items events = ⊎_elim
    (λ same. (length items, cut_staging old c.args.tx items q.quiet q.done q.settled q.room new (length items) (omega arith) (same ∙ staged)))
    (λ flushed. (length items + 1, cut_flushed old c.args.tx items q.quiet q.done q.settled q.room new (flushed ∙ ap after_flush staged)))
    c.in_err-ring_once.ensures.off in
    let p = err_from_is_err_and c.from_residual-in_err-ring_once.result c.from_residual-in_err-ring_once.ensures.1 in rw p.1 cut

pub returns-in_err-complete_all-clause-cut : goal.returns-in_err-complete_all-clause-cut
returns-in_err-complete_all-clause-cut g c =
    let state = g.P.Port.state in
    let q = c.requires in
    let old : PortState = state c.args.queue.now.port in
    let new : PortState = state c.complete_all.new.queue.port in
    let items : Items = c.args.items.items in
    let rung : state c.ring_once.new.self.port ≡ after_ring (after_flush (after_some old c.args.tx (length items) items)) =
    c.in_ok-ring_once.ensures.ok ∙ ap (λ (s : PortState). after_ring (after_flush s)) c.in_ok-stage_all.ensures.ok in
    let ended = c.in_err-complete_all.ensures.ended in
    let cut = cut_ended old c.args.tx items q.quiet q.done q.settled q.room new (state c.ring_once.new.self.port) ended.0 rung ended.1 in
    let p = err_from_is_err_and c.from_residual-in_err-complete_all.result c.from_residual-in_err-complete_all.ensures.1 in rw p.1 (length items + 2 + ended.0, cut)

-- ---- the head

clear_all : (s : PortState) (end : ℕ) → s.posted ≡ [] → s.failed ≡ [] → is_clear s end ≡ true
clear_all s end posted failed = λ i. are_from end (posted i) && are_from end (failed i)

after_head-other : (s : PortState) (head : ℕ) → s.head ≢ head → after_head s head ≡ after_flush (after_store_head s head)
after_head-other s head other = ap (λ (b : Bool). cond b s (after_flush (after_store_head s head))) (ne_eqb s.head head other)

line_done : (s : PortState) (tx : ℕ) (items : Items) (t : PortState) (head : ℕ) → t ≡ after_all (after_ring (after_flush (after_some s tx (length items) items)))
    → head ≡ staged_end s + length items → after_flush (after_store_head t head) ≡ after_line s tx items
unfolding after_line
line_done s tx items t head is at = λ i. after_flush (after_store_head (is i) (at i))

-- the one transaction that was rung leads
record Leads (passes : ℕ → Bool) (last t : Rung) (ts : List Rung) : Type 0 where
  one : last_leading passes last ts ≡ t
  none : left_after passes ts ≡ []

leads : (passes : ℕ → Bool) (last t : Rung) (ts : List Rung) → ts ≡ t ∷ [] → passes t.end ≡ true → Leads passes last t ts
leads passes last t ts is clear = record {
  one = ap (last_leading passes last) is ∙ ap (λ (b : Bool). cond b t last) clear;
  none = ap (left_after passes) is ∙ ap (λ (b : Bool). cond b [] (t ∷ [])) clear;
}

-- where the queue stands before its head is stored
record Done (old s : PortState) (tx : ℕ) (items : Items) (last : Rung) (ts : List Rung) : Type 0 where
  state : s ≡ after_all (after_ring (after_flush (after_some old tx (length items) items)))
  head : s.head ≢ staged_end old + length items
  leading : (last_leading (is_clear s) last ts).end ≡ staged_end old + length items
  left : left_after (is_clear s) ts ≡ []

done_before : (old s : PortState) (tx : ℕ) (items : Items) (last : Rung) (ts : List Rung) (end : ℕ) → IsQuiescent old → old.head ≡ old.doorbell → 0 < length items
    → s ≡ after_all (after_ring (after_flush (after_some old tx (length items) items))) → ts ≡ record { tx = tx; end = end } ∷ [] → end ≡ staged_end old + length items → Done old s tx items last ts
done_before old s tx items last ts end quiet done some is rung at =
    let failed : s.failed ≡ [] = ap (λ (u : PortState). u.failed) is ∙ quiet.failed in
    let posted : s.posted ≡ [] = ap (λ (u : PortState). u.posted) is in
    let head : s.head ≡ old.stored_head = ap (λ (u : PortState). u.head) is in
    let low : old.stored_head ≡ old.doorbell = quiet.head ∙ done in
    let lead = leads (is_clear s) last (record { tx = tx; end = end }) ts rung (clear_all s end posted failed) in
    record {
      state = is;
      head = λ same. omega (arith, same, head, low, some);
      leading = ap (λ (r : Rung). r.end) lead.one ∙ at;
      left = lead.none;
    }

pub returns-in_err-advance_head-clause-cut : goal.returns-in_err-advance_head-clause-cut
returns-in_err-advance_head-clause-cut g c =
    let state = g.P.Port.state in
    let q = c.requires in
    let old : PortState = state c.args.queue.now.port in
    let s : PortState = state c.complete_all.new.queue.port in
    let new : PortState = state c.advance_head.new.self.port in
    let items : Items = c.args.items.items in
    let all : s ≡ after_all (after_ring (after_flush (after_some old c.args.tx (length items) items))) =
    c.in_ok-complete_all.ensures.ok ∙ ap after_all (c.in_ok-ring_once.ensures.ok ∙ ap (λ (u : PortState). after_ring (after_flush u)) c.in_ok-stage_all.ensures.ok) in
    let next : Rung = record { tx = c.args.tx; end = staged_end (state c.stage_all.new.self.port) } in
    let rung : c.complete_all.new.queue.rung.items ≡ next ∷ [] = c.complete_all.ensures.rung ∙ c.in_ok-ring_once.ensures.rung _ c.in_ok-stage_all.ensures.staged ∙ ap (λ (l : List Rung). l ++ next ∷ []) (c.stage_all.ensures.rung ∙ q.rung) in
    let end = ap staged_end c.in_ok-stage_all.ensures.ok ∙ end_all old c.args.tx items in
    let done = done_before old s c.args.tx items c.complete_all.new.queue.done c.complete_all.new.queue.rung.items next.end q.quiet q.done q.some all rung end in
    let head = ap (λ (r : Rung). r.end) c.advance_head.ensures.done ∙ done.leading in
    let cut : (events : ℕ) × IsCut old new c.args.tx items events = ⊎_elim
    (λ same. (2 * length items + 2, cut_all old c.args.tx items q.quiet q.done q.settled q.room new (same ∙ all)))
    (λ stored. (2 * length items + 3, cut_stored old c.args.tx items q.quiet q.done q.settled q.room new (stored ∙ stored_past old c.args.tx items s _ all head)))
    c.in_err-advance_head.ensures.off in
    let p = err_from_is_err_and c.from_residual-in_err-advance_head.result c.from_residual-in_err-advance_head.ensures.1 in rw p.1 cut

pub returns-clause-ok : goal.returns-clause-ok
returns-clause-ok g c =
    let state = g.P.Port.state in
    let q = c.requires in
    let old : PortState = state c.args.queue.now.port in
    let s : PortState = state c.complete_all.new.queue.port in
    let items : Items = c.args.items.items in
    let all : s ≡ after_all (after_ring (after_flush (after_some old c.args.tx (length items) items))) =
    c.in_ok-complete_all.ensures.ok ∙ ap after_all (c.in_ok-ring_once.ensures.ok ∙ ap (λ (u : PortState). after_ring (after_flush u)) c.in_ok-stage_all.ensures.ok) in
    let next : Rung = record { tx = c.args.tx; end = staged_end (state c.stage_all.new.self.port) } in
    let rung : c.complete_all.new.queue.rung.items ≡ next ∷ [] = c.complete_all.ensures.rung ∙ c.in_ok-ring_once.ensures.rung _ c.in_ok-stage_all.ensures.staged ∙ ap (λ (l : List Rung). l ++ next ∷ []) (c.stage_all.ensures.rung ∙ q.rung) in
    let end = ap staged_end c.in_ok-stage_all.ensures.ok ∙ end_all old c.args.tx items in
    let done = done_before old s c.args.tx items c.complete_all.new.queue.done c.complete_all.new.queue.rung.items next.end q.quiet q.done q.some all rung end in
    let head = ap (λ (r : Rung). r.end) c.advance_head.ensures.done ∙ done.leading in
    c.in_ok-advance_head.ensures.ok ∙ ap (after_head s) head ∙ after_head-other s (staged_end old + length items) done.head ∙ line_done old c.args.tx items s _ all refl

pub returns-clause-rung : goal.returns-clause-rung
returns-clause-rung g c =
    let state = g.P.Port.state in
    let q = c.requires in
    let old : PortState = state c.args.queue.now.port in
    let s : PortState = state c.complete_all.new.queue.port in
    let items : Items = c.args.items.items in
    let all : s ≡ after_all (after_ring (after_flush (after_some old c.args.tx (length items) items))) =
    c.in_ok-complete_all.ensures.ok ∙ ap after_all (c.in_ok-ring_once.ensures.ok ∙ ap (λ (u : PortState). after_ring (after_flush u)) c.in_ok-stage_all.ensures.ok) in
    let next : Rung = record { tx = c.args.tx; end = staged_end (state c.stage_all.new.self.port) } in
    let rung : c.complete_all.new.queue.rung.items ≡ next ∷ [] = c.complete_all.ensures.rung ∙ c.in_ok-ring_once.ensures.rung _ c.in_ok-stage_all.ensures.staged ∙ ap (λ (l : List Rung). l ++ next ∷ []) (c.stage_all.ensures.rung ∙ q.rung) in
    let end = ap staged_end c.in_ok-stage_all.ensures.ok ∙ end_all old c.args.tx items in
    let done = done_before old s c.args.tx items c.complete_all.new.queue.done c.complete_all.new.queue.rung.items next.end q.quiet q.done q.some all rung end in
    c.advance_head.ensures.rung ∙ done.left
