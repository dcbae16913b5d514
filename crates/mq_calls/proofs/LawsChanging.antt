-- The blocks that a group writes and frees where it leads from the volume of a map to another.
use Rattle.std.proofs.Common.{◌≡◌, ℕ, suc, ◌+◌, ◌<◌, ◌≤◌, true, List, [], ◌∷◌, ◌++◌, length, map, refl, sym, subst, ◌∙◌, inl, inr, arith}
use Rattle.std.specs.Prelude.{Option, Some, None}
use Rattle.std.specs.List.{AllPairs, Contains}
use Rattle.std.proofs.lemmas.Bool.{cases_lt, true≢false, false_from_ne_true}
use Rattle.std.proofs.lemmas.List.{map-id}
use Rattle.mq_blocks.specs.Descriptor.{AreApart, AreRising}
use Rattle.mq_blocks.specs.Geometry.{homes_of, meta_of}
use Rattle.mq_blocks.specs.Journal.{is_among}
use Rattle.mq_blocks.specs.Machine.{Map}
use Rattle.mq_blocks.specs.declared.geometry.Geometry.{Geometry}
use Rattle.mq_blocks.proofs.JournalAmong.{among-contains, apart-from}
use Rattle.mq_exec.specs.Moves.{Moves}
use Rattle.mq_calls.specs.EntryLaws.{blocks_in}
use Rattle.mq_sessions.proofs.LawsWritten.{only}
use Rattle.mq_inodes.proofs.LaidOnce.{shown-taken}
use Rattle.mq_inodes.proofs.ChangesRegions.{shown-in}
use Rattle.mq_ledger.specs.History.{blocks_of}
use Rattle.mq_ledger.proofs.History.{written_among}
use Rattle.mq_pages.specs.declared.page.Write.{Write}
use Rattle.mq_revoke.specs.Placed.{Placed}
use Rattle.mq_queue_side.specs.Commits.{IsPlanOf, written_in}
use Rattle.mq_tree.specs.Laid.{IsLaid, Outside, ShowsPage}
use Rattle.mq_tree.specs.Volume.{Volume}
use Rattle.mq_tree.proofs.Decoded.{taken-use}
use Rattle.mq_tree.proofs.Members.{cons-here, cons-there}
use Rattle.mq_tree.proofs.LaidRegions.{region-outside}

-- numbers each below all later ones rise
rising_from : {X : Type 0} (n : X → ℕ) (low high : ℕ) (xs : List X) → AllPairs (λ a b. n a < n b) xs → ((x : X) → Contains xs x → (low ≤ n x) × (n x < high)) → AreRising low high (map n xs)
rising_from {X} n low high [] r within = tt
rising_from {X} n low high (x ∷ xs) r within =
    let here = within x (cons-here x xs x refl) in (
      here.0,
      here.1,
      rising_from n (n x + 1) high xs (λ i j d l h. r (suc i) (suc j) d (omega arith) (omega arith)) (λ y c.
          let w = within y (cons-there x xs y c) in
          let up : n x < n y = above y c in
          (omega arith, w.1)),
    )
  where
    above : (y : X) → Contains xs y → n x < n y
    above y (k, l, e) = subst (λ (z : X). n x < n z) e (r 0 (suc k) y (omega arith) (omega arith))

pub shown_low : (g : Geometry) (w : Volume) (b : ℕ) (page : List ℕ) → ShowsPage g w b page → b < homes_of g
shown_low g w b page s = elim (cases_lt b (homes_of g)) [
  | inl low ↦ low
  | inr out ↦ absurd (shown-in g w b Outside page (region-outside g b out) s)
]

option_there : (o : Option (List ℕ)) → (o ≡ None → ⊥) → (block : List ℕ) × (o ≡ Some block)
option_there None some = absurd (some refl)
option_there (Some block) some = (block, refl)

module _ (g : Geometry) (m : Map) (v w : Volume) (ws : List Write) (fs : List ℕ) (laid : IsLaid g m v) (moves : Moves g v w ws fs) where
  pub writes_rise : AreRising 0 (homes_of g) (blocks_in ws)
  writes_rise = rising_from (λ (x : Write). x.block) 0 (homes_of g) ws moves.writes_rise (λ x c. (omega arith, shown_low g w x.block x.content ((moves.written x).0 c).now))

  free_place : (b : ℕ) → Contains fs b → (meta_of g ≤ b) × (b < homes_of g)
  free_place b c =
      let u = taken-use v b ((moves.freed b).0 c).0 in
      laid.sound.zones u.0 b u.1

  pub frees_rise : AreRising 0 (homes_of g) fs
  frees_rise = subst (λ (bs : List ℕ). AreRising 0 (homes_of g) bs) (map-id fs) (rising_from (λ (b : ℕ). b) 0 (homes_of g) fs moves.frees_rise (λ b c. (omega arith, (free_place b c).1)))

  pub whole_writes : (x : Write) → Contains ws x → length x.content ≡ 4096
  whole_writes x c = ((moves.written x).0 c).now.0.whole

  -- a freed block is in the map
  pub freed_there : (b : ℕ) → is_among b fs ≡ true → (block : List ℕ) × (m b ≡ Some block)
  freed_there b freed = option_there (m b) (λ none. true≢false (sym ((moves.freed b).0 (among-contains fs b freed)).0 ∙ (laid.vacant b none).1))

  -- none is freed and written
  pub frees_apart : (plan : Placed) → IsPlanOf (homes_of g) (blocks_in ws) plan → AreApart fs (blocks_of (written_in plan.logged ws ++ written_in plan.direct ws))
  frees_apart plan is = apart-from fs (blocks_of (written_in plan.logged ws ++ written_in plan.direct ws)) (λ b freed. false_from_ne_true _ (λ there.
      let c = among-contains fs b freed in
      let f = written_among (written_in plan.logged ws ++ written_in plan.direct ws) b there in
      let x = only (homes_of g) ws plan is b f.0 f.1 in
      let now : ShowsPage g w b x.0.content = subst (λ (n : ℕ). ShowsPage g w n x.0.content) x.2 ((moves.written x.0).0 x.1).now in
      true≢false (sym (shown-taken g w b x.0.content (free_place b c).0 now) ∙ ((moves.freed b).0 c).1)))
