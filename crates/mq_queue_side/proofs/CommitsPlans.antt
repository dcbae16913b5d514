-- A placement of writes is a plan of them.
use Rattle.std.proofs.Common.{◌≡◌, ℕ, zero, suc, ◌<◌, true, List, [], ◌∷◌, length, map, get_or, refl, sym, subst, ◌∙◌, inl, inr, arith, eqb}
use Rattle.std.specs.List.{Contains}
use Rattle.std.proofs.lemmas.Bool.{cases_Bool, eqb-true, false≢true, false_from_ne_true}
use Rattle.mq_blocks.specs.Geometry.{homes_of}
use Rattle.mq_blocks.specs.Journal.{is_among}
use Rattle.mq_blocks.specs.declared.geometry.Geometry.{Geometry}
use Rattle.mq_blocks.proofs.JournalAmong.{among-here, apart-from}
use Rattle.mq_revoke.specs.Placed.{Placed}
use Rattle.mq_revoke.specs.Placing.{IsDirect, AreInOrder, IsPlacement}
use Rattle.mq_revoke.specs.declared.placement.Planned.{Planned}
use Rattle.mq_revoke.proofs.Placing.{goes_home, goes_home-is, goes_home-true, same_write}
use Rattle.mq_queue_side.specs.Commits.{IsPlanOf}

block_there : (ws : List Planned) (w : Planned) (k : ℕ) → k < length ws → get_or ws k w ≡ w → is_among w.block (map (λ v. v.block) ws) ≡ true
block_there [] w k l e = absurd (omega (arith, l))
block_there (v ∷ ws) w zero l e = subst (λ (u : Planned). is_among w.block (u.block ∷ map (λ v. v.block) ws) ≡ true) (sym e) (among-here w.block (map (λ v. v.block) ws))
block_there (v ∷ ws) w (suc k) l e = elim (cases_Bool (eqb v.block w.block)) [
  | inl same ↦ rw same refl
  | inr other ↦ rw other (block_there ws w k (omega (arith, l)) e)
]

block_from : (ws : List Planned) (x : ℕ) → is_among x (map (λ v. v.block) ws) ≡ true → (w : Planned) × Contains ws w × (w.block ≡ x)
block_from [] x e = absurd (false≢true e)
block_from (w ∷ ws) x e = elim (cases_Bool (eqb w.block x)) [
  | inl same ↦ (w, (0, omega arith, refl), eqb-true w.block x same)
  | inr other ↦ (let r = block_from ws x (rw other at e) in (r.0, (suc r.1.0, (let l = r.1.1 in omega (arith, l)), r.1.2), r.2))
]

pub planned : (g : Geometry) (queue front base : ℕ) (ws : List Planned) (p : Placed) → AreInOrder g ws → IsPlacement g queue front base ws p → IsPlanOf (homes_of g) (map (λ w. w.block) ws) p
planned g queue front base ws p order is = record {
  rising = order;
  logged = is.logged.rising;
  direct = is.direct.rising;
  revoked = is.revoked.rising;
  each = λ x. (
    λ among.
        let found = block_from ws x among in
        let w = found.0 in
        elim (cases_Bool (goes_home g queue front w)) [
          | inl home ↦ inr (subst (λ (n : ℕ). is_among n p.direct ≡ true) found.2 (is.direct.all w found.1 (goes_home-is g queue front w home)))
          | inr stays ↦ inl (subst (λ (n : ℕ). is_among n p.logged ≡ true) found.2 (is.logged.all w found.1 (λ d. false≢true (sym stays ∙ goes_home-true g queue front w d))))
        ],
    λ there. elim there [
      | inl logged ↦ (let found = is.logged.only x logged in subst (λ (n : ℕ). is_among n (map (λ v. v.block) ws) ≡ true) found.2 (block_there ws found.0 found.1.0 found.1.1 found.1.2))
      | inr direct ↦ (let found = is.direct.only x direct in subst (λ (n : ℕ). is_among n (map (λ v. v.block) ws) ≡ true) found.2 (block_there ws found.0 found.1.0 found.1.1 found.1.2))
    ],
  );
  apart = apart-from p.logged p.direct (λ x in_logged. false_from_ne_true _ (λ in_direct.
      let as_logged = is.logged.only x in_logged in
      let as_direct = is.direct.only x in_direct in
      let one : as_direct.0 ≡ as_logged.0 = same_write 0 (homes_of g) ws as_direct.0 as_logged.0 as_direct.1.0 as_logged.1.0 order as_direct.1.1 as_direct.1.2 as_logged.1.1 as_logged.1.2 (as_direct.2 ∙ sym as_logged.2) in
      as_logged.3 (subst (λ w. IsDirect g queue front w) one as_direct.3)));
  revokes = λ x among. (let found = is.revoked.only x among in subst (λ (n : ℕ). is_among n p.direct ≡ true) found.2 (is.direct.all found.0 found.1 found.3.0));
}
