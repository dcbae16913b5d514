-- Writes, parted by a plan.
use Rattle.std.proofs.Common.{◌≡◌, ℕ, ◌+◌, ◌≤◌, true, false, List, [], ◌∷◌, Option, length, map, refl, sym, ap, subst, ◌∙◌, inl, inr, arith, eqb}
use Rattle.std.proofs.lemmas.Bool.{cases_Bool, eqb-true, false≢true}
use Rattle.std.proofs.lemmas.List.{length-map}
use Rattle.mq_blocks.specs.Descriptor.{AreRising}
use Rattle.mq_blocks.specs.Limits.{list_limit}
use Rattle.mq_blocks.specs.Journal.{is_among}
use Rattle.mq_blocks.specs.Machine.{Writes}
use Rattle.mq_ledger.specs.History.{blocks_of}
use Rattle.mq_blocks.proofs.JournalAmong.{among-here, among-behind, rising-within, apart-not_among}
use Rattle.mq_blocks.proofs.DescriptorRising.{rising-lower}
use Rattle.mq_pages.specs.Shadows.{shadow_of}
use Rattle.mq_pages.specs.declared.page.ShadowPage.{ShadowPage}
use Rattle.mq_pages.specs.declared.page.Write.{Write}
use Rattle.mq_revoke.specs.Placed.{Placed}
use Rattle.mq_revoke.proofs.Placed.{rising-same}
use Rattle.mq_pmr.specs.Runs.{Items}
use Rattle.mq_queue_side.specs.Commits.{Commit, commit_by, written_in, IsPlanOf}
use Rattle.mq_queue_side.specs.Parts.{writes_of, pages_in, pages_out, AreLeft, ArePartsOf, HasFurther}

abbrev blocks_in : List Write → List ℕ
blocks_in ws = map (λ w. w.block) ws

-- ---- the pages of a list, and the others

pub in_is : (listed : List ℕ) (ws : List Write) → writes_of (pages_in listed (map shadow_of ws)) ≡ written_in listed ws
in_is listed [] = refl
in_is listed (w ∷ ws) = elim (cases_Bool (is_among w.block listed)) [
  | inl y ↦ rw y (ap (λ (r : Writes). (w.block, w.content) ∷ r) (in_is listed ws))
  | inr n ↦ rw n (in_is listed ws)
]

-- a block is in one of the two lists alone
pub record IsSplit (listed others : List ℕ) (x : ℕ) : Type 0 where
  pub yes : is_among x listed ≡ true → is_among x others ≡ false
  pub no : is_among x listed ≡ false → is_among x others ≡ true

pub out_is : (listed others : List ℕ) (ws : List Write) → ((x : ℕ) → is_among x (blocks_in ws) ≡ true → IsSplit listed others x) → writes_of (pages_out listed (map shadow_of ws)) ≡ written_in others ws
out_is listed others [] split = refl
out_is listed others (w ∷ ws) split =
    let here = split w.block (among-here w.block (blocks_in ws)) in
    let rest = out_is listed others ws (λ x among. split x (among-behind w.block x (blocks_in ws) among)) in
    elim (cases_Bool (is_among w.block listed)) [
      | inl y ↦ rw (y, here.yes y) rest
      | inr n ↦ rw (n, here.no n) (ap (λ (r : Writes). (w.block, w.content) ∷ r) rest)
    ]

shadow_blocks : (ws : List Write) → blocks_of (writes_of (map shadow_of ws)) ≡ blocks_in ws
shadow_blocks [] = refl
shadow_blocks (w ∷ ws) = ap (λ (xs : List ℕ). w.block ∷ xs) (shadow_blocks ws)

-- ---- the blocks that are written

written_among : (listed : List ℕ) (ws : List Write) (x : ℕ) → is_among x (blocks_of (written_in listed ws)) ≡ true → is_among x listed ≡ true
written_among listed [] x among = absurd (false≢true among)
written_among listed (w ∷ ws) x among = elim (cases_Bool (is_among w.block listed)) [
  | inl y ↦
      let k : is_among x (w.block ∷ blocks_of (written_in listed ws)) ≡ true = rw y at among in
      elim (cases_Bool (eqb w.block x)) [
        | inl same ↦ subst (λ (z : ℕ). is_among z listed ≡ true) (eqb-true w.block x same) y
        | inr other ↦ written_among listed ws x (rw other at k)
      ]
  | inr n ↦ written_among listed ws x (rw n at among)
]

among_written : (listed : List ℕ) (ws : List Write) (x : ℕ) → is_among x listed ≡ true → is_among x (blocks_in ws) ≡ true → is_among x (blocks_of (written_in listed ws)) ≡ true
among_written listed [] x there among = among
among_written listed (w ∷ ws) x there among = elim (cases_Bool (eqb w.block x)) [
  | inl same ↦
      let e : w.block ≡ x = eqb-true w.block x same in
      let y : is_among w.block listed ≡ true = subst (λ (z : ℕ). is_among z listed ≡ true) (sym e) there in
      rw y (rw same refl)
  | inr other ↦
      let rest = among_written listed ws x there (rw other at among) in
      elim (cases_Bool (is_among w.block listed)) [
        | inl y ↦ rw y (rw other rest)
        | inr n ↦ rw n rest
      ]
]

written_rising : (low high : ℕ) (listed : List ℕ) (ws : List Write) → AreRising low high (blocks_in ws) → AreRising low high (blocks_of (written_in listed ws))
written_rising low high listed [] r = tt
written_rising low high listed (w ∷ ws) r = elim (cases_Bool (is_among w.block listed)) [
  | inl y ↦ rw y (r.0, r.1, written_rising (w.block + 1) high listed ws r.2)
  | inr n ↦ rw n (rising-lower low (w.block + 1) high (blocks_of (written_in listed ws)) (let l = r.0 in omega (arith, l)) (written_rising (w.block + 1) high listed ws r.2))
]

abbrev commit_with : Writes → Writes → List ℕ → Commit
commit_with logged direct revoked = record { logged = logged; direct = direct; revoked = revoked }

module _ (homes : ℕ) (ws : List Write) (plan : Placed) (is : IsPlanOf homes (blocks_in ws) plan) where
  written_blocks : (listed : List ℕ) → AreRising 0 homes listed → ((x : ℕ) → is_among x listed ≡ true → is_among x (blocks_in ws) ≡ true) → blocks_of (written_in listed ws) ≡ listed
  written_blocks listed rising within =
      rising-same 0 homes (blocks_of (written_in listed ws)) listed (written_rising 0 homes listed ws is.rising) rising
      (λ x among. written_among listed ws x among)
      (λ x among. among_written listed ws x among (within x among))

  pub logged_blocks : blocks_of (written_in plan.logged ws) ≡ plan.logged
  logged_blocks = written_blocks plan.logged is.logged (λ x among. (is.each x).1 (inl among))

  pub direct_blocks : blocks_of (written_in plan.direct ws) ≡ plan.direct
  direct_blocks = written_blocks plan.direct is.direct (λ x among. (is.each x).1 (inr among))

  pub splits : (x : ℕ) → is_among x (blocks_in ws) ≡ true → IsSplit plan.logged plan.direct x
  splits x among = record {
    yes = λ logged. apart-not_among plan.logged plan.direct x is.apart logged;
    no = λ other. elim ((is.each x).0 among) [
      | inl logged ↦ absurd (false≢true (sym other ∙ logged))
      | inr direct ↦ direct
    ];
  }

  -- the lists are no longer than what is written
  sizes : (us : List Write) → ((x : ℕ) → is_among x (blocks_in us) ≡ true → IsSplit plan.logged plan.direct x) → length (written_in plan.logged us) + length (written_in plan.direct us) ≡ length us
  sizes [] split = refl
  sizes (w ∷ us) split =
      let here = split w.block (among-here w.block (blocks_in us)) in
      let rest = sizes us (λ x among. split x (among-behind w.block x (blocks_in us) among)) in
      elim (cases_Bool (is_among w.block plan.logged)) [
        | inl y ↦ rw (y, here.yes y) (omega (arith, rest))
        | inr n ↦ rw (n, here.no n) (omega (arith, rest))
      ]

  pub size : length (written_in plan.logged ws) + length (written_in plan.direct ws) ≡ length ws
  size = sizes ws splits

  pub few : length plan.logged + length plan.revoked ≤ length ws
  few =
      let a : length (written_in plan.logged ws) ≡ length plan.logged = sym (length-map (written_in plan.logged ws) (λ (w : ℕ × List ℕ). w.0)) ∙ ap length logged_blocks in
      let b : length (written_in plan.direct ws) ≡ length plan.direct = sym (length-map (written_in plan.direct ws) (λ (w : ℕ × List ℕ). w.0)) ∙ ap length direct_blocks in
      let c = rising-within 0 homes plan.revoked plan.direct is.revoked is.direct is.revokes in
      omega (arith, a, b, c, size)

  -- the walk begins
  pub are_left : AreLeft plan.logged (map shadow_of ws)
  are_left = record {
    low = 0;
    high = homes;
    blocks_rising = is.logged;
    pages_rising = subst (λ (xs : List ℕ). AreRising 0 homes xs) (sym (shadow_blocks ws)) is.rising;
    within = λ x among. subst (λ (xs : List ℕ). is_among x xs ≡ true) (sym (shadow_blocks ws)) ((is.each x).1 (inl among));
  }

  -- ---- what is prepared of them

  module _ (listed others : List ShadowPage) (in_listed : listed ≡ pages_in plan.logged (map shadow_of ws)) (in_others : others ≡ pages_out plan.logged (map shadow_of ws)) where
    logged_are : writes_of listed ≡ written_in plan.logged ws
    logged_are = ap writes_of in_listed ∙ in_is plan.logged ws

    direct_are : writes_of others ≡ written_in plan.direct ws
    direct_are = ap writes_of in_others ∙ out_is plan.logged plan.direct ws splits

    pub commit_is : (revoked : List ℕ) → revoked ≡ plan.revoked → commit_with (writes_of listed) (writes_of others) revoked ≡ commit_by plan ws
    commit_is revoked e = λ i. commit_with (logged_are i) (direct_are i) (e i)

    pub parts : (blocks revoked : List ℕ) (before : Option (List ℕ)) (items : Items) (capacity : ℕ) → length ws ≤ list_limit → blocks ≡ plan.logged → revoked ≡ plan.revoked → HasFurther (length plan.logged + length plan.revoked) before → items ≡ [] → length ws + 2 ≤ capacity → ArePartsOf (writes_of listed) (writes_of others) blocks revoked before items capacity
    parts blocks revoked before items capacity limit are_blocks are_revoked further none room =
        let a : length blocks ≡ length plan.logged = ap length are_blocks in
        let b : length revoked ≡ length plan.revoked = ap length are_revoked in
        let l : length (writes_of listed) ≡ length (written_in plan.logged ws) = ap length logged_are in
        let d : length (writes_of others) ≡ length (written_in plan.direct ws) = ap length direct_are in
        record {
          blocks_are = are_blocks ∙ sym logged_blocks ∙ ap blocks_of (sym logged_are);
          counts = omega (arith, a, b, few, limit);
          further = subst (λ (n : ℕ). HasFurther n before) (sym (omega (arith, a, b))) further;
          none = none;
          room = omega (arith, l, d, size, room);
        }

    pub placed_lists : (blocks_of (writes_of listed) ≡ plan.logged) × (blocks_of (writes_of others) ≡ plan.direct)
    placed_lists = (ap blocks_of logged_are ∙ logged_blocks, ap blocks_of direct_are ∙ direct_blocks)

    pub placed_sizes : (length (writes_of listed) ≡ length plan.logged) × (length (writes_of others) ≡ length plan.direct)
    placed_sizes = (
      sym (length-map (writes_of listed) (λ (w : ℕ × List ℕ). w.0)) ∙ ap length placed_lists.0,
      sym (length-map (writes_of others) (λ (w : ℕ × List ℕ). w.0)) ∙ ap length placed_lists.1,
    )
