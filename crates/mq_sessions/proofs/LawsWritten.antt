-- The writes of a group, by where a plan puts them.
use Rattle.std.proofs.Common.{◌≡◌, ℕ, ◌+◌, true, false, List, [], ◌∷◌, ◌++◌, length, refl, sym, subst, ◌∙◌, inl, inr, arith, eqb}
use Rattle.std.specs.Prelude.{Some, None}
use Rattle.std.specs.List.{All, Contains}
use Rattle.std.proofs.lemmas.Bool.{cases_Bool, eq-eqb, eqb-true, ne_eqb, false≢true, false_from_ne_true}
use Rattle.std.proofs.lemmas.List.Elements.{All-cons, All-nil}
use Rattle.std.proofs.lemmas.Option.{same_Some}
use Rattle.mq_blocks.specs.Descriptor.{AreRising}
use Rattle.mq_blocks.specs.Journal.{is_among}
use Rattle.mq_blocks.specs.Machine.{Writes, or_kept, write_of}
use Rattle.mq_blocks.proofs.JournalAmong.{among-low, apart-not_among, contains-among}
use Rattle.mq_blocks.proofs.Options.{option-cases}
use Rattle.mq_sessions.specs.Drawn.{blocks_in}
use Rattle.mq_ledger.proofs.History.{unwritten, write_of-append}
use Rattle.mq_pages.specs.declared.page.Write.{Write}
use Rattle.mq_revoke.specs.Placed.{Placed}
use Rattle.mq_queue_side.specs.Commits.{IsPlanOf, written_in}
use Rattle.mq_queue_side.proofs.Parts.{logged_blocks}
use Rattle.mq_sessions.proofs.Members.{cons-cases, cons-here, cons-there, map-has, none-contained}

pub block_among : (ws : List Write) (w : Write) → Contains ws w → is_among w.block (blocks_in ws) ≡ true
block_among ws w c = contains-among (blocks_in ws) w.block (map-has (λ (x : Write). x.block) ws w c)

-- a write of this block with this content
abbrev pub Wrote : List Write → ℕ → List ℕ → Type 0
Wrote ws x page = (w : Write) × Contains ws w × (w.block ≡ x) × (w.content ≡ page)

-- ---- one list

wrote_later : (w : Write) (ws : List Write) (x : ℕ) (page : List ℕ) → Wrote ws x page → Wrote (w ∷ ws) x page
wrote_later w ws x page f = (f.0, cons-there w ws f.0 f.1, f.2, f.3)

-- what is found is one of the writes
wrote : (listed : List ℕ) (ws : List Write) (x : ℕ) (page : List ℕ) → write_of (written_in listed ws) x ≡ Some page → Wrote ws x page
wrote listed [] x page e = absurd (cc)
wrote listed (w ∷ ws) x page e = elim (cases_Bool (is_among w.block listed)) [
  | inl y ↦
      let k : write_of ((w.block, w.content) ∷ written_in listed ws) x ≡ Some page = rw y at e in
      elim (cases_Bool (eqb w.block x)) [
        | inl same ↦ (let c : Some w.content ≡ Some page = rw same at k in (w, cons-here w ws w refl, eqb-true w.block x same, same_Some w.content page c))
        | inr other ↦ wrote_later w ws x page (wrote listed ws x page (rw other at k))
      ]
  | inr n ↦ wrote_later w ws x page (wrote listed ws x page (rw n at e))
]

-- each write that is listed is found
found : (low high : ℕ) (listed : List ℕ) (ws : List Write) (w : Write) → AreRising low high (blocks_in ws) → Contains ws w → is_among w.block listed ≡ true → write_of (written_in listed ws) w.block ≡ Some w.content
found low high listed [] w r c among = none-contained w c
found low high listed (x ∷ ws) w r c among = elim (cons-cases x ws w c) [
  | inl here ↦
      let y : is_among x.block listed ≡ true = subst (λ (v : Write). is_among v.block listed ≡ true) (sym here) among in
      subst (λ (v : Write). write_of (written_in listed (x ∷ ws)) v.block ≡ Some v.content) here (rw (y, eq-eqb x.block x.block refl) refl)
  | inr there ↦
      let rest = found (x.block + 1) high listed ws w r.2 there among in
      let up = among-low (x.block + 1) high (blocks_in ws) w.block r.2 (block_among ws w there) in
      let other : eqb x.block w.block ≡ false = ne_eqb x.block w.block (λ s. omega (arith, up, s)) in
      elim (cases_Bool (is_among x.block listed)) [
        | inl y ↦ rw (y, other) rest
        | inr n ↦ rw n rest
      ]
]

pub whole_in : (listed : List ℕ) (ws : List Write) → ((w : Write) → Contains ws w → length w.content ≡ 4096) → All (λ (w : ℕ × List ℕ). length w.1 ≡ 4096) (written_in listed ws)
whole_in listed [] each = All-nil (λ (w : ℕ × List ℕ). length w.1 ≡ 4096)
whole_in listed (x ∷ ws) each =
    let rest : All (λ (w : ℕ × List ℕ). length w.1 ≡ 4096) (written_in listed ws) = whole_in listed ws (λ w c. each w (cons-there x ws w c)) in
    elim (cases_Bool (is_among x.block listed)) [
      | inl y ↦ rw y (All-cons (λ (w : ℕ × List ℕ). length w.1 ≡ 4096) (x.block, x.content) (written_in listed ws) (each x (cons-here x ws x refl)) rest)
      | inr n ↦ rw n rest
    ]

-- ---- both lists

module _ (homes : ℕ) (ws : List Write) (plan : Placed) (is : IsPlanOf homes (blocks_in ws) plan) where
  abbrev both : Writes
  both = written_in plan.logged ws ++ written_in plan.direct ws

  -- what is written is one of the writes
  pub only : (x : ℕ) (page : List ℕ) → write_of both x ≡ Some page → Wrote ws x page
  only x page e =
      let parts : or_kept (write_of (written_in plan.logged ws) x) (write_of (written_in plan.direct ws) x) ≡ Some page = sym (write_of-append (written_in plan.logged ws) (written_in plan.direct ws) x) ∙ e in
      elim (option-cases (write_of (written_in plan.logged ws) x)) [
        | inl none ↦ wrote plan.direct ws x page (rw none at parts)
        | inr some ↦ wrote plan.logged ws x page (some.1 ∙ (rw some.1 at parts))
      ]

  unlogged : (w : Write) → is_among w.block plan.direct ≡ true → write_of (written_in plan.logged ws) w.block ≡ None
  unlogged w direct =
      let none : is_among w.block plan.logged ≡ false = false_from_ne_true _ (λ logged. false≢true (sym (apart-not_among plan.logged plan.direct w.block is.apart logged) ∙ direct)) in
      unwritten (written_in plan.logged ws) w.block (subst (λ (xs : List ℕ). is_among w.block xs ≡ false) (sym (logged_blocks homes ws plan is)) none)

  -- each of the writes is written
  pub all : (w : Write) → Contains ws w → write_of both w.block ≡ Some w.content
  all w c = write_of-append (written_in plan.logged ws) (written_in plan.direct ws) w.block ∙ elim ((is.each w.block).0 (block_among ws w c)) [
    | inl logged ↦ (let here = found 0 homes plan.logged ws w is.rising c logged in rw here refl)
    | inr direct ↦ (let none = unlogged w direct in let here = found 0 homes plan.direct ws w is.rising c direct in rw (none, here) refl)
  ]
