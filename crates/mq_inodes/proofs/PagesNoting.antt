-- Blocks of which it is noted that they are free.
use Rattle.std.proofs.Common.{get_or, ◌≡◌, ℕ, ◌+◌, ◌<◌, ◌≤◌, inl, inr, ◌⊎◌, List, length, take, refl, sym, ap, subst, ◌∙◌}
use Rattle.std.specs.Prelude.{Some, None}
use Rattle.std.specs.List.{All, Contains}
use Rattle.std.proofs.lemmas.Bool.{cases_eq}
use Rattle.std.proofs.lemmas.List.{take_all}
use Rattle.std.proofs.lemmas.List.Elements.{All-more, All-nil, All-weaker}
use Rattle.mq_inodes.specs.Changes.{IsPut}
use Rattle.mq_inodes.specs.Pages.{Pages}
use Rattle.mq_inodes.specs.Unseen.{AreNoted}

-- the first k of them are noted
pub record IsNoting (old new : Pages) (blocks : List ℕ) (k : ℕ) : Type 0 where
  pub free : All (λ b. new b ≡ Some None) (take k blocks)
  pub each : (b : ℕ) → (new b ≡ old b) ⊎ (Contains blocks b × (new b ≡ Some None))

pub noting-none : (old : Pages) (blocks : List ℕ) → IsNoting old old blocks 0
noting-none old blocks = record { free = All-nil (λ b. old b ≡ Some None); each = λ b. inl refl }

pub noting-more : (old mid new : Pages) (blocks : List ℕ) (k b : ℕ) → k < length blocks → b ≡ get_or blocks k b → IsNoting old mid blocks k → IsPut mid new b None → IsNoting old new blocks (k + 1)
noting-more old mid new blocks k b l at h put = record {
  free = All-more (λ x. new x ≡ Some None) blocks k b l (All-weaker (λ x. mid x ≡ Some None) (λ x. new x ≡ Some None) still (take k blocks) h.free) (subst (λ x. new x ≡ Some None) at put.here);
  each = λ x. elim (cases_eq x b) [
    | inl e ↦ inr (subst (λ y. Contains blocks y) (sym e) (k, l, sym at), ap new e ∙ put.here)
    | inr other ↦ elim (h.each x) [
      | inl same ↦ inl (put.others x other ∙ same)
      | inr noted ↦ inr (noted.0, put.others x other ∙ noted.1)
    ]
  ];
}
  where
    still : (x : ℕ) → mid x ≡ Some None → new x ≡ Some None
    still x e = elim (cases_eq x b) [
      | inl is ↦ ap new is ∙ put.here
      | inr other ↦ put.others x other ∙ e
    ]

pub noting-all : (old new : Pages) (blocks : List ℕ) (k : ℕ) → length blocks ≤ k → IsNoting old new blocks k → AreNoted old new blocks
noting-all old new blocks k l h = record { free = subst (λ (xs : List ℕ). All (λ b. new b ≡ Some None) xs) (take_all k blocks l) h.free; each = h.each }
