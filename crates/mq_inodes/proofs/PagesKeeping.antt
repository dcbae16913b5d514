-- Pages that stay held or free while others are put.
use Rattle.std.proofs.Common.{◌≡◌, ℕ, inl, inr, List, sym, ap, subst, ◌∙◌}
use Rattle.std.specs.Prelude.{Some, None}
use Rattle.std.proofs.lemmas.Bool.{cases_eq}
use Rattle.mq_blocks.specs.declared.geometry.Geometry.{Geometry}
use Rattle.mq_inodes.specs.Changes.{IsPut}
use Rattle.mq_inodes.specs.Edits.{IsOver, KeepsHeld}
use Rattle.mq_inodes.specs.Opened.{HoldsPointers, IsReleasable}
use Rattle.mq_inodes.specs.Pages.{Pages, content, pages_of}
use Rattle.mq_inodes.specs.Picks.{IsMarkable}
use Rattle.mq_inodes.specs.declared.opened.Opened.{Opened}
use Rattle.mq_inodes.specs.declared.working.Working.{Working}
use Rattle.mq_inodes.proofs.PagesHeld.{held-is}

-- content is put where content was
pub keeps-put : (old new : Pages) (b : ℕ) (before after : List ℕ) → old b ≡ Some (Some before) → IsPut old new b (Some after) → KeepsHeld old new
keeps-put old new b before after was put = record {
  held = λ x held. elim (cases_eq x b) [
    | inl e ↦ held-is new x after (ap new e ∙ put.here)
    | inr other ↦ subst (λ o. o ≡ Some (Some (content o))) (sym (put.others x other)) held
  ];
  free = λ x free. elim (cases_eq x b) [
    | inl e ↦ (let both : Some None ≡ Some (Some before) = sym free ∙ ap old e ∙ was in absurd (cc))
    | inr other ↦ put.others x other ∙ free
  ];
}

-- ---- what may be done with blocks

keeps-markable : (g : Geometry) (old new : Pages) (b : ℕ) → KeepsHeld old new → IsMarkable g old b → IsMarkable g new b
keeps-markable g old new b k m = record { high = m.high; home = m.home; marks = k.held _ m.marks }

pub keeps-releasable : (g : Geometry) (old new : Working) (b : ℕ) → KeepsHeld (pages_of old) (pages_of new) → IsOver old new → IsReleasable g (pages_of old) b → IsReleasable g (pages_of new) b
keeps-releasable g old new b k over r = record { marks = keeps-markable g (pages_of old) (pages_of new) b k r.marks; known = λ none. r.known (over.known b none) }

pub keeps-pointers : (old new : Pages) (o : Opened) → KeepsHeld old new → HoldsPointers old o → HoldsPointers new o
keeps-pointers old new o k h many = k.held o.inode.indirect (h many)
