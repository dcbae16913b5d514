-- An inode that becomes an empty file or directory while its block is absent.
use Rattle.std.proofs.Common.{set, ◌≡◌, ◌≢◌, ℕ, ◌<◌, inl, inr, [], ◌∷◌, length, Bool, true, cond, refl, sym, ap, subst, ◌∙◌, arith, length-set}
use Rattle.std.specs.Prelude.{Some, None}
use Rattle.std.proofs.lemmas.Bool.{cases_eq, ne_eqb, true≢false}
use Rattle.mq_blocks.proofs.JournalAmong.{among-behind, among-here}
use Rattle.mq_blocks.specs.Journal.{is_among}
use Rattle.mq_blocks.specs.declared.geometry.Geometry.{Geometry}
use Rattle.mq_inodes.specs.Bare.{empty_body, with_inode}
use Rattle.mq_inodes.specs.Changes.{AreOthers, FitsAt, FitsBut, IsInodeMarked}
use Rattle.mq_inodes.specs.Edits.{Carries}
use Rattle.mq_inodes.specs.Fits.{Fits}
use Rattle.mq_inodes.specs.Pages.{Pages, known, pages_of}
use Rattle.mq_inodes.specs.declared.working.Page.{Page}
use Rattle.mq_inodes.specs.declared.working.Page.TheVariants.{Absent, Free, Held}
use Rattle.mq_inodes.specs.declared.working.Working.{Working}
use Rattle.mq_inodes.proofs.BareEmptyInodes.{empty-used}
use Rattle.mq_inodes.proofs.Changes.{bare-rewrites}
use Rattle.mq_inodes.proofs.ChangesFits.{fits-end, fits-put}
use Rattle.mq_inodes.proofs.ChangesInodes.{bare}
use Rattle.mq_inodes.proofs.ChangesPages.{inode_marks-one}
use Rattle.mq_inodes.proofs.ChangesSteps.{step-start}
use Rattle.mq_inodes.proofs.ChangesUses.{Rewrites, used-links}
use Rattle.mq_inodes.proofs.ChangesVolumes.{bare-uses, free-bare}
use Rattle.mq_layout.specs.Places.{inode_bitmap, inode_block, inodes_of}
use Rattle.mq_tree.specs.Sound.{IsNode}
use Rattle.mq_tree.specs.Uses.{AreUses}
use Rattle.mq_tree.specs.Volume.{Body, Free, Node, Volume, body, is_used, node}
use Rattle.mq_tree.proofs.FreeUses.{node-here, node-other}

-- a page that is looked up, and isn't absent
pub looked-up : (p : Page) → (p ≡ Absent → ⊥) → known p ≢ None
looked-up Absent there e = there refl
looked-up Free there e = absurd (cc)
looked-up (Held block) there e = absurd (cc)

-- the last block at which a page is to be put is absent
fits-absent : (g : Geometry) (pages : Pages) (v : Volume) (b : ℕ) → FitsBut g pages v (b ∷ []) → pages b ≡ None → FitsBut g pages v []
fits-absent g pages v b fits none x out = elim (cases_eq x b) [
  | inl e ↦ subst (λ o. FitsAt g o v x) (sym (ap pages e ∙ none)) tt
  | inr other ↦
      let n = ne_eqb b x (λ e. other (sym e)) in
      fits x (ap (λ (c : Bool). cond c true (is_among x [])) n ∙ out)
]

absent-fits : (g : Geometry) (v : Volume) (i : ℕ) (y : Body) (old new : Pages) → AreUses g v → i < length v → (node v i).blocks ≡ [] → (node v i).indirect ≡ None → is_used y ≡ true → Fits g old v → IsInodeMarked g old new i (is_used y) → new (inode_block g i) ≡ None → Fits g new (set v i (bare y))
absent-fits g v i y old new uses low was none used fits m absent =
    let w = set v i (bare y) in
    let here : node w i ≡ bare y = node-here v i (bare y) low in
    let o : AreOthers v w i = λ x other. node-other v i x (bare y) other in
    let bs : (node w i).blocks ≡ [] = ap (λ (n : Node). n.blocks) here in
    let ind : (node w i).indirect ≡ None = ap (λ (n : Node). n.indirect) here in
    let fine : AreUses g w = bare-uses g v i (bare y) uses low refl refl (used-links y used) in
    let a = inode_bitmap g in
    let b = inode_block g i in
    let r : Rewrites g v w i (a ∷ b ∷ []) = bare-rewrites g v w i (a ∷ b ∷ []) o was bs none ind (λ out. absurd (true≢false (sym (among-here a (b ∷ [])) ∙ out))) (λ out. absurd (true≢false (sym (among-behind a b (b ∷ []) (among-here b [])) ∙ out))) in
    let marks = inode_marks-one g v w i (is_used y) m.before m.after o (ap (λ (n : Node). is_used n.body) here) (fits.held a m.before m.was) m.form m.bit m.rest in
    fits-end g new w (fits-absent g new w b (fits-put g old new w (b ∷ []) a (Some m.after) (step-start g v w i (a ∷ b ∷ []) old uses fine r fits) m.put marks) absent)

pub inode-unseen : (g : Geometry) (v : Volume) (i : ℕ) (directory : Bool) (old new : Working) → Carries g (pages_of old) v → i < inodes_of g → IsNode (node v i) → body v i ≡ Free → IsInodeMarked g (pages_of old) (pages_of new) i true → pages_of new (inode_block g i) ≡ None → Carries g (pages_of new) (with_inode v i (empty_body directory))
inode-unseen g v i directory old new c inside good is m absent =
    let y = empty_body directory in
    let low : i < length v = (let e = c.count in omega arith) in
    let none = free-bare (node v i) good is in
    record {
      uses = bare-uses g v i (bare y) c.uses low refl refl (used-links y (empty-used directory));
      count = length-set v i (bare y) ∙ c.count;
      fits = absent-fits g v i y (pages_of old) (pages_of new) c.uses low none.0 none.1 (empty-used directory) c.fits (subst (λ t. IsInodeMarked g (pages_of old) (pages_of new) i t) (sym (empty-used directory)) m) absent;
    }
