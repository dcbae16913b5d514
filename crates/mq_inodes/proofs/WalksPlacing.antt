-- The place of a path: its directory, and where its last name stands or goes.
use Rattle.std.proofs.Common.{◌≡◌, ℕ, ◌≤◌, List, ◌∷◌, length, sym, ap, subst, ◌∙◌}
use Rattle.std.specs.Prelude.{Option, None, Result, Ok}
use Rattle.mq_inodes.specs.Dirs.{AreDirsAt, slots_at}
use Rattle.mq_inodes.specs.MissingPages.{OfEach}
use Rattle.mq_inodes.specs.Opened.{HoldsPointers, IsOpened}
use Rattle.mq_inodes.specs.Pages.{IsHeld, Pages, pages_of}
use Rattle.mq_inodes.specs.Walks.{HoldsName, last_of, placed}
use Rattle.mq_inodes.specs.declared.opened.Opened.{Opened}
use Rattle.mq_inodes.specs.declared.walk.Place.TheVariants.{In}
use Rattle.mq_inodes.specs.declared.working.Working.{Working}
use Rattle.mq_layout.specs.Places.{inode_block}
use Rattle.mq_tree.specs.Requests.{In as AtName, target, target_in, unused, walk}
use Rattle.mq_tree.specs.Volume.{Body, Dir, Volume, Way, body, find, slots_of}
use Rattle.mq_tree.specs.declared.request.Fault.{Fault}

pub placed-name : (pages : Pages) (v : Volume) (w parent : Way) (last : List ℕ) (d : ℕ) (o : Opened) (found free : Option ℕ) (blocks name : List ℕ) → w ≡ last ∷ parent → walk v parent ≡ Ok d → o.number ≡ d → body v d ≡ Dir (slots_at pages o.blocks.items) → blocks ≡ o.blocks.items → name ≡ last
    → found ≡ find name (slots_at pages blocks) → placed w (In o found free) ≡ target v w
placed-name pages v w parent last d o found free blocks name is walks same dir these called e =
    let there : target v w ≡ AtName d last (find last (slots_of (body v d))) = ap (λ (x : Way). target v x) is ∙ ap (λ (r : Result ℕ Fault). target_in v last r) walks in
    let same_found : found ≡ find last (slots_of (body v d)) = e ∙ ap (λ (n : List ℕ). find n (slots_at pages blocks)) called ∙ ap (λ (bs : List ℕ). find last (slots_at pages bs)) these ∙ ap (λ (b : Body). find last (slots_of b)) (sym dir) in
    ap (λ (x : Way). AtName o.number (last_of x) found) is ∙ ap (λ (n : ℕ). AtName n last found) same ∙ ap (λ (f : Option ℕ). AtName d last f) same_found ∙ sym there

pub holds-name : (w : Working) (o : Opened) (d : ℕ) (found free : Option ℕ) (blocks : List ℕ) → o.number ≡ d → OfEach w (λ v. IsOpened w.geometry v o) → OfEach w (λ v. body v d ≡ Dir (slots_at (pages_of w) o.blocks.items)) → AreDirsAt (pages_of w) o.blocks.items → length o.blocks.items ≤ 1036
    → IsHeld (pages_of w) (inode_block w.geometry d) → HoldsPointers (pages_of w) o → blocks ≡ o.blocks.items → (found ≡ None → free ≡ unused 0 (slots_at (pages_of w) blocks)) → HoldsName w o found free
holds-name w o d found free blocks same opened slots dirs few table pointers these e = record {
  directory = record {
    opened = opened;
    slots = λ v agrees. ap (λ (x : ℕ). body v x) same ∙ slots v agrees;
    dirs = dirs;
    few = few;
    table = subst (λ (x : ℕ). IsHeld (pages_of w) (inode_block w.geometry x)) (sym same) table;
    pointers = pointers;
  };
  slot = λ none. e none ∙ ap (λ (bs : List ℕ). unused 0 (slots_at (pages_of w) bs)) these;
}
