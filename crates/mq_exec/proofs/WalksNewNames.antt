-- Names that stand for nothing yet, in directories that are there.
use Rattle.std.proofs.Common.{◌≡◌, ℕ, true, List, [], ◌∷◌, refl, sym, ap, subst, ◌∙◌, inl, inr}
use Rattle.std.specs.Prelude.{Option, None, Result, Ok, Err}
use Rattle.std.specs.List.{list_all}
use Rattle.mq_blocks.specs.declared.geometry.Geometry.{Geometry}
use Rattle.mq_layout.specs.Names.{IsName, is_name}
use Rattle.mq_inodes.specs.Walks.{HoldsName, HoldsPlace, IsDirectory, LeadsPast, LooksIn, directory, inode, last_of, named, placed}
use Rattle.mq_inodes.specs.declared.opened.Opened.{Opened}
use Rattle.mq_inodes.specs.declared.walk.Place.{Place}
use Rattle.mq_inodes.specs.declared.walk.Place.TheVariants.{In as PlacedIn}
use Rattle.mq_inodes.specs.declared.walk.Target.{Target}
use Rattle.mq_inodes.specs.declared.walk.Target.TheVariants.{In}
use Rattle.mq_inodes.specs.declared.working.Working.{Working}
use Rattle.mq_inodes.proofs.Walks.{leads-here, walk-at, walk-dir}
use Rattle.mq_tree.specs.Looks.{Leads}
use Rattle.mq_tree.specs.Requests.{In as AtName, target, target_in, walk}
use Rattle.mq_tree.specs.Sound.{IsSound}
use Rattle.mq_tree.specs.Volume.{Path, Volume, Way, way}
use Rattle.mq_tree.specs.declared.request.Fault.{Fault}
use Rattle.mq_tree.proofs.RequestsTargets.{last-good}

-- nothing stands under the last name, in this directory
pub record IsNew (v : Volume) (w : Way) (d : ℕ) : Type 0 where
  pub target_is : target v w ≡ AtName d (last_of w) None
  pub above : Leads v w d
  pub dir : IsDirectory v d

new-end : (g : Geometry) (v : Volume) (name : List ℕ) (w : Way) (d : ℕ) (r : Result ℕ Fault) → IsSound g v → walk v w ≡ r → AtName d name None ≡ target_in v name r → IsNew v (name ∷ w) d
new-end g v name w d (Err fault) sound is e = absurd (cc)
new-end g v name w d (Ok c) sound is e =
    let same : c ≡ d = cc in
    let walks : walk v w ≡ Ok d = is ∙ ap (λ (x : ℕ). Ok x) same in
    record { target_is = ap (λ (x : Result ℕ Fault). target_in v name x) is ∙ sym e; above = inr (leads-here v w d (walk-at g v w d sound walks)); dir = walk-dir g v w d sound walks }

new-at : (g : Geometry) (v : Volume) (w : Way) (d : ℕ) → IsSound g v → AtName d (last_of w) None ≡ target v w → IsNew v w d
new-at g v [] d sound e = absurd (cc)
new-at g v (name ∷ w) d sound e = new-end g v name w d (walk v w) sound refl e

new-named : (g : Geometry) (v : Volume) (w : Way) (d : ℕ) → IsSound g v → named w (In d None) ≡ target v w → IsNew v w d
new-named g v w d sound e = new-at g v w d sound e

pub new-name : (g : Geometry) (v : Volume) (w : Way) (t : Target) (d : ℕ) (o : Option ℕ) → IsSound g v → t ≡ In d o → o ≡ None → named w t ≡ target v w → IsNew v w d
new-name g v w t d o sound is none e = new-named g v w d sound (subst (λ (x : Target). named w x ≡ target v w) (is ∙ ap (λ (p : Option ℕ). In d p) none) e)

pub new-placed : (g : Geometry) (v : Volume) (w : Way) (t : Place) (o : Opened) (found free : Option ℕ) → IsSound g v → t ≡ PlacedIn o found free → found ≡ None → placed w t ≡ target v w → IsNew v w o.number
new-placed g v w t o found free sound is none e = new-at g v w o.number sound (sym (at-name w o) ∙ sym (ap (placed w) (is ∙ ap (λ (p : Option ℕ). PlacedIn o p free) none)) ∙ e)
  where
    at-name : (w : Way) (o : Opened) → placed w (PlacedIn o None free) ≡ AtName o.number (last_of w) None
    at-name w o = refl

pub held-place : (w : Working) (t : Place) (o : Opened) (found free : Option ℕ) → t ≡ PlacedIn o found free → HoldsPlace w t → HoldsName w o found free
held-place w t o found free is h = subst (λ (x : Place). HoldsPlace w x) is h

pub new-past : (g : Geometry) (v : Volume) (w : Way) (d b : ℕ) → IsNew v w d → LooksIn g v d b → LeadsPast g v w b
new-past g v w d b n (inl at) = inode d n.above at
new-past g v w d b n (inr has) = directory d n.dir.0 n.above n.dir.1 has

pub new-form : (v : Volume) (path : Path) (d : ℕ) → list_all is_name path ≡ true → IsNew v (way path) d → IsName (last_of (way path))
new-form v path d good n = go (way path) refl n.target_is
  where
    go : (w : Way) → way path ≡ w → target v w ≡ AtName d (last_of w) None → IsName (last_of w)
    go [] is e = absurd (cc)
    go (name ∷ parent) is e = last-good path name parent good is
