-- Steps of pages are steps of the volumes that they carry.
use Rattle.std.proofs.Common.{◌≡◌, ◌≢◌, ℕ, ◌≤◌, inl, inr, List, length, true, false, refl, sym, ◌∙◌}
use Rattle.std.specs.Prelude.{Some, None, ◌↔◌}
use Rattle.std.proofs.lemmas.Bool.{cases_Bool}
use Rattle.mq_blocks.specs.Geometry.{meta_of}
use Rattle.mq_blocks.specs.Journal.{is_among}
use Rattle.mq_blocks.specs.declared.geometry.Geometry.{Geometry}
use Rattle.mq_inodes.specs.Changes.{IsOfFile, Stepped}
use Rattle.mq_inodes.specs.Edits.{Becomes, Carries, IsOver, IsSameView, KindsFit}
use Rattle.mq_inodes.specs.Fits.{Agrees}
use Rattle.mq_inodes.specs.Pages.{Pages, kinds_of, pages_of}
use Rattle.mq_inodes.specs.declared.working.Working.{Working}
use Rattle.mq_inodes.proofs.ChangesRegions.{same-self, same-then}
use Rattle.mq_inodes.proofs.Sound.{sound-uses}
use Rattle.mq_pages.specs.declared.page.Kind.{Kind}
use Rattle.mq_pages.specs.declared.page.Kind.TheVariants.{Data}
use Rattle.mq_tree.specs.Volume.{Volume}
use Rattle.mq_tree.specs.Uses.{AreUses}

-- ---- pages

pub view-stays : (w : Working) → IsSameView w w
view-stays w = record { geometry = refl; pages = λ b. refl }

pub view-then : (a b c : Working) → IsSameView a b → IsSameView b c → IsSameView a c
view-then a b c s t = record { geometry = t.geometry ∙ s.geometry; pages = λ x. t.pages x ∙ s.pages x }

pub over-self : (w : Working) → IsOver w w
over-self w = record { view = view-stays w; absent = λ b e. e; known = λ b e. e }

pub over-then : (a b c : Working) → IsOver a b → IsOver b c → IsOver a c
over-then a b c s t = record {
  view = view-then a b c s.view t.view;
  absent = λ x e. t.absent x (s.absent x e);
  known = λ x e. s.known x (t.known x e);
}

-- ---- volumes

-- a sound volume of which the pages may be a part
pub carries-sound : (g : Geometry) (pages : Pages) (v : Volume) → Agrees g pages v → Carries g pages v
carries-sound g pages v a = record { uses = sound-uses g v a.sound; count = a.sound.count; fits = a.fits }

pub becomes-self : (g : Geometry) (v : Volume) (w : Working) → Carries g (pages_of w) v → Becomes g v v w w
becomes-self g v w c = record { carries = c; same = λ b e. same-self g v b; kinds = λ fit. fit }

-- one behind another
pub becomes-then : (g : Geometry) (v u w : Volume) (old mid new : Working) → IsOver old mid → Becomes g v u old mid → Becomes g u w mid new → Becomes g v w old new
becomes-then g v u w old mid new over s t = record {
  carries = t.carries;
  same = λ b e. same-then g v u w b (s.same b e) (t.same b (over.absent b e));
  kinds = λ fit. t.kinds (s.kinds fit);
}

-- A step of the pages, of which each listed block was known: the blocks of the zones that are listed were
-- put with the kinds of their uses.
pub becomes-fitted : (g : Geometry) (v w : Volume) (old new : Working) (blocks : List ℕ) → Carries g (pages_of old) v → AreUses g w → length w ≡ length v → Stepped g v w (pages_of new) blocks → ((b : ℕ) → is_among b blocks ≡ true → pages_of old b ≢ None)
    → ((b : ℕ) → meta_of g ≤ b → is_among b blocks ≡ false → kinds_of new b ≡ kinds_of old b)
    → (KindsFit g (kinds_of old) v → (b : ℕ) (kind : Kind) → meta_of g ≤ b → is_among b blocks ≡ true → kinds_of new b ≡ Some kind → (kind ≡ Data) ↔ IsOfFile w b)
    → Becomes g v w old new
becomes-fitted g v w old new blocks c uses size s known rest put = record {
  carries = record { uses = uses; count = size ∙ c.count; fits = s.fits };
  same = λ b none. elim (cases_Bool (is_among b blocks)) [
    | inl y ↦ absurd (known b y none)
    | inr n ↦ s.same b n
  ];
  kinds = λ fit b kind high e. elim (cases_Bool (is_among b blocks)) [
    | inl y ↦ put fit b kind high y e
    | inr n ↦
        let was = fit b kind high (sym (rest b high n) ∙ e) in
        let files = s.files b n in
        (λ d. files.0 (was.0 d), λ f. was.1 (files.1 f))
  ];
}

-- whatever kinds there were before
pub becomes-stepped : (g : Geometry) (v w : Volume) (old new : Working) (blocks : List ℕ) → Carries g (pages_of old) v → AreUses g w → length w ≡ length v → Stepped g v w (pages_of new) blocks → ((b : ℕ) → is_among b blocks ≡ true → pages_of old b ≢ None)
    → ((b : ℕ) → meta_of g ≤ b → is_among b blocks ≡ false → kinds_of new b ≡ kinds_of old b) → ((b : ℕ) (kind : Kind) → meta_of g ≤ b → is_among b blocks ≡ true → kinds_of new b ≡ Some kind → (kind ≡ Data) ↔ IsOfFile w b)
    → Becomes g v w old new
becomes-stepped g v w old new blocks c uses size s known rest put = becomes-fitted g v w old new blocks c uses size s known rest (λ fit. put)
