-- Which blocks have parts of files, for the kind under which they are written.
use Rattle.std.proofs.Common.{◌≡◌, ℕ, ◌<◌, inl, inr, List, false, refl, sym, ap, ◌∙◌, arith}
use Rattle.std.specs.Prelude.{Option, Some, ◌↔◌, slice_get}
use Rattle.std.proofs.lemmas.Bool.{cases_eq}
use Rattle.mq_blocks.specs.Geometry.{meta_of}
use Rattle.mq_blocks.specs.Journal.{is_among}
use Rattle.mq_blocks.specs.declared.geometry.Geometry.{Geometry}
use Rattle.mq_inodes.specs.Changes.{AreOthers, IsOfFile, owner}
use Rattle.mq_inodes.proofs.ChangesFrame.{others-back}
use Rattle.mq_inodes.proofs.ChangesUses.{Rewrites}
use Rattle.mq_layout.specs.Slots.{Entry}
use Rattle.mq_pages.specs.declared.page.Kind.TheVariants.{Data, Meta}
use Rattle.mq_tree.specs.Laid.{kind_of}
use Rattle.mq_tree.specs.Volume.{Body, Free, File, Dir, Node, Use, Part, Pointers, Volume, block_in, body, node}
use Rattle.mq_tree.specs.Uses.{AreUses}

-- a part of a file
pub part-of-file : (w : Volume) (i place b : ℕ) (bytes : List ℕ) → block_in w (Part i place) ≡ Some b → body w i ≡ File bytes → IsOfFile w b
part-of-file w i place b bytes e is = record { inode = i; place = place; bytes = bytes; there = e; is = is }

file-dir : (bytes : List ℕ) (slots : List (Option Entry)) → File bytes ≡ Dir slots → ⊥
file-dir bytes slots e = let k : kind_of (File bytes) ≡ kind_of (Dir slots) = ap kind_of e in omega arith

part-use : (i place j k : ℕ) → Part i place ≡ Part j k → i ≡ j
part-use i place j k e = ap owner e

abbrev use_number : Use → ℕ
use_number (Part i k) = 0
use_number (Pointers i) = 1

-- a block of a directory, one of pointers, and one of the metadata region have none
pub dir-not-file : (g : Geometry) (w : Volume) (d place b : ℕ) (slots : List (Option Entry)) → AreUses g w → block_in w (Part d place) ≡ Some b → body w d ≡ Dir slots → IsOfFile w b → ⊥
dir-not-file g w d place b slots uses e is f =
    let same = part-use f.inode f.place d place (uses.apart (Part f.inode f.place) (Part d place) b f.there e) in
    file-dir f.bytes slots (sym f.is ∙ ap (λ (x : ℕ). body w x) same ∙ is)

pub pointers-not-file : (g : Geometry) (w : Volume) (i b : ℕ) → AreUses g w → block_in w (Pointers i) ≡ Some b → IsOfFile w b → ⊥
pointers-not-file g w i b uses e f =
    let k : use_number (Part f.inode f.place) ≡ use_number (Pointers i) = ap use_number (uses.apart (Part f.inode f.place) (Pointers i) b f.there e) in
    absurd (omega arith)

pub meta-not-file : (g : Geometry) (w : Volume) (b : ℕ) → AreUses g w → b < meta_of g → IsOfFile w b → ⊥
meta-not-file g w b uses low f = let z = (uses.zones (Part f.inode f.place) b f.there).0 in absurd (omega arith)

-- ---- blocks that are not listed

file-kind : (x y : Body) (bytes : List ℕ) → x ≡ File bytes → kind_of x ≡ kind_of y → (now : List ℕ) × (y ≡ File now)
file-kind x Free bytes is kind = let k = ap kind_of is in absurd (omega arith)
file-kind x (File now) bytes is kind = (now, refl)
file-kind x (Dir slots) bytes is kind = let k = ap kind_of is in absurd (omega arith)

-- an inode whose part stays where it is, and which stays a file
files-along : (v w : Volume) (i b : ℕ) → AreOthers v w i → ((k : ℕ) → slice_get (node v i).blocks k ≡ Some b → (slice_get (node w i).blocks k ≡ Some b) × (kind_of (body v i) ≡ kind_of (body w i))) → IsOfFile v b → IsOfFile w b
files-along v w i b o part f = elim (cases_eq f.inode i) [
  | inl e ↦
      let r = part f.place (ap (λ (x : ℕ). slice_get (node v x).blocks f.place) (sym e) ∙ f.there) in
      let n = file-kind (body v i) (body w i) f.bytes (ap (λ (x : ℕ). body v x) (sym e) ∙ f.is) r.1 in
      part-of-file w i f.place b n.0 r.0 n.1
  | inr other ↦
      let same = o f.inode other in
      part-of-file w f.inode f.place b f.bytes (ap (λ (n : Node). slice_get n.blocks f.place) same ∙ f.there) (ap (λ (n : Node). n.body) same ∙ f.is)
]

pub files-same : (g : Geometry) (v w : Volume) (i : ℕ) (blocks : List ℕ) → Rewrites g v w i blocks → (b : ℕ) → is_among b blocks ≡ false → IsOfFile v b ↔ IsOfFile w b
files-same g v w i blocks r b out = (
  files-along v w i b r.others (λ k e. (r.parts k b out e, r.kind k b out e)),
  files-along w v i b (others-back v w i r.others) (λ k e. let was = r.parts_were k b out e in (was, sym (r.kind k b out was))),
)

pub meta-not-data : Meta ≡ Data → ⊥
meta-not-data e = absurd (cc)
