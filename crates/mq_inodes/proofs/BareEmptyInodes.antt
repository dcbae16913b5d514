-- An inode that becomes an empty file or directory.
use Rattle.std.proofs.Common.{◌≡◌, ◌≢◌, ℕ, ◌<◌, ◌≤◌, ◌⊎◌, inl, inr, [], ◌∷◌, length, Bool, true, false, refl, sym, ap, subst, ◌∙◌, arith, length-set}
use Rattle.std.specs.Prelude.{None, if◌then◌else◌}
use Rattle.std.proofs.lemmas.Option.{none-some}
use Rattle.mq_blocks.proofs.JournalAmong.{among-cons, among-one}
use Rattle.mq_blocks.specs.Geometry.{meta_of}
use Rattle.mq_blocks.specs.Journal.{is_among}
use Rattle.mq_blocks.specs.declared.geometry.Geometry.{Geometry}
use Rattle.mq_inodes.specs.Changes.{IsInodeMarked, IsInodePut}
use Rattle.mq_inodes.specs.Edits.{Becomes, Carries, KeepsKinds}
use Rattle.mq_inodes.specs.Pages.{pages_of}
use Rattle.mq_inodes.specs.Bare.{empty_body, with_inode}
use Rattle.mq_inodes.specs.declared.working.Working.{Working}
use Rattle.mq_inodes.proofs.EditsBecoming.{becomes-stepped}
use Rattle.mq_inodes.proofs.ChangesBodies.{bare-form}
use Rattle.mq_inodes.proofs.ChangesUses.{used-links}
use Rattle.mq_inodes.proofs.ChangesInodes.{bare}
use Rattle.mq_inodes.proofs.ChangesVolumes.{bare-uses, made-step}
use Rattle.mq_layout.specs.Inodes.{IsInode}
use Rattle.mq_layout.specs.declared.inode.Inode.{Inode}
use Rattle.mq_layout.specs.Places.{file_limit, inode_bitmap, inode_block, inodes_of}
use Rattle.mq_tree.specs.Laid.{inode_of, padded, size_of}
use Rattle.mq_tree.specs.Sound.{IsNode}
use Rattle.mq_tree.specs.Volume.{Free, Volume, body, is_used, node}
use Rattle.mq_tree.proofs.LaidRegions.{table-holds}

pub empty-used : (directory : Bool) → is_used (empty_body directory) ≡ true
empty-used true = refl
empty-used false = refl

empty-few : (directory : Bool) → size_of (empty_body directory) 0 ≤ file_limit
empty-few true = omega arith
empty-few false = omega arith

pub empty-form : (directory : Bool) → IsInode (inode_of (bare (empty_body directory)))
empty-form directory = bare-form (empty_body directory) (empty-used directory) (empty-few directory)

pub empty-is : (kind : ℕ) (directory : Bool) → kind ≡ (if directory then 2 else 1) → record { kind = kind; links = 1; size = 0; direct = 0 ∷ 0 ∷ 0 ∷ 0 ∷ 0 ∷ 0 ∷ 0 ∷ 0 ∷ 0 ∷ 0 ∷ 0 ∷ 0 ∷ []; indirect = 0 } ≡ inode_of (bare (empty_body directory))
unfolding padded
empty-is kind true e = ap (λ (k : ℕ). record { kind = k; links = 1; size = 0; direct = 0 ∷ 0 ∷ 0 ∷ 0 ∷ 0 ∷ 0 ∷ 0 ∷ 0 ∷ 0 ∷ 0 ∷ 0 ∷ 0 ∷ []; indirect = 0 }) e
empty-is kind false e = ap (λ (k : ℕ). record { kind = k; links = 1; size = 0; direct = 0 ∷ 0 ∷ 0 ∷ 0 ∷ 0 ∷ 0 ∷ 0 ∷ 0 ∷ 0 ∷ 0 ∷ 0 ∷ 0 ∷ []; indirect = 0 }) e

-- one of both blocks
among-two : (a b x : ℕ) → is_among x (a ∷ b ∷ []) ≡ true → (x ≡ a) ⊎ (x ≡ b)
among-two a b x y = elim (among-cons a x (b ∷ []) y) [
  | inl e ↦ inl e
  | inr rest ↦ inr (among-one b x rest)
]

-- both are in the metadata region
low-two : (g : Geometry) (i x : ℕ) → i < inodes_of g → is_among x (inode_bitmap g ∷ inode_block g i ∷ []) ≡ true → x < meta_of g
low-two g i x low y =
    let t = table-holds g i low in
    elim (among-two (inode_bitmap g) (inode_block g i) x y) [
      | inl e ↦ omega arith
      | inr e ↦ omega arith
    ]

pub inode-made : (g : Geometry) (v : Volume) (i : ℕ) (directory : Bool) (inode : Inode) (old mid new : Working) → Carries g (pages_of old) v → i < inodes_of g → IsNode (node v i) → body v i ≡ Free → old.geometry ≡ g → mid.geometry ≡ g → KeepsKinds old mid → KeepsKinds mid new
    → IsInodeMarked g (pages_of old) (pages_of mid) i true → inode ≡ inode_of (bare (empty_body directory)) → IsInodePut mid.geometry (pages_of mid) (pages_of new) i inode → Becomes g v (with_inode v i (empty_body directory)) old new
inode-made g v i directory inode old mid new c inside good is same at kinds kinds_then m says put =
    let y = empty_body directory in
    let low : i < length v = (let e = c.count in omega arith) in
    let step = made-step g v i y (pages_of old) (pages_of mid) (pages_of new) c.uses low inside good is (empty-used directory) (empty-few directory) c.fits m p in
    becomes-stepped g v (with_inode v i y) old new (inode_bitmap g ∷ inode_block g i ∷ []) c (bare-uses g v i (bare y) c.uses low refl refl (used-links y (empty-used directory))) (length-set v i (bare y)) step
    known (λ b high out. kinds_then b (subst (λ x. meta_of x ≤ b) (sym at) high) ∙ kinds b (subst (λ x. meta_of x ≤ b) (sym same) high))
    (λ b kind high y e. absurd (let l = low-two g i b inside y in omega arith))
  where
    p : IsInodePut g (pages_of mid) (pages_of new) i (inode_of (bare (empty_body directory)))
    p = subst (λ n. IsInodePut g (pages_of mid) (pages_of new) i n) says (subst (λ h. IsInodePut h (pages_of mid) (pages_of new) i inode) at put)

    known : (b : ℕ) → is_among b (inode_bitmap g ∷ inode_block g i ∷ []) ≡ true → pages_of old b ≢ None
    known b y none = elim (among-two (inode_bitmap g) (inode_block g i) b y) [
      | inl e ↦ none-some _ (sym none ∙ ap (pages_of old) e ∙ m.was)
      | inr e ↦
          let other : inode_block g i ≢ inode_bitmap g = λ f. absurd (omega arith) in
          none-some _ (sym none ∙ ap (pages_of old) e ∙ sym (m.put.others (inode_block g i) other) ∙ p.was)
    ]
