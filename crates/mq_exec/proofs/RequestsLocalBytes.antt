-- A file gets other bytes over the same blocks, in several of them at once.
use Rattle.std.proofs.Common.{get_or, ◌≡◌, ℕ, ◌+◌, ◌-◌, ◌<◌, ◌≤◌, ◌⊎◌, inl, inr, List, [], ◌∷◌, ◌++◌, length, drop, replicate, true, false, refl, sym, ap, subst, ◌∙◌, arith, length-append}
use Rattle.std.specs.Prelude.{Some, ◌↔◌, slice_get}
use Rattle.std.proofs.lemmas.List.{get_or_append_left, get_or-append_right, get_or-drop}
use Rattle.mq_blocks.specs.Journal.{is_among}
use Rattle.mq_blocks.specs.declared.geometry.Geometry.{Geometry}
use Rattle.mq_inodes.specs.Changes.{AreOthers, FitsAt, IsInodeTurned, Stepped}
use Rattle.mq_inodes.specs.Fits.{Fits}
use Rattle.mq_inodes.specs.Pages.{Pages}
use Rattle.mq_inodes.proofs.ChangesBodies.{inode-form, rebodied}
use Rattle.mq_inodes.proofs.Changes.{kept-rewrites, kept-uses, used-kind}
use Rattle.mq_inodes.proofs.ChangesInodes.{fits-inode}
use Rattle.mq_inodes.proofs.ChangesSteps.{step-over, zone-put}
use Rattle.mq_inodes.proofs.ChangesUses.{Rewrites, links-at, links-kind}
use Rattle.mq_layout.specs.Inodes.{IsInode}
use Rattle.mq_layout.specs.Places.{file_limit, inode_block, inodes_of}
use Rattle.mq_tree.proofs.KeptBytes.{cut-at}
use Rattle.mq_tree.specs.Laid.{IsPage, ShowsPart, inode_of, kind_of, size_of}
use Rattle.mq_tree.specs.Requests.{cut_to, spliced, with_body}
use Rattle.mq_tree.specs.Volume.{Body, Node, Part, Volume, body, is_used, node}
use Rattle.mq_tree.proofs.RequestsNodes.{cut-length}
use Rattle.mq_tree.proofs.FreeUses.{node-here, node-other}
use Rattle.mq_tree.specs.Uses.{AreUses}

-- a page that shows a part of the new body
pub record IsPartPut (v : Volume) (i : ℕ) (y : Body) (new : Pages) (x : ℕ) : Type 0 where
  pub place : ℕ
  pub page : List ℕ
  pub there : slice_get (node v i).blocks place ≡ Some x
  pub now : new x ≡ Some (Some page)
  pub form : IsPage page
  pub shows : ShowsPart y place page

-- Each listed block shows its part of the new body, or is that of the inode.
pub body-step : (g : Geometry) (v : Volume) (i : ℕ) (y : Body) (blocks : List ℕ) (old new : Pages) → AreUses g v → i < length v → i < inodes_of g → is_used (body v i) ≡ true → kind_of (body v i) ≡ kind_of y → size_of y (length (node v i).blocks) ≤ file_limit
    → (is_among (inode_block g i) blocks ≡ false → inode_of (node v i) ≡ inode_of (rebodied (node v i) y))
    → ((k c : ℕ) → is_among c blocks ≡ false → slice_get (node v i).blocks k ≡ Some c → (page : List ℕ) → ShowsPart (body v i) k page ↔ ShowsPart y k page)
    → Fits g old v → ((x : ℕ) → is_among x blocks ≡ false → new x ≡ old x)
    → ((x : ℕ) → is_among x blocks ≡ true → IsPartPut v i y new x ⊎ ((x ≡ inode_block g i) × IsInodeTurned g old new i (inode_of (rebodied (node v i) y)))) → Stepped g v (with_body v i y) new blocks
body-step g v i y blocks old new uses low inside used kind few inode show fits rest turns = step-over g v w i blocks old new uses fine r fits rest put
  where
    w : Volume
    w = with_body v i y

    here : node w i ≡ rebodied (node v i) y
    here = node-here v i (rebodied (node v i) y) low

    o : AreOthers v w i
    o = λ x other. node-other v i x (rebodied (node v i) y) other

    bs : (node w i).blocks ≡ (node v i).blocks
    bs = ap (λ (n : Node). n.blocks) here

    ind : (node w i).indirect ≡ (node v i).indirect
    ind = ap (λ (n : Node). n.indirect) here

    bd : body w i ≡ y
    bd = ap (λ (n : Node). n.body) here

    fine : AreUses g w
    fine = kept-uses g v w i uses o bs ind (links-at w i (rebodied (node v i) y) here (links-kind (body v i) y (node v i).links kind (uses.links i)))

    r : Rewrites g v w i blocks
    r = kept-rewrites g v w i blocks o bs ind (kind ∙ ap kind_of (sym bd)) (λ out. inode out ∙ ap inode_of (sym here))
        (λ k c out e page. subst (λ x. ShowsPart (body v i) k page ↔ ShowsPart x k page) (sym bd) (show k c out e page))

    good : IsInode (inode_of (node w i))
    good = inode-form g w i fine (sym (used-kind (body v i) (body w i) (kind ∙ ap kind_of (sym bd))) ∙ used) (subst (λ (n : Node). size_of n.body (length n.blocks) ≤ file_limit) (sym here) few)

    put : (x : ℕ) → is_among x blocks ≡ true → FitsAt g (new x) w x
    put x among = elim (turns x among) [
      | inl p ↦
          let there = ap (λ (xs : List ℕ). slice_get xs p.place) bs ∙ p.there in
          subst (λ o. FitsAt g o w x) (sym p.now) (zone-put g w (Part i p.place) x p.page fine there p.form (subst (λ b. ShowsPart b p.place p.page) (sym bd) p.shows))
      | inr t ↦ subst (λ b. FitsAt g (new b) w b) (sym t.0) (fits-inode g v w i old new inside o fits good (subst (λ n. IsInodeTurned g old new i (inode_of n)) (sym here) t.1))
    ]

-- ---- the bytes that a request makes

abbrev zeros : ℕ → List ℕ
zeros n = replicate n 0

-- before the new bytes
pub spliced-before : (at : ℕ) (xs bytes : List ℕ) (k : ℕ) → k < at → get_or (spliced at xs bytes) k 0 ≡ get_or bytes k 0
spliced-before at [] bytes k low = refl
spliced-before at (x ∷ xs) bytes k low =
    let n = cut-length at bytes in
    let m = length-append (cut_to at bytes) (x ∷ xs) in
    get_or_append_left (cut_to at bytes ++ (x ∷ xs)) (drop (at + length (x ∷ xs)) bytes) 0 k (omega arith) ∙ get_or_append_left (cut_to at bytes) (x ∷ xs) 0 k (omega arith) ∙ cut-at at bytes k low

-- at the new bytes
pub spliced-in : (at : ℕ) (xs bytes : List ℕ) (k : ℕ) → k < length xs → get_or (spliced at xs bytes) (at + k) 0 ≡ get_or xs k 0
spliced-in at [] bytes k low = absurd (omega arith)
spliced-in at (x ∷ xs) bytes k low =
    let n = cut-length at bytes in
    let m = length-append (cut_to at bytes) (x ∷ xs) in
    let e : at + k - at ≡ k = omega arith in
    get_or_append_left (cut_to at bytes ++ (x ∷ xs)) (drop (at + length (x ∷ xs)) bytes) 0 (at + k) (omega arith)
    ∙ get_or-append_right (cut_to at bytes) (x ∷ xs) at (at + k) 0 n (omega arith) ∙ ap (λ (j : ℕ). get_or (x ∷ xs) j 0) e

-- behind them
pub spliced-after : (at : ℕ) (xs bytes : List ℕ) (k : ℕ) → at + length xs ≤ k → get_or (spliced at xs bytes) k 0 ≡ get_or bytes k 0
spliced-after at [] bytes k past = refl
spliced-after at (x ∷ xs) bytes k past =
    let n = cut-length at bytes in
    let m = length-append (cut_to at bytes) (x ∷ xs) in
    let e : at + length (x ∷ xs) + (k - (at + length (x ∷ xs))) ≡ k = omega arith in
    get_or-append_right (cut_to at bytes ++ (x ∷ xs)) (drop (at + length (x ∷ xs)) bytes) (at + length (x ∷ xs)) k 0 (omega arith) past
    ∙ get_or-drop (at + length (x ∷ xs)) bytes (k - (at + length (x ∷ xs))) 0 ∙ ap (λ (j : ℕ). get_or bytes j 0) e
