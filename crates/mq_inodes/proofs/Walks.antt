-- Walking along a path, name by name.
use Rattle.std.proofs.Common.{get_or, ◌≡◌, ◌≢◌, ℕ, zero, suc, ◌+◌, ◌<◌, Bool, true, cond, List, [], ◌∷◌, ◌++◌, length, take, drop, refl, sym, ap, subst, ◌∙◌, inl, inr}
use Rattle.std.specs.Prelude.{Option, Some, None, Result, Ok, Err, option_and_then, reverse}
use Rattle.std.specs.Str.{bytes_eq}
use Rattle.std.proofs.lemmas.Bool.{cases_Bool, true≢false}
use Rattle.std.proofs.lemmas.List.{reverse-append, take-append-drop, take_more}
use Rattle.mq_blocks.specs.declared.geometry.Geometry.{Geometry}
use Rattle.mq_inodes.proofs.Sound.{used-low}
use Rattle.mq_layout.specs.Places.{inodes_of}
use Rattle.mq_layout.specs.Slots.{Entry}
use Rattle.mq_layout.specs.declared.inode.Inode.{Inode}
use Rattle.mq_inodes.specs.Walks.{IsDirectory, LeadsPast, LooksIn, LooksUnder, directory, inode}
use Rattle.mq_tree.proofs.TreesWalkways.{walk-err}
use Rattle.mq_tree.specs.Laid.{inode_of, kind_of}
use Rattle.mq_tree.specs.Looks.{Leads}
use Rattle.mq_tree.specs.Requests.{enter, go_on, into_dir, walk}
use Rattle.mq_tree.specs.Sound.{IsSound}
use Rattle.mq_tree.specs.Volume.{Body, Free, File, Dir, Volume, Way, body, find, inode_at, is_used, node, slots_of, way}
use Rattle.mq_tree.specs.declared.request.Fault.{Fault}
use Rattle.mq_tree.specs.declared.request.Fault.TheVariants.{NotDir}

-- ---- what a name leads to is used

found-slot : (name : List ℕ) (slots : List (Option Entry)) (i : ℕ) → find name slots ≡ Some i → (k : ℕ) × (e : Entry) × (get_or slots k None ≡ Some e) × (e.inode ≡ i)
found-slot name [] i h = absurd (cc)
found-slot name (None ∷ slots) i h = let r = found-slot name slots i h in (suc r.0, r.1, r.2, r.3)
found-slot name (Some e ∷ slots) i h = elim (cases_Bool (bytes_eq e.name name)) [
  | inl y ↦ (let f : Some e.inode ≡ Some i = sym (ap (λ (b : Bool). cond b (Some e.inode) (find name slots)) y) ∙ h in (zero, e, refl, (cc)))
  | inr n ↦ (let r = found-slot name slots i (sym (ap (λ (b : Bool). cond b (Some e.inode) (find name slots)) n) ∙ h) in (suc r.0, r.1, r.2, r.3))
]

pub found-used : (g : Geometry) (v : Volume) (d : ℕ) (name : List ℕ) (i : ℕ) → IsSound g v → find name (slots_of (body v d)) ≡ Some i → is_used (body v i) ≡ true
found-used g v d name i sound h =
    let r = found-slot name (slots_of (body v d)) i h in
    subst (λ j. is_used (body v j) ≡ true) r.3 (sound.named d r.0 r.1 r.2).1

pub found-low : (g : Geometry) (v : Volume) (d : ℕ) (name : List ℕ) (i : ℕ) → IsSound g v → find name (slots_of (body v d)) ≡ Some i → i < inodes_of g
found-low g v d name i sound h = used-low g v i sound (found-used g v d name i sound h)

into-file : (i : ℕ) (x : Body) → is_used x ≡ true → kind_of x ≢ 2 → into_dir i x ≡ Err NotDir
into-file i Free used other = absurd (true≢false (sym used))
into-file i (File bytes) used other = refl
into-file i (Dir slots) used other = absurd (other refl)

-- a file is not entered
pub not-entered : (g : Geometry) (v : Volume) (d : ℕ) (name : List ℕ) (i : ℕ) (n : Inode) → IsSound g v → find name (slots_of (body v d)) ≡ Some i → n ≡ inode_of (node v i) → n.kind ≢ 2 → Err NotDir ≡ enter v (find name (slots_of (body v d)))
not-entered g v d name i n sound h e other =
    sym (ap (λ (o : Option ℕ). enter v o) h ∙ into-file i (body v i) (found-used g v d name i sound h) (λ two. other (ap (λ (x : Inode). x.kind) e ∙ two)))

-- ---- where a walk ends

into-is : (i d : ℕ) (x : Body) → into_dir i x ≡ Ok d → (i ≡ d) × ((slots : List (Option Entry)) × (x ≡ Dir slots))
into-is i d Free e = absurd (cc)
into-is i d (File bytes) e = absurd (cc)
into-is i d (Dir slots) e = ((cc), (slots, refl))

record IsEnd (v : Volume) (way : Way) (d : ℕ) : Type 0 where
  dir : IsDirectory v d
  at : inode_at v way ≡ Some d

entered : (v : Volume) (o : Option ℕ) (d : ℕ) → enter v o ≡ Ok d → (o ≡ Some d) × IsDirectory v d
entered v None d e = absurd (cc)
entered v (Some i) d e = let r = into-is i d (body v i) e in (ap (λ (j : ℕ). Some j) r.0, subst (λ j. IsDirectory v j) r.0 r.1)

end-more : (g : Geometry) (v : Volume) (name : List ℕ) (w : Way) (d : ℕ) (r : Result ℕ Fault) → walk v w ≡ r → ((c : ℕ) → walk v w ≡ Ok c → IsEnd v w c) → walk v (name ∷ w) ≡ Ok d → IsEnd v (name ∷ w) d
end-more g v name w d (Err fault) is ends e = let f = sym (ap (λ (x : Result ℕ Fault). go_on v name x) is) ∙ e in absurd (cc)
end-more g v name w d (Ok c) is ends e =
    let h = ends c is in
    let f : enter v (find name (slots_of (body v c))) ≡ Ok d = sym (ap (λ (x : Result ℕ Fault). go_on v name x) is) ∙ e in
    let r = entered v (find name (slots_of (body v c))) d f in
    record { dir = r.1; at = ap (λ (o : Option ℕ). option_and_then (λ j. find name (slots_of (body v j))) o) h.at ∙ r.0 }

walk-end : (g : Geometry) (v : Volume) (w : Way) (d : ℕ) → IsSound g v → walk v w ≡ Ok d → IsEnd v w d
walk-end g v [] d sound e = let z : 0 ≡ d = cc in record { dir = subst (λ j. IsDirectory v j) z sound.root; at = ap (λ (j : ℕ). Some j) z }
walk-end g v (name ∷ w) d sound e = end-more g v name w d (walk v w) refl (λ c is. walk-end g v w c sound is) e

pub walk-dir : (g : Geometry) (v : Volume) (way : Way) (d : ℕ) → IsSound g v → walk v way ≡ Ok d → IsDirectory v d
walk-dir g v way d sound e = (walk-end g v way d sound e).dir

pub walk-at : (g : Geometry) (v : Volume) (way : Way) (d : ℕ) → IsSound g v → walk v way ≡ Ok d → inode_at v way ≡ Some d
walk-at g v way d sound e = (walk-end g v way d sound e).at

-- ---- a name more

way-more : (names : List (List ℕ)) (k : ℕ) (name : List ℕ) → k < length names → name ≡ get_or names k name → way (take (k + 1) names) ≡ name ∷ way (take k names)
way-more names k name l is = ap (λ (ns : List (List ℕ)). reverse ns) (take_more names k name l) ∙ reverse-append (take k names) (get_or names k name ∷ []) ∙ ap (λ (x : List ℕ). x ∷ reverse (take k names)) (sym is)

way-rest : (names : List (List ℕ)) (k : ℕ) → way names ≡ way (drop k names) ++ way (take k names)
way-rest names k = ap (λ (ns : List (List ℕ)). reverse ns) (sym (take-append-drop k names)) ∙ reverse-append (take k names) (drop k names)

pub walk-more : (v : Volume) (names : List (List ℕ)) (k : ℕ) (name : List ℕ) (d : ℕ) (r : Result ℕ Fault) → k < length names → name ≡ get_or names k name → walk v (way (take k names)) ≡ Ok d → r ≡ enter v (find name (slots_of (body v d))) → walk v (way (take (k + 1) names)) ≡ r
walk-more v names k name d r l is e h = ap (λ (w : Way). walk v w) (way-more names k name l is) ∙ ap (λ (x : Result ℕ Fault). go_on v name x) e ∙ sym h

pub walk-refused : (v : Volume) (names : List (List ℕ)) (k : ℕ) (fault : Fault) → walk v (way (take k names)) ≡ Err fault → Err fault ≡ walk v (way names)
walk-refused v names k fault e = sym (ap (λ (w : Way). walk v w) (way-rest names k) ∙ walk-err v (way (take k names)) (way (drop k names)) fault e)

-- ---- what is looked at on the way

pub leads-here : (v : Volume) (way : Way) (i : ℕ) → inode_at v way ≡ Some i → Leads v way i
leads-here v [] i e = e
leads-here v (name ∷ way) i e = inl e

leads-longer : (v : Volume) (xs way : Way) (i : ℕ) → Leads v way i → Leads v (xs ++ way) i
leads-longer v [] way i h = h
leads-longer v (x ∷ xs) way i h = inr (leads-longer v xs way i h)

pub past-longer : (g : Geometry) (v : Volume) (xs way : Way) (b : ℕ) → LeadsPast g v way b → LeadsPast g v (xs ++ way) b
past-longer g v xs way b (inode i h e) = inode i (leads-longer v xs way i h) e
past-longer g v xs way b (directory i slots h is has) = directory i slots (leads-longer v xs way i h) is has

pub past-in : (g : Geometry) (v : Volume) (way : Way) (d b : ℕ) → IsSound g v → walk v way ≡ Ok d → LooksIn g v d b → LeadsPast g v way b
past-in g v way d b sound e (inl h) = inode d (leads-here v way d (walk-end g v way d sound e).at) h
past-in g v way d b sound e (inr h) = let w = walk-end g v way d sound e in directory d w.dir.0 (leads-here v way d w.at) w.dir.1 h

past-under : (g : Geometry) (v : Volume) (name : List ℕ) (way : Way) (d b : ℕ) → IsSound g v → walk v way ≡ Ok d → LooksUnder g v d name b → LeadsPast g v (name ∷ way) b
past-under g v name way d b sound e (inl h) = past-longer g v (name ∷ []) way b (past-in g v way d b sound e h)
past-under g v name way d b sound e (inr (i, is, h)) = inode i (inl (ap (λ (o : Option ℕ). option_and_then (λ j. find name (slots_of (body v j))) o) (walk-end g v way d sound e).at ∙ is)) h

-- while the names are gone through
pub past-walk : (g : Geometry) (v : Volume) (names : List (List ℕ)) (k : ℕ) (name : List ℕ) (d b : ℕ) → IsSound g v → k < length names → name ≡ get_or names k name → walk v (way (take k names)) ≡ Ok d → LooksUnder g v d name b → LeadsPast g v (way names) b
past-walk g v names k name d b sound l is e h =
    subst (λ (w : Way). LeadsPast g v w b) (sym (way-rest names (k + 1))) (past-longer g v (way (drop (k + 1) names)) (way (take (k + 1) names)) b
    (subst (λ (w : Way). LeadsPast g v w b) (sym (way-more names k name l is)) (past-under g v name (way (take k names)) d b sound e h)))

-- ---- the last name

pub way-last : (path names : List (List ℕ)) (last : List ℕ) → path ≡ names ++ last ∷ [] → way path ≡ last ∷ way names
way-last path names last is = ap (λ (ns : List (List ℕ)). reverse ns) is ∙ reverse-append names (last ∷ [])
