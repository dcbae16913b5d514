-- Walking along paths of a tree that is kept.
use Rattle.std.proofs.Common.{get_or, ◌≡◌, ℕ, zero, suc, ◌+◌, ◌<◌, List, [], ◌∷◌, ◌++◌, length, take, drop, Bor, true, false, refl, sym, ap, ◌∙◌, arith}
use Rattle.std.specs.Prelude.{Option, Some, None, Result, Ok, Err, MatchOption, MatchResult}
use Rattle.std.specs.List.{list_all}
use Rattle.std.specs.Slice.{IsGetResult}
use Rattle.std.proofs.lemmas.List.{reverse-append, take-append-drop, take_more}
use Rattle.mq_layout.specs.Names.{is_name}
use Rattle.mq_tree.specs.Requests.{In, Lost, Root, Says, RequestTarget, asks, enter, go_on, into_dir, read_in, target, target_in, walk}
use Rattle.mq_tree.specs.Trees.{ReadsAs, body_kept, file_in, found_in, kept, read_answer}
use Rattle.mq_tree.specs.Volume.{Body, Free, File, Dir, Path, Volume, Way, body, find, slots_of, way}
use Rattle.mq_tree.specs.declared.contents.InodeContent.{InodeContent}
use Rattle.mq_tree.specs.declared.request.Fault.{Fault}
use Rattle.mq_tree.specs.declared.request.Fault.TheVariants.{BadName, NotFound}
use Rattle.mq_tree.proofs.TreesKeeping.{kept-past}

kept-at : (cs : List InodeContent) (i : ℕ) (d : InodeContent) → i < length cs → body (kept cs) i ≡ body_kept (get_or cs i d)
kept-at [] i d low = absurd (omega arith)
kept-at (c ∷ cs) zero d low = refl
kept-at (c ∷ cs) (suc i) d low = kept-at cs i d (omega arith)

pub content-at : (cs : List InodeContent) (v : Volume) (i : ℕ) (r : Option (Bor InodeContent)) → kept cs ≡ v → IsGetResult cs i i r → MatchOption r (body v i ≡ Free) (λ c. body v i ≡ body_kept c.now)
content-at cs v i None e h = ap (λ (w : Volume). body w i) (sym e) ∙ kept-past cs i h.3
content-at cs v i (Some c) e h = ap (λ (w : Volume). body w i) (sym e) ∙ kept-at cs i c.now h.3.0 ∙ ap body_kept (sym (h.3.1 c.now))

-- ---- the walk

way-push : (names : Path) (x : List ℕ) → way (names ++ x ∷ []) ≡ x ∷ way names
way-push names x = reverse-append names (x ∷ [])

way-more : (names : Path) (k : ℕ) (x : List ℕ) → k < length names → way (take (k + 1) names) ≡ get_or names k x ∷ way (take k names)
way-more names k x low = ap way (take_more names k x low) ∙ way-push (take k names) (get_or names k x)

pub walk-err : (v : Volume) (w more : Way) (f : Fault) → walk v w ≡ Err f → walk v (more ++ w) ≡ Err f
walk-err v w [] f e = e
walk-err v w (name ∷ more) f e = ap (go_on v name) (walk-err v w more f e)

-- once a walk is refused it stays so
walk-rest : (v : Volume) (names : Path) (k : ℕ) (f : Fault) → walk v (way (take k names)) ≡ Err f → walk v (way names) ≡ Err f
walk-rest v names k f e =
    let whole : way (take k names ++ drop k names) ≡ way (drop k names) ++ way (take k names) = reverse-append (take k names) (drop k names) in
    ap (λ (p : Path). walk v (way p)) (sym (take-append-drop k names)) ∙ ap (walk v) whole ∙ walk-err v (way (take k names)) (way (drop k names)) f e

walk-next : (v : Volume) (names : Path) (k d : ℕ) (x : List ℕ) → k < length names → walk v (way (take k names)) ≡ Ok d → walk v (way (take (k + 1) names)) ≡ enter v (find (get_or names k x) (slots_of (body v d)))
walk-next v names k d x low e = ap (walk v) (way-more names k x low) ∙ ap (go_on v (get_or names k x)) e

lost : (v : Volume) (o : Option ℕ) (f : Fault) → Err f ≡ found_in o → enter v o ≡ Err f
lost v None f e = sym e
lost v (Some i) f e = absurd (cc)

stuck : (v : Volume) (o : Option ℕ) (i : ℕ) (f : Fault) → Ok i ≡ found_in o → Err f ≡ into_dir i (body v i) → enter v o ≡ Err f
stuck v None i f e h = absurd (cc)
stuck v (Some j) i f e h = let same : i ≡ j = cc in ap (λ (x : ℕ). into_dir x (body v x)) (sym same) ∙ sym h

pub walk-lost : (v : Volume) (names : Path) (k d : ℕ) (x : List ℕ) (f : Fault) → k < length names → x ≡ get_or names k x → walk v (way (take k names)) ≡ Ok d → Err f ≡ found_in (find x (slots_of (body v d))) → Err f ≡ walk v (way names)
walk-lost v names k d x f low is e h =
    sym (walk-rest v names (k + 1) f (walk-next v names k d x low e ∙ ap (λ (n : List ℕ). enter v (find n (slots_of (body v d)))) (sym is) ∙ lost v (find x (slots_of (body v d))) f h))

pub walk-stuck : (v : Volume) (names : Path) (k d i : ℕ) (x : List ℕ) (f : Fault) → k < length names → x ≡ get_or names k x → walk v (way (take k names)) ≡ Ok d → Ok i ≡ found_in (find x (slots_of (body v d))) → Err f ≡ into_dir i (body v i) → Err f ≡ walk v (way names)
walk-stuck v names k d i x f low is e h j =
    sym (walk-rest v names (k + 1) f (walk-next v names k d x low e ∙ ap (λ (n : List ℕ). enter v (find n (slots_of (body v d)))) (sym is) ∙ stuck v (find x (slots_of (body v d))) i f h j))

pub walk-on : (v : Volume) (names : Path) (k d i e : ℕ) (x : List ℕ) → k < length names → x ≡ get_or names k x → walk v (way (take k names)) ≡ Ok d → Ok i ≡ found_in (find x (slots_of (body v d))) → Ok e ≡ into_dir i (body v i) → walk v (way (take (k + 1) names)) ≡ Ok e
walk-on v names k d i e x low is at h j =
    walk-next v names k d x low at ∙ ap (λ (n : List ℕ). enter v (find n (slots_of (body v d)))) (sym is) ∙ through (find x (slots_of (body v d))) h
  where
    through : (o : Option ℕ) → Ok i ≡ found_in o → enter v o ≡ Ok e
    through None h = absurd (cc)
    through (Some y) h = let same : i ≡ y = cc in ap (λ (z : ℕ). into_dir z (body v z)) (sym same) ∙ sym j

-- ---- files

-- what a target answers
abbrev pub answer : Volume → RequestTarget → Result (List ℕ) Fault
answer v Root = file_in (body v 0)
answer v (Lost f) = Err f
answer v (In d name None) = Err NotFound
answer v (In d name (Some i)) = file_in (body v i)

read-body : (b : Body) (at count : ℕ) → Says (read_in at count b) ≡ read_answer at count (file_in b)
read-body Free at count = refl
read-body (File bytes) at count = refl
read-body (Dir slots) at count = refl

read-target : (v : Volume) (t : RequestTarget) (at count : ℕ) → asks v (read_in at count) t ≡ read_answer at count (answer v t)
read-target v Root at count = read-body (body v 0) at count
read-target v (Lost f) at count = refl
read-target v (In d name None) at count = refl
read-target v (In d name (Some i)) at count = read-body (body v i) at count

pub reads-named : (v : Volume) (path : Path) (r : Result (List ℕ) Fault) → list_all is_name path ≡ true → answer v (target v (way path)) ≡ r → ReadsAs v path r
reads-named v path r good e g q at count = rw good (read-target v (target v (way path)) at count ∙ ap (read_answer at count) e)

pub reads-bad : (v : Volume) (path : Path) → list_all is_name path ≡ false → ReadsAs v path (Err BadName)
reads-bad v path bad g q at count = rw bad refl

-- where a path has a last name
last-target : (v : Volume) (path names : Path) (last : List ℕ) → path ≡ names ++ last ∷ [] → target v (way path) ≡ target_in v last (walk v (way names))
last-target v path names last e = ap (λ (p : Path). target v (way p)) e ∙ ap (target v) (way-push names last)

last-found : (v : Volume) (path names : Path) (last : List ℕ) (d : ℕ) → path ≡ names ++ last ∷ [] → Ok d ≡ walk v (way names) → target v (way path) ≡ In d last (find last (slots_of (body v d)))
last-found v path names last d e h = last-target v path names last e ∙ ap (target_in v last) (sym h)

abbrev pub ReadsSo : Volume → Path → Result (Bor (List ℕ)) Fault → Type 0
ReadsSo v path r = MatchResult r (λ bytes. ReadsAs v path (Ok bytes.now)) (λ fault. ReadsAs v path (Err fault))

abbrev pub HasFile : Body → Result (Bor (List ℕ)) Fault → Type 0
HasFile b r = MatchResult r (λ bytes. file_in b ≡ Ok bytes.now) (λ fault. file_in b ≡ Err fault)

reads-file : (v : Volume) (path : Path) (b : Body) (r : Result (Bor (List ℕ)) Fault) → list_all is_name path ≡ true → answer v (target v (way path)) ≡ file_in b → HasFile b r → ReadsSo v path r
reads-file v path b (Ok bytes) good e h = reads-named v path (Ok bytes.now) good (e ∙ h)
reads-file v path b (Err f) good e h = reads-named v path (Err f) good (e ∙ h)

pub reads-in : (v : Volume) (path names : Path) (last : List ℕ) (d i : ℕ) (r : Result (Bor (List ℕ)) Fault) → list_all is_name path ≡ true → path ≡ names ++ last ∷ [] → Ok d ≡ walk v (way names) → Ok i ≡ found_in (find last (slots_of (body v d))) → HasFile (body v i) r → ReadsSo v path r
reads-in v path names last d i r good e at found h =
    reads-file v path (body v i) r good (ap (answer v) (last-found v path names last d e at) ∙ through (find last (slots_of (body v d))) found) h
  where
    through : (o : Option ℕ) → Ok i ≡ found_in o → answer v (In d last o) ≡ file_in (body v i)
    through None h = absurd (cc)
    through (Some y) h = let same : i ≡ y = cc in ap (λ (z : ℕ). file_in (body v z)) (sym same)

pub reads-nothing : (v : Volume) (path names : Path) (last : List ℕ) (d : ℕ) (f : Fault) → list_all is_name path ≡ true → path ≡ names ++ last ∷ [] → Ok d ≡ walk v (way names) → Err f ≡ found_in (find last (slots_of (body v d))) → ReadsAs v path (Err f)
reads-nothing v path names last d f good e at found =
    reads-named v path (Err f) good (ap (answer v) (last-found v path names last d e at) ∙ through (find last (slots_of (body v d))) found)
  where
    through : (o : Option ℕ) → Err f ≡ found_in o → answer v (In d last o) ≡ Err f
    through None h = let same : NotFound ≡ f = cc in ap (λ (x : Fault). Err x) same
    through (Some y) h = absurd (cc)

pub reads-lost : (v : Volume) (path names : Path) (last : List ℕ) (f : Fault) → list_all is_name path ≡ true → path ≡ names ++ last ∷ [] → Err f ≡ walk v (way names) → ReadsAs v path (Err f)
reads-lost v path names last f good e at = reads-named v path (Err f) good (ap (answer v) (last-target v path names last e ∙ ap (target_in v last) (sym at)))

pub reads-root : (v : Volume) (path : Path) (r : Result (Bor (List ℕ)) Fault) → list_all is_name path ≡ true → length path ≡ 0 → HasFile (body v 0) r → ReadsSo v path r
reads-root v [] r good e h = reads-file v [] (body v 0) r good refl h
reads-root v (name ∷ path) r good e h = absurd (omega arith)
