-- Volumes that are alike answer requests to read alike.
use Rattle.std.proofs.Common.{◌≡◌, ℕ, zero, suc, ◌+◌, List, [], ◌∷◌, ◌++◌, length, refl, sym, ap, ◌∙◌, arith}
use Rattle.std.specs.Prelude.{Option, Some, None, Result, Ok, Err, codes, if◌then◌else◌}
use Rattle.std.specs.List.{list_all}
use Rattle.mq_blocks.specs.declared.geometry.Geometry.{Geometry}
use Rattle.mq_layout.specs.Names.{is_name}
use Rattle.mq_layout.specs.Slots.{Entry}
use Rattle.mq_tree.specs.ListText.{Item, entries_in, head_of, items_of, line_of, lines, list_text, name_count, path_of, slot_count}
use Rattle.mq_tree.specs.Requests.{In, Lost, Root, Says, RequestTarget, Verdict, asks, enter, go_on, into_dir, read_in, refused, target, target_in, verdict, walk}
use Rattle.mq_tree.specs.Trees.{IsAlike}
use Rattle.mq_tree.specs.Volume.{ADir, AFile, Body, Free, File, Dir, Path, Thing, Volume, Way, body, find, slots_of, thing, way}
use Rattle.mq_tree.specs.declared.request.Fault.{Fault}
use Rattle.mq_tree.specs.declared.request.Fault.TheVariants.{BadName}
use Rattle.mq_tree.specs.declared.request.Request.TheVariants.{Read}

no-thing : {R : Type 0} (t : Thing) → None ≡ Some t → R
no-thing t e = absurd (cc)

no-file : {R : Type 0} (bytes : List ℕ) → Some (AFile bytes) ≡ Some ADir → R
no-file bytes e = absurd (cc)

-- a function of what a body is, which does not look at the slots of a directory
pub same-on : {X : Type 0} (f : Body → X) → ((s t : List (Option Entry)) → f (Dir s) ≡ f (Dir t)) → (a b : Body) → thing a ≡ thing b → f a ≡ f b
same-on f dirs Free Free e = refl
same-on f dirs Free (File ys) e = no-thing (AFile ys) e
same-on f dirs Free (Dir t) e = no-thing ADir e
same-on f dirs (File xs) Free e = no-thing (AFile xs) (sym e)
same-on f dirs (File xs) (File ys) e = let same : xs ≡ ys = cc in ap (λ (bytes : List ℕ). f (File bytes)) same
same-on f dirs (File xs) (Dir t) e = no-file xs e
same-on f dirs (Dir s) Free e = no-thing ADir (sym e)
same-on f dirs (Dir s) (File ys) e = no-file ys (sym e)
same-on f dirs (Dir s) (Dir t) e = dirs s t

same-read : (v w : Volume) (at count : ℕ) → IsAlike v w → (i : ℕ) → read_in at count (body v i) ≡ read_in at count (body w i)
same-read v w at count alike i = same-on (read_in at count) (λ s t. refl) (body v i) (body w i) (alike.each i).0

same-enter : (v w : Volume) → IsAlike v w → (o : Option ℕ) → enter v o ≡ enter w o
same-enter v w alike None = refl
same-enter v w alike (Some i) = same-on (into_dir i) (λ s t. refl) (body v i) (body w i) (alike.each i).0

same-step : (v w : Volume) → IsAlike v w → (name : List ℕ) (r : Result ℕ Fault) → go_on v name r ≡ go_on w name r
same-step v w alike name (Err fault) = refl
same-step v w alike name (Ok d) = ap (enter v) ((alike.each d).1.finds name) ∙ same-enter v w alike (find name (slots_of (body w d)))

same-walk : (v w : Volume) → IsAlike v w → (way : Way) → walk v way ≡ walk w way
same-walk v w alike [] = refl
same-walk v w alike (name ∷ way) = ap (go_on v name) (same-walk v w alike way) ∙ same-step v w alike name (walk w way)

same-target_in : (v w : Volume) → IsAlike v w → (name : List ℕ) (r : Result ℕ Fault) → target_in v name r ≡ target_in w name r
same-target_in v w alike name (Err fault) = refl
same-target_in v w alike name (Ok d) = ap (In d name) ((alike.each d).1.finds name)

same-target : (v w : Volume) → IsAlike v w → (way : Way) → target v way ≡ target w way
same-target v w alike [] = refl
same-target v w alike (name ∷ way) = ap (target_in v name) (same-walk v w alike way) ∙ same-target_in v w alike name (walk w way)

same-asks : (v w : Volume) (at count : ℕ) → IsAlike v w → (t : RequestTarget) → asks v (read_in at count) t ≡ asks w (read_in at count) t
same-asks v w at count alike Root = ap Says (same-read v w at count alike 0)
same-asks v w at count alike (Lost fault) = refl
same-asks v w at count alike (In d name None) = refl
same-asks v w at count alike (In d name (Some i)) = ap Says (same-read v w at count alike i)

pub alike-reads : (g : Geometry) (q : ℕ) (v w : Volume) → IsAlike v w → (path : Path) (at count : ℕ) → verdict g q v (Read path at count) ≡ verdict g q w (Read path at count)
alike-reads g q v w alike path at count =
    ap (λ (x : Verdict). if list_all is_name path then x else refused BadName) (ap (asks v (read_in at count)) (same-target v w alike (way path)) ∙ same-asks v w at count alike (target w (way path)))

-- ---- listings

same-line : (v w : Volume) → IsAlike v w → (path : List ℕ) (i : ℕ) → line_of path (body v i) ≡ line_of path (body w i)
same-line v w alike path i = ap (λ (h : List ℕ). h ++ path ++ codes "\n") (same-on head_of (λ s t. refl) (body v i) (body w i) (alike.each i).0)

same-lines : (count : ℕ) (v w : Volume) → IsAlike v w → (todo : List Item) → lines count v todo ≡ lines count w todo
unfolding lines
same-lines zero v w alike todo = refl
same-lines (suc count) v w alike [] = refl
same-lines (suc count) v w alike (x ∷ todo) =
    let i = x.entry.inode in
    let below = λ (es : List Entry). items_of (path_of x) es ++ todo in
    ap (λ (l : List ℕ). l ++ lines count v (below (entries_in (slots_of (body v i))))) (same-line v w alike (path_of x) i)
    ∙ ap (λ (es : List Entry). line_of (path_of x) (body w i) ++ lines count v (below es)) (alike.each i).1.entries
    ∙ ap (λ (l : List ℕ). line_of (path_of x) (body w i) ++ l) (same-lines count v w alike (below (entries_in (slots_of (body w i)))))

same-slots : (v w : Volume) → length v ≡ length w → ((i : ℕ) → entries_in (slots_of (body v i)) ≡ entries_in (slots_of (body w i))) → slot_count v ≡ slot_count w
same-slots [] [] e h = refl
same-slots [] (m ∷ w) e h = absurd (omega arith)
same-slots (n ∷ v) [] e h = absurd (omega arith)
same-slots (n ∷ v) (m ∷ w) e h = ap (λ (es : List Entry). length es + slot_count v) (h zero) ∙ ap (λ (k : ℕ). name_count m.body + k) (same-slots v w (omega arith) (λ i. h (suc i)))

pub alike-text : (v w : Volume) → IsAlike v w → list_text v ≡ list_text w
alike-text v w alike =
    ap (λ (l : List ℕ). l ++ lines (slot_count v) v (items_of [] (entries_in (slots_of (body v 0))))) (same-line v w alike (codes "/") 0)
    ∙ ap (λ (es : List Entry). line_of (codes "/") (body w 0) ++ lines (slot_count v) v (items_of [] es)) (alike.each 0).1.entries
    ∙ ap (λ (n : ℕ). line_of (codes "/") (body w 0) ++ lines n v (items_of [] (entries_in (slots_of (body w 0))))) (same-slots v w alike.count (λ i. (alike.each i).1.entries))
    ∙ ap (λ (l : List ℕ). line_of (codes "/") (body w 0) ++ l) (same-lines (slot_count w) v w alike (items_of [] (entries_in (slots_of (body w 0)))))
