-- What stands under the last name of a path.
use Rattle.std.proofs.Common.{◌≡◌, ◌≢◌, ℕ, ◌<◌, true, List, [], ◌∷◌, refl, sym, ap, subst, ◌∙◌, inl, inr}
use Rattle.std.specs.Prelude.{MatchResult, Option, Some, Result, Ok, Err, option_and_then}
use Rattle.std.proofs.lemmas.Bool.{true≢false}
use Rattle.mq_blocks.specs.declared.geometry.Geometry.{Geometry}
use Rattle.mq_layout.specs.Places.{inode_block, inodes_of}
use Rattle.mq_layout.specs.declared.inode.Inode.{Inode}
use Rattle.mq_exec.specs.Plans.{IsFound, on_file}
use Rattle.mq_exec.specs.declared.file.Found.{Found}
use Rattle.mq_inodes.specs.Files.{IsFileOf}
use Rattle.mq_inodes.specs.Walks.{IsDirectory, LeadsPast, LooksIn, directory, inode, last_of, named}
use Rattle.mq_inodes.specs.declared.walk.Target.{Target}
use Rattle.mq_inodes.specs.declared.walk.Target.TheVariants.{In}
use Rattle.mq_inodes.proofs.Sound.{used-low}
use Rattle.mq_inodes.proofs.Walks.{found-used, leads-here, walk-at, walk-dir}
use Rattle.mq_tree.specs.Laid.{inode_of, kind_of}
use Rattle.mq_tree.specs.Looks.{Leads}
use Rattle.mq_tree.specs.Requests.{In as AtName, Verdict, refused, target, target_in, walk}
use Rattle.mq_tree.specs.Sound.{IsSound}
use Rattle.mq_tree.specs.Volume.{Body, Free, File, Dir, Path, Volume, Way, body, find, inode_at, is_used, node, slots_of, way}
use Rattle.mq_tree.specs.declared.request.Fault.{Fault}

-- an inode under the last name, in this directory
pub record IsUnder (v : Volume) (w : Way) (d i : ℕ) : Type 0 where
  pub target_is : target v w ≡ AtName d (last_of w) (Some i)
  pub leads : inode_at v w ≡ Some i
  pub above : Leads v w d
  pub dir : IsDirectory v d
  pub found : find (last_of w) (slots_of (body v d)) ≡ Some i
  pub used : is_used (body v i) ≡ true

under-end : (g : Geometry) (v : Volume) (name : List ℕ) (w : Way) (d i : ℕ) (r : Result ℕ Fault) → IsSound g v → walk v w ≡ r → AtName d name (Some i) ≡ target_in v name r → IsUnder v (name ∷ w) d i
under-end g v name w d i (Err fault) sound is e = absurd (cc)
under-end g v name w d i (Ok c) sound is e =
    let same : c ≡ d = cc in
    let walks : walk v w ≡ Ok d = is ∙ ap (λ (x : ℕ). Ok x) same in
    let some : find name (slots_of (body v d)) ≡ Some i = let f : Some i ≡ find name (slots_of (body v c)) = cc in ap (λ (x : ℕ). find name (slots_of (body v x))) (sym same) ∙ sym f in
    let at = walk-at g v w d sound walks in
    record {
      target_is = ap (λ (x : Result ℕ Fault). target_in v name x) walks ∙ ap (λ (x : Option ℕ). AtName d name x) some;
      leads = ap (λ (x : Option ℕ). option_and_then (λ j. find name (slots_of (body v j))) x) at ∙ some;
      above = inr (leads-here v w d at);
      dir = walk-dir g v w d sound walks;
      found = some;
      used = found-used g v d name i sound some;
    }

pub under-named : (g : Geometry) (v : Volume) (w : Way) (d i : ℕ) → IsSound g v → named w (In d (Some i)) ≡ target v w → IsUnder v w d i
under-named g v [] d i sound e = absurd (cc)
under-named g v (name ∷ w) d i sound e = under-end g v name w d i (walk v w) sound refl e

pub under : (g : Geometry) (v : Volume) (w : Way) (t : Target) (d : ℕ) (o : Option ℕ) (i : ℕ) → IsSound g v → t ≡ In d o → o ≡ Some i → named w t ≡ target v w → IsUnder v w d i
under g v w t d o i sound is some e = under-named g v w d i sound (subst (λ (x : Target). named w x ≡ target v w) (is ∙ ap (λ (x : Option ℕ). In d x) some) e)

pub under-low : (g : Geometry) (v : Volume) (w : Way) (d i : ℕ) → IsSound g v → IsUnder v w d i → i < inodes_of g
under-low g v w d i sound u = used-low g v i sound u.used

-- ---- at what is looked on the way

pub past-inode : (g : Geometry) (v : Volume) (w : Way) (d i b : ℕ) → IsUnder v w d i → b ≡ inode_block g i → LeadsPast g v w b
past-inode g v w d i b u at = inode i (leads-here v w i u.leads) at

pub past-above : (g : Geometry) (v : Volume) (w : Way) (d i b : ℕ) → IsUnder v w d i → LooksIn g v d b → LeadsPast g v w b
past-above g v w d i b u (inl at) = inode d u.above at
past-above g v w d i b u (inr has) = directory d u.dir.0 u.above u.dir.1 has

pub past-dir : (g : Geometry) (v : Volume) (w : Way) (d i b : ℕ) → IsUnder v w d i → IsDirectory v i → LooksIn g v i b → LeadsPast g v w b
past-dir g v w d i b u dir (inl at) = past-inode g v w d i b u at
past-dir g v w d i b u dir (inr has) = directory i dir.0 (leads-here v w i u.leads) dir.1 has

-- ---- files

file-body : (x : Body) → is_used x ≡ true → kind_of x ≢ 2 → (bytes : List ℕ) × (x ≡ File bytes)
file-body Free used other = absurd (true≢false (sym used))
file-body (File bytes) used other = (bytes, refl)
file-body (Dir slots) used other = absurd (other refl)

pub file-says : (v : Volume) (i : ℕ) (n : Inode) → is_used (body v i) ≡ true → n ≡ inode_of (node v i) → n.kind ≢ 2 → IsFileOf v i n
file-says v i n used says other =
    let f = file-body (body v i) used (λ two. other (ap (λ (x : Inode). x.kind) says ∙ two)) in
    record { says = says; bytes = f.0; is = f.1 }

pub found-file : (v : Volume) (path : Path) (d i : ℕ) (n : Inode) → IsUnder v (way path) d i → n ≡ inode_of (node v i) → n.kind ≢ 2 → IsFound v path (record { directory = d; number = i; inode = n })
found-file v path d i n u says other = record { target_is = u.target_is; file = file-says v i n u.used says other }

-- each request that changes a file is refused there
abbrev pub RefusesFile : Volume → Path → Fault → Type 0
RefusesFile v path fault = (act : ℕ → List ℕ → ℕ → List ℕ → Verdict) → on_file v act (target v (way path)) ≡ refused fault

pub file-found : (v : Volume) (path : Path) (r : Result Found Fault) (f : Found) → r ≡ Ok f → MatchResult r (IsFound v path) (RefusesFile v path) → IsFound v path f
file-found v path r f e h = subst (λ (x : Result Found Fault). MatchResult x (IsFound v path) (RefusesFile v path)) e h

pub file-refused : (v : Volume) (path : Path) (r : Result Found Fault) (fault : Fault) → r ≡ Err fault → MatchResult r (IsFound v path) (RefusesFile v path) → RefusesFile v path fault
file-refused v path r fault e h = subst (λ (x : Result Found Fault). MatchResult x (IsFound v path) (RefusesFile v path)) e h

pub found-under : (g : Geometry) (v : Volume) (path : Path) (f : Found) → IsSound g v → IsFound v path f → IsUnder v (way path) f.directory f.number
found-under g v path f sound h = under-named g v (way path) f.directory f.number sound (sym h.target_is)
