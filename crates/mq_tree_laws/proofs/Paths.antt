-- Links are paths.
use Rattle.std.proofs.Common.{◌≡◌, ℕ, inl, inr, List, [], ◌∷◌, true, refl, sym, ap, subst, ◌∙◌}
use Rattle.std.specs.Prelude.{Option, Some}
use Rattle.std.specs.List.{Contains}
use Rattle.std.proofs.lemmas.Bool.{cases_Bool, true≢false}
use Rattle.std.proofs.lemmas.List.{reverse-reverse}
use Rattle.std.proofs.lemmas.Option.{same_Some}
use Rattle.mq_blocks.specs.declared.geometry.Geometry.{Geometry}
use Rattle.mq_layout.specs.Slots.{Entry}
use Rattle.mq_tree.specs.Sound.{IsSound}
use Rattle.mq_tree.specs.Volume.{ADir, Body, File, Dir, Path, Volume, Way, body, inode_at, is_used, node, thing, way}
use Rattle.mq_tree.proofs.Members.{cons-cases, cons-here, none-contained}
use Rattle.mq_tree.proofs.RequestsTargets.{same-way}
use Rattle.mq_tree.proofs.SoundVolumes.{dir-links, sound-tree}
use Rattle.mq_tree.proofs.VolumePaths.{Edge, IsTree, file-dir, last-step, next-step, one-way, slot-dir, thing-used}
use Rattle.mq_tree_laws.specs.Paths.{HasPaths}
use Rattle.mq_tree_laws.proofs.Ways.{AreWaysOnce, Ends, apart-pairs, path_in, paths-apart, paths-from, paths-have, paths-length, paths_to}

-- ---- the way to each directory

abbrev UpTo : Volume → ℕ → Type 0
UpTo v d = (w : Way) × (is_used (body v d) ≡ true → inode_at v w ≡ Some d)

a-way : (v : Volume) → IsTree v → (d : ℕ) → UpTo v d
a-way v t d = elim (cases_Bool (is_used (body v d))) [
  | inl used ↦ let r = t.reached d used in (r.0, λ u. r.1)
  | inr free ↦ ([], λ u. absurd (true≢false (sym u ∙ free)))
]

abbrev up : (v : Volume) → IsTree v → ℕ → Way
up v t d = (a-way v t d).0

edge-dir : (v : Volume) (d : ℕ) (name : List ℕ) (i : ℕ) → Edge v d name i → thing (body v d) ≡ Some ADir
edge-dir v d name i f = slot-dir v d f.place f.entry f.there

up-leads : (v : Volume) (t : IsTree v) (d : ℕ) (name : List ℕ) (i : ℕ) → Edge v d name i → inode_at v (up v t d) ≡ Some d
up-leads v t d name i f = (a-way v t d).1 (thing-used (body v d) ADir (edge-dir v d name i f))

ways-once : (v : Volume) (t : IsTree v) (i : ℕ) → AreWaysOnce (up v t) i v
ways-once v t i d c a b f h same =
    same_Some d c (sym (up-leads v t d a i f) ∙ ap (λ (w : Way). inode_at v w) same ∙ up-leads v t c b i h)

-- ---- the paths to a file

path-leads : (v : Volume) (t : IsTree v) (i : ℕ) (path : Path) → Ends (up v t) i v path → inode_at v (way path) ≡ Some i
path-leads v t i path e =
    let d = e.directory in
    let turned : way path ≡ e.name ∷ up v t d = ap way e.is ∙ reverse-reverse (e.name ∷ up v t d) in
    ap (λ (w : Way). inode_at v w) turned ∙ next-step v e.name (up v t d) d i t.names (up-leads v t d e.name i e.found) e.found

leads-path : (v : Volume) (t : IsTree v) (i : ℕ) (bytes : List ℕ) → body v i ≡ File bytes → (path : Path) → inode_at v (way path) ≡ Some i → Contains (paths_to (up v t) i v) path
leads-path v t i bytes file path at = go (way path) refl at
  where
    go : (w : Way) → way path ≡ w → inode_at v w ≡ Some i → Contains (paths_to (up v t) i v) path
    go [] turned here = absurd (file-dir bytes (sym (ap (λ (b : Body). thing b) file) ∙ ap (λ (x : ℕ). thing (body v x)) (sym (same_Some 0 i here)) ∙ t.root))
    go (name ∷ q) turned here =
        let s = last-step v name q i here in
        let d = s.directory in
        let same = one-way v t.named t.once (up v t d) q d (edge-dir v d name i s.edge) (up-leads v t d name i s.edge) s.before in
        let is : path_in (up v t d) name ≡ path = ap (λ (r : Way). path_in r name) same ∙ ap way (sym turned) ∙ reverse-reverse path in
        subst (λ p. Contains (paths_to (up v t) i v) p) is (paths-have (up v t) i v d name s.edge)

pub file-paths : (g : Geometry) (v : Volume) (i : ℕ) (bytes : List ℕ) → IsSound g v → body v i ≡ File bytes → HasPaths v i (node v i).links
file-paths g v i bytes s file =
    let t = sound-tree g v s in
    record {
      paths = paths_to (up v t) i v;
      each = record {
        apart = apart-pairs (paths_to (up v t) i v) (paths-apart (up v t) i v (λ d. t.names d) (ways-once v t i));
        found = λ path c. path-leads v t i path (paths-from (up v t) i v path c);
        all = leads-path v t i bytes file;
      };
      count = paths-length (up v t) i v ∙ sym (s.counted i bytes file);
    }

-- ---- the path to a directory

pub dir-paths : (g : Geometry) (v : Volume) (i : ℕ) (slots : List (Option Entry)) → IsSound g v → body v i ≡ Dir slots → HasPaths v i (node v i).links
dir-paths g v i slots s is =
    let t = sound-tree g v s in
    let dir : thing (body v i) ≡ Some ADir = ap (λ (b : Body). thing b) is in
    let r = t.reached i (thing-used (body v i) ADir dir) in
    let leads : inode_at v (way (way r.0)) ≡ Some i = ap (λ (w : Way). inode_at v w) (reverse-reverse r.0) ∙ r.1 in
    record {
      paths = way r.0 ∷ [];
      each = record {
        apart = apart-pairs (way r.0 ∷ []) (λ c. none-contained (way r.0) c, tt);
        found = λ path c. elim (cons-cases (way r.0) [] path c) [
          | inl same ↦ ap (λ (p : Path). inode_at v (way p)) (sym same) ∙ leads
          | inr rest ↦ none-contained path rest
        ];
        all = λ path at. cons-here (way r.0) [] path (same-way (way r.0) path (one-way v t.named t.once (way (way r.0)) (way path) i dir leads at));
      };
      count = sym (dir-links (node v i) slots is (s.nodes i));
    }
