-- A group that neither writes nor frees leaves the volume as it is, and one that does changes it.
use Rattle.std.proofs.Common.{◌≡◌, ◌≢◌, ◌∙◌, ℕ, inl, inr, true, false, List, [], ◌∷◌, refl, sym, ap, subst, arith}
use Rattle.std.specs.Prelude.{◌↔◌, Option, Some, None}
use Rattle.std.specs.Str.{bytes_eq}
use Rattle.std.proofs.lemmas.Bool.{cases_Bool, true≢false}
use Rattle.std.proofs.lemmas.Slice.Eq.{bytes_eq-Decides}
use Rattle.mq_blocks.specs.Machine.{Map}
use Rattle.mq_blocks.specs.declared.geometry.Geometry.{Geometry}
use Rattle.mq_exec.specs.Moves.{IsFreed, IsWritten, Moves}
use Rattle.mq_calls.specs.Entries.{Changes}
use Rattle.mq_inodes.proofs.LaidOnce.{page-once, shown-taken, shown-vacant}
use Rattle.mq_inodes.proofs.Sound.{sound-uses}
use Rattle.mq_inodes.specs.Changes.{IsOfFile}
use Rattle.mq_run_laws.proofs.LaidMaps.{same-volume}
use Rattle.mq_pages.specs.declared.page.Kind.{Kind}
use Rattle.mq_pages.specs.declared.page.Kind.TheVariants.{Data, Meta}
use Rattle.mq_pages.specs.declared.page.Write.{Write}
use Rattle.mq_tree.specs.Laid.{IsLaid, ShowsPage}
use Rattle.mq_tree.specs.Volume.{Volume, is_taken}

-- ---- what changes something

-- nothing is written or freed from a volume to itself
same-unwritten : (g : Geometry) (v : Volume) (x : Write) → IsWritten g v v x → ⊥
same-unwritten g v x h = h.new h.now

same-unfreed : (v : Volume) (b : ℕ) → IsFreed v v b → ⊥
same-unfreed v b h = true≢false (sym h.0 ∙ h.1)

moves-none : (g : Geometry) (v : Volume) (writes : List Write) (frees : List ℕ) → Moves g v v writes frees → Changes writes frees → ⊥
moves-none g v [] [] m c = absurd (omega (arith, c))
moves-none g v (x ∷ xs) frees m c = same-unwritten g v x ((m.written x).0 (0, (omega arith), refl))
moves-none g v [] (b ∷ bs) m c = same-unfreed v b ((m.freed b).0 (0, (omega arith), refl))

pub moves-change : (g : Geometry) (v w : Volume) (writes : List Write) (frees : List ℕ) → Moves g v w writes frees → Changes writes frees → w ≢ v
moves-change g v w writes frees m c e = moves-none g v writes frees (subst (λ (x : Volume). Moves g v x writes frees) e m) c

-- ---- what changes nothing

unwritten : (g : Geometry) (v w : Volume) → Moves g v w [] [] → (b : ℕ) (page : List ℕ) → ShowsPage g w b page → (ShowsPage g v b page → ⊥) → ⊥
unwritten g v w m b page now new = not_file not_data
  where
    none : (kind : Kind) → (kind ≡ Data) ↔ IsOfFile w b → ⊥
    none kind is =
        let x : Write = record { block = b; kind = kind; content = page } in
        let c = (m.written x).1 (record { now = now; new = new; kind = is }) in
        omega (arith, c.1)

    not_file : (IsOfFile w b → ⊥) → ⊥
    not_file nay = none Meta (λ e. absurd (cc), λ f. absurd (nay f))

    not_data : IsOfFile w b → ⊥
    not_data f = none Data (λ e. f, λ h. refl)

unfreed : (g : Geometry) (v w : Volume) → Moves g v w [] [] → (b : ℕ) → is_taken v b ≡ true → is_taken w b ≡ false → ⊥
unfreed g v w m b there gone = let c = (m.freed b).1 (there, gone) in omega (arith, c.1)

same-page : (p q : List ℕ) → (p ≢ q → ⊥) → p ≡ q
same-page p q h = elim (cases_Bool (bytes_eq p q)) [
  | inl same ↦ (bytes_eq-Decides p q).0 same
  | inr other ↦ absurd (h (λ e. true≢false (sym ((bytes_eq-Decides p q).1 e) ∙ other)))
]

quiet-at : (g : Geometry) (m n : Map) (v w : Volume) → IsLaid g m v → IsLaid g n w → Moves g v w [] [] → (b : ℕ) (o p : Option (List ℕ)) → n b ≡ o → m b ≡ p → o ≡ p
quiet-at g m n v w h k moves b None None e f = refl
quiet-at g m n v w h k moves b None (Some q) e f =
    let free = k.vacant b e in
    absurd (unfreed g v w moves b (shown-taken g v b q free.0 (h.shown b q f)) free.1)
quiet-at g m n v w h k moves b (Some p) None e f =
    absurd (unwritten g v w moves b p (k.shown b p e) (λ s. shown-vacant g v b p s (h.vacant b f)))
quiet-at g m n v w h k moves b (Some p) (Some q) e f = ap Some (same-page p q (λ other.
    unwritten g v w moves b p (k.shown b p e) (λ s. other (page-once g v b p q (sound-uses g v h.sound) s (h.shown b q f)))))

-- two volumes that lie on maps are the same where nothing is written or freed from the one to the other
pub moves-stay : (g : Geometry) (m n : Map) (v w : Volume) → IsLaid g m v → IsLaid g n w → Moves g v w [] [] → w ≡ v
moves-stay g m n v w h k moves = same-volume g n m w v k h (λ b. quiet-at g m n v w h k moves b (n b) (m b) refl refl)
