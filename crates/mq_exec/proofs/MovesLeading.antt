-- What changed over a view is the transaction between the volumes before and after a group.
use Rattle.std.proofs.Common.{◌≡◌, ℕ, ◌<◌, ◌≤◌, inl, inr, List, length, drop, refl, sym, ap, subst, ◌∙◌}
use Rattle.std.specs.Prelude.{Option, Some, None, ◌↔◌}
use Rattle.std.specs.List.{All, Contains}
use Rattle.std.proofs.lemmas.Bool.{cases_lt}
use Rattle.std.proofs.lemmas.Option.{none-some}
use Rattle.mq_blocks.specs.Geometry.{meta_of}
use Rattle.mq_blocks.specs.declared.geometry.Geometry.{Geometry}
use Rattle.mq_exec.specs.Moves.{LeadsTo, Moves}
use Rattle.mq_exec.proofs.MovesLocal.{differs-moves}
use Rattle.mq_exec.proofs.Outcomes.{IsRun, run-after, run-geometry}
use Rattle.mq_inodes.specs.Changes.{FitsAt, IsOfFile, SameAt}
use Rattle.mq_inodes.specs.Differences.{Differs, HasKind}
use Rattle.mq_inodes.specs.Edits.{Becomes, IsOver, KindsFit}
use Rattle.mq_inodes.specs.Fits.{Agrees, Fits}
use Rattle.mq_inodes.specs.Pages.{Pages, changed_of, kinds_of, over, pages_of, view_of}
use Rattle.mq_inodes.specs.declared.working.Working.{Working}
use Rattle.mq_inodes.proofs.ChangesFits.{fits-all}
use Rattle.mq_inodes.proofs.ChangesKinds.{meta-not-data, meta-not-file}
use Rattle.mq_inodes.proofs.LaidOnce.{page-once, shown-vacant}
use Rattle.mq_inodes.proofs.MissingPages.{agrees-alike}
use Rattle.mq_pages.specs.declared.page.Kind.TheVariants.{Data}
use Rattle.mq_pages.specs.declared.page.Write.{Write}
use Rattle.mq_tree.specs.Laid.{ShowsPage}
use Rattle.mq_tree.specs.Requests.{after_group}
use Rattle.mq_tree.specs.Sound.{IsSound}
use Rattle.mq_tree.specs.Volume.{Volume}
use Rattle.mq_tree.specs.declared.request.Reply.{Reply}
use Rattle.mq_tree.specs.declared.request.Request.{Request}
use Rattle.mq_tree.specs.Uses.{AreUses}
use Rattle.mq_tree.proofs.SoundVolumes.{sound-nodes}

-- what is known of a block and fits both volumes is the same in both
pub same-known : (g : Geometry) (v w : Volume) (b : ℕ) (page : Option (Option (List ℕ))) → AreUses g v → AreUses g w → FitsAt g page v b → FitsAt g page w b → (page ≡ None → SameAt g v w b) → SameAt g v w b
same-known g v w b None one two f h unknown = unknown refl
same-known g v w b (Some None) one two f h unknown = record {
  shows = λ p. (λ s. absurd (shown-vacant g v b p s f), λ s. absurd (shown-vacant g w b p s h));
  vacant = (λ x. h, λ x. f);
}
same-known g v w b (Some (Some page)) one two f h unknown = record {
  shows = λ p. (λ s. subst (λ x. ShowsPage g w b x) (page-once g v b page p one f s) h, λ s. subst (λ x. ShowsPage g v b x) (page-once g w b page p two h s) f);
  vacant = (λ x. absurd (shown-vacant g v b page f x), λ x. absurd (shown-vacant g w b page h x));
}

pub pages-over : (w : Working) (b : ℕ) → pages_of w b ≡ over (changed_of w b) (view_of w b)
unfolding pages_of changed_of view_of
pages-over w b = refl

fits-same : (g : Geometry) (p q : Pages) (v : Volume) → ((b : ℕ) → q b ≡ p b) → Fits g p v → Fits g q v
fits-same g p q v same f = record { held = λ b page e. f.held b page (sym (same b) ∙ e); free = λ b e. f.free b (sym (same b) ∙ e) }

-- nothing changed there where nothing is known
pub over-none : (changed view : Option (Option (List ℕ))) → over changed view ≡ None → changed ≡ None
over-none None view e = refl
over-none (Some page) view e = absurd (none-some page (sym e))

-- the pages that were put over a view lead from its volume to the one that they carry
pub becomes-leads : (g : Geometry) (v u : Volume) (start now : Working) → Agrees g (view_of now) v → IsSound g u → IsOver start now → ((b : ℕ) → pages_of start b ≡ view_of now b) → Becomes g v u start now → LeadsTo g (view_of now) (changed_of now) v u
becomes-leads g v u start now agrees sound past pages becomes = record {
  before = agrees;
  after = record { sound = sound; fits = after };
  known = λ b none. over-none (changed_of now b) (view_of now b) (sym (pages-over now b) ∙ past.absent b (pages b ∙ none));
  same = λ b still.
      let here : pages_of now b ≡ view_of now b = pages-over now b ∙ ap (λ (o : Option (Option (List ℕ))). over o (view_of now b)) still in
      same-known g v u b (view_of now b) (sound-nodes g v agrees.sound).uses (sound-nodes g u sound).uses (fits-all g (view_of now) v agrees.fits b) (subst (λ o. FitsAt g o u b) here (fits-all g (pages_of now) u becomes.carries.fits b)) (λ none. becomes.same b (pages b ∙ none));
}
  where
    after : Fits g (λ b. over (changed_of now b) (view_of now b)) u
    after = fits-same g (pages_of now) (λ b. over (changed_of now b) (view_of now b)) u (λ b. sym (pages-over now b)) becomes.carries.fits

-- ---- kinds

-- before anything is put
kinds-none : (g : Geometry) (v : Volume) (w : Working) → ((b : ℕ) → kinds_of w b ≡ None) → KindsFit g (kinds_of w) v
kinds-none g v w none b kind high e = absurd (none-some kind (sym (none b) ∙ e))

kind-fits : (g : Geometry) (u : Volume) (w : Working) (x : Write) → w.geometry ≡ g → AreUses g u → KindsFit g (kinds_of w) u → HasKind w x → (x.kind ≡ Data) ↔ IsOfFile u x.block
kind-fits g u w x shape uses fit has = elim (cases_lt x.block (meta_of g)) [
  | inl low ↦
      let meta = has.low (subst (λ (h : Geometry). x.block < meta_of h) (sym shape) low) in
      (λ of_file. absurd (meta-not-data (sym meta ∙ of_file)), λ file. absurd (meta-not-file g u x.block uses low file))
  | inr high ↦ fit x.block x.kind high (has.high (subst (λ (h : Geometry). meta_of h ≤ x.block) (sym shape) high))
]

kinds-fit : (g : Geometry) (u : Volume) (w : Working) (writes : List Write) → w.geometry ≡ g → AreUses g u → KindsFit g (kinds_of w) u → All (HasKind w) writes → (x : Write) → Contains writes x → (x.kind ≡ Data) ↔ IsOfFile u x.block
kinds-fit g u w writes shape uses fit has x (k, l, e) = kind-fits g u w x shape uses fit (subst (λ (y : Write). HasKind w y) e (has k x l))

difference-moves : (g : Geometry) (v u : Volume) (start now : Working) (writes : List Write) (frees : List ℕ) → now.geometry ≡ g → Agrees g (view_of now) v → IsSound g u → IsOver start now → ((b : ℕ) → pages_of start b ≡ view_of now b) → ((b : ℕ) → kinds_of start b ≡ None)
    → Becomes g v u start now → Differs (view_of now) (changed_of now) writes frees → All (HasKind now) writes → Moves g v u writes frees
difference-moves g v u start now writes frees shape agrees sound past pages kinds becomes differs has =
    differs-moves g (view_of now) (changed_of now) v u writes frees (becomes-leads g v u start now agrees sound past pages becomes) differs
    (kinds-fit g u now writes shape (sound-nodes g u sound).uses (becomes.kinds (kinds-none g v start kinds)) has)

-- ---- at the end of a group

pub run-moves : (g : Geometry) (q : ℕ) (held : Pages) (start now : Working) (whole : List Request) (k : ℕ) (so_far : List Reply) (writes : List Write) (frees : List ℕ) → start.geometry ≡ g → ((b : ℕ) → pages_of start b ≡ held b) → ((b : ℕ) → view_of start b ≡ held b) → ((b : ℕ) → kinds_of start b ≡ None)
    → length whole ≤ k → IsRun g q held start now whole (drop k whole) so_far → Differs (view_of now) (changed_of now) writes frees → All (HasKind now) writes → (v : Volume) → Agrees g held v → Moves g v (after_group g q v whole) writes frees
run-moves g q held start now whole k so_far writes frees shape pages view kinds l h differs has v agrees =
    let t = h.runs v agrees in
    let same : (b : ℕ) → view_of now b ≡ held b = λ b. h.over.view.pages b ∙ view b in
    let moves : Moves g v t.volume writes frees = difference-moves g v t.volume start now writes frees (run-geometry g q held start now whole (drop k whole) so_far shape h) (agrees-alike g held (view_of now) v (λ b. sym (same b)) agrees) t.sound h.over (λ b. pages b ∙ sym (same b)) kinds t.becomes differs has in
    subst (λ (w : Volume). Moves g v w writes frees) (sym (run-after g q v start now whole k so_far l t)) moves
