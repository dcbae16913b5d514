-- What is missing for a part is missing for the whole.
use Rattle.std.proofs.Common.{get_or, ◌≡◌, ◌≢◌, ℕ, ◌+◌, ◌<◌, ◌≤◌, List, [], ◌∷◌, ◌++◌, length, take, sym, ap, subst, ◌∙◌, arith}
use Rattle.std.specs.Prelude.{Some, None}
use Rattle.std.specs.List.{All, Contains}
use Rattle.std.proofs.lemmas.List.{length-append, take_all}
use Rattle.std.proofs.lemmas.List.Elements.{All-more, All-nil, All-push, All-weaker}
use Rattle.mq_blocks.specs.declared.geometry.Geometry.{Geometry}
use Rattle.mq_inodes.specs.Fits.{Agrees}
use Rattle.mq_inodes.specs.MissingPages.{IsNeed, MissingPages, MissingOf, OfEach}
use Rattle.mq_inodes.specs.Pages.{IsHeld, Pages, known, pages_of}
use Rattle.mq_inodes.specs.declared.working.Working.{Working}
use Rattle.mq_inodes.specs.declared.working.Page.{Page}
use Rattle.mq_inodes.specs.declared.working.Page.TheVariants.{Absent}
use Rattle.mq_inodes.specs.declared.lack.Missing.{Missing}
use Rattle.mq_inodes.specs.declared.lack.Missing.TheVariants.{Need, OutOfMemory}
use Rattle.mq_inodes.proofs.PagesHeld.{held-else}
use Rattle.mq_inodes.proofs.BareUnseenInodes.{looked-up}
use Rattle.mq_tree.specs.Volume.{Volume}

pub lacks-weaker : (pages : Pages) (P Q : ℕ → Type 0) (lack : Missing) → ((b : ℕ) → P b → Q b) → MissingPages pages P lack → MissingPages pages Q lack
lacks-weaker pages P Q (Need blocks) f n = record { some = n.some; absent = n.absent; looked = All-weaker P Q f blocks.items n.looked }
lacks-weaker pages P Q OutOfMemory f n = n

-- on each volume of which the pages may be a part
pub lacks-each : (w : Working) (P Q : Volume → ℕ → Type 0) (lack : Missing) → ((v : Volume) (b : ℕ) → Agrees w.geometry (pages_of w) v → P v b → Q v b) → MissingOf w P lack → MissingOf w Q lack
lacks-each w P Q lack f n = lacks-weaker (pages_of w) (λ b. OfEach w (λ v. P v b)) (λ b. OfEach w (λ v. Q v b)) lack (λ b h v agrees. f v b agrees (h v agrees)) n

pub all-held : (pages : Pages) (blocks : List ℕ) → All (λ b. pages b ≢ Some None) blocks → All (λ b. pages b ≢ None) blocks → All (IsHeld pages) blocks
all-held pages blocks used there k d l = held-else (pages (get_or blocks k d)) (there k d l) (used k d l)

-- looking for blocks, one after another: those that were absent
pub record IsSought (pages : Pages) (blocks absent : List ℕ) (k : ℕ) : Type 0 where
  pub absent_all : All (λ b. pages b ≡ None) absent
  pub among : All (Contains blocks) absent
  pub known_all : length absent ≡ 0 → All (λ b. pages b ≢ None) (take k blocks)

pub sought-absent : (pages : Pages) (blocks absent more : List ℕ) (k b : ℕ) (p : Page) → k < length blocks → b ≡ get_or blocks k b → known p ≡ pages b → p ≡ Absent → more ≡ absent ++ b ∷ [] → IsSought pages blocks absent k → IsSought pages blocks more (k + 1)
sought-absent pages blocks absent more k b p l at e none is h =
    let gone : pages b ≡ None = sym e ∙ ap known none in
    subst (λ (xs : List ℕ). IsSought pages blocks xs (k + 1)) (sym is) (record {
      absent_all = All-push (λ x. pages x ≡ None) absent b h.absent_all gone;
      among = All-push (Contains blocks) absent b h.among (k, l, sym at);
      known_all = λ zero. absurd (let n = length-append absent (b ∷ []) in omega arith);
    })

pub sought-there : (pages : Pages) (blocks absent : List ℕ) (k b : ℕ) (p : Page) → k < length blocks → b ≡ get_or blocks k b → known p ≡ pages b → (p ≡ Absent → ⊥) → IsSought pages blocks absent k → IsSought pages blocks absent (k + 1)
sought-there pages blocks absent k b p l at e there h =
    let here : pages b ≢ None = λ f. looked-up p there (e ∙ f) in
    record {
      absent_all = h.absent_all;
      among = h.among;
      known_all = λ zero. All-more (λ x. pages x ≢ None) blocks k b l (h.known_all zero) (subst (λ x. pages x ≢ None) at here);
    }

pub sought-all : (pages : Pages) (blocks absent : List ℕ) (k : ℕ) → length blocks ≤ k → length absent ≡ 0 → IsSought pages blocks absent k → All (λ b. pages b ≢ None) blocks
sought-all pages blocks absent k l none h = subst (λ (xs : List ℕ). All (λ b. pages b ≢ None) xs) (take_all k blocks l) (h.known_all none)

pub sought-none : (pages : Pages) (blocks absent : List ℕ) → absent ≡ [] → IsSought pages blocks absent 0
sought-none pages blocks absent e = subst (λ (xs : List ℕ). IsSought pages blocks xs 0) (sym e) (record { absent_all = All-nil (λ b. pages b ≡ None); among = All-nil (Contains blocks); known_all = λ zero. All-nil (λ b. pages b ≢ None) })

-- ---- pages that are the same, block by block

pub agrees-alike : (g : Geometry) (p q : Pages) (v : Volume) → ((b : ℕ) → p b ≡ q b) → Agrees g p v → Agrees g q v
agrees-alike g p q v same h = record {
  sound = h.sound;
  fits = record { held = λ b page e. h.fits.held b page (same b ∙ e); free = λ b e. h.fits.free b (same b ∙ e) };
}

pub need-weaker : (p q : Pages) (looks more : ℕ → Type 0) (blocks : List ℕ) → ((b : ℕ) → p b ≡ None → q b ≡ None) → ((b : ℕ) → looks b → more b) → IsNeed p looks blocks → IsNeed q more blocks
need-weaker p q looks more blocks absent f h = record {
  some = h.some;
  absent = All-weaker (λ b. p b ≡ None) (λ b. q b ≡ None) absent blocks h.absent;
  looked = All-weaker looks more f blocks h.looked;
}
