-- What a group neither writes nor frees, what it knows of the others, and the map after it.
use Rattle.std.proofs.Common.{◌≡◌, ◌≢◌, ℕ, ◌≤◌, Bool, inl, inr, List, length, drop, true, false, refl, sym, ap, subst, ◌∙◌}
use Rattle.std.specs.Prelude.{Option, Some, None, if◌then◌else◌}
use Rattle.std.specs.List.{Contains}
use Rattle.std.specs.Str.{bytes_eq}
use Rattle.std.proofs.lemmas.Bool.{cases_Bool, false≢true}
use Rattle.std.proofs.lemmas.Option.{none-some, same_Some}
use Rattle.std.proofs.lemmas.Slice.Eq.{bytes_eq-Decides}
use Rattle.mq_blocks.specs.Journal.{is_among}
use Rattle.mq_blocks.specs.Machine.{Map, Transaction, after, or_kept, write_of}
use Rattle.mq_blocks.specs.declared.geometry.Geometry.{Geometry}
use Rattle.mq_blocks.proofs.Options.{option-cases}
use Rattle.mq_exec.specs.Moves.{IsChangeOf, KeepsRest, LeadsTo, Moves}
use Rattle.mq_exec.proofs.MovesLeading.{becomes-leads, over-none, pages-over, same-known}
use Rattle.mq_exec.proofs.MovesLocal.{Known, known-cases, unknown, vacant, full}
use Rattle.mq_exec.proofs.Outcomes.{IsRun, run-after}
use Rattle.mq_inodes.specs.Changes.{SameAt}
use Rattle.mq_inodes.specs.Differences.{Differs}
use Rattle.mq_inodes.specs.Fits.{Agrees}
use Rattle.mq_inodes.specs.Pages.{Pages, changed_of, content, over, pages_of, view_of}
use Rattle.mq_inodes.specs.declared.working.Working.{Working}
use Rattle.mq_inodes.proofs.PagesHeld.{held-is}
use Rattle.mq_inodes.proofs.MissingPages.{agrees-alike}
use Rattle.mq_pages.specs.declared.page.Write.{Write}
use Rattle.mq_tree.specs.Laid.{IsLaid, IsVacant, ShowsPage}
use Rattle.mq_tree.specs.Requests.{after_group}
use Rattle.mq_tree.specs.Sound.{IsSound}
use Rattle.mq_tree.specs.Volume.{Volume}
use Rattle.mq_tree.specs.declared.request.Reply.{Reply}
use Rattle.mq_tree.specs.declared.request.Request.{Request}
use Rattle.mq_tree.proofs.Decoded.{taken-use}
use Rattle.mq_tree.specs.Uses.{AreUses}
use Rattle.mq_tree.proofs.SoundVolumes.{sound-nodes}

-- ---- what is neither written nor freed

pub differs-rest : (g : Geometry) (view changed : Pages) (v w : Volume) (writes : List Write) (frees : List ℕ) → LeadsTo g view changed v w → Differs view changed writes frees → KeepsRest g v w writes frees
differs-rest g view changed v w writes frees t d b unwritten unfreed = find (known-cases (changed b))
  where
    uses-of : AreUses g v
    uses-of = (sound-nodes g v t.before.sound).uses

    uses-after : AreUses g w
    uses-after = (sound-nodes g w t.after.sound).uses

    now-held : (page : List ℕ) → changed b ≡ Some (Some page) → ShowsPage g w b page
    now-held page e = t.after.fits.held b page (ap (λ (x : Option (Option (List ℕ))). over x (view b)) e)

    now-free : changed b ≡ Some None → IsVacant g w b
    now-free e = t.after.fits.free b (ap (λ (x : Option (Option (List ℕ))). over x (view b)) e)

    -- content that was put and differs from what was known before is written
    put : (page : List ℕ) → changed b ≡ Some (Some page) → (view b ≢ Some (Some page)) → ⊥
    put page e other = let r = d.writes_all b page e other in unwritten r.0 r.1 r.2

    find : Known (changed b) → SameAt g v w b
    find (unknown e) = t.same b e
    find (vacant e) = was e (known-cases (view b))
      where
        was : changed b ≡ Some None → Known (view b) → SameAt g v w b
        was e (unknown h) = absurd (none-some None (sym (t.known b h) ∙ e))
        was e (vacant h) = same-known g v w b (Some None) uses-of uses-after (t.before.fits.free b h) (now-free e) (λ n. absurd (none-some None (sym n)))
        was e (full page h) = absurd (unfreed (d.frees_all b e (held-is view b page h)))
    find (full page e) = was page e (known-cases (view b))
      where
        was : (page : List ℕ) → changed b ≡ Some (Some page) → Known (view b) → SameAt g v w b
        was page e (unknown h) = absurd (none-some (Some page) (sym (t.known b h) ∙ e))
        was page e (vacant h) = absurd (put page e (λ s. none-some page (same_Some None (Some page) (sym h ∙ s))))
        was page e (full old h) = elim (cases_Bool (bytes_eq old page)) [
          | inl yea ↦
              let same : old ≡ page = (bytes_eq-Decides old page).0 yea in
              same-known g v w b (Some (Some page)) uses-of uses-after (t.before.fits.held b page (h ∙ ap (λ (p : List ℕ). Some (Some p)) same)) (now-held page e) (λ n. absurd (none-some (Some page) (sym n)))
          | inr nay ↦ absurd (put page e (λ s.
              let same : old ≡ page = same_Some old page (same_Some (Some old) (Some page) (sym h ∙ s)) in
              false≢true (sym nay ∙ (bytes_eq-Decides old page).1 same)))
        ]

-- ---- of what is written and freed the page is known

pub differs-written : (view changed : Pages) (writes : List Write) (frees : List ℕ) → ((b : ℕ) → view b ≡ None → changed b ≡ None) → Differs view changed writes frees → (x : Write) → Contains writes x → view x.block ≢ None
differs-written view changed writes frees known d x c none = none-some (Some x.content) (sym (known x.block none) ∙ (d.written x c).0)

pub differs-freed : (view changed : Pages) (writes : List Write) (frees : List ℕ) → Differs view changed writes frees → (b : ℕ) → Contains frees b → view b ≢ None
differs-freed view changed writes frees d b c none = none-some (Some (content (view b))) (sym none ∙ (d.freed b c).1)

-- ---- at the end of a group

pub over-known : (start now : Working) (b : ℕ) → pages_of start b ≡ view_of now b → ((x : ℕ) → pages_of start x ≡ None → pages_of now x ≡ None) → view_of now b ≡ None → changed_of now b ≡ None
over-known start now b same absent none = over-none (changed_of now b) (view_of now b) (sym (pages-over now b) ∙ absent b (same ∙ none))

pub run-leads : (g : Geometry) (q : ℕ) (held : Pages) (start now : Working) (whole : List Request) (k : ℕ) (so_far : List Reply) → start.geometry ≡ g → ((b : ℕ) → pages_of start b ≡ held b) → ((b : ℕ) → view_of start b ≡ held b)
    → length whole ≤ k → IsRun g q held start now whole (drop k whole) so_far → (v : Volume) → Agrees g held v → LeadsTo g (view_of now) (changed_of now) v (after_group g q v whole)
run-leads g q held start now whole k so_far shape pages view l h v agrees =
    let t = h.runs v agrees in
    let same : (b : ℕ) → view_of now b ≡ held b = λ b. h.over.view.pages b ∙ view b in
    let leads : LeadsTo g (view_of now) (changed_of now) v t.volume = becomes-leads g v t.volume start now (agrees-alike g held (view_of now) v (λ b. sym (same b)) agrees) t.sound h.over (λ b. pages b ∙ sym (same b)) t.becomes in
    subst (λ (w : Volume). LeadsTo g (view_of now) (changed_of now) v w) (sym (run-after g q v start now whole k so_far l t)) leads

-- ---- the map after it

-- what a transaction makes of a block
data Made (m : Map) (t : Transaction) (b : ℕ) : Type 0 where
  wrote : (page : List ℕ) → write_of t.writes b ≡ Some page → after m t b ≡ Some page → Made m t b
  cleared : is_among b t.freed ≡ true → after m t b ≡ None → Made m t b
  left : write_of t.writes b ≡ None → is_among b t.freed ≡ false → after m t b ≡ m b → Made m t b

after-is : (m : Map) (t : Transaction) (b : ℕ) → after m t b ≡ or_kept (write_of t.writes b) (if is_among b t.freed then None else m b)
unfolding after
after-is m t b = refl

made : (m : Map) (t : Transaction) (b : ℕ) → Made m t b
made m t b = elim (option-cases (write_of t.writes b)) [
  | inr some ↦ wrote some.0 some.1 (after-is m t b ∙ ap (λ (o : Option (List ℕ)). or_kept o (if is_among b t.freed then None else m b)) some.1)
  | inl none ↦
      let here : after m t b ≡ (if is_among b t.freed then None else m b) = after-is m t b ∙ ap (λ (o : Option (List ℕ)). or_kept o (if is_among b t.freed then None else m b)) none in
      elim (cases_Bool (is_among b t.freed)) [
        | inl yea ↦ cleared yea (here ∙ ap (λ (c : Bool). if c then None else m b) yea)
        | inr nay ↦ left none nay (here ∙ ap (λ (c : Bool). if c then None else m b) nay)
      ]
]

-- the volume after a group lies on the map after its transaction
pub laid-after : (g : Geometry) (m : Map) (v w : Volume) (writes : List Write) (frees : List ℕ) (t : Transaction) → IsLaid g m v → IsSound g w → Moves g v w writes frees → KeepsRest g v w writes frees → IsChangeOf t writes frees → IsLaid g (after m t) w
laid-after g m v w writes frees t laid sound moves rest is = record {
  sound = sound;
  shown = λ b page e. shown b page e (made m t b);
  vacant = λ b e. gone b e (made m t b);
}
  where
    same : (b : ℕ) → write_of t.writes b ≡ None → is_among b t.freed ≡ false → SameAt g v w b
    same b none nay = rest b (λ x c e. none-some x.content (sym none ∙ ap (write_of t.writes) (sym e) ∙ is.all x c)) (λ c. false≢true (sym nay ∙ (is.freed b).1 c))

    shown : (b : ℕ) (page : List ℕ) → after m t b ≡ Some page → Made m t b → ShowsPage g w b page
    shown b page e (wrote p writes there) =
        let found = is.only b p writes in
        let now = ((moves.written found.0).0 found.1).now in
        let equal : found.0.content ≡ page = found.3 ∙ same_Some p page (sym there ∙ e) in
        subst (λ n. ShowsPage g w n page) found.2 (subst (λ c. ShowsPage g w found.0.block c) equal now)
    shown b page e (cleared yea there) = absurd (none-some page (sym there ∙ e))
    shown b page e (left none nay there) = ((same b none nay).shows page).0 (laid.shown b page (sym there ∙ e))

    gone : (b : ℕ) → after m t b ≡ None → Made m t b → IsVacant g w b
    gone b e (wrote p writes there) = absurd (none-some p (sym e ∙ there))
    gone b e (cleared yea there) =
        let is_freed = (moves.freed b).0 ((is.freed b).0 yea) in
        let u = taken-use v b is_freed.0 in
        ((laid.sound.zones u.0 b u.1).0, is_freed.1)
    gone b e (left none nay there) = (same b none nay).vacant.0 (laid.vacant b (sym there ∙ e))
