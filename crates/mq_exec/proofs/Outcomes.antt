-- A group of requests, one after another: each volume becomes the next, and the pages with it.
use Rattle.std.proofs.Common.{get_or, ◌≡◌, ℕ, suc, ◌+◌, ◌<◌, ◌≤◌, List, [], ◌∷◌, ◌++◌, length, drop, refl, sym, ap, subst, ◌∙◌, arith, append_assoc, drop-cons, inl, inr}
use Rattle.std.specs.List.{All}
use Rattle.std.specs.Prelude.{None}
use Rattle.std.proofs.lemmas.List.{append-nil, drop_all}
use Rattle.std.proofs.lemmas.List.Elements.{All-contains, All-contains_itself}
use Rattle.mq_blocks.specs.Geometry.{queues_of}
use Rattle.mq_blocks.specs.declared.geometry.Geometry.{Geometry}
use Rattle.mq_exec.specs.Ahead.{IsLacked}
use Rattle.mq_exec.specs.Outcomes.{Answers, AreEachOnce, NamesThem}
use Rattle.mq_exec.specs.Plans.{ComesTo}
use Rattle.mq_exec.specs.declared.outcome.Outcome.{Outcome as Stops}
use Rattle.mq_exec.specs.declared.outcome.Outcome.TheVariants.{Done, Need}
use Rattle.mq_exec.proofs.ReadsStepping.{WritesBytes, named-sound}
use Rattle.mq_inodes.specs.Edits.{Becomes, IsOver}
use Rattle.mq_inodes.specs.Fits.{Agrees, IsPossible}
use Rattle.mq_inodes.specs.MissingPages.{HasVolume, IsNeed, OfEach}
use Rattle.mq_inodes.specs.Pages.{Pages, pages_of}
use Rattle.mq_inodes.specs.declared.working.Working.{Working}
use Rattle.mq_inodes.proofs.EditsBecoming.{becomes-self, becomes-then, carries-sound, over-self, over-then}
use Rattle.mq_inodes.proofs.MissingPages.{agrees-alike}
use Rattle.mq_tree.specs.Looks.{GroupLooks, Looks}
use Rattle.mq_tree.specs.Requests.{after_group, replies, step, verdict}
use Rattle.mq_tree.specs.Sound.{IsSound}
use Rattle.mq_tree.specs.Volume.{Volume}
use Rattle.mq_tree.specs.declared.request.Reply.{Reply}
use Rattle.mq_tree.specs.declared.request.Request.{Request}

-- So far these are the replies, and the pages carry this volume. The rest leads from it where the whole
-- leads, and looks at no other block.
pub record IsRunTo (g : Geometry) (q : ℕ) (v : Volume) (start now : Working) (whole rest : List Request) (so_far : List Reply) : Type 0 where
  pub volume : Volume
  pub same : replies g q v whole ≡ so_far ++ replies g q volume rest
  pub after : after_group g q v whole ≡ after_group g q volume rest
  pub looks : (b : ℕ) → GroupLooks g q volume rest b → GroupLooks g q v whole b
  pub sound : IsSound g volume
  pub becomes : Becomes g v volume start now

-- so on each volume of which the pages that are held may be a part
pub record IsRun (g : Geometry) (q : ℕ) (held : Pages) (start now : Working) (whole rest : List Request) (so_far : List Reply) : Type 0 where
  pub over : IsOver start now
  pub runs : (v : Volume) → Agrees g held v → IsRunTo g q v start now whole rest so_far

pub run-none : (g : Geometry) (q : ℕ) (held : Pages) (start : Working) (whole : List Request) (so_far : List Reply) → ((b : ℕ) → pages_of start b ≡ held b) → so_far ≡ [] → IsRun g q held start start whole whole so_far
run-none g q held start whole so_far pages e = record {
  over = over-self start;
  runs = λ v agrees.
      let a = agrees-alike g held (pages_of start) v (λ b. sym (pages b)) agrees in
      subst (λ (xs : List Reply). IsRunTo g q v start start whole whole xs) (sym e) (record { volume = v; same = refl; after = refl; looks = λ b h. h; sound = agrees.sound; becomes = becomes-self g v start (carries-sound g (pages_of start) v a) });
}

-- ---- the volume now

pub run-agrees : (g : Geometry) (q : ℕ) (v : Volume) (start now : Working) (whole rest : List Request) (so_far : List Reply) → (h : IsRunTo g q v start now whole rest so_far) → Agrees g (pages_of now) h.volume
run-agrees g q v start now whole rest so_far h = record { sound = h.sound; fits = h.becomes.carries.fits }

pub run-geometry : (g : Geometry) (q : ℕ) (held : Pages) (start now : Working) (whole rest : List Request) (so_far : List Reply) → start.geometry ≡ g → IsRun g q held start now whole rest so_far → now.geometry ≡ g
run-geometry g q held start now whole rest so_far e h = h.over.view.geometry ∙ e

pub run-possible : (g : Geometry) (q : ℕ) (held : Pages) (start now : Working) (whole rest : List Request) (so_far : List Reply) → start.geometry ≡ g → IsPossible g held → IsRun g q held start now whole rest so_far → HasVolume now
run-possible g q held start now whole rest so_far e possible h =
    let r = h.runs possible.0 possible.1 in
    (r.volume, subst (λ (x : Geometry). Agrees x (pages_of now) r.volume) (sym (run-geometry g q held start now whole rest so_far e h)) (run-agrees g q possible.0 start now whole rest so_far r))

-- ---- one request more

replies-more : (g : Geometry) (q : ℕ) (v : Volume) (r : Request) (rs : List Request) → replies g q v (r ∷ rs) ≡ (step g q v r).reply ∷ replies g q (step g q v r).next rs
unfolding replies
replies-more g q v r rs = refl

after-more : (g : Geometry) (q : ℕ) (v : Volume) (r : Request) (rs : List Request) → after_group g q v (r ∷ rs) ≡ after_group g q (step g q v r).next rs
unfolding after_group
after-more g q v r rs = refl

step-reply : (g : Geometry) (q : ℕ) (v : Volume) (r : Request) (reply : Reply) (old new : Working) → ComesTo g v (verdict g q v r) reply old new → reply ≡ (step g q v r).reply
unfolding step
step-reply g q v r reply old new c = c.reply_is

pub step-becomes : (g : Geometry) (q : ℕ) (v : Volume) (r : Request) (reply : Reply) (old new : Working) → ComesTo g v (verdict g q v r) reply old new → Becomes g v (step g q v r).next old new
unfolding step
step-becomes g q v r reply old new c = c.becomes

pub cut-next : (whole : List Request) (k : ℕ) (r : Request) → k < length whole → r ≡ get_or whole k r → drop k whole ≡ r ∷ drop (k + 1) whole
cut-next whole k r l at =
    let n : k + 1 ≡ suc k = omega arith in
    drop-cons whole k r l ∙ ap (λ (x : Request). x ∷ drop (suc k) whole) (sym at) ∙ ap (λ (j : ℕ). r ∷ drop j whole) (sym n)

run-to : (g : Geometry) (q : ℕ) (v : Volume) (start now new : Working) (whole rest : List Request) (r : Request) (reply : Reply) (so_far more : List Reply) → q < queues_of g → WritesBytes r → IsOver start now → more ≡ so_far ++ reply ∷ []
    → (h : IsRunTo g q v start now whole (r ∷ rest) so_far) → ComesTo g h.volume (verdict g q h.volume r) reply now new → IsRunTo g q v start new whole rest more
run-to g q v start now new whole rest r reply so_far more low fine over is h c =
    let u = h.volume in
    let w = (step g q u r).next in
    record {
      volume = w;
      same = h.same ∙ ap (λ (xs : List Reply). so_far ++ xs) (replies-more g q u r rest ∙ ap (λ (x : Reply). x ∷ replies g q w rest) (sym (step-reply g q u r reply now new c)))
          ∙ sym (append_assoc so_far (reply ∷ []) (replies g q w rest)) ∙ ap (λ (xs : List Reply). xs ++ replies g q w rest) (sym is);
      after = h.after ∙ after-more g q u r rest;
      looks = λ b later. h.looks b (inr later);
      sound = named-sound g q u r h.sound low fine;
      becomes = becomes-then g v u w start now new over h.becomes (step-becomes g q u r reply now new c);
    }

pub run-more : (g : Geometry) (q : ℕ) (held : Pages) (start now new : Working) (whole : List Request) (k : ℕ) (r : Request) (reply : Reply) (so_far more : List Reply) → start.geometry ≡ g → q < queues_of g → WritesBytes r → k < length whole → r ≡ get_or whole k r → more ≡ so_far ++ reply ∷ []
    → IsOver now new → OfEach now (λ v. ComesTo now.geometry v (verdict now.geometry q v r) reply now new) → IsRun g q held start now whole (drop k whole) so_far → IsRun g q held start new whole (drop (k + 1) whole) more
run-more g q held start now new whole k r reply so_far more e low fine l at is over comes h =
    let shape = run-geometry g q held start now whole (drop k whole) so_far e h in
    let each : (v : Volume) → Agrees g (pages_of now) v → ComesTo g v (verdict g q v r) reply now new = subst (λ (x : Geometry). (v : Volume) → Agrees x (pages_of now) v → ComesTo x v (verdict x q v r) reply now new) shape comes in
    record {
      over = over-then start now new h.over over;
      runs = λ v agrees.
          let t : IsRunTo g q v start now whole (r ∷ drop (k + 1) whole) so_far = subst (λ (rs : List Request). IsRunTo g q v start now whole rs so_far) (cut-next whole k r l at) (h.runs v agrees) in
          run-to g q v start now new whole (drop (k + 1) whole) r reply so_far more low fine h.over is t (each t.volume (run-agrees g q v start now whole (r ∷ drop (k + 1) whole) so_far t));
    }

-- ---- where something is lacked

pub run-looks : (g : Geometry) (q : ℕ) (held : Pages) (start now : Working) (whole : List Request) (k : ℕ) (r : Request) (so_far : List Reply) (b : ℕ) → start.geometry ≡ g → k < length whole → r ≡ get_or whole k r → IsRun g q held start now whole (drop k whole) so_far
    → OfEach now (λ v. Looks now.geometry q v r b) → (v : Volume) → Agrees g held v → GroupLooks g q v whole b
run-looks g q held start now whole k r so_far b e l at h looks v agrees =
    let shape = run-geometry g q held start now whole (drop k whole) so_far e h in
    let t : IsRunTo g q v start now whole (r ∷ drop (k + 1) whole) so_far = subst (λ (rs : List Request). IsRunTo g q v start now whole rs so_far) (cut-next whole k r l at) (h.runs v agrees) in
    let each : (u : Volume) → Agrees g (pages_of now) u → Looks g q u r b = subst (λ (x : Geometry). (u : Volume) → Agrees x (pages_of now) u → Looks x q u r b) shape looks in
    t.looks b (inl (each t.volume (run-agrees g q v start now whole (r ∷ drop (k + 1) whole) so_far t)))

named-needs : (pages : Pages) (looks : ℕ → Type 0) (lacked named : List ℕ) → AreEachOnce lacked named → IsNeed pages looks lacked → IsNeed pages looks named
named-needs pages looks lacked named n h = record {
  some = (let first = n.all (get_or lacked 0 0) (All-contains_itself lacked 0 0 h.some) in let low = first.1 in omega arith);
  absent = λ k d l. All-contains (λ b. pages b ≡ None) lacked (get_or named k d) h.absent (n.only _ (All-contains_itself named k d l));
  looked = λ k d l. All-contains looks lacked (get_or named k d) h.looked (n.only _ (All-contains_itself named k d l));
}

pub run-lacks : (g : Geometry) (q : ℕ) (held : Pages) (requests : List Request) (lacked : List ℕ) (outcome : Stops) → 1 ≤ length lacked → All (IsLacked g q held requests) lacked → NamesThem lacked outcome → Answers g q held requests outcome
run-lacks g q held requests lacked (Done done) some all is = absurd is
run-lacks g q held requests lacked (Need named) some all is =
    record {
      need = named-needs held (λ b. (v : Volume) → Agrees g held v → GroupLooks g q v requests b) lacked named.items is (record { some = some; absent = λ k d l. (all k d l).absent; looked = λ k d l. (all k d l).looks });
      rise = is.rise;
      homes = λ k d l. (All-contains (IsLacked g q held requests) lacked (get_or named.items k d) all (is.only _ (All-contains_itself named.items k d l))).home;
    }

-- ---- at the end

replies-none : (g : Geometry) (q : ℕ) (v : Volume) → replies g q v [] ≡ []
unfolding replies
replies-none g q v = refl

after-none : (g : Geometry) (q : ℕ) (v : Volume) → after_group g q v [] ≡ v
unfolding after_group
after-none g q v = refl

pub run-replies : (g : Geometry) (q : ℕ) (v : Volume) (start now : Working) (whole : List Request) (k : ℕ) (so_far : List Reply) → length whole ≤ k → IsRunTo g q v start now whole (drop k whole) so_far → so_far ≡ replies g q v whole
run-replies g q v start now whole k so_far l h = sym (h.same ∙ ap (λ (rs : List Request). so_far ++ replies g q h.volume rs) (drop_all k whole l) ∙ ap (λ (xs : List Reply). so_far ++ xs) (replies-none g q h.volume) ∙ append-nil so_far)

pub run-after : (g : Geometry) (q : ℕ) (v : Volume) (start now : Working) (whole : List Request) (k : ℕ) (so_far : List Reply) → length whole ≤ k → (h : IsRunTo g q v start now whole (drop k whole) so_far) → after_group g q v whole ≡ h.volume
run-after g q v start now whole k so_far l h = h.after ∙ ap (λ (rs : List Request). after_group g q h.volume rs) (drop_all k whole l) ∙ after-none g q h.volume
