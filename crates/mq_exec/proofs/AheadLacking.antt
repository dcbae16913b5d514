-- What a group misses, request by request.
use Rattle.std.proofs.Common.{get_or, ◌≡◌, ℕ, ◌+◌, ◌<◌, inl, inr, List, [], ◌∷◌, length, drop, sym, subst, ◌∙◌, arith}
use Rattle.std.specs.Prelude.{None}
use Rattle.std.specs.List.{Contains}
use Rattle.std.proofs.lemmas.List.Elements.{All-contains, Contains-append_cases}
use Rattle.mq_blocks.specs.Geometry.{queues_of}
use Rattle.mq_blocks.specs.declared.geometry.Geometry.{Geometry}
use Rattle.mq_exec.specs.Ahead.{Adds, AddsOf, GoesOn, IsLacked, IsListed}
use Rattle.mq_exec.proofs.AheadLooking.{look-low}
use Rattle.mq_exec.proofs.Outcomes.{cut-next}
use Rattle.mq_exec.proofs.ReadsStepping.{WritesBytes}
use Rattle.mq_inodes.specs.Fits.{Agrees, IsPossible}
use Rattle.mq_inodes.specs.MissingPages.{HasVolume, MissingPages, OfEach}
use Rattle.mq_inodes.specs.Pages.{Pages, pages_of}
use Rattle.mq_inodes.specs.declared.lack.Missing.{Missing}
use Rattle.mq_inodes.specs.declared.lack.Missing.TheVariants.{Need as NeedOf, OutOfMemory as Wanting}
use Rattle.mq_inodes.specs.declared.working.Working.{Working}
use Rattle.mq_inodes.proofs.MissingPages.{agrees-alike}
use Rattle.mq_tree.specs.Looks.{GroupLooks, Looks}
use Rattle.mq_tree.specs.Requests.{step}
use Rattle.mq_tree.specs.Volume.{Volume}
use Rattle.mq_tree.specs.declared.request.Request.{Request}

-- ---- lists

pub adds-listed : (pages : Pages) (looks : ℕ → Type 0) (lack : Missing) (before after : List ℕ) → MissingPages pages looks lack → IsListed lack before after → Adds pages looks before after
adds-listed pages looks (NeedOf blocks) before after n e = record {
  only = λ b c. elim (Contains-append_cases before blocks.items b (subst (λ xs. Contains xs b) e c)) [
    | inl old ↦ inl old
    | inr new ↦ inr (All-contains (λ x. pages x ≡ None) blocks.items b n.absent new, All-contains looks blocks.items b n.looked new)
  ];
}
adds-listed pages looks Wanting before after n e = absurd e

-- ---- a group

-- The pages may be a part of this volume, and the rest looks at no block at which the whole does not.
pub record IsAheadOf (g : Geometry) (q : ℕ) (v : Volume) (now : Working) (whole rest : List Request) : Type 0 where
  pub volume : Volume
  pub agrees : Agrees g (pages_of now) volume
  pub looks : (b : ℕ) → GroupLooks g q volume rest b → GroupLooks g q v whole b

pub record IsAhead (g : Geometry) (q : ℕ) (held : Pages) (now : Working) (whole rest : List Request) (lacked : List ℕ) : Type 0 where
  pub geometry : now.geometry ≡ g
  pub known : (b : ℕ) → pages_of now b ≡ None → held b ≡ None
  pub runs : (v : Volume) → Agrees g held v → IsAheadOf g q v now whole rest
  pub listed : (b : ℕ) → Contains lacked b → IsLacked g q held whole b

pub ahead-none : (g : Geometry) (q : ℕ) (held : Pages) (start : Working) (whole : List Request) (lacked : List ℕ) → start.geometry ≡ g → ((b : ℕ) → pages_of start b ≡ held b) → lacked ≡ [] → IsAhead g q held start whole whole lacked
ahead-none g q held start whole lacked e pages none = record {
  geometry = e;
  known = λ b n. sym (pages b) ∙ n;
  runs = λ v agrees. record { volume = v; agrees = agrees-alike g held (pages_of start) v (λ b. sym (pages b)) agrees; looks = λ b l. l };
  listed = λ b c. absurd (let m = subst (λ xs. Contains xs b) none c in let l = m.1 in omega arith);
}

pub ahead-possible : (g : Geometry) (q : ℕ) (held : Pages) (now : Working) (whole rest : List Request) (lacked : List ℕ) → IsPossible g held → IsAhead g q held now whole rest lacked → HasVolume now
ahead-possible g q held now whole rest lacked possible h =
    let r = h.runs possible.0 possible.1 in
    (r.volume, subst (λ (x : Geometry). Agrees x (pages_of now) r.volume) (sym h.geometry) r.agrees)

-- what the next request misses
next-lacks : (g : Geometry) (q : ℕ) (held : Pages) (now : Working) (whole rest : List Request) (r : Request) (lacked : List ℕ) (b : ℕ) → q < queues_of g → WritesBytes r → IsPossible g held → IsAhead g q held now whole (r ∷ rest) lacked
    → pages_of now b ≡ None → OfEach now (λ v. Looks now.geometry q v r b) → IsLacked g q held whole b
next-lacks g q held now whole rest r lacked b low fine possible h none looks =
    let each : (u : Volume) → Agrees g (pages_of now) u → Looks g q u r b = subst (λ (x : Geometry). (u : Volume) → Agrees x (pages_of now) u → Looks x q u r b) h.geometry looks in
    let p = h.runs possible.0 possible.1 in
    record {
      absent = h.known b none;
      home = look-low g q p.volume r b p.agrees.sound low fine (each p.volume p.agrees).looks;
      looks = λ v agrees. let t = h.runs v agrees in t.looks b (inl (each t.volume t.agrees));
    }

adds-lacked : (g : Geometry) (q : ℕ) (held : Pages) (now : Working) (whole rest : List Request) (r : Request) (lacked more : List ℕ) → q < queues_of g → WritesBytes r → IsPossible g held → IsAhead g q held now whole (r ∷ rest) lacked
    → Adds (pages_of now) (λ b. OfEach now (λ v. Looks now.geometry q v r b)) lacked more → (b : ℕ) → Contains more b → IsLacked g q held whole b
adds-lacked g q held now whole rest r lacked more low fine possible h adds b c = elim (adds.only b c) [
  | inl old ↦ h.listed b old
  | inr new ↦ next-lacks g q held now whole rest r lacked b low fine possible h new.0 new.1
]

next-at : (g : Geometry) (q : ℕ) (held : Pages) (now : Working) (whole : List Request) (k : ℕ) (r : Request) (lacked : List ℕ) → k < length whole → r ≡ get_or whole k r → IsAhead g q held now whole (drop k whole) lacked → IsAhead g q held now whole (r ∷ drop (k + 1) whole) lacked
next-at g q held now whole k r lacked l at h = subst (λ (rs : List Request). IsAhead g q held now whole rs lacked) (cut-next whole k r l at) h

pub ahead-more : (g : Geometry) (q : ℕ) (held : Pages) (now new : Working) (whole : List Request) (k : ℕ) (r : Request) (lacked more : List ℕ) → q < queues_of g → WritesBytes r → IsPossible g held → k < length whole → r ≡ get_or whole k r → AddsOf now q r lacked more → GoesOn q r now new
    → IsAhead g q held now whole (drop k whole) lacked → IsAhead g q held new whole (drop (k + 1) whole) more
ahead-more g q held now new whole k r lacked more low fine possible l at adds on before =
    let h = next-at g q held now whole k r lacked l at before in
    let next : (u : Volume) → Agrees g (pages_of now) u → Agrees g (pages_of new) (step g q u r).next = subst (λ (x : Geometry). (u : Volume) → Agrees x (pages_of now) u → Agrees x (pages_of new) (step x q u r).next) h.geometry on.next in
    record {
      geometry = on.geometry ∙ h.geometry;
      known = λ b none. h.known b (on.known b none);
      runs = λ v agrees.
          let t = h.runs v agrees in
          record { volume = (step g q t.volume r).next; agrees = next t.volume t.agrees; looks = λ b later. t.looks b (inr later) };
      listed = adds-lacked g q held now whole (drop (k + 1) whole) r lacked more low fine possible h adds;
    }

-- where it isn't gone on
pub ahead-stops : (g : Geometry) (q : ℕ) (held : Pages) (now : Working) (whole : List Request) (k : ℕ) (r : Request) (lacked more : List ℕ) → q < queues_of g → WritesBytes r → IsPossible g held → k < length whole → r ≡ get_or whole k r → AddsOf now q r lacked more
    → IsAhead g q held now whole (drop k whole) lacked → (b : ℕ) → Contains more b → IsLacked g q held whole b
ahead-stops g q held now whole k r lacked more low fine possible l at adds before = adds-lacked g q held now whole (drop (k + 1) whole) r lacked more low fine possible (next-at g q held now whole k r lacked l at before) adds
