-- One request of a group, by its kind.
use Rattle.std.proofs.Common.{◌≡◌, ℕ, ◌<◌, Bool, true, false, cond, inl, inr, sym, ap, subst}
use Rattle.std.specs.Prelude.{Result, IfErr}
use Rattle.std.proofs.lemmas.Bool.{cases_Bool, true≢false}
use Rattle.std.proofs.lemmas.Result.{IfErr-weaker}
use Rattle.mq_blocks.specs.Geometry.{queues_of}
use Rattle.mq_blocks.specs.declared.geometry.Geometry.{Geometry}
use Rattle.mq_exec.specs.Plans.{ComesTo}
use Rattle.mq_exec.specs.Reads.{LooksAlways, Reads}
use Rattle.mq_inodes.specs.Edits.{Becomes}
use Rattle.mq_inodes.specs.Fits.{Agrees}
use Rattle.mq_inodes.specs.MissingPages.{MissingOf}
use Rattle.mq_inodes.specs.Pages.{pages_of}
use Rattle.mq_inodes.specs.declared.lack.Missing.{Missing}
use Rattle.mq_inodes.specs.declared.working.Working.{Working}
use Rattle.mq_inodes.proofs.EditsBecoming.{becomes-self, carries-sound}
use Rattle.mq_inodes.proofs.MissingPages.{lacks-each}
use Rattle.mq_tree.specs.Kept.{HasBytes}
use Rattle.mq_tree.specs.Looks.{Looks, LooksAt}
use Rattle.mq_tree.specs.Requests.{RequestOutcome, act, carried_out, is_change, is_named, refused, step, verdict}
use Rattle.mq_tree.specs.Sound.{IsSound}
use Rattle.mq_tree.specs.Volume.{Volume}
use Rattle.mq_tree.specs.declared.request.Reply.{Reply}
use Rattle.mq_tree.specs.declared.request.Fault.TheVariants.{BadName}
use Rattle.mq_tree.specs.declared.request.Request.{Request}
use Rattle.mq_tree.specs.declared.request.Request.TheVariants.{Mkdir, Create, Write, Truncate, Unlink, Rmdir, Rename, Link, Read, List as ListOf, Stat}
use Rattle.mq_tree.proofs.KeptSteps.{step-sound}

-- a request that reads leaves the pages
pub comes-read : (g : Geometry) (q : ℕ) (v : Volume) (r : Request) (reply : Reply) (w : Working) → Agrees g (pages_of w) v → Reads g v r reply → ComesTo g v (verdict g q v r) reply w w
unfolding step
comes-read g q v r reply w agrees reads = record {
  reply_is = sym (ap (λ (o : RequestOutcome). o.reply) (reads q));
  becomes = subst (λ (o : RequestOutcome). Becomes g v o.next w w) (sym (reads q)) (becomes-self g v w (carries-sound g (pages_of w) v agrees));
}

-- ---- what it writes

-- what a request writes are bytes, where it is carried out
abbrev pub WritesBytes : Request → Type 0
WritesBytes r = is_named r ≡ true → HasBytes r

-- one that reads writes nothing
pub reads-bytes : (r : Request) → is_change r ≡ false → HasBytes r
reads-bytes (Mkdir p) e = tt
reads-bytes (Create p) e = tt
reads-bytes (Write p at bytes) e = absurd (true≢false e)
reads-bytes (Truncate p size) e = tt
reads-bytes (Unlink p) e = tt
reads-bytes (Rmdir p) e = tt
reads-bytes (Rename p to) e = tt
reads-bytes (Link p to) e = tt
reads-bytes (Read p at count) e = tt
reads-bytes (ListOf p) e = tt
reads-bytes (Stat p) e = tt

pub step-bad : (g : Geometry) (q : ℕ) (v : Volume) (r : Request) → is_named r ≡ false → (step g q v r).next ≡ v
unfolding step
step-bad g q v r bad = ap (λ (b : Bool). (carried_out g v (cond b (act g q v r) (refused BadName))).next) bad

pub named-sound : (g : Geometry) (q : ℕ) (v : Volume) (r : Request) → IsSound g v → q < queues_of g → WritesBytes r → IsSound g (step g q v r).next
named-sound g q v r sound low fine = elim (cases_Bool (is_named r)) [
  | inl good ↦ step-sound g q v r sound low (fine good)
  | inr bad ↦ subst (λ (u : Volume). IsSound g u) (sym (step-bad g q v r bad)) sound
]

-- ---- at what it looks

-- what is missing, where the request is given by its kind
pub lack-of : (w : Working) (q : ℕ) (r s : Request) (result : Result Reply Missing) → r ≡ s → IfErr result (MissingOf w (λ v b. LooksAt w.geometry q v s b)) → IfErr result (MissingOf w (λ v b. LooksAt w.geometry q v r b))
lack-of w q r s result e h = subst (λ (x : Request). IfErr result (MissingOf w (λ v b. LooksAt w.geometry q v x b))) (sym e) h

-- and on each queue
pub lack-on : (w : Working) (q : ℕ) (r s : Request) (result : Result Reply Missing) → r ≡ s → IfErr result (MissingOf w (λ v b. (x : ℕ) → LooksAt w.geometry x v s b)) → IfErr result (MissingOf w (λ v b. LooksAt w.geometry q v r b))
lack-on w q r s result e h = lack-of w q r s result e
    (IfErr-weaker result (MissingOf w (λ v b. (x : ℕ) → LooksAt w.geometry x v s b)) (MissingOf w (λ v b. LooksAt w.geometry q v s b)) (λ lack n. lacks-each w (λ v b. (x : ℕ) → LooksAt w.geometry x v s b) (λ v b. LooksAt w.geometry q v s b) lack (λ v b agrees looks. looks q) n) h)

pub lack-read : (w : Working) (q : ℕ) (r : Request) (result : Result Reply Missing) → IfErr result (MissingOf w (λ v b. LooksAlways w.geometry v r b)) → IfErr result (MissingOf w (λ v b. Looks w.geometry q v r b))
lack-read w q r result h = IfErr-weaker result (MissingOf w (λ v b. LooksAlways w.geometry v r b)) (MissingOf w (λ v b. Looks w.geometry q v r b)) (λ lack n. lacks-each w (λ v b. LooksAlways w.geometry v r b) (λ v b. Looks w.geometry q v r b) lack (λ v b agrees looks. looks q) n) h

pub lack-named : (w : Working) (q : ℕ) (r : Request) (result : Result Reply Missing) → is_named r ≡ true → IfErr result (MissingOf w (λ v b. LooksAt w.geometry q v r b)) → IfErr result (MissingOf w (λ v b. Looks w.geometry q v r b))
lack-named w q r result good h = IfErr-weaker result (MissingOf w (λ v b. LooksAt w.geometry q v r b)) (MissingOf w (λ v b. Looks w.geometry q v r b))
    (λ lack n. lacks-each w (λ v b. LooksAt w.geometry q v r b) (λ v b. Looks w.geometry q v r b) lack (λ v b agrees looks. record { named = good; looks = looks }) n) h
