-- What requests that change come to, where they are refused and where they are carried out.
use Rattle.std.proofs.Common.{ℕ, ◌<◌, ◌≤◌, Bool, cond, sym, ap, subst}
use Rattle.std.proofs.lemmas.Bool.{le-ltb, lt-ltb}
use Rattle.mq_blocks.specs.declared.geometry.Geometry.{Geometry}
use Rattle.mq_exec.specs.Plans.{ComesTo, IsCarried, IsRefused}
use Rattle.mq_inodes.specs.Edits.{Becomes}
use Rattle.mq_inodes.specs.Fits.{Agrees}
use Rattle.mq_inodes.specs.Pages.{pages_of}
use Rattle.mq_inodes.specs.declared.working.Working.{Working}
use Rattle.mq_inodes.proofs.EditsBecoming.{becomes-self, carries-sound}
use Rattle.mq_tree.specs.Free.{free_blocks}
use Rattle.mq_tree.specs.Requests.{Makes, RequestOutcome, Verdict}
use Rattle.mq_tree.specs.Volume.{Volume}
use Rattle.mq_tree.specs.declared.request.Fault.{Fault}
use Rattle.mq_tree.specs.declared.request.Fault.TheVariants.{NoSpace}
use Rattle.mq_tree.specs.declared.request.Reply.TheVariants.{Ok as Done, Refused}

-- what is needed is free, or not
pub carried-enough : (g : Geometry) (v : Volume) (need : ℕ) (next : Volume) → need ≤ free_blocks g v → IsCarried g v (Makes need next) next
carried-enough g v need next l = ap (λ (t : Bool). cond t (record { reply = Refused NoSpace; next = v }) (record { reply = Done; next = next })) (le-ltb (free_blocks g v) need l)

pub carried-few : (g : Geometry) (v : Volume) (need : ℕ) (next : Volume) → free_blocks g v < need → IsRefused g v (Makes need next) NoSpace
carried-few g v need next l = ap (λ (t : Bool). cond t (record { reply = Refused NoSpace; next = v }) (record { reply = Done; next = next })) (lt-ltb (free_blocks g v) need l)

pub comes-refused : (g : Geometry) (v : Volume) (verdict : Verdict) (fault : Fault) (w : Working) → Agrees g (pages_of w) v → IsRefused g v verdict fault → ComesTo g v verdict (Refused fault) w w
comes-refused g v verdict fault w agrees e = record {
  reply_is = sym (ap (λ (o : RequestOutcome). o.reply) e);
  becomes = subst (λ (o : RequestOutcome). Becomes g v o.next w w) (sym e) (becomes-self g v w (carries-sound g (pages_of w) v agrees));
}

pub comes-carried : (g : Geometry) (v : Volume) (verdict : Verdict) (next : Volume) (old new : Working) → IsCarried g v verdict next → Becomes g v next old new → ComesTo g v verdict Done old new
comes-carried g v verdict next old new e becomes = record {
  reply_is = sym (ap (λ (o : RequestOutcome). o.reply) e);
  becomes = subst (λ (o : RequestOutcome). Becomes g v o.next old new) (sym e) becomes;
}
