-- A group that is done on held buckets is done on each map of which they are.
use Rattle.std.proofs.Common.{◌≡◌, ◌≢◌, ◌⊎◌, inl, inr, ℕ, List, [], refl, sym, ap, subst, ◌∙◌}
use Rattle.std.specs.Prelude.{Option, Some, None}
use Rattle.std.specs.List.{Contains}
use Rattle.mq_blocks.specs.Blocks.{content}
use Rattle.mq_blocks.specs.Machine.{Map, or_kept}
use Rattle.mq_kv_buckets.specs.Buckets.{IsFormed}
use Rattle.mq_kv_buckets.specs.Store.{AreBuckets, map_after_ops, replies_on}
use Rattle.mq_kv_buckets.specs.declared.operation.KvOp.{KvOp}
use Rattle.mq_kv_buckets.specs.declared.operation.KvReply.{KvReply}
use Rattle.mq_kv_buckets.proofs.BucketsChecked.{formed}
use Rattle.mq_kv_buckets.proofs.StepsTaken.{zeros-bucket}
use Rattle.mq_blocks.specs.Blocks.{zeros}
use Rattle.mq_kv_entries.specs.Groups.{AreAllMissing, GroupLooks, IsDifference, IsDone, IsPossible, held_map, joined}
use Rattle.mq_sessions.specs.Executors.{AgreesWith}
use Rattle.mq_sessions.specs.Pages.{held_pages}
use Rattle.mq_kv_entries.specs.Working.{HasRun, changed_of, held_of, now, was}
use Rattle.mq_kv_entries.specs.declared.working.Working.{Working}
use Rattle.mq_kv_entries.proofs.LawsAlike.{does-alike, group-looks-or-not, untouched}
use Rattle.mq_sessions.proofs.Members.{none-contained}
use Rattle.mq_pages.specs.Held.{Cells}
use Rattle.mq_pages.specs.declared.page.Write.{Write}

-- a page that is held, or not
page-cases : (o : Option (Option (List ℕ))) → (o ≡ None) ⊎ (o ≡ Some (joined o))
page-cases None = inl refl
page-cases (Some page) = inr refl

pub held-same : (cells : Cells) (m : Map) (b : ℕ) → AgreesWith cells m → held_pages cells b ≢ None → m b ≡ held_map cells b
held-same cells m b agrees held = elim (page-cases (held_pages cells b)) [
  | inl none ↦ absurd (held none)
  | inr page ↦ agrees b (joined (held_pages cells b)) page
]

pub held-buckets : (buckets : ℕ) (cells : Cells) → IsPossible buckets cells → AreBuckets buckets (held_map cells)
held-buckets buckets cells possible b low = elim (page-cases (held_pages cells b)) [
  | inl none ↦
      (let P : Option (Option (List ℕ)) → Type 0 = λ o. IsFormed (content (joined o)) in subst P (sym none) (formed zeros [] zeros-bucket))
  | inr page ↦
      (let P : Option (List ℕ) → Type 0 = λ o. IsFormed (content o) in subst P (possible.2 b (joined (held_pages cells b)) page) (possible.1 b low))
]

-- a bucket that is looked at is held, where none is missing
pub looked-held : (buckets : ℕ) (cells : Cells) (ops : List KvOp) (blocks : List ℕ) (b : ℕ) → AreAllMissing buckets cells ops blocks → blocks ≡ [] → GroupLooks buckets ops b → held_pages cells b ≢ None
looked-held buckets cells ops blocks b missing none looks absent =
    let P : List ℕ → Type 0 = λ xs. Contains xs b in
    none-contained b (subst P none (missing.lacking.all b looks absent))

-- what differs was looked at
pub differs-looked : (buckets : ℕ) (m : Map) (ops : List KvOp) (b : ℕ) → content (map_after_ops buckets m ops b) ≢ content (m b) → GroupLooks buckets ops b
differs-looked buckets m ops b other = elim (group-looks-or-not buckets ops b) [
  | inl looks ↦ looks
  | inr never ↦ absurd (other (ap content (untouched buckets m ops b never)))
]

pub record IsHeldRun (buckets : ℕ) (cells : Cells) (ops : List KvOp) (replies : List KvReply) (writes : List Write) : Type 0 where
  pub held : (b : ℕ) → GroupLooks buckets ops b → held_pages cells b ≢ None
  pub replies_are : replies ≡ replies_on buckets (held_map cells) ops
  pub writes_are : IsDifference (held_map cells) (map_after_ops buckets (held_map cells) ops) writes

written-looked : (buckets : ℕ) (cells : Cells) (ops : List KvOp) (replies : List KvReply) (writes : List Write) → IsHeldRun buckets cells ops replies writes → (x : Write) → Contains writes x → GroupLooks buckets ops x.block
written-looked buckets cells ops replies writes run x there =
    let w = run.writes_are.written x there in
    differs-looked buckets (held_map cells) ops x.block (λ e. w.2 (sym e ∙ w.1))

pub known : (buckets : ℕ) (cells : Cells) (ops : List KvOp) (replies : List KvReply) (writes : List Write) → IsHeldRun buckets cells ops replies writes → (x : Write) → Contains writes x → held_pages cells x.block ≢ None
known buckets cells ops replies writes run x there = run.held x.block (written-looked buckets cells ops replies writes run x there)

pub done : (buckets : ℕ) (cells : Cells) (ops : List KvOp) (replies : List KvReply) (writes : List Write) → IsHeldRun buckets cells ops replies writes → (m : Map) → AgreesWith cells m → IsDone buckets m ops replies writes
done buckets cells ops replies writes run m agrees =
    let same : (b : ℕ) → GroupLooks buckets ops b → m b ≡ held_map cells b = λ b looks. held-same cells m b agrees (run.held b looks) in
    let alike = does-alike buckets m (held_map cells) ops same in
    let d = run.writes_are in
    record {
      replies_are = run.replies_are ∙ sym alike.replies;
      writes_are = record {
        rise = run.writes_are.rise;
        written = λ x there.
            let looks = written-looked buckets cells ops replies writes run x there in
            let w = run.writes_are.written x there in
            (w.0, ap content (alike.blocks x.block (same x.block looks)) ∙ w.1, λ e. w.2 (ap content (sym (same x.block looks)) ∙ e));
        all = λ b other.
            let looks = differs-looked buckets m ops b other in
            run.writes_are.all b (λ e. other (ap content (alike.blocks b (same b looks)) ∙ e ∙ ap content (sym (same b looks))));
      };
    }

-- ---- from the buckets as they were to those as they are

pub fresh : (w : Working) (cells : Cells) → ((b : ℕ) → changed_of w b ≡ None) → ((b : ℕ) → held_of w b ≡ held_pages cells b) → (b : ℕ) → now w b ≡ held_map cells b
fresh w cells none held b = ap (λ (o : Option (List ℕ)). or_kept o (joined (held_of w b))) (none b) ∙ ap joined (held b)

difference-along : (old new before after : Map) (writes : List Write) → ((b : ℕ) → old b ≡ before b) → ((b : ℕ) → new b ≡ after b) → IsDifference old new writes → IsDifference before after writes
difference-along old new before after writes o n d = record {
  rise = d.rise;
  written = λ x there. (let w = d.written x there in (w.0, ap content (sym (n x.block)) ∙ w.1, λ e. w.2 (ap content (o x.block) ∙ e)));
  all = λ b other. d.all b (λ e. other (ap content (sym (n b)) ∙ e ∙ ap content (o b)));
}

pub held-run : (buckets : ℕ) (cells : Cells) (ops : List KvOp) (blocks : List ℕ) (first last : Working) (replies : List KvReply) (writes : List Write) → AreAllMissing buckets cells ops blocks → blocks ≡ []
    → ((b : ℕ) → changed_of first b ≡ None) → ((b : ℕ) → held_of first b ≡ held_pages cells b) → replies ≡ replies_on buckets (now first) ops → HasRun buckets first last ops → IsDifference (was last) (now last) writes
    → IsHeldRun buckets cells ops replies writes
held-run buckets cells ops blocks first last replies writes missing none unchanged held replies_are run d =
    let same : (b : ℕ) → now first b ≡ held_map cells b = fresh first cells unchanged held in
    let alike = does-alike buckets (now first) (held_map cells) ops (λ b looks. same b) in
    record {
      held = λ b looks. looked-held buckets cells ops blocks b missing none looks;
      replies_are = replies_are ∙ alike.replies;
      writes_are = difference-along (was last) (now last) (held_map cells) (map_after_ops buckets (held_map cells) ops) writes
          (λ b. ap joined (run.held b ∙ held b)) (λ b. run.is b ∙ alike.blocks b (same b)) d;
    }
