-- The chain of a queue of a readable drive.
use Rattle.std.proofs.Common.{◌≡◌, ◌<◌, ◌⊎◌, inl, inr, ℕ, suc, ◌+◌, List, ◌++◌, Some, refl, sym, ◌∙◌, ap, subst, arith, append_assoc, append-nil}
use Rattle.std.specs.List.{flat_map}
use Rattle.std.specs.Prelude.{MatchResult, Result, Ok, Err}
use Rattle.mq_blocks.specs.Descriptor.{Descriptor}
use Rattle.mq_blocks.specs.Drive.{PortState}
use Rattle.mq_blocks.specs.Journal.{AreWhole, IsQueueChain, Shown}
use Rattle.mq_blocks.specs.declared.geometry.Geometry.{Geometry}
use Rattle.mq_image_ops.specs.Dump.{descriptor_line, queue_line, queue_text, queues_text}
use Rattle.mq_ledger.specs.State.{port_at}
use Rattle.mq_recover.specs.Drives.{DriveState, IsQuiescentDrive, view_over}
use Rattle.mq_recover.specs.Recover.{IsSeenAt}
use Rattle.mq_recover.specs.declared.refusal.ChainRefusal.{ChainRefusal}
use Rattle.mq_recover.specs.declared.refusal.ChainRefusal.TheVariants.{OutOfMemory}
use Rattle.mq_recover.proofs.DrivesImages.{view-seen}

-- what reading the chain of a port gives, where its queue has one
abbrev pub Completes : (C : Type 0) → Geometry → (base : ℕ) → PortState → (C → List Descriptor) → Result C ChainRefusal → Type 0
Completes C g base s view result = (q : ℕ) (i : Shown) (ds : List Descriptor) → s.queue ≡ Some q → IsSeenAt q base s i → IsQueueChain g i q ds → MatchResult result (λ c. view c ≡ ds) (λ e. e ≡ OutOfMemory)

module _ (C : Type 0) (g : Geometry) (d : DriveState) (q base : ℕ) (s : PortState) (view : C → List Descriptor) (result : Result C ChainRefusal) (chains : ℕ → List Descriptor) (still : IsQuiescentDrive g d) (low : q < g.queues) (at : port_at d.queues q ≡ s) (is : base ≡ d.root.base)
    (whole : AreWhole g (view_over g d) chains) (completes : Completes C g base s view result) where
  chain-read : MatchResult result (λ c. view c ≡ chains q) (λ e. e ≡ OutOfMemory)
  chain-read =
      completes q (view_over g d) (chains q)
      (sym (ap (λ (t : PortState). t.queue) at) ∙ (still.each q low).port.queue)
      (subst (λ (t : PortState). IsSeenAt q base t (view_over g d)) at (view-seen g d q base is))
      (whole.each q low)

  pub chain-own : (c : C) → result ≡ Ok c → view c ≡ chains q
  chain-own c ok = subst (λ (r : Result C ChainRefusal). MatchResult r (λ c. view c ≡ chains q) (λ e. e ≡ OutOfMemory)) ok chain-read

  pub chain-memory : (e : ChainRefusal) → result ≡ Err e → e ≡ OutOfMemory
  chain-memory e err = subst (λ (r : Result C ChainRefusal). MatchResult r (λ c. view c ≡ chains q) (λ e. e ≡ OutOfMemory)) err chain-read

-- the root's base, as it was read
pub base-own : (g : Geometry) (d : DriveState) (base : ℕ) → IsQuiescentDrive g d → (base ≡ d.root.base) ⊎ (base ≡ d.root.stored_base) → base ≡ d.root.base
base-own g d base still (inl is) = is
base-own g d base still (inr is) = is ∙ still.root.quiet.base

-- and the words of a queue
pub words-own : (g : Geometry) (d : DriveState) (q head doorbell : ℕ) (s : PortState) → IsQuiescentDrive g d → q < g.queues → port_at d.queues q ≡ s → (head ≡ s.head) ⊎ (head ≡ s.stored_head) → doorbell ≡ s.doorbell
    → (head ≡ (view_over g d).head q) × (doorbell ≡ (view_over g d).doorbell q)
words-own g d q head doorbell s still low at head_is doorbell_is =
    let seen = view-seen g d q d.root.base refl in
    let quiet = (still.each q low).quiet in
    let own : head ≡ (port_at d.queues q).head = elim head_is [
      | inl is ↦ is ∙ sym (ap (λ (t : PortState). t.head) at)
      | inr is ↦ is ∙ sym (ap (λ (t : PortState). t.stored_head) at) ∙ quiet.head
    ] in
    (own ∙ sym seen.head_is, doorbell_is ∙ sym (ap (λ (t : PortState). t.doorbell) at) ∙ sym seen.doorbell_is)

-- a queue's text, of its line and its chain
pub queue-put : (i : Shown) (chains : ℕ → List Descriptor) (q head doorbell : ℕ) (chain : List Descriptor) (before line after : List ℕ) → line ≡ before ++ queue_line q doorbell head → after ≡ line ++ flat_map descriptor_line chain → chain ≡ chains q → head ≡ i.head q → doorbell ≡ i.doorbell q
    → after ≡ before ++ queue_text i chains q
queue-put i chains q head doorbell chain before line after line_is after_is chain_is head_is doorbell_is =
    after_is
    ∙ ap (λ (l : List ℕ). l ++ flat_map descriptor_line chain) line_is
    ∙ append_assoc before (queue_line q doorbell head) (flat_map descriptor_line chain)
    ∙ ap (λ (ds : List Descriptor). before ++ (queue_line q doorbell head ++ flat_map descriptor_line ds)) chain_is
    ∙ ap (λ (n : ℕ). before ++ (queue_line q doorbell n ++ flat_map descriptor_line (chains q))) head_is
    ∙ ap (λ (n : ℕ). before ++ (queue_line q n (i.head q) ++ flat_map descriptor_line (chains q))) doorbell_is

pub queues-none : (i : Shown) (chains : ℕ → List Descriptor) (before : List ℕ) → before ≡ before ++ queues_text i chains 0
unfolding queues_text
queues-none i chains before = sym (append-nil before)

pub queues-put : (i : Shown) (chains : ℕ → List Descriptor) (q : ℕ) (start before after : List ℕ) → before ≡ start ++ queues_text i chains q → after ≡ before ++ queue_text i chains q → after ≡ start ++ queues_text i chains (q + 1)
unfolding queues_text
queues-put i chains q start before after before_is after_is =
    after_is ∙ ap (λ (l : List ℕ). l ++ queue_text i chains q) before_is ∙ append_assoc start (queues_text i chains q) (queue_text i chains q)
    ∙ ap (λ (n : ℕ). start ++ queues_text i chains n) (let e : suc q ≡ q + 1 = omega arith in e)
