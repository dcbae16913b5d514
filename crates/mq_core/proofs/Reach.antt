-- The least and the greatest number that an image of a lawful state reaches.
use Rattle.std.proofs.Common.{◌≡◌, ◌⊎◌, ℕ, zero, suc, ◌+◌, ◌<◌, ◌≤◌, leb, Bool, true, List, [], ◌∷◌, length, map, get_or, sym, refl, ap, subst, inl, inr, arith}
use Rattle.std.proofs.lemmas.Bool.{le-leb, leb-true, or_cases, or_right}
use Rattle.mq_blocks.specs.Drive.{PortState, PortImage, IsImage, image_of}
use Rattle.mq_blocks.specs.Journal.{Shown, no_image, shown}
use Rattle.mq_ledger.specs.History.{writes, of_queue, part_of, IsAt}
use Rattle.mq_ledger.specs.Items.{Entries, end_of, descriptor_blocks, reading_of}
use Rattle.mq_ledger.specs.State.{State, Facts, IsLawful, AreImages, is_done, from_at, port_at, no_port, front_of}
use Rattle.mq_ledger.specs.declared.tx.Tx.{Tx}
use Rattle.mq_core.proofs.HistoryFronts.{DoneMore, part_more, done_below}
use Rattle.mq_core.specs.Reach.{is_stored, stored_front, ReachBetween, IsReached}
use Rattle.mq_core.specs.Whole.{is_whole}
use Rattle.mq_core.proofs.StateCuts.{IsCut, cut_of}
use Rattle.mq_core.proofs.StateSafe.{reach_is, recovers}

-- what is whole on an image is below the stored heads
whole_stored : (e : Entries) (s : State) (i : Shown) → Facts e s → IsCut e s i → DoneMore (is_whole s i) (is_stored s.starts s.ports) s.history
whole_stored e s i f cut = record {
  each = λ t ts at w.
      let own = (f.log.each t ts at).0.queue in
      let o = (f.sides t.queue own).order in
      let high = cut.to_stored t.queue own in
      le-leb (end_of (from_at s.starts t.queue) (of_queue t.queue ts) + (writes t + descriptor_blocks t)) (port_at s.ports t.queue).stored_head (elim (or_cases (leb t.number i.base) (leb (end_of (from_at s.starts t.queue) (of_queue t.queue ts) + (writes t + descriptor_blocks t)) (i.head t.queue)) w) [
        | inl low ↦
            let l : t.number ≤ i.base = leb-true t.number i.base low in
            let r = cut.reached in
            let d = leb-true _ _ (done_below s.base (is_done s.starts s.ports) t ts s.history f.log.numbers at (omega (arith, l, r))) in
            omega (arith, d, o.stored)
        | inr below ↦ (let b = leb-true (end_of (from_at s.starts t.queue) (of_queue t.queue ts) + (writes t + descriptor_blocks t)) (i.head t.queue) below in omega (arith, b, high))
      ]);
}

-- what is below the heads of an image is whole there
head_whole : (e : Entries) (s : State) (i : Shown) (test : Tx → List Tx → Bool) → ((t : Tx) (ts : List Tx) → IsAt t ts s.history → test t ts ≡ true → end_of (from_at s.starts t.queue) (of_queue t.queue ts) + (writes t + descriptor_blocks t) ≤ i.head t.queue) → DoneMore test (is_whole s i) s.history
head_whole e s i test below = record {
  each = λ t ts at w. or_right (leb t.number i.base) _ (le-leb (end_of (from_at s.starts t.queue) (of_queue t.queue ts) + (writes t + descriptor_blocks t)) (i.head t.queue) (below t ts at w));
}

pub between : (e : Entries) (s : State) → IsLawful e s → ReachBetween e s (front_of s) (stored_front s)
between e s law queues root ds it r =
    let f = law.facts in
    let i = shown (reading_of e) s.geometry queues root in
    let cut = cut_of e s queues root f it in
    let n = reach_is e s i f cut r.chains ds r.whole r.prefix in
    let low = part_more (is_done s.starts s.ports) (is_whole s i) s.history (head_whole e s i (is_done s.starts s.ports) (λ t ts at d.
    let l = leb-true _ _ d in
    let h = cut.from_head t.queue (f.log.each t ts at).0.queue in
    omega (arith, l, h))) in
    let high = part_more (is_whole s i) (is_stored s.starts s.ports) s.history (whole_stored e s i f cut) in
    (omega (arith, n, low), omega (arith, n, high))

-- ---- an image with given heads

abbrev image_with : (PortState → ℕ) → PortState → PortImage
image_with head p = record (image_of p) { head = head p }

at_map : (head : PortState → ℕ) (ports : List PortState) (q : ℕ) → q < length ports → get_or (map (image_with head) ports) q no_image ≡ image_with head (get_or ports q no_port)
at_map head [] q l = absurd (omega arith)
at_map head (p ∷ ps) zero l = refl
at_map head (p ∷ ps) (suc q) l = at_map head ps q (omega arith)

still_image : (p : PortState) (head : PortState → ℕ) → (head p ≡ p.head) ⊎ (head p ≡ p.stored_head) → IsImage p (image_with head p)
still_image p head is = record {
  doorbell = refl;
  head = is;
  base = inl refl;
  slots_len = refl;
  slots = λ k l flushed. refl;
  blocks_len = refl;
  blocks = λ k l certain. refl;
}

images_with : (e : Entries) (s : State) (head : PortState → ℕ) → Facts e s → ((p : PortState) → (head p ≡ p.head) ⊎ (head p ≡ p.stored_head)) → AreImages s (map (image_with head) s.ports) (image_of s.root)
images_with e s head f is = record {
  each = λ q own. (let n = f.ports in subst (λ i. IsImage (port_at s.ports q) i) (sym (at_map head s.ports q (omega (arith, own, n)))) (still_image (port_at s.ports q) head (is (port_at s.ports q))));
  root_is = still_image s.root (λ p. p.head) (inl refl);
}

reached_with : (e : Entries) (s : State) (head : PortState → ℕ) (test : Tx → List Tx → Bool) (n : ℕ) → IsLawful e s → ((p : PortState) → (head p ≡ p.head) ⊎ (head p ≡ p.stored_head))
    → ((t : Tx) (ts : List Tx) → IsAt t ts s.history → test t ts ≡ true → end_of (from_at s.starts t.queue) (of_queue t.queue ts) + (writes t + descriptor_blocks t) ≤ head (port_at s.ports t.queue))
    → ((t : Tx) (ts : List Tx) → IsAt t ts s.history → is_done s.starts s.ports t ts ≡ true → test t ts ≡ true)
    → ((t : Tx) (ts : List Tx) → IsAt t ts s.history → end_of (from_at s.starts t.queue) (of_queue t.queue ts) + (writes t + descriptor_blocks t) ≤ head (port_at s.ports t.queue) → test t ts ≡ true)
    → s.base + length (part_of test s.history) ≡ n → IsReached e s n
reached_with e s head test n law is below done from num =
    let f = law.facts in
    let queues = map (image_with head) s.ports in
    let i = shown (reading_of e) s.geometry queues (image_of s.root) in
    let it = images_with e s head f is in
    let cut = cut_of e s queues (image_of s.root) f it in
    let r = recovers e s i f cut in
    let reach = reach_is e s i f cut r.chains r.ds r.whole r.prefix in
    let heads : (q : ℕ) → q < s.geometry.queues → i.head q ≡ head (port_at s.ports q) = λ q own. (let m = f.ports in ap (λ (v : PortImage). v.head) (at_map head s.ports q (omega (arith, own, m)))) in
    let more = part_more test (is_whole s i) s.history (head_whole e s i test (λ t ts at w. (let own = (f.log.each t ts at).0.queue in let h = heads t.queue own in let b = below t ts at w in omega (arith, h, b)))) in
    let less = part_more (is_whole s i) test s.history (record {
      each = λ t ts at w. elim (or_cases (leb t.number i.base) (leb (end_of (from_at s.starts t.queue) (of_queue t.queue ts) + (writes t + descriptor_blocks t)) (i.head t.queue)) w) [
        | inl low ↦
            let l : t.number ≤ i.base = leb-true t.number i.base low in
            let c = cut.reached in
            done t ts at (done_below s.base (is_done s.starts s.ports) t ts s.history f.log.numbers at (omega (arith, l, c)))
        | inr low ↦
            let own = (f.log.each t ts at).0.queue in
            let h = heads t.queue own in
            let b = leb-true (end_of (from_at s.starts t.queue) (of_queue t.queue ts) + (writes t + descriptor_blocks t)) (i.head t.queue) low in
            from t ts at (omega (arith, h, b))
      ];
    }) in
    record {
      queues = queues;
      root = image_of s.root;
      images = it;
      ds = r.ds;
      reaches = record { chains = r.chains; whole = r.whole; prefix = r.prefix };
      number = omega (arith, reach, more, less, num);
    }

pub least : (e : Entries) (s : State) → IsLawful e s → IsReached e s (front_of s)
least e s law = reached_with e s (λ p. p.head) (is_done s.starts s.ports) (front_of s) law (λ p. inl refl) (λ t ts at d. leb-true _ _ d) (λ t ts at d. d) (λ t ts at l. le-leb _ _ l) refl

pub greatest : (e : Entries) (s : State) → IsLawful e s → IsReached e s (stored_front s)
greatest e s law =
    let f = law.facts in
    reached_with e s (λ p. p.stored_head) (is_stored s.starts s.ports) (stored_front s) law (λ p. inr refl) (λ t ts at d. leb-true _ _ d)
    (λ t ts at d. (let o = (f.sides t.queue (f.log.each t ts at).0.queue).order in let l = leb-true _ _ d in le-leb _ _ (omega (arith, l, o.stored)))) (λ t ts at l. le-leb _ _ l) refl
