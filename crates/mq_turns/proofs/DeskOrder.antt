-- What a chair drew and read stays in order.
use Rattle.std.proofs.Common.{◌≡◌, ◌⊎◌, ℕ, suc, ◌≤◌, List, [], ◌∷◌, sym, refl, ap, subst, inl, inr, arith, Option, Some, None}
use Rattle.mq_turns.specs.Meaning.{Meaning, Grows, newest}
use Rattle.mq_turns.specs.Lists.{Each}
use Rattle.mq_turns.specs.Desk.{Follows, DrawAfterRead, ReadAfterDraw, InOrder, IsInOrder, after_look}
use Rattle.mq_turns.specs.declared.rule.Known.{Known}
use Rattle.mq_turns.specs.declared.rule.ChairView.{ChairView}
use Rattle.mq_turns.proofs.Lists.{each_map, each_both}
use Rattle.mq_turns.proofs.Meaning.{newest_grows}

module _ {P Q R E : Type 0} (μ : Meaning P Q R E) where
  pub order_none : (session : ℕ) → InOrder μ session [] []
  order_none session = record { drew_own = tt; read_own = tt; draws = tt; reads = tt; both = tt }

  pub order_same : (v w : ChairView P Q R E) → w.session ≡ v.session → w.drawn ≡ v.drawn → w.read ≡ v.read → IsInOrder μ v → IsInOrder μ w
  order_same v w session drawn read o =
      let F : ℕ × List (ℕ × E) × List (E × Known P Q R E) → Type 0 = λ z. InOrder μ z.0 z.1 z.2 in
      subst F (λ i. (sym session i, sym drawn i, sym read i)) o

  reads_below : (K : Known P Q R E) (rs : List (E × Known P Q R E)) → Each (λ r. μ.ok r.1 × Grows r.1 K × μ.fits r.0 r.1) rs → Each (λ r. newest r.1 ≤ newest K) rs
  reads_below K rs = each_map _ _ (λ r a. newest_grows r.1 K a.1) rs

  -- a draw above all that was known
  pub order_draw : (e : E) (K : Known P Q R E) (v : ChairView P Q R E) → Follows μ e v → Each (λ d. d.0 ≤ newest K) v.drawn → Each (λ r. μ.ok r.1 × Grows r.1 K × μ.fits r.0 r.1) v.read
      → IsInOrder μ v → InOrder μ v.session ((suc (newest K), e) ∷ v.drawn) v.read
  order_draw e K v f drawn read o = record {
    drew_own = (f.session, o.drew_own);
    read_own = o.read_own;
    draws = (each_both _ _ _ (λ d g n. (g, omega arith)) v.drawn f.drawn drawn, o.draws);
    reads = o.reads;
    both = (each_both _ _ (λ r. DrawAfterRead μ (suc (newest K), e) r ⊎ ReadAfterDraw μ r (suc (newest K), e)) (λ r g n. inl (g, omega arith)) v.read f.read (reads_below K v.read read), o.both);
  }

  -- a read by all that is known
  pub order_read : (e : E) (K : Known P Q R E) (v : ChairView P Q R E) → Follows μ e v → Each (λ d. d.0 ≤ newest K) v.drawn → Each (λ r. μ.ok r.1 × Grows r.1 K × μ.fits r.0 r.1) v.read
      → IsInOrder μ v → InOrder μ v.session v.drawn ((e, K) ∷ v.read)
  order_read e K v f drawn read o = record {
    drew_own = o.drew_own;
    read_own = (f.session, o.read_own);
    draws = o.draws;
    reads = (each_both _ _ _ (λ r g n. (g, n)) v.read f.read (reads_below K v.read read), o.reads);
    both = each_both _ _ (λ d. Each (λ r. DrawAfterRead μ d r ⊎ ReadAfterDraw μ r d) ((e, K) ∷ v.read)) (λ d a b. (inr a, b)) v.drawn (each_both _ _ _ (λ d g n. (g, n)) v.drawn f.drawn drawn) o.both;
  }

  pub order_look : (o : Option E) (K : Known P Q R E) (v : ChairView P Q R E) → ((e : E) → o ≡ Some e → Follows μ e v) → Each (λ d. d.0 ≤ newest K) v.drawn → Each (λ r. μ.ok r.1 × Grows r.1 K × μ.fits r.0 r.1) v.read
      → IsInOrder μ v → IsInOrder μ (after_look o K v)
  order_look None K v f drawn read o = o
  order_look (Some e) K v f drawn read o = order_read e K v (f e refl) drawn read o

  -- a look without an entry changes nothing of it
  pub order_before : (n : ℕ) (v w : ChairView P Q R E) → w ≡ record v { seen = n } → IsInOrder μ w → IsInOrder μ v
  order_before n v w is o = order_same w v (ap (λ u. u.session) (sym is)) (ap (λ u. u.drawn) (sym is)) (ap (λ u. u.read) (sym is)) o
