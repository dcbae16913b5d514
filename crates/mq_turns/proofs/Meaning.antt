-- What is known grows, and what stays as it does.
use Rattle.std.proofs.Common.{◌≡◌, ◌≢◌, ℕ, ◌+◌, ◌<◌, ◌≤◌, false, List, [], ◌∷◌, ◌++◌, length, sym, refl, ap, ◌∙◌, subst, arith, append_assoc, length-append, inl, inr}
use Rattle.mq_turns.specs.Meaning.{Touch, Lie, Apart, Stays, Grows, newest, drawn, claimed, written, raised, charged, HasNumberAt}
use Rattle.mq_turns.specs.Lists.{Each}
use Rattle.mq_turns.specs.declared.rule.Claim.{Claim}
use Rattle.mq_turns.specs.declared.rule.Known.{Known}
use Rattle.mq_turns.specs.declared.rule.Charge.{Charge}
use Rattle.mq_turns.specs.declared.turn.Turn.{Turn}
use Rattle.mq_turns.specs.declared.turn.Turn.TheVariants.{Side, Root}
use Rattle.mq_turns.proofs.Lists.{each_append}

-- a number of the history is one that was drawn
pub at_bounds : {E : Type 0} (base : ℕ) (log : List E) (n : ℕ) (e : E) → HasNumberAt base log n e → (base < n) × (n ≤ base + length log)
at_bounds base [] n e a = absurd a
at_bounds base (x ∷ xs) n e (inl a) = let i = a.0 in (omega arith, omega arith)
at_bounds base (x ∷ xs) n e (inr a) = let b = at_bounds base xs n e a in let lo = b.0 in let hi = b.1 in (omega arith, omega arith)

pub at_more : {E : Type 0} (base : ℕ) (newer log : List E) (n : ℕ) (e : E) → HasNumberAt base log n e → HasNumberAt base (newer ++ log) n e
at_more base [] log n e a = a
at_more base (x ∷ xs) log n e a = inr (at_more base xs log n e a)

pub at_older : {E : Type 0} (base : ℕ) (newer log : List E) (n : ℕ) (e : E) → HasNumberAt base (newer ++ log) n e → n ≤ base + length log → HasNumberAt base log n e
at_older base [] log n e a le = a
at_older base (x ∷ xs) log n e (inl a) le = let l = length-append xs log in let i = a.0 in absurd (omega arith)
at_older base (x ∷ xs) log n e (inr a) le = at_older base xs log n e a le

module _ {P Q R E : Type 0} where
  abbrev pub grows_now : (K : Known P Q R E) → Grows K K
  grows_now K = record { opening = refl; newer = []; log = refl; claimed = []; claims = refl; written = []; ended = refl; word = omega arith; blamed = []; charges = refl }

  pub grows_on : (K L N : Known P Q R E) → Grows K L → Grows L N → Grows K N
  grows_on K L N a b = record {
    opening = b.opening ∙ a.opening;
    newer = b.newer ++ a.newer;
    log = b.log ∙ (ap (λ l. b.newer ++ l) a.log ∙ sym (append_assoc b.newer a.newer K.log));
    claimed = b.claimed ++ a.claimed;
    claims = b.claims ∙ (ap (λ l. b.claimed ++ l) a.claims ∙ sym (append_assoc b.claimed a.claimed K.claims));
    written = b.written ++ a.written;
    ended = b.ended ∙ (ap (λ l. b.written ++ l) a.ended ∙ sym (append_assoc b.written a.written K.ended));
    word = let x = a.word in let y = b.word in omega arith;
    blamed = b.blamed ++ a.blamed;
    charges = b.charges ∙ (ap (λ l. b.blamed ++ l) a.charges ∙ sym (append_assoc b.blamed a.blamed K.charges));
  }

  pub newest_grows : (K L : Known P Q R E) → Grows K L → newest K ≤ newest L
  newest_grows K L g = let b : L.opening.base ≡ K.opening.base = ap (λ o. o.base) g.opening in let l : length L.log ≡ length (g.newer ++ K.log) = ap length g.log in let n = length-append g.newer K.log in omega arith

  pub at_grows : (K L : Known P Q R E) (n : ℕ) (e : E) → Grows K L → HasNumberAt K.opening.base K.log n e → HasNumberAt L.opening.base L.log n e
  at_grows K L n e g a = let T : ℕ → List E → Type 0 = λ b l. HasNumberAt b l n e in subst (λ (z : ℕ × List E). T z.0 z.1) (λ i. (sym (ap (λ o. o.base) g.opening) i, sym g.log i)) (at_more K.opening.base g.newer K.log n e a)

  -- what stands in the later history at a number that was drawn by then
  pub at_back : (K L : Known P Q R E) (n : ℕ) (e : E) → Grows K L → HasNumberAt L.opening.base L.log n e → n ≤ newest K → HasNumberAt K.opening.base K.log n e
  at_back K L n e g a le = let T : ℕ → List E → Type 0 = λ b l. HasNumberAt b l n e in at_older K.opening.base g.newer K.log n e (subst (λ (z : ℕ × List E). T z.0 z.1) (λ i. (ap (λ o. o.base) g.opening i, g.log i)) a) le

  -- each kind of step
  abbrev pub grows_drawn : (e : E) (K : Known P Q R E) → Grows K (drawn e K)
  grows_drawn e K = record { opening = refl; newer = e ∷ []; log = refl; claimed = []; claims = refl; written = []; ended = refl; word = omega arith; blamed = []; charges = refl }

  abbrev pub grows_claimed : (c : Claim) (K : Known P Q R E) → Grows K (claimed c K)
  grows_claimed c K = record { opening = refl; newer = []; log = refl; claimed = c ∷ []; claims = refl; written = []; ended = refl; word = omega arith; blamed = []; charges = refl }

  abbrev pub grows_written : (h : ℕ × ℕ) (K : Known P Q R E) → Grows K (written h K)
  grows_written h K = record { opening = refl; newer = []; log = refl; claimed = []; claims = refl; written = h ∷ []; ended = refl; word = omega arith; blamed = []; charges = refl }

  abbrev pub grows_raised : (b : ℕ) (K : Known P Q R E) → K.word ≤ b → Grows K (raised b K)
  grows_raised b K low = record { opening = refl; newer = []; log = refl; claimed = []; claims = refl; written = []; ended = refl; word = low; blamed = []; charges = refl }

  abbrev pub grows_charged : (c : Charge) (K : Known P Q R E) → Grows K (charged c K)
  grows_charged c K = record { opening = refl; newer = []; log = refl; claimed = []; claims = refl; written = []; ended = refl; word = omega arith; blamed = c ∷ []; charges = refl }

module _ {E : Type 0} (touches : Touch E) where
  apart_join : (xs ys zs : List E) (t : Turn) → Apart touches xs (ys ++ zs) t → Apart touches ys zs t → Apart touches (xs ++ ys) zs t
  apart_join [] ys zs t a b = b
  apart_join (x ∷ xs) ys zs t a b = (ap (λ l. touches l x t) (append_assoc xs ys zs) ∙ a.0, apart_join xs ys zs t a.1 b)

  module _ {P Q R : Type 0} (lies : Lie P Q R) where
    pub stays_now : (t : Turn) (K : Known P Q R E) → Stays touches lies t K K
    stays_now t K = record { grows = grows_now K; apart = tt; claims = tt; ended = tt; word = λ _. refl; charges = tt }

    pub stays_on : (t : Turn) (K L N : Known P Q R E) → Stays touches lies t K L → Stays touches lies t L N → Stays touches lies t K N
    unfolding grows_on
    stays_on t K L N a b = record {
      grows = grows_on K L N a.grows b.grows;
      apart = apart_join b.grows.newer a.grows.newer K.log t (subst (λ l. Apart touches b.grows.newer l t) a.grows.log b.apart) a.apart;
      claims = each_append _ b.grows.claimed a.grows.claimed b.claims a.claims;
      ended = each_append (λ h. lies K.opening h t ≡ false) b.grows.written a.grows.written (subst (λ o. Each (λ h. lies o h t ≡ false) b.grows.written) a.grows.opening b.ended) a.ended;
      word = λ e. b.word e ∙ a.word e;
      charges = each_append _ b.grows.blamed a.grows.blamed b.charges a.charges;
    }

    -- each kind of growth, for a turn that it is not about
    pub stays_drawn : (t : Turn) (e : E) (K : Known P Q R E) → touches K.log e t ≡ false → Stays touches lies t K (drawn e K)
    stays_drawn t e K apart = record { grows = grows_drawn e K; apart = (apart, tt); claims = tt; ended = tt; word = λ _. refl; charges = tt }

    pub stays_claimed : (t : Turn) (c : Claim) (K : Known P Q R E) → Side c.queue ≢ t → Stays touches lies t K (claimed c K)
    stays_claimed t c K other = record { grows = grows_claimed c K; apart = tt; claims = (other, tt); ended = tt; word = λ _. refl; charges = tt }

    pub stays_written : (t : Turn) (h : ℕ × ℕ) (K : Known P Q R E) → lies K.opening h t ≡ false → Stays touches lies t K (written h K)
    stays_written t h K apart = record { grows = grows_written h K; apart = tt; claims = tt; ended = (apart, tt); word = λ _. refl; charges = tt }

    pub stays_raised : (t : Turn) (b : ℕ) (K : Known P Q R E) → K.word ≤ b → Root ≢ t → Stays touches lies t K (raised b K)
    stays_raised t b K up other = record { grows = grows_raised b K up; apart = tt; claims = tt; ended = tt; word = λ is. absurd (other (sym is)); charges = tt }

    pub stays_charged : (t : Turn) (c : Charge) (K : Known P Q R E) → c.port ≢ t → Stays touches lies t K (charged c K)
    stays_charged t c K other = record { grows = grows_charged c K; apart = tt; claims = tt; ended = tt; word = λ _. refl; charges = (other, tt) }
