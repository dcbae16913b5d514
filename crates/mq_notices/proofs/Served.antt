-- Numbers that were served one after another.
use Rattle.std.proofs.Common.{◌≡◌, ℕ, List, [], ◌∷◌, ◌++◌, sym, subst, ◌∙◌, ap, append_assoc, append-nil}
use Rattle.mq_notices.specs.Notices.{numbers_of, with_number}
use Rattle.mq_notices.specs.Serving.{Serves, ServesMore}
use Rattle.mq_notices.specs.Serving.Serves.{begins, goes}
use Rattle.mq_notices.specs.declared.notice.Notice.{Notice}
use Rattle.mq_notices.proofs.Lists.{numbers-more}

module _ {S : Type 0} (step : ℕ → S → S → Type 0) where
  -- those that come after others
  pub serves-more : (a b c : S) (xs ys : List ℕ) → Serves step a xs b → Serves step b ys c → Serves step a (xs ++ ys) c
  serves-more a b c xs [] first begins = subst (λ (l : List ℕ). Serves step a l b) (sym (append-nil xs)) first
  serves-more a b c xs ys first (goes {ns = ns} {n = n} {old = old} rest last) =
      subst (λ (l : List ℕ). Serves step a l c) (append_assoc xs ns (n ∷ [])) (goes (serves-more a b old xs ns first rest) last)

  -- none more
  pub none-more : (xs : List ℕ) (a : S) → ServesMore step xs xs a a
  none-more xs a = record { more = []; added = sym (append-nil xs); serves = begins }

  pub more-on : (xs ys zs : List ℕ) (a b c : S) → ServesMore step xs ys a b → ServesMore step ys zs b c → ServesMore step xs zs a c
  more-on xs ys zs a b c h k = record {
    more = h.more ++ k.more;
    added = k.added ∙ ap (λ (l : List ℕ). l ++ k.more) h.added ∙ append_assoc xs h.more k.more;
    serves = serves-more a b c h.more k.more h.serves k.serves;
  }

  pub none-served : (xs : List Notice) (a : S) → xs ≡ [] → Serves step a (numbers_of xs) a
  none-served xs a none_is = subst (λ (l : List Notice). Serves step a (numbers_of l) a) (sym none_is) begins

  -- one more notice
  pub notice-served : (old new : List Notice) (x : Notice) (a b c : S) → new ≡ old ++ x ∷ [] → Serves step a (numbers_of old) b → Serves step b (with_number x.number []) c → Serves step a (numbers_of new) c
  notice-served old new x a b c is h k =
      let numbers : numbers_of new ≡ numbers_of old ++ with_number x.number [] = ap (λ (l : List Notice). numbers_of l) is ∙ numbers-more old x in
      subst (λ (ns : List ℕ). Serves step a ns c) (sym numbers) (serves-more a b c (numbers_of old) (with_number x.number []) h k)

  pub notice-more : (old new : List Notice) (x : Notice) (a b : S) → new ≡ old ++ x ∷ [] → Serves step a (with_number x.number []) b → ServesMore step (numbers_of old) (numbers_of new) a b
  notice-more old new x a b is h = record {
    more = with_number x.number [];
    added = ap (λ (l : List Notice). numbers_of l) is ∙ numbers-more old x;
    serves = h;
  }

-- Steps of one kind are steps of another kind, of what a function makes of the states, as long as a condition
-- holds that each of them keeps.
module _ {S T : Type 0} (step : ℕ → S → S → Type 0) (other : ℕ → T → T → Type 0) (f : S → T) (holds : S → Type 0) (each : (n : ℕ) (old new : S) → holds old → step n old new → holds new × other n (f old) (f new)) where
  pub serves-map : (a b : S) (ns : List ℕ) → holds a → Serves step a ns b → holds b × Serves other (f a) ns (f b)
  serves-map a b ns at begins = (at, begins)
  serves-map a b ns at (goes {n = n} {old = old} rest last) =
      let h = serves-map a old _ at rest in
      let k = each n old b h.0 last in
      (k.0, goes h.1 k.1)
