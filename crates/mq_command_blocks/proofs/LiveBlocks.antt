-- The list of the blocks that are live after a text.
use Rattle.std.proofs.Common.{◌≡◌, ◌<◌, ◌≤◌, ℕ, suc, ◌+◌, ◌-◌, true, false, List, [], ◌∷◌, ◌++◌, get_or, Option, Some, None, refl, sym, ◌∙◌, ap, arith, append_assoc}
use Rattle.std.specs.Prelude.{is_some}
use Rattle.mq_blocks.specs.Machine.{Map}
use Rattle.mq_block_trace.specs.Lines.{named, live_one, live_from}
use Rattle.mq_block_trace.proofs.LinesFills.{named_is}

-- ---- the list of live blocks

pub live_at : (m : Map) (n b : ℕ) → b < n → live_from m b (n - b) ≡ live_one b (m b) (live_from m (b + 1) (n - (b + 1)))
live_at m n b less = ap (live_from m b) (let e : n - b ≡ suc (n - (b + 1)) = omega arith in e)

pub live_first : (m : Map) → live_from m 0 named ≡ live_from m 0 (named - 0)
live_first m = ap (live_from m 0) (let e : named ≡ named - 0 = omega arith in e)

pub live_last : (m : Map) (b : ℕ) → 256 ≤ b → live_from m b (named - b) ≡ []
live_last m b past = ap (live_from m b) (let e : named - b ≡ 0 = omega (arith, named_is) in e)

pub live_none : (m : Map) (b : ℕ) (so_far : List (ℕ × ℕ)) → b < 256 → is_some (m b) ≡ false → live_from m 0 named ≡ so_far ++ live_from m b (named - b) → live_from m 0 named ≡ so_far ++ live_from m (b + 1) (named - (b + 1))
live_none m b so_far less none is =
    is ∙ ap (λ (l : List (ℕ × ℕ)). so_far ++ l) (live_at m named b (let n = named_is in omega arith) ∙ by (m b) none)
  where
    by : (o : Option (List ℕ)) → is_some o ≡ false → live_one b o (live_from m (b + 1) (named - (b + 1))) ≡ live_from m (b + 1) (named - (b + 1))
    by None none = refl
    by (Some v) none = cc

pub live_some : (m : Map) (b : ℕ) (home : List ℕ) (so_far : List (ℕ × ℕ)) → b < 256 → is_some (m b) ≡ true → ((v : List ℕ) → m b ≡ Some v → home ≡ v) → live_from m 0 named ≡ so_far ++ live_from m b (named - b)
    → live_from m 0 named ≡ (so_far ++ (b, get_or home 0 0) ∷ []) ++ live_from m (b + 1) (named - (b + 1))
live_some m b home so_far less some holds is =
    is ∙ ap (λ (l : List (ℕ × ℕ)). so_far ++ l) (live_at m named b (let n = named_is in omega arith) ∙ by (m b) some holds)
    ∙ sym (append_assoc so_far ((b, get_or home 0 0) ∷ []) (live_from m (b + 1) (named - (b + 1))))
  where
    by : (o : Option (List ℕ)) → is_some o ≡ true → ((v : List ℕ) → o ≡ Some v → home ≡ v) → live_one b o (live_from m (b + 1) (named - (b + 1))) ≡ (b, get_or home 0 0) ∷ live_from m (b + 1) (named - (b + 1))
    by None some holds = cc
    by (Some v) some holds = ap (λ (l : List ℕ). (b, get_or l 0 0) ∷ live_from m (b + 1) (named - (b + 1))) (sym (holds v refl))
