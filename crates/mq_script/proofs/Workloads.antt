-- The scripts and groups of a workload, one after another.
use Rattle.std.proofs.Common.{◌≡◌, ℕ, suc, ◌+◌, ◌-◌, ◌<◌, List, [], ◌∷◌, ◌++◌, ◌∙◌, ap, arith, append_assoc}
use Rattle.rand_pcg.specs.Lcg.{Lcg}
use Rattle.rand_pcg.specs.Pcg.{pcg64}
use Rattle.mq_script.specs.Scripts.{Group, Script}
use Rattle.mq_script.specs.Workloads.{end_of, groups_from, requests_of, script_of, scripts_from}

pub scripts_step :
    (list : List Script) (s : Script) (threads seed t groups : ℕ) (whole : List Script) → t < threads → list ++ scripts_from (threads - t) seed t groups ≡ whole → s ≡ script_of seed t groups
    → (list ++ s ∷ []) ++ scripts_from (threads - (t + 1)) seed (t + 1) groups ≡ whole
scripts_step list s threads seed t groups whole h so e =
    let n : suc (threads - (t + 1)) ≡ threads - t = omega arith in
    append_assoc list (s ∷ []) (scripts_from (threads - (t + 1)) seed (t + 1) groups)
    ∙ ap (λ (x : Script). list ++ x ∷ scripts_from (threads - (t + 1)) seed (t + 1) groups) e
    ∙ ap (λ (k : ℕ). list ++ scripts_from k seed t groups) n ∙ so

pub groups_step :
    (list : List Group) (g : Group) (groups thread i word : ℕ) (rng after : Lcg) (whole : List Group) → i < groups → (word, after) ≡ pcg64 rng
    → list ++ groups_from (groups - i) thread (i + 1) groups rng ≡ whole → g ≡ record { requests = requests_of thread word; end = end_of (i + 1) groups }
    → (list ++ g ∷ []) ++ groups_from (groups - (i + 1)) thread (i + 1 + 1) groups after ≡ whole
groups_step list g groups thread i word rng after whole h step so e =
    let n : suc (groups - (i + 1)) ≡ groups - i = omega arith in
    append_assoc list (g ∷ []) (groups_from (groups - (i + 1)) thread (i + 1 + 1) groups after)
    ∙ ap (λ (x : Group). list ++ x ∷ groups_from (groups - (i + 1)) thread (i + 1 + 1) groups after) e
    ∙ ap
    (λ (p : ℕ × Lcg). list ++ record { requests = requests_of thread p.0; end = end_of (i + 1) groups } ∷ groups_from (groups - (i + 1)) thread (i + 1 + 1) groups p.1)
    step
    ∙ ap (λ (k : ℕ). list ++ groups_from k thread (i + 1) groups rng) n ∙ so
