-- Each step keeps the rule of the queue.
use Rattle.std.proofs.Common.{◌≡◌, ◌≢◌, ℕ, zero, suc, ◌+◌, ◌<◌, true, false, true≢false, List, [], ◌∷◌, ◌++◌, length, set, sym, refl, ap, ◌∙◌, subst, ⊎_elim, append_assoc, length-append, arith}
use Rattle.std.specs.Prelude.{Option}
use mathlib.Core.Option.{some, some-ne-none}
use lib.ListN.{get_elem?}
use Rattle.crossbeam_queue.specs.Fifo.{Pushes, Pops, Forks, Merges, Learns}
use Rattle.crossbeam_queue.proofs.Lists.{at_set, at_snoc}
use Rattle.mq_notices.specs.declared.rule.Log.{Log}
use Rattle.mq_notices.specs.declared.notice.Notice.{Notice}
use Rattle.mq_notices.specs.Notices.{Merged, notices_from}
use Rattle.mq_notices.specs.Rule.{AreTaken, Fits, IsQueued, log}
use Rattle.mq_notices.specs.Notices.Merged.{none}
use Rattle.mq_notices.proofs.Lists.{merged-left, merged-length, merged-right, notices-length, notices-next}

at_end : (l : List Log) (a b : Log) (j : ℕ) → get_elem? l j ≢ some b → get_elem? (l ++ a ∷ []) j ≡ some b → j ≡ length l
at_end [] a b zero n e = refl
at_end [] a b (suc j) n e = absurd (some-ne-none b (sym e))
at_end (x ∷ xs) a b zero n e = absurd (n e)
at_end (x ∷ xs) a b (suc j) n e = ap suc (at_end xs a b j n e)

abbrev All : (ℕ → Log → Type 0) → List Log → Type 0
All F views = (port : ℕ) (v : Log) → get_elem? views port ≡ some v → F port v

all_set : (F : ℕ → Log → Type 0) (views : List Log) (port : ℕ) (w : Log) → F port w → ((j : ℕ) (u : Log) → j ≢ port → get_elem? views j ≡ some u → F j u) → All F (set views port w)
all_set F views port w mine others j u e = ⊎_elim (λ (x : (j ≡ port) × (w ≡ u)). subst (λ (y : ℕ × Log). F y.0 y.1) (λ i. (sym x.0 i, x.1 i)) mine)
    (λ (x : (j ≢ port) × (get_elem? views j ≡ some u)). others j u x.0 x.1) (at_set views port j w u e)

pub begins : IsQueued [] (log true true [] [] [] ∷ [])
begins = record {
  session = 0;
  helper = 0;
  pushed = [];
  mine = [];
  theirs = [];
  taken = [];
  merged = none;
  whole = refl;
  each = all_set (Fits 0 0 [] [] []) (log true true [] [] [] ∷ []) 0 (log true true [] [] [])
      (record { as_session = λ _. (refl, refl, refl); as_helper = λ _. (refl, refl) })
      (λ j u other e. absurd (other (at_end [] _ u j (λ x. some-ne-none u (sym x)) e)));
}

pub pushes : (n port : ℕ) (v : Log) (x : Notice) → v.session ≡ true → x.index ≡ length v.pushed → Pushes IsQueued n port v x (λ w. w ≡ log v.session v.helper (v.pushed ++ x.number ∷ []) v.mine v.theirs)
pushes n port v x may index items views room h at =
    let w : Log = log v.session v.helper (v.pushed ++ x.number ∷ []) v.mine v.theirs in
    let own = (h.each port v at).as_session may in
    let pushed : List (Option ℕ) = h.pushed ++ x.number ∷ [] in
    let long : length v.pushed ≡ length h.pushed = ap length own.1 in
    let next : notices_from 0 h.pushed ++ x ∷ [] ≡ notices_from 0 pushed = notices-next 0 h.pushed x (omega arith) in (
      w,
      record {
        session = h.session;
        helper = h.helper;
        pushed = pushed;
        mine = h.mine;
        theirs = h.theirs;
        taken = h.taken;
        merged = h.merged;
        whole = sym (append_assoc h.taken items (x ∷ [])) ∙ ap (λ (l : List Notice). l ++ x ∷ []) h.whole ∙ next;
        each = all_set (Fits h.session h.helper pushed h.mine h.theirs) views port w
            (record { as_session = λ _. (own.0, ap (λ (l : List (Option ℕ)). l ++ x.number ∷ []) own.1, own.2); as_helper = (h.each port v at).as_helper })
            (λ j u other e. record { as_session = λ p. absurd (other (((h.each j u e).as_session p).0 ∙ sym own.0)); as_helper = (h.each j u e).as_helper });
      },
      refl,
    )

-- of what was pushed, the session has not taken all while something is in the queue
fewer : (mine theirs taken items : List Notice) (x : Notice) (pushed : List (Option ℕ)) → Merged mine theirs taken → taken ++ x ∷ items ≡ notices_from 0 pushed → length mine < length pushed
fewer mine theirs taken items x pushed merged whole =
    let a = merged-length merged in
    let b : length taken + length (x ∷ items) ≡ length (notices_from 0 pushed) = sym (length-append taken (x ∷ items)) ∙ ap length whole in
    let c = notices-length 0 pushed in
    omega arith

pub takes : (port : ℕ) (v : Log) → v.session ≡ true → Pops IsQueued port v (λ x w. (w ≡ log v.session v.helper v.pushed (v.mine ++ x ∷ []) v.theirs) × (length v.mine < length v.pushed))
takes port v may x items views h at =
    let w : Log = log v.session v.helper v.pushed (v.mine ++ x ∷ []) v.theirs in
    let own = (h.each port v at).as_session may in
    let mine : List Notice = h.mine ++ x ∷ [] in
    let few : length h.mine < length h.pushed = fewer h.mine h.theirs h.taken items x h.pushed h.merged h.whole in
    let long : length v.pushed ≡ length h.pushed = ap length own.1 in
    let short : length v.mine ≡ length h.mine = ap length own.2 in (
      w,
      record {
        session = h.session;
        helper = h.helper;
        pushed = h.pushed;
        mine = mine;
        theirs = h.theirs;
        taken = h.taken ++ x ∷ [];
        merged = merged-left x h.merged;
        whole = append_assoc h.taken (x ∷ []) items ∙ h.whole;
        each = all_set (Fits h.session h.helper h.pushed mine h.theirs) views port w
            (record { as_session = λ _. (own.0, own.1, ap (λ (l : List Notice). l ++ x ∷ []) own.2); as_helper = (h.each port v at).as_helper })
            (λ j u other e. record { as_session = λ p. absurd (other (((h.each j u e).as_session p).0 ∙ sym own.0)); as_helper = (h.each j u e).as_helper });
      },
      (refl, omega arith),
    )

pub helps : (port : ℕ) (v : Log) → v.helper ≡ true → Pops IsQueued port v (λ x w. w ≡ log v.session v.helper v.pushed v.mine (v.theirs ++ x ∷ []))
helps port v may x items views h at =
    let w : Log = log v.session v.helper v.pushed v.mine (v.theirs ++ x ∷ []) in
    let own = (h.each port v at).as_helper may in
    let theirs : List Notice = h.theirs ++ x ∷ [] in (
      w,
      record {
        session = h.session;
        helper = h.helper;
        pushed = h.pushed;
        mine = h.mine;
        theirs = theirs;
        taken = h.taken ++ x ∷ [];
        merged = merged-right x h.merged;
        whole = append_assoc h.taken (x ∷ []) items ∙ h.whole;
        each = all_set (Fits h.session h.helper h.pushed h.mine theirs) views port w
            (record { as_session = (h.each port v at).as_session; as_helper = λ _. (own.0, ap (λ (l : List Notice). l ++ x ∷ []) own.1) })
            (λ j u other e. record { as_session = (h.each j u e).as_session; as_helper = λ p. absurd (other (((h.each j u e).as_helper p).0 ∙ sym own.0)) });
      },
      refl,
    )

pub forks : (port : ℕ) (v : Log) → v.session ≡ true → v.helper ≡ true → Forks IsQueued port v (log true false v.pushed v.mine []) (log false true [] [] v.theirs)
forks port v a b items views h at =
    let l : Log = log true false v.pushed v.mine [] in
    let r : Log = log false true [] [] v.theirs in
    let own = h.each port v at in
    let vs : List Log = set views port l in
    let Old : ℕ → Log → Type 0 = λ j u. (u.session ≡ true → (j ≡ h.session) × (u.pushed ≡ h.pushed) × (u.mine ≡ h.mine)) × (u.helper ≢ true) in
    let old : All Old vs = all_set Old views port l ((λ _. own.as_session a), λ p. true≢false (sym p)) (λ j u other e. ((h.each j u e).as_session, λ p. other (((h.each j u e).as_helper p).0 ∙ sym (own.as_helper b).0))) in
    record {
      session = h.session;
      helper = length vs;
      pushed = h.pushed;
      mine = h.mine;
      theirs = h.theirs;
      taken = h.taken;
      merged = h.merged;
      whole = h.whole;
      each = λ j u e. ⊎_elim (λ x. record { as_session = (old j u x).0; as_helper = λ p. absurd ((old j u x).1 p) })
          (λ (is : r ≡ u). record {
            as_session = λ p. absurd (true≢false (sym (ap (λ (y : Log). y.session) is ∙ p)));
            as_helper = λ p. (at_end vs r u j (λ x. (old j u x).1 p) e, ap (λ (y : Log). y.theirs) (sym is) ∙ (own.as_helper b).1);
          }) (at_snoc vs r u j e);
    }

pub merges : (port : ℕ) (v : Log) (other : ℕ) (u : Log) → v.session ≡ true → u.helper ≡ true → Merges IsQueued port v other u (log true true v.pushed v.mine u.theirs) (log false false [] [] [])
merges port v other u a b items views h at two at' =
    let both : Log = log true true v.pushed v.mine u.theirs in
    let own = (h.each port v at).as_session a in
    let vs : List Log = set views port both in
    let was : get_elem? views other ≡ some u = ⊎_elim (λ x. absurd (two x.0)) (λ x. x.1) (at_set views port other both u at') in
    let theirs = (h.each other u was).as_helper b in
    let Now : ℕ → Log → Type 0 = λ j y. j ≢ other → Fits h.session port h.pushed h.mine h.theirs j y in
    let now : All Now vs = all_set Now views port both
    (λ _. record { as_session = λ _. own; as_helper = λ _. (refl, theirs.1) })
    (λ j y _ e apart. record { as_session = (h.each j y e).as_session; as_helper = λ p. absurd (apart (((h.each j y e).as_helper p).0 ∙ sym theirs.0)) }) in
    record {
      session = h.session;
      helper = port;
      pushed = h.pushed;
      mine = h.mine;
      theirs = h.theirs;
      taken = h.taken;
      merged = h.merged;
      whole = h.whole;
      each = all_set (Fits h.session port h.pushed h.mine h.theirs) vs other (log false false [] [] [])
          (record { as_session = λ p. absurd (true≢false (sym p)); as_helper = λ p. absurd (true≢false (sym p)) })
          (λ j y apart e. now j y e apart);
    }

pub totals : (port : ℕ) (v : Log) → v.session ≡ true → v.helper ≡ true → Learns IsQueued port v (λ items. AreTaken v.pushed v.mine v.theirs items)
totals port v a b items views h at =
    let own = (h.each port v at).as_session a in
    let theirs = (h.each port v at).as_helper b in
    record {
      taken = h.taken;
      merged = subst (λ (y : List Notice × List Notice). Merged y.0 y.1 h.taken) (λ i. (sym own.2 i, sym theirs.1 i)) h.merged;
      whole = h.whole ∙ ap (λ (l : List (Option ℕ)). notices_from 0 l) (sym own.1);
    }
