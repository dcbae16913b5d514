-- What a world serves, apart from what follows of it.
use Rattle.std.proofs.Common.{◌≡◌, ℕ, ◌+◌, ◌-◌, ◌<◌, ◌≤◌, ◌^◌, eqb, true, List, length, refl, sym, ap, subst, ◌∙◌, arith}
use Rattle.std.proofs.lemmas.Bool.{eq-eqb, ne_eqb}
use Rattle.std.specs.Prelude.{Contains}
use Rattle.std.specs.Coded.{Coded-set, coded_list, coded_ℕ, le_prop}
use Rattle.mq_blocks.specs.Geometry.{homes_of}
use Rattle.mq_blocks.specs.declared.geometry.Geometry.{Geometry}
use Rattle.mq_recover.specs.Drives.{DriveState}
use Rattle.mq_replica.specs.Contents.{AreSame, Contents, IsUpToNumber, after_first, after_update, number_in, number_of, numbered_block}
use Rattle.mq_replica.specs.Feeding.{AreNumbered, last_of}
use Rattle.mq_replica.specs.Images.{AlwaysStands, StandsFor}
use Rattle.mq_replica.specs.Updates.{last_home}
use Rattle.mq_replica.specs.World.{World, IsServed}
use Rattle.mq_replica.specs.declared.update.Update.{Update}
use Rattle.mq_replica.proofs.Histories.{first_after, number_high}

pub last_within : (g : Geometry) → last_home g < homes_of g
last_within g = let low = g.meta_low in omega (arith, low)

-- the same contents everywhere
pub always_more : (g : Geometry) (d : DriveState) (P Q : Contents → Type 0) → ((c : Contents) → P c → Q c) → AlwaysStands g d P → AlwaysStands g d Q
always_more g d P Q f s = λ cut left. record { readable = (s cut left).readable; are = λ ds read. f _ ((s cut left).are ds read) }

module _ (g : Geometry) (base : ℕ) (first : Contents) where
  -- without what holds once nothing is waiting, over what counts in a world
  pub record IsGood (last acknowledged : ℕ) (pushed : List Update) (answers : List ℕ) (c : Contents) : Type 0 where
    pub low : base ≤ number_of g c
    pub high : number_of g c ≤ last
    pub contents : IsUpToNumber g base pushed first c
    pub answered : (n : ℕ) → Contains answers n → n ≤ number_of g c
    pub heard : acknowledged ≤ number_of g c

  abbrev pub Good : World → Contents → Type 0
  Good w c = IsGood (last_of w.feeder) w.feeder.acknowledged w.pushed w.answers c

  pub Good-prop : (last acknowledged : ℕ) (pushed : List Update) (answers : List ℕ) (c : Contents) → IsProp (IsGood last acknowledged pushed answers c)
  Good-prop last acknowledged pushed answers c = hlevel (le_prop, Coded-set, coded_list, coded_ℕ)

  pub number_same : (c f : Contents) → AreSame g c f → number_of g f ≡ number_of g c
  number_same c f same = ap number_in (same (last_home g) (last_within g))

  pub good_same : (last acknowledged : ℕ) (pushed : List Update) (answers : List ℕ) (c f : Contents) → AreSame g c f → IsGood last acknowledged pushed answers c → IsGood last acknowledged pushed answers f
  good_same last acknowledged pushed answers c f same good =
      let e = number_same c f same in
      record {
        low = subst (λ (n : ℕ). base ≤ n) (sym e) good.low;
        high = subst (λ (n : ℕ). n ≤ last) (sym e) good.high;
        contents = λ x at. (let inside = last_within g in same x (omega (arith, at, inside))) ∙ (good.contents x at ∙ ap (λ (n : ℕ). after_first (n - base) pushed first x) (sym e));
        answered = λ n there. subst (λ (m : ℕ). n ≤ m) (sym e) (good.answered n there);
        heard = subst (λ (n : ℕ). acknowledged ≤ n) (sym e) good.heard;
      }

  pub stands_good : (w : World) (d : DriveState) (c : Contents) → StandsFor g d c → Good w c → AlwaysStands g d (Good w)
  stands_good w d c stands good = always_more g d (AreSame g c) (Good w) (λ f same. good_same _ _ _ _ c f same good) stands

  -- and once nothing is waiting, the number is the last
  pub served : (w : World) (c : Contents) → Good w c → IsServed g base first w c
  served w c good = record {
    low = good.low;
    high = good.high;
    contents = good.contents;
    answers = good.answered;
    acknowledged = good.heard;
    all = λ none. (let l : length w.feeder.waiting ≡ 0 = ap length none in let a = good.heard in let b = good.high in omega (arith, l, a, b));
  }

  -- ---- an update more

  module _ (pushed : List Update) (u : Update) (c : Contents) (small : u.number < 2 ^ 64) (reads : number_in (numbered_block u.number) ≡ u.number) (numbers : AreNumbered base pushed) (there : Contains pushed u) (is : u.number ≡ number_of g c + 1) where
    pub number_next : number_of g (after_update g u c) ≡ u.number
    number_next = rw (eq-same (last_home g)) reads
      where
        eq-same : (n : ℕ) → eqb n n ≡ true
        eq-same n = eq-eqb n n refl

    pub good_next : (last acknowledged : ℕ) (answers : List ℕ) → last ≡ base + length pushed → IsGood last acknowledged pushed answers c → IsGood last acknowledged pushed answers (after_update g u c)
    good_next last acknowledged answers last_is good =
        let e = number_next in
        let low = good.low in
        let high = number_high base pushed u numbers there in
        let n = number_of g c in
        let step : n - base + 1 ≡ number_of g (after_update g u c) - base = omega (arith, e, is, low) in
        record {
          low = omega (arith, e, is, low);
          high = omega (arith, e, is, high, last_is);
          contents = λ x at. below_last x at ∙ (change x (n - base) (good.contents x at) ∙ (sym (first_after base (n - base) pushed first u x numbers there (omega (arith, is, low))) ∙ ap (λ (m : ℕ). after_first m pushed first x) step));
          answered = λ m was. (let l = good.answered m was in omega (arith, l, e, is));
          heard = (let l = good.heard in omega (arith, l, e, is));
        }
      where
        below_last : (x : ℕ) → x < last_home g → after_update g u c x ≡ Rattle.mq_replica.specs.Contents.with_writes u.writes c x
        below_last x at = rw (ne_eqb x (last_home g) (λ e. omega (arith, e, at))) refl

        change : (x k : ℕ) → c x ≡ after_first k pushed first x → Rattle.mq_replica.specs.Contents.with_writes u.writes c x ≡ Rattle.mq_replica.specs.Contents.with_writes u.writes (after_first k pushed first) x
        change x k e = ap (λ (v : List ℕ). Rattle.mq_blocks.specs.Journal.or_else (Rattle.mq_blocks.specs.Machine.write_of u.writes x) v) e
