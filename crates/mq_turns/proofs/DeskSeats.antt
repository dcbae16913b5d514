-- Views that are cut and joined, the desk at its start and at its end.
use Rattle.std.proofs.Common.{◌≡◌, ℕ, suc, ◌<◌, ◌≤◌, [], length, sym, refl, ap, subst, arith, length-append}
use Rattle.atomic_table.specs.Table.{Splits, Joins}
use Rattle.mq_turns.specs.Meaning.{Meaning, Grows, newest, HasNumberAt}
use Rattle.mq_turns.specs.Lists.{Each, times, tally}
use Rattle.mq_turns.specs.Desk.{turn_at, allotment, Now, Below, sessions_from, sits, blank, others, seated, noted, heard, joined, Drawer, Ruled}
use Rattle.mq_turns.specs.declared.rule.Opening.{Opening}
use Rattle.mq_turns.specs.declared.rule.Known.{Known}
use Rattle.mq_turns.specs.declared.rule.ChairView.{ChairView}
use Rattle.mq_turns.proofs.Lists.{each_append, times_append}
use Rattle.mq_turns.proofs.DeskOrder.{order_none, order_same}
use Rattle.mq_turns.proofs.DeskTurns.{turns_split, turns_join}
use Rattle.mq_turns.proofs.MarksClaims.{reader_none, reader_both}
use Rattle.mq_turns.proofs.MarksReadings.{words_split, words_join, tally_append}
use Rattle.mq_turns.proofs.DeskNumbers.{numbers_split, numbers_join, drawns_below, last_of_le, last_of_bounds}
use Rattle.mq_turns.proofs.DeskSessions.{sessions_split, sessions_join, sitter_none, cut_counts, cut_sits, joined_counts, joined_sits}

-- what a chair that heard a note had seen, and what the note was of
pub told : {P Q R E : Type 0} (n : ℕ) (v f : ChairView P Q R E) → Below n (heard v (noted f)) → Below n f × Below n v
told n v f b = let x = b.0 in (last_of_bounds f.seen n f.drawn (omega arith), (omega arith, b.1))

module _ {P Q R E : Type 0} (μ : Meaning P Q R E) where
  -- a view that knows a number alone
  knows_none : (most : ℕ) (K : Known P Q R E) (v : ChairView P Q R E) → v.parts ≡ 0 → v.seen ≤ newest K → v.drawn ≡ [] → v.read ≡ [] → Drawer μ most K v
  knows_none most K v parts seen drew read = record {
    few = let a : length v.drawn ≡ 0 = ap length drew in omega arith;
    opening = λ n. absurd (n parts);
    seen = seen;
    drew = subst (Each (λ d. HasNumberAt K.opening.base K.log d.0 d.1)) (sym drew) tt;
    read = subst (Each (λ r. μ.ok r.1 × Grows r.1 K × μ.fits r.0 r.1)) (sym read) tt;
    order = λ one. absurd (omega arith);
  }

module _ {M P Q R E : Type 0} (μ : Meaning P Q R E) (o : Opening P Q R) (chairs : ℕ) where
  abbrev Rule : Now M P Q R E → Type 0
  Rule = Ruled μ o chairs

  -- a note of what a chair saw and drew
  pub notes : (id : ℕ) (v : ChairView P Q R E) → Splits Rule id v v (noted v)
  notes id v s rk at =
      let K : Known P Q R E = rk.0 in (
        K,
        rk.1,
        turns_split μ (turn_at o) K s id v v (noted v) rk.2 at refl refl (rk.2.each_chair id v at).idle refl refl,
        numbers_split μ chairs K s id v v (noted v) rk.3 at (omega arith) refl refl (λ d. (d, knows_none μ (allotment chairs) K (noted v) refl (last_of_le v.seen (newest K) v.drawn d.seen (drawns_below μ K v.drawn d.drew)) refl refl)),
        words_split μ K s id v v (noted v) rk.4 at refl (rk.4.idle id v at) refl (λ d. (d, reader_none μ K)),
        sessions_split μ K s id v v (noted v) rk.5 at (λ i. omega arith) (λ d. (d, sitter_none μ K (noted v) refl refl)),
      )

  -- a chair is set apart, while nothing is held or drawn
  pub seats : (id : ℕ) (v : ChairView P Q R E) → 0 < v.parts → v.held ≡ [] → v.drawn ≡ [] → v.read ≡ [] → v.reading.charged ≡ [] → v.sessions ≡ sessions_from v.session v.parts → Splits Rule id v (others v) (seated v)
  seats id v live none_held none_drawn none_read none_charged sessions s rk at =
      let K : Known P Q R E = rk.0 in
      let none_yet : length v.drawn ≡ 0 = ap length none_drawn in (
        K,
        rk.1,
        turns_split μ (turn_at o) K s id v (others v) (seated v) rk.2 at refl refl (λ _. none_held) refl refl,
        numbers_split μ chairs K s id v (others v) (seated v) rk.3 at (omega arith) refl refl (λ d. (
          record { few = omega arith; opening = λ n. d.opening (λ e. omega arith); seen = d.seen; drew = d.drew; read = d.read; order = λ one. order_same μ (record blank { session = suc v.session }) (others v) refl none_drawn none_read (order_none μ (suc v.session)) },
          record { few = omega arith; opening = λ n. d.opening (λ e. omega arith); seen = d.seen; drew = tt; read = tt; order = λ one. order_none μ v.session },
        )),
        words_split μ K s id v (others v) (seated v) rk.4 at refl (λ z. none_charged) none_charged (λ d. (d, d)),
        sessions_split μ K s id v (others v) (seated v) rk.5 at (cut_counts v live sessions) (cut_sits μ K v live none_drawn sessions),
      )

  -- a chair hears a note
  pub hears_note : (id : ℕ) (v : ChairView P Q R E) (other : ℕ) (w f : ChairView P Q R E) → w ≡ noted f → Joins Rule id v other w (heard v w) blank
  hears_note id v other w f is s rk at apart there =
      let K : Known P Q R E = rk.0 in
      let parts : w.parts ≡ 0 = ap (λ u. u.parts) is in
      let drew : w.drawn ≡ [] = ap (λ u. u.drawn) is in (
        K,
        rk.1,
        turns_join μ (turn_at o) K s id v other w (heard v w) blank rk.2 at apart there (ap (λ u. u.hand) is) (ap (λ u. u.held) is) refl refl (λ z. z) refl refl,
        numbers_join μ chairs K s id v other w (heard v w) blank rk.3 at apart there (omega arith) (let a : length w.drawn ≡ 0 = ap length drew in omega arith) (λ k. let a : times k w.drawn ≡ 0 = ap (times k) drew in omega arith) refl
            (λ d e. (
              record { few = d.few; opening = d.opening; seen = let a = d.seen in let b = e.seen in omega arith; drew = d.drew; read = d.read; order = d.order },
              knows_none μ (allotment chairs) K blank refl (omega arith) refl refl,
            )),
        words_join μ K s id v other w (heard v w) blank rk.4 at apart there (λ t. let a : tally t w.reading.charged ≡ 0 = ap (λ u. tally t u.reading.charged) is in omega arith) (rk.4.idle id v at) refl (λ d e. (d, reader_none μ K)),
        sessions_join μ K s id v other w (heard v w) blank rk.5 at apart there (λ i. let a : sits i w ≡ 0 = ap (sits i) is in omega arith) (λ d e. (record { own = d.own; drew = d.drew }, sitter_none μ K blank refl refl)),
      )

  -- two chairs, of which the second holds nothing, are one
  pub glues : (id : ℕ) (v : ChairView P Q R E) (other : ℕ) (w : ChairView P Q R E) → 0 < v.parts → w.parts ≡ 1 → w.held ≡ [] → w.hand ≡ 0 → Joins Rule id v other w (joined v w) blank
  glues id v other w live one none_held no_hand s rk at apart there =
      let K : Known P Q R E = rk.0 in
      let l = length-append v.drawn w.drawn in (
        K,
        rk.1,
        turns_join μ (turn_at o) K s id v other w (joined v w) blank rk.2 at apart there no_hand none_held refl refl (λ z. omega arith) refl refl,
        numbers_join μ chairs K s id v other w (joined v w) blank rk.3 at apart there (omega arith) l (λ k. times_append k v.drawn w.drawn) refl
            (λ d e. (
              record {
                few = let p = d.few in let q = e.few in omega arith;
                opening = λ n. d.opening (λ z. omega arith);
                seen = let a = d.seen in let b = e.seen in omega arith;
                drew = each_append _ v.drawn w.drawn d.drew e.drew;
                read = each_append _ v.read w.read d.read e.read;
                order = λ z. absurd (omega arith);
              },
              knows_none μ (allotment chairs) K blank refl (omega arith) refl refl,
            )),
        words_join μ K s id v other w (joined v w) blank rk.4 at apart there (λ t. let a = tally_append t v.reading.charged w.reading.charged in omega arith) (λ z. absurd (omega arith)) refl (λ d e. (reader_both μ K v.reading w.reading d e, reader_none μ K)),
        sessions_join μ K s id v other w (joined v w) blank rk.5 at apart there (joined_counts v w) (λ d e. (joined_sits μ K v w live d e, sitter_none μ K blank refl refl)),
      )
