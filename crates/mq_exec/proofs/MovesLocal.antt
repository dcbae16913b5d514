-- What a transaction writes and frees is determined, and is what changed over the pages of a view.
use Rattle.std.proofs.Common.{get_or, ◌≡◌, ◌≢◌, ℕ, zero, suc, ◌<◌, ◌≤◌, ◌⊎◌, inl, inr, List, [], ◌∷◌, length, refl, sym, ap, subst, ◌∙◌, arith}
use Rattle.std.specs.Prelude.{Option, Some, None, ◌↔◌}
use Rattle.std.specs.List.{AllPairs, Contains}
use Rattle.std.proofs.lemmas.Bool.{true≢false}
use Rattle.std.proofs.lemmas.Option.{none-some}
use Rattle.mq_blocks.specs.Geometry.{meta_of}
use Rattle.mq_blocks.specs.declared.geometry.Geometry.{Geometry}
use Rattle.mq_exec.specs.Moves.{IsFreed, IsWritten, LeadsTo, Moves}
use Rattle.mq_inodes.specs.Differences.{Differs}
use Rattle.mq_inodes.specs.Changes.{IsOfFile}
use Rattle.mq_inodes.specs.Pages.{Pages, content, over}
use Rattle.mq_inodes.proofs.PagesHeld.{held-is}
use Rattle.mq_inodes.proofs.LaidOnce.{page-once, shown-taken, shown-vacant}
use Rattle.mq_pages.specs.declared.page.Kind.{Kind}
use Rattle.mq_pages.specs.declared.page.Kind.TheVariants.{Data, Meta}
use Rattle.mq_pages.specs.declared.page.Write.{Write}
use Rattle.mq_tree.proofs.Members.{cons-here, cons-there}
use Rattle.mq_tree.specs.Laid.{IsVacant, ShowsPage}
use Rattle.mq_tree.specs.Volume.{Volume}
use Rattle.mq_tree.proofs.Decoded.{taken-use}
use Rattle.mq_tree.proofs.SoundVolumes.{sound-nodes}
use Rattle.mq_tree.specs.Uses.{AreUses}

-- ---- rising lists with the same elements

later : {X : Type 0} (n : X → ℕ) (y : X) (ys : List X) (x : X) → AllPairs (λ a b. n a < n b) (y ∷ ys) → Contains (y ∷ ys) x → (x ≡ y) ⊎ (Contains ys x × (n y < n x))
later {X} n y ys x r (zero, l, e) = inl (sym e)
later {X} n y ys x r (suc k, l, e) =
    let small : k < length ys = omega arith in
    inr ((k, small, e), subst (λ z. n y < n z) e (r 0 (suc k) x (omega arith) l))

tail-rises : {X : Type 0} (n : X → ℕ) (y : X) (ys : List X) → AllPairs (λ a b. n a < n b) (y ∷ ys) → AllPairs (λ a b. n a < n b) ys
tail-rises {X} n y ys r = λ i j d l h. r (suc i) (suc j) d (omega arith) (omega arith)

same-first : {X : Type 0} (n : X → ℕ) (x y : X) (xs ys : List X) → (x ≡ y) ⊎ (Contains ys x × (n y < n x)) → (y ≡ x) ⊎ (Contains xs y × (n x < n y)) → x ≡ y
same-first {X} n x y xs ys (inl e) b = e
same-first {X} n x y xs ys (inr a) (inl e) = sym e
same-first {X} n x y xs ys (inr a) (inr b) = let p = a.1 in let q = b.1 in absurd (omega arith)

tails : {X : Type 0} (n : X → ℕ) (x y : X) (xs ys : List X) → x ≡ y → AllPairs (λ a b. n a < n b) (x ∷ xs) → AllPairs (λ a b. n a < n b) (y ∷ ys) → ((z : X) → Contains (x ∷ xs) z → Contains (y ∷ ys) z) → (z : X) → Contains xs z → Contains ys z
tails {X} n x y xs ys same r t h z c = elim (later n y ys z t (h z (cons-there x xs z c))) [
  | inl e ↦ absurd (below c e)
  | inr m ↦ m.0
]
  where
    below : Contains xs z → z ≡ y → ⊥
    below (k, l, e) f =
        let low : n x < n (get_or xs k x) = r 0 (suc k) x (omega arith) (omega arith) in
        let here : get_or (x ∷ xs) (suc k) z ≡ z = e in
        let first : n x < n z = subst (λ a. n x < n a) e (r 0 (suc k) z (omega arith) (omega arith)) in
        let g : n z ≡ n x = ap n f ∙ ap n (sym same) in
        omega arith

rising-same : {X : Type 0} (n : X → ℕ) (xs ys : List X) → AllPairs (λ a b. n a < n b) xs → AllPairs (λ a b. n a < n b) ys → ((x : X) → Contains xs x ↔ Contains ys x) → xs ≡ ys
rising-same {X} n [] [] r t h = refl
rising-same {X} n [] (y ∷ ys) r t h = let c = (h y).1 (cons-here y ys y refl) in let l = c.1 in absurd (omega arith)
rising-same {X} n (x ∷ xs) [] r t h = let c = (h x).0 (cons-here x xs x refl) in let l = c.1 in absurd (omega arith)
rising-same {X} n (x ∷ xs) (y ∷ ys) r t h =
    let same = same-first n x y xs ys (later n y ys x t ((h x).0 (cons-here x xs x refl))) (later n x xs y r ((h y).1 (cons-here y ys y refl))) in
    let rest = rising-same n xs ys (tail-rises n x xs r) (tail-rises n y ys t) (λ z.
    (tails n x y xs ys same r t (λ a. (h a).0) z, tails n y x ys xs (sym same) t r (λ a. (h a).1) z)) in
    ap (λ (a : X). a ∷ xs) same ∙ ap (λ (zs : List X). y ∷ zs) rest

-- two volumes have one transaction between them
pub moves-once : (g : Geometry) (v w : Volume) (writes others : List Write) (frees rest : List ℕ) → Moves g v w writes frees → Moves g v w others rest → (writes ≡ others) × (frees ≡ rest)
moves-once g v w writes others frees rest m o = (
  rising-same (λ (x : Write). x.block) writes others m.writes_rise o.writes_rise (λ x. (λ c. (o.written x).1 ((m.written x).0 c), λ c. (m.written x).1 ((o.written x).0 c))),
  rising-same (λ (b : ℕ). b) frees rest m.frees_rise o.frees_rise (λ b. (λ c. (o.freed b).1 ((m.freed b).0 c), λ c. (m.freed b).1 ((o.freed b).0 c))),
)

-- ---- what changed over a view

pub kind-same : (a b : Kind) → (a ≡ Data → b ≡ Data) → (b ≡ Data → a ≡ Data) → a ≡ b
kind-same Meta Meta f h = refl
kind-same Meta Data f h = h refl
kind-same Data b f h = sym (f refl)

pub write-same : (x y : Write) → y.block ≡ x.block → y.content ≡ x.content → y.kind ≡ x.kind → y ≡ x
write-same x y e f h =
    ap (λ (b : ℕ). record { block = b; kind = y.kind; content = y.content }) e
    ∙ ap (λ (k : Kind). record { block = x.block; kind = k; content = y.content }) h
    ∙ ap (λ (p : List ℕ). record { block = x.block; kind = x.kind; content = p }) f

-- what is known of a block
pub data Known (o : Option (Option (List ℕ))) : Type 0 where
  unknown : o ≡ None → Known o
  vacant : o ≡ Some None → Known o
  full : (page : List ℕ) → o ≡ Some (Some page) → Known o

pub known-cases : (o : Option (Option (List ℕ))) → Known o
known-cases None = unknown refl
known-cases (Some None) = vacant refl
known-cases (Some (Some page)) = full page refl

over-changed : (view changed : Pages) (b : ℕ) (o : Option (List ℕ)) → changed b ≡ Some o → over (changed b) (view b) ≡ Some o
over-changed view changed b o e = ap (λ (x : Option (Option (List ℕ))). over x (view b)) e

-- the changes of the pages of a view are the transaction from the volume of the view to that of the pages
pub differs-moves : (g : Geometry) (view changed : Pages) (v w : Volume) (writes : List Write) (frees : List ℕ) → LeadsTo g view changed v w → Differs view changed writes frees
    → ((x : Write) → Contains writes x → (x.kind ≡ Data) ↔ IsOfFile w x.block) → Moves g v w writes frees
differs-moves g view changed v w writes frees t d kinds = record {
  writes_rise = d.writes_rise;
  written = λ x. (written x, complete x);
  frees_rise = d.frees_rise;
  freed = λ b. (freed b, all b);
}
  where
    uses-of : AreUses g v
    uses-of = (sound-nodes g v t.before.sound).uses

    uses-after : AreUses g w
    uses-after = (sound-nodes g w t.after.sound).uses

    now-held : (b : ℕ) (page : List ℕ) → changed b ≡ Some (Some page) → ShowsPage g w b page
    now-held b page e = t.after.fits.held b page (over-changed view changed b (Some page) e)

    now-free : (b : ℕ) → changed b ≡ Some None → IsVacant g w b
    now-free b e = t.after.fits.free b (over-changed view changed b None e)

    written : (x : Write) → Contains writes x → IsWritten g v w x
    written x c =
        let is = d.written x c in
        record { now = now-held x.block x.content is.0; new = λ s. fresh s is.0 is.1 (known-cases (view x.block)); kind = kinds x c }
      where
        fresh : ShowsPage g v x.block x.content → changed x.block ≡ Some (Some x.content) → view x.block ≢ Some (Some x.content) → Known (view x.block) → ⊥
        fresh s is other (unknown e) = none-some (Some x.content) (sym (t.known x.block e) ∙ is)
        fresh s is other (vacant e) = shown-vacant g v x.block x.content s (t.before.fits.free x.block e)
        fresh s is other (full page e) = other (e ∙ ap (λ (p : List ℕ). Some (Some p)) (page-once g v x.block page x.content uses-of (t.before.fits.held x.block page e) s))

    complete : (x : Write) → IsWritten g v w x → Contains writes x
    complete x is = find (known-cases (changed x.block))
      where
        find : Known (changed x.block) → Contains writes x
        find (unknown e) = absurd (is.new (((t.same x.block e).shows x.content).1 is.now))
        find (vacant e) = absurd (shown-vacant g w x.block x.content is.now (now-free x.block e))
        find (full page e) =
            let same : page ≡ x.content = page-once g w x.block page x.content uses-after (now-held x.block page e) is.now in
            let r = d.writes_all x.block page e (λ h. is.new (subst (λ p. ShowsPage g v x.block p) same (t.before.fits.held x.block page h))) in
            let k = kinds r.0 r.1 in
            let kind : r.0.kind ≡ x.kind = kind-same r.0.kind x.kind (λ f. is.kind.1 (subst (λ b. IsOfFile w b) r.2 (k.0 f))) (λ f. k.1 (subst (λ b. IsOfFile w b) (sym r.2) (is.kind.0 f))) in
            subst (λ y. Contains writes y) (write-same x r.0 r.2 (r.3 ∙ same) kind) r.1

    freed : (b : ℕ) → Contains frees b → IsFreed v w b
    freed b c =
        let is = d.freed b c in
        let free = now-free b is.0 in
        (shown-taken g v b (content (view b)) free.0 (t.before.fits.held b (content (view b)) is.1), free.1)

    all : (b : ℕ) → IsFreed v w b → Contains frees b
    all b is = find (known-cases (changed b))
      where
        high : meta_of g ≤ b
        high = let u = taken-use v b is.0 in (uses-of.zones u.0 b u.1).0

        find : Known (changed b) → Contains frees b
        find (unknown e) = absurd (true≢false (sym is.0 ∙ ((t.same b e).vacant.1 (high, is.1)).1))
        find (full page e) = absurd (true≢false (sym (shown-taken g w b page high (now-held b page e)) ∙ is.1))
        find (vacant e) = was e (known-cases (view b))
          where
            was : changed b ≡ Some None → Known (view b) → Contains frees b
            was e (unknown h) = absurd (none-some None (sym (t.known b h) ∙ e))
            was e (vacant h) = absurd (true≢false (sym is.0 ∙ (t.before.fits.free b h).1))
            was e (full page h) = d.frees_all b e (held-is view b page h)
