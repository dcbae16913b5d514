-- What is written and freed from one volume to another can be listed, and is of home blocks.
use Rattle.std.proofs.Common.{get_or, ◌≡◌, ◌∙◌, ℕ, zero, suc, ◌+◌, ◌<◌, ◌≤◌, inl, inr, List, [], ◌∷◌, length, refl, sym, ap, subst, arith}
use Rattle.std.specs.Prelude.{◌↔◌, Option, Some, None}
use Rattle.std.specs.List.{All, AllPairs, Contains}
use Rattle.std.specs.Str.{bytes_eq}
use Rattle.std.proofs.lemmas.Bool.{cases_Bool, cases_eq, true≢false}
use Rattle.std.proofs.lemmas.List.{get_or_default}
use Rattle.std.proofs.lemmas.List.Elements.{All-cons}
use Rattle.std.proofs.lemmas.List.Kept.{AllPairs-cons}
use Rattle.std.proofs.lemmas.Slice.Eq.{bytes_eq-Decides}
use Rattle.mq_blocks.specs.Geometry.{homes_of}
use Rattle.mq_blocks.specs.Machine.{Map}
use Rattle.mq_blocks.specs.declared.geometry.Geometry.{Geometry}
use Rattle.mq_exec.specs.Moves.{IsFreed, IsWritten, Moves}
use Rattle.mq_exec.proofs.MovesLocal.{kind-same, write-same}
use Rattle.mq_calls.proofs.LawsChanging.{shown_low}
use Rattle.mq_inodes.proofs.LaidOnce.{page-once, shown-vacant}
use Rattle.mq_inodes.proofs.Sound.{sound-uses}
use Rattle.mq_inodes.specs.Changes.{IsOfFile, owner}
use Rattle.mq_run_laws.proofs.Laid.{sound-laid}
use Rattle.mq_run_laws.specs.Legal.{Writes}
use Rattle.mq_run_laws.proofs.LegalFacts.{head-or-later}
use Rattle.mq_pages.specs.declared.page.Kind.{Kind}
use Rattle.mq_pages.specs.declared.page.Kind.TheVariants.{Data, Meta}
use Rattle.mq_pages.specs.declared.page.Write.{Write}
use Rattle.mq_tree.proofs.Decoded.{taken-use}
use Rattle.mq_tree.proofs.Members.{cons-here, cons-there}
use Rattle.mq_tree.proofs.LaidUses.{use-taken}
use Rattle.mq_tree.specs.Laid.{IsLaid, ShowsPage}
use Rattle.mq_tree.specs.Sound.{IsSound}
use Rattle.mq_tree.specs.Uses.{AreUses}
use Rattle.mq_tree.specs.Volume.{Body, Free, File, Dir, Use, Part, Pointers, Volume, block_in, body, is_taken}

-- ---- rising lists of what has a property, at most one at each number

-- the one that has it at a number, or that there is none
data AtMost {X : Type 0} (n : X → ℕ) (P : X → Type 0) (b : ℕ) : Type 0 where
  one : (x : X) → P x → n x ≡ b → ((y : X) → P y → n y ≡ b → y ≡ x) → AtMost n P b
  nothing : ((y : X) → P y → n y ≡ b → ⊥) → AtMost n P b

-- those from a number on
record Found {X : Type 0} (n : X → ℕ) (P : X → Type 0) (b : ℕ) : Type 0 where
  items : List X
  rise : AllPairs (λ x y. n x < n y) items
  above : All (λ x. b ≤ n x) items
  only : (x : X) → Contains items x → P x
  all : (x : X) → P x → b ≤ n x → Contains items x

found-more : {X : Type 0} (n : X → ℕ) (P : X → Type 0) (b : ℕ) → AtMost n P b → Found n P (b + 1) → Found n P b
found-more {X = X} n P b (one x has here unique) f = record {
  items = x ∷ f.items;
  rise = AllPairs-cons (λ y z. n y < n z) x f.items (λ k d l. let high = f.above k d l in omega (arith, here, high)) f.rise;
  above = All-cons (λ y. b ≤ n y) x f.items (omega (arith, here)) (λ k d l. let high = f.above k d l in omega (arith, high));
  only = λ y c. elim (head-or-later x y f.items c) [ inl e ↦ subst P e has | inr d ↦ f.only y d ];
  all = λ y p high. elim (cases_eq (n y) b) [
    | inl e ↦ cons-here x f.items y (sym (unique y p e))
    | inr other ↦ cons-there x f.items y (f.all y p (omega (arith, high, other)))
  ];
}
found-more n P b (nothing none) f = record {
  items = f.items;
  rise = f.rise;
  above = λ k d l. let high = f.above k d l in omega (arith, high);
  only = f.only;
  all = λ y p high. elim (cases_eq (n y) b) [
    | inl e ↦ absurd (none y p e)
    | inr other ↦ f.all y p (omega (arith, high, other))
  ];
}

found-from : {X : Type 0} (n : X → ℕ) (P : X → Type 0) (limit : ℕ) → ((b : ℕ) → AtMost n P b) → ((x : X) → P x → n x < limit) → (k b : ℕ) → b + k ≡ limit → Found n P b
found-from n P limit at below zero b e = record {
  items = [];
  rise = λ i j d l h. absurd (omega arith);
  above = λ k d l. absurd (omega arith);
  only = λ x c. absurd (let l = c.1 in omega arith);
  all = λ x p high. absurd (let low = below x p in omega (arith, e, high, low));
}
found-from n P limit at below (suc k) b e = found-more n P b (at b) (found-from n P limit at below k (b + 1) (omega (arith, e)))

-- how many rising numbers may stand from one number up to another
rising-few : {X : Type 0} (n : X → ℕ) (limit : ℕ) (xs : List X) (b : ℕ) → b ≤ limit → AllPairs (λ x y. n x < n y) xs → All (λ x. b ≤ n x) xs → All (λ x. n x < limit) xs → b + length xs ≤ limit
rising-few n limit [] b top rise above below = omega arith
rising-few n limit (x ∷ xs) b top rise above below =
    let high : b ≤ n x = above 0 x (omega arith) in
    let low : n x < limit = below 0 x (omega arith) in
    let rest = rising-few n limit xs (b + 1) (omega arith)
    (λ i j d l h. rise (suc i) (suc j) d (omega arith) (omega arith))
    (λ k d l. let up = rise 0 (suc k) d (omega arith) (omega arith) in omega (arith, up, high))
    (λ k d l. below (suc k) d (omega arith)) in
    omega (arith, rest)

-- ---- what is written

-- the kind of what is written to a block
kind-of : (g : Geometry) (w : Volume) (b : ℕ) → AreUses g w → (kind : Kind) × ((kind ≡ Data) ↔ IsOfFile w b)
kind-of g w b uses = elim (cases_Bool (is_taken w b)) [
  | inl taken ↦ let u = taken-use w b taken in by-use u.0 u.1
  | inr free ↦ (Meta, (λ e. absurd (cc), λ f. absurd (true≢false (sym (use-taken w (Part f.inode f.place) b f.there) ∙ free))))
]
  where
    other : (u : Use) → block_in w u ≡ Some b → ((f : IsOfFile w b) → u ≡ Part f.inode f.place → ⊥) → (kind : Kind) × ((kind ≡ Data) ↔ IsOfFile w b)
    other u e nay = (Meta, (λ same. absurd (cc), λ f. absurd (nay f (uses.apart u (Part f.inode f.place) b e f.there))))

    by-body : (i k : ℕ) → block_in w (Part i k) ≡ Some b → (x : Body) → body w i ≡ x → (kind : Kind) × ((kind ≡ Data) ↔ IsOfFile w b)
    by-body i k e Free is = other (Part i k) e (λ f same. let x : Free ≡ File f.bytes = sym is ∙ ap (λ (u : Use). body w (owner u)) same ∙ f.is in absurd (cc))
    by-body i k e (File bytes) is = (Data, (λ same. record { inode = i; place = k; bytes = bytes; there = e; is = is }, λ f. refl))
    by-body i k e (Dir slots) is = other (Part i k) e (λ f same. let x : Dir slots ≡ File f.bytes = sym is ∙ ap (λ (u : Use). body w (owner u)) same ∙ f.is in absurd (cc))

    by-use : (u : Use) → block_in w u ≡ Some b → (kind : Kind) × ((kind ≡ Data) ↔ IsOfFile w b)
    by-use (Part i k) e = by-body i k e (body w i) refl
    by-use (Pointers i) e = other (Pointers i) e (λ f same. absurd (cc))

abbrev block_of : Write → ℕ
block_of x = x.block

written-one : (g : Geometry) (v w : Volume) (b : ℕ) (page : List ℕ) → AreUses g w → ShowsPage g w b page → (ShowsPage g v b page → ⊥) → AtMost block_of (IsWritten g v w) b
written-one g v w b page uses now new =
    let k = kind-of g w b uses in
    let x : Write = record { block = b; kind = k.0; content = page } in
    one x (record { now = now; new = new; kind = k.1 }) refl (λ y is e. write-same x y e
    (page-once g w b y.content page uses (subst (λ (c : ℕ). ShowsPage g w c y.content) e is.now) now)
    (kind-same y.kind k.0 (λ d. k.1.1 (subst (λ (c : ℕ). IsOfFile w c) e (is.kind.0 d))) (λ d. is.kind.1 (subst (λ (c : ℕ). IsOfFile w c) (sym e) (k.1.0 d)))))

written-none : (g : Geometry) (v w : Volume) (b : ℕ) → ((page : List ℕ) → ShowsPage g w b page → ShowsPage g v b page) → AtMost block_of (IsWritten g v w) b
written-none g v w b same = nothing (λ y is e. is.new (subst (λ (c : ℕ). ShowsPage g v c y.content) (sym e) (same y.content (subst (λ (c : ℕ). ShowsPage g w c y.content) e is.now))))

written-at : (g : Geometry) (m n : Map) (v w : Volume) (b : ℕ) → IsLaid g m v → IsLaid g n w → (o p : Option (List ℕ)) → n b ≡ o → m b ≡ p → AtMost block_of (IsWritten g v w) b
written-at g m n v w b h k None p e f = written-none g v w b (λ page s. absurd (shown-vacant g w b page s (k.vacant b e)))
written-at g m n v w b h k (Some q) None e f = written-one g v w b q (sound-uses g w k.sound) (k.shown b q e) (λ s. shown-vacant g v b q s (h.vacant b f))
written-at g m n v w b h k (Some q) (Some p) e f = elim (cases_Bool (bytes_eq p q)) [
  | inl same ↦ written-none g v w b (λ page s.
      let now = page-once g w b q page (sound-uses g w k.sound) (k.shown b q e) s in
      subst (λ (x : List ℕ). ShowsPage g v b x) ((bytes_eq-Decides p q).0 same ∙ now) (h.shown b p f))
  | inr other ↦ written-one g v w b q (sound-uses g w k.sound) (k.shown b q e) (λ s.
      true≢false (sym ((bytes_eq-Decides p q).1 (page-once g v b p q (sound-uses g v h.sound) (h.shown b p f) s)) ∙ other))
]

-- ---- what is freed

freed-at : (v w : Volume) (b : ℕ) → AtMost (λ (x : ℕ). x) (IsFreed v w) b
freed-at v w b = elim (cases_Bool (is_taken v b)) [
  | inl there ↦ elim (cases_Bool (is_taken w b)) [
    | inl kept ↦ nothing (λ y is e. true≢false (sym kept ∙ sym (ap (is_taken w) e) ∙ is.1))
    | inr gone ↦ one b (there, gone) refl (λ y is e. e)
  ]
  | inr free ↦ nothing (λ y is e. true≢false (sym is.0 ∙ ap (is_taken v) e ∙ free))
]

freed-home : (g : Geometry) (v w : Volume) (b : ℕ) → AreUses g v → IsFreed v w b → b < homes_of g
freed-home g v w b uses is = let u = taken-use v b is.0 in (uses.zones u.0 b u.1).1

-- ---- the change

pub laid-moves : (g : Geometry) (m n : Map) (v w : Volume) → IsLaid g m v → IsLaid g n w → (writes : List Write) × (frees : List ℕ) × Moves g v w writes frees
laid-moves g m n v w h k =
    let wrote = found-from block_of (IsWritten g v w) (homes_of g) (λ b. written-at g m n v w b h k (n b) (m b) refl refl) (λ x is. shown_low g w x.block x.content is.now) (homes_of g) 0 (omega arith) in
    let freed = found-from (λ (x : ℕ). x) (IsFreed v w) (homes_of g) (λ b. freed-at v w b) (λ b is. freed-home g v w b (sound-uses g v h.sound) is) (homes_of g) 0 (omega arith) in (
      wrote.items,
      freed.items,
      record {
        writes_rise = wrote.rise;
        written = λ x. (λ c. wrote.only x c, λ is. wrote.all x is (omega arith));
        frees_rise = freed.rise;
        freed = λ b. (λ c. freed.only b c, λ is. freed.all b is (omega arith));
      },
    )

pub sound-writes : (g : Geometry) (v w : Volume) → IsSound g v → IsSound g w → (count : ℕ) × Writes g v w count
sound-writes g v w sound fine =
    let m = sound-laid g v sound in
    let n = sound-laid g w fine in
    let moves = laid-moves g m.0 n.0 v w m.1 n.1 in
    (length moves.0, record { writes = moves.0; frees = moves.1; moves = moves.2; many = refl })

pub writes-few : (g : Geometry) (v w : Volume) (count : ℕ) → Writes g v w count → count ≤ homes_of g
writes-few g v w count h =
    let e = h.many in
    let few = rising-few block_of (homes_of g) h.writes 0 (omega arith) h.moves.writes_rise (λ k d l. omega arith) (λ k d l.
    let x = get_or h.writes k d in
    let there : Contains h.writes x = (k, l, get_or_default h.writes k x d l) in
    let is = (h.moves.written x).0 there in
    shown_low g w x.block x.content is.now) in
    omega (arith, e, few)
