use Rattle.std.proofs.Common.{ℕ, ◌≡◌, ◌+◌, ◌<◌, List, [], ◌∷◌, get_or, length, drop, sym, subst, ap, ◌∙◌}
use Rattle.std.proofs.lemmas.List.{at_drop_all, at_drop_more}
use Rattle.mq_inodes.specs.Edits.{Carries}
use Rattle.mq_inodes.specs.Opened.{MayGrow}
use Rattle.mq_inodes.specs.Pages.{pages_of}
use Rattle.mq_inodes.specs.declared.opened.Opened.{Opened}
use Rattle.mq_inodes.specs.declared.working.Working.{Working}
use Rattle.mq_inodes.proofs.EditsBecoming.{over-self, over-then}
use Rattle.mq_inodes.proofs.Growing.{AreReady, IsOnWay, holds-end, holds-start, ready-pick, ready-step, way-end, way-got, way-possible, way-start, way-step}
use Rattle.mq_tree.specs.Volume.{Volume}
use Rattle.mq_inodes.proofs.working.Working.grow.Goals as goal

next-pick : (xs : List ℕ) (k b : ℕ) → k < length xs → b ≡ get_or xs k b → drop k xs ≡ b ∷ drop (k + 1) xs
next-pick xs k b l e = at_drop_more (λ (ys : List ℕ). ys) xs k b l ∙ ap (λ (c : ℕ). c ∷ drop (k + 1) xs) (sym e)

-- on the way for each volume
abbrev AreOnWay : (old now : Working) (before o : Opened) (picks rest : List ℕ) → Type 0
AreOnWay old now before o picks rest = (q : ℕ) (v : Volume) (count : ℕ) → Carries old.geometry (pages_of old) v → MayGrow old.geometry q v before picks count → IsOnWay old.geometry q v count before.number old now o rest

way-at : (old now : Working) (before o : Opened) (picks rest other : List ℕ) → rest ≡ other → AreOnWay old now before o picks rest → AreOnWay old now before o picks other
way-at old now before o picks rest other e w q v count c m = subst (λ (xs : List ℕ). IsOnWay old.geometry q v count before.number old now o xs) e (w q v count c m)

pub loop-b-init : goal.loop-b-init
loop-b-init c =
    let p = c.requires.possible in
    let o = c.args.o.now in
    record {
      over = over-self c.args.self.now;
      ready = record { picks = c.requires.picks; table = c.requires.table; pointers = holds-start c.args.self.now.geometry (pages_of c.args.self.now) p.1 o p.4.opened c.requires.pointers };
      way = λ q v count carries may. way-start c.args.self.now.geometry q v count c.args.self.now o c.args.picks.now carries may;
    }

pub add-requires-clause-possible : goal.add-requires-clause-possible
add-requires-clause-possible c =
    let p = c.requires.possible in
    let i = c.loop-b.invariant in
    let old = c.args.self.now in
    let b = c.b-item.result in
    let after = drop (c.loop-b.b-index + 1) c.args.picks.now in
    let w = way-at old c.loop-b.self c.args.o.now c.loop-b.o c.args.picks.now _ (b ∷ after) (next-pick c.args.picks.now c.loop-b.b-index b c.loop-b-test.true c.b-item.is) i.way in
    way-possible old.geometry c.loop-b.self.geometry p.0 p.1 p.2 c.args.o.now.number old c.loop-b.self c.loop-b.o b after i.over.view.geometry (w p.0 p.1 p.2 p.3 p.4)

pub add-requires-clause-pick : goal.add-requires-clause-pick
add-requires-clause-pick c =
    let b = c.b-item.result in
    let after = drop (c.loop-b.b-index + 1) c.args.picks.now in
    let i = c.loop-b.invariant in
    let r = subst (λ (xs : List ℕ). AreReady c.args.self.now.geometry c.loop-b.self c.loop-b.o xs) (next-pick c.args.picks.now c.loop-b.b-index b c.loop-b-test.true c.b-item.is) i.ready in
    ready-pick c.args.self.now.geometry c.loop-b.self.geometry c.loop-b.self c.loop-b.o b after i.over.view.geometry r

pub loop-b-preserved : goal.loop-b-preserved
loop-b-preserved c =
    let p = c.requires.possible in
    let i = c.loop-b.invariant in
    let e = c.in_ok-add.ensures in
    let old = c.args.self.now in
    let g = old.geometry in
    let now = c.loop-b.self in
    let new = c.add.new.self in
    let n = c.args.o.now.number in
    let o = c.loop-b.o in
    let b = c.b-item.result in
    let after = drop (c.loop-b.b-index + 1) c.args.picks.now in
    let next = next-pick c.args.picks.now c.loop-b.b-index b c.loop-b-test.true c.b-item.is in
    let w = way-at old now c.args.o.now o c.args.picks.now _ (b ∷ after) next i.way in
    let wp = w p.0 p.1 p.2 p.3 p.4 in
    let r = subst (λ (xs : List ℕ). AreReady g now o xs) next i.ready in
    let got = way-got g now.geometry p.0 p.1 p.2 n old now new o c.add.new.o b after i.over.view.geometry wp e.got in
    record {
      over = over-then old now new i.over e.over;
      ready = ready-step g p.0 p.1 p.2 n old now new o c.add.new.o b after wp r got.number e.others e.indirect;
      way = λ q v count carries may.
          let wv = w q v count carries may in
          way-step g q v count n old now new o c.add.new.o b after wv i.over (way-got g now.geometry q v count n old now new o c.add.new.o b after i.over.view.geometry wv e.got);
    }

pub returns-clause-grown : goal.returns-clause-grown
returns-clause-grown c q v count carries may =
    let old = c.args.self.now in
    let done = at_drop_all (λ (ys : List ℕ). ys) c.args.picks.now c.loop-b.b-index c.loop-b-test.false in
    let w = way-at old c.loop-b.self c.args.o.now c.loop-b.o c.args.picks.now _ [] done c.loop-b.invariant.way in
    way-end old.geometry q v count old c.loop-b.self c.args.o.now c.loop-b.o (w q v count carries may)

pub returns-clause-held : goal.returns-clause-held
returns-clause-held c =
    let p = c.requires.possible in
    let old = c.args.self.now in
    let done = at_drop_all (λ (ys : List ℕ). ys) c.args.picks.now c.loop-b.b-index c.loop-b-test.false in
    let w = way-at old c.loop-b.self c.args.o.now c.loop-b.o c.args.picks.now _ [] done c.loop-b.invariant.way in
    let h = way-end old.geometry p.0 p.1 p.2 old c.loop-b.self c.args.o.now c.loop-b.o (w p.0 p.1 p.2 p.3 p.4) in
    holds-end old.geometry (pages_of c.loop-b.self) _ c.loop-b.o h.becomes.carries h.opened c.loop-b.invariant.ready.pointers
