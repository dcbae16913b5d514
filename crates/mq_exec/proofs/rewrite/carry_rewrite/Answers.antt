use Rattle.std.proofs.Common.{◌≡◌, ◌<◌, ◌≤◌, ◌-◌, ◌/◌, ℕ, List, length, refl, sym, subst, ◌∙◌}
use Rattle.std.specs.List.{All}
use Rattle.mq_blocks.specs.declared.geometry.Geometry.{Geometry}
use Rattle.mq_exec.specs.Overwrites.{AreApart, IsOverwritten, past_place}
use Rattle.mq_exec.specs.Plans.{HoldsPlaces}
use Rattle.mq_exec.proofs.OverwritesCarrying.{mid-apart, mid-becomes, mid-form, mid-held, mid-inside, mid-stays, mid-table, regrown-of}
use Rattle.mq_inodes.specs.Changes.{IsInodePut}
use Rattle.mq_inodes.specs.Opened.{IsTakeable, MayGrow}
use Rattle.mq_inodes.specs.Pages.{pages_of}
use Rattle.mq_inodes.proofs.EditsBecoming.{carries-sound, over-then}
use Rattle.mq_inodes.proofs.EditsLinking.{on_ok-both}
use Rattle.mq_layout.specs.Places.{inodes_of}
use Rattle.mq_tree.specs.Sound.{blocks_for}
use Rattle.mq_exec.proofs.rewrite.carry_rewrite.Goals as goal

pub grow-requires-clause-possible : goal.grow-requires-clause-possible
grow-requires-clause-possible c =
    let g = c.args.working.now.geometry in
    let p = c.requires.possible in
    let count = blocks_for c.args.rewriting.size - blocks_for (length p.5.bytes) in
    (p.0, p.1, count, carries-sound g (pages_of c.args.working.now) p.1 p.4, subst (λ (xs : List ℕ). MayGrow g p.0 p.1 c.args.rewriting.file xs count) (sym c.deref.ensures.value) p.5.grow)

pub grow-requires-clause-picks : goal.grow-requires-clause-picks
grow-requires-clause-picks c = subst (λ (xs : List ℕ). All (IsTakeable c.args.working.now.geometry (pages_of c.args.working.now)) xs) (sym c.deref.ensures.value) c.requires.pages.picks

pub overwrite-requires-clause-inside : goal.overwrite-requires-clause-inside
overwrite-requires-clause-inside c =
    let g = c.args.working.now.geometry in
    let p = c.requires.possible in
    let r = regrown-of g p.0 p.1 p.2 p.3 c.args.rewriting c.args.working.now c.grow.new.self c.grow.new.o c.deref.result.now c.deref.ensures.value p.4 p.5 c.in_ok-grow.ensures.grown in
    subst (λ (xs : List ℕ). (place : ℕ) → c.args.at / 4096 ≤ place → place < past_place c.args.at (length c.args.bytes.now) → place < length xs) (sym c.deref-2.ensures.value)
    (mid-inside g p.0 p.1 c.args.rewriting p.5.bytes c.args.working.now c.grow.new.self c.grow.new.o c.args.at (length c.args.bytes.now) r c.requires.inside)

pub overwrite-requires-clause-held : goal.overwrite-requires-clause-held
overwrite-requires-clause-held c =
    let g = c.args.working.now.geometry in
    let p = c.requires.possible in
    let r = regrown-of g p.0 p.1 p.2 p.3 c.args.rewriting c.args.working.now c.grow.new.self c.grow.new.o c.deref.result.now c.deref.ensures.value p.4 p.5 c.in_ok-grow.ensures.grown in
    subst (λ (xs : List ℕ). HoldsPlaces (pages_of c.grow.new.self) xs (c.args.at / 4096) (past_place c.args.at (length c.args.bytes.now))) (sym c.deref-2.ensures.value)
    (mid-held g p.0 p.1 c.args.rewriting p.5.bytes c.args.working.now c.grow.new.self c.grow.new.o c.args.at (length c.args.bytes.now) r (carries-sound g (pages_of c.args.working.now) p.1 p.4) p.5.grow.opened.blocks c.in_ok-grow.ensures.over c.requires.places)

pub overwrite-requires-clause-apart : goal.overwrite-requires-clause-apart
overwrite-requires-clause-apart c =
    let g = c.args.working.now.geometry in
    let p = c.requires.possible in
    let r = regrown-of g p.0 p.1 p.2 p.3 c.args.rewriting c.args.working.now c.grow.new.self c.grow.new.o c.deref.result.now c.deref.ensures.value p.4 p.5 c.in_ok-grow.ensures.grown in
    subst (λ (xs : List ℕ). AreApart xs) (sym c.deref-2.ensures.value) (mid-apart g p.0 p.1 c.args.rewriting p.5.bytes c.args.working.now c.grow.new.self c.grow.new.o r)

pub put_inode-requires-clause-low : goal.put_inode-requires-clause-low
put_inode-requires-clause-low c =
    let g = c.args.working.now.geometry in
    let p = c.requires.possible in
    let r = regrown-of g p.0 p.1 p.2 p.3 c.args.rewriting c.args.working.now c.grow.new.self c.grow.new.o c.deref.result.now c.deref.ensures.value p.4 p.5 c.in_ok-grow.ensures.grown in
    let same : c.overwrite.new.working.geometry ≡ g = c.in_ok-overwrite.ensures.over.view.geometry ∙ c.in_ok-grow.ensures.over.view.geometry in
    subst (λ (x : Geometry). c.grow.new.o.number < inodes_of x) (sym same) (subst (λ (i : ℕ). i < inodes_of g) (sym r.number) r.low)

pub put_inode-requires-clause-form : goal.put_inode-requires-clause-form
put_inode-requires-clause-form c =
    let g = c.args.working.now.geometry in
    let p = c.requires.possible in
    let r = regrown-of g p.0 p.1 p.2 p.3 c.args.rewriting c.args.working.now c.grow.new.self c.grow.new.o c.deref.result.now c.deref.ensures.value p.4 p.5 c.in_ok-grow.ensures.grown in
    mid-form g p.0 p.1 c.args.rewriting p.5.bytes (p.3 p.5.bytes) c.args.working.now c.grow.new.self c.grow.new.o r (sym p.5.size) p.5.limit

pub put_inode-requires-clause-held : goal.put_inode-requires-clause-held
put_inode-requires-clause-held c =
    let g = c.args.working.now.geometry in
    let p = c.requires.possible in
    let r = regrown-of g p.0 p.1 p.2 p.3 c.args.rewriting c.args.working.now c.grow.new.self c.grow.new.o c.deref.result.now c.deref.ensures.value p.4 p.5 c.in_ok-grow.ensures.grown in
    let parts = subst (λ (xs : List ℕ). IsOverwritten c.grow.new.self c.overwrite.new.working xs c.args.at c.args.bytes.now (past_place c.args.at (length c.args.bytes.now))) c.deref-2.ensures.value c.in_ok-overwrite.ensures.written in
    mid-table g p.0 p.1 c.args.rewriting p.5.bytes c.args.at c.args.bytes.now c.args.working.now c.grow.new.self c.overwrite.new.working c.grow.new.o r c.in_ok-grow.ensures.over (c.in_ok-overwrite.ensures.over.view.geometry ∙ c.in_ok-grow.ensures.over.view.geometry) c.requires.pages.table
    (mid-inside g p.0 p.1 c.args.rewriting p.5.bytes c.args.working.now c.grow.new.self c.grow.new.o c.args.at (length c.args.bytes.now) r c.requires.inside) parts

pub returns-clause-over : goal.returns-clause-over
returns-clause-over c =
    on_ok-both c.put_inode.result c.put_inode.ensures.over c.put_inode.ensures.over (λ over more. over-then c.args.working.now c.overwrite.new.working c.put_inode.new.self (over-then c.args.working.now c.grow.new.self c.overwrite.new.working c.in_ok-grow.ensures.over c.in_ok-overwrite.ensures.over) over)

pub returns-clause-written : goal.returns-clause-written
returns-clause-written c =
    on_ok-both c.put_inode.result c.put_inode.ensures.put c.put_inode.ensures.kinds (λ put kinds q v verdict rewritten agrees plan spliced.
    let g = c.args.working.now.geometry in
    let r = regrown-of g q v verdict rewritten c.args.rewriting c.args.working.now c.grow.new.self c.grow.new.o c.deref.result.now c.deref.ensures.value agrees plan c.in_ok-grow.ensures.grown in
    let same : c.overwrite.new.working.geometry ≡ g = c.in_ok-overwrite.ensures.over.view.geometry ∙ c.in_ok-grow.ensures.over.view.geometry in
    mid-becomes g q v c.args.rewriting c.args.at c.args.bytes.now plan.bytes (rewritten plan.bytes) c.args.working.now c.grow.new.self c.overwrite.new.working c.put_inode.new.self c.grow.new.o (record {
      regrown = r;
      over = c.in_ok-grow.ensures.over;
      size = sym plan.size;
      few = plan.limit;
      past = mid-inside g q v c.args.rewriting plan.bytes c.args.working.now c.grow.new.self c.grow.new.o c.args.at (length c.args.bytes.now) r c.requires.inside;
      spliced = spliced;
      parts = subst (λ (xs : List ℕ). IsOverwritten c.grow.new.self c.overwrite.new.working xs c.args.at c.args.bytes.now (past_place c.args.at (length c.args.bytes.now))) c.deref-2.ensures.value c.in_ok-overwrite.ensures.written;
      inode = subst (λ (x : Geometry). IsInodePut x (pages_of c.overwrite.new.working) (pages_of c.put_inode.new.self) c.grow.new.o.number (record { kind = c.grow.new.o.inode.kind; links = c.grow.new.o.inode.links; size = c.args.rewriting.size; direct = c.grow.new.o.inode.direct; indirect = c.grow.new.o.inode.indirect })) same put;
      kinds = kinds;
      geometry = same;
    }))

pub returns-then-file-size-clause-over : goal.returns-then-file-size-clause-over
returns-then-file-size-clause-over c = over-then c.args.working.now c.grow.new.self c.overwrite.new.working c.in_ok-grow.ensures.over c.in_ok-overwrite.ensures.over

pub returns-then-file-size-clause-written : goal.returns-then-file-size-clause-written
returns-then-file-size-clause-written c q v verdict rewritten agrees plan spliced =
    let g = c.args.working.now.geometry in
    let r = regrown-of g q v verdict rewritten c.args.rewriting c.args.working.now c.grow.new.self c.grow.new.o c.deref.result.now c.deref.ensures.value agrees plan c.in_ok-grow.ensures.grown in
    let past = mid-inside g q v c.args.rewriting plan.bytes c.args.working.now c.grow.new.self c.grow.new.o c.args.at (length c.args.bytes.now) r c.requires.inside in
    let parts = subst (λ (xs : List ℕ). IsOverwritten c.grow.new.self c.overwrite.new.working xs c.args.at c.args.bytes.now (past_place c.args.at (length c.args.bytes.now))) c.deref-2.ensures.value c.in_ok-overwrite.ensures.written in
    mid-becomes g q v c.args.rewriting c.args.at c.args.bytes.now plan.bytes (rewritten plan.bytes) c.args.working.now c.grow.new.self c.overwrite.new.working c.overwrite.new.working c.grow.new.o (record {
      regrown = r;
      over = c.in_ok-grow.ensures.over;
      size = sym plan.size;
      few = plan.limit;
      past = past;
      spliced = spliced;
      parts = parts;
      inode = mid-stays g q v c.args.rewriting plan.bytes c.args.at c.args.bytes.now c.args.working.now c.grow.new.self c.overwrite.new.working c.grow.new.o r c.in_ok-grow.ensures.over c.requires.pages.table past parts c.if-file-size.true;
      kinds = λ b high. refl;
      geometry = c.in_ok-overwrite.ensures.over.view.geometry ∙ c.in_ok-grow.ensures.over.view.geometry;
    })
