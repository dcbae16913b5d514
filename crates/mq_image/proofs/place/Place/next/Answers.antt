use Rattle.std.proofs.Common.{get_or, refl, ◌≡◌, ◌<◌, ◌≤◌, ◌∙◌, ◌+◌, ◌-◌, ℕ, sym, ap, arith}
use Rattle.std.specs.Prelude.{Some}
use Rattle.mq_blocks.specs.Windows.{number_at}
use Rattle.mq_image.specs.File.{is_blank}
use Rattle.mq_image.specs.declared.fault.FileFault.TheVariants.{Zero}
use Rattle.mq_image.proofs.PlacesNexts.{slice-window, next-absent, next-present, below-refused, above-refused, blank-refused}
use Rattle.mq_image.proofs.place.Place.next.Goals as goal
use Rattle.mq_image.proofs.place.Place.next.Goals.{then-lba-self-via-then-lba-self, then-lba-self-via-else-lba-self+then-lba-self-2}

pub returns-then-self-eq0 : goal.returns-then-self-eq0
returns-then-self-eq0 c = next-absent _ _ _ refl c.requires.inside (λ more. absurd (omega (arith, more)))

pub returns-then-lba-self : goal.returns-then-lba-self
returns-then-lba-self c =
    let e = c.u32_at-lba.ensures in
    let more : 0 < c.args.self.now.left = omega arith in
    elim c.then-lba-self.branch [
      | then-lba-self-via-then-lba-self w ↦ below-refused c.args.self.now c.args.file.now more (omega arith)
      | then-lba-self-via-else-lba-self+then-lba-self-2 w ↦ above-refused c.args.self.now c.args.file.now more (omega arith)
    ]

pub returns-then-self-lba : goal.returns-then-self-lba
returns-then-self-lba c = let e = c.u32_at-lba.ensures in next-absent _ _ _ refl c.requires.inside (λ more. omega arith)

pub returns-then-is_zeros : goal.returns-then-is_zeros
returns-then-is_zeros c =
    let e = c.u32_at-lba.ensures in
    let h = c.is_zeros.ensures in
    let t = c.if-is_zeros.true in
    let w = slice-window c.args.file.now c.args.self.now.at in
    let low : c.args.self.now.lba ≤ number_at 4 c.args.self.now.at c.args.file.now = omega arith in
    let high : number_at 4 c.args.self.now.at c.args.file.now < c.args.self.now.size = omega arith in
    let more : 0 < c.args.self.now.left = omega arith in
    blank-refused c.args.self.now c.args.file.now _ more low high w (sym h ∙ t) ∙ ap (λ (n : ℕ). Some (Zero n)) (sym e)

pub returns : goal.returns
returns c =
    let e = c.u32_at-lba.ensures in
    let h = c.is_zeros.ensures in
    let t = c.if-is_zeros.false in
    let k = c.in_ok-block.ensures in
    let w = slice-window c.args.file.now c.args.self.now.at in
    let left : c.args.self.now.left - 1 + 1 ≡ c.args.self.now.left = omega arith in
    let lba : c.u32_at-lba.result + 1 ≡ number_at 4 c.args.self.now.at c.args.file.now + 1 = omega arith in
    let here : c.args.self.now.lba ≡ number_at 4 c.args.self.now.at c.args.file.now = omega arith in
    let high : number_at 4 c.args.self.now.at c.args.file.now < c.args.self.now.size = omega arith in
    next-present c.args.self.now _ c.args.file.now c.in_ok-block.block (λ i. let f : get_or c.args.file.now i 0 < 256 = omega (arith, c.type_inv.file i) in f) refl left refl lba refl c.requires.inside here high (k ∙ w) (ap is_blank k ∙ sym h ∙ t)
