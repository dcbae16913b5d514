use Rattle.std.proofs.Common.{◌≡◌, ℕ, List, Some, sym, ap, subst, ◌∙◌}
use Rattle.mq_blocks.specs.Drive.{PortState}
use Rattle.mq_blocks.specs.Geometry.{zone_of, home_lba}
use Rattle.mq_ledger.specs.State.{port_of}
use Rattle.mq_core.specs.Bases.{Holds}
use Rattle.mq_core.specs.Parts.{whole}
use Rattle.mq_core.specs.Within.{IsWithin}
use Rattle.mq_core.proofs.machine.parts.Parts.is_home.Goals as goal
use Rattle.mq_core.proofs.machine.parts.Parts.is_home.Goals.{After-home-lba}

lba_is : (c : After-home-lba) → c.home-lba.result ≡ home_lba (whole c.args.self).geometry c.args.block
lba_is c = c.home-lba.ensures ∙ ap (λ g. home_lba g c.args.block) c.geometry.ensures

pub holds-requires : goal.holds-requires
holds-requires c = subst (λ n. IsWithin c.home_port.result.now n) (sym (lba_is (goal.at.holds-requires c).After-home-lba)) c.home_port.ensures.within

same_content : (a b : List ℕ) → Some a ≡ Some b → a ≡ b
same_content a b e = cc

pub returns : goal.returns
returns c =
    let s = whole c.args.self in
    let x = c.args.block in
    let lba = lba_is (goal.at.returns c).After-home-lba in
    let there = c.in-Some.ensures in (
      λ k content due.
          let h = c.holds.ensures.0 k in
          let same : c.in-Some.content.now ≡ content = same_content _ _ (sym there ∙ due) in
          subst (λ v. Holds (port_of s (zone_of s.geometry x)) (home_lba s.geometry x) v) same (subst (λ n. Holds (port_of s (zone_of s.geometry x)) n c.in-Some.content.now) lba (subst (λ (p : PortState). Holds p c.home-lba.result c.in-Some.content.now) c.home_port.ensures.is h)),
      λ all.
          let h = all c.in-Some.content.now there in
          c.holds.ensures.1 (subst (λ (p : PortState). Holds p c.home-lba.result c.in-Some.content.now) (sym c.home_port.ensures.is) (subst (λ n. Holds (port_of s (zone_of s.geometry x)) n c.in-Some.content.now) (sym lba) h)),
    )
