use Rattle.std.proofs.Common.{◌≡◌, length, refl, ap, arith}
use Rattle.mq_image_ops.proofs.format.fresh_root.Goals as goal

pub returns-clause-is : goal.returns-clause-is
returns-clause-is c g meta =
    let none : length c.new.result.items ≡ 0 = ap length c.new.ensures.items in
    record {
      image = record { slots = none; blocks = omega (arith, meta); words = (refl, refl) };
      unused = record { doorbell = refl; head = refl; base = refl; slots = λ k low. absurd (omega (arith, none, low)) };
    }
