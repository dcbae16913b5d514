-- An image on which nothing was ever written is whole, and shows no transaction.
use Rattle.std.proofs.Common.{◌≡◌, ◌<◌, ℕ, [], refl, arith}
use Rattle.mq_blocks.specs.Journal.{AreWhole, Shown}
use Rattle.mq_blocks.specs.declared.geometry.Geometry.{Geometry}

-- the words of the queues and the base are 0
pub record IsUnwritten (g : Geometry) (i : Shown) : Type 0 where
  pub base : i.base ≡ 0
  pub head : (q : ℕ) → q < g.queues → i.head q ≡ 0
  pub doorbell : (q : ℕ) → q < g.queues → i.doorbell q ≡ 0

-- so it is readable
pub whole_none : (g : Geometry) (i : Shown) → IsUnwritten g i → AreWhole g i (λ q. [])
whole_none g i un = record {
  limit = (let e = un.base in omega (arith, e));
  each = λ q low. (
      let head = un.head q low in
      let doorbell = un.doorbell q low in
      record {
        number = 0;
        lba = 0;
        place = 0;
        order = omega (arith, head, doorbell);
        few = omega (arith, head, doorbell);
        low = omega (arith, doorbell);
        none = λ e. refl;
        newest = λ some. absurd (omega (arith, some, head));
        limit = omega arith;
        own = λ less. absurd (omega (arith, less));
        chain = omega arith;
        reach = tt;
        rung = λ c from to. absurd (omega (arith, to, doorbell));
        rung_whole = λ less. absurd (omega (arith, less, doorbell));
      }
      );
  once = λ q r low lower other d e has. absurd has;
}
