use Rattle.std.proofs.Common.{◌≡◌, ◌≤◌, length}
use Rattle.std.specs.List.{All}
use Rattle.mq_inodes.specs.MissingPages.{OfEach}
use Rattle.mq_inodes.specs.Pages.{pages_of}
use Rattle.mq_inodes.specs.Picks.{IsMarkable}
use Rattle.mq_inodes.proofs.PicksZones.{picks_before}
use Rattle.mq_inodes.proofs.working.Working.found.Given as goal

abbrev pub invariant-loop-zone : goal.invariant-loop-zone
invariant-loop-zone l = record {
  picks : OfEach l.self (λ v. l.picks.items ≡ picks_before l.self.geometry l.fn.queue v l.fn.count l.zone);
  marks : All (IsMarkable l.self.geometry (pages_of l.self)) l.picks.items;
  few : length l.picks.items ≤ l.fn.count;
}
