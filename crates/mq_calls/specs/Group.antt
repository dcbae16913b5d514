-- What groups of file requests are to a desk over the ports of a drive.
use Rattle.mq_blocks.specs.Machine.{Map}
use Rattle.mq_blocks.specs.declared.geometry.Geometry.{Geometry}
use Rattle.mq_calls.specs.Entries.{RanUndrawn, Does, tx_of, volume_after}
use Rattle.mq_calls.specs.declared.entry.FileEntry.{FileEntry}
use Rattle.mq_calls.specs.Plans.{IsPlaced}
use Rattle.mq_desk_laws.specs.Groups.{GroupView}
use Rattle.mq_tree.specs.Laid.{IsLaid}
use Rattle.mq_tree.specs.Volume.{Volume}

-- some volume lies on the map
abbrev pub CarriesVolume : Geometry → Map → Type 0
CarriesVolume g m = (v : Volume) × IsLaid g m v

abbrev pub file_group : GroupView FileEntry
file_group = record {
  session = λ e. e.session;
  call = λ e. e.call;
  tx = tx_of;
  good = CarriesVolume;
  does = Does;
  asks = RanUndrawn;
  placed = IsPlaced;
  keeps = λ g m e done carries. (volume_after g done.ran.volume e, done.next);
}
