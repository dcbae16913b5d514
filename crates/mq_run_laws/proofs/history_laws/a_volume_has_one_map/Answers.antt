use Rattle.mq_run_laws.proofs.Laid.{sound-laid}
use Rattle.mq_run_laws.proofs.LaidMaps.{each-stands, same-map, same-volume}
use Rattle.mq_run_laws.proofs.history_laws.a_volume_has_one_map.Goals as goal

pub returns : goal.returns
returns c = record { some = sound-laid; map = same-map; volume = same-volume; stands = each-stands }
