mod Lines
mod RangesAll
mod Reports
mod TextsBack
mod TextsCutting
mod TextsGathering
mod TextsPlain
