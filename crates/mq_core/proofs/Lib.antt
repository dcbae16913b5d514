pub mod HistoryFronts
pub mod SidesCommands
pub mod EventsPorts
pub mod KnownJournalSources
pub mod EventsSides
pub mod EventsSideCommands
pub mod KnownJournalGrowth
pub mod Homes
pub mod HistoryBases
pub mod Roots
pub mod StateSides
pub mod StatePorts
pub mod StateEvents
pub mod StateBases
pub mod ItemsGoodness
pub mod ItemsReading
pub mod StateCuts
pub mod StateChains
pub mod StateSafe
pub mod Reach
pub mod MachineFacts
pub mod MachineLifts
pub mod MachineCore
pub mod Within
pub mod Settled
pub mod MachineParts
mod Stored
pub mod HomesWritten
pub mod DriveHomeWrites
pub mod EventsTellings
pub mod HomesCalls
pub mod Bases
pub mod MachineRunning
mod Start
mod MachineExamples
mod MachineRevocations
