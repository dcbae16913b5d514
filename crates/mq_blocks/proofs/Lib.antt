pub mod GeometryAddresses
pub mod JournalAmong
pub mod DriveCounts
mod JournalExamples
pub mod Options
pub mod WindowsReadings
pub mod Totals
pub mod Windows
pub mod WindowsWritten
pub mod DriveBegun
pub mod DriveQuiescent
pub mod DriveRemainders
pub mod DescriptorLimits
pub mod DescriptorRising
pub mod DriveSaturation
pub mod BlocksZeros
pub mod GeometryZones
pub mod Ports
