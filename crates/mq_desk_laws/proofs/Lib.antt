pub mod FaultsAdded
mod HistoryAlong
pub mod RuleStaying
pub mod RuleSettled
pub mod RuleTelling
pub mod Opening
pub mod Meaning
pub mod Cells
pub mod Faults
pub mod HistoryNewer
pub mod Bases
pub mod BasesOpenings
pub mod Pages
pub mod Claims
pub mod BasesRoots
pub mod PagesHomeWrites
