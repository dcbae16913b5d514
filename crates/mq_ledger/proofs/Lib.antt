pub mod JournalChains
pub mod History
pub mod Items
pub mod HistoryQueues
pub mod Written
mod TablesMarks
mod TablesRows
mod RecordsLists
mod ItemsStagings
pub mod TablesLedgers
mod TablesStarts
mod RecordsLookups
mod RecordsStages
mod RecordsNexts
mod RecordsDraws
