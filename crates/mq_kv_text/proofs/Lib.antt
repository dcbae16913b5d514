pub mod FilesOnce
pub mod FilesRead
pub mod LinesSpelled
pub mod ReportsBack
pub mod ReportsPrinted
