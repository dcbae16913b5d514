pub mod DescriptorRising
pub mod DescriptorWritten
pub mod ReadingDescriptors
pub mod ReadingExact
pub mod ReadingFurther
pub mod ReadingSound
pub mod JournalForm
