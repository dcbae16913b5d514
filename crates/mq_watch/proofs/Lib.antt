pub mod FlakyAnswers
