pub mod AnswersText
pub mod ReportText
