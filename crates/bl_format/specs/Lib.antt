pub mod Grammar
pub mod Image
pub mod WriterAnswers
