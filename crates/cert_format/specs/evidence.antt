-- What is proved of the definitions: no reader need believe it.
pub mod ValueForms
pub mod Numbers
pub mod ValueLaws
pub mod SpelledLaws
