-- What is proved of the definitions: no reader need believe it.
pub mod ExactLaws
pub mod RoundingLaws
pub mod PairLaws
