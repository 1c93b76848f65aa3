pub mod FunctionLemmas
pub mod EffectLemmas
pub mod AnswerLemmas
