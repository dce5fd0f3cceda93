pub mod NumeralLemmas
pub mod TokenLemmas
pub mod LineLemmas
pub mod RegisterLemmas
pub mod EndedLines
pub mod Refusals
