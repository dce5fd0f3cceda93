pub mod ImageLemmas
pub mod OnceLemmas
pub mod TraceOnceLemmas
pub mod OutcomeLemmas
pub mod AddressLemmas
pub mod FitLemmas
pub mod CarriedLemmas
mod DemoOnceLemmas
mod ImageRuns
mod UpgradeLemmas
mod ShorterTexts
pub mod TrimLemmas
mod TidyOnceLemmas
mod GeneraliseOnceLemmas
mod TidyPromise
