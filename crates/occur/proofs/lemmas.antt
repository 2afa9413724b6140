pub mod StatesLemmas
pub mod FormsLemmas
pub mod ExitLemmas
