-- the words of specs and of std that proofs use
pub mod Prelude
-- lemmas by subject; the answers to goals of functions are in folders of their modules
pub mod lemmas
