-- the words of specs and of std that proofs use
pub mod Prelude
-- lemmas by subject; the answers to goals of functions lie in folders of their modules
pub mod lemmas
