-- the words of specs and of std that proofs use
pub mod Prelude
-- lemmas by subject
pub mod lemmas
