-- the words that proofs use, in one place
pub mod Prelude
pub mod Machine
-- the machine values of what owns a box by its pointer
pub mod Values
pub mod HandleValues
-- lemmas by subject; the answers to goals of functions lie in folders of their modules
pub mod ArrayLemmas
pub mod WhichLemmas
pub mod TextLemmas
pub mod LineLemmas
pub mod KeptLemmas
pub mod ServedLemmas
pub mod CommandLemmas
-- what may go to another thread
pub mod HeldSend
