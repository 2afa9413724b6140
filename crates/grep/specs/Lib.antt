-- what the contract of the whole program is stated with
pub mod Exit
-- what other contracts are stated with: those of the files of the system
pub mod Working
