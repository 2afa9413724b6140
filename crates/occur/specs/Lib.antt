-- what the words of the command line choose
pub mod Words
-- how the program reports its faults, and its exit status
pub mod Exit
