pub mod ScriptWords
pub mod ScriptCommands
pub mod JoinedLines
