pub mod EntryWords
pub mod StateWords
pub mod One
