pub mod Tables
pub mod Names
pub mod Entries
pub mod EntryTables
