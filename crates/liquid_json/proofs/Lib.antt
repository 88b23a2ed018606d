pub mod After
mod AnyNumbers
mod Appended
pub mod Ascending
mod FirstItems
mod MapsAlike
mod Members
mod NoMembers
pub mod Plain
mod PlainCopies
mod PlainUses
mod Readers
pub mod ScalarTokens
mod ScriptMarks
pub mod ScriptTokens
pub mod Turns
pub mod Under
