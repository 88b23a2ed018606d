pub mod WrittenNames
pub mod Settings
pub mod SiteWriting
pub mod inside
