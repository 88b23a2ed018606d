pub mod SourceFolders
pub mod SourceForms
pub mod inside
