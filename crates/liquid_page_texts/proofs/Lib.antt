pub mod PageKinds
pub mod PageRuns
mod Reading
