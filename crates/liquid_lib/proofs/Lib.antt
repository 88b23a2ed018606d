pub mod SourceRuns
