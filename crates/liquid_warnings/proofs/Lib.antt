pub mod AddedRemarks
pub mod DataPaths
pub mod FileWarnings
pub mod HtmlPlaces
pub mod RubyDifferences
pub mod SeenLiterals
pub mod SeenSteps
pub mod SilentNodes
