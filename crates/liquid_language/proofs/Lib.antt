pub mod Inserted
pub mod ItemsAlone
