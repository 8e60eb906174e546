pub mod LogLaws
pub mod StrayLaws
