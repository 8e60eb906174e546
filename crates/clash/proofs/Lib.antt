pub mod NewestLaws
pub mod OpenLaws
pub mod GroupLaws
pub mod FirstLaws
pub mod VerdictLaws
