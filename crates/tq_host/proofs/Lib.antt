pub mod LineLaws
pub mod ServeLaws
