-- The layout of an SREF.
pub mod Layouts
