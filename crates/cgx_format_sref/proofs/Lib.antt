-- `Laws`: where fields begin.
pub mod Laws
