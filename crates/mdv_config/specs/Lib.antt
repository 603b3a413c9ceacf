pub mod Below
pub use Rattle.mdv_name.specs.SliceIndex
pub mod Lists
pub mod Marks
pub mod Slices
pub mod Table
pub mod Tests
