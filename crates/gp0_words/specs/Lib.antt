pub mod Cutting
pub mod Items
pub mod Kinds
pub mod Next
pub mod Pushed
pub mod Resuming
pub mod Sizes
pub mod Skipped
