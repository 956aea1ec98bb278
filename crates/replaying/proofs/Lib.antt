pub mod BoundsLaws
pub mod HeldLaws
pub mod ReplayLaws
pub mod TopLaws
