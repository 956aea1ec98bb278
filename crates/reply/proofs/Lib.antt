pub mod FollowingLaws
