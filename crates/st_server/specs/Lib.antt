-- The definitions that contracts cite.
pub mod Bounds
pub mod Replying
pub mod Ready
pub mod Draw
pub mod Carried
pub mod LiveReplies
pub mod Execution
pub mod Serving
pub mod Deployed
pub mod Fresh
