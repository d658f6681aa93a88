pub mod Refusals
pub mod Replies
pub mod Requests
pub mod Serving
pub mod Openings
pub mod Sessions
