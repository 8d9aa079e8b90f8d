pub mod Replies
pub mod Serving
pub mod Program
