-- The laws of files and theorems about reading them: parts and the walk, what is written and read back, what is skipped and what is not looked at, and
-- worked examples.
pub mod Parts
pub mod Walks
pub mod Samples
pub mod Alike
pub mod WrittenChunks
pub mod Outcomes
pub mod Clips
pub mod Unread
pub mod Skipped
pub mod ReadBack
pub mod WrittenBytes
pub mod Worked
