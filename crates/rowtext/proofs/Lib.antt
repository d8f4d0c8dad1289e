-- Theorems about the whole: the parts are the output, printed numbers read back, and examples.
pub mod WholeOutput
pub mod ReadBack
pub mod Worked
pub mod TextToBytes
