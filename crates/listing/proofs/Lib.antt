pub mod Digits
mod Lines
mod LongestRuns
mod PayloadBlindness
