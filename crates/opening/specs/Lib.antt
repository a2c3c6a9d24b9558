pub mod Initialize
