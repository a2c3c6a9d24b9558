pub mod Plant
