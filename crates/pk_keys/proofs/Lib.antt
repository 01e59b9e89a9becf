pub mod KeyOrder
mod Deciding
