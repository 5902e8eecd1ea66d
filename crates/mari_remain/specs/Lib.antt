pub mod Lists
pub mod Blocks
pub mod Available
pub mod RunMarket
pub mod FirstBlocks
pub mod Accepted
pub mod Choice
pub mod Migrated
