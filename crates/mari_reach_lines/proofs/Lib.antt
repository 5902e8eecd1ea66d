pub mod Words
pub mod OwnWords
pub mod SameLine
pub mod Lengths
pub mod Pieces
