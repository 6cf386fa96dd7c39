pub mod Contents
pub mod Nexts
pub mod Lexemes
pub mod Marks
