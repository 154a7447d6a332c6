pub mod Layout
pub mod Facts
pub mod Books
pub mod Laws
