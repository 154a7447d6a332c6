pub mod Layout
pub mod Facts
pub mod Laws
pub mod Books
