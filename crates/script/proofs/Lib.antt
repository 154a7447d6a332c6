pub mod Arguing
pub mod Numbers
pub mod Printing
pub mod Table
