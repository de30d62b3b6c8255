pub mod Postscripts
