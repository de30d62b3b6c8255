pub mod LineScope
pub mod NameCheck
pub mod Adds
pub mod NoticeSets
pub mod Acting
pub mod NodeChanges
pub mod SaidFiles
pub mod ParsedFiles
