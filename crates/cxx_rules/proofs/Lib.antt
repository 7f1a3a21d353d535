pub mod PartLaws
pub mod ListLaws
pub mod ThrownLaws
pub mod WalkLaws
pub mod LocalLaws
pub mod ScopeLaws
mod RowLaws
pub mod AgreeLaws
mod SignatureLaws
mod LookupLaws
mod MemberNames
pub mod PathLaws
pub mod ConstructLaws
pub mod GivenLaws
pub mod FoundLaws
pub mod MemberLaws
pub mod NameLaws
pub mod SizeLaws
pub mod TextLaws
