pub mod NamedLoan
pub mod RightByStream
pub mod GitSettings
pub mod WrittenByStream
pub mod ToldFault
