-- Laws that more than one proof cites.
mod PartLaws
mod EndLaws
mod Holding
pub mod OneEndLaws
pub mod OneEnd
pub mod Negated
