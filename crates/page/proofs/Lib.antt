-- Laws of the register page: its bytes by their offsets, events within their bounds, what is new after a set, and a window that can be shown.
pub mod Offsets
pub mod EventLaws
pub mod Noted
pub mod HeldLaws
