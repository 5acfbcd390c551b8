-- Laws of texts: a number's digits are the fewest and how many they can be; texts put in a buffer one after the other, and what is left after them.
pub mod Decimal
pub mod Putting
