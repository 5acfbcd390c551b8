-- Where a fault fed from one end starts, which sets feed it so, and which faults trip.
mod Starting
mod Samples
mod TripLaws
mod Seen
