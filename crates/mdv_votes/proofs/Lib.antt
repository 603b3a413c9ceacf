pub mod Meeting
pub mod SameSpots
pub mod PlacesAt
mod Listing
pub mod Quorums
pub mod Growing
pub mod Newest
