pub mod Cells
pub mod Distances
pub mod Objects
pub mod PlaceRooms
pub mod Rooms
