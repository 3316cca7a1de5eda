pub mod FirstPlaces
