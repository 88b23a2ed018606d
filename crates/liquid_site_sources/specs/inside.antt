pub mod TextPlaces
