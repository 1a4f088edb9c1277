pub mod Turn
pub mod Stream
pub mod Served
pub mod ReplyPlaces
pub mod Piece
pub mod Next
