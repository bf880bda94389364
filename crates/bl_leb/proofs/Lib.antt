pub mod Bits
pub mod Places
pub mod Signed
pub mod SignedPlaces
pub mod Unsigned
pub mod UnsignedPlaces
