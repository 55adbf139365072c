-- What an accepted call leaves: the laws that the crates beside `demands` cite too.
pub mod AmongLaws
pub mod KeptLaws
pub mod EditedLaws
pub mod PlaceRule
pub mod LongerLaws
pub mod AcceptedLaws
pub mod ReleasedLaws
