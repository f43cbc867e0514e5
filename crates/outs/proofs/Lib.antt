-- Theorems that no file of specs/ cites.
pub mod OutsLaws
pub mod ReadExits
pub mod TakeExits
pub mod EventExits
pub mod CallerLaws
pub mod TwiceLaws
pub mod KeepLaws
pub mod NumberLaws
