-- What the contract of `weld_from_soup` cites.
pub mod Soups
pub mod SoupPromise
