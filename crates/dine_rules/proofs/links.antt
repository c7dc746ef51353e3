-- All sites of a reached world: what each step keeps, and the next letter to a site.
pub mod EachSite
pub mod Coming
