-- Which of Done and Close were put and taken at a place, by what the core keeps.
use Rattle.dine_site.specs.declared.site.places.Place.{Place}
use Rattle.dine_site.specs.declared.site.done_and_close.DoneAndClose.{DoneAndClose}

-- which of Done and Close were put and taken at the place
abbrev pub said_at : Place → DoneAndClose
said_at place = record { done_put = place.done_put; done_taken = place.done_taken; close_put = place.close_put; close_taken = place.close_taken }
