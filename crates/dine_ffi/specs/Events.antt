-- The numbers of the kinds of events.
use Rattle.std.specs.Prelude.{ℕ, ◌==◌, Option, Some, None, if◌then◌else◌}
use Rattle.dine_rules.specs.declared.events.EventKind.{EventKind}
use Rattle.dine_rules.specs.declared.events.EventKind.TheVariants.{Take, Give, End, Begin, Quit, Hungry, Ask, Done, Close}
use Rattle.dine_ffi.specs.declared.event.DineEvent.{DineEvent}

-- the event as C sees it: its site, the number of its kind, and its place, 0 if it has none
abbrev pub seen_event : ℕ → EventKind → DineEvent
-- words kinds to numbers, by tools/words
seen_event site (Take place) = record { site = site; kind = 0; place = place }
seen_event site (Give place) = record { site = site; kind = 1; place = place }
seen_event site End = record { site = site; kind = 2; place = 0 }
seen_event site Begin = record { site = site; kind = 3; place = 0 }
seen_event site Quit = record { site = site; kind = 4; place = 0 }
seen_event site Hungry = record { site = site; kind = 5; place = 0 }
seen_event site (Ask place) = record { site = site; kind = 6; place = place }
seen_event site (Done place) = record { site = site; kind = 7; place = place }
seen_event site (Close place) = record { site = site; kind = 8; place = place }

-- end

-- the kind with this number, at this place
abbrev pub kind_numbered : ℕ → ℕ → Option EventKind
kind_numbered n place =
    -- words kinds by number, by tools/words
    if n == 0 then Some (Take place)
    else (if n == 1 then Some (Give place)
    else (if n == 2 then Some End
    else (if n == 3 then Some Begin
    else (if n == 4 then Some Quit
    else (if n == 5 then Some Hungry
    else (if n == 6 then Some (Ask place)
    else (if n == 7 then Some (Done place)
    else (if n == 8 then Some (Close place)
    else None))))))))

-- end
