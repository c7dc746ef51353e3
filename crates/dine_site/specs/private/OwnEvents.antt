-- Which of its own events a site may do, kind by kind.
use Rattle.std.specs.Prelude.{ℕ, ◌&&◌, not, Bool, List, ◌++◌, length, map, find, Option, option_map}
use Rattle.std.specs.List.{range_with_len}
use Rattle.std.specs.Option.{option_or}
use Rattle.dine_rules.specs.declared.events.EventKind.{EventKind}
use Rattle.dine_rules.specs.declared.events.EventKind.TheVariants as event
use Rattle.dine_rules.specs.Local.{is_eating, is_hungry, is_thinking}
use Rattle.dine_site.specs.declared.site.places.Place.{Place}
use Rattle.dine_site.specs.Core.{SeenCore}
use Rattle.dine_site.specs.Places.{can_give_at, can_ask, can_ask_at, can_say_done, can_say_done_at, can_close, has_nothing_due}

-- the Asks, Dones and Closes alone, each by place
abbrev pub own_words : List ℕ → List EventKind
own_words places = map event.Ask places ++ map event.Done places ++ map event.Close places

-- the core may now send the fork of this place [paper: release rule]
abbrev pub may_give_at : SeenCore → Place → Bool
may_give_at core place = not (is_eating core.phase) && can_give_at place

-- the core may now ask for the fork of this place [paper: request rule]
abbrev pub may_ask_at : SeenCore → Place → Bool
may_ask_at core place = is_hungry core.phase && can_ask_at place

-- the core may now say Done at this place
abbrev pub may_say_done_at : SeenCore → Place → Bool
may_say_done_at core place = is_thinking core.phase && has_nothing_due core && can_say_done_at place

-- the first Ask, Done or Close that the core can do
abbrev pub next_word_of : SeenCore → Option EventKind
next_word_of core =
    let places = range_with_len 0 (length core.places) in
    option_or (option_or (option_map event.Ask (find (can_ask core) places)) (option_map event.Done (find (can_say_done core) places)))
    (option_map event.Close (find (can_close core) places))
