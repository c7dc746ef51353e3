-- The two ends of a link after they were joined, of any lane, as contracts see them.
use Rattle.std.specs.Prelude.{◌≡◌, ℕ, true, List, length}
use mathlib.Core.List.{IsPrefix}
use Rattle.crossbeam_channel.specs.Claims.{view}
use Rattle.dine_rules.specs.declared.letters.Letter.{Letter}
use Rattle.dine_rules.specs.Streams.{is_close_last}
use Rattle.rtrb.specs.Ring.{sent, received}
use Rattle.dine_link.specs.declared.link_end.EndPair.{EndPair}
use Rattle.dine_link.specs.declared.link_end.EndPair.TheVariants.{Channel, Ring}
use Rattle.dine_link.specs.declared.link_end.LinkEnd.TheInside.{Inside}
use Rattle.dine_link.specs.Closing.{ends_in_close}
use Rattle.dine_link.specs.Links.{SeenLink}
use Rattle.dine_link.specs.Stamps.{letters_in, moments_in}

-- all letters that were put in the link of these ends
abbrev pub put_in : EndPair → List Letter
put_in (Channel ends) = letters_in (view ends.pass).put
put_in (Ring ends) = letters_in (sent ends.producer)

-- all letters that were taken from the link of these ends
abbrev pub taken_from : EndPair → List Letter
taken_from (Channel ends) = letters_in (view ends.pass).taken
taken_from (Ring ends) = letters_in (received ends.consumer)

-- the moments of the letters that were put
abbrev pub put_at : EndPair → List ℕ
put_at (Channel ends) = moments_in (view ends.pass).put
put_at (Ring ends) = moments_in (sent ends.producer)

-- the moments of the letters that were taken: each is the moment at which the letter was put
abbrev pub taken_at : EndPair → List ℕ
taken_at (Channel ends) = moments_in (view ends.pass).taken
taken_at (Ring ends) = moments_in (received ends.consumer)

-- the link that the fields of a `LinkEnd` represent
abbrev pub seen_link : Inside → SeenLink
seen_link link = record { edge = link.edge; from = link.from; put = put_in link.ends; taken = taken_from link.ends; put_at = put_at link.ends; taken_at = taken_at link.ends; put_refused = link.put_refused; take_refused = link.take_refused }

-- The fields `put` and `taken` are the lengths of the two lists. `shut` says whether the put list ends in Close. The
-- taken list is a prefix of the put list. Nothing was put after Close.
pub record IsLinkEnd (link : Inside) : Type 0 where
  pub put : link.put ≡ length (put_in link.ends)
  pub taken : link.taken ≡ length (taken_from link.ends)
  pub shut : link.shut ≡ ends_in_close (put_in link.ends)
  pub prefix : IsPrefix (taken_from link.ends) (put_in link.ends)
  pub close_last : is_close_last (put_in link.ends) ≡ true
