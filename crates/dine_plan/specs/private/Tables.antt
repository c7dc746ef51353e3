-- A table with one key more.
use Rattle.std.specs.Prelude.{ℕ, List, codes}
use Rattle.std.specs.Ordering.{nat_cmp, match_ordering}
use Rattle.std.specs.Cmp.Lexicographic.{slice_cmp}
use Rattle.toml.specs.Data.{Data, Members, no_members, member}
use Rattle.dine_token.specs.declared.act.Act.{Act}
use Rattle.dine_token.specs.declared.act.Act.TheVariants.{Add, Set}
use Rattle.dine_plan.specs.DraftDocument.{whole}

-- the members with a value at a key, in the order of the keys
abbrev pub with_member : List ℕ → Data → Members → Members
with_member k d no_members = member k d no_members
with_member k d (member l e ms) = match_ordering (slice_cmp nat_cmp k l) (member k d (member l e ms)) (member l d ms) (member l e (with_member k d ms))

-- the members with what a job does to values
abbrev pub with_act_member : Act → Members → Members
with_act_member (Add amount) ms = with_member (codes "add") (whole amount) ms
with_act_member (Set amount) ms = with_member (codes "set") (whole amount) ms
