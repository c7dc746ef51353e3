-- Which steps of a link are refused.
use Rattle.std.specs.Prelude.{ℕ, ◌-◌, Bool, true, nat_lt, Option, None, Some, ◌||◌}
use Rattle.dine_link.specs.Links.{SeenLink}

-- the link with these refusals noted too: of a put, and of a take
abbrev pub also_refused : Bool → Bool → SeenLink → SeenLink
also_refused put take link = record { edge = link.edge; from = link.from; put = link.put; taken = link.taken; put_at = link.put_at; taken_at = link.taken_at; put_refused = link.put_refused || put; take_refused = link.take_refused || take }

-- one further step is let through: always if there is no limit, and else if some steps are left
abbrev pub lets_through : Option ℕ → Bool
lets_through None = true
lets_through (Some left) = nat_lt 0 left

-- the number of steps that are left after one: one less, but never below 0
abbrev pub steps_left_after_one : Option ℕ → Option ℕ
steps_left_after_one None = None
steps_left_after_one (Some left) = Some (left - 1)
