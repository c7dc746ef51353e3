-- What each account has at the end.
use Rattle.std.specs.Prelude.{◌≡◌, ℕ, zero, suc, ◌+◌, ◌-◌, ◌*◌, map, sum}
use Rattle.std.specs.List.{range_with_len}
use Rattle.dine_graph.specs.Plan.{SeenPlan, site_count, job_count}
use Rattle.dine_tellers.specs.declared.Books.{Books}
use Rattle.dine_tellers.specs.declared.TheConstants.{START}

-- the site before, which is the last one for the first
abbrev pub before : SeenPlan → ℕ → ℕ
before plan zero = site_count plan - 1
before plan (suc s) = s

-- what an account has at the end: a unit came for each job of the site before, and one went for each job of its own
abbrev pub balance_of : SeenPlan → ℕ → ℕ
balance_of plan s = START + job_count plan (before plan s) - job_count plan s

-- Each balance stands, by site. The total is their sum, and what all accounts had at the start.
pub record IsBooks (plan : SeenPlan) (books : Books) : Type 0 where
  pub balances : books.balances.items ≡ map (balance_of plan) (range_with_len 0 (site_count plan))
  pub total : books.total ≡ sum books.balances.items
  pub kept : books.total ≡ START * site_count plan
