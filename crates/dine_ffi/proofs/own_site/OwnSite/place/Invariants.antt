use Rattle.std.proofs.Common.{◌≢◌, ℕ, ◌<◌, get_or}
use Rattle.dine_ffi.proofs.own_site.OwnSite.place.Given as goal

-- no place so far is of the edge
abbrev pub invariant-loop-i : goal.invariant-loop-i
invariant-loop-i l = (j : ℕ) → j < l.i → get_or l.edges j 0 ≢ l.edge
