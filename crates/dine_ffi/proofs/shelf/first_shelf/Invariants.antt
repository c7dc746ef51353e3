use Rattle.std.proofs.Common.{◌≡◌, map, take}
use Rattle.dine_ffi.specs.Shelves.{first_kept}
use Rattle.dine_ffi.proofs.shelf.first_shelf.Given as goal

-- the forks of the first edges
abbrev pub invariant-loop-edge : goal.invariant-loop-edge
invariant-loop-edge l = l.shelf.items ≡ map (first_kept l.plan l.site) (take l.edge-index l.edge-items)
