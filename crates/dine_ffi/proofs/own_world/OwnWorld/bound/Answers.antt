use mir.Syntax.{w64}
use mir.Val.{SFits}
use Rattle.std.proofs.Common.{rules, ◌≡◌, ℕ, ◌<◌, ◌^◌, pos, sym, ◌∙◌, subst}
use Rattle.std.proofs.lemmas.Int.{to_z-of_z}
use Rattle.dine_rules.specs.Bound.{bound_of}
use Rattle.dine_world.specs.Worlds.{IsWorldOf}
use Rattle.dine_ffi.proofs.own_world.OwnWorld.bound.Goals as goal

pub returns : goal.returns
returns c plan world is few =
    let fits : SFits w64 c.number.result = search rules in
    let same : c.bound.result ≡ bound_of plan = c.bound.ensures.bound plan world (subst (IsWorldOf plan world) (sym c.self.view_is) is) in
    to_z-of_z w64 c.number.result fits ∙ subst (λ (n : ℕ). n < 2 ^ 63 → c.number.result ≡ pos n) same c.number.ensures few
