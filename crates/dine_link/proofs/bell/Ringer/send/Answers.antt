use Rattle.std.proofs.Common.{true, subst, sym, ap, ◌∙◌}
use Rattle.crossbeam_channel.specs.Claims.{view}
use Rattle.crossbeam_channel.specs.Ends.{sends_on}
use Rattle.dine_link.specs.Bells.{after_refused_ring}
use Rattle.dine_link.specs.private.BellRule.{IsOfRinger}
use Rattle.dine_link.proofs.BellSteps.{rings, rang, not_rang, still_ringer, ringer_knows, rung_seen}
use Rattle.dine_link.proofs.bell.Ringer.send.Goals as goal

pub send_as-rung-requires-clause-rule : goal.send_as-rung-requires-clause-rule
send_as-rung-requires-clause-rule g c = (rings _ _ _ _ c.self.invariant.own, λ queue views h at. tt)

pub invariant_of-self : goal.invariant_of-self
invariant_of-self g c =
    let same = sym (not_rang _ c.send_as-rung.result c.self.inside.number (view c.self.inside.pass) (view c.send_as-rung.new.pass) c.send_as-rung.ensures.rule c.if-is_err.ensures.value) in
    record { seated = c.send_as-rung.ensures.channel.0; own = subst (IsOfRinger c.self.inside.number) same c.self.invariant.own }

pub returns-then-is_err : goal.returns-then-is_err
returns-then-is_err g c = ap (ringer_knows (sends_on c.self.inside.sender) c.self.inside.number true) (not_rang _ c.send_as-rung.result c.self.inside.number (view c.self.inside.pass) (view c.send_as-rung.new.pass) c.send_as-rung.ensures.rule c.if-is_err.ensures.value) ∙ ap after_refused_ring c.self.view_is

pub invariant_of-self-else-is_err : goal.invariant_of-self-else-is_err
invariant_of-self-else-is_err g c =
    let rung = rang _ c.send_as-rung.result c.self.inside.number (view c.self.inside.pass) (view c.send_as-rung.new.pass) c.send_as-rung.ensures.rule c.if-is_err.ensures.value in
    record { seated = c.send_as-rung.ensures.channel.0; own = still_ringer c.self.inside.number _ _ rung c.self.invariant.own }

pub returns : goal.returns
returns g c =
    let rung = rang _ c.send_as-rung.result c.self.inside.number (view c.self.inside.pass) (view c.send_as-rung.new.pass) c.send_as-rung.ensures.rule c.if-is_err.ensures.value in
    rung_seen (sends_on c.self.inside.sender) c.self.inside.number c.self.inside.refused (view c.self.inside.pass) (view c.send_as-rung.new.pass) c.args.self.now c.self.view_is c.self.invariant.own rung
