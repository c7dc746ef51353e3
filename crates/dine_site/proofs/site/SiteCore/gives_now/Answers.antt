use Rattle.std.proofs.Common.{◌≡◌, ◌≤◌, not, true, false, length, arith}
use Rattle.std.proofs.lemmas.Grind.{common_steps}
use Rattle.dine_set.specs.Marks.{marks_of}
use Rattle.dine_rules.specs.Local.{is_eating}
use Rattle.dine_site.specs.Places.{can_give_at}
use Rattle.dine_site.proofs.own_events.MarkedEvents.{marked_now, none_now}
use Rattle.dine_site.proofs.site.SiteCore.gives_now.Goals as goal

pub returns-then-eq : goal.returns-then-eq
returns-then-eq c =
    let core = c.args.self.now in
    let not_now : (not (is_eating core.phase)) ≡ false = grind (arith, common_steps) in
    let few : length core.places ≤ 64 = grind (arith, common_steps) in
    none_now can_give_at core.places _ c.empty.result not_now few c.empty.ensures

pub returns : goal.returns
returns c =
    let core = c.args.self.now in
    let now : (not (is_eating core.phase)) ≡ true = grind (arith, common_steps) in
    let are : c.gives-gives.result ≡ marks_of can_give_at core.places = grind (arith, common_steps) in
    marked_now can_give_at core.places _ c.gives-gives.result now are
