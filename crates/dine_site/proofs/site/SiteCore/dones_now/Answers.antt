use Rattle.std.proofs.Common.{◌≡◌, ◌&&◌, ◌≤◌, true, false, length, arith}
use Rattle.std.proofs.lemmas.Grind.{common_steps}
use Rattle.dine_set.specs.Marks.{marks_of}
use Rattle.dine_rules.specs.Local.{is_thinking}
use Rattle.dine_site.specs.Places.{can_say_done_at, has_nothing_due}
use Rattle.dine_site.proofs.own_events.MarkedEvents.{marked_now, none_now}
use Rattle.dine_site.proofs.site.SiteCore.dones_now.Goals as goal

pub returns-then-ne : goal.returns-then-ne
returns-then-ne c =
    let core = c.args.self.now in
    let not_now : (is_thinking core.phase && has_nothing_due core) ≡ false = grind (arith, common_steps) in
    let few : length core.places ≤ 64 = grind (arith, common_steps) in
    none_now can_say_done_at core.places _ c.empty.result not_now few c.empty.ensures

pub returns : goal.returns
returns c =
    let core = c.args.self.now in
    let now : (is_thinking core.phase && has_nothing_due core) ≡ true = grind (arith, common_steps) in
    let are : c.dones-dones.result ≡ marks_of can_say_done_at core.places = grind (arith, common_steps) in
    marked_now can_say_done_at core.places _ c.dones-dones.result now are
