use Rattle.std.proofs.Common.{◌≡◌, ◌+◌, ◌<◌, ◌++◌, ◌∷◌, [], ◌^◌, true, length, map, option_map, slice_get, set, refl, ◌∙◌, ap, arith}
use Rattle.std.specs.List.{swap}
use Rattle.std.proofs.lemmas.Option.{slice_get-map, slice_get_read}
use Rattle.dine_site_thread.specs.Ports.{SeenPort, seen_port}
use Rattle.dine_site_thread.specs.private.PortSteps.{SendsClose}
use Rattle.dine_site_thread.proofs.lists.Replaced.{changed, replaced}
use Rattle.dine_site_thread.proofs.shared.lists.Seen.{of_there}
use Rattle.dine_site_thread.proofs.site_loop.running.close_at.Goals as goal

pub returns-clause-closed : goal.returns-clause-closed
returns-clause-closed g c =
    let xs = c.args.ports.now.items in
    let i = c.args.i in
    let within : i < length xs = omega (arith, c.requires.place, c.args.ports.now.ok.0) in
    let count : c.len-last.result + 1 ≡ length xs = omega (arith, c.len-last.ensures, c.swap_remove.ensures.len, c.args.ports.now.ok.0) in
    let is : c.swap.new.self.items ≡ set xs i c.close-port.result.0 =
    c.swap.ensures.items ∙ ap (λ ys. swap ys i c.len-last.result) (c.push_reserved.ensures.items ∙ ap (λ ys. ys ++ c.close-port.result.0 ∷ []) c.swap_remove.ensures.items)
    ∙ replaced xs i c.len-last.result c.close-port.result.0 c.swap_remove.result within count in
    changed (seen_port g.L.Lane) (λ old new. SendsClose c.args.stamp.at old new c.close-port.result.1) xs c.swap.new.self.items i c.swap_remove.result c.close-port.result.0
    (slice_get_read xs (length xs) i c.swap_remove.result refl within c.swap_remove.ensures.value) is c.close-port.ensures.sends

pub close-port-requires-clause-live : goal.close-port-requires-clause-live
close-port-requires-clause-live g c κs ls =
    let xs = c.args.ports.now.items in
    let i = c.args.i in
    let see = seen_port g.L.Lane in
    let within : i < length xs = omega (arith, c.requires.place, c.args.ports.now.ok.0) in
    let there = slice_get_read xs (length xs) i c.swap_remove.result refl within c.swap_remove.ensures.value in
    of_there (λ (port : SeenPort g.L.Lane.Identity). port.is_live ≡ true) (slice_get (map see xs) i) (see c.swap_remove.result) (slice_get-map see xs i ∙ ap (option_map see) there) c.requires.live

pub close-port-requires-clause-few_letters : goal.close-port-requires-clause-few_letters
close-port-requires-clause-few_letters g c κs ls =
    let xs = c.args.ports.now.items in
    let i = c.args.i in
    let see = seen_port g.L.Lane in
    let within : i < length xs = omega (arith, c.requires.place, c.args.ports.now.ok.0) in
    let there = slice_get_read xs (length xs) i c.swap_remove.result refl within c.swap_remove.ensures.value in
    of_there (λ (port : SeenPort g.L.Lane.Identity). length port.tx.letters < 2 ^ 61) (slice_get (map see xs) i) (see c.swap_remove.result) (slice_get-map see xs i ∙ ap (option_map see) there) c.requires.few_letters
