use Rattle.std.proofs.lemmas.Grind.{elements}
use Rattle.std.proofs.Common.{◌≡◌, ◌+◌, ◌<◌, ◌≤◌, List, length, Some, slice_get, sym, ◌∙◌, ap, subst, arith}
use Rattle.std.specs.List.{All}
use Rattle.std.proofs.lemmas.List.Elements.{All-get_or}
use Rattle.std.proofs.lemmas.Option.{slice_get-get_or}
use Rattle.dine_token.specs.declared.limits.TheConstants.{MAX_JOBS}
use Rattle.dine_token.specs.declared.fork.Contents.{Contents}
use Rattle.dine_token.specs.declared.log_period.Period.{Period}
use Rattle.dine_token.specs.Fork.{SeenFork}
use Rattle.dine_token.specs.Periods.{periods_of}
use Rattle.dine_token.specs.private.Fields.{seen_fork}
use Rattle.dine_token.proofs.shared.Forks.{periods_small}
use Rattle.dine_token.proofs.Places.{used_between}
use Rattle.dine_token.proofs.fork.Fork.period.Goals as goal

pub returns-clause-bound : goal.returns-clause-bound
returns-clause-bound c =
    let items = c.deref.result.now.periods.items in
    let same : items ≡ c.self.inside.contents.value.periods.items = ap (λ (k : Contents). k.periods.items) c.deref.ensures in
    let asked : c.args.i < length (periods_of c.args.self.now.ends.0 c.args.self.now.log) = c.requires in
    let size : length items ≡ length (periods_of c.args.self.now.ends.0 c.args.self.now.log) = ap length same ∙ ap length c.self.invariant.periods ∙ ap (λ (f : SeenFork). length (periods_of f.ends.0 f.log)) c.self.view_is in
    let P : Period → Type 0 = λ p. p.first + p.count ≤ MAX_JOBS + 1 in
    let Q : List Period → Type 0 = λ l. All P l in
    let small : All P items = subst Q (sym (same ∙ c.self.invariant.periods)) (periods_small (seen_fork c.self.inside) c.self.invariant.proper) in
    subst P (sym c.index.ensures) (All-get_or P items c.args.i c.index.result.now (omega (arith, asked, size)) small)

pub returns-clause-used : goal.returns-clause-used
returns-clause-used c some more =
    let items = c.deref.result.now.periods.items in
    let same : items ≡ c.self.inside.contents.value.periods.items = ap (λ (k : Contents). k.periods.items) c.deref.ensures in
    let asked : c.args.i + 1 < length (periods_of c.args.self.now.ends.0 c.args.self.now.log) = more in
    let size : length items ≡ length (periods_of c.args.self.now.ends.0 c.args.self.now.log) = ap length same ∙ ap length c.self.invariant.periods ∙ ap (λ (f : SeenFork). length (periods_of f.ends.0 f.log)) c.self.view_is in
    let got : slice_get items c.args.i ≡ Some c.index.result.now = slice_get-get_or items c.args.i c.index.result.now (omega (arith, asked, size)) ∙ ap (λ (p : Period). Some p) (sym c.index.ensures) in
    let fork = seen_fork c.self.inside in
    let contents = c.self.inside.contents.value.periods.items in
    let there = subst (λ (l : List Period). slice_get l c.args.i ≡ Some c.index.result.now) same got in
    used_between fork.ends fork.due contents c.args.i c.index.result.now c.self.invariant.proper.lawful there some (omega (arith, asked, size, ap length same))

pub returns-clause-period : goal.returns-clause-period
returns-clause-period c = grind (arith, elements)
