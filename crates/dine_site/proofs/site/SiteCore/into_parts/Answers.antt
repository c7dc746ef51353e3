use Rattle.std.proofs.Common.{◌≡◌, false, sym, ◌∙◌, ap, arith}
use Rattle.std.proofs.lemmas.Grind.{common_steps}
use Rattle.dine_rules.specs.Local.{is_eating}
use Rattle.dine_site.proofs.shared.lists.Ranges.{forks_by_lists, tokens_by_lists}
use Rattle.dine_site.proofs.site.SiteCore.into_parts.Goals as goal

pub returns-clause-forks : goal.returns-clause-forks
returns-clause-forks c = grind (arith, common_steps)

pub returns-clause-tokens : goal.returns-clause-tokens
returns-clause-tokens c = grind (arith, common_steps)

pub returns-clause-forks_by_lists : goal.returns-clause-forks_by_lists
returns-clause-forks_by_lists c plan state keeps stands =
    let awake : is_eating state.phase ≡ false = ap is_eating (sym stands.phase) ∙ c.requires in
    returns-clause-forks c ∙ forks_by_lists plan state c.args.self stands awake

pub returns-clause-tokens_by_lists : goal.returns-clause-tokens_by_lists
returns-clause-tokens_by_lists c plan state keeps stands = returns-clause-tokens c ∙ tokens_by_lists plan state c.args.self stands
