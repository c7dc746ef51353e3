use Rattle.dine_rules.proofs.shared.links.WorldStreams.{reached_kept}
use Rattle.dine_rules.proofs.shared.links.Links.{link_holds, link_forks, link_requests, link_dones, link_closes, link_letters}
use Rattle.dine_rules.proofs.laws.links_hold_few_letters.Goals as goal

pub returns : goal.returns
returns c = record {
  in_order = λ plan events world s i is_plan reached is_site within. link_holds plan is_plan world (reached_kept plan events world is_plan reached) s i is_site within;
  forks = λ plan events world s i is_plan reached is_site within. link_forks plan is_plan world (reached_kept plan events world is_plan reached) s i is_site within;
  requests = λ plan events world s i is_plan reached is_site within. link_requests plan is_plan world (reached_kept plan events world is_plan reached) s i is_site within;
  dones = λ plan events world s i is_plan reached is_site within. link_dones plan is_plan world (reached_kept plan events world is_plan reached) s i is_site within;
  closes = λ plan events world s i is_plan reached is_site within. link_closes plan is_plan world (reached_kept plan events world is_plan reached) s i is_site within;
  letters = λ plan events world s i is_plan reached is_site within. link_letters plan is_plan world (reached_kept plan events world is_plan reached) s i is_site within;
}
