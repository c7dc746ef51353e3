use Rattle.std.proofs.Common.{◌≡◌, ℕ, ◌<◌, false, List, [], take}
use Rattle.std.specs.List.{list_any}
use Rattle.std.specs.Str.{bytes_eq}
use Rattle.dine_draft.specs.Refusals.{stands_before}
use Rattle.dine_draft.proofs.shared.NameLemmas.{names_seen}
use Rattle.dine_draft.proofs.sites.first_site_twice.Given as goal

abbrev pub invariant-loop-i : goal.invariant-loop-i
invariant-loop-i l = record {
  apart : (k : ℕ) → k < l.i → stands_before bytes_eq [] (names_seen l.sites) k ≡ false;
  names : (q : List ℕ) → list_any (λ k. bytes_eq q k.now) l.names.keys ≡ list_any (bytes_eq q) (names_seen (take l.i l.sites));
}
