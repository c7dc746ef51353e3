-- The words for the fault of a site.
use Rattle.std.specs.Prelude.{ℕ, List, ◌++◌, codes}
use Rattle.std.specs.Fmt.{decimal}
use Rattle.dine_rules.specs.Breach.{number_of}
use Rattle.dine_site_thread.specs.declared.site_end.SiteFault.{SiteFault}
use Rattle.dine_site_thread.specs.declared.site_end.SiteFault.TheVariants as site_fault

-- the words for the fault of a site: a breach has its number, 1 to 6, and the number of the place; a refused link has
-- the number of the place; a refused bell has the words of a link, with the degree, which is the number of no place
abbrev pub site_fault_words : SiteFault → List ℕ
site_fault_words (site_fault.Breach link breach) = codes "Breach " ++ decimal (number_of breach) ++ codes " on link " ++ decimal link
site_fault_words (site_fault.Lost link) = codes "Lost on link " ++ decimal link
site_fault_words (site_fault.LostBell degree) = codes "Lost on link " ++ decimal degree
site_fault_words site_fault.NotStarted = codes "NotStarted"
site_fault_words site_fault.Memory = codes "Memory"
