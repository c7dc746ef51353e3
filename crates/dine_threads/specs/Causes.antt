-- Why a run gathered nothing, or not all, and the words for the cause.
use Rattle.std.specs.Prelude.{ℕ, List, ◌++◌, codes, option_and_then, slice_get, unwrap_or}
use Rattle.std.specs.Fmt.{decimal}
use Rattle.dine_site_thread.specs.FaultWords.{site_fault_words}
use Rattle.dine_threads.specs.declared.causes.RunCause.{RunCause}
use Rattle.dine_threads.specs.declared.causes.RunCause.TheVariants as cause
use Rattle.dine_threads.specs.declared.gathered.RunFault.{RunFault}
use Rattle.dine_threads.specs.declared.gathered.RunFault.TheVariants as run
use Rattle.dine_threads.specs.declared.gathered.SiteOut.{SiteOut}
use Rattle.dine_site_thread.specs.declared.site_end.SiteFault.{SiteFault}
use Rattle.dine_site_thread.specs.declared.site_end.SiteFault.TheVariants as site_fault

-- the fault that a site ended with; a site without a fault, which `run` never reports as broken, counts as not started
abbrev pub fault_at : {D : Type 0} → List (SiteOut D) → ℕ → SiteFault
fault_at outs site = unwrap_or (option_and_then (λ (out : SiteOut _). out.fault) (slice_get outs site)) site_fault.NotStarted

-- the cause of an error of `run`: a refused thread has its own site; a broken run has the site that `run` reports, and
-- the fault with which this site ended
abbrev pub cause_of : {D : Type 0} → RunFault D → RunCause
cause_of (run.DinersDiffer given diners) = cause.DinersDiffer
cause_of run.Memory = cause.Memory
cause_of (run.Thread site) = cause.Thread site
cause_of (run.Broken site joined) = cause.Broken site (fault_at joined.sites.items site)

-- the words for the cause
abbrev pub cause_words : RunCause → List ℕ
cause_words cause.DinersDiffer = codes "run refused: diners differ"
cause_words cause.Memory = codes "out of memory"
cause_words (cause.Thread site) = codes "run refused: thread of site " ++ decimal site
cause_words (cause.Broken site fault) = codes "run broken at site " ++ decimal site ++ codes ": " ++ site_fault_words fault
