-- Each cause to refuse a plan: its number, its name, what it is about, and what is wrong.
use Rattle.std.specs.Prelude.{ℕ, List, [], Option, None, Some, ◌++◌, codes}
use Rattle.std.specs.Fmt.{decimal}
use Rattle.std.specs.Option.{option_map_or}
use Rattle.dine_draft.specs.declared.plan_fault.About.{About}
use Rattle.dine_draft.specs.declared.plan_fault.About.TheVariants as about
use Rattle.dine_draft.specs.declared.plan_fault.PlanFault.{PlanFault}
use Rattle.dine_draft.specs.declared.plan_fault.PlanFault.TheVariants as fault

-- the number of a cause, its name, and what it is about
pub record CauseRow : Type 0 where
  pub number : ℕ
  pub name : List ℕ
  pub about : About

-- the row of these three
abbrev pub row : ℕ → List ℕ → About → CauseRow
row number name about = record { number = number; name = name; about = about }

-- words causes, by tools/words

-- what each cause to refuse a plan is; the numbers are in the order in which the causes are checked, except that of
-- `Memory`, which may be reported at any point
abbrev pub row_of : PlanFault → CauseRow
row_of fault.NotToml = row 1 (codes "NotToml") about.Text
row_of fault.Version = row 2 (codes "Version") about.Text
row_of fault.UnknownKey = row 3 (codes "UnknownKey") about.Text
row_of fault.MissingKey = row 4 (codes "MissingKey") about.Text
row_of fault.WrongKind = row 5 (codes "WrongKind") about.Text
row_of (fault.BadName site) = row 6 (codes "BadName") (about.Site site)
row_of (fault.SiteTwice site) = row 7 (codes "SiteTwice") (about.Site site)
row_of fault.NoSite = row 8 (codes "NoSite") about.Counts
row_of fault.TooManySites = row 9 (codes "TooManySites") about.Counts
row_of (fault.TooManyJobs site) = row 10 (codes "TooManyJobs") (about.Site site)
row_of (fault.TurnsTooLarge site) = row 11 (codes "TurnsTooLarge") (about.Site site)
row_of (fault.UnknownEnd edge) = row 12 (codes "UnknownEnd") (about.Edge edge)
row_of (fault.Loop edge) = row 13 (codes "Loop") (about.Edge edge)
row_of (fault.EdgeTwice edge) = row 14 (codes "EdgeTwice") (about.Edge edge)
row_of fault.TooManyEdges = row 15 (codes "TooManyEdges") about.Counts
row_of (fault.TwoActs site) = row 17 (codes "TwoActs") (about.Site site)
row_of (fault.ActTooLarge site) = row 18 (codes "ActTooLarge") (about.Site site)
row_of (fault.ValueTooLarge edge) = row 19 (codes "ValueTooLarge") (about.Edge edge)
row_of (fault.UnknownPolicy site) = row 20 (codes "UnknownPolicy") (about.Site site)
row_of fault.Memory = row 16 (codes "Memory") about.Text

-- what is wrong, in words that may follow the site or the edge that a cause is about
abbrev pub sentence_of : PlanFault → List ℕ
sentence_of fault.NotToml = codes "the text is not TOML"
sentence_of fault.Version = codes "version must be 1 or 2"
sentence_of fault.UnknownKey = codes "a table has a key that plans of its version do not have"
sentence_of fault.MissingKey = codes "a site or a job has no name, or an edge has no ends"
sentence_of fault.WrongKind = codes "a value is of the wrong kind, such as a text for a number"
sentence_of (fault.BadName site) = codes "its name is not 1 to 32 ASCII letters, digits, _ or -"
sentence_of (fault.SiteTwice site) = codes "an earlier site has the same name"
sentence_of fault.NoSite = codes "a plan has at least 1 site"
sentence_of fault.TooManySites = codes "a plan has at most 64 sites"
sentence_of (fault.TooManyJobs site) = codes "it has more than 1,000 jobs"
sentence_of (fault.TurnsTooLarge site) = codes "a job of it has more than 1,000,000 turns"
sentence_of (fault.UnknownEnd edge) = codes "an end is not the number of a site; the first site is 0"
sentence_of (fault.Loop edge) = codes "both ends are one site"
sentence_of (fault.EdgeTwice edge) = codes "an earlier edge joins the same two sites"
sentence_of fault.TooManyEdges = codes "a plan has at most 512 edges"
sentence_of (fault.TwoActs site) = codes "a job of it both adds and sets"
sentence_of (fault.ActTooLarge site) = codes "a job of it adds or sets more than 1,000,000"
sentence_of (fault.ValueTooLarge edge) = codes "its value is above 1,000,000"
sentence_of (fault.UnknownPolicy site) = codes "its on_fault is neither go nor resign"
sentence_of fault.Memory = codes "an allocation failed"

-- end

-- the number of a cause
abbrev pub number_of_fault : PlanFault → ℕ
number_of_fault fault = (row_of fault).number

-- what a cause is about
abbrev pub about_of : PlanFault → About
about_of fault = (row_of fault).about

-- the position, from 0, of the site or edge, if it is about one
abbrev pub position_at : About → Option ℕ
position_at (about.Site site) = Some site
position_at (about.Edge edge) = Some edge
position_at _ = None

-- the position, from 0, of the site or edge that a fault names, if it names one
abbrev pub position_in : PlanFault → Option ℕ
position_in fault = position_at (about_of fault)

-- the same position; 0 if the fault names none
abbrev pub position_of_fault : PlanFault → ℕ
position_of_fault fault = option_map_or (λ position. position) (position_in fault) 0

-- the site or the edge, in words that follow the name of a cause
abbrev pub about_words : About → List ℕ
about_words (about.Site site) = codes " at site " ++ decimal site
about_words (about.Edge edge) = codes " at edge " ++ decimal edge
about_words _ = []

-- the words of a cause: its number, its name and, if it names a site or an edge, its position
abbrev pub plan_fault_words : PlanFault → List ℕ
plan_fault_words fault = decimal (number_of_fault fault) ++ codes " " ++ (row_of fault).name ++ about_words (about_of fault)
