-- The words for what a builder did not find.
use Rattle.std.specs.Prelude.{ℕ, List, ◌++◌, codes}
use Rattle.std.specs.Fmt.{decimal}
use Rattle.dine_builder.specs.declared.absent.Missing.{Missing}
use Rattle.dine_builder.specs.declared.absent.Missing.TheVariants.{Site, Edge, Job}

-- the words for what is missing
abbrev pub missing_words : Missing → List ℕ
missing_words (Site site) = codes "there is no site " ++ decimal site.0
missing_words (Edge edge) = codes "there is no edge " ++ decimal edge.0
missing_words (Job site k) = codes "there is no job " ++ decimal k ++ codes " at site " ++ decimal site.0
