-- The form of a document, by what is outside of its sites and what is in them.
use Rattle.std.specs.Prelude.{Bool, ◌||◌, List, [], ◌∷◌, Option, codes}
use Rattle.std.specs.List.{list_any}
use Rattle.toml.specs.Data.{Data}
use Rattle.dine_draft.specs.Refusals.{on}
use Rattle.dine_draft.specs.declared.plan_fault.PlanFault.{PlanFault}
use Rattle.dine_draft.specs.declared.plan_fault.PlanFault.TheVariants as fault
use Rattle.dine_reader.specs.Document.{edges_in, is_second}
use Rattle.dine_reader.specs.declared.forms.Flaws.{Flaws}
use Rattle.dine_reader.specs.RefusalTests.{document_keys, edge_is_wrong, edge_keys, has_other_key, is_tables, is_wrong}
use Rattle.dine_reader.specs.RefusalTests.{site_has_other_key, site_is_wrong, site_lacks_key}

-- the document or an edge has a key that the format does not name for it
unfoldable pub has_other_key_outside : Data → Bool
has_other_key_outside doc = has_other_key document_keys doc || list_any (has_other_key (edge_keys (is_second doc))) (edges_in doc)

-- a value that is not of a site is of another kind than the format names for its key
unfoldable pub has_wrong_kind_outside : Data → Bool
has_wrong_kind_outside doc = is_wrong is_tables (codes "site") doc || is_wrong is_tables (codes "edge") doc || list_any edge_is_wrong (edges_in doc)

-- the flaws of site tables, in version 2 or in version 1
abbrev pub flaws_in : Bool → List Data → Flaws
flaws_in second sites =
    record { other_key = list_any (site_has_other_key second) sites; missing_key = list_any site_lacks_key sites; wrong_kind = list_any site_is_wrong sites }

-- causes 3 to 5, each if it holds, in order
abbrev pub flaw_refusals : Flaws → Flaws → List (Option PlanFault)
flaw_refusals outside inside =
    on (outside.other_key || inside.other_key) fault.UnknownKey
    ∷ on (outside.missing_key || inside.missing_key) fault.MissingKey
    ∷ on (outside.wrong_kind || inside.wrong_kind) fault.WrongKind
    ∷ []
