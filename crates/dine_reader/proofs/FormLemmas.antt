-- The first refusal in the form of a document, from the flaws outside of its sites and in them.
use Rattle.std.proofs.Common.{◌≡◌, Bool, true, false, ◌||◌, [], ◌∷◌, Option, Some, codes, refl}
use Rattle.std.specs.List.{list_any}
use Rattle.toml.specs.Data.{Data}
use Rattle.dine_draft.specs.Refusals.{first_some, on}
use Rattle.dine_draft.specs.declared.plan_fault.PlanFault.{PlanFault}
use Rattle.dine_draft.specs.declared.plan_fault.PlanFault.TheVariants.{Version, UnknownKey, MissingKey, WrongKind}
use Rattle.dine_reader.specs.Document.{edges_in, is_second, sites_in}
use Rattle.dine_reader.specs.RefusalTests.{document_keys, edge_is_wrong, edge_keys, form_refusals, has_other_key, is_tables, is_wrong, lacks_key, refuses_missing_key, refuses_unknown_key, refuses_version, refuses_wrong_kind, site_has_other_key, site_is_wrong, site_lacks_key}
use Rattle.dine_reader.specs.declared.forms.Flaws.{Flaws}
use Rattle.dine_reader.specs.private.Forms.{flaw_refusals, flaws_in, has_other_key_outside, has_wrong_kind_outside}

-- the four causes in the form of a document, each if it holds
abbrev four : Bool → Bool → Bool → Bool → Option PlanFault
four v u m w = first_some (on v Version ∷ on u UnknownKey ∷ on m MissingKey ∷ on w WrongKind ∷ [])

swap_last : (a s e : Bool) → ((a || e) || s) ≡ ((a || s) || e)
swap_last true s e = refl
swap_last false true true = refl
swap_last false true false = refl
swap_last false false true = refl
swap_last false false false = refl

swap : (s e : Bool) → (e || s) ≡ (s || e)
swap true true = refl
swap true false = refl
swap false true = refl
swap false false = refl

-- a document with another version is refused for that
pub other_version : (doc : Data) → refuses_version doc ≡ true → first_some (form_refusals doc) ≡ Some Version
unfolding form_refusals
other_version doc h = rw h

-- any other by its flaws
pub by_flaws : (doc : Data) (outside inside : Flaws) → refuses_version doc ≡ false
    → outside.other_key ≡ has_other_key_outside doc → outside.missing_key ≡ list_any (lacks_key (codes "ends")) (edges_in doc) → outside.wrong_kind ≡ has_wrong_kind_outside doc
    → inside ≡ flaws_in (is_second doc) (sites_in doc)
    → first_some (form_refusals doc) ≡ first_some (flaw_refusals outside inside)
unfolding form_refusals refuses_unknown_key refuses_missing_key refuses_wrong_kind has_other_key_outside has_wrong_kind_outside
by_flaws doc outside inside known other missing wrong is =
    rw (
      known,
      other,
      missing,
      wrong,
      is,
      swap_last (has_other_key document_keys doc) (list_any (site_has_other_key (is_second doc)) (sites_in doc)) (list_any (has_other_key (edge_keys (is_second doc))) (edges_in doc)),
      swap (list_any site_lacks_key (sites_in doc)) (list_any (lacks_key (codes "ends")) (edges_in doc)),
      swap_last (is_wrong is_tables (codes "site") doc || is_wrong is_tables (codes "edge") doc) (list_any site_is_wrong (sites_in doc)) (list_any edge_is_wrong (edges_in doc)),
    )
