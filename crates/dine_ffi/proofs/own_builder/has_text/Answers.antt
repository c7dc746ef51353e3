use Rattle.std.proofs.Common.{rules, string_bytes, tests, refl}
use Rattle.std.specs.Str.{bytes_eq}
use Rattle.dine_draft.proofs.shared.Searches.{any_seen}
use Rattle.dine_ffi.proofs.own_builder.has_text.Goals as goal

pub returns : goal.returns
returns c =
    any_seen string_bytes (bytes_eq c.args.text.now) c.args.texts.now _ c.any.result c.any.ensures.ran (cc) (λ x b q k. search (rules, tests)) refl
