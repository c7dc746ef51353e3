-- A line is made in place before it is written.
use Rattle.std.proofs.Common.{◌≡◌, ◌∙◌, ℕ, List, [], ◌∷◌, ◌++◌, Some, append-nil, append_assoc, ap, sym, subst}
use Rattle.std.specs.Fmt.{WritesText, option_append}
use Rattle.std.specs.Fmt.InlineText.{AppendsIfIntact, IsIntact, inline_text}
use Rattle.std.specs.List.{FoldsTo, concat}
use Rattle.std.specs.declared.fmt.InlineText.{InlineText}

module _ {n : ℕ} where
  -- several writes append their texts, one after the other
  after_writes : (before : InlineText n) (parts : List (List ℕ)) (after : InlineText n) → FoldsTo AppendsIfIntact before parts after → AppendsIfIntact before (concat parts) after
  after_writes before [] after same intact = (subst IsIntact same intact, ap inline_text (sym same) ∙ sym (append-nil (inline_text before)))
  after_writes before (part ∷ parts) after writes intact =
      let first = writes.1 intact in
      let rest = after_writes writes.0 parts after writes.2 first.0 in
      (rest.0, rest.1 ∙ ap (λ (l : List ℕ). l ++ concat parts) first.1 ∙ append_assoc (inline_text before) part (concat parts))

  -- the content of a text that was empty, after a front and a text were written
  pub holds_line : (before after : InlineText n) (front text : List ℕ) → inline_text before ≡ [] → IsIntact before
      → WritesText AppendsIfIntact before (option_append (Some front) (Some text)) after → inline_text after ≡ front ++ text
  holds_line before after front text empty intact wrote =
      (after_writes before wrote.parts after wrote.calls intact).1 ∙ ap (λ (l : List ℕ). inline_text before ++ l) wrote.whole ∙ ap (λ (l : List ℕ). l ++ (front ++ text)) empty
