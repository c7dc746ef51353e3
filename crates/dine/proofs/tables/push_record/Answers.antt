use Rattle.std.proofs.Common.{◌≡◌, ◌≢◌, ◌≤◌, ◌++◌, ℕ, List, length, map, Bor, sym, ◌∙◌, ap, arith}
use Rattle.std.proofs.lemmas.List.{length-map}
use Rattle.csv.specs.Writing.{default_writer, row_text, writer_setup}
use Rattle.csv.specs.declared.writer.QuoteStyle.TheVariants as style
use Rattle.csv.specs.declared.writer.WriterBuilder.{WriterBuilder}
use Rattle.dine.specs.private.Records.{text_so_far}
use Rattle.dine.proofs.PlainFields.{plain_record}
use Rattle.dine.proofs.tables.push_record.Goals as goal

-- a table that is set up as usual looks for no numbers
no_numbers : (setup : WriterBuilder) → setup ≡ default_writer → setup.style ≢ style.NonNumeric
no_numbers setup is numbers =
    let other : style.Necessary ≡ style.NonNumeric = sym (ap (λ (b : WriterBuilder). b.style) is) ∙ numbers in
    absurd cc

pub returns-clause-text : goal.returns-clause-text
returns-clause-text c =
    let now : Bor (List ℕ) → List ℕ = λ (field : Bor (List ℕ)). field.now in
    let fields : List (List ℕ) = map now c.args.fields.now in
    let two : 2 ≤ length fields = omega (arith, length-map c.args.fields.now now) in
    let between = c.requires.between in
    c.in-Ok.ensures.bytes between.no_field between.no_byte (no_numbers (writer_setup c.args.table.now) between.setup)
    ∙ ap (λ (l : List ℕ). text_so_far c.args.table.now ++ l) (ap (λ (b : WriterBuilder). row_text b fields) between.setup ∙ plain_record fields two c.requires.plain)
