-- Fields of bytes that names may have need no quotes.
use Rattle.std.proofs.Common.{◌≡◌, ℕ, ◌<◌, ◌≤◌, ◌^◌, nat_le, ◌&&◌, Bool, true, false, eqb, cond, List, [], ◌∷◌, ◌++◌, length, refl, sym, ◌∙◌, ap, arith}
use Rattle.std.specs.Char.{is_ascii_digit}
use Rattle.std.specs.Fmt.{decimal}
use Rattle.std.specs.List.{list_all, join_with_byte}
use Rattle.std.specs.Str.{all_ascii_digits}
use Rattle.std.proofs.lemmas.Bool.{ne_eqb, false≢true, and_parts}
use Rattle.std.proofs.lemmas.Fmt.{digits_decimal}
use Rattle.std.proofs.lemmas.List.{append-nil}
use Rattle.std.proofs.lemmas.Str.Parse.{numerals_by_value, tells_all_ascii_digits}
use Rattle.csv.specs.Quoting.{needs_byte}
use Rattle.csv.specs.Writing.{default_writer, field_text, fields_text, is_blank, needs_quotes, quoted, row_body, row_text}
use Rattle.dine_graph.specs.Plan.{SeenPlan, IsPlan, is_name_byte, name_of, site_count}
use Rattle.dine.specs.private.Records.{is_plain}
use Rattle.dine.specs.Tables.{record_text}

-- a byte that no name may have differs from each byte of a name
other_byte : (b n : ℕ) → is_name_byte n ≡ false → is_name_byte b ≡ true → eqb b n ≡ false
other_byte b n lacks has = ne_eqb b n (λ e. false≢true (sym lacks ∙ ap is_name_byte (sym e) ∙ has))

plain_byte : (b : ℕ) → is_name_byte b ≡ true → needs_byte default_writer b ≡ false
plain_byte b has = rw (other_byte b 44 refl has, other_byte b 34 refl has, other_byte b 13 refl has, other_byte b 10 refl has) refl

plain_needs_none : (field : List ℕ) → is_plain field ≡ true → needs_quotes default_writer field ≡ false
plain_needs_none [] plain = refl
plain_needs_none (b ∷ field) plain =
    let parts = and_parts (is_name_byte b) (is_plain field) plain in
    rw (plain_byte b parts.0, plain_needs_none field parts.1) refl

-- it is written unchanged
plain_text : (field : List ℕ) → is_plain field ≡ true → field_text default_writer field ≡ field
plain_text field plain = ap (λ (needs : Bool). cond needs (quoted default_writer field) field) (plain_needs_none field plain)

plain_body : (field : List ℕ) (fields : List (List ℕ)) → list_all is_plain (field ∷ fields) ≡ true → row_body default_writer (field ∷ fields) ≡ join_with_byte 44 (field ∷ fields)
unfolding fields_text
plain_body field [] plain = append-nil (field_text default_writer field) ∙ plain_text field (and_parts (is_plain field) true plain).0
plain_body field (next ∷ fields) plain =
    let parts = and_parts (is_plain field) (list_all is_plain (next ∷ fields)) plain in
    ap (λ (l : List ℕ). l ++ (44 ∷ row_body default_writer (next ∷ fields))) (plain_text field parts.0) ∙ ap (λ (l : List ℕ). field ++ (44 ∷ l)) (plain_body next fields parts.1)

-- so is a record of them, unless it is a single field
pub plain_record : (fields : List (List ℕ)) → 2 ≤ length fields → list_all is_plain fields ≡ true → row_text default_writer fields ≡ record_text fields
unfolding is_blank
plain_record [] two plain = absurd (omega arith)
plain_record (field ∷ []) two plain = absurd (omega arith)
plain_record (field ∷ next ∷ fields) two plain = ap (λ (l : List ℕ). l ++ 10 ∷ []) (plain_body field (next ∷ fields) plain)

plain_digits : (digits : List ℕ) → all_ascii_digits digits ≡ true → is_plain digits ≡ true
plain_digits [] all = refl
plain_digits (d ∷ digits) all =
    let parts = and_parts (is_ascii_digit d) (all_ascii_digits digits) all in
    rw (parts.0, plain_digits digits parts.1) refl

pub plain_decimal : (n : ℕ) → n < 2 ^ 64 → is_plain (decimal n) ≡ true
plain_decimal n small = plain_digits (decimal n) (digits_decimal (numerals_by_value (λ ds. all_ascii_digits ds ≡ true) tells_all_ascii_digits) n small)

pub plain_name : (plan : SeenPlan) (s : ℕ) → IsPlan plan → s < site_count plan → is_plain (name_of plan s) ≡ true
plain_name plan s is within = (and_parts (nat_le 1 (length (name_of plan s)) && nat_le (length (name_of plan s)) 32) (is_plain (name_of plan s)) (is.named s within)).1
