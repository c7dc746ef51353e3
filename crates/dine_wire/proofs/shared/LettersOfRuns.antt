-- Letters of runs: the number of the run at their head, and what is of a run in all that arrives.
use Rattle.std.proofs.Common.{◌≡◌, ◌≢◌, ℕ, ◌<◌, ◌^◌, ◌==◌, ◌&&◌, Bool, true, false, cond, List, [], ◌∷◌, ◌++◌, length, take, refl, sym, ◌∙◌, ap, subst, arith}
use Rattle.std.specs.Int.{from_le_bytes, to_le_bytes, w64}
use Rattle.std.proofs.lemmas.Bool.{eq-eqb, le-leb, ne_eqb}
use Rattle.std.proofs.Math.Dec.{leb}
use Rattle.std.proofs.lemmas.List.{append_cancel_left}
use Rattle.std.proofs.lemmas.Nat.{from_le_bytes-to_le_bytes_8}
use mathlib.Core.List.{IsPrefix}
use Rattle.dine_graph.specs.Plan.{SeenPlan}
use Rattle.dine_rules.specs.declared.letters.Letter.{Letter}
use Rattle.dine_rules.specs.Local.{Traffic}
use Rattle.dine_wire.specs.Carried.{TakesByBytes, bytes_of_each, letter_bytes}
use Rattle.dine_wire.specs.Notes.{bytes_of, report_of}
use Rattle.dine_wire.specs.Runs.{bytes_in_run, is_of_run, of_run, run_of}
use Rattle.dine_wire.specs.declared.note.Note.{Note}

-- letters of one run with the same bytes have notes with the same bytes
pub note_in_run : (run : ℕ) (one other : Note) → bytes_in_run run one ≡ bytes_in_run run other → bytes_of one ≡ bytes_of other
note_in_run run one other same = append_cancel_left (to_le_bytes w64 run) (bytes_of one) (bytes_of other) same

-- the first eight bytes of a letter are the number of its run
pub run_in_front : (run : ℕ) (bytes : List ℕ) → take 8 (to_le_bytes w64 run ++ bytes) ≡ to_le_bytes w64 run
run_in_front run bytes = refl

pub run_of-letter : (run : ℕ) (bytes : List ℕ) → run < 2 ^ 64 → run_of (to_le_bytes w64 run ++ bytes) ≡ run
run_of-letter run bytes small = ap (from_le_bytes w64) (run_in_front run bytes) ∙ from_le_bytes-to_le_bytes_8 run small

-- a letter has eight bytes
long : (run : ℕ) (bytes : List ℕ) → leb 8 (length (to_le_bytes w64 run ++ bytes)) ≡ true
long run bytes = le-leb 8 (length (to_le_bytes w64 run ++ bytes)) (omega arith)

-- bytes with this number in front are of the run, or are not
with_number : (run other : ℕ) (bytes : List ℕ) (b : Bool) → (run_of (to_le_bytes w64 other ++ bytes) == run) ≡ b → is_of_run run (to_le_bytes w64 other ++ bytes) ≡ b
with_number run other bytes b is = ap (λ (x : Bool). x && (run_of (to_le_bytes w64 other ++ bytes) == run)) (long other bytes) ∙ is

pub is_of_own : (run : ℕ) (note : Note) → run < 2 ^ 64 → is_of_run run (bytes_in_run run note) ≡ true
is_of_own run note small = with_number run run (bytes_of note) true (eq-eqb _ run (run_of-letter run (bytes_of note) small))

pub is_own : (run edge : ℕ) (l : Letter) → run < 2 ^ 64 → is_of_run run (letter_bytes run edge l) ≡ true
is_own run edge l small = is_of_own run (record { edge = edge; report = report_of l }) small

pub is_of_other : (run other edge : ℕ) (l : Letter) → other < 2 ^ 64 → run ≢ other → is_of_run run (letter_bytes other edge l) ≡ false
is_of_other run other edge l small differ =
    let bytes : List ℕ = bytes_of (record { edge = edge; report = report_of l }) in
    with_number run other bytes false (ne_eqb _ run (λ same. differ (sym same ∙ run_of-letter other bytes small)))

-- ---- what is of a run, letter by letter

-- one of a list is left out or not
first_of : (first bytes : List ℕ) (whole front : List (List ℕ)) (b : Bool) → whole ≡ front ++ bytes ∷ [] → cond b (first ∷ whole) whole ≡ cond b (first ∷ front) front ++ bytes ∷ []
first_of first bytes whole front true is = ap (λ (l : List (List ℕ)). first ∷ l) is
first_of first bytes whole front false is = is

pub of_run-own : (run : ℕ) (arrived : List (List ℕ)) (bytes : List ℕ) → is_of_run run bytes ≡ true → of_run run (arrived ++ bytes ∷ []) ≡ of_run run arrived ++ bytes ∷ []
of_run-own run [] bytes own = ap (λ (b : Bool). cond b (bytes ∷ []) []) own
of_run-own run (first ∷ arrived) bytes own = first_of first bytes (of_run run (arrived ++ bytes ∷ [])) (of_run run arrived) (is_of_run run first) (of_run-own run arrived bytes own)

pub of_run-other : (run : ℕ) (arrived : List (List ℕ)) (bytes : List ℕ) → is_of_run run bytes ≡ false → of_run run (arrived ++ bytes ∷ []) ≡ of_run run arrived
of_run-other run [] bytes other = ap (λ (b : Bool). cond b (bytes ∷ []) []) other
of_run-other run (first ∷ arrived) bytes other = ap (λ (l : List (List ℕ)). cond (is_of_run run first) (first ∷ l) l) (of_run-other run arrived bytes other)

-- what an end took is the first that the other end put
pub first_put : (plan : SeenPlan) (run s edge : ℕ) (here there : Traffic) → TakesByBytes plan run s edge here there → IsPrefix (bytes_of_each run edge here.taken) (bytes_of_each run edge there.put)
first_put plan run s edge here there takes = subst (λ (l : List (List ℕ)). IsPrefix l (bytes_of_each run edge there.put)) (sym takes.takes) takes.comes
