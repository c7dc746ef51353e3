-- Words that are refused: by `clap`, or for the text of an option.
use Rattle.std.proofs.Common.{◌≡◌, ◌∙◌, ◌&&◌, Bool, true, false, Result, Ok, Err, IsErrAnd, refl, ap}
use Rattle.std.specs.Prelude.{IsErrOf}
use Rattle.clap.specs.declared.error.kind.ErrorKind.{ErrorKind}
use Rattle.clap.specs.declared.error.kind.ErrorKind.TheVariants.{OutOfMemory}
use Rattle.dine_words.specs.Words.{fault_of_kind}
use Rattle.dine_words.specs.declared.words.WordsFault.{WordsFault}
use Rattle.dine_words.specs.declared.words.WordsFault.TheVariants.{Usage, Memory}

-- `clap` does not accept the arguments that are refused as `Usage`
pub usage_is_refused : {T : Type 0} (r : Result T WordsFault) (kind : ErrorKind) (b : Bool) → IsErrAnd r (λ fault. fault ≡ fault_of_kind kind) → (b ≡ true → kind ≡ OutOfMemory)
    → IsErrOf r Usage → b ≡ false
usage_is_refused r kind false reported passes is = refl
usage_is_refused (Ok x) kind true reported passes is = absurd reported
usage_is_refused (Err fault) kind true reported passes is =
    let memory : fault ≡ Memory = reported ∙ ap fault_of_kind (passes refl) in cc

-- a test that is false, before another and behind it
pub false_first : (a b : Bool) → a ≡ false → (a && b) ≡ false
false_first a b is = ap (λ (c : Bool). c && b) is

pub false_behind : (a b : Bool) → b ≡ false → (a && b) ≡ false
false_behind true b is = is
false_behind false b is = refl
