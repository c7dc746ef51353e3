-- What was taken before and what the last read gave is what the reader lost.
use Rattle.std.proofs.Common.{[], ◌++◌, Err, ap, arith, drop, length-append, length-take, refl, sym, take}
use Rattle.std.proofs.lemmas.List.{take-append-le}
use Rattle.std.proofs.KnownBytes.{Consumes-all, Consumes-kept, Consumes-trans}
use Rattle.dine_words.proofs.InputLemmas.{Consumes-no_more, TakesAtMost-next, longer_before}
use Rattle.dine_words.proofs.input.read_input.Goals as goal
use Rattle.dine_words.proofs.input.read_input.Goals.{in-Ok+in_ok-add_within_limit-in-Ok, in-Err+else-ne}

pub returns-in-Ok-eq0 : goal.returns-in-Ok-eq0
returns-in-Ok-eq0 g c =
    let old = g.R.Read.remaining c.args.input.now in
    let new = g.R.Read.remaining c.read.new.self in
    let taken = c.loop.taken.items in
    let all = Consumes-no_more old _ new taken _ _ c.loop.invariant.consumed c.in-Ok-eq0.ensures.bytes.0 c.in-Ok-eq0.field-0-test in
    let ended = c.in-Ok-eq0.ensures.bytes.1 c.in-Ok-eq0.field-0-test (omega (arith, c.read.auto.buf, length-take c.min-room.result c.loop.chunk)) in
    record {
      bytes = Consumes-all old new taken [] taken all ended refl;
      end = ended;
      within = c.loop.invariant.within;
      too_long = λ is. cc;
      takes = (taken, all, omega arith);
    }

pub returns-in_err-add_within_limit-in-Ok-clause-too_long : goal.returns-in_err-add_within_limit-in-Ok-clause-too_long
returns-in_err-add_within_limit-in-Ok-clause-too_long g c is =
    let taken = c.loop.taken.items in
    let last = take c.in-Ok.count c.read.new.buf in
    let same = rw is at c.from_residual.ensures.1 in
    let more = c.in_err-add_within_limit-in-Ok.ensures.too_long (ap Err (sym same)) in
    let given = take-append-le c.in-Ok.count c.read.new.buf (drop c.min-room.result c.loop.chunk) c.in-Ok.ensures.bound.0 in
    longer_before _ _ (g.R.Read.remaining c.read.new.self) (taken ++ last) (Consumes-trans _ _ _ _ _ c.loop.invariant.consumed c.in-Ok.ensures.bytes.0)
    (omega (arith, rw given at more, length-append taken last))

pub returns-in_err-add_within_limit-in-Ok-clause-takes : goal.returns-in_err-add_within_limit-in-Ok-clause-takes
returns-in_err-add_within_limit-in-Ok-clause-takes g c =
    let room = c.min-room.result in
    let bound = c.in-Ok.ensures.bound in
    let kept = c.read.auto.buf in
    TakesAtMost-next _ _ (g.R.Read.remaining c.loop.input) _ c.loop.taken.items c.read.new.buf c.in-Ok.count c.loop.invariant.consumed c.in-Ok.ensures.bytes.0
    (omega (arith, length-take room c.loop.chunk, bound, kept, c.loop.taken.ok.0))

pub returns-then-ne : goal.returns-then-ne
returns-then-ne g c = record {
  bytes = tt;
  end = tt;
  within = tt;
  too_long = λ is. cc;
  takes = (c.loop.taken.items, Consumes-kept _ _ _ _ c.loop.invariant.consumed c.in-Err.ensures.bytes, omega arith);
}

pub loop-preserved : goal.loop-preserved
loop-preserved g c =
    let old = g.R.Read.remaining c.args.input.now in
    let new = g.R.Read.remaining c.read.new.self in
    elim c.match-read.branch [
      | in-Ok+in_ok-add_within_limit-in-Ok w ↦
          let added = w.in_ok-add_within_limit-in-Ok.ensures in
          record {
            consumed = rw (w.taken-is, added.bytes, take-append-le w.in-Ok.count c.read.new.buf _ w.in-Ok.ensures.bound.0)
                (Consumes-trans old _ new _ _ c.loop.invariant.consumed w.in-Ok.ensures.bytes.0);
            within = rw w.taken-is added.within;
          }
      | in-Err+else-ne w ↦ record {
        consumed = rw w.taken-is (Consumes-kept old _ new _ c.loop.invariant.consumed w.in-Err.ensures.bytes);
        within = rw w.taken-is c.loop.invariant.within;
      }
    ]

pub returns : goal.returns
returns g c = record {
  bytes = tt;
  end = tt;
  within = tt;
  too_long = λ is. cc;
  takes = (c.loop.taken.items, c.loop.invariant.consumed, omega arith);
}
