use Rattle.std.proofs.Common.{◌≡◌, [], Some, slice_get, subst, vec_items}
use Rattle.dine_tellers.proofs.Transfers.{have_sent}
use Rattle.dine_tellers.proofs.settle.Goals as goal

pub books_of-requires-clause-sent : goal.books_of-requires-clause-sent
books_of-requires-clause-sent g c s out at =
    have_sent (λ teller. []) _ c.args.plan.now (vec_items c.in_ok-tellers.tellers) (vec_items c.in-Ok.gathered.sites) c.in_ok-tellers.ensures c.in-Ok.ensures.ok.sites c.in-Ok.ensures.ok.finished
    s out (subst (λ outs. slice_get outs s ≡ Some out) c.as_slice.ensures.value at)

pub returns-clause-sent : goal.returns-clause-sent
returns-clause-sent g c s out at =
    have_sent (λ teller. []) _ c.args.plan.now (vec_items c.in_ok-tellers.tellers) (vec_items c.in-Ok.gathered.sites) c.in_ok-tellers.ensures c.in-Ok.ensures.ok.sites c.in-Ok.ensures.ok.finished
    s out at
