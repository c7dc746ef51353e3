use Rattle.std.proofs.Common.{vec_items}
use Rattle.dine_threads.specs.private.SiteStarts.{IsEndOf, given_to}
use Rattle.dine_threads.proofs.shared.lists.Zips.{AllZip-mapped}
use Rattle.dine_threads.proofs.starts.join_all.Goals as goal

pub returns : goal.returns
returns g c = record {
  len = c.join_each.ensures.len;
  left = AllZip-mapped given_to (IsEndOf g.L.Lane g.D.Diner) (vec_items c.args.children) (vec_items c.join_each.new.ends) c.join_each.ensures.kept;
}
