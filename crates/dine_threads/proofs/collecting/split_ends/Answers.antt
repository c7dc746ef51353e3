use Rattle.std.proofs.Common.{◌≡◌, suc, ◌<◌, ◌++◌, All, Option, Some, List, [], length, map, slice_get, ap, sym, subst, ◌∙◌, arith, vec_items}
use Rattle.std.specs.Global.{Vec}
use Rattle.std.specs.Vec.Iter.{into_iter_items}
use Rattle.std.proofs.lemmas.List.{nil_from_length}
use Rattle.dine_token.specs.Fork.{SeenFork}
use Rattle.dine_graph.specs.Plan.{edge_count}
use Rattle.dine_site_thread.specs.declared.port.Port.{Port}
use Rattle.dine_site_thread.specs.declared.site_end.SiteEnd.{SiteEnd}
use Rattle.dine_threads.specs.private.Collecting.{AreForksOf, forks_left, in_slots, out_of}
use Rattle.dine_threads.proofs.shared.lists.Zips.{mapped_split}
use Rattle.dine_threads.proofs.shared.all_sites.Collected.{all_parts, in_slots-append, length-in_slots, moved_as, none_left}
use Rattle.dine_threads.proofs.collecting.split_ends.Goals as goal

pub loop-end-init : goal.loop-end-init
loop-end-init g c =
    let ends : into_iter_items c.into_iter-end-iterator.result ≡ vec_items c.args.ends = c.into_iter-end-iterator.ensures.into_iter_gives.0 in
    let empty : into_iter_items c.into_iter-empty.result ≡ vec_items c.args.empty = c.into_iter-empty.ensures.rest in
    let no_site : vec_items c.args.sites.now ≡ [] = nil_from_length (vec_items c.args.sites.now) (omega (arith, c.requires.no_site, c.args.sites.now.ok.0)) in
    let no_row : vec_items c.args.rows.now ≡ [] = nil_from_length (vec_items c.args.rows.now) (omega (arith, c.requires.no_row, c.args.rows.now.ok.0)) in
    let left : SiteEnd _ _ _ _ _ → List (Option (Port _ _ _ _)) = λ end. map Some end.ports.items in
    record {
      empties = omega (arith, c.into_iter-empty.ensures.len, c.into_iter-end-iterator.ensures.into_iter_gives.1, c.requires.empty_rows, c.requires.whole.count, c.args.ends.ok.0);
      fits = λ k end row at_end at_row.
          let ports = c.requires.whole.ports k end (sym (ap (λ xs. slice_get xs k) ends) ∙ at_end) in
          let room = c.requires.empty_room k row (sym (ap (λ xs. slice_get xs k) empty) ∙ at_row) in
          omega (arith, ports, room);
      no_thing = λ k row at_row. c.requires.no_thing k row (sym (ap (λ xs. slice_get xs k) empty) ∙ at_row);
      site_room = omega (arith, c.into_iter-end-iterator.ensures.into_iter_gives.1, c.requires.site_room, c.requires.no_site, c.requires.whole.count, c.args.ends.ok.0);
      row_room = omega (arith, c.into_iter-end-iterator.ensures.into_iter_gives.1, c.requires.row_room, c.requires.no_row, c.requires.whole.count, c.args.ends.ok.0);
      count = c.requires.slots;
      forks = subst (AreForksOf c.args.plan.now) (sym (ap forks_left ends)) c.requires.whole.forks;
      sites = ap (λ l. l ++ map out_of (into_iter_items c.into_iter-end-iterator.result)) no_site ∙ ap (map out_of) ends;
      rows = ap (λ l. map (λ (row : Vec (Option (Port _ _ _ _))). row.items) l ++ map left (into_iter_items c.into_iter-end-iterator.result)) no_row ∙ ap (map left) ends;
      slots = ap (λ l. in_slots (forks_left l) (vec_items c.args.slots.now)) ends;
    }

pub split_end-requires-clause-room : goal.split_end-requires-clause-room
split_end-requires-clause-room g c κs ls =
    let next = rw c.unwrap-row.ensures at c.next-in-loop-end.ensures.cases in
    let fits = c.loop-end.invariant.fits 0 c.in-Some.end c.unwrap-row.result (ap (λ xs. slice_get xs 0) c.in-Some.ensures.steps.0) (ap (λ xs. slice_get xs 0) next.0) in
    omega (arith, fits, c.in-Some.end.ports.ok.0)

pub split_end-requires-clause-none : goal.split_end-requires-clause-none
split_end-requires-clause-none g c κs ls =
    let next = rw c.unwrap-row.ensures at c.next-in-loop-end.ensures.cases in
    c.loop-end.invariant.no_thing 0 c.unwrap-row.result (ap (λ xs. slice_get xs 0) next.0)

pub split_end-requires-clause-forks : goal.split_end-requires-clause-forks
split_end-requires-clause-forks g c κs ls =
    let was = c.loop-end.invariant in
    let forks = subst (AreForksOf c.args.plan.now) (ap forks_left c.in-Some.ensures.steps.0) was.forks in
    let here = (all_parts (λ (fork : SeenFork). fork.edge < edge_count c.args.plan.now) c.in-Some.end.forks.items (forks_left (into_iter_items c.next.new.self)) forks).0 in
    subst (λ n. All (λ (fork : SeenFork). fork.edge < n) c.in-Some.end.forks.items) (sym was.count) here

pub loop-end-preserved : goal.loop-end-preserved
loop-end-preserved g c =
    let was = c.loop-end.invariant in
    let steps = c.in-Some.ensures.steps in
    let end = c.in-Some.end in
    let next = rw c.unwrap-row.ensures at c.next-in-loop-end.ensures.cases in
    let rest = into_iter_items c.next.new.self in
    let left : SiteEnd _ _ _ _ _ → List (Option (Port _ _ _ _)) = λ end. map Some end.ports.items in
    let forks = subst (AreForksOf c.args.plan.now) (ap forks_left steps.0) was.forks in
    let old = vec_items c.loop-end.slots in
    record {
      empties = omega (arith, next.1, was.empties, steps.1);
      fits = λ k other row at_end at_row. was.fits (suc k) other row (ap (λ xs. slice_get xs (suc k)) steps.0 ∙ at_end) (ap (λ xs. slice_get xs (suc k)) next.0 ∙ at_row);
      no_thing = λ k row at_row. was.no_thing (suc k) row (ap (λ xs. slice_get xs (suc k)) next.0 ∙ at_row);
      site_room = omega (arith, was.site_room, steps.1, c.push_reserved.ensures.len, c.push_reserved.ensures.capacity);
      row_room = omega (arith, was.row_room, steps.1, c.push_reserved-in-loop-end.ensures.len, c.push_reserved-in-loop-end.ensures.capacity);
      count = omega (arith, was.count, ap length c.split_end.ensures.slots, length-in_slots end.forks.items old, c.split_end.new.slots.ok.0, c.loop-end.slots.ok.0);
      forks = (all_parts (λ (fork : SeenFork). fork.edge < edge_count c.args.plan.now) end.forks.items (forks_left rest) forks).1;
      sites = moved_as (vec_items c.loop-end.sites) (vec_items c.push_reserved.new.self) c.split_end.result (out_of end) (map out_of (into_iter_items c.loop-end.end-iterator)) (map out_of rest) (map out_of (vec_items c.args.ends)) c.push_reserved.ensures.items c.split_end.ensures.out (ap (map out_of) steps.0) was.sites;
      rows =
          mapped_split (λ (row : Vec (Option (Port _ _ _ _))). row.items) (vec_items c.loop-end.rows) (vec_items c.push_reserved-in-loop-end.new.self) c.split_end.new.row (left end) (map left (into_iter_items c.loop-end.end-iterator)) (map left rest) (map left (vec_items c.args.ends)) c.push_reserved-in-loop-end.ensures.items (ap (map left) steps.0) c.split_end.ensures.row was.rows;
      slots =
          ap (in_slots (forks_left rest)) c.split_end.ensures.slots
          ∙ sym (in_slots-append end.forks.items (forks_left rest) old)
          ∙ sym (ap (λ l. in_slots (forks_left l) old) steps.0)
          ∙ was.slots;
    }

pub returns : goal.returns
returns g c =
    let was = c.loop-end.invariant in
    let rest = c.loop-end.end-iterator in
    let none : into_iter_items rest ≡ [] = nil_from_length (into_iter_items rest) (omega (arith, c.in-None.ensures.steps.0, rest.rest.ok.0)) in
    let left : SiteEnd _ _ _ _ _ → List (Option (Port _ _ _ _)) = λ end. map Some end.ports.items in
    record {
      sites = none_left (vec_items c.loop-end.sites) (map out_of (into_iter_items rest)) (map out_of (vec_items c.args.ends)) (ap (map out_of) none) was.sites;
      rows = none_left (map (λ (row : Vec (Option (Port _ _ _ _))). row.items) (vec_items c.loop-end.rows)) (map left (into_iter_items rest)) (map left (vec_items c.args.ends)) (ap (map left) none) was.rows;
      slots = sym (ap (λ l. in_slots (forks_left l) (vec_items c.loop-end.slots)) none) ∙ was.slots;
    }
