use Rattle.std.proofs.Common.{rules, Err, vec_len, ◌≡◌, ℕ, suc, ◌+◌, ◌≤◌, ◌++◌, Some, [], ◌∷◌, length, map, slice_get, ap, sym, subst, refl, ◌∙◌, inl, inr, arith, vec_items}
use Rattle.std.specs.Vec.Iter.{into_iter_items}
use Rattle.std.proofs.lemmas.List.{nil_from_length, length-map}
use Rattle.std.proofs.lemmas.Option.{slice_get_within}
use Rattle.std.proofs.Math.Nat.{zero-add}
use Rattle.std.specs.Global.{Vec}
use Rattle.dine_link.specs.Bells.{SeenBell}
use Rattle.dine_site_thread.specs.declared.port.Port.{Port}
use Rattle.dine_graph.specs.Plan.{edges_of, job_count, site_count}
use Rattle.dine_rules.specs.Local.{no_traffic}
use Rattle.dine_site.specs.Standing.{IsFreshFor}
use Rattle.dine_threads.specs.declared.opening.SitePorts.{SitePorts}
use Rattle.dine_threads.specs.declared.starts.SiteStart.{SiteStart}
use Rattle.dine_threads.specs.private.Openings.{HasPorts}
use Rattle.dine_threads.specs.private.SiteStarts.{IsReady}
use Rattle.dine_threads.proofs.all_sites.Edges.{slice_get-push}
use Rattle.dine_threads.proofs.shared.lists.Zips.{all_more, mapped_all, mapped_split}
use Rattle.dine_threads.proofs.starts.prepare_all.Goals as goal

-- a start by its parts
same_start : {Lane D Tx Closed Rx : Type 0} (start : SiteStart Lane D Tx Closed Rx) (ports : Vec (Port Lane Tx Closed Rx)) (bell : SeenBell) (diner : D) → start.ports ≡ ports → start.bell ≡ bell → start.diner ≡ diner
    → start ≡ record { manner = start.manner; packed = start.packed; ports = ports; bell = bell; diner = diner; alloc = start.alloc; gate = start.gate }
same_start {Lane} {D} {Tx} {Closed} {Rx} start ports bell diner is_ports is_bell is_diner =
    let make : Vec (Port Lane Tx Closed Rx) → SeenBell → D → SiteStart Lane D Tx Closed Rx = λ x y z. record { manner = start.manner; packed = start.packed; ports = x; bell = y; diner = z; alloc = start.alloc; gate = start.gate } in
    ap (λ x. make x start.bell start.diner) is_ports ∙ ap (λ y. make ports y start.diner) is_bell ∙ ap (make ports bell) is_diner

pub loop-site_ports-init : goal.loop-site_ports-init
loop-site_ports-init g c =
    let plan = c.args.plan.now in
    let gives : into_iter_items c.into_iter-site_ports-iterator.result ≡ vec_items c.args.all_ports = c.into_iter-site_ports-iterator.ensures.into_iter_gives.0 in
    let rest : into_iter_items c.into_iter-waiting.result ≡ vec_items c.args.diners = c.into_iter-waiting.ensures.rest in
    let none : vec_items c.args.starts.now ≡ [] = nil_from_length (vec_items c.args.starts.now) (omega (arith, c.requires.none, c.args.starts.now.ok.0)) in
    record {
      count = search rules;
      waiting = search rules;
      len = search rules;
      room = search rules;
      all_ports = λ k site_ports at.
          subst (λ n. HasPorts g.L.Lane plan n site_ports) (sym (zero-add k)) (c.requires.each k site_ports (subst (λ xs. slice_get xs k ≡ Some site_ports) gives at));
      rooms = λ k diner at.
          subst (λ n. job_count plan n ≤ g.D.Diner.room_left diner) (sym (zero-add k)) (c.requires.rooms k diner (subst (λ xs. slice_get xs k ≡ Some diner) rest at));
      expected = λ k diner at.
          subst (λ n. g.D.Diner.expects diner plan n) (sym (zero-add k)) (c.requires.expected k diner (subst (λ xs. slice_get xs k ≡ Some diner) rest at));
      ready = λ k d within. absurd (omega (arith, within, ap length none));
      fresh = λ s start at. absurd (omega (arith, slice_get_within (vec_items c.args.starts.now) s start at, ap length none));
      diners = ap (λ l. map (λ (start : SiteStart _ _ _ _ _). start.diner) l ++ into_iter_items c.into_iter-waiting.result) none ∙ rest;
      bells =
          ap (λ l. map (λ (start : SiteStart _ _ _ _ _). start.bell) l ++ map (λ (site_ports : SitePorts _ _ _ _). site_ports.bell) (into_iter_items c.into_iter-site_ports-iterator.result)) none
          ∙ ap (map (λ (site_ports : SitePorts _ _ _ _). site_ports.bell)) gives;
      ports =
          ap (λ l. map (λ (start : SiteStart _ _ _ _ _). start.ports) l ++ map (λ (site_ports : SitePorts _ _ _ _). site_ports.ports) (into_iter_items c.into_iter-site_ports-iterator.result)) none
          ∙ ap (map (λ (site_ports : SitePorts _ _ _ _). site_ports.ports)) gives;
    }

pub loop-site_ports-preserved : goal.loop-site_ports-preserved
loop-site_ports-preserved g c =
    let was = c.loop-site_ports.invariant in
    let plan = c.args.plan.now in
    let n = c.loop-site_ports.number in
    let lane = g.L.Lane in
    let old = vec_items c.loop-site_ports.starts in
    let new = vec_items c.push_reserved.new.self in
    let site_ports = c.in-Some.site_ports in
    let diner = c.unwrap-diner.result in
    let made = c.in_ok-start.start in
    let is = c.in_ok-start.ensures in
    let packed = made.packed in
    let start : SiteStart _ _ _ _ _ = record { manner = made.manner; packed = packed; ports = site_ports.ports; bell = site_ports.bell; diner = diner; alloc = made.alloc; gate = made.gate } in
    let grown = c.push_reserved.ensures.items ∙ ap (λ (s : SiteStart _ _ _ _ _). old ++ s ∷ []) (same_start made site_ports.ports site_ports.bell diner is.ports is.bell is.diner) in
    let next = rw c.unwrap-diner.ensures at c.next-in-loop-site_ports.ensures.cases in
    let still : n + 0 ≡ n = omega arith in
    let here : HasPorts lane plan n site_ports = subst (λ m. HasPorts lane plan m site_ports) still (was.all_ports 0 site_ports (ap (λ xs. slice_get xs 0) c.in-Some.ensures.steps.0)) in
    let room : job_count plan n ≤ g.D.Diner.room_left diner = subst (λ m. job_count plan m ≤ g.D.Diner.room_left diner) still (was.rooms 0 diner (ap (λ xs. slice_get xs 0) next.0)) in
    let expected : g.D.Diner.expects diner plan n = subst (λ m. g.D.Diner.expects diner plan m) still (was.expected 0 diner (ap (λ xs. slice_get xs 0) next.0)) in
    let fresh_for = is.fresh in
    let sited : packed.site ≡ n = is.site in
    let places : length packed.places ≡ length (edges_of plan n) = fresh_for.stands.degree ∙ length-map (edges_of plan packed.site) (λ edge. no_traffic) ∙ ap (λ s. length (edges_of plan s)) sited in
    let due : packed.due ≡ job_count plan n = fresh_for.stands.due ∙ ap (job_count plan) sited in
    let ready_here : IsReady lane g.D.Diner start = record {
      fresh = (plan, fresh_for, subst (g.D.Diner.expects diner plan) (sym sited) expected);
      ports = here.ports ∙ sym places;
      unused = here.unused;
      unrefused = here.unrefused;
      unchecked = here.unchecked;
      room_left = omega (arith, due, room);
    } in
    let shift : (k : ℕ) → n + suc k ≡ n + 1 + k = λ k. omega arith in
    record {
      count = omega (arith, was.count, c.in-Some.ensures.steps.1);
      waiting = omega (arith, next.1, was.waiting, c.in-Some.ensures.steps.1);
      len = omega (arith, was.len, c.push_reserved.ensures.len);
      room = omega (arith, was.room, c.push_reserved.ensures.capacity);
      all_ports = λ k s at. subst (λ m. HasPorts lane plan m s) (shift k) (was.all_ports (suc k) s (ap (λ xs. slice_get xs (suc k)) c.in-Some.ensures.steps.0 ∙ at));
      rooms = λ k d at. subst (λ m. job_count plan m ≤ g.D.Diner.room_left d) (shift k) (was.rooms (suc k) d (ap (λ xs. slice_get xs (suc k)) next.0 ∙ at));
      expected = λ k d at. subst (λ m. g.D.Diner.expects d plan m) (shift k) (was.expected (suc k) d (ap (λ xs. slice_get xs (suc k)) next.0 ∙ at));
      ready = all_more (IsReady lane g.D.Diner) old new start grown was.ready ready_here;
      fresh = λ s x at.
          elim (slice_get-push old start x s (subst (λ xs. slice_get xs s ≡ Some x) grown at)) [
            | inl earlier ↦ was.fresh s x earlier
            | inr last ↦ (let number : n ≡ s = omega (arith, last.0, was.len, c.loop-site_ports.starts.ok.0) in subst (λ (y : SiteStart _ _ _ _ _). IsFreshFor plan y.packed × (y.packed.site ≡ s) × (y.manner ≡ c.args.manner)) last.1 (fresh_for, sited ∙ number, is.manner))
          ];
      diners = mapped_split (λ (s : SiteStart _ _ _ _ _). s.diner) old new start diner (into_iter_items c.loop-site_ports.waiting) (into_iter_items c.next-in-loop-site_ports.new.self) (vec_items c.args.diners) grown next.0 refl was.diners;
      bells =
          mapped_split (λ (s : SiteStart _ _ _ _ _). s.bell) old new start site_ports.bell (map (λ (site_ports : SitePorts _ _ _ _). site_ports.bell) (into_iter_items c.loop-site_ports.site_ports-iterator)) (map (λ (site_ports : SitePorts _ _ _ _). site_ports.bell) (into_iter_items c.next.new.self)) (map (λ (site_ports : SitePorts _ _ _ _). site_ports.bell) (vec_items c.args.all_ports)) grown
          (ap (map (λ (site_ports : SitePorts _ _ _ _). site_ports.bell)) c.in-Some.ensures.steps.0) refl was.bells;
      ports =
          mapped_split (λ (s : SiteStart _ _ _ _ _). s.ports) old new start site_ports.ports (map (λ (site_ports : SitePorts _ _ _ _). site_ports.ports) (into_iter_items c.loop-site_ports.site_ports-iterator)) (map (λ (site_ports : SitePorts _ _ _ _). site_ports.ports) (into_iter_items c.next.new.self)) (map (λ (site_ports : SitePorts _ _ _ _). site_ports.ports) (vec_items c.args.all_ports)) grown
          (ap (map (λ (site_ports : SitePorts _ _ _ _). site_ports.ports)) c.in-Some.ensures.steps.0) refl was.ports;
    }

pub prepare-requires-after_bounds : goal.prepare-requires-after_bounds
prepare-requires-after_bounds g c = λ κs bounds. omega (arith, c.loop-site_ports.invariant.count, c.in-Some.ensures.steps.1)

pub push_reserved-requires : goal.push_reserved-requires
push_reserved-requires g c = omega (arith, c.loop-site_ports.invariant.len, c.loop-site_ports.invariant.count, c.loop-site_ports.invariant.room, c.in-Some.ensures.steps.1)

pub returns-in_err-start : goal.returns-in_err-start
returns-in_err-start g c =
    let is : c.from_residual.result ≡ Err c.in_err-start.field-0.0 = search rules in
    rw is (record { len = tt; ready = tt; fresh = tt; diners = tt; ports = tt; bells = tt })

pub returns : goal.returns
returns g c =
    let was = c.loop-site_ports.invariant in
    let starts = vec_items c.loop-site_ports.starts in
    let all_ports = vec_items c.args.all_ports in
    let all_ports_left = into_iter_items c.loop-site_ports.site_ports-iterator in
    let count : vec_len c.loop-site_ports.starts ≡ site_count c.args.plan.now = omega (arith, was.len, was.count, c.in-None.ensures.steps.0) in
    record {
      len = count;
      ready = was.ready;
      fresh = was.fresh;
      diners = mapped_all (λ (start : SiteStart _ _ _ _ _). start.diner) starts (into_iter_items c.loop-site_ports.waiting) (vec_items c.args.diners) was.diners (omega (arith, count, c.requires.diners, c.args.diners.ok.0, c.loop-site_ports.starts.ok.0));
      ports = mapped_all (λ (start : SiteStart _ _ _ _ _). start.ports) starts (map (λ (site_ports : SitePorts _ _ _ _). site_ports.ports) all_ports_left) (map (λ (site_ports : SitePorts _ _ _ _). site_ports.ports) all_ports) was.ports
          (omega (arith, count, c.requires.all_ports, c.args.all_ports.ok.0, c.loop-site_ports.starts.ok.0, length-map all_ports (λ (site_ports : SitePorts _ _ _ _). site_ports.ports)));
      bells = mapped_all (λ (start : SiteStart _ _ _ _ _). start.bell) starts (map (λ (site_ports : SitePorts _ _ _ _). site_ports.bell) all_ports_left) (map (λ (site_ports : SitePorts _ _ _ _). site_ports.bell) all_ports) was.bells
          (omega (arith, count, c.requires.all_ports, c.args.all_ports.ok.0, c.loop-site_ports.starts.ok.0, length-map all_ports (λ (site_ports : SitePorts _ _ _ _). site_ports.bell)));
    }
