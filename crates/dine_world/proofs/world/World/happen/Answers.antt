use Rattle.std.proofs.Common.{◌≡◌, ◌++◌, ◌<◌, ℕ, true, Bool, IfSome, Option, refl, List, drop, length, slice_set, take, sym, ◌∙◌, ap, subst, arith}
use Rattle.std.proofs.lemmas.Grind.{common_steps}
use Rattle.std.proofs.lemmas.List.{length-set}
use Rattle.dine_rules.specs.declared.letters.Letter.{Letter}
use Rattle.dine_rules.specs.Steps.{shape_of}
use Rattle.dine_site.specs.NextEvent.{has_place}
use Rattle.dine_world.specs.WorldSites.{can_do}
use Rattle.dine_world.specs.private.StepsOfSites.{SiteSteps, HasRoomFor, TakesAllowed}
use Rattle.dine_world.specs.private.WorldFields.{seen_world}
use Rattle.dine_world.specs.Worlds.{WorldStep, IsWorldOf, SeenWorld, can_happen}
use Rattle.dine_world.specs.private.EnabledSites.{HasAllEnabled, with_site}
use Rattle.dine_world.specs.private.Counts.{HasCounts}
use Rattle.dine_world.specs.private.Inboxes.{HasInboxes, LeadsToSet, changed_link, inboxes_after}
use Rattle.dine_world.specs.declared.world.EdgeEnds.{EdgeEnds}
use Rattle.dine_world.specs.declared.world.sites.WorldSite.{WorldSite}
use Rattle.dine_world.proofs.enabled_events.Inboxes.{event_changes, heard_after, leads}
use Rattle.dine_world.proofs.enabled_events.EnabledSites.{may_be_enabled_after, counts_after, has_its_place, receiver_fits, receiver_within}
use Rattle.dine_world.proofs.all_sites.WorldStepped.{site_can, site_done, site_fits, site_allowed, site_moved, site_room, site_within}
use Rattle.dine_world.proofs.world.World.happen.Goals as goal

pub index_mut-world_site-requires : goal.index_mut-world_site-requires
index_mut-world_site-requires c =
    let can : can_happen (seen_world c.self.inside) c.args.event ≡ true = ap (λ (w : SeenWorld). can_happen w c.args.event) c.self.view_is ∙ c.requires in
    omega (arith, site_within (seen_world c.self.inside) c.args.event can, c.self.inside.sites.ok.0)

pub act-requires-clause-can : goal.act-requires-clause-can
act-requires-clause-can c =
    let seen = seen_world c.self.inside in
    let can : can_happen seen c.args.event ≡ true = ap (λ (w : SeenWorld). can_happen w c.args.event) c.self.view_is ∙ c.requires in
    let world_site = c.index_mut-world_site.result.now in
    subst (λ (links : List (List Letter)). can_do links world_site.core c.args.event.kind ≡ true) (sym c.as_mut_slice.ensures.value) (site_can seen c.args.event can world_site c.index_mut-world_site.ensures.value)

pub receiver-receiver-requires : goal.receiver-receiver-requires
receiver-receiver-requires c =
    let seen = seen_world c.self.inside in
    let can : can_happen seen c.args.event ≡ true = ap (λ (w : SeenWorld). can_happen w c.args.event) c.self.view_is ∙ c.requires in
    let kept = c.self.invariant in
    receiver_fits seen c.args.event can kept.plan kept.state kept.stands c.index_mut-world_site.result.now c.index_mut-world_site.ensures.value

pub with_site-self-inside-requires : goal.with_site-self-inside-requires
with_site-self-inside-requires c =
    let seen = seen_world c.self.inside in
    let can : can_happen seen c.args.event ≡ true = ap (λ (w : SeenWorld). can_happen w c.args.event) c.self.view_is ∙ c.requires in
    let kept = c.self.invariant in
    let here = c.index_mut-world_site.result.now in
    subst (λ (s : Option ℕ). IfSome s (λ s. s < 64)) (sym c.receiver-receiver.ensures)
    (receiver_within here.core (shape_of c.args.event.kind) (receiver_fits seen c.args.event can kept.plan kept.state kept.stands here c.index_mut-world_site.ensures.value))

pub with_site-self-inside-requires-2 : goal.with_site-self-inside-requires-2
with_site-self-inside-requires-2 c =
    let seen = seen_world c.self.inside in
    let can : can_happen seen c.args.event ≡ true = ap (λ (w : SeenWorld). can_happen w c.args.event) c.self.view_is ∙ c.requires in
    let kept = c.self.invariant in
    let here = c.index_mut-world_site.result.now in
    subst (λ (s : Option ℕ). IfSome s (λ s. s < 64)) (sym c.receiver-receiver.ensures)
    (receiver_within here.core (shape_of c.args.event.kind) (receiver_fits seen c.args.event can kept.plan kept.state kept.stands here c.index_mut-world_site.ensures.value))

pub insert-requires : goal.insert-requires
insert-requires c =
    let seen = seen_world c.self.inside in
    let can : can_happen seen c.args.event ≡ true = ap (λ (w : SeenWorld). can_happen w c.args.event) c.self.view_is ∙ c.requires in
    let kept = c.self.invariant in
    omega (arith, site_within seen c.args.event can, kept.stands.sites.count, kept.stands.reached.is_plan.few_sites)

pub changed_link-link-requires : goal.changed_link-link-requires
changed_link-link-requires c =
    let seen = seen_world c.self.inside in
    let can : can_happen seen c.args.event ≡ true = ap (λ (w : SeenWorld). can_happen w c.args.event) c.self.view_is ∙ c.requires in
    let kept = c.self.invariant in
    let here = c.index_mut-world_site.ensures.value in
    subst (λ (x : WorldSite). has_place x.core (shape_of c.args.event.kind) ≡ true) (sym here) (has_its_place seen c.args.event can kept.plan kept.state kept.stands c.index_mut-world_site.result.now here)

pub note-requires : goal.note-requires
note-requires c =
    let seen = seen_world c.self.inside in
    let can : can_happen seen c.args.event ≡ true = ap (λ (w : SeenWorld). can_happen w c.args.event) c.self.view_is ∙ c.requires in
    let kept = c.self.invariant in
    let world_site = c.index_mut-world_site.result.now in
    let here = c.index_mut-world_site.ensures.value in
    let changed = c.act.new.world_site in
    let does = subst (λ (links : List (List Letter)). SiteSteps c.args.event.kind world_site changed links c.act.new.links) c.as_mut_slice.ensures.value c.act.ensures.does in
    let moved = site_moved seen c.args.event can kept.plan kept.state kept.stands world_site here changed c.act.new.links does in
    let next = site_done seen c.args.event can kept.plan kept.state kept.stands world_site here changed c.act.new.links does in
    let change = event_changes seen c.args.event can kept.plan kept.state kept.stands world_site here moved.0 c.act.new.links moved.1 in
    let after : SeenWorld = record { sites = slice_set c.self.inside.sites.items c.args.event.site changed; links = c.act.new.links; edges = c.self.inside.edges.items; bound = c.self.inside.bound } in
    let fits = leads kept.plan kept.state next.after seen after kept.stands next.stands refl c.self.inside.nonempty_inboxes.items kept.nonempty_inboxes (changed_link world_site.core (shape_of c.args.event.kind)) change in
    subst (λ (edges : List EdgeEnds). LeadsToSet edges c.as_mut_slice-2.result.now c.changed_link-link.result) (sym c.as_slice-2.ensures.value)
    (subst (λ (nonempty_inboxes : List (List Bool)). LeadsToSet seen.edges nonempty_inboxes c.changed_link-link.result) (sym c.as_mut_slice-2.ensures.value)
    (subst (LeadsToSet seen.edges c.self.inside.nonempty_inboxes.items) (sym c.changed_link-link.ensures) fits))

pub act-requires-clause-meal : goal.act-requires-clause-meal
act-requires-clause-meal c =
    let seen = seen_world c.self.inside in
    let can : can_happen seen c.args.event ≡ true = ap (λ (w : SeenWorld). can_happen w c.args.event) c.self.view_is ∙ c.requires in
    let kept = c.self.invariant in
    site_fits seen c.args.event can kept.plan kept.state kept.stands c.index_mut-world_site.result.now c.index_mut-world_site.ensures.value

pub act-requires-clause-allowed : goal.act-requires-clause-allowed
act-requires-clause-allowed c =
    let seen = seen_world c.self.inside in
    let can : can_happen seen c.args.event ≡ true = ap (λ (w : SeenWorld). can_happen w c.args.event) c.self.view_is ∙ c.requires in
    let kept = c.self.invariant in
    let world_site = c.index_mut-world_site.result.now in
    subst (λ (links : List (List Letter)). TakesAllowed links world_site.core (shape_of c.args.event.kind)) (sym c.as_mut_slice.ensures.value)
    (site_allowed seen c.args.event can kept.plan kept.state kept.stands world_site c.index_mut-world_site.ensures.value)

pub act-requires-clause-room : goal.act-requires-clause-room
act-requires-clause-room c =
    let seen = seen_world c.self.inside in
    let can : can_happen seen c.args.event ≡ true = ap (λ (w : SeenWorld). can_happen w c.args.event) c.self.view_is ∙ c.requires in
    let kept = c.self.invariant in
    let world_site = c.index_mut-world_site.result.now in
    subst (λ (links : List (List Letter)). HasRoomFor links world_site.core (shape_of c.args.event.kind)) (sym c.as_mut_slice.ensures.value)
    (site_room seen c.args.event can kept.plan kept.state kept.stands world_site c.index_mut-world_site.ensures.value)

pub invariant_of-self : goal.invariant_of-self
invariant_of-self c =
    let seen = seen_world c.self.inside in
    let can : can_happen seen c.args.event ≡ true = ap (λ (w : SeenWorld). can_happen w c.args.event) c.self.view_is ∙ c.requires in
    let kept = c.self.invariant in
    let world_site = c.index_mut-world_site.result.now in
    let here = c.index_mut-world_site.ensures.value in
    let changed = c.act.new.world_site in
    let does = subst (λ (links : List (List Letter)). SiteSteps c.args.event.kind world_site changed links c.act.new.links) c.as_mut_slice.ensures.value c.act.ensures.does in
    let moved = site_moved seen c.args.event can kept.plan kept.state kept.stands world_site here changed c.act.new.links does in
    let next = site_done seen c.args.event can kept.plan kept.state kept.stands world_site here changed c.act.new.links does in
    let may_be_enabled = may_be_enabled_after seen c.args.event can kept.plan kept.state kept.stands world_site here moved.0 changed c.act.new.links c.self.inside.may_be_enabled moved.1 kept.may_be_enabled in
    let change = event_changes seen c.args.event can kept.plan kept.state kept.stands world_site here moved.0 c.act.new.links moved.1 in
    let counts = counts_after seen c.args.event can kept.plan kept.state kept.stands world_site here moved.0 changed c.act.new.links c.self.inside.outdated_counts moved.1 c.self.inside.counts.items kept.counts in
    let outdated_counts = c.insert.ensures ∙ ap (λ (set : List Bool). slice_set set c.args.event.site true) (c.with_site-self-inside-2.ensures ∙ ap (λ (s : Option ℕ). with_site s c.self.inside.outdated_counts) c.receiver-receiver.ensures) in
    let whole : take c.self.inside.links.len (c.act.new.links ++ drop (length c.act.new.links) c.self.inside.links.items) ≡ c.act.new.links = grind (arith, common_steps) in
    let new : List (List Letter) → SeenWorld = λ links. record { sites = slice_set c.self.inside.sites.items c.args.event.site changed; links = links; edges = c.self.inside.edges.items; bound = c.self.inside.bound } in
    let shape = shape_of c.args.event.kind in
    let nonempty_inboxes = heard_after kept.plan kept.state next.after seen (new c.act.new.links) kept.stands next.stands refl c.self.inside.nonempty_inboxes.items kept.nonempty_inboxes (changed_link world_site.core shape) change in
    let rows : c.note.new.nonempty_inboxes ≡ inboxes_after c.act.new.links seen.edges (changed_link world_site.core shape) c.self.inside.nonempty_inboxes.items =
    c.note.ensures.noted
    ∙ ap (λ (links : List (List Letter)). inboxes_after links c.as_slice-2.result.now c.changed_link-link.result c.as_mut_slice-2.result.now) (c.as_slice.ensures.value ∙ whole)
    ∙ ap (λ (edges : List EdgeEnds). inboxes_after c.act.new.links edges c.changed_link-link.result c.as_mut_slice-2.result.now) c.as_slice-2.ensures.value
    ∙ ap (λ (link : Option ℕ). inboxes_after c.act.new.links seen.edges link c.as_mut_slice-2.result.now) c.changed_link-link.ensures
    ∙ ap (inboxes_after c.act.new.links seen.edges (changed_link world_site.core shape)) c.as_mut_slice-2.ensures.value in
    let all_rows : take c.self.inside.nonempty_inboxes.len (c.note.new.nonempty_inboxes ++ drop (length c.note.new.nonempty_inboxes) c.self.inside.nonempty_inboxes.items) ≡ c.note.new.nonempty_inboxes = grind (arith, common_steps) in
    record {
      plan = kept.plan;
      state = next.after;
      stands = subst (λ (links : List (List Letter)). IsWorldOf kept.plan next.after (new links)) (sym whole) next.stands;
      no_forks = kept.no_forks;
      room = kept.room;
      no_hands = kept.no_hands;
      room_for_hands = omega (arith, kept.room_for_hands, length-set c.self.inside.sites.items c.args.event.site changed);
      may_be_enabled = subst (λ (links : List (List Letter)). HasAllEnabled (new links) c.with_site-self-inside.result) (sym whole) (subst (HasAllEnabled (new c.act.new.links)) (sym (c.with_site-self-inside.ensures ∙ ap (λ (s : Option ℕ). with_site s c.self.inside.may_be_enabled) c.receiver-receiver.ensures)) may_be_enabled);
      nonempty_inboxes = subst (λ (links : List (List Letter)). HasInboxes (new links) (take c.self.inside.nonempty_inboxes.len (c.note.new.nonempty_inboxes ++ drop (length c.note.new.nonempty_inboxes) c.self.inside.nonempty_inboxes.items))) (sym whole)
          (subst (HasInboxes (new c.act.new.links)) (sym (all_rows ∙ rows)) nonempty_inboxes);
      counts = subst (λ (links : List (List Letter)). HasCounts (new links) c.self.inside.counts.items c.insert.new.self) (sym whole) (subst (HasCounts (new c.act.new.links) c.self.inside.counts.items) (sym outdated_counts) counts);
    }

pub returns : goal.returns
returns c plan world stands =
    let seen = seen_world c.self.inside in
    let can : can_happen seen c.args.event ≡ true = ap (λ (w : SeenWorld). can_happen w c.args.event) c.self.view_is ∙ c.requires in
    let world_site = c.index_mut-world_site.result.now in
    let does = subst (λ (links : List (List Letter)). SiteSteps c.args.event.kind world_site c.act.new.world_site links c.act.new.links) c.as_mut_slice.ensures.value c.act.ensures.does in
    let whole : take c.self.inside.links.len (c.act.new.links ++ drop (length c.act.new.links) c.self.inside.links.items) ≡ c.act.new.links = grind (arith, common_steps) in
    subst (λ (links : List (List Letter)). WorldStep plan world c.args.event (record { sites = slice_set c.self.inside.sites.items c.args.event.site c.act.new.world_site; links = links; edges = c.self.inside.edges.items; bound = c.self.inside.bound })) (sym whole)
    (site_done seen c.args.event can plan world (subst (IsWorldOf plan world) (sym c.self.view_is) stands) world_site c.index_mut-world_site.ensures.value c.act.new.world_site c.act.new.links does)
