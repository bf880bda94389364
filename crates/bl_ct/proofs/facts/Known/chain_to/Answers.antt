use Rattle.std.proofs.Common.{◌≡◌, [], sym, subst, ap, ◌∙◌, reverse, map, refl, inl, inr}
use Rattle.std.proofs.lemmas.Option.{slice_get_within, get_or_from_slice_get}
use Rattle.bl_base.specs.declared.number.Pos.{Pos}
use Rattle.bl_ct.specs.declared.search.Step.{Step}
use Rattle.bl_ct.specs.declared.search.Cause.TheVariants as cause_
use Rattle.bl_graph.specs.declared.secret.Origin.TheVariants.{Memory}
use Rattle.bl_graph.specs.SecretChains.{IsChainFrom}
use Rattle.bl_ct.specs.SecretSearch.{Has, LeadsOn}
use Rattle.bl_ct.proofs.ReadBackChains.{back, back_moved, back_loaded, back_declared}
use Rattle.bl_ct.proofs.facts.Known.chain_to.Goals as goal

pub loop-place-init : goal.loop-place-init
loop-place-init c =
    let leak = c.requires.leak in
    subst (λ l. (step : Step) × Has c.args.queue.now c.args.leak.place step × LeadsOn c.args.self.now.program.now step (back l) c.args.leak.end) (sym c.new-sites.ensures.items)
    (leak.0, leak.1, elim leak.2 as (λ _. LeadsOn c.args.self.now.program.now leak.0 [] c.args.leak.end) [ inl h ↦ inl h | inr h ↦ inr (refl, h) ])

pub bounds : goal.bounds
bounds c = slice_get_within c.args.queue.now c.loop-place.place c.loop-place.invariant.0 c.loop-place.invariant.1

pub bounds-queue-place : goal.bounds-queue-place
bounds-queue-place c = slice_get_within c.args.queue.now c.loop-place.place c.loop-place.invariant.0 c.loop-place.invariant.1

pub returns-in-Declared : goal.returns-in-Declared
returns-in-Declared c =
    let inv = c.loop-place.invariant in
    let e : inv.0.cause ≡ cause_.Declared c.in-Declared.origin = sym (ap (λ s. s.cause) (get_or_from_slice_get c.args.queue.now c.loop-place.place inv.0 _ inv.1)) ∙ c.in-Declared.is in
    subst (λ l. IsChainFrom c.args.self.now.program.now c.in-Declared.origin (map (λ (s : Pos). s.0) l) c.args.leak.end) (sym (c.of.ensures ∙ c.reverse.ensures.items))
    (back_declared c.args.self.now.program.now c.args.queue.now c.requires.stands c.loop-place.place inv.0 inv.1 c.loop-place.sites.items c.args.leak.end inv.2 c.in-Declared.origin e)

pub returns-in-Loaded : goal.returns-in-Loaded
returns-in-Loaded c =
    let inv = c.loop-place.invariant in
    let e : inv.0.cause ≡ cause_.Loaded c.in-Loaded.at c.in-Loaded.memory = sym (ap (λ s. s.cause) (get_or_from_slice_get c.args.queue.now c.loop-place.place inv.0 _ inv.1)) ∙ c.in-Loaded.is in
    subst (λ l. IsChainFrom c.args.self.now.program.now (Memory c.in-Loaded.memory) (map (λ (s : Pos). s.0) l) c.args.leak.end) (sym (c.of-in-Loaded.ensures ∙ (c.reverse-in-Loaded.ensures.items ∙ ap reverse c.in_ok-push-in-Loaded.ensures.items)))
    (back_loaded c.args.self.now.program.now c.args.queue.now c.requires.stands c.loop-place.place inv.0 inv.1 c.loop-place.sites.items c.args.leak.end inv.2 c.in-Loaded.at c.in-Loaded.memory e)

pub loop-place-smaller : goal.loop-place-smaller
loop-place-smaller c =
    let inv = c.loop-place.invariant in
    let e : inv.0.cause ≡ cause_.Moved c.in-Moved.at c.in-Moved.before = sym (ap (λ s. s.cause) (get_or_from_slice_get c.args.queue.now c.loop-place.place inv.0 _ inv.1)) ∙ c.in-Moved.is in
    (back_moved c.args.self.now.program.now c.args.queue.now c.requires.stands c.loop-place.place inv.0 inv.1 c.loop-place.sites.items c.args.leak.end inv.2 c.in-Moved.at c.in-Moved.before e).0

pub loop-place-preserved : goal.loop-place-preserved
loop-place-preserved c =
    let inv = c.loop-place.invariant in
    let e : inv.0.cause ≡ cause_.Moved c.in-Moved.at c.in-Moved.before = sym (ap (λ s. s.cause) (get_or_from_slice_get c.args.queue.now c.loop-place.place inv.0 _ inv.1)) ∙ c.in-Moved.is in
    subst (λ l. (step : Step) × Has c.args.queue.now c.in-Moved.before step × LeadsOn c.args.self.now.program.now step (back l) c.args.leak.end) (sym c.in_ok-push-in-Moved.ensures.items)
    (back_moved c.args.self.now.program.now c.args.queue.now c.requires.stands c.loop-place.place inv.0 inv.1 c.loop-place.sites.items c.args.leak.end inv.2 c.in-Moved.at c.in-Moved.before e).1
