use Rattle.std.proofs.Common.{◌≡◌, ◌+◌, [], ◌∷◌, drop}
use Rattle.std.proofs.lemmas.List.{drop_all}
use Rattle.bl_base.proofs.Lists.{rest_at}
use Rattle.bl_wasm.proofs.BodyTypings.{goes_on, goes_not, goes_done, goes_typing, goes_same, chained, turned}
use Rattle.bl_validate.specs.Represents.{Represents}
use Rattle.bl_validate.specs.Scopes.{seen}
use Rattle.bl_validate.proofs.body.Body.has_typing.Goals as goal

pub loop-item-init : goal.loop-item-init
loop-item-init c = goes_same (seen c.args.self.now) (λ open_ones s. (open_ones ≡ []) × (s ≡ [])) (Represents c.new-stacks.result) c.args.items.now (λ open_ones s. turned (c.new-stacks.ensures open_ones s))

pub loop-item-preserved : goal.loop-item-preserved
loop-item-preserved c =
    let e : drop c.loop-item.item-index c.args.items.now ≡ c.item-item.result ∷ drop (c.loop-item.item-index + 1) c.args.items.now
    = rest_at c.args.items.now c.loop-item.item-index c.item-item.result c.loop-item-test.true c.item-item.is in
    let on = goes_on (seen c.args.self.now) (Represents c.loop-item.stacks) (Represents c.step.new.stacks) _ (drop (c.loop-item.item-index + 1) c.args.items.now) c.in_ok-step.field-0 c.if-not-branch.false c.in_ok-step.ensures in
    chained c.loop-item.invariant (rw e on)

pub returns-then-not-branch : goal.returns-then-not-branch
returns-then-not-branch c =
    let e : drop c.loop-item.item-index c.args.items.now ≡ c.item-item.result ∷ drop (c.loop-item.item-index + 1) c.args.items.now
    = rest_at c.args.items.now c.loop-item.item-index c.item-item.result c.loop-item-test.true c.item-item.is in
    let on = goes_not (seen c.args.self.now) (Represents c.loop-item.stacks) (Represents c.step.new.stacks) _ (drop (c.loop-item.item-index + 1) c.args.items.now) c.in_ok-step.field-0 c.if-not-branch.true c.in_ok-step.ensures in
    let typing = chained (goes_typing (seen c.args.self.now) c.args.items.now) (chained c.loop-item.invariant (rw e on)) in
    (λ h. absurd (cc h), λ t. absurd (typing.0 t))

pub returns : goal.returns
returns c =
    let e : drop c.loop-item.item-index c.args.items.now ≡ [] = drop_all c.loop-item.item-index c.args.items.now c.loop-item-test.false in
    let done = goes_done (seen c.args.self.now) (Represents c.loop-item.stacks) in
    let typing = chained (goes_typing (seen c.args.self.now) c.args.items.now) (chained c.loop-item.invariant (rw e done)) in
    turned (chained typing (turned c.is_done.ensures))
