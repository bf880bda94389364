use Rattle.std.proofs.Common.{◌≡◌, ℕ, suc, ◌+◌, ◌<◌, ◌^◌, ◌∷◌, [], length, drop, subst, sym, arith, length-append, ap, ◌∙◌}
use Rattle.bl_leb.specs.Grammar.{Spellings, ◌⨾◌}
use Rattle.bl_format.specs.Grammar.{gap}
use Rattle.bl_image.specs.ReaderAnswers.{Begins}
use Rattle.bl_image.proofs.ReaderLemmas.{passes}
use Rattle.bl_format.proofs.Chains.{behind_more}
use Rattle.bl_image.proofs.ReadChains.{counted, begins_more, none_more}
use Rattle.bl_image.proofs.rising.read_rising.Goals as goal

abbrev step : {A : Type 0} → (A → ℕ) → ℕ → A → ℕ
step number least x = suc (number x)

abbrev item : {A : Type 0} → (A → ℕ) → (A → Spellings) → ℕ → A → Spellings
item number B least x = gap least (number x) ⨾ B x

pub returns-in_err-thing : goal.returns-in_err-thing
returns-in_err-thing g c =
    let number = g.T.Numbered.numbered in
    let B = g.T.Numbered.behind in
    passes (item number B c.loop.least) (counted (step number) (item number B) 0 c.args.count) c.args.bytes.now c.loop.place c.args.at c.from_residual.result _ c.from_residual.ensures.1
    (λ none. none_more (step number) (item number B) 0 (drop c.args.at c.args.bytes.now) (drop c.loop.place c.args.bytes.now) c.loop.things c.args.count c.loop.invariant.so_far (omega arith) (rw (← c.loop.invariant.next) none)) c.in_err-thing.ensures

pub loop-preserved : goal.loop-preserved
loop-preserved g c =
    let number = g.T.Numbered.numbered in
    let B = g.T.Numbered.behind in
    let x = c.in_ok-thing.thing in
    let xs = c.loop.things in
    let pushed = c.in_ok-push.ensures.ok in
    let s = drop c.args.at c.args.bytes.now in
    let here = subst (λ (least : ℕ). Begins (item number B least) (drop c.loop.place c.args.bytes.now) x (drop c.in_ok-thing.after c.args.bytes.now)) c.loop.invariant.next c.in_ok-thing.ensures.1 in
    let small : number x < 2 ^ 32 = c.in_ok-thing.ensures.1.spelled.first.0 in
    rw pushed (record {
      inside = c.in_ok-thing.ensures.0;
      so_far = begins_more (step number) (item number B) 0 s (drop c.loop.place c.args.bytes.now) (drop c.in_ok-thing.after c.args.bytes.now) xs x c.loop.invariant.so_far here;
      many = length-append xs (x ∷ []) ∙ ap (λ n. n + 1) c.loop.invariant.many;
      next = (omega arith) ∙ sym (behind_more (step number) 0 xs x);
      small = omega arith;
    })

pub returns : goal.returns
returns g c =
    let number = g.T.Numbered.numbered in
    let B = g.T.Numbered.behind in
    let same : length c.loop.things ≡ c.args.count = omega (arith, c.loop.invariant.many) in
    (c.loop.invariant.inside, subst (λ (n : ℕ). Begins (counted (step number) (item number B) 0 n) (drop c.args.at c.args.bytes.now) c.loop.things (drop c.loop.place c.args.bytes.now)) same c.loop.invariant.so_far)
