use Rattle.std.proofs.Common.{◌∙◌, map, refl, sym, arith}
use Rattle.std.proofs.lemmas.Bool.{false≢true}
use Rattle.bl_base.specs.Runs.{memory_of}
use Rattle.bl_twin.proofs.PublicLists.{below_none, below_step, below_all, agree_there, item_at, image_at}
use Rattle.bl_twin.proofs.agreement.memories_agree.Goals as goal

pub loop-i-init : goal.loop-i-init
loop-i-init c = below_none (λ memory. memory.label) c.args.memories.now (map memory_of c.args.one.now) (map memory_of c.args.other.now)

pub loop-i-preserved : goal.loop-i-preserved
loop-i-preserved c =
    let lt = c.loop-i-test.true in
    let first = c.requires.one in
    let second = c.requires.other in
    below_step (λ memory. memory.label) c.args.memories.now (map memory_of c.args.one.now) (map memory_of c.args.other.now) c.loop-i.i _ _ _
    (item_at c.args.memories.now c.loop-i.i c.index-memories-i.result lt)
    (image_at memory_of c.args.one.now c.loop-i.i c.index-one-i.result (omega arith) c.index-one-i.is)
    (image_at memory_of c.args.other.now c.loop-i.i c.index-other-i.result (omega arith) c.index-other-i.is)
    (c.contents_agree.ensures.0 c.if-not-contents_agree.false) c.loop-i.invariant

pub returns-then-not-contents_agree : goal.returns-then-not-contents_agree
returns-then-not-contents_agree c =
    let lt = c.loop-i-test.true in
    let first = c.requires.one in
    let second = c.requires.other in (
      λ t. absurd (false≢true t),
      λ agree. sym c.if-not-contents_agree.true ∙ c.contents_agree.ensures.1
          (agree_there (λ memory. memory.label) c.args.memories.now (map memory_of c.args.one.now) (map memory_of c.args.other.now) c.loop-i.i _ _ _
          (item_at c.args.memories.now c.loop-i.i c.index-memories-i.result lt)
          (image_at memory_of c.args.one.now c.loop-i.i c.index-one-i.result (omega arith) c.index-one-i.is)
          (image_at memory_of c.args.other.now c.loop-i.i c.index-other-i.result (omega arith) c.index-other-i.is) agree),
    )

pub returns : goal.returns
returns c = (
  λ t. below_all (λ memory. memory.label) c.args.memories.now (map memory_of c.args.one.now) (map memory_of c.args.other.now) c.loop-i.i c.loop-i-test.false c.loop-i.invariant,
  λ agree. refl,
)
