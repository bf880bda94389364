use Rattle.std.proofs.Common.{◌≡◌, [], Some, Err, reverse, ap, sym, ◌∙◌, subst, arith}
use Rattle.std.specs.Option.{option_map}
use Rattle.bl_wasm.specs.Instructions.{instruction}
use Rattle.bl_wasm.specs.OpenConstructs.{open_through, open_behind}
use Rattle.bl_wasm.specs.declared.instruction.Instr.{Instr}
use Rattle.bl_code.specs.Constructs.{kept}
use Rattle.bl_code.specs.ReaderAnswers.{IsAt}
use Rattle.bl_code.proofs.ExpressionLemmas.{known, none_kept, through_more, err_expression, err_nest, last_at, instruction_forward, none_backwards}
use Rattle.bl_code.proofs.Places.{passes}
use Rattle.bl_code.proofs.Vectors.{each_more}
use Rattle.bl_code.proofs.expression.read_expression.Goals as goal

pub returns-in_err-item : goal.returns-in_err-item
returns-in_err-item c =
    let l = c.loop-constructs in
    let k = known (open_through l.items []) (reverse l.constructs.items) l.invariant.nested in
    passes _ c.args.bytes.now c.args.at c.from_residual.result _ c.from_residual.ensures.1
    (err_expression c.args.bytes.now c.args.at l.place l.items k.0 _ l.invariant.read k.1 c.in_err-item.ensures)

pub returns-then-is_last : goal.returns-then-is_last
returns-then-is_last c =
    let l = c.loop-constructs in
    let k = known (open_through l.items []) (reverse l.constructs.items) l.invariant.nested in
    let last = c.is_last.ensures.0 c.if-is_last.true in
    let empty : reverse l.constructs.items ≡ [] = ap reverse (sym c.deref.ensures.value ∙ last.0) in
    last_at c.args.bytes.now c.args.at l.place c.in_ok-item.after l.items l.invariant.read (k.1 ∙ ap Some (none_kept k.0 (k.2 ∙ empty))) (subst (λ (x : Instr). IsAt instruction c.args.bytes.now l.place c.in_ok-item.after x) last.1 c.in_ok-item.ensures)

pub returns-in_err-nest : goal.returns-in_err-nest
returns-in_err-nest c =
    let l = c.loop-constructs in
    let k = known (open_through l.items []) (reverse l.constructs.items) l.invariant.nested in
    passes _ c.args.bytes.now c.args.at c.from_residual-in_err-nest.result _ c.from_residual-in_err-nest.ensures.1
    (err_nest c.args.bytes.now c.args.at l.place c.in_ok-item.after l.items k.0 c.in_ok-item.item _ l.invariant.read k.1 c.in_ok-item.ensures
    (λ is none. let yes = c.is_last.ensures.1 (c.deref.ensures.value ∙ none_backwards l.constructs.items (sym k.2 ∙ ap kept none), is) in let no = c.if-is_last.false in cc)
    (λ e. c.in_err-nest.ensures.malformed k.0 k.2 (ap Err e)))

pub loop-constructs-smaller : goal.loop-constructs-smaller
loop-constructs-smaller c =
    let forward = instruction_forward c.args.bytes.now c.loop-constructs.place c.in_ok-item.after c.in_ok-item.item c.in_ok-item.ensures in
    omega (arith, forward.0, forward.1)

pub loop-constructs-preserved : goal.loop-constructs-preserved
loop-constructs-preserved c =
    let l = c.loop-constructs in
    let k = known (open_through l.items []) (reverse l.constructs.items) l.invariant.nested in
    let next = known (open_behind c.in_ok-item.item k.0) (reverse c.nest.new.constructs.items) (c.in_ok-nest.ensures.ok k.0 k.2) in
    let pushed = c.in_ok-push.ensures.ok in
    rw pushed (record {
      read = each_more instruction c.args.bytes.now c.args.at l.place c.in_ok-item.after l.items c.in_ok-item.item l.invariant.read c.in_ok-item.ensures;
      nested = ap (option_map kept) (through_more l.items k.0 next.0 c.in_ok-item.item k.1 next.1) ∙ ap Some next.2;
    })
