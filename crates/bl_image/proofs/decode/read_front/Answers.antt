use Rattle.std.proofs.Common.{List, drop, sym, subst}
use Rattle.bl_program.specs.declared.command.Command.{Command}
use Rattle.bl_format.specs.Image.{header}
use Rattle.bl_image.specs.ReaderAnswers.{Fronts, additions_of}
use Rattle.bl_image.proofs.WholeImage.{Definitions, Listed, defined, program_with, no_header, no_definitions, no_additions, fronts_found, front_refused}
use Rattle.bl_image.proofs.decode.read_front.Goals as goal

pub returns-in_err-version : goal.returns-in_err-version
returns-in_err-version c = front_refused header c.args.bytes.now 0 c.from_residual.result _ c.from_residual.ensures.1 (no_header c.args.bytes.now) c.in_err-version.ensures

pub returns-in_err-globals : goal.returns-in_err-globals
returns-in_err-globals c =
    let v = c.in_ok-version in
    front_refused defined c.args.bytes.now v.place c.from_residual-in_err-globals.result _ c.from_residual-in_err-globals.ensures.1
    (no_definitions c.args.bytes.now (drop v.place c.args.bytes.now) v.version v.ensures.1) c.in_err-globals.ensures

pub returns-in_err-demands : goal.returns-in_err-demands
returns-in_err-demands c =
    let v = c.in_ok-version in
    let d = c.in_ok-globals in
    front_refused (additions_of v.version) c.args.bytes.now d.place c.from_residual-in_err-demands.result _ c.from_residual-in_err-demands.ensures.1
    (no_additions c.args.bytes.now (drop v.place c.args.bytes.now) (drop d.place c.args.bytes.now) v.version (d.globals, (d.memories, (d.functions, d.exports))) v.ensures.1 d.ensures.1) c.in_err-demands.ensures

pub returns : goal.returns
returns c =
    let v = c.in_ok-version in
    let d = c.in_ok-globals in
    let a = c.in_ok-demands in
    let defs : Definitions = (d.globals, (d.memories, (d.functions, d.exports))) in
    let listed : Listed = (a.demands, a.weights) in (
      a.ensures.0,
      subst (λ (l : List Command). Fronts c.args.bytes.now (program_with defs listed l) (drop a.place c.args.bytes.now)) (sym c.in_ok-commands.ensures)
          (fronts_found c.args.bytes.now (drop v.place c.args.bytes.now) (drop d.place c.args.bytes.now) (drop a.place c.args.bytes.now) v.version defs listed v.ensures.1 d.ensures.1 a.ensures.1),
    )
