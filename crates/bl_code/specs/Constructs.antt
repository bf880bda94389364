-- What a reader of expressions keeps of the constructs that are open.
use Rattle.std.specs.Prelude.{List, map}
use Rattle.bl_wasm.specs.OpenConstructs.{Construct, Kind, of_block, of_loop, then_part, else_part}
use Rattle.bl_code.specs.declared.expression.Open.{Open}
use Rattle.bl_code.specs.declared.expression.Open.TheVariants.{BeforeElse, Other}

-- whether the `else` of a construct may come
abbrev pub kept_kind : Kind → Open
kept_kind of_block = Other
kept_kind of_loop = Other
kept_kind then_part = BeforeElse
kept_kind else_part = Other

-- of each construct that is open, innermost first
abbrev pub kept : List Construct → List Open
kept open_ones = map (λ construct. kept_kind construct.kind) open_ones
