-- The definitions on one worked module: a function that adds 1 to its parameter.
use Rattle.std.proofs.Common.{◌≡◌, [], ◌∷◌, ◌++◌, refl}
use Rattle.std.specs.Fmt.{digits}
use Rattle.std.specs.Prelude.{codes, false, None, Ok}
use Rattle.bl_base.specs.declared.names.Label.TheVariants.{Public}
use Rattle.bl_base.specs.declared.names.ValueType.TheVariants as value
use Rattle.bl_base.specs.declared.trap.Trap.TheVariants as kind
use Rattle.bl_ops.specs.declared.op.Op.TheVariants as op
use Rattle.bl_wasm.specs.declared.instruction.Instr.TheVariants as wasm
use Rattle.bl_wasm.specs.declared.linked.Tree.{Tree}
use Rattle.bl_wasm.specs.declared.module.ExportKind.TheVariants as export
use Rattle.bl_wasm.specs.declared.module.Module.{Module}
use Rattle.bl_wasm.specs.declared.types.WasmType.TheVariants.{I32}
use Rattle.bl_program.specs.declared.command.Command.TheVariants.{Ret, Trap}
use Rattle.bl_program.specs.declared.command.Operand.TheVariants.{Const}
use Rattle.bl_labels.specs.LabelledPlaces.{unlabelled}
use Rattle.bl_link.specs.Links.{links, part_of}
use Rattle.bl_access.specs.Templates.{jump_to, move, out_of, set, variable}
use Rattle.bl_lower.specs.Trees.{low_tree, step_bound}
use Rattle.bl_graph.specs.declared.certificate.Certificate.{Certificate}
use Rattle.bl_ct.specs.declared.verdict.CtVerdict.TheVariants.{Yes}
use Rattle.bl_report.specs.Reports.{is_site, report_text}
use Rattle.bl_witness.specs.Texts.{certificate_text}

abbrev add_one : Module
add_one = record {
  types = record { params = I32 ∷ []; results = I32 ∷ [] } ∷ [];
  imports = [];
  functions = 0 ∷ [];
  tables = [];
  memories = [];
  globals = [];
  exports = record { name = codes "inc"; kind = export.Function; index = 0 } ∷ [];
  start = None;
  elements = [];
  bodies = record { locals = []; items = wasm.LocalGet 0 ∷ wasm.I32Const 1 ∷ wasm.Integer op.I32Add ∷ [] } ∷ [];
  segments = [];
  customs = [];
}

abbrev pub tree : Tree
tree = record {
  types = record { params = value.I32 ∷ []; results = value.I32 ∷ [] } ∷ [];
  functions = record {
    type_index = 0;
    labels = Public ∷ [];
    demanded = false ∷ [];
    code = record { locals = []; items = wasm.LocalGet 0 ∷ wasm.I32Const 1 ∷ wasm.Integer op.I32Add ∷ [] };
    memory = None;
    table = None;
  } ∷ [];
  globals = [];
  memories = [];
  tables = [];
  exports = (codes "inc/inc", 0) ∷ [];
}

linked : links (part_of (codes "inc") add_one unlabelled ∷ []) ≡ Ok tree
linked = refl

commands : (low_tree tree).commands
    ≡ Trap kind.Unreachable ∷ Trap kind.DivideByZero ∷ Trap kind.Overflow ∷ Trap kind.OutOfBounds ∷ Trap kind.UndefinedElement ∷ Trap kind.UninitializedElement ∷ Trap kind.TypeMismatch
    ∷ jump_to 8
    ∷ move 0 2 (variable 0)
    ∷ move 0 3 (Const 1)
    ∷ set 0 op.I32Add 4 (variable 2) (variable 3)
    ∷ out_of 0 0 (variable 4)
    ∷ Ret ∷ []
commands = refl

bound : step_bound tree ≡ 4
bound = refl

-- nothing is loaded, so no flow is shown
abbrev no_flow : Certificate
no_flow = record { paths = []; weight = 0 }

written : certificate_text no_flow ≡ codes "{\"paths\":[],\"weight\":0}"
unfolding digits
written = refl

report : report_text (low_tree tree) no_flow (Yes []) ≡ codes "functions 1" ++ 10 ∷ [] ++ codes "commands 13" ++ 10 ∷ [] ++ codes "sites 4" ++ 10 ∷ [] ++ codes "protects 0 weight 0" ++ 10 ∷ [] ++ codes "constant-time yes" ++ 10 ∷ []
unfolding digits is_site
report = refl
