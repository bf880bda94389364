-- Interface files.
use Rattle.std.specs.Prelude.{◌≡◌, ℕ, suc, ◌+◌, ◌==◌, nat_lt, if◌then◌else◌, IsTrue, List, [], ◌∷◌, length, map, take, drop, Option, Some, None, option_and_then, Result, Ok, Err, codes, slice_get}
use Rattle.std.specs.List.{AllPairs, position_or_len}
use Rattle.std.specs.Str.{bytes_eq}
use Rattle.bl_base.specs.declared.names.Flow.{Flow}
use Rattle.bl_base.specs.declared.names.Flow.TheVariants.{Stable, Transient}
use Rattle.bl_iface.specs.JoinedProgram.{is_named}
use Rattle.bl_iface.specs.declared.error.IfaceError.{IfaceError}
use Rattle.bl_iface.specs.declared.error.IfaceError.TheVariants.{Line, Memory}
use Rattle.bl_iface.specs.declared.iface.FnIface.{FnIface}
use Rattle.bl_iface.specs.declared.iface.Iface.{Iface}

-- ---- lines

-- what stands before the first space, the byte 32, and what stands behind it; none where there is no space
abbrev pub cut : List ℕ → Option (List ℕ × List ℕ)
cut text =
    let place = position_or_len (λ byte. byte == 32) text in
    if nat_lt place (length text) then Some (take place text, drop (place + 1) text) else None

-- what stands in a line `function PARAMS RESULTS NAME` behind `function`, with one space between two
abbrev pub with_name : List ℕ → Option (List ℕ × List ℕ) → Option (List ℕ × List ℕ × List ℕ)
with_name params (Some two) = Some (params, two.0, two.1)
with_name params None = None

abbrev pub with_results : Option (List ℕ × List ℕ) → Option (List ℕ × List ℕ × List ℕ)
with_results (Some two) = with_name two.0 (cut two.1)
with_results None = None

abbrev pub with_params : Option (List ℕ × List ℕ) → Option (List ℕ × List ℕ × List ℕ)
with_params (Some two) = if bytes_eq two.0 (codes "function") then with_results (cut two.1) else None
with_params None = None

abbrev pub parts_of : List ℕ → Option (List ℕ × List ℕ × List ℕ)
parts_of line = with_params (cut line)

-- the flow that a letter says, `s` or `t`
abbrev pub flow_of : ℕ → Option Flow
flow_of letter = if letter == 115 then Some Stable else if letter == 116 then Some Transient else None

abbrev pub flow_before : Option Flow → Option (List Flow) → Option (List Flow)
flow_before (Some flow) (Some flows) = Some (flow ∷ flows)
flow_before (Some flow) None = None
flow_before None flows = None

-- those that letters say
abbrev pub letters : List ℕ → Option (List Flow)
letters [] = Some []
letters (letter ∷ others) = flow_before (flow_of letter) (letters others)

-- those that a word of one letter each says, or `-` of none
abbrev pub flows_of : List ℕ → Option (List Flow)
flows_of [] = None
flows_of (letter ∷ others) = if bytes_eq (letter ∷ others) (codes "-") then Some [] else letters (letter ∷ others)

abbrev pub agreed : List ℕ → Option (List Flow) → Option (List Flow) → Option FnIface
agreed name (Some params) (Some results) = Some (record { name = name; params = params; results = results })
agreed name (Some params) None = None
agreed name None results = None

-- what is agreed by what stands in a line
abbrev pub function_of : List ℕ × List ℕ × List ℕ → Option FnIface
function_of parts = agreed parts.2 (flows_of parts.0) (flows_of parts.1)

-- what a line says; none where it is outside the grammar
abbrev pub function_in : List ℕ → Option FnIface
function_in line = option_and_then function_of (parts_of line)

-- ---- files

-- lines say these functions, and no two of them have one name
pub record Say (lines : List (List ℕ)) (functions : List FnIface) : Type 0 where
  pub says : map function_in lines ≡ map Some functions
  pub distinct : AllPairs (λ one other. one.name ≡ other.name → ⊥) functions

-- the lines before that one say functions of distinct names, and it is outside the grammar or has the name of one of those
pub record IsFirstBadLine (lines : List (List ℕ)) (number : ℕ) : Type 0 where
  pub before : ℕ
  pub functions : List FnIface
  pub line : List ℕ
  pub counted : number ≡ suc before
  pub say : Say (take before lines) functions
  pub stands : slice_get lines before ≡ Some line
  pub bad : (one : FnIface) → function_in line ≡ Some one → IsTrue (is_named functions one.name)

-- the functions of a file's lines, or the first bad one's number, or memory ran out, which no clause rules out
abbrev pub IsIface : List (List ℕ) → Result Iface IfaceError → Type 0
IsIface lines (Ok iface) = Say lines iface.functions
IsIface lines (Err (Line number)) = IsFirstBadLine lines number
IsIface lines (Err Memory) = Unit {0}
