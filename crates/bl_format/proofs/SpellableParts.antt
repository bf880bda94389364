-- A well-formed program can be spelled.
use Rattle.std.proofs.Common.{◌≡◌, inl, inr, ℕ, zero, suc, ◌+◌, ◌*◌, ◌^◌, ◌<◌, ◌≤◌, List, [], ◌∷◌, length, drop, slice_index_or, Option, slice_get, ap, sym, subst, arith, length-drop}
use Rattle.std.specs.Prelude.{IsSome, IsSomeAnd, option_map, option_and_then, unwrap_or}
use Rattle.std.specs.List.{All, AllPairs}
use Rattle.std.proofs.lemmas.Bool.{false≢true}
use Rattle.std.proofs.lemmas.List.{get_or-drop}
use Rattle.std.proofs.lemmas.Option.{slice_get-get_or}
use Rattle.bl_base.proofs.Lists.{all_get, within_get}
use Rattle.bl_program.specs.Layout.{sum_before, results_of}
use Rattle.bl_program.specs.Programs.{IsProgram}
use Rattle.bl_program.specs.Rules.{IsWellFormed, IsMemory, IsFunction, IsDemand, Precedes, Rule2, Rule6}
use Rattle.bl_program.specs.Sites.{listed, mark_of}
use Rattle.bl_program.specs.declared.command.Command.{Command}
use Rattle.bl_program.specs.declared.command.Command.TheVariants.{Set, Load, Arg, Out}
use Rattle.bl_program.specs.declared.command.Mark.{Mark}
use Rattle.bl_program.specs.declared.definitions.Demand.{Demand}
use Rattle.bl_program.specs.declared.definitions.Demand.TheVariants.{Result, Global}
use Rattle.bl_program.specs.declared.definitions.SiteWeight.{SiteWeight}
use Rattle.bl_program.proofs.Layouts.{sum_more, sum_up, number_is, held_by}
use Rattle.bl_program.specs.declared.definitions.FunctionDef.{FunctionDef}
use Rattle.bl_program.specs.declared.definitions.MemRow.{MemRow}
use Rattle.bl_program.specs.declared.definitions.MemoryDef.{MemoryDef}
use Rattle.bl_program.specs.declared.definitions.ProgramParts.{ProgramParts as Program}
use Rattle.bl_format.specs.WriterAnswers.{Rises, MemoryFits, DefinitionsFit, AdditionsFit, CommandFits, MarkFits}

-- each is at most the sum
pub member : {X : Type 0} (f : X → ℕ) (xs : List X) (k : ℕ) (d : X) → k < length xs → f (slice_index_or xs k d) ≤ sum_before f xs (length xs)
member f [] k d less = absurd (omega arith)
member f (x ∷ xs) zero d less = omega arith
member f (x ∷ xs) (suc k) d less = let rest = member f xs k d (omega arith) in omega arith

-- things of which each has a lesser number than those behind it rise
pub rises : {X : Type 0} (number : X → ℕ) (xs : List X) (least : ℕ) → AllPairs (λ x y. number x < number y) xs → All (λ x. least ≤ number x) xs → Rises number least xs
rises number [] least pairs from = tt
rises {X} number (x ∷ xs) least pairs from = (
  from 0 x (omega arith),
  rises number xs (suc (number x)) (λ i j d p q. pairs (suc i) (suc j) d (omega arith) (omega arith))
      (λ j d less. let later : number x < number (slice_index_or xs j d) = pairs 0 (suc j) d (omega arith) (omega arith) in omega arith),
)

-- and so there are few of them, where their numbers are small
pub rises_few : {X : Type 0} (number : X → ℕ) (xs : List X) (least most : ℕ) → Rises number least xs → All (λ x. number x < most) xs → least ≤ most → least + length xs ≤ most
rises_few number [] least most rise small le = omega arith
rises_few number (x ∷ xs) least most rise small le =
    let first : number x < most = small 0 x (omega arith) in
    let rest = rises_few number xs (suc (number x)) most rise.1 (λ j d less. small (suc j) d (omega arith)) (omega arith) in
    let from = rise.0 in
    omega arith

-- a memory's rows
row_small : (number pages reserve : ℕ) → number * 16 + 16 ≤ pages * 65536 → pages ≤ reserve → reserve ≤ 256 → number < 1048576
row_small number pages reserve within p r = omega arith

rows_rise : (one : MemoryDef) → IsMemory one → Rises (λ (row : MemRow). row.number) 0 one.rows
rows_rise one h = rises (λ (row : MemRow). row.number) one.rows 0 h.rising (λ j d less. omega arith)

pub rows_few : (one : MemoryDef) → IsMemory one → length one.rows ≤ 1048576
rows_few one h = omega (arith, rises_few (λ (row : MemRow). row.number) one.rows 0 1048576 (rows_rise one h) (λ j d less. row_small (slice_index_or one.rows j d).number one.pages one.reserve (h.rows j d less).within h.pages h.reserve) (omega arith))

pub memory_fits : (one : MemoryDef) → IsMemory one → MemoryFits one
memory_fits one h = let few = rows_few one h in record { few = omega arith; rise = rows_rise one h }

-- the definitions
pub definitions_fit : (program : Program) → IsWellFormed program → DefinitionsFit program
definitions_fit program w =
    let variables = w.rule2.variables in
    let many = w.rule2.functions in
    record {
      globals = omega arith;
      memories = omega arith;
      functions = omega arith;
      each_memory = λ k d less. memory_fits (slice_index_or program.memories k d) (w.rule1.memories k d less);
      each_function = λ k d less.
          let one = slice_index_or program.functions k d in
          let fits = (w.rule2.each k d less).variables in
          let part = member (λ (f : FunctionDef). f.vars) program.functions k d less in
          record { params = omega arith; results = omega arith };
    }

-- ---- demands

-- a result has the number of its variable, a global one behind those of all functions
numbered : Program → Demand → ℕ
numbered program (Result f i) = sum_before (λ (function : FunctionDef). function.vars) program.functions f + i
numbered program (Global x) = sum_before (λ (function : FunctionDef). function.vars) program.functions (length program.functions) + x

-- what is found stands within
pub found_within : {X : Type 0} (xs : List X) (i : ℕ) (P : X → Type 0) → IsSomeAnd (slice_get xs i) P → i < length xs
found_within [] i P h = absurd h
found_within (x ∷ xs) zero P h = omega arith
found_within (x ∷ xs) (suc i) P h = let rest = found_within xs i P h in omega arith

-- a result is a variable of its function
result_within : (program : Program) (f i : ℕ) → Rule2 program → f < length program.functions → i < results_of program f
    → sum_before (λ (function : FunctionDef). function.vars) program.functions f + i < sum_before (λ (function : FunctionDef). function.vars) program.functions (suc f)
result_within program f i rule exists within =
    let got = within_get program.functions f exists in
    let results : results_of program f ≡ length got.0.results = number_is (λ (function : FunctionDef). length function.results) program.functions f got.0 got.1 in
    let more = sum_more (λ (function : FunctionDef). function.vars) program.functions f got.0 got.1 in
    let room = (all_get IsFunction program.functions f got.0 rule.each got.1).variables in
    omega arith

demand_rises : (program : Program) → Rule2 program → (a b : Demand) → IsDemand program a → IsDemand program b → Precedes a b → numbered program a < numbered program b
unfolding numbered
demand_rises program rule (Result f i) (Result g j) p q before =
    let here = result_within program f i rule p.0 p.1 in
    elim before as (λ _. numbered program (Result f i) < numbered program (Result g j)) [
      | inl less ↦ let up = sum_up (λ (function : FunctionDef). function.vars) program.functions (suc f) g (omega arith) in omega arith
      | inr same ↦ let one = ap (sum_before (λ (function : FunctionDef). function.vars) program.functions) same.0 in omega (arith, one, same.1)
    ]
demand_rises program rule (Result f i) (Global y) p q before =
    let here = result_within program f i rule p.0 p.1 in
    let up = sum_up (λ (function : FunctionDef). function.vars) program.functions (suc f) (length program.functions) (omega (arith, p.0)) in
    omega arith
demand_rises program rule (Global x) (Result g j) p q before = absurd before
demand_rises program rule (Global x) (Global y) p q before = omega arith

demand_small : (program : Program) → Rule2 program → (a : Demand) → IsDemand program a → numbered program a < 2 ^ 31
unfolding numbered
demand_small program rule (Result f i) p =
    let here = result_within program f i rule p.0 p.1 in
    let up = sum_up (λ (function : FunctionDef). function.vars) program.functions (suc f) (length program.functions) (omega (arith, p.0)) in
    let all = rule.variables in
    omega arith
demand_small program rule (Global x) p =
    let within = found_within program.globals x _ p in
    let all = rule.variables in
    omega arith

-- ---- weights

-- a site is a position of a command
pub site_within : (weights : Option ℕ) (commands : List Command) (s : ℕ) → IsSome (option_map (λ (mark : Mark). unwrap_or weights (10 ^ mark.depth)) (option_and_then mark_of (slice_get commands s))) → s < length commands
site_within weights [] s h = absurd (false≢true h)
site_within weights (x ∷ xs) zero h = omega arith
site_within weights (x ∷ xs) (suc s) h = let rest = site_within weights xs s h in omega arith

pub additions_fit : (program : Program) → IsWellFormed program → AdditionsFit program.demands program.weights
additions_fit program w =
    let ds = program.demands in
    let ws = program.weights in
    let number : Demand → ℕ = numbered program in
    let position : SiteWeight → ℕ = λ entry. entry.at.0 in
    let demands = rises number ds 0 (λ i j d less within. demand_rises program w.rule2 (slice_index_or ds i d) (slice_index_or ds j d) (w.rule9.demands i d (omega arith)) (w.rule9.demands j d within) (w.rule9.demands_rise i j d less within)) (λ j d less. omega arith) in
    let few = rises_few number ds 0 (2 ^ 31) demands (λ j d less. demand_small program w.rule2 (slice_index_or ds j d) (w.rule9.demands j d less)) (omega arith) in
    let weights = rises position ws 0 w.rule9.weights_rise (λ j d less. omega arith) in
    let many = w.rule2.commands in
    let few_weights = rises_few position ws 0 (length program.commands) weights (λ j d less. site_within (listed ws (slice_index_or ws j d).at.0) program.commands (slice_index_or ws j d).at.0 (w.rule9.weights j d less).site) (omega arith) in
    record { few_demands = omega arith; few_weights = omega arith; rise = weights }

-- ---- commands

mark_fits : (program : Program) (function : ℕ) (command : Command) → Rule6 program function command → MarkFits command
mark_fits program function (Set mark op to a b c) h = h
mark_fits program function (Load mark kind memory to offset address) h = h.0
mark_fits program function (Arg mark callee index value) h = h.0
mark_fits program function (Out mark index value) h = h.0
mark_fits program function _ h = tt

pub commands_fit : (program : Program) → IsProgram program → IsWellFormed program → All CommandFits (drop 7 program.commands)
commands_fit program facts w = λ k d less.
    let xs = program.commands in
    let within : 7 + k < length xs = omega (arith, length-drop 7 xs) in
    let command = slice_index_or xs (7 + k) d in
    let holds = held_by program (7 + k) facts (omega arith) within in
    let fits : CommandFits command = record {
      is_command = facts.commands (7 + k) d within;
      mark = mark_fits program holds.0 command (w.rule6 (7 + k) holds.0 command holds.1 (slice_get-get_or xs (7 + k) d within));
    } in
    subst CommandFits (sym (get_or-drop 7 xs k d)) fits
