-- Positions, variables and weights of a well-formed program lie in their ranges.
use Rattle.std.proofs.Common.{◌≡◌, ℕ, suc, ◌^◌, ◌<◌, ◌≤◌, true, false, length, Option, Some, None, unwrap_or, min, refl, sym, ap, subst, ◌∙◌, arith, ◌⊎◌, inl, inr}
use Rattle.std.specs.Prelude.{IsSomeAnd, IsSome, option_map, option_and_then}
use Rattle.std.proofs.lemmas.Bool.{cases_lt, false≢true}
use Rattle.std.proofs.lemmas.Option.{none-some, slice_get_within, slice_get_past, same_Some}
use Rattle.bl_base.proofs.Lists.{all_get, within_get}
use Rattle.bl_base.proofs.OptionLemmas.{some_with}
use Rattle.bl_program.specs.Layout.{command_at, param, result, running, params_of, results_of, statics, Holds}
use Rattle.bl_program.specs.Programs.{IsProgram}
use Rattle.bl_program.specs.Rules.{IsWellFormed, IsFunction, IsOwn, IsReadable, IsWritable, Rule4, Rule6, operands_of}
use Rattle.bl_program.specs.Sites.{Among, Loads, mark_of, mark_at, moved_by, sunk_by, written_by, listed, site_weight, IsSite, Writes}
use Rattle.bl_program.specs.declared.command.Mark.{Mark}
use Rattle.bl_program.specs.declared.command.Command.{Command}
use Rattle.bl_program.specs.declared.command.Command.TheVariants.{Set, Load, Arg, Out, Trap}
use Rattle.bl_program.specs.declared.definitions.FunctionDef.{FunctionDef}
use Rattle.bl_program.specs.declared.definitions.ProgramParts.{ProgramParts as Program}
use Rattle.bl_program.proofs.SiteOperands.{moved_in, sunk_in}
use Rattle.bl_program.proofs.Layouts.{number_is, next_first, first_below, held_by, running_is, result_own}
use Rattle.bl_program.proofs.Totals.{site_exact}
use Rattle.bl_graph.specs.Ranges.{commands, variables, AreInRange}

-- ---- sites

-- what writes a variable, or makes its value of operands, is a site's command
abbrev HasMark : Command → Type 0
HasMark command = (mark : Mark) × (mark_of command ≡ Some mark)

writing_marked : (program : Program) (s : ℕ) (command : Command) (x : ℕ) → written_by program s command ≡ Some x → HasMark command
writing_marked program s (Set mark op to a b c) x e = (mark, refl)
writing_marked program s (Load mark kind memory to offset address) x e = (mark, refl)
writing_marked program s (Arg mark function index value) x e = (mark, refl)
writing_marked program s (Out mark index value) x e = (mark, refl)
writing_marked program s _ x e = absurd (none-some x e)

moving_marked : (command : Command) (x : ℕ) → Among (moved_by command) x → HasMark command
moving_marked (Set mark op to a b c) x e = (mark, refl)
moving_marked (Arg mark function index value) x e = (mark, refl)
moving_marked (Out mark index value) x e = (mark, refl)
moving_marked _ x e = absurd e

loading_marked : (command : Command) → Loads command → HasMark command
loading_marked (Load mark kind memory to offset address) e = (mark, refl)
loading_marked _ e = absurd e

marked_site : (program : Program) (s : ℕ) (command : Command) → command_at program s ≡ Some command → HasMark command → IsSome (site_weight program s)
marked_site program s command at marked =
    let e : mark_at program s ≡ Some marked.0 = ap (option_and_then mark_of) at ∙ marked.1 in
    subst (λ o. IsSome (option_map (λ mark. unwrap_or (listed program.weights s) (10 ^ mark.depth)) o)) (sym e) refl

-- where no command stands, no site does
pub site_within : (program : Program) (s : ℕ) → IsSite program s → s < commands program
site_within program s some =
    elim (cases_lt s (commands program)) as (λ _. s < commands program) [
      | inl lt ↦ lt
      | inr past ↦
          let none : mark_at program s ≡ None = ap (option_and_then mark_of) (slice_get_past program.commands s past) in
          absurd (false≢true (subst (λ o. IsSome (option_map (λ mark. unwrap_or (listed program.weights s) (10 ^ mark.depth)) o)) none some))
    ]

-- a site writes one variable
pub site_writes : (program : Program) (s : ℕ) → IsSite program s → (x : ℕ) × Writes program s x
site_writes program s some = by (command_at program s) refl
  where
    which : (command : Command) (mark : Mark) → mark_of command ≡ Some mark → (x : ℕ) × (written_by program s command ≡ Some x)
    which (Set _ op to a b c) mark e = (to.0, refl)
    which (Load _ kind memory to offset address) mark e = (to.0, refl)
    which (Arg _ function index value) mark e = (param program function index, refl)
    which (Out _ index value) mark e = (result program (running program s) index, refl)
    which _ mark e = absurd (none-some mark e)

    some_mark : (o : Option Mark) → IsSome (option_map (λ mark. unwrap_or (listed program.weights s) (10 ^ mark.depth)) o) → (mark : Mark) × (o ≡ Some mark)
    some_mark None h = absurd (false≢true h)
    some_mark (Some mark) h = (mark, refl)

    by : (o : Option Command) → command_at program s ≡ o → (x : ℕ) × Writes program s x
    by None e =
        let none : mark_at program s ≡ None = ap (option_and_then mark_of) e in
        absurd (false≢true (subst (λ m. IsSome (option_map (λ mark. unwrap_or (listed program.weights s) (10 ^ mark.depth)) m)) none some))
    by (Some command) e =
        let mark = some_mark (mark_at program s) some in
        let found = which command mark.0 (sym (ap (option_and_then mark_of) e) ∙ mark.1) in
        (found.0, subst (λ o. IsSomeAnd o (λ command. written_by program s command ≡ Some found.0)) (sym e) found.1)

pub writes_one : (program : Program) (s x y : ℕ) → Writes program s x → Writes program s y → x ≡ y
writes_one program s x y one other = same (command_at program s) one other
  where
    same : (o : Option Command) → IsSomeAnd o (λ command. written_by program s command ≡ Some x) → IsSomeAnd o (λ command. written_by program s command ≡ Some y) → x ≡ y
    same None one other = absurd one
    same (Some command) one other = same_Some x y (sym one ∙ other)

-- ---- variables

module _ (program : Program) (facts : IsProgram program) (rules : IsWellFormed program) where
  own_small : (function x : ℕ) → function < length program.functions → IsOwn program function x → x < variables program
  own_small function x exists own = let high = own.1 in let up = first_below program (suc function) (omega arith) in omega arith

  any_own : (function x : ℕ) → IsOwn program function x → x < variables program
  any_own function x own = own_small function x (Rattle.bl_program.proofs.Layouts.own_exists program function x own) own

  readable_small : (function x : ℕ) → IsReadable program function x → x < variables program
  readable_small function x (inl low) = let up : statics program ≤ variables program = omega arith in omega arith
  readable_small function x (inr (inl own)) = any_own function x own
  readable_small function x (inr (inr other)) = any_own other.0 x (result_own program other.0 x rules.rule2 other.1)

  writable_small : (function x : ℕ) → IsWritable program function x → x < variables program
  writable_small function x (inl low) = let up : statics program ≤ variables program = omega arith in omega arith
  writable_small function x (inr local) = any_own function x local.0

  pub param_small : (callee index : ℕ) → callee < length program.functions → index < params_of program callee → param program callee index < variables program
  param_small callee index exists low =
      let got = within_get program.functions callee exists in
      let params : params_of program callee ≡ length got.0.params = number_is (λ (f : FunctionDef). length f.params) program.functions callee got.0 got.1 in
      let next = next_first program callee got.0 got.1 in
      let room = (all_get IsFunction program.functions callee got.0 rules.rule2.each got.1).variables in
      let up = first_below program (suc callee) (omega arith) in
      omega arith

  pub result_small : (function index : ℕ) → index < results_of program function → result program function index < variables program
  result_small function index low = any_own function (result program function index) (result_own program function (result program function index) rules.rule2 (omega arith, omega arith))

  written_small : (s function x : ℕ) (command : Command) → Holds program function s → Rule4 program function command → Rule6 program function command → written_by program s command ≡ Some x → x < variables program
  written_small s function x (Set mark op to a b c) holds reads ranges e = subst (λ y. y < variables program) (same_Some to.0 x e) (writable_small function to.0 reads.writes)
  written_small s function x (Load mark kind memory to offset address) holds reads ranges e = subst (λ y. y < variables program) (same_Some to.0 x e) (writable_small function to.0 reads.writes)
  written_small s function x (Arg mark callee index value) holds reads ranges e =
      subst (λ y. y < variables program) (same_Some (param program callee index) x e) (param_small callee index ranges.1 ranges.2)
  written_small s function x (Out mark index value) holds reads ranges e =
      subst (λ y. y < variables program) (ap (λ f. result program f index) (sym (running_is program function s holds)) ∙ same_Some (result program (running program s) index) x e) (result_small function index ranges.1)
  written_small s function x _ holds reads ranges e = absurd (none-some x e)

  -- the first seven commands are traps
  trap_low : (s : ℕ) (command : Command) → s < 7 → command_at program s ≡ Some command → (kind : Rattle.bl_base.specs.declared.trap.Trap.Trap) × (command ≡ Trap kind)
  trap_low s command low at = let trap = facts.traps s low in (trap.0, same_Some command (Trap trap.0) (sym at ∙ trap.2))

  pub held : (s : ℕ) (command : Command) → command_at program s ≡ Some command → HasMark command ⊎ ((x : ℕ) × Among (operands_of command) x) → (function : ℕ) × Holds program function s
  held s command at some =
      elim (cases_lt s 7) as (λ _. (function : ℕ) × Holds program function s) [
        | inl low ↦ let trap = trap_low s command low at in absurd (nothing trap.0 (subst (λ c. HasMark c ⊎ ((x : ℕ) × Among (operands_of c) x)) trap.1 some))
        | inr high ↦ held_by program s facts high (slice_get_within program.commands s command at)
      ]
    where
      nothing : (kind : Rattle.bl_base.specs.declared.trap.Trap.Trap) → HasMark (Trap kind) ⊎ ((x : ℕ) × Among (operands_of (Trap kind)) x) → ⊥
      nothing kind (inl marked) = none-some marked.0 marked.1
      nothing kind (inr among) = among.1

  pub operand_small : (s : ℕ) (command : Command) (x : ℕ) → command_at program s ≡ Some command → Among (operands_of command) x → x < variables program
  operand_small s command x at among =
      let function = held s command at (inr (x, among)) in
      readable_small function.0 x ((rules.rule4 s function.0 command function.1 at).reads x among)

  pub in_range : AreInRange program
  in_range = record {
    loads = λ s load. let found = some_with (command_at program s) Loads load in marked_site program s found.0 found.1 (loading_marked found.0 found.2);
    writes = λ s x writes.
        let found = some_with (command_at program s) (λ command. written_by program s command ≡ Some x) writes in
        let marked = writing_marked program s found.0 x found.2 in
        let function = held s found.0 found.1 (inl marked) in
        (marked_site program s found.0 found.1 marked, written_small s function.0 x found.0 function.1 (rules.rule4 s function.0 found.0 function.1 found.1) (rules.rule6 s function.0 found.0 function.1 found.1) found.2);
    reads = λ s x reads.
        let found = some_with (command_at program s) (λ command. Among (moved_by command) x) reads in
        (marked_site program s found.0 found.1 (moving_marked found.0 x found.2), operand_small s found.0 x found.1 (moved_in found.0 x found.2));
    sinks = λ position x sink.
        let found = some_with (command_at program position) (λ command. Among (sunk_by command) x) sink in
        (slice_get_within program.commands position found.0 found.1, operand_small position found.0 x found.1 (sunk_in found.0 x found.2));
    sites = site_within program;
    weights = λ s w e.
        let exact = site_exact program program s (min (unwrap_or (site_weight program s) 0) (2 ^ 63)) refl rules (subst (λ o. IsSome o) (sym e) refl) refl in
        let same = same_Some w (min (unwrap_or (site_weight program s) 0) (2 ^ 63)) (sym e ∙ exact.0) in
        let least = exact.1 in
        omega arith;
    total = rules.rule9.total;
    numbers = let few = rules.rule2.commands in let small = rules.rule2.variables in omega arith;
  }
