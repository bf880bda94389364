-- A program with other marks and weights: it runs as it did, and keeps the rules that aren't of weights.
use Rattle.std.proofs.Common.{◌≡◌, ℕ, suc, ◌<◌, ◌⊎◌, inl, inr, List, [], ◌∷◌, length, Option, Some, None, slice_get, refl, sym, ap, subst, ◌∙◌, arith}
use Rattle.std.specs.Prelude.{IfSome, option_map}
use Rattle.std.proofs.Math.Path.{fun_ext}
use Rattle.std.proofs.lemmas.Option.{none-some, same_Some}
use Rattle.bl_base.specs.Runs.{EndsAfter, Outcome}
use Rattle.bl_base.specs.declared.start.Start.{Start}
use Rattle.bl_program.specs.Layout.{command_at, Holds}
use Rattle.bl_program.specs.Outcomes.{opening, plain}
use Rattle.bl_program.specs.Rules.{GoesTo, Leaves, IsMark, Rule4, Rule5, Rule6, Rule7, Rule8, Rule9, IsPassed, IsGuarded, Reach, reach_of, IsTested, IsGrowth, IsWellFormed}
use Rattle.bl_program.specs.Steps.{Plain, perform, plain_step, ret}
use Rattle.bl_program.specs.declared.command.Mark.{Mark}
use Rattle.bl_program.specs.declared.command.Operand.{Operand}
use Rattle.bl_program.specs.declared.command.Command.{Command}
use Rattle.bl_program.specs.declared.command.Command.TheVariants.{Set, Load, Arg, Out, Ret}
use Rattle.bl_program.specs.declared.definitions.ProgramParts.{ProgramParts as Program}
use Rattle.bl_program.specs.declared.definitions.SiteWeight.{SiteWeight}

-- ---- one command

-- a command with another mark, where it is one of a site
abbrev pub remarked : (Mark → Mark) → Command → Command
remarked change (Set mark op to a b c) = Set (change mark) op to a b c
remarked change (Load mark kind memory to offset address) = Load (change mark) kind memory to offset address
remarked change (Arg mark function index value) = Arg (change mark) function index value
remarked change (Out mark index value) = Out (change mark) index value
remarked change command = command

-- with the marks that it had
pub unchanged : (o : Option Command) → o ≡ option_map (remarked (λ mark. mark)) o
unchanged None = refl
unchanged (Some (Set mark op to a b c)) = refl
unchanged (Some _) = refl

goes_same : (change : Mark → Mark) (command : Command) (target : ℕ) → GoesTo (remarked change command) target → GoesTo command target
goes_same change (Set mark op to a b c) target h = h
goes_same change _ target h = h

leaves_same : (change : Mark → Mark) (command : Command) → Leaves command → Leaves (remarked change command)
leaves_same change (Set mark op to a b c) h = h
leaves_same change _ h = h

reach_same : (change : Mark → Mark) (command : Command) → reach_of (remarked change command) ≡ reach_of command
reach_same change (Set mark op to a b c) = refl
reach_same change _ = refl

if_each : {X : Type 0} (P Q : X → Type 0) (o : Option X) → ((x : X) → P x → Q x) → IfSome o P → IfSome o Q
if_each P Q None each h = h
if_each P Q (Some x) each h = each x h

-- ---- a program with commands that are alike but for marks

module _ (program : Program) (commands : List Command) (weights : List SiteWeight) (change : ℕ → Mark → Mark) (alike : (s : ℕ) → slice_get commands s ≡ option_map (remarked (change s)) (command_at program s)) where
  abbrev pub after : Program
  after = record program { commands = commands; weights = weights }

  -- ---- runs

  performs : (one : Mark → Mark) (command : Command) (s : Plain) → perform after (Some (remarked one command)) s ≡ perform program (Some command) s
  performs one Ret s = returns s.chain
    where
      returns : (chain : List ℕ) → ret after chain s ≡ ret program chain s
      returns [] = refl
      returns (back ∷ chain) = refl
  performs one _ s = refl

  pub steps_same : plain_step after ≡ plain_step program
  steps_same = fun_ext (λ s. ap (λ o. perform after o s) (alike s.position) ∙ by (change s.position) (command_at program s.position) s)
    where
      by : (one : Mark → Mark) (o : Option Command) (s : Plain) → perform after (option_map (remarked one) o) s ≡ perform program o s
      by one None s = refl
      by one (Some command) s = performs one command s

  module _ (function : ℕ) (start : Start) (steps : ℕ) (outcome : Outcome) where
    pub run_same : plain after function start steps outcome → plain program function start steps outcome
    run_same h =
        let fits = h.start_fits in
        record { start_fits = record { defined = fits.defined; exists = fits.exists; fits = fits.fits }; run = subst (λ step. EndsAfter step steps (opening program function start) outcome) steps_same h.run }

    pub run_back : plain program function start steps outcome → plain after function start steps outcome
    run_back h =
        let fits = h.start_fits in
        record { start_fits = record { defined = fits.defined; exists = fits.exists; fits = fits.fits }; run = subst (λ step. EndsAfter step steps (opening program function start) outcome) (sym steps_same) h.run }

  -- ---- what stands at a position

  pub still : (s : ℕ) (command : Command) → command_at program s ≡ Some command → command_at after s ≡ Some (remarked (change s) command)
  still s command e = alike s ∙ ap (option_map (remarked (change s))) e

  -- stood there with another mark
  unmarked : (s : ℕ) (command : Command) → command_at after s ≡ Some command → (old : Command) × (command_at program s ≡ Some old) × (command ≡ remarked (change s) old)
  unmarked s command e = by (command_at program s) refl
    where
      by : (o : Option Command) → command_at program s ≡ o → (old : Command) × (command_at program s ≡ Some old) × (command ≡ remarked (change s) old)
      by None f = absurd (none-some command (sym (alike s ∙ ap (option_map (remarked (change s))) f) ∙ e))
      by (Some old) f = (old, f, same_Some command (remarked (change s) old) (sym e ∙ still s old f))

  holds_back : (function position : ℕ) → Holds after function position → Holds program function position
  holds_back function position h = record { exists = h.exists; from = h.from; below = h.below }

  holds_on : (function position : ℕ) → Holds program function position → Holds after function position
  holds_on function position h = record { exists = h.exists; from = h.from; below = h.below }

  -- what goes somewhere went there
  went : (Q : ℕ → Type 0) (position : ℕ) → ((from : ℕ) (command : Command) → command_at program from ≡ Some command → GoesTo command position → Q from)
      → (from : ℕ) (command : Command) → command_at after from ≡ Some command → GoesTo command position → Q from
  went Q position others from command e goes =
      let old = unmarked from command e in
      others from old.0 old.1 (goes_same (change from) old.0 position (subst (λ c. GoesTo c position) old.2 goes))

  passed_on : (position : ℕ) → IsPassed program position → IsPassed after position
  passed_on position h = record { entries = h.entries; others = went (λ from. ⊥) position h.others }

  guarded_on : (before position : ℕ) → IsGuarded program before position → IsGuarded after before position
  guarded_on before position h = record { entries = h.entries; others = went (λ from. from ≡ before) position h.others }

  -- ---- the rules on commands

  rule4_on : (function position : ℕ) (command : Command) → Rule4 program function command → Rule4 after function (remarked (change position) command)
  rule4_on function position (Set mark op to a b c) r = record { reads = r.reads; writes = r.writes }
  rule4_on function position _ r = record { reads = r.reads; writes = r.writes }

  target_on : (function target : ℕ) → (target < 7) ⊎ Holds program function target → (target < 7) ⊎ Holds after function target
  target_on function target (inl low) = inl low
  target_on function target (inr holds) = inr (holds_on function target holds)

  rule5_on : (function position : ℕ) (command : Command) → Rule5 program function position command → Rule5 after function position (remarked (change position) command)
  rule5_on function position command r = record {
    targets = λ target goes. target_on function target (r.targets target (goes_same (change position) command target goes));
    last = λ e. leaves_same (change position) command (r.last e);
  }

  tested_on : (function position : ℕ) (access : Reach) → IsTested program function position access → IsTested after function position access
  tested_on function position access h = record {
    first = h.first;
    mark = change h.first h.mark;
    t = h.t;
    yes = h.yes;
    place = h.place;
    within = holds_on function h.first h.within;
    set = still h.first _ h.set;
    test = still (suc h.first) _ h.test;
    own = h.own;
    apart = h.apart;
    away = h.away;
    test_passed = passed_on (suc h.first) h.test_passed;
    guarded = guarded_on (suc h.first) position h.guarded;
  }

  rule7_on : (function position : ℕ) (command : Command) → Rule7 program function position command → Rule7 after function position (remarked (change position) command)
  rule7_on function position command r =
      subst (λ o. IfSome o (IsTested after function position)) (sym (reach_same (change position) command))
      (if_each (IsTested program function position) (IsTested after function position) (reach_of command) (tested_on function position) r)

  growth_on : (function position memory : ℕ) (delta : Operand) → IsGrowth program function position memory delta → IsGrowth after function position memory delta
  growth_on function position memory delta h = record {
    first = h.first;
    mark_r = change h.first h.mark_r;
    mark_t = change (suc h.first) h.mark_t;
    mark_v = change (suc (suc (suc h.first))) h.mark_v;
    r = h.r;
    t = h.t;
    v = h.v;
    yes = h.yes;
    reserve = h.reserve;
    place = h.place;
    reserved = h.reserved;
    room = still h.first _ h.room;
    exceeds = still (suc h.first) _ h.exceeds;
    test = still (suc (suc h.first)) _ h.test;
    old = still (suc (suc (suc h.first))) _ h.old;
    own_r = h.own_r;
    own_t = h.own_t;
    own_v = h.own_v;
    apart_r = h.apart_r;
    apart_t = h.apart_t;
    apart_v = h.apart_v;
    away = h.away;
    passed_t = passed_on (suc h.first) h.passed_t;
    passed_test = passed_on (suc (suc h.first)) h.passed_test;
    guarded = guarded_on (suc (suc h.first)) (suc (suc (suc h.first))) h.guarded;
    passed_size = passed_on position h.passed_size;
  }

  rule8_on : (function position : ℕ) (command : Command) → Rule8 program function position command → Rule8 after function position (remarked (change position) command)
  rule8_on function position (Set mark op to a b c) r = λ memory lt e.
      let h = r memory lt e in
      (record { sum = h.0.sum; from_size = h.0.from_size; no_third = h.0.no_third }, growth_on function position memory b h.1)
  rule8_on function position _ r = r

  -- what holds of each command by its function and its position
  at_each : (P Q : ℕ → ℕ → Command → Type 0) → ((function position : ℕ) (command : Command) → P function position command → Q function position (remarked (change position) command))
      → ((position function : ℕ) (command : Command) → Holds program function position → command_at program position ≡ Some command → P function position command)
      → (position function : ℕ) (command : Command) → Holds after function position → command_at after position ≡ Some command → Q function position command
  at_each P Q each all position function command holds e =
      let old = unmarked position command e in
      subst (Q function position) (sym old.2) (each function position old.0 (all position function old.0 (holds_back function position holds) old.1))

  -- ---- the whole, where marks keep their range

  module _ (marks : (s : ℕ) (mark : Mark) → IsMark mark → IsMark (change s mark)) where
    rule6_on : (function position : ℕ) (command : Command) → Rule6 program function command → Rule6 after function (remarked (change position) command)
    rule6_on function position (Set mark op to a b c) r = marks position mark r
    rule6_on function position (Load mark kind memory to offset address) r = (marks position mark r.0, r.1)
    rule6_on function position (Arg mark callee index value) r = (marks position mark r.0, r.1, r.2)
    rule6_on function position (Out mark index value) r = (marks position mark r.0, r.1)
    rule6_on function position _ r = r

    pub keeps_rules : length commands ≡ length program.commands → IsWellFormed program → Rule9 after → IsWellFormed after
    keeps_rules same rules rule9 = record {
      rule1 = record { memories = rules.rule1.memories; total = rules.rule1.total };
      rule2 = record {
        functions = rules.rule2.functions;
        each = rules.rule2.each;
        variables = rules.rule2.variables;
        commands = let few = rules.rule2.commands in omega arith;
        globals = rules.rule2.globals;
      };
      rule3 = record { distinct = rules.rule3.distinct; exist = rules.rule3.exist };
      rule4 = at_each (λ function position. Rule4 program function) (λ function position. Rule4 after function) rule4_on rules.rule4;
      rule5 = at_each (Rule5 program) (Rule5 after) rule5_on rules.rule5;
      rule6 = at_each (λ function position. Rule6 program function) (λ function position. Rule6 after function) rule6_on rules.rule6;
      rule7 = at_each (Rule7 program) (Rule7 after) rule7_on rules.rule7;
      rule8 = at_each (Rule8 program) (Rule8 after) rule8_on rules.rule8;
      rule9 = rule9;
    }
