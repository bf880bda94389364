-- A program without marks and weights runs as it does with them, and has the same sites.
use Rattle.std.proofs.Common.{◌≡◌, ℕ, zero, suc, Bool, List, [], ◌∷◌, length, map, Option, Some, None, refl, sym, ap, ◌∙◌}
use Rattle.std.specs.Prelude.{is_some, option_map, option_and_then}
use Rattle.std.proofs.Math.Path.{fun_ext}
use Rattle.std.proofs.lemmas.List.{length-map}
use Rattle.std.proofs.lemmas.Option.{slice_get-map}
use Rattle.bl_base.specs.Runs.{Next, Outcome}
use Rattle.bl_base.specs.declared.start.Start.{Start}
use Rattle.bl_program.specs.Layout.{command_at}
use Rattle.bl_program.specs.Outcomes.{opening, plain}
use Rattle.bl_program.specs.Sites.{mark_of}
use Rattle.bl_program.specs.Steps.{Plain}
use Rattle.bl_program.specs.declared.command.Mark.{Mark}
use Rattle.bl_program.specs.declared.command.Command.{Command}
use Rattle.bl_program.specs.declared.command.Command.TheVariants.{Set}
use Rattle.bl_program.specs.declared.definitions.ProgramParts.{ProgramParts as Program}
use Rattle.bl_cut.proofs.Remarked.{remarked, run_back, run_same, steps_same, unchanged}
use Rattle.bl_cut.specs.Marks.{marked, marked_from, protected}
use Rattle.bl_counts.specs.RunCounts.{bare, bare_command, counts_from, counts_of, executed, is_site, no_mark, stepped, times, weighed, with_count}
use Rattle.bl_counts.specs.declared.counts.SiteCount.{SiteCount}

bare_is : (command : Command) → bare_command command ≡ remarked (λ mark. no_mark) command
bare_is (Set mark op to a c d) = refl
bare_is _ = refl

module _ (program : Program) where
  bare_alike : (s : ℕ) → command_at (bare program) s ≡ option_map (remarked (λ mark. no_mark)) (command_at program s)
  bare_alike s = slice_get-map bare_command program.commands s ∙ ap (λ (mark : Command → Command). option_map mark (command_at program s)) (fun_ext bare_is)

  pub runs_marked : (function : ℕ) (start : Start) (steps : ℕ) (outcome : Outcome) → plain (bare program) function start steps outcome → plain program function start steps outcome
  runs_marked = run_same program (map bare_command program.commands) [] (λ s mark. no_mark) bare_alike

  pub runs_bare : (function : ℕ) (start : Start) (steps : ℕ) (outcome : Outcome) → plain program function start steps outcome → plain (bare program) function start steps outcome
  runs_bare = run_back program (map bare_command program.commands) [] (λ s mark. no_mark) bare_alike

  runs_same : (function : ℕ) (start : Start) (steps : ℕ) → executed (bare program) function start steps ≡ executed program function start steps
  runs_same function start steps =
      ap (λ (step : Plain → Next Plain). map (λ (s : Plain). s.position) (stepped step steps (opening program function start))) (steps_same program (map bare_command program.commands) [] (λ s mark. no_mark) bare_alike)

  sites_same : (s : ℕ) → is_site (bare program) s ≡ is_site program s
  sites_same s = ap (λ o. is_some (option_and_then mark_of o)) (slice_get-map bare_command program.commands s) ∙ by (command_at program s)
    where
      by : (o : Option Command) → is_some (option_and_then mark_of (option_map bare_command o)) ≡ is_some (option_and_then mark_of o)
      by None = refl
      by (Some (Set mark op to a c d)) = refl
      by (Some _) = refl

module _ (one other : Program) (same : bare one ≡ bare other) where
  pub executed_same : (function : ℕ) (start : Start) (steps : ℕ) → executed one function start steps ≡ executed other function start steps
  executed_same function start steps =
      sym (runs_same one function start steps) ∙ ap (λ (p : Program). executed p function start steps) same ∙ runs_same other function start steps

  pub is_site_same : (s : ℕ) → is_site one s ≡ is_site other s
  is_site_same s = sym (sites_same one s) ∙ ap (λ (p : Program). is_site p s) same ∙ sites_same other s

-- they have as many commands
pub same_length : (one other : Program) → bare one ≡ bare other → length one.commands ≡ length other.commands
same_length one other same = sym (length-map one.commands bare_command) ∙ (ap (λ (p : Program). length p.commands) same ∙ length-map other.commands bare_command)

-- ---- counts

-- where the same places have marks, the same sites are counted
with_mark : (s n : ℕ) (o p : Option Mark) (rest : List SiteCount) → is_some o ≡ is_some p → with_count s n o rest ≡ with_count s n p rest
with_mark s zero o p rest e = refl
with_mark s (suc n) None None rest e = refl
with_mark s (suc n) None (Some q) rest e = cc
with_mark s (suc n) (Some m) None rest e = cc
with_mark s (suc n) (Some m) (Some q) rest e = refl

same_mark : (command : Command) → is_some (mark_of (bare_command command)) ≡ is_some (mark_of command)
same_mark (Set mark op to a c d) = refl
same_mark _ = refl

without : (count : ℕ → ℕ) (i : ℕ) (commands : List Command) → counts_from count i (map bare_command commands) ≡ counts_from count i commands
without count i [] = refl
without count i (command ∷ commands) =
    ap (with_count i (count i) (mark_of (bare_command command))) (without count (suc i) commands)
    ∙ with_mark i (count i) (mark_of (bare_command command)) (mark_of command) (counts_from count (suc i) commands) (same_mark command)

-- programs that are equal but for marks and weights are counted alike
pub counted_alike : (program other : Program) (function : ℕ) (start : Start) (steps : ℕ) → bare other ≡ bare program → counts_of other function start steps ≡ counts_of program function start steps
counted_alike program other function start steps same =
    ap (λ (positions : List ℕ). counts_from (times positions) 0 other.commands) (executed_same other program same function start steps)
    ∙ (sym (without (times (executed program function start steps)) 0 other.commands)
    ∙ (ap (λ (p : Program). counts_from (times (executed program function start steps)) 0 p.commands) same
    ∙ without (times (executed program function start steps)) 0 program.commands))

-- ---- weights don't show in a run

module _ (program : Program) (counts : List SiteCount) (function : ℕ) (start : Start) (steps : ℕ) (outcome : Outcome) where
  pub runs_unweighed : plain (weighed counts program) function start steps outcome → plain program function start steps outcome
  runs_unweighed = run_same program program.commands (weighed counts program).weights (λ s mark. mark) (λ s. unchanged (command_at program s)) function start steps outcome

  pub runs_weighed : plain program function start steps outcome → plain (weighed counts program) function start steps outcome
  runs_weighed = run_back program program.commands (weighed counts program).weights (λ s mark. mark) (λ s. unchanged (command_at program s)) function start steps outcome

-- ---- protects are marks

module _ (set : ℕ → Bool) where
  bare_marked : (b : Bool) (command : Command) → bare_command (marked b command) ≡ bare_command command
  bare_marked b (Set mark op to a c d) = refl
  bare_marked b _ = refl

  all_bare : (i : ℕ) (commands : List Command) → map bare_command (marked_from set i commands) ≡ map bare_command commands
  all_bare i [] = refl
  all_bare i (command ∷ commands) = λ k. bare_marked (set i) command k ∷ all_bare (suc i) commands k

  pub bare_protected : (program : Program) → bare (protected set program) ≡ bare program
  bare_protected program = ap (λ (commands : List Command). let made : Program = record program { commands = commands; weights = [] } in made) (all_bare 0 program.commands)
