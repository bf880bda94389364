-- A function with what is known of it.
use Rattle.std.specs.Prelude.{◌≡◌, ◌<◌, length}
use Rattle.bl_program.specs.Layout.{first_of, result, AreValues}
use Rattle.bl_program.specs.Programs.{IsProgram}
use Rattle.bl_program.specs.Rules.{IsWellFormed}
use Rattle.bl_graph.specs.declared.writes.Running.{Running}

-- what is known of a function is what its program says
pub record IsRunning (running : Running) : Type 0 where
  pub facts : IsProgram running.parts.now
  pub rules : IsWellFormed running.parts.now
  pub exists : running.number < length running.parts.now.functions
  pub firsts : AreValues (first_of running.parts.now) (length running.parts.now.functions) running.firsts.now
  pub results_from : running.results ≡ result running.parts.now running.number 0
