-- Returning from a function (WebAssembly 1.0, sections 4.4.5 and 4.4.7).
use Rattle.std.specs.Prelude.{ℕ, List, [], ◌∷◌, ◌++◌, take, reverse}
use Rattle.bl_base.specs.Runs.{Next, ends, returned}
use Rattle.bl_reduce.specs.Configurations.{Store, Frame, State, Config, go}

-- these values, topmost first, are put on the caller's stack, which goes on behind its call; the outermost function's are the
-- run's, in order
abbrev pub return_to : List Frame → List ℕ → Store → Next Config
return_to [] results store = ends (returned (reverse results) store.memories)
return_to (caller ∷ callers) results store = go (record {
  store = store;
  frame = record caller { values = results ++ caller.values };
  callers = callers;
})

-- the frame is left with as many values as it returns
abbrev pub return : State → Next Config
return state = return_to state.callers (take state.frame.arity state.frame.values) state.store
