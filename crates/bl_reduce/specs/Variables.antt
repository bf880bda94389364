-- Variable instructions (WebAssembly 1.0, section 4.4.3).
use Rattle.std.specs.Prelude.{ℕ, set, slice_get}
use Rattle.bl_base.specs.Runs.{Next}
use Rattle.bl_reduce.specs.Configurations.{State, Config, go, known, pop, push}

-- local.get
abbrev pub local_get : ℕ → State → Next Config
local_get x state = known (slice_get state.frame.locals x) (λ value. push value state)

-- a local that exists takes a value
abbrev pub set_local : ℕ → ℕ → State → Next Config
set_local x value state =
    known (slice_get state.frame.locals x)
    (λ old. go (record state { frame = record state.frame { locals = set state.frame.locals x value } }))

-- local.set
abbrev pub local_set : ℕ → State → Next Config
local_set x state = pop state (λ value state. set_local x value state)

-- local.tee: the value stays
abbrev pub local_tee : ℕ → State → Next Config
local_tee x state = pop state (λ value below. set_local x value state)

-- global.get
abbrev pub global_get : ℕ → State → Next Config
global_get x state = known (slice_get state.store.globals x) (λ value. push value state)

-- a global that exists takes a value
abbrev pub set_global : ℕ → ℕ → State → Next Config
set_global x value state =
    known (slice_get state.store.globals x)
    (λ old. go (record state { store = record state.store { globals = set state.store.globals x value } }))

-- global.set
abbrev pub global_set : ℕ → State → Next Config
global_set x state = pop state (λ value state. set_global x value state)
